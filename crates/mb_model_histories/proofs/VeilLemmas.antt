-- Secrets whose values are hidden change no answer but that of a `get` of one.
use Rattle.std.proofs.Common.{◌≡◌, ℕ, List, [], ◌∷◌, ◌++◌, inr, Option, None, Some, Bool, true, false, refl, sym, ap, subst, ◌∙◌, arith}
use Rattle.std.specs.Prelude.{not, nat_lt, ◌||◌, find, map, cond, All, option_map, if◌then◌else◌}
use Rattle.std.specs.List.{list_any}
use Rattle.std.proofs.lemmas.List.{length-map, map-append}
use Rattle.std.proofs.lemmas.List.Elements.{All-head, All-tail, All-map, All-weaker}
use Rattle.std.proofs.lemmas.Simd.{map-map}
use Rattle.mb_format.proofs.Fields.{same_bytes-true}
use Rattle.mb_model.specs.declared.event.Answered.{Answered}
use Rattle.mb_model.specs.declared.event.Event.{Event}
use Rattle.mb_model.specs.declared.event.Event.TheVariants as event
use Rattle.mb_model.specs.declared.layer.Pair.{Pair}
use Rattle.mb_model.specs.declared.layer.Layers.{Layers}
use Rattle.mb_model.specs.declared.order.Act.{Act}
use Rattle.mb_model.specs.declared.order.Act.TheVariants as act
use Rattle.mb_model.specs.declared.order.ChangeKind.{ChangeKind}
use Rattle.mb_model.specs.declared.order.ChangeKind.TheVariants.{Establish, Surrender, Load, Emergency}
use Rattle.mb_model.specs.declared.order.KeyKind.{KeyKind}
use Rattle.mb_model.specs.declared.order.Order.{Order}
use Rattle.mb_model.specs.declared.region.Region.{Region}
use Rattle.mb_model.specs.declared.region.RegionKey.{RegionKey}
use Rattle.mb_model.specs.declared.region.Secret.{Secret}
use Rattle.mb_model.specs.declared.reply.Refusal.{Refusal}
use Rattle.mb_model.specs.declared.reply.Refusal.TheVariants.{WrongLayer, WrongCode, Zeroised, PoweredOff}
use Rattle.mb_model.specs.declared.reply.Reply.{Reply}
use Rattle.mb_model.specs.declared.reply.Reply.TheVariants as reply
use Rattle.mb_model.specs.declared.state.State.{State}
use Rattle.mb_model.specs.owners.Layers.{is_runnable}
use Rattle.mb_model.specs.machine.LayerEvents.{Outcome, code_in, takes_calls, has_name, with_secret, value_reply, get_event}
use Rattle.mb_model.specs.machine.Machine.{Phase, off, dead, ratchet, World, Told, Machine, Step, Run}
use Rattle.mb_model.specs.machine.OrderChecks.{view_of, needs_succession}
use Rattle.mb_model.specs.machine.OrderEffects.{cosigners_of, state_after_succession, state_after_change, state_after_new_key, state_after_act, state_after_order, ready_for, key_made}
use Rattle.mb_model.specs.machine.OrderStep.{OrderStep, spells_none, fails_check, is_obeyed}
use Rattle.mb_model.specs.machine.Refusals.{refusal_reply}
use Rattle.mb_model.specs.owners.Regions.{empty_region, region_of, with_region, region_after, without_configuration_keys, with_key}
use Rattle.mb_model.specs.owners.Rules.{admits}
use Rattle.mb_model_lemmas.specs.RefusalLaws.{BringsBytes}
use Rattle.mb_model_lemmas.proofs.ValidRegions.{filter-map}
use Rattle.mb_model_lemmas.proofs.ListLemmas.{found_is}
use Rattle.mb_model_histories.specs.SightLaws.{HiddenSecrets, veiled_value, veiled_secret, veiled_region, veiled_state, veiled_world, veiled_event, veiled_answered, AsksNoHidden, ReadsNoHidden, HiddenValuesAreNotSeen, HiddenValuesAreNotSeenInRuns, HiddenValuesChangeNoAnswer, AskedValuesAreSeen}
use Rattle.mb_model_histories.specs.PowerLaws.{HasOwnAnswer}
use Rattle.mb_model_histories.proofs.ChangeLemmas.{Agrees, with_value, step_seen, region_changed, put_changed}
use Rattle.mb_model_histories.proofs.SightLemmas.{IsGentle, Untouched, call_seen, put_seen, get_seen, drop_seen, sign_seen}
use Rattle.mb_model_histories.proofs.PowerLemmas.{runs_are_determined}

-- ---- lists of secrets

module _ (hidden : List ℕ → Bool) where
  veil : Secret → Secret
  veil secret = veiled_secret hidden secret

  any_veiled : (name : List ℕ) (secrets : List Secret) → list_any (has_name name) (map (veiled_secret hidden) secrets) ≡ list_any (has_name name) secrets
  any_veiled name [] = refl
  any_veiled name (secret ∷ secrets) = ap (λ (b : Bool). has_name name secret || b) (any_veiled name secrets)

  either_veiled : (b : Bool) (new old : Secret) → (if b then veiled_secret hidden new else veiled_secret hidden old) ≡ veiled_secret hidden (if b then new else old)
  either_veiled true new old = refl
  either_veiled false new old = refl

  replaced_veiled : (name : List ℕ) (new : Secret) (secrets : List Secret)
      → map (λ old. if has_name name old then veiled_secret hidden new else old) (map (veiled_secret hidden) secrets)
      ≡ map (veiled_secret hidden) (map (λ old. if has_name name old then new else old) secrets)
  replaced_veiled name new [] = refl
  replaced_veiled name new (secret ∷ secrets) =
      ap (λ (s : Secret). s ∷ map (λ old. if has_name name old then veiled_secret hidden new else old) (map (veiled_secret hidden) secrets)) (either_veiled (has_name name secret) new secret)
      ∙ ap (λ (list : List Secret). veiled_secret hidden (if has_name name secret then new else secret) ∷ list) (replaced_veiled name new secrets)

  lists_if : (b : Bool) (first second third fourth : List Secret) → first ≡ map (veiled_secret hidden) third → second ≡ map (veiled_secret hidden) fourth
      → (if b then first else second) ≡ map (veiled_secret hidden) (if b then third else fourth)
  lists_if true first second third fourth one two = one
  lists_if false first second third fourth one two = two

  with_veiled : (new : Secret) (secrets : List Secret) → with_secret (veiled_secret hidden new) (map (veiled_secret hidden) secrets) ≡ map (veiled_secret hidden) (with_secret new secrets)
  unfolding with_secret
  with_veiled new secrets =
      let replaced : List Secret = map (λ old. if has_name new.name old then veiled_secret hidden new else old) (map (veiled_secret hidden) secrets) in
      let longer : List Secret = map (veiled_secret hidden) secrets ++ veiled_secret hidden new ∷ [] in
      ap (λ (b : Bool). if b then replaced else longer) (any_veiled new.name secrets)
      ∙ lists_if (list_any (has_name new.name) secrets) replaced longer (map (λ old. if has_name new.name old then new else old) secrets) (secrets ++ new ∷ [])
      (replaced_veiled new.name new secrets) (sym (map-append (veiled_secret hidden) secrets (new ∷ [])))

  -- the values that are put
  abbrev value_of : List ℕ → List ℕ → List ℕ
  value_of name given = veiled_value (hidden name) given

  veiled_gently : IsGentle (veiled_region hidden) value_of
  veiled_gently = record {
    any = λ region name. any_veiled name region.secrets;
    count = λ region. length-map region.secrets (veiled_secret hidden);
    puts = λ region name given born. ap (λ (list : List Secret). record region { secrets = list }) (with_veiled (record { name = name; value = given; born = born }) region.secrets);
    drops = λ region name. ap (λ (list : List Secret). record region { secrets = list }) (filter-map (λ secret. not (has_name name secret)) (veiled_secret hidden) region.secrets);
    keys = λ region. refl;
    uses = λ region keys. refl;
  }

  found_option : (b : Bool) (secret : Secret) (rest : Option Secret) → cond b (Some (veiled_secret hidden secret)) (option_map (veiled_secret hidden) rest) ≡ option_map (veiled_secret hidden) (cond b (Some secret) rest)
  found_option true secret rest = refl
  found_option false secret rest = refl

  found_veiled : (name : List ℕ) (secrets : List Secret) → find (has_name name) (map (veiled_secret hidden) secrets) ≡ option_map (veiled_secret hidden) (find (has_name name) secrets)
  found_veiled name [] = refl
  found_veiled name (secret ∷ secrets) =
      ap (λ (rest : Option Secret). cond (has_name name secret) (Some (veiled_secret hidden secret)) rest) (found_veiled name secrets)
      ∙ found_option (has_name name secret) secret (find (has_name name) secrets)

  -- what is found has the name
  found_name : (name : List ℕ) (secrets : List Secret) (secret : Secret) → find (has_name name) secrets ≡ Some secret → secret.name ≡ name
  found_name name secrets secret e = same_bytes-true secret.name name (found_is (has_name name) secrets secret e).1

  value_unhidden : (name : List ℕ) (found : Option Secret) → hidden name ≡ false → ((secret : Secret) → found ≡ Some secret → secret.name ≡ name)
      → value_reply (option_map (veiled_secret hidden) found) ≡ value_reply found
  value_unhidden name None is named = refl
  value_unhidden name (Some secret) is named =
      ap (λ (n : List ℕ). reply.Value (veiled_value (hidden n) secret.value)) (named secret refl) ∙ ap (λ (b : Bool). reply.Value (veiled_value b secret.value)) is

  value_hidden : (name value : List ℕ) (found : Option Secret) → hidden name ≡ true → ((secret : Secret) → found ≡ Some secret → secret.name ≡ name)
      → reply.Value value ≡ value_reply found → value_reply (option_map (veiled_secret hidden) found) ≡ reply.Value []
  value_hidden name value None is named e = absurd (grind (arith, e))
  value_hidden name value (Some secret) is named e =
      ap (λ (n : List ℕ). reply.Value (veiled_value (hidden n) secret.value)) (named secret refl) ∙ ap (λ (b : Bool). reply.Value (veiled_value b secret.value)) is

-- ---- orders

module _ (hidden : HiddenSecrets) where
  abbrev veils : ℕ → Region → Region
  veils n region = veiled_region (hidden n) region

  blank : (n : ℕ) → veiled_region (hidden n) empty_region ≡ empty_region
  blank n = refl

  after_veiled : (beneath admitted : Bool) (r : Region) (n : ℕ)
      → (if beneath then veiled_region (hidden n) r else if admitted then without_configuration_keys (veiled_region (hidden n) r) else empty_region)
      ≡ veiled_region (hidden n) (if beneath then r else if admitted then without_configuration_keys r else empty_region)
  after_veiled true admitted r n = refl
  after_veiled false true r n = refl
  after_veiled false false r n = refl

  region_after_veiled : (layers : Layers) (kind : ChangeKind) (layer : ℕ) (cosigned : Pair) (n : ℕ) (region : Region)
      → region_after layers kind layer cosigned n (veiled_region (hidden n) region) ≡ veiled_region (hidden n) (region_after layers kind layer cosigned n region)
  region_after_veiled layers kind layer cosigned n region = after_veiled (nat_lt n layer) (admits layers kind layer cosigned n) region n

  change_veiled : (state : State) (kind : ChangeKind) (order : Order) (draw : List ℕ)
      → state_after_change (veiled_state hidden state) kind order draw ≡ veiled_state hidden (state_after_change state kind order draw)
  unfolding state_after_change
  change_veiled state kind order draw =
      let after : State = state_after_change state kind order draw in
      let three : Region = region_after state.layers kind order.layer (cosigners_of order) 3 (veiled_region (hidden 3) state.three) in
      ap (λ (r : Region). record after { two = r; three = three }) (region_after_veiled state.layers kind order.layer (cosigners_of order) 2 state.two)
      ∙ ap (λ (r : Region). record after { two = veiled_region (hidden 2) after.two; three = r }) (region_after_veiled state.layers kind order.layer (cosigners_of order) 3 state.three)

  new_key_veiled : (state : State) (layer : ℕ) (kind : KeyKind) (draw : List ℕ)
      → state_after_new_key (veiled_state hidden state) layer kind draw ≡ veiled_state hidden (state_after_new_key state layer kind draw)
  unfolding state_after_new_key
  new_key_veiled state layer kind draw =
      let key : RegionKey = key_made (view_of state) kind draw in
      let logged : State = record (state_after_new_key state layer kind draw) { two = state.two; three = state.three } in
      ap (λ (r : Region). with_region (veiled_state hidden logged) layer (with_key key r)) (region_changed veils blank layer state)
      ∙ put_changed veils layer (with_key key (region_of state layer)) logged

  act_veiled : (state : State) (order : Order) (a : Act) (draw : List ℕ)
      → state_after_act (veiled_state hidden state) order a draw ≡ veiled_state hidden (state_after_act state order a draw)
  act_veiled state order (act.Establish owner trust) draw = change_veiled state Establish order draw
  act_veiled state order act.Surrender draw = change_veiled state Surrender order draw
  act_veiled state order (act.Load payload) draw = change_veiled state Load order draw
  act_veiled state order (act.Emergency payload) draw = change_veiled state Emergency order draw
  act_veiled state order (act.NewKey kind) draw = new_key_veiled state order.layer kind draw

  ready_veiled : (b : Bool) (state : State) (draw : List ℕ)
      → (if b then state_after_succession (veiled_state hidden state) draw else veiled_state hidden state) ≡ veiled_state hidden (if b then state_after_succession state draw else state)
  unfolding state_after_succession
  ready_veiled true state draw = refl
  ready_veiled false state draw = refl

  order_veiled : (state : State) (order : Order) (draw : List ℕ) → state_after_order (veiled_state hidden state) order draw ≡ veiled_state hidden (state_after_order state order draw)
  unfolding state_after_order
  order_veiled state order draw =
      ap (λ (s : State). state_after_act s order order.act draw) (ready_veiled (needs_succession (view_of state) order) state draw)
      ∙ act_veiled (ready_for state order draw) order order.act draw

  order_step_veiled : (text draw : List ℕ) (state next : State) (answer : Reply) → OrderStep state text draw answer next
      → OrderStep (veiled_state hidden state) text draw answer (veiled_state hidden next)
  order_step_veiled text draw state next answer (spells_none p) = spells_none (record { none = p.none; answered = p.answered; stays = ap (veiled_state hidden) p.stays })
  order_step_veiled text draw state next answer (fails_check p) = fails_check (record {
    order = p.order;
    spelled = p.spelled;
    refusal = p.refusal;
    fails = p.fails;
    answered = p.answered;
    stays = ap (veiled_state hidden) p.stays;
  })
  order_step_veiled text draw state next answer (is_obeyed p) = is_obeyed (record {
    order = p.order;
    spelled = p.spelled;
    passes = p.passes;
    follows = ap (veiled_state hidden) p.follows ∙ sym (order_veiled state p.order draw);
    answered = p.answered;
  })

  -- ---- steps and runs

  abbrev puts_value : ℕ → List ℕ → List ℕ → List ℕ
  puts_value layer name value = veiled_value (hidden layer name) value

  given_same : (this : Event) → with_value veils puts_value (λ b. b) this ≡ veiled_event hidden this
  given_same event.Boot = refl
  given_same event.Off = refl
  given_same event.Tamper = refl
  given_same event.Status = refl
  given_same event.Go = refl
  given_same (event.Cut count tear) = refl
  given_same (event.Order text draw) = refl
  given_same (event.Put layer name value) = refl
  given_same (event.Get layer name) = refl
  given_same (event.Drop layer name) = refl
  given_same (event.Sign layer key message) = refl
  given_same (event.Call layer key input) = refl

  -- where nothing is hidden, nothing is changed
  bare_secrets : (n : ℕ) → ((name : List ℕ) → hidden n name ≡ false) → (secrets : List Secret) → map (veiled_secret (hidden n)) secrets ≡ secrets
  bare_secrets n none [] = refl
  bare_secrets n none (secret ∷ secrets) =
      ap (λ (b : Bool). record secret { value = veiled_value b secret.value } ∷ map (veiled_secret (hidden n)) secrets) (none secret.name)
      ∙ ap (λ (list : List Secret). secret ∷ list) (bare_secrets n none secrets)

  bare_untouched : (layer : ℕ) → ReadsNoHidden hidden layer → Untouched veils layer
  bare_untouched layer free n region above = ap (λ (list : List Secret). record region { secrets = list }) (bare_secrets n (λ name. free n name above) region.secrets)

  agrees_veiled : (phase : Phase) (this : Event) → AsksNoHidden hidden this → Agrees veils puts_value (λ b. b) phase this
  agrees_veiled phase event.Boot free = tt
  agrees_veiled phase event.Off free = tt
  agrees_veiled phase event.Tamper free = tt
  agrees_veiled phase event.Status free = tt
  agrees_veiled phase event.Go free = tt
  agrees_veiled phase (event.Cut count tear) free = refl
  agrees_veiled phase (event.Order text draw) free = λ first state next answer step. order_step_veiled text draw state next answer step
  agrees_veiled phase (event.Put layer name value) free =
      λ level at. inr (λ state. put_seen veils blank layer (puts_value layer) (veiled_gently (hidden layer)) state name value)
  agrees_veiled phase (event.Get layer name) free =
      λ level at. inr (λ state. get_seen veils blank layer (puts_value layer) (veiled_gently (hidden layer)) state name
      (ap value_reply (found_veiled (hidden layer) name (region_of state layer).secrets)
      ∙ value_unhidden (hidden layer) name (find (has_name name) (region_of state layer).secrets) free (found_name (hidden layer) name (region_of state layer).secrets)))
  agrees_veiled phase (event.Drop layer name) free =
      λ level at. inr (λ state. drop_seen veils blank layer (puts_value layer) (veiled_gently (hidden layer)) state name)
  agrees_veiled phase (event.Sign layer key message) free =
      λ level at. inr (λ state. sign_seen veils blank layer (puts_value layer) (veiled_gently (hidden layer)) state key message)
  agrees_veiled phase (event.Call layer key input) free = λ level at. inr (call_seen veils blank _ (bare_untouched layer free))

  step_veiled : (world next : World) (this : Event) (answer : Reply) → AsksNoHidden hidden this → Step world this answer next
      → Step (veiled_world hidden world) (veiled_event hidden this) answer (veiled_world hidden next)
  step_veiled world next this answer free step =
      subst (λ (e : Event). Step (veiled_world hidden world) e answer (veiled_world hidden next)) (given_same this)
      (step_seen veils puts_value (λ b. b) world this answer next (λ b. refl) (agrees_veiled world.phase this free) step)

  run_veiled : (world next : World) (answered : List Answered) → All (λ this. AsksNoHidden hidden this.event) answered → Run world answered next
      → Run (veiled_world hidden world) (map (veiled_answered hidden) answered) (veiled_world hidden next)
  run_veiled world next [] free run = ap (veiled_world hidden) run
  run_veiled world next (this ∷ rest) free run =
      let P : Answered → Type 0 = λ this. AsksNoHidden hidden this.event in
      (veiled_world hidden run.0, step_veiled world run.0 this.event this.reply (All-head P this rest free) run.1, run_veiled run.0 next rest (All-tail P this rest free) run.2)

  -- ---- a `get` of a hidden secret

  got : (barred taken : Bool) (state : State) (o : Option Secret) → Outcome
  got barred taken state o = if barred then (refusal_reply WrongLayer, state) else if taken then (refusal_reply WrongCode, state) else (value_reply o, state)

  asked_got : (barred taken : Bool) (one other : State) (o : Option Secret) (layer : ℕ) (name value : List ℕ) (answer : Reply) → hidden layer name ≡ true
      → ((secret : Secret) → o ≡ Some secret → secret.name ≡ name) → reply.Value value ≡ (got barred taken one o).0
      → answer ≡ (got barred taken other (option_map (veiled_secret (hidden layer)) o)).0 → answer ≡ reply.Value []
  unfolding got
  asked_got true taken one other o layer name value answer is named x y = absurd (grind (arith, x))
  asked_got false true one other o layer name value answer is named x y = absurd (grind (arith, x))
  asked_got false false one other o layer name value answer is named x y = y ∙ value_hidden (hidden layer) name value o is named x

  refused_value : (value : List ℕ) (refusal : Refusal) → reply.Value value ≡ refusal_reply refusal → ⊥
  refused_value value refusal e = grind (arith, e)

  asked_at : (armed : Bool) (phase : Phase) (o : Option State) (next other : World) (layer : ℕ) (name value : List ℕ) (answer : Reply) → hidden layer name ≡ true
      → Machine (record { state = o; phase = phase; armed = armed }) (event.Get layer name) (reply.Value value) next
      → Machine (veiled_world hidden (record { state = o; phase = phase; armed = armed })) (event.Get layer name) answer other → answer ≡ reply.Value []
  unfolding get_event got
  asked_at armed off o next other layer name value answer is x y = absurd (refused_value value PoweredOff (ap (λ (t : Told). t.0) x))
  asked_at armed dead o next other layer name value answer is x y = absurd (refused_value value Zeroised (ap (λ (t : Told). t.0) x))
  asked_at armed (ratchet level) None next other layer name value answer is x y = absurd (refused_value value Zeroised (ap (λ (t : Told). t.0) x))
  asked_at armed (ratchet level) (Some state) next other layer name value answer is x y =
      let barred : Bool = nat_lt layer level || not (is_runnable state.layers layer) in
      let taken : Bool = takes_calls (code_in state.codes layer) in
      let secrets : List Secret = (region_of state layer).secrets in
      let veiled : State = veiled_state hidden state in
      let second : answer ≡ (got barred taken veiled (find (has_name name) (region_of veiled layer).secrets)).0 = ap (λ (t : Told). t.0) y in
      let third : answer ≡ (got barred taken veiled (option_map (veiled_secret (hidden layer)) (find (has_name name) secrets))).0 =
      second ∙ ap (λ (r : Region). (got barred taken veiled (find (has_name name) r.secrets)).0) (region_changed veils blank layer state)
      ∙ ap (λ (o : Option Secret). (got barred taken veiled o).0) (found_veiled (hidden layer) name secrets) in
      asked_got barred taken state veiled (find (has_name name) secrets) layer name value answer is (found_name (hidden layer) name secrets) (ap (λ (t : Told). t.0) x) third

pub hidden_values_are_not_seen : HiddenValuesAreNotSeen
hidden_values_are_not_seen hidden world next this answer free step = step_veiled hidden world next this answer free step

pub hidden_values_are_not_seen_in_runs : HiddenValuesAreNotSeenInRuns
hidden_values_are_not_seen_in_runs hidden world next answered free run = run_veiled hidden world next answered free run

pub asked_values_are_seen : AskedValuesAreSeen
asked_values_are_seen hidden world next other layer name value answer is x y = asked_at hidden world.armed world.phase world.state next other layer name value answer is x y

-- ---- two runs that differ in what is hidden

brings_veiled : (hidden : HiddenSecrets) (this : Event) → BringsBytes this → BringsBytes (veiled_event hidden this)
brings_veiled hidden event.Boot are = tt
brings_veiled hidden event.Off are = tt
brings_veiled hidden event.Tamper are = tt
brings_veiled hidden event.Status are = tt
brings_veiled hidden event.Go are = tt
brings_veiled hidden (event.Cut count tear) are = tt
brings_veiled hidden (event.Order text draw) are = are
brings_veiled hidden (event.Put layer name value) are = tt
brings_veiled hidden (event.Get layer name) are = tt
brings_veiled hidden (event.Drop layer name) are = tt
brings_veiled hidden (event.Sign layer key message) are = tt
brings_veiled hidden (event.Call layer key input) are = tt

veiled_told : (hidden : HiddenSecrets) (answered : List Answered) → All HasOwnAnswer answered → All HasOwnAnswer (map (veiled_answered hidden) answered)
veiled_told hidden answered told =
    All-map HasOwnAnswer (veiled_answered hidden) answered
    (All-weaker HasOwnAnswer (λ this. HasOwnAnswer (veiled_answered hidden this)) (λ this its. record { found = its.found; held = its.held }) answered told)

pub hidden_values_change_no_answer : HiddenValuesChangeNoAnswer
hidden_values_change_no_answer hidden world other m n one two alike same free too are told also run second =
    let veils_of : Answered → Answered = veiled_answered hidden in
    let replies : List Answered → List Reply = map (λ this. this.reply) in
    let first : Run (veiled_world hidden world) (map veils_of one) (veiled_world hidden m) = run_veiled hidden world m one free run in
    let moved : Run (veiled_world hidden world) (map veils_of two) (veiled_world hidden n) =
    subst (λ (w : World). Run w (map veils_of two) (veiled_world hidden n)) (sym alike) (run_veiled hidden other n two too second) in
    let events : map (λ this. this.event) (map veils_of one) ≡ map (λ this. this.event) (map veils_of two) =
    map-map (λ (this : Answered). this.event) veils_of one ∙ same ∙ sym (map-map (λ (this : Answered). this.event) veils_of two) in
    let bytes : All (λ this. BringsBytes this.event) (map veils_of one) =
    All-map (λ (this : Answered). BringsBytes this.event) veils_of one
    (All-weaker (λ (this : Answered). BringsBytes this.event) (λ this. BringsBytes (veiled_event hidden this.event)) (λ this brings. brings_veiled hidden this.event brings) one are) in
    let equal = runs_are_determined (veiled_world hidden world) (veiled_world hidden m) (veiled_world hidden n) (map veils_of one) (map veils_of two) bytes events
    (veiled_told hidden one told) (veiled_told hidden two also) first moved in (
      sym (map-map (λ (this : Answered). this.reply) veils_of one) ∙ ap replies equal.0 ∙ map-map (λ (this : Answered). this.reply) veils_of two,
      equal.1,
    )
