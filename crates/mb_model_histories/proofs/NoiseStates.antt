-- Two states that are the same but for keys: what orders and layers do to them.
use Rattle.std.proofs.Common.{◌≡◌, ◌≤◌, ℕ, ◌+◌, ◌-◌, List, [], ◌∷◌, ◌++◌, length, inl, inr, Option, None, Some, Bool, true, false, refl, sym, ap, subst, ◌∙◌, arith, take, reverse, length-append}
use Rattle.std.specs.Prelude.{not, nat_lt, nat_le, ◌&&◌, ◌||◌, find, filter, map, cond, option_map, take_while, is_none, count_by, sum_by, Result, Ok, Err, if◌then◌else◌}
use Rattle.std.proofs.Math.Path.{fun_ext}
use Rattle.std.specs.Int.{w32, to_be_bytes}
use Rattle.sha2.specs.Sha256.{sha256}
use Rattle.std.specs.List.{list_any}
use Rattle.std.proofs.lemmas.List.{length-map, map-append, append_assoc, reverse-append, take-append-le}
use Rattle.std.proofs.lemmas.List.Sums.{sum_by-cons, take_while-cons}
use Rattle.std.proofs.Math.Seq.{take-append_seam}
use Rattle.std.proofs.lemmas.Option.{same_Some}
use Rattle.mb_model.specs.declared.entry.Entry.{Entry}
use Rattle.mb_model.specs.declared.entry.Entry.TheVariants.{Birth, Change, NewKey, Succession}
use Rattle.mb_model.specs.declared.entry.Said.{Said}
use Rattle.mb_model.specs.declared.entry.Said.TheVariants.{Message, Answer}
use Rattle.mb_model.specs.declared.entry.SignedEntry.{SignedEntry}
use Rattle.mb_model.specs.declared.key.KeySeed.{KeySeed}
use Rattle.mb_model.specs.declared.key.PublicKey.{PublicKey}
use Rattle.mb_model.specs.declared.layer.Layers.{Layers}
use Rattle.mb_model.specs.declared.layer.Pair.{Pair}
use Rattle.mb_model.specs.declared.order.Act.{Act}
use Rattle.mb_model.specs.declared.order.Act.TheVariants as act
use Rattle.mb_model.specs.declared.order.ChangeKind.{ChangeKind}
use Rattle.mb_model.specs.declared.order.ChangeKind.TheVariants.{Establish, Surrender, Load, Emergency}
use Rattle.mb_model.specs.declared.order.KeyKind.{KeyKind}
use Rattle.mb_model.specs.declared.order.Order.{Order}
use Rattle.mb_model.specs.declared.region.Region.{Region}
use Rattle.mb_model.specs.declared.region.RegionKey.{RegionKey}
use Rattle.mb_model.specs.declared.region.Secret.{Secret}
use Rattle.mb_model.specs.declared.reply.OrderRefusal.{OrderRefusal}
use Rattle.mb_model.specs.declared.reply.Refusal.{Refusal}
use Rattle.mb_model.specs.declared.reply.Refusal.TheVariants as refusal
use Rattle.mb_model.specs.declared.reply.Reply.{Reply}
use Rattle.mb_model.specs.declared.reply.Reply.TheVariants as reply
use Rattle.mb_model.specs.declared.state.Codes.{Codes}
use Rattle.mb_model.specs.declared.state.State.{State}
use Rattle.mb_model.specs.declared.state.View.{View}
use Rattle.mb_model.specs.records.ChainFormat.{said_format, statement_format}
use Rattle.mb_model.specs.machine.LayerEvents.{Outcome, code_in, takes_calls, has_name, has_number, with_secret, with_use, on_region, put_event, get_event, drop_event, sign_with, sign_event, statement_of, value_reply}
use Rattle.mb_model.specs.owners.Layers.{is_runnable, layer_of}
use Rattle.mb_model.specs.owners.Log.{entries_of, is_change, device_in, keys_in, number_of, uses_of_device_key}
use Rattle.mb_model.specs.owners.Log.{keys_made_by}
use Rattle.mb_model.specs.machine.OrderChecks.{view_of, needs_succession, Check, checks_of, EachHolds, IsFirstRefusal, Passes, Fails}
use Rattle.mb_model.specs.machine.OrderEffects.{cosigners_of, change_fact, entry_of, next_device_key, succession_entry, key_made, codes_after, entry_signed_by, log_with, state_after_succession, state_after_change, state_after_new_key, state_after_act, state_after_order, ready_for}
use Rattle.mb_model.specs.declared.state.Fact.TheVariants as fact
use Rattle.mb_format.specs.Combinators.{number_bytes}
use Rattle.mb_model.specs.machine.OrderStep.{OrderStep, spells_none, fails_check, is_obeyed}
use Rattle.mb_model.specs.machine.Refusals.{refusal_reply}
use Rattle.mb_model.specs.owners.Regions.{empty_region, is_epoch, region_of, with_region, region_after, without_configuration_keys, with_key}
use Rattle.mb_model.specs.owners.Rules.{admits, renews, after, layer_from_order, kept_regions}
use Rattle.mb_model.specs.signatures.Signing.{signature_of, randomizer_of, signed_values, signed_digits, path_from}
use Rattle.mb_model.specs.machine.SignedTexts.{entry_text}
use Rattle.mb_model.specs.declared.limits.TheConstants.{CALL_STEPS}
use Rattle.mb_model.specs.declared.running.AppEnd.{AppEnd}
use Rattle.mb_model.specs.declared.running.AppEnd.TheVariants as end
use Rattle.mb_model.specs.application.Runs.{AppRun, readable_secrets}
use Rattle.mb_model.specs.machine.Actions.{Demand, to_keep, to_drop}
use Rattle.mb_model.specs.machine.Calls.{Call, refuses, usable_key, key_for, demand_outcome, after_demands, call_statement_of, answer_by, act_on, does_act, asks_nothing, EndsIn, WithKey, WithCode, OnLayer}
use Rattle.mb_model_runs.specs.StatementLaws.{statement_saying}
use Rattle.mb_model_lemmas.proofs.SignatureLemmas.{length-signature_of}
use Rattle.mb_model_lemmas.proofs.ValidRegions.{filter-map}
use Rattle.mb_model_histories.specs.NoiseLaws.{no_key, no_public_key, keyless_entry, keyless_signed, keyless_key, keyless_region, keyless_state, keyless_reply}
use Rattle.mb_model_histories.proofs.ChangeLemmas.{region_changed, put_changed}

-- ---- signatures

prefix_kept : (x y : List ℕ) → 4 ≤ length x → take 4 (x ++ y) ≡ take 4 x
prefix_kept x y long = take-append-le 4 x y long

index_of_parts : (a b c d e f : List ℕ) → length a ≡ 4 → take 4 (a ++ b ++ c ++ d ++ e ++ f) ≡ take 4 a
index_of_parts a b c d e f la =
    prefix_kept (a ++ b ++ c ++ d ++ e) f (omega (arith, la, length-append (a ++ b ++ c ++ d) e, length-append (a ++ b ++ c) d, length-append (a ++ b) c, length-append a b))
    ∙ prefix_kept (a ++ b ++ c ++ d) e (omega (arith, la, length-append (a ++ b ++ c) d, length-append (a ++ b) c, length-append a b))
    ∙ prefix_kept (a ++ b ++ c) d (omega (arith, la, length-append (a ++ b) c, length-append a b))
    ∙ prefix_kept (a ++ b) c (omega (arith, la, length-append a b))
    ∙ prefix_kept a b (omega (arith, la))

index_of_signature : (key : KeySeed) (index : ℕ) (text : List ℕ) → take 4 (signature_of key index text) ≡ take 4 (to_be_bytes w32 index)
unfolding signature_of
index_of_signature key index text =
    index_of_parts (to_be_bytes w32 index) (to_be_bytes w32 3) (randomizer_of key index) (signed_values key index (signed_digits key index text) 67) (to_be_bytes w32 5) (path_from key (32 + index) 5) refl

-- the first four bytes of a signature do not depend on its key or text
index_kept : (key other : KeySeed) (index : ℕ) (text second : List ℕ) → take 4 (signature_of key index text) ≡ take 4 (signature_of other index second)
index_kept key other index text second = index_of_signature key index text ∙ sym (index_of_signature other index second)

-- ---- the log

same_change : (entry : Entry) → is_change (keyless_entry entry) ≡ is_change entry
same_change (Birth version serial key layers) = refl
same_change (Change version position number kind layer cosigned layers kept next) = refl
same_change (NewKey position number key_number layer kind key) = refl
same_change (Succession position key) = refl

same_keys_in : (entry : Entry) → keys_in (keyless_entry entry) ≡ keys_in entry
same_keys_in (Birth version serial key layers) = refl
same_keys_in (Change version position number kind layer cosigned layers kept None) = refl
same_keys_in (Change version position number kind layer cosigned layers kept (Some next)) = refl
same_keys_in (NewKey position number key_number layer kind key) = refl
same_keys_in (Succession position key) = refl

same_unnamed : (entry : Entry) → is_none (device_in (keyless_entry entry)) ≡ is_none (device_in entry)
same_unnamed (Birth version serial key layers) = refl
same_unnamed (Change version position number kind layer cosigned layers kept None) = refl
same_unnamed (Change version position number kind layer cosigned layers kept (Some next)) = refl
same_unnamed (NewKey position number key_number layer kind key) = refl
same_unnamed (Succession position key) = refl

number_kept : (log : List SignedEntry) → number_of (entries_of (map keyless_signed log)) ≡ number_of (entries_of log)
unfolding number_of
number_kept [] = refl
number_kept (signed ∷ log) =
    let one : Entry → ℕ = λ e. cond (is_change e) 1 0 in
    sum_by-cons one (keyless_entry signed.entry) (entries_of (map keyless_signed log))
    ∙ ap (λ (b : Bool). cond b 1 0 + count_by is_change (entries_of (map keyless_signed log))) (same_change signed.entry)
    ∙ ap (λ (n : ℕ). one signed.entry + n) (number_kept log)
    ∙ sym (sum_by-cons one signed.entry (entries_of log))

made_kept : (log : List SignedEntry) → keys_made_by (entries_of (map keyless_signed log)) ≡ keys_made_by (entries_of log)
unfolding keys_made_by
made_kept [] = refl
made_kept (signed ∷ log) =
    sum_by-cons keys_in (keyless_entry signed.entry) (entries_of (map keyless_signed log))
    ∙ ap (λ (n : ℕ). n + sum_by keys_in (entries_of (map keyless_signed log))) (same_keys_in signed.entry)
    ∙ ap (λ (n : ℕ). keys_in signed.entry + n) (made_kept log)
    ∙ sym (sum_by-cons keys_in signed.entry (entries_of log))

entries_kept : (log : List SignedEntry) → entries_of (map keyless_signed log) ≡ map keyless_entry (entries_of log)
entries_kept [] = refl
entries_kept (signed ∷ log) = ap (λ (list : List Entry). keyless_entry signed.entry ∷ list) (entries_kept log)

count_unnamed : (entries : List Entry) → length (take_while (λ entry. is_none (device_in entry)) (map keyless_entry entries)) ≡ length (take_while (λ entry. is_none (device_in entry)) entries)
count_unnamed [] = refl
count_unnamed (entry ∷ entries) =
    let unnamed : Entry → Bool = λ entry. is_none (device_in entry) in
    ap length (take_while-cons unnamed (keyless_entry entry) (map keyless_entry entries))
    ∙ ap (λ (b : Bool). length (cond b (keyless_entry entry ∷ take_while unnamed (map keyless_entry entries)) [])) (same_unnamed entry)
    ∙ counted (is_none (device_in entry)) (keyless_entry entry) entry (take_while unnamed (map keyless_entry entries)) (take_while unnamed entries) (count_unnamed entries)
    ∙ sym (ap length (take_while-cons unnamed entry entries))
  where
    counted : (b : Bool) (x y : Entry) (xs ys : List Entry) → length xs ≡ length ys → length (cond b (x ∷ xs) []) ≡ length (cond b (y ∷ ys) [])
    counted true x y xs ys same = omega (arith, same)
    counted false x y xs ys same = refl

reverse_map : (entries : List Entry) → reverse (map keyless_entry entries) ≡ map keyless_entry (reverse entries)
reverse_map [] = refl
reverse_map (entry ∷ entries) =
    reverse-append (keyless_entry entry ∷ []) (map keyless_entry entries)
    ∙ ap (λ (list : List Entry). list ++ keyless_entry entry ∷ []) (reverse_map entries)
    ∙ sym (map-append keyless_entry (reverse entries) (entry ∷ []))
    ∙ sym (ap (map keyless_entry) (reverse-append (entry ∷ []) entries))

uses_kept : (log : List SignedEntry) → uses_of_device_key (entries_of (map keyless_signed log)) ≡ uses_of_device_key (entries_of log)
unfolding uses_of_device_key
uses_kept log =
    let unnamed : Entry → Bool = λ entry. is_none (device_in entry) in
    ap (λ (list : List Entry). length (take_while unnamed (reverse list))) (entries_kept log)
    ∙ ap (λ (list : List Entry). length (take_while unnamed list)) (reverse_map (entries_of log))
    ∙ count_unnamed (reverse (entries_of log))

-- ---- two states that are the same but for keys

-- two states that are the same but for keys and what they sign
abbrev pub Twins : State → State → Type 0
Twins state twin = keyless_state state ≡ keyless_state twin

-- what twins have in common
pub record Shares (state twin : State) : Type 0 where
  pub serial : state.serial ≡ twin.serial
  pub layers : state.layers ≡ twin.layers
  codes : state.codes ≡ twin.codes
  pub log : map keyless_signed state.log ≡ map keyless_signed twin.log
  uses : state.uses ≡ twin.uses
  pub two : keyless_region state.two ≡ keyless_region twin.two
  pub three : keyless_region state.three ≡ keyless_region twin.three

pub shares : (state twin : State) → Twins state twin → Shares state twin
shares state twin same = record {
  serial = ap (λ (s : State). s.serial) same;
  layers = ap (λ (s : State). s.layers) same;
  codes = ap (λ (s : State). s.codes) same;
  log = ap (λ (s : State). s.log) same;
  uses = ap (λ (s : State). s.uses) same;
  two = ap (λ (s : State). s.two) same;
  three = ap (λ (s : State). s.three) same;
}

twins : (state twin : State) → Shares state twin → Twins state twin
twins state twin s =
    ap (λ (x : List ℕ). record (keyless_state state) { serial = x }) s.serial
    ∙ ap (λ (x : Layers). record (keyless_state state) { serial = twin.serial; layers = x }) s.layers
    ∙ ap (λ (x : Codes). record (keyless_state state) { serial = twin.serial; layers = twin.layers; codes = x }) s.codes
    ∙ ap (λ (x : List SignedEntry). record (keyless_state state) { serial = twin.serial; layers = twin.layers; codes = twin.codes; log = x }) s.log
    ∙ ap (λ (x : ℕ). record (keyless_state twin) { uses = x; two = keyless_region state.two; three = keyless_region state.three }) s.uses
    ∙ ap (λ (x : Region). record (keyless_state twin) { two = x; three = keyless_region state.three }) s.two
    ∙ ap (λ (x : Region). record (keyless_state twin) { three = x }) s.three

-- what an order is judged by, without the device key
abbrev keyless_view : View → View
keyless_view view = record view { device = no_key }

view_kept : (state : State) → keyless_view (view_of state) ≡ view_of (keyless_state state)
view_kept state =
    let after : View = view_of (keyless_state state) in
    let before : View = keyless_view (view_of state) in
    ap (λ (n : ℕ). record before { length = n }) (sym (length-map state.log keyless_signed))
    ∙ ap (λ (n : ℕ). record before { length = after.length; number = n }) (sym (number_kept state.log))
    ∙ ap (λ (n : ℕ). record before { length = after.length; number = after.number; keys_made = n }) (sym (made_kept state.log))
    ∙ ap (λ (n : ℕ). record after { uses = n; keys_two = before.keys_two; keys_three = before.keys_three }) (sym (uses_kept state.log))
    ∙ ap (λ (n : ℕ). record after { keys_two = n; keys_three = before.keys_three }) (sym (length-map state.two.keys keyless_key))
    ∙ ap (λ (n : ℕ). record after { keys_three = n }) (sym (length-map state.three.keys keyless_key))

same_view : (state twin : State) → Twins state twin → keyless_view (view_of state) ≡ keyless_view (view_of twin)
same_view state twin same = view_kept state ∙ ap view_of same ∙ sym (view_kept twin)

-- ---- orders are judged alike

-- no check looks at the device key
same_checks : (view : View) (device : KeySeed) (order : Order) → checks_of (record view { device = device }) order ≡ checks_of view order
same_checks view device order = of_act order.act
  where
    of_act : (a : Act) → checks_of (record view { device = device }) (record order { act = a }) ≡ checks_of view (record order { act = a })
    of_act (act.Establish owner trust) = refl
    of_act act.Surrender = refl
    of_act (act.Load payload) = refl
    of_act (act.Emergency payload) = refl
    of_act (act.NewKey kind) = refl

passes_with : (view : View) (device : KeySeed) (order : Order) → Passes view order → Passes (record view { device = device }) order
passes_with view device order p = record { each = subst EachHolds (sym (same_checks view device order)) p.each }

fails_with : (view : View) (device : KeySeed) (order : Order) (why : OrderRefusal) → Fails view order why → Fails (record view { device = device }) order why
fails_with view device order why f = subst (λ (checks : List Check). IsFirstRefusal checks why) (sym (same_checks view device order)) f

module _ (state twin : State) (same : Twins state twin) (order : Order) where
  passes_alike : Passes (view_of state) order → Passes (view_of twin) order
  passes_alike p =
      passes_with (keyless_view (view_of twin)) twin.device order
      (subst (λ (v : View). Passes v order) (same_view state twin same) (passes_with (view_of state) no_key order p))

  fails_alike : (r : OrderRefusal) → Fails (view_of state) order r → Fails (view_of twin) order r
  fails_alike r f =
      fails_with (keyless_view (view_of twin)) twin.device order r
      (subst (λ (v : View). Fails v order r) (same_view state twin same) (fails_with (view_of state) no_key order r f))

-- ---- what an order leaves

-- regions that are the same but for keys
abbrev TwinRegions : Region → Region → Type 0
TwinRegions region twin = keyless_region region ≡ keyless_region twin

without_kept : (region : Region) → keyless_region (without_configuration_keys region) ≡ without_configuration_keys (keyless_region region)
without_kept region = ap (λ (keys : List RegionKey). record region { keys = keys }) (sym (filter-map (λ key. is_epoch key.kind) keyless_key region.keys))

after_kept : (beneath admitted : Bool) (region : Region)
    → keyless_region (if beneath then region else if admitted then without_configuration_keys region else empty_region)
    ≡ (if beneath then keyless_region region else if admitted then without_configuration_keys (keyless_region region) else empty_region)
after_kept true admitted region = refl
after_kept false true region = without_kept region
after_kept false false region = refl

region_after_alike : (layers : Layers) (kind : ChangeKind) (changed : ℕ) (cosigned : Pair) (layer : ℕ) (region twin : Region) → TwinRegions region twin
    → TwinRegions (region_after layers kind changed cosigned layer region) (region_after layers kind changed cosigned layer twin)
region_after_alike layers kind changed cosigned layer region twin same =
    let kept : (r : Region) → keyless_region (region_after layers kind changed cosigned layer r) ≡ region_after layers kind changed cosigned layer (keyless_region r) =
    λ r. after_kept (nat_lt layer changed) (admits layers kind changed cosigned layer) r in
    kept region ∙ ap (region_after layers kind changed cosigned layer) same ∙ sym (kept twin)

module _ (state twin : State) (same : Twins state twin) where
  common : Shares state twin
  common = shares state twin same

  pub same_length : length state.log ≡ length twin.log
  same_length = ap (λ (v : View). v.length) (same_view state twin same)

  pub same_number : number_of (entries_of state.log) ≡ number_of (entries_of twin.log)
  same_number = ap (λ (v : View). v.number) (same_view state twin same)

  same_made : keys_made_by (entries_of state.log) ≡ keys_made_by (entries_of twin.log)
  same_made = ap (λ (v : View). v.keys_made) (same_view state twin same)

  same_uses : uses_of_device_key (entries_of state.log) ≡ uses_of_device_key (entries_of twin.log)
  same_uses = ap (λ (v : View). v.uses) (same_view state twin same)

  pub same_layers : state.layers ≡ twin.layers
  same_layers = common.layers

  -- the log with one more entry
  log_alike : (entry other : Entry) → keyless_entry entry ≡ keyless_entry other → map keyless_signed (log_with state entry) ≡ map keyless_signed (log_with twin other)
  unfolding entry_signed_by
  log_alike entry other equal =
      let index : ℕ = uses_of_device_key (entries_of state.log) in
      let second : ℕ = uses_of_device_key (entries_of twin.log) in
      map-append keyless_signed state.log (entry_signed_by state.device index entry ∷ [])
      ∙ ap (λ (log : List SignedEntry). log ++ keyless_signed (entry_signed_by state.device index entry) ∷ []) common.log
      ∙ ap (λ (e : Entry). map keyless_signed twin.log ++ record { entry = e; signature = take 4 (signature_of state.device index (entry_text entry)) } ∷ []) equal
      ∙ ap (λ (bytes : List ℕ). map keyless_signed twin.log ++ record { entry = keyless_entry other; signature = bytes } ∷ [])
      (index_kept state.device twin.device index (entry_text entry) (entry_text other)
      ∙ ap (λ (n : ℕ). take 4 (signature_of twin.device n (entry_text other))) same_uses)
      ∙ sym (map-append keyless_signed twin.log (entry_signed_by twin.device second other ∷ []))

named_alike : (next : Bool) (view other : View) (draw second : List ℕ)
    → option_map (λ key. no_public_key) (next_device_key next view draw) ≡ option_map (λ key. no_public_key) (next_device_key next other second)
named_alike true view other draw second = refl
named_alike false view other draw second = refl

uses_after_alike : (next : Bool) (a b : ℕ) → a ≡ b → (if next then 0 else a + 1) ≡ (if next then 0 else b + 1)
uses_after_alike next a b same = ap (λ (n : ℕ). if next then 0 else n + 1) same

module _ (state twin : State) (same : Twins state twin) (draw other : List ℕ) where
  -- a change's entry
  change_entry_alike : (kind : ChangeKind) (order : Order)
      → keyless_entry (entry_of (view_of state) (change_fact state.layers kind order) draw) ≡ keyless_entry (entry_of (view_of twin) (change_fact twin.layers kind order) other)
  change_entry_alike kind order =
      let entry : ℕ → ℕ → Layers → Option PublicKey → Entry =
      λ length number layers next. Change 2 length (number + 1) kind order.layer (cosigners_of order)
      (after layers kind order.layer (cosigners_of order) (layer_from_order (layer_of layers order.layer) order.act)) (kept_regions layers kind order.layer (cosigners_of order)) next in
      let next : Option PublicKey = option_map (λ key. no_public_key) (next_device_key (renews (Some kind) order.layer) (view_of state) draw) in
      ap (λ (n : ℕ). entry n (number_of (entries_of state.log)) state.layers next) (same_length state twin same)
      ∙ ap (λ (n : ℕ). entry (length twin.log) n state.layers next) (same_number state twin same)
      ∙ ap (λ (l : Layers). entry (length twin.log) (number_of (entries_of twin.log)) l next) (same_layers state twin same)
      ∙ ap (λ (o : Option PublicKey). entry (length twin.log) (number_of (entries_of twin.log)) twin.layers o) (named_alike (renews (Some kind) order.layer) (view_of state) (view_of twin) draw other)

  change_alike : (kind : ChangeKind) (order : Order) → Twins (state_after_change state kind order draw) (state_after_change twin kind order other)
  unfolding state_after_change
  change_alike kind order =
      let its : Shares state twin = shares state twin same in
      let by : (layer : ℕ) (region second : Region) → TwinRegions region second
      → TwinRegions (region_after state.layers kind order.layer (cosigners_of order) layer region) (region_after twin.layers kind order.layer (cosigners_of order) layer second) =
      λ layer region second alike.
      region_after_alike state.layers kind order.layer (cosigners_of order) layer region second alike
      ∙ ap (λ (l : Layers). keyless_region (region_after l kind order.layer (cosigners_of order) layer second)) its.layers in
      twins (state_after_change state kind order draw) (state_after_change twin kind order other) (record {
        serial = its.serial;
        layers = ap (λ (l : Layers). after l kind order.layer (cosigners_of order) (layer_from_order (layer_of l order.layer) order.act)) its.layers;
        codes = ap (λ (c : Codes). codes_after c order.layer order.act) its.codes;
        log = log_alike state twin same (entry_of (view_of state) (change_fact state.layers kind order) draw) (entry_of (view_of twin) (change_fact twin.layers kind order) other)
            (change_entry_alike kind order);
        uses = uses_after_alike (renews (Some kind) order.layer) _ _ (same_uses state twin same);
        two = by 2 state.two twin.two its.two;
        three = by 3 state.three twin.three its.three;
      })

  succession_alike : Twins (state_after_succession state draw) (state_after_succession twin other)
  unfolding state_after_succession
  succession_alike =
      let its : Shares state twin = shares state twin same in
      twins (state_after_succession state draw) (state_after_succession twin other) (record {
        serial = its.serial;
        layers = its.layers;
        codes = its.codes;
        log = log_alike state twin same (succession_entry (view_of state) draw) (succession_entry (view_of twin) other) (ap (λ (n : ℕ). Succession n no_public_key) (same_length state twin same));
        uses = refl;
        two = its.two;
        three = its.three;
      })

-- ---- regions

-- the state with its log and device key as they are without keys
abbrev logged : State → State
logged state = record state { log = map keyless_signed state.log; device = no_key }

abbrev keyless_at : ℕ → Region → Region
keyless_at n region = keyless_region region

empty_kept : (n : ℕ) → keyless_at n empty_region ≡ empty_region
empty_kept n = refl

region_kept : (layer : ℕ) (state : State) → region_of (keyless_state state) layer ≡ keyless_region (region_of state layer)
region_kept layer state = region_changed keyless_at empty_kept layer (logged state)

placed_kept : (layer : ℕ) (region : Region) (state : State) → keyless_state (with_region state layer region) ≡ with_region (keyless_state state) layer (keyless_region region)
placed_kept layer region state = sym (put_changed keyless_at layer region (logged state))

same_region : (state twin : State) (layer : ℕ) → Twins state twin → TwinRegions (region_of state layer) (region_of twin layer)
same_region state twin layer same =
    sym (region_kept layer state) ∙ ap (λ (s : State). region_of s layer) same ∙ region_kept layer twin

-- twins with regions that are the same but for keys
placed_alike : (state twin : State) (layer : ℕ) (region second : Region) → Twins state twin → TwinRegions region second → Twins (with_region state layer region) (with_region twin layer second)
placed_alike state twin layer region second same alike =
    placed_kept layer region state ∙ ap (λ (s : State). with_region s layer (keyless_region region)) same
    ∙ ap (with_region (keyless_state twin) layer) alike ∙ sym (placed_kept layer second twin)

-- ---- orders that are obeyed

module _ (draw other : List ℕ) where
  new_key_alike : (state twin : State) → Twins state twin → (layer : ℕ) (kind : KeyKind) → Twins (state_after_new_key state layer kind draw) (state_after_new_key twin layer kind other)
  unfolding state_after_new_key
  new_key_alike state twin same layer kind =
      let its : Shares state twin = shares state twin same in
      let entry : Entry = entry_of (view_of state) (fact.NewKey layer kind) draw in
      let second : Entry = entry_of (view_of twin) (fact.NewKey layer kind) other in
      let named : ℕ → ℕ → ℕ → Entry = λ length number made. NewKey length number made layer kind no_public_key in
      let entries : keyless_entry entry ≡ keyless_entry second =
      ap (λ (n : ℕ). named n (number_of (entries_of state.log)) (keys_made_by (entries_of state.log))) (same_length state twin same)
      ∙ ap (λ (n : ℕ). named (length twin.log) n (keys_made_by (entries_of state.log))) (same_number state twin same)
      ∙ ap (λ (n : ℕ). named (length twin.log) (number_of (entries_of twin.log)) n) (same_made state twin same) in
      let before : State = record state { log = log_with state entry; uses = uses_of_device_key (entries_of state.log) + 1 } in
      let later : State = record twin { log = log_with twin second; uses = uses_of_device_key (entries_of twin.log) + 1 } in
      let logs : Twins before later = twins before later (record {
        serial = its.serial;
        layers = its.layers;
        codes = its.codes;
        log = log_alike state twin same entry second entries;
        uses = ap (λ (n : ℕ). n + 1) (same_uses state twin same);
        two = its.two;
        three = its.three;
      }) in
      let key : RegionKey = key_made (view_of state) kind draw in
      let made : RegionKey = key_made (view_of twin) kind other in
      let region : Region = region_of state layer in
      let beside : Region = region_of twin layer in
      placed_alike before later layer (with_key key region) (with_key made beside) logs
      (ap (λ (keys : List RegionKey). record region { keys = keys }) (map-append keyless_key region.keys (key ∷ []))
      ∙ ap (λ (r : Region). record r { keys = r.keys ++ keyless_key key ∷ [] }) (same_region state twin layer same)
      ∙ ap (λ (n : ℕ). record beside { keys = map keyless_key beside.keys ++ record { number = n; kind = kind; seed = no_key; uses = 0 } ∷ [] }) (same_made state twin same)
      ∙ sym (ap (λ (keys : List RegionKey). record beside { keys = keys }) (map-append keyless_key beside.keys (made ∷ []))))

  act_alike : (state twin : State) → Twins state twin → (order : Order) (a : Act) → Twins (state_after_act state order a draw) (state_after_act twin order a other)
  act_alike state twin same order (act.Establish owner trust) = change_alike state twin same draw other Establish order
  act_alike state twin same order act.Surrender = change_alike state twin same draw other Surrender order
  act_alike state twin same order (act.Load payload) = change_alike state twin same draw other Load order
  act_alike state twin same order (act.Emergency payload) = change_alike state twin same draw other Emergency order
  act_alike state twin same order (act.NewKey kind) = new_key_alike state twin same order.layer kind

  ready_alike : (b c : Bool) (state twin : State) → b ≡ c → Twins state twin
      → Twins (if b then state_after_succession state draw else state) (if c then state_after_succession twin other else twin)
  ready_alike b c state twin equal same =
      subst (λ (d : Bool). Twins (if b then state_after_succession state draw else state) (if d then state_after_succession twin other else twin)) equal (by b)
    where
      by : (d : Bool) → Twins (if d then state_after_succession state draw else state) (if d then state_after_succession twin other else twin)
      by true = succession_alike state twin same draw other
      by false = same

  order_alike : (state twin : State) → Twins state twin → (order : Order) → Twins (state_after_order state order draw) (state_after_order twin order other)
  unfolding state_after_order
  order_alike state twin same order =
      act_alike (ready_for state order draw) (ready_for twin order other)
      (ready_alike (needs_succession (view_of state) order) (needs_succession (view_of twin) order) state twin (ap (λ (v : View). needs_succession v order) (same_view state twin same)) same)
      order order.act

  -- the step of a twin
  pub record TwinOrderStep (twin : State) (text : List ℕ) (answer : Reply) (next : State) : Type 0 where
    pub end : State
    pub step : OrderStep twin text other answer end
    pub alike : Twins next end

  done_alike : (state twin : State) → Twins state twin → reply.Done (number_of (entries_of state.log)) (length state.log) ≡ reply.Done (number_of (entries_of twin.log)) (length twin.log)
  done_alike state twin same =
      ap (λ (n : ℕ). reply.Done n (length state.log)) (same_number state twin same) ∙ ap (λ (n : ℕ). reply.Done (number_of (entries_of twin.log)) n) (same_length state twin same)

  pub order_step_alike : (state twin : State) → Twins state twin → (text : List ℕ) (answer : Reply) (next : State) → OrderStep state text draw answer next → TwinOrderStep twin text answer next
  order_step_alike state twin same text answer next (spells_none p) =
      record { end = twin; step = spells_none (record { none = p.none; answered = p.answered; stays = refl }); alike = ap keyless_state p.stays ∙ same }
  order_step_alike state twin same text answer next (fails_check p) = record {
    end = twin;
    step = fails_check (record { order = p.order; spelled = p.spelled; refusal = p.refusal; fails = fails_alike state twin same p.order p.refusal p.fails; answered = p.answered; stays = refl });
    alike = ap keyless_state p.stays ∙ same;
  }
  order_step_alike state twin same text answer next (is_obeyed p) =
      let end : State = state_after_order twin p.order other in
      let alike : Twins next end = ap keyless_state p.follows ∙ order_alike state twin same p.order in
      record {
        end = end;
        step = is_obeyed (record { order = p.order; spelled = p.spelled; passes = passes_alike state twin same p.order p.passes; follows = refl; answered = p.answered ∙ done_alike next end alike });
        alike = alike;
      }

-- ---- what layers do with their regions

abbrev pub keyless_outcome : Outcome → Outcome
keyless_outcome outcome = (keyless_reply outcome.0, keyless_state outcome.1)

abbrev pub TwinOutcomes : Outcome → Outcome → Type 0
TwinOutcomes outcome second = keyless_outcome outcome ≡ keyless_outcome second

either_alike : (b c : Bool) (one two three four : Outcome) → b ≡ c → TwinOutcomes one three → TwinOutcomes two four → TwinOutcomes (if b then one else two) (if c then three else four)
either_alike b c one two three four equal first second = subst (λ (d : Bool). TwinOutcomes (if b then one else two) (if d then three else four)) equal (by b)
  where
    by : (d : Bool) → TwinOutcomes (if d then one else two) (if d then three else four)
    by true = first
    by false = second

-- one reply, and twins
outcome_of : (answer : Reply) (state twin : State) → Twins state twin → TwinOutcomes (answer, state) (answer, twin)
outcome_of answer state twin same = ap {B = Outcome} (λ (s : State). (keyless_reply answer, s)) same

found_kept : (number : ℕ) (keys : List RegionKey) → find (has_number number) (map keyless_key keys) ≡ option_map keyless_key (find (has_number number) keys)
found_kept number [] = refl
found_kept number (key ∷ keys) =
    ap (λ (rest : Option RegionKey). cond (has_number number key) (Some (keyless_key key)) rest) (found_kept number keys)
    ∙ by (has_number number key) (find (has_number number) keys)
  where
    by : (b : Bool) (rest : Option RegionKey) → cond b (Some (keyless_key key)) (option_map keyless_key rest) ≡ option_map keyless_key (cond b (Some key) rest)
    by true rest = refl
    by false rest = refl

used_kept : (number : ℕ) (keys : List RegionKey) → with_use number (map keyless_key keys) ≡ map keyless_key (with_use number keys)
unfolding with_use
used_kept number [] = refl
used_kept number (key ∷ keys) =
    ap (λ (k : RegionKey). k ∷ with_use number (map keyless_key keys)) (by (has_number number key))
    ∙ ap (λ (list : List RegionKey). keyless_key (if has_number number key then record key { uses = key.uses + 1 } else key) ∷ list) (used_kept number keys)
  where
    by : (b : Bool) → (if b then record (keyless_key key) { uses = key.uses + 1 } else keyless_key key) ≡ keyless_key (if b then record key { uses = key.uses + 1 } else key)
    by true = refl
    by false = refl

front_kept : (x y : List ℕ) → length y ≡ 2348 → take (length (x ++ y) - 2348) (x ++ y) ≡ x
front_kept x y long =
    let count : length (x ++ y) - 2348 ≡ length x = omega (arith, long, length-append x y) in
    ap (λ (n : ℕ). take n (x ++ y)) count ∙ take-append_seam x y

-- what a statement says before its signature
abbrev unsigned : List ℕ → List ℕ
unsigned statement = take (length statement - 2348) statement

statement_kept : (number : ℕ) (said : Said) (signature : List ℕ) → length signature ≡ 2348
    → unsigned (statement_format.spelling (record { number = number; said = said; signature = signature })) ≡ to_be_bytes w32 number ++ said_format.spelling said
unfolding statement_format number_bytes
statement_kept number said signature long =
    let front : List ℕ = to_be_bytes w32 number ++ said_format.spelling said in
    ap unsigned (sym (append_assoc (to_be_bytes w32 number) (said_format.spelling said) signature)) ∙ front_kept front signature long

-- one statement by two keys
said_alike : (state twin : State) → Twins state twin → (one other : RegionKey) (said : Said) → one.number ≡ other.number → one.uses ≡ other.uses
    → keyless_reply (reply.Signed one.number one.uses (statement_format.spelling (statement_saying state one said)))
    ≡ keyless_reply (reply.Signed other.number other.uses (statement_format.spelling (statement_saying twin other said)))
unfolding statement_saying
said_alike state twin same one other said number uses =
    let again : List ℕ = unsigned (statement_format.spelling (statement_saying twin other said)) in
    ap (reply.Signed one.number one.uses)
    (statement_kept (number_of (entries_of state.log)) said _ (length-signature_of one.seed one.uses _)
    ∙ ap (λ (n : ℕ). to_be_bytes w32 n ++ said_format.spelling said) (same_number state twin same)
    ∙ sym (statement_kept (number_of (entries_of twin.log)) said _ (length-signature_of other.seed other.uses _)))
    ∙ ap (λ (n : ℕ). reply.Signed n one.uses again) number
    ∙ ap (λ (n : ℕ). reply.Signed other.number n again) uses

statements_alike : (state twin : State) → Twins state twin → (one other : RegionKey) (message : List ℕ) → one.number ≡ other.number → one.uses ≡ other.uses
    → keyless_reply (reply.Signed one.number one.uses (statement_format.spelling (statement_of state one message)))
    ≡ keyless_reply (reply.Signed other.number other.uses (statement_format.spelling (statement_of twin other message)))
unfolding statement_of statement_saying
statements_alike state twin same one other message number uses = said_alike state twin same one other (Message message) number uses

call_statements_alike : (state twin : State) → Twins state twin → (one other : RegionKey) (input answer : List ℕ) → one.number ≡ other.number → one.uses ≡ other.uses
    → keyless_reply (reply.Signed one.number one.uses (statement_format.spelling (call_statement_of state one input answer)))
    ≡ keyless_reply (reply.Signed other.number other.uses (statement_format.spelling (call_statement_of twin other input answer)))
unfolding call_statement_of statement_saying
call_statements_alike state twin same one other input answer number uses = said_alike state twin same one other (Answer (sha256 input) answer) number uses

module _ (state twin : State) (same : Twins state twin) (layer : ℕ) where
  abbrev region : Region
  region = region_of state layer

  abbrev beside : Region
  beside = region_of twin layer

  regions : TwinRegions region beside
  regions = same_region state twin layer same

  same_secrets : region.secrets ≡ beside.secrets
  same_secrets = ap (λ (r : Region). r.secrets) regions

  -- the regions with other secrets
  secrets_alike : (secrets other : List Secret) → secrets ≡ other → Twins (with_region state layer (record region { secrets = secrets })) (with_region twin layer (record beside { secrets = other }))
  secrets_alike secrets other equal =
      placed_alike state twin layer (record region { secrets = secrets }) (record beside { secrets = other }) same
      (ap (λ (list : List Secret). record (keyless_region region) { secrets = list }) equal ∙ ap (λ (r : Region). record r { secrets = other }) regions)

  pub put_alike : (name value : List ℕ) → TwinOutcomes (put_event layer name value state) (put_event layer name value twin)
  unfolding put_event
  put_alike name value =
      let new : ℕ → Secret = λ born. record { name = name; value = value; born = born } in
      let born : ℕ = number_of (entries_of state.log) in
      let second : ℕ = number_of (entries_of twin.log) in
      either_alike (not (list_any (has_name name) region.secrets) && nat_le 22 (length region.secrets)) (not (list_any (has_name name) beside.secrets) && nat_le 22 (length beside.secrets)) _ _ _ _
      (ap (λ (list : List Secret). not (list_any (has_name name) list) && nat_le 22 (length list)) same_secrets)
      (outcome_of (refusal_reply refusal.RegionFull) state twin same)
      (outcome_of reply.Kept (with_region state layer (record region { secrets = with_secret (new born) region.secrets })) (with_region twin layer (record beside { secrets = with_secret (new second) beside.secrets }))
      (secrets_alike (with_secret (new born) region.secrets) (with_secret (new second) beside.secrets)
      (ap (λ (n : ℕ). with_secret (new n) region.secrets) (same_number state twin same) ∙ ap (with_secret (new second)) same_secrets)))

  pub get_alike : (name : List ℕ) → TwinOutcomes (get_event layer name state) (get_event layer name twin)
  unfolding get_event
  get_alike name =
      ap {B = Outcome} (λ (list : List Secret). (keyless_reply (value_reply (find (has_name name) list)), keyless_state state)) same_secrets
      ∙ outcome_of (value_reply (find (has_name name) beside.secrets)) state twin same

  pub drop_alike : (name : List ℕ) → TwinOutcomes (drop_event layer name state) (drop_event layer name twin)
  unfolding drop_event
  drop_alike name =
      let others : List Secret → List Secret = λ list. filter (λ secret. not (has_name name secret)) list in
      either_alike (list_any (has_name name) region.secrets) (list_any (has_name name) beside.secrets) _ _ _ _ (ap (list_any (has_name name)) same_secrets)
      (outcome_of reply.Dropped (with_region state layer (record region { secrets = others region.secrets })) (with_region twin layer (record beside { secrets = others beside.secrets }))
      (secrets_alike (others region.secrets) (others beside.secrets) (ap others same_secrets)))
      (outcome_of reply.Absent state twin same)

  -- the region with one more use of a key
  used_alike : (number : ℕ) → Twins (with_region state layer (record region { keys = with_use number region.keys })) (with_region twin layer (record beside { keys = with_use number beside.keys }))
  used_alike number =
      placed_alike state twin layer (record region { keys = with_use number region.keys }) (record beside { keys = with_use number beside.keys }) same
      (ap (λ (keys : List RegionKey). record region { keys = keys }) (sym (used_kept number region.keys))
      ∙ ap (λ (r : Region). record r { keys = with_use number r.keys }) regions
      ∙ ap (λ (keys : List RegionKey). record beside { keys = keys }) (used_kept number beside.keys))

  signed_alike : (message : List ℕ) (one other : Option RegionKey) → option_map keyless_key one ≡ option_map keyless_key other → TwinOutcomes (sign_with layer one message state) (sign_with layer other message twin)
  signed_alike message None None equal = outcome_of (refusal_reply refusal.NoSuchKey) state twin same
  signed_alike message None (Some other) equal = absurd (grind (arith, equal))
  signed_alike message (Some one) None equal = absurd (grind (arith, equal))
  signed_alike message (Some one) (Some other) equal =
      let keyless : keyless_key one ≡ keyless_key other = same_Some (keyless_key one) (keyless_key other) equal in
      let number : one.number ≡ other.number = ap (λ (k : RegionKey). k.number) keyless in
      let uses : one.uses ≡ other.uses = ap (λ (k : RegionKey). k.uses) keyless in
      let signed : Reply = reply.Signed one.number one.uses (statement_format.spelling (statement_of state one message)) in
      let again : Reply = reply.Signed other.number other.uses (statement_format.spelling (statement_of twin other message)) in
      let after : State = with_region state layer (record region { keys = with_use one.number region.keys }) in
      let beyond : State = with_region twin layer (record beside { keys = with_use other.number beside.keys }) in
      either_alike (nat_le 32 one.uses) (nat_le 32 other.uses) (refusal_reply refusal.KeySpent, state) (signed, after) (refusal_reply refusal.KeySpent, twin) (again, beyond) (ap (nat_le 32) uses)
      (outcome_of (refusal_reply refusal.KeySpent) state twin same)
      (ap {B = Outcome} (λ (answer : Reply). (answer, keyless_state after)) (statements_alike state twin same one other message number uses)
      ∙ ap {B = Outcome} (λ (s : State). (keyless_reply again, s))
      (used_alike one.number ∙ ap (λ (n : ℕ). keyless_state (with_region twin layer (record beside { keys = with_use n beside.keys }))) number))

  pub sign_alike : (number : ℕ) (message : List ℕ) → TwinOutcomes (sign_event layer number message state) (sign_event layer number message twin)
  unfolding sign_event
  sign_alike number message =
      signed_alike message (find (has_number number) region.keys) (find (has_number number) beside.keys)
      (sym (found_kept number region.keys) ∙ ap (λ (r : Region). find (has_number number) r.keys) regions ∙ found_kept number beside.keys)

  pub on_region_alike : (level : ℕ) (does : State → Outcome) → TwinOutcomes (does state) (does twin) → TwinOutcomes (on_region level layer does state) (on_region level layer does twin)
  on_region_alike level does alike =
      either_alike (nat_lt layer level || not (is_runnable state.layers layer)) (nat_lt layer level || not (is_runnable twin.layers layer)) (refusal_reply refusal.WrongLayer, state) _ (refusal_reply refusal.WrongLayer, twin) _
      (ap (λ (l : Layers). nat_lt layer level || not (is_runnable l layer)) (same_layers state twin same))
      (outcome_of (refusal_reply refusal.WrongLayer) state twin same)
      (either_alike (takes_calls (code_in state.codes layer)) (takes_calls (code_in twin.codes layer)) (refusal_reply refusal.WrongCode, state) (does state) (refusal_reply refusal.WrongCode, twin) (does twin)
      (ap (λ (s : State). takes_calls (code_in s.codes layer)) same) (outcome_of (refusal_reply refusal.WrongCode) state twin same) alike)

-- ---- calls

demand_alike : (layer : ℕ) (demand : Demand) (state twin : State) → Twins state twin → TwinOutcomes (demand_outcome layer demand state) (demand_outcome layer demand twin)
demand_alike layer (to_keep name value) state twin same = put_alike state twin same layer name value
demand_alike layer (to_drop name) state twin same = drop_alike state twin same layer name

refuses_kept : (answer : Reply) → refuses (keyless_reply answer) ≡ refuses answer
refuses_kept (reply.Signed key index statement) = refl
refuses_kept other = refl

demands_alike : (layer : ℕ) (demands : List Demand) (state twin : State) → Twins state twin
    → option_map keyless_state (after_demands layer demands state) ≡ option_map keyless_state (after_demands layer demands twin)
unfolding after_demands
demands_alike layer [] state twin same = ap Some same
demands_alike layer (demand ∷ later) state twin same =
    let one : Outcome = demand_outcome layer demand state in
    let other : Outcome = demand_outcome layer demand twin in
    let alike : TwinOutcomes one other = demand_alike layer demand state twin same in
    let refused : refuses one.0 ≡ refuses other.0 = sym (refuses_kept one.0) ∙ ap (λ (o : Outcome). refuses o.0) alike ∙ refuses_kept other.0 in
    by (refuses one.0) (after_demands layer later one.1) (after_demands layer later other.1) (demands_alike layer later one.1 other.1 (ap (λ (o : Outcome). o.1) alike))
    ∙ ap (λ (b : Bool). option_map keyless_state (if b then None else after_demands layer later other.1)) refused
  where
    by : (b : Bool) (x y : Option State) → option_map keyless_state x ≡ option_map keyless_state y
        → option_map keyless_state (if b then None else x) ≡ option_map keyless_state (if b then None else y)
    by true x y equal = refl
    by false x y equal = equal

module _ (state twin : State) (same : Twins state twin) (call : Call) where
  answer_alike : (key other : Option RegionKey) (answer : List ℕ) (after beyond : State) → option_map keyless_key key ≡ option_map keyless_key other → Twins after beyond
      → TwinOutcomes (answer_by call.layer key call.input answer state after) (answer_by call.layer other call.input answer twin beyond)
  answer_alike None None answer after beyond equal alike = outcome_of (reply.Called answer) after beyond alike
  answer_alike None (Some other) answer after beyond equal alike = absurd (grind (arith, equal))
  answer_alike (Some key) None answer after beyond equal alike = absurd (grind (arith, equal))
  answer_alike (Some key) (Some other) answer after beyond equal alike =
      let keyless : keyless_key key ≡ keyless_key other = same_Some (keyless_key key) (keyless_key other) equal in
      let number : key.number ≡ other.number = ap (λ (k : RegionKey). k.number) keyless in
      let uses : key.uses ≡ other.uses = ap (λ (k : RegionKey). k.uses) keyless in
      let again : Reply = reply.Signed other.number other.uses (statement_format.spelling (call_statement_of twin other call.input answer)) in
      let with_uses : State → ℕ → State = λ s n. with_region s call.layer (record (region_of s call.layer) { keys = with_use n (region_of s call.layer).keys }) in
      ap {B = Outcome} (λ (r : Reply). (r, keyless_state (with_uses after key.number))) (call_statements_alike state twin same key other call.input answer number uses)
      ∙ ap {B = Outcome} (λ (s : State). (keyless_reply again, s)) (used_alike after beyond alike call.layer key.number ∙ ap (λ (n : ℕ). keyless_state (with_uses beyond n)) number)

  act_alike-of : (key other : Option RegionKey) (answer : List ℕ) (after beyond : Option State) → option_map keyless_key key ≡ option_map keyless_key other
      → option_map keyless_state after ≡ option_map keyless_state beyond
      → TwinOutcomes (act_on call.layer key call.input answer state after) (act_on call.layer other call.input answer twin beyond)
  act_alike-of key other answer None None equal alike = outcome_of (refusal_reply refusal.RunFailed) state twin same
  act_alike-of key other answer None (Some beyond) equal alike = absurd (grind (arith, alike))
  act_alike-of key other answer (Some after) None equal alike = absurd (grind (arith, alike))
  act_alike-of key other answer (Some after) (Some beyond) equal alike =
      answer_alike key other answer after beyond equal (same_Some (keyless_state after) (keyless_state beyond) alike)

  -- an outcome of the twin that is like this one
  abbrev pub Alike : (Outcome → Type 0) → Outcome → Type 0
  Alike Comes outcome = (second : Outcome) × Comes second × TwinOutcomes outcome second

  refused_alike : (why : Refusal) (outcome : Outcome) → outcome ≡ (refusal_reply why, state) → Alike (λ second. second ≡ (refusal_reply why, twin)) outcome
  refused_alike why outcome is = ((refusal_reply why, twin), refl, ap keyless_outcome is ∙ outcome_of (refusal_reply why) state twin same)

  ends_alike : (key other : Option RegionKey) → option_map keyless_key key ≡ option_map keyless_key other → (ending : AppEnd) (outcome : Outcome)
      → EndsIn state call.layer key call.input ending outcome → Alike (EndsIn twin call.layer other call.input ending) outcome
  ends_alike key other equal (end.Halted steps output) outcome (does_act action spelled is) = (
    act_on call.layer other call.input action.answer twin (after_demands call.layer action.demands twin),
    does_act action spelled refl,
    ap keyless_outcome is
        ∙ act_alike-of key other action.answer (after_demands call.layer action.demands state) (after_demands call.layer action.demands twin) equal (demands_alike call.layer action.demands state twin same),
  )
  ends_alike key other equal (end.Halted steps output) outcome (asks_nothing none is) =
      let refused = refused_alike refusal.RunFailed outcome is in
      (refused.0, asks_nothing none refused.1, refused.2)
  ends_alike key other equal (end.Trap cause place output) outcome is = refused_alike refusal.RunFailed outcome is
  ends_alike key other equal (end.OutOfSteps output) outcome is = refused_alike refusal.RunFailed outcome is

  -- what code sees has no key
  sees_alike : readable_secrets state.layers call.layer state.two state.three ≡ readable_secrets twin.layers call.layer twin.two twin.three
  sees_alike =
      let sees : State → ℕ → Option (List Secret) = λ s. readable_secrets s.layers call.layer s.two s.three in
      fun_ext (λ region. refl) ∙ ap sees same ∙ fun_ext (λ region. refl)

  -- both calls are refused a key for the same reason, or both have one or none
  data TwinKeys : Result (Option RegionKey) Refusal → Result (Option RegionKey) Refusal → Type 0 where
    both_refused : (why : Refusal) → TwinKeys (Err why) (Err why)
    both_found : (key other : Option RegionKey) → option_map keyless_key key ≡ option_map keyless_key other → TwinKeys (Ok key) (Ok other)

  usable_alike : (one other : Option RegionKey) → option_map keyless_key one ≡ option_map keyless_key other → TwinKeys (usable_key one) (usable_key other)
  usable_alike None None equal = both_refused refusal.NoSuchKey
  usable_alike None (Some other) equal = absurd (grind (arith, equal))
  usable_alike (Some one) None equal = absurd (grind (arith, equal))
  usable_alike (Some one) (Some other) equal =
      let uses : one.uses ≡ other.uses = ap (λ (k : RegionKey). k.uses) (same_Some (keyless_key one) (keyless_key other) equal) in
      subst (λ (b : Bool). TwinKeys (usable_key (Some one)) (if b then Err refusal.KeySpent else Ok (Some other))) (ap (nat_le 32) uses) (by (nat_le 32 one.uses))
    where
      by : (b : Bool) → TwinKeys (if b then Err refusal.KeySpent else Ok (Some one)) (if b then Err refusal.KeySpent else Ok (Some other))
      by true = both_refused refusal.KeySpent
      by false = both_found (Some one) (Some other) equal

  key_alike : (asked : Option ℕ) → TwinKeys (key_for asked (region_of state call.layer)) (key_for asked (region_of twin call.layer))
  key_alike None = both_found None None refl
  key_alike (Some number) =
      let region : Region = region_of state call.layer in
      let beside : Region = region_of twin call.layer in
      usable_alike (find (has_number number) region.keys) (find (has_number number) beside.keys)
      (sym (found_kept number region.keys) ∙ ap (λ (r : Region). find (has_number number) r.keys) (same_region state twin call.layer same) ∙ found_kept number beside.keys)

  keyed_alike : (code : List ℕ) (one other : Result (Option RegionKey) Refusal) → TwinKeys one other → (outcome : Outcome) → WithKey state call code one outcome
      → Alike (WithKey twin call code other) outcome
  keyed_alike code (Err why) (Err other) (both_refused reason) outcome is = refused_alike reason outcome is
  keyed_alike code (Ok key) (Ok other) (both_found first second equal) outcome is =
      let ends = ends_alike first second equal is.ending outcome is.ends in (
        ends.0,
        record { ending = is.ending; run = subst (λ (seen : ℕ → Option (List Secret)). AppRun code call.input seen CALL_STEPS is.ending) sees_alike is.run; ends = ends.1 },
        ends.2,
      )
  keyed_alike code (Err why) (Ok other) pair outcome is = elim pair [ ]
  keyed_alike code (Ok key) (Err other) pair outcome is = elim pair [ ]

  coded_alike : (code : Option (List ℕ)) (outcome : Outcome) → WithCode state call code outcome → Alike (WithCode twin call code) outcome
  coded_alike None outcome is = refused_alike refusal.WrongCode outcome is
  coded_alike (Some code) outcome (inl is) =
      let refused = refused_alike refusal.WrongCode outcome is.1 in
      (refused.0, inl (is.0, refused.1), refused.2)
  coded_alike (Some code) outcome (inr is) =
      let keyed = keyed_alike code _ _ (key_alike call.key) outcome is.1 in
      (keyed.0, inr (is.0, keyed.1), keyed.2)

  pub on_layer_alike : (level : ℕ) (outcome : Outcome) → OnLayer level call state outcome → Alike (OnLayer level call twin) outcome
  on_layer_alike level outcome (inl is) =
      let refused = refused_alike refusal.WrongLayer outcome is.1 in
      let barred = ap (λ (l : Layers). nat_lt call.layer level || not (is_runnable l call.layer)) (same_layers state twin same) in
      (refused.0, inl (sym barred ∙ is.0, refused.1), refused.2)
  on_layer_alike level outcome (inr is) =
      let barred = ap (λ (l : Layers). nat_lt call.layer level || not (is_runnable l call.layer)) (same_layers state twin same) in
      let codes : code_in state.codes call.layer ≡ code_in twin.codes call.layer = ap (λ (s : State). code_in s.codes call.layer) same in
      let coded = coded_alike (code_in state.codes call.layer) outcome is.1 in
      (coded.0, inr (sym barred ∙ is.0, subst (λ (code : Option (List ℕ)). WithCode twin call code coded.0) codes coded.1), coded.2)
