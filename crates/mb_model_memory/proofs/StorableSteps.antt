-- Each step of the machine leads from a state that can be stored to one that can be.
use Rattle.std.proofs.Common.{◌≡◌, ◌≤◌, ◌<◌, ◌⊎◌, ℕ, ◌+◌, ◌^◌, List, [], ◌∷◌, ◌++◌, inl, inr, length, map, Option, None, Some, Bool, true, false, refl, sym, ap, subst, ◌∙◌, arith, length-append, eqb-true, ne_eqb, cond}
use Rattle.std.specs.Prelude.{◌&&◌, ◌||◌, not, find, filter, nat_lt, nat_le, All, AllPairs, IsTrue, Result, Ok, Err, if◌then◌else◌}
use Rattle.std.specs.List.{list_any}
use Rattle.std.proofs.lemmas.Bool.{and_from, leb-false, le-leb}
use Rattle.std.proofs.lemmas.List.{length-map}
use Rattle.std.proofs.lemmas.List.Elements.{All-nil, All-cons, All-head, All-tail, All-push, All-map, All-weaker, All-filter, All-from_recursion}
use Rattle.std.proofs.lemmas.List.Sums.{length-filter, count_by-le-length, list_all-from_AllPass}
use Rattle.mb_model.specs.declared.event.Event.{Event}
use Rattle.mb_model.specs.declared.event.Answered.{Answered}
use Rattle.mb_model.specs.declared.event.Event.TheVariants as event
use Rattle.mb_model.specs.declared.reply.Reply.{Reply}
use Rattle.mb_model.specs.declared.reply.Reply.TheVariants as reply
use Rattle.mb_model.specs.declared.region.Region.{Region}
use Rattle.mb_model.specs.declared.region.RegionKey.{RegionKey}
use Rattle.mb_model.specs.declared.region.Secret.{Secret}
use Rattle.mb_model.specs.declared.state.State.{State}
use Rattle.mb_model.specs.owners.Layers.{is_upper, is_runnable, Runnable}
use Rattle.mb_model.specs.owners.Log.{entries_of, number_of}
use Rattle.mb_model.specs.declared.reply.Refusal.{Refusal}
use Rattle.mb_model.specs.declared.reply.Refusal.TheVariants.{WrongPhase, WrongLayer, WrongCode}
use Rattle.mb_model.specs.machine.Refusals.{refusal_reply}
use Rattle.mb_model.specs.records.RootFormat.{region_key_format}
use Rattle.mb_model.specs.records.RegionFormat.{is_name_byte, is_name, secret_format}
use Rattle.mb_model.specs.owners.Regions.{region_of, with_region}
use Rattle.mb_model.specs.machine.OrderStep.{OrderStep, spells_none, fails_check, is_obeyed}
use Rattle.mb_model.specs.machine.LayerEvents.{Outcome, has_name, with_secret, has_number, with_use, put_event, get_event, drop_event, sign_with, sign_event, on_region, code_in, takes_calls}
use Rattle.mb_model.specs.machine.Machine.{Phase, off, dead, ratchet, World, Told, boot_event, running_state, running_state_in, status_event, go_event, region_event, CallTold, CommandStep, Machine, Step, machine_step, lacks_memory, loses_power, Run}
use Rattle.mb_model.specs.chains.Script.{IsName, FitsMessage, IsScriptEvent}
use Rattle.mb_model.specs.memories.Valid.{IsValidState, Valid}
use Rattle.mb_model_lemmas.proofs.FateLemmas.{keys_increase}
use Rattle.mb_model_lemmas.proofs.ValidStates.{valid_is_ruled, region_is_valid}
use Rattle.mb_model.specs.machine.Actions.{Demand, to_keep, to_drop, Action, name_format, value_format, demand_format, action_format}
use Rattle.mb_model.specs.machine.Calls.{Call, refuses, key_for, demand_outcome, after_demands, answer_by}
use Rattle.mb_model_lemmas.proofs.CallLemmas.{IsAnswered, IsRefusedCall, AnswersAt, on_layer_comes}
use Rattle.mb_model_lemmas.proofs.DemandLemmas.{demands_spare, key_asked}
use Rattle.mb_model_lemmas.proofs.ValidSteps.{unless_met, demands_valid, step_valid}
use Rattle.mb_model_lemmas.proofs.ValidRegions.{used_if}
use Rattle.mb_model_lemmas.proofs.RefusalLemmas.{awake_state}
use Rattle.mb_model_lemmas.proofs.ListLemmas.{pairs_head, pairs_tail, found_is}
use Rattle.mb_format.proofs.Compositions.{items_all}
use Rattle.mb_model_memory.specs.Storable.{IsStorableRegion, IsStorableState, Storable}
use Rattle.mb_model_memory.proofs.StorableFormats.{used_key_allowed, secret_allowed}
use Rattle.mb_model_memory.proofs.StorableOrders.{number_small, region_of-storable, with_region_storable, obeyed_storable}

-- ---- what layers do

-- an event of a layer leaves states that can be stored
abbrev KeepsStorable : (State → Outcome) → Type 0
KeepsStorable does = (state : State) → IsValidState state → IsStorableState state → IsStorableState (does state).1

where_it_runs : (r L : ℕ) (does : State → Outcome) (state : State) → KeepsStorable does → IsValidState state → IsStorableState state → IsStorableState (on_region r L does state).1
where_it_runs r L does state keeps valid is = by (nat_lt L r || not (is_runnable state.layers L)) (takes_calls (code_in state.codes L))
  where
    by : (refuses taken : Bool) → IsStorableState (if refuses then (refusal_reply WrongLayer, state) else if taken then (refusal_reply WrongCode, state) else does state).1
    by true taken = is
    by false true = is
    by false false = keeps state valid is

either_kept : (b : Bool) (one other : Outcome) → (b ≡ true → IsStorableState one.1) → (b ≡ false → IsStorableState other.1) → IsStorableState (if b then one else other).1
either_kept true one other first second = first refl
either_kept false one other first second = second refl

-- the secrets with one in place of another, or after the others where there is room
put_all : (P : Secret → Type 0) (new : Secret) (secrets : List Secret) → P new → All P secrets → (there : Bool)
    → All P (if there then map (λ old. if has_name new.name old then new else old) secrets else secrets ++ new ∷ [])
put_all P new secrets own old true =
    All-map P (λ (secret : Secret). if has_name new.name secret then new else secret) secrets
    (All-weaker P (λ (secret : Secret). P (if has_name new.name secret then new else secret)) (λ secret holds. one (has_name new.name secret) secret holds) secrets old)
  where
    one : (b : Bool) (secret : Secret) → P secret → P (if b then new else secret)
    one true secret holds = own
    one false secret holds = holds
put_all P new secrets own old false = All-push P secrets new old own

put_few : (new : Secret) (secrets : List Secret) (there full : Bool) → nat_le 22 (length secrets) ≡ full → (not there && full) ≡ false → length secrets ≤ 22
    → length (if there then map (λ old. if has_name new.name old then new else old) secrets else secrets ++ new ∷ []) ≤ 22
put_few new secrets true full is room few = omega (arith, few, length-map secrets (λ (old : Secret). if has_name new.name old then new else old))
put_few new secrets false true is room few = absurd (grind (arith, room))
put_few new secrets false false is room few = omega (arith, leb-false 22 (length secrets) is, length-append secrets (new ∷ []))

pub put_region : (new : Secret) (region : Region) → secret_format.Allowed new → IsStorableRegion region → (not (list_any (has_name new.name) region.secrets) && nat_le 22 (length region.secrets)) ≡ false
    → IsStorableRegion (record region { secrets = with_secret new region.secrets })
unfolding with_secret
put_region new region own is room = record {
  secrets = put_all secret_format.Allowed new region.secrets own is.secrets (list_any (has_name new.name) region.secrets);
  few_secrets = put_few new region.secrets (list_any (has_name new.name) region.secrets) (nat_le 22 (length region.secrets)) refl room is.few_secrets;
  keys = is.keys;
  few_keys = is.few_keys;
}

name_byte : (byte : ℕ) → (0x21 ≤ byte) × (byte ≤ 0x7E) → is_name_byte byte ≡ true
name_byte byte within = and_from (nat_le 0x21 byte) (nat_le byte 0x7E) (le-leb 0x21 byte within.0) (le-leb byte 0x7E within.1)

pub named : (name : List ℕ) → IsName name → is_name name ≡ true
named name is = list_all-from_AllPass is_name_byte name (All-weaker (λ (byte : ℕ). (0x21 ≤ byte) × (byte ≤ 0x7E)) (λ (byte : ℕ). is_name_byte byte ≡ true) name_byte name is.printed)

-- a secret that may be written, with any number that does
put_allowed : (L : ℕ) (name value : List ℕ) (state : State) → IsStorableState state → ((born : ℕ) → born < 2 ^ 32 → secret_format.Allowed (record { name = name; value = value; born = born }))
    → IsStorableState (put_event L name value state).1
unfolding put_event
put_allowed L name value state is allowed =
    let region : Region = region_of state L in
    let new : Secret = record { name = name; value = value; born = number_of (entries_of state.log) } in
    let own : secret_format.Allowed new = allowed (number_of (entries_of state.log)) (number_small state is) in
    either_kept (not (list_any (has_name name) region.secrets) && nat_le 22 (length region.secrets)) _ _ (λ full. is)
    (λ room. with_region_storable state L (record region { secrets = with_secret new region.secrets }) is (put_region new region own (region_of-storable state L is) room))

put_keeps : (L : ℕ) (name value : List ℕ) → IsName name → FitsMessage value → KeepsStorable (put_event L name value)
put_keeps L name value is_name fits state valid is =
    put_allowed L name value state is (λ born small. secret_allowed _ is_name.some is_name.most (named name is_name) fits small)

get_keeps : (L : ℕ) (name : List ℕ) → KeepsStorable (get_event L name)
unfolding get_event
get_keeps L name state valid is = is

pub drop_region : (name : List ℕ) (region : Region) → IsStorableRegion region → IsStorableRegion (record region { secrets = filter (λ secret. not (has_name name secret)) region.secrets })
drop_region name region is = record {
  secrets = All-filter (λ (secret : Secret). not (has_name name secret)) secret_format.Allowed region.secrets is.secrets;
  few_secrets =
      omega (arith, is.few_secrets, length-filter (λ (secret : Secret). not (has_name name secret)) region.secrets, count_by-le-length (λ (secret : Secret). not (has_name name secret)) region.secrets);
  keys = is.keys;
  few_keys = is.few_keys;
}

drop_keeps : (L : ℕ) (name : List ℕ) → KeepsStorable (drop_event L name)
unfolding drop_event
drop_keeps L name state valid is =
    let region : Region = region_of state L in
    either_kept (list_any (has_name name) region.secrets) _ _ (λ there. with_region_storable state L _ is (drop_region name region (region_of-storable state L is))) (λ absent. is)

-- ---- the use of a key

stays : (b : Bool) (key : RegionKey) → b ≡ false → region_key_format.Allowed key → region_key_format.Allowed (if b then record key { uses = key.uses + 1 } else key)
stays true key e is = absurd (grind (arith, e))
stays false key e is = is

used_once : (b : Bool) (key : RegionKey) → region_key_format.Allowed key → key.uses < 32 → region_key_format.Allowed (if b then record key { uses = key.uses + 1 } else key)
used_once true key is left = used_key_allowed key is left
used_once false key is left = is

-- where none has the number, each key stays as it is
others_stay : (number : ℕ) (keys : List RegionKey) → All region_key_format.Allowed keys → All (λ key. number < key.number) keys → All (λ key. region_key_format.Allowed (used_if number key)) keys
others_stay number [] are above = All-nil (λ key. region_key_format.Allowed (used_if number key))
others_stay number (key ∷ keys) are above =
    let P : RegionKey → Type 0 = region_key_format.Allowed in
    let Q : RegionKey → Type 0 = λ key. number < key.number in
    let over : number < key.number = All-head Q key keys above in
    let other : has_number number key ≡ false = ne_eqb key.number number (λ same. omega (arith, over, same)) in
    All-cons (λ (k : RegionKey). P (used_if number k)) key keys (stays (has_number number key) key other (All-head P key keys are)) (others_stay number keys (All-tail P key keys are) (All-tail Q key keys above))

same_key : (a b : RegionKey) → Some a ≡ Some b → a ≡ b
same_key a b e = cc

-- the one key with the number may be used, where it has an index left
use_by : (number : ℕ) (key : RegionKey) (keys : List RegionKey) (found : RegionKey) (b : Bool) → has_number number key ≡ b → AllPairs (λ a b. a.number < b.number) (key ∷ keys)
    → All region_key_format.Allowed (key ∷ keys) → find (has_number number) (key ∷ keys) ≡ Some found → found.uses < 32
    → (find (has_number number) keys ≡ Some found → All (λ k. region_key_format.Allowed (used_if number k)) keys)
    → All (λ k. region_key_format.Allowed (used_if number k)) (key ∷ keys)
use_by number key keys found true e up are is left rest =
    let P : RegionKey → Type 0 = region_key_format.Allowed in
    let own : key ≡ found = same_key key found (ap (λ (b : Bool). cond b (Some key) (find (has_number number) keys)) (sym e) ∙ is) in
    let at : key.number ≡ number = eqb-true key.number number e in
    let above : All (λ (other : RegionKey). number < other.number) keys =
    All-weaker (λ (other : RegionKey). key.number < other.number) (λ (other : RegionKey). number < other.number) (λ other less. omega (arith, less, at)) keys (pairs_head (λ (a b : RegionKey). a.number < b.number) key keys up)
    in
    All-cons (λ (k : RegionKey). P (used_if number k)) key keys
    (used_once (has_number number key) key (All-head P key keys are) (subst (λ (k : RegionKey). k.uses < 32) (sym own) left))
    (others_stay number keys (All-tail P key keys are) above)
use_by number key keys found false e up are is left rest =
    let P : RegionKey → Type 0 = region_key_format.Allowed in
    All-cons (λ (k : RegionKey). P (used_if number k)) key keys (stays (has_number number key) key e (All-head P key keys are))
    (rest (ap (λ (b : Bool). cond b (Some key) (find (has_number number) keys)) (sym e) ∙ is))

uses_allowed : (number : ℕ) (keys : List RegionKey) (found : RegionKey) → AllPairs (λ a b. a.number < b.number) keys → All region_key_format.Allowed keys
    → find (has_number number) keys ≡ Some found → found.uses < 32 → All (λ key. region_key_format.Allowed (used_if number key)) keys
uses_allowed number [] found up are is left = All-nil (λ key. region_key_format.Allowed (used_if number key))
uses_allowed number (key ∷ keys) found up are is left =
    use_by number key keys found (has_number number key) refl up are is left
    (λ e. uses_allowed number keys found (pairs_tail (λ (a b : RegionKey). a.number < b.number) key keys up) (All-tail region_key_format.Allowed key keys are) e left)

-- a key that is found by a number has it
pub found_number : (number : ℕ) (keys : List RegionKey) (found : RegionKey) → find (has_number number) keys ≡ Some found → found.number ≡ number
found_number number keys found is = eqb-true found.number number (found_is (has_number number) keys found is).1

-- a region whose keys stand in the order of their numbers can be stored with one more use of a key that has one left
pub use_region : (number : ℕ) (found : RegionKey) (region : Region) → AllPairs (λ a b. a.number < b.number) region.keys → IsStorableRegion region
    → find (has_number number) region.keys ≡ Some found → found.uses < 32 → IsStorableRegion (record region { keys = with_use number region.keys })
unfolding with_use
use_region number found region up is e left = record {
  secrets = is.secrets;
  few_secrets = is.few_secrets;
  keys = All-map region_key_format.Allowed (used_if number) region.keys (uses_allowed number region.keys found up is.keys e left);
  few_keys = omega (arith, is.few_keys, length-map region.keys (used_if number));
}

sign_by : (L number : ℕ) (found : Option RegionKey) (message : List ℕ) (state : State) → IsTrue (is_upper L) → find (has_number number) (region_of state L).keys ≡ found
    → IsValidState state → IsStorableState state → IsStorableState (sign_with L found message state).1
sign_by L number None message state upper e valid is = is
sign_by L number (Some key) message state upper e valid is =
    let region : Region = region_of state L in
    let up : AllPairs (λ (a b : RegionKey). a.number < b.number) region.keys = keys_increase (entries_of state.log) L region.keys (valid_is_ruled state valid) (region_is_valid state L upper valid).keys in
    let own : find (has_number key.number) region.keys ≡ Some key = ap (λ (n : ℕ). find (has_number n) region.keys) (found_number number region.keys key e) ∙ e in
    either_kept (nat_le 32 key.uses) _ _ (λ spent. is)
    (λ left. with_region_storable state L _ is (use_region key.number key region up (region_of-storable state L is) own (leb-false 32 key.uses left)))

sign_keeps : (L number : ℕ) (message : List ℕ) → IsTrue (is_upper L) → KeepsStorable (sign_event L number message)
unfolding sign_event
sign_keeps L number message upper state valid is = sign_by L number (find (has_number number) (region_of state L).keys) message state upper refl valid is

-- ---- calls

-- a demand may be written
demand_storable : (L : ℕ) (demand : Demand) (state : State) → demand_format.Allowed demand → IsStorableState state → IsStorableState (demand_outcome L demand state).1
unfolding demand_format name_format value_format secret_format drop_event
demand_storable L (to_keep name value) state allowed is = put_allowed L name value state is (λ born small. (allowed.1.0, (allowed.1.1, small)))
demand_storable L (to_drop name) state allowed is =
    either_kept (list_any (has_name name) (region_of state L).secrets) _ _ (λ there. with_region_storable state L _ is (drop_region name (region_of state L) (region_of-storable state L is))) (λ absent. is)

demands_storable : (L : ℕ) (demands : List Demand) (state done : State) → All demand_format.Allowed demands → IsStorableState state → after_demands L demands state ≡ Some done → IsStorableState done
unfolding after_demands
demands_storable L [] state done are is met = subst IsStorableState (same_some state done met) is
  where
    same_some : (a b : State) → Some a ≡ Some b → a ≡ b
    same_some a b e = cc
demands_storable L (demand ∷ later) state done are is met =
    let outcome : Outcome = demand_outcome L demand state in
    demands_storable L later outcome.1 done (All-tail demand_format.Allowed demand later are)
    (demand_storable L demand state (All-head demand_format.Allowed demand later are) is)
    (unless_met (refuses outcome.0) (after_demands L later outcome.1) done met)

-- what an action asks for may be written
demands_allowed : (action : Action) → action_format.Allowed action → All demand_format.Allowed action.demands
unfolding action_format
demands_allowed action allowed = All-from_recursion demand_format.Allowed action.demands (items_all demand_format (length action.demands) action.demands allowed.0.1).1

-- a key that is found with an index left may be used once more
used_storable : (L : ℕ) (key : RegionKey) (state : State) → IsTrue (is_upper L) → find (has_number key.number) (region_of state L).keys ≡ Some key → key.uses < 32
    → IsValidState state → IsStorableState state → IsStorableState (with_region state L (record (region_of state L) { keys = with_use key.number (region_of state L).keys }))
used_storable L key state upper own left valid is =
    let region : Region = region_of state L in
    let up : AllPairs (λ (a b : RegionKey). a.number < b.number) region.keys = keys_increase (entries_of state.log) L region.keys (valid_is_ruled state valid) (region_is_valid state L upper valid).keys in
    with_region_storable state L _ is (use_region key.number key region up (region_of-storable state L is) own left)

-- an answered call leads to a state that can be stored
answered_storable : (call : Call) (state : State) (outcome : Outcome) → IsTrue (is_upper call.layer) → Runnable state.layers call.layer → IsAnswered state call outcome
    → IsValidState state → IsStorableState state → IsStorableState outcome.1
answered_storable call state outcome upper runs answered valid is =
    let done_valid : IsValidState answered.done = (demands_valid call.layer answered.action.demands state answered.done runs valid answered.met).0 in
    let done_storable : IsStorableState answered.done =
    demands_storable call.layer answered.action.demands state answered.done (demands_allowed answered.action answered.spelled.allowed) is answered.met in
    subst (λ (o : Outcome). IsStorableState o.1) (sym answered.comes) (by answered.key answered.found done_valid done_storable)
  where
    by : (key : Option RegionKey) → key_for call.key (region_of state call.layer) ≡ Ok key → IsValidState answered.done → IsStorableState answered.done
        → IsStorableState (answer_by call.layer key call.input answered.action.answer state answered.done).1
    by None found done_valid done_storable = done_storable
    by (Some key) found done_valid done_storable =
        let asked = key_asked call.key (region_of state call.layer) key found in
        let spared = demands_spare call.layer answered.action.demands state answered.done answered.met in
        let own : find (has_number key.number) (region_of answered.done call.layer).keys ≡ Some key =
        ap (λ (n : ℕ). find (has_number n) (region_of answered.done call.layer).keys) asked.number_is
        ∙ ap (λ (keys : List RegionKey). find (has_number asked.number) keys) spared.keys ∙ asked.found in
        used_storable call.layer key answered.done upper own (leb-false 32 key.uses asked.left) done_valid done_storable

told_call_storable : (world : World) (call : Call) (on : Result (ℕ × State) Refusal) (answer : Reply) (next : World) → running_state world.phase world.state ≡ on → IsTrue (is_upper call.layer)
    → Valid world.state → Storable world.state → CallTold world call on answer next → Storable next.state
told_call_storable world call (Err refusal) answer next e upper valid is step = subst (λ (w : World). Storable w.state) (sym step.1) is
told_call_storable world call (Ok on) answer next e upper valid is step =
    let own : world.state ≡ Some on.1 = awake_state world.phase world.state on e in
    subst (λ (w : World). Storable w.state) (sym step.3) (by (on_layer_comes on.0 call on.1 step.0 step.1) (subst Valid own valid) (subst Storable own is))
  where
    by : AnswersAt on.0 call on.1 step.0 ⊎ IsRefusedCall on.1 step.0 → IsValidState on.1 → IsStorableState on.1 → IsStorableState step.0.1
    by (inl answers) sound fits = answered_storable call on.1 step.0 upper answers.runs answers.is sound fits
    by (inr refused) sound fits = subst IsStorableState (sym refused.1) fits

-- ---- orders

order_step_storable : (state : State) (text draw : List ℕ) (answer : Reply) (next : State) → IsStorableState state → OrderStep state text draw answer next → IsStorableState next
order_step_storable state text draw answer next is (spells_none step) = subst IsStorableState (sym step.stays) is
order_step_storable state text draw answer next is (fails_check step) = subst IsStorableState (sym step.stays) is
order_step_storable state text draw answer next is (is_obeyed step) =
    subst IsStorableState (sym step.follows) (obeyed_storable state step.order draw step.spelled.allowed step.passes is)

-- ---- the machine

pub booted_state : (world : World) (phase : Phase) (state : Option State) → (boot_event world phase state).1.state ≡ world.state
booted_state world off (Some state) = refl
booted_state world off None = refl
booted_state world dead state = refl
booted_state world (ratchet r) state = refl

pub status_state : (world : World) (on : Result (ℕ × State) Refusal) → (status_event world on).1.state ≡ world.state
status_state world (Err refusal) = refl
status_state world (Ok on) = refl

go_state : (last runs : Bool) (world : World) (r : ℕ)
    → (let told : Told = if last then (refusal_reply WrongPhase, world) else if runs then (reply.At (r + 1), record world { phase = ratchet (r + 1) }) else (refusal_reply WrongLayer, world) in told).1.state ≡ world.state
go_state true runs world r = refl
go_state false true world r = refl
go_state false false world r = refl

pub gone_state : (world : World) (on : Result (ℕ × State) Refusal) → (go_event world on).1.state ≡ world.state
gone_state world (Err refusal) = refl
gone_state world (Ok on) = go_state (nat_lt 2 on.0) (is_runnable on.1.layers (on.0 + 1)) world on.0

region_event_storable : (world : World) (L : ℕ) (does : State → Outcome) (on : Result (ℕ × State) Refusal) → running_state world.phase world.state ≡ on → KeepsStorable does
    → Valid world.state → Storable world.state → Storable (region_event world L does on).1.state
region_event_storable world L does (Err refusal) e keeps valid is = is
region_event_storable world L does (Ok on) e keeps valid is =
    let own : world.state ≡ Some on.1 = awake_state world.phase world.state on e in
    where_it_runs on.0 L does on.1 keeps (subst Valid own valid) (subst Storable own is)

command_storable : (world : World) (text draw : List ℕ) (on : Result (ℕ × State) Refusal) (answer : Reply) (next : World) → running_state world.phase world.state ≡ on
    → Storable world.state → CommandStep world text draw on answer next → Storable next.state
command_storable world text draw (Err refusal) answer next e is step = subst (λ (w : World). Storable w.state) (sym step.1) is
command_storable world text draw (Ok on) answer next e is (inl obeyed) =
    let own : world.state ≡ Some on.1 = awake_state world.phase world.state on e in
    subst (λ (w : World). Storable w.state) (sym obeyed.1.2) (order_step_storable on.1 text draw answer obeyed.1.0 (subst Storable own is) obeyed.1.1)
command_storable world text draw (Ok on) answer next e is (inr late) = subst (λ (w : World). Storable w.state) (sym late.2) is

-- what an event is told to come to is where it comes to
told_storable : (answer : Reply) (next : World) (told : Told) → ◌≡◌ {A = Told} (answer, next) told → Storable told.1.state → Storable next.state
told_storable answer next told e is = subst (λ (t : Told). Storable t.1.state) (sym e) is

told_same : (world : World) (answer : Reply) (next : World) (told : Told) → ◌≡◌ {A = Told} (answer, next) told → told.1.state ≡ world.state → Storable world.state → Storable next.state
told_same world answer next told e same is = told_storable answer next told e (subst Storable (sym same) is)

machine_storable : (world : World) (e : Event) (answer : Reply) (next : World) → IsScriptEvent e → Valid world.state → Storable world.state → Machine world e answer next → Storable next.state
machine_storable world event.Boot answer next script valid is step = told_same world answer next _ step (booted_state world world.phase world.state) is
machine_storable world event.Off answer next script valid is step = subst (λ (w : World). Storable w.state) (sym step.1) is
machine_storable world event.Tamper answer next script valid is step = subst (λ (w : World). Storable w.state) (sym step.1) tt
machine_storable world (event.Cut count tear) answer next script valid is step = subst (λ (w : World). Storable w.state) (sym step.1) is
machine_storable world event.Status answer next script valid is step = told_same world answer next _ step (status_state world (running_state_in world)) is
machine_storable world (event.Order text draw) answer next script valid is step = command_storable world text draw (running_state_in world) answer next refl is step
machine_storable world event.Go answer next script valid is step = told_same world answer next _ step (gone_state world (running_state_in world)) is
machine_storable world (event.Put L name value) answer next script valid is step =
    told_storable answer next _ step (region_event_storable world L (put_event L name value) (running_state_in world) refl (put_keeps L name value script.1 script.2) valid is)
machine_storable world (event.Get L name) answer next script valid is step =
    told_storable answer next _ step (region_event_storable world L (get_event L name) (running_state_in world) refl (get_keeps L name) valid is)
machine_storable world (event.Drop L name) answer next script valid is step =
    told_storable answer next _ step (region_event_storable world L (drop_event L name) (running_state_in world) refl (drop_keeps L name) valid is)
machine_storable world (event.Sign L key message) answer next script valid is step =
    told_storable answer next _ step (region_event_storable world L (sign_event L key message) (running_state_in world) refl (sign_keeps L key message script.0) valid is)
machine_storable world (event.Call L key input) answer next script valid is step = told_call_storable world _ (running_state_in world) answer next refl script.0 valid is step

pub step_keeps_storable : (world : World) (e : Event) (answer : Reply) (next : World) → IsScriptEvent e → Valid world.state → Storable world.state → Step world e answer next → Storable next.state
step_keeps_storable world e answer next script valid is (machine_step machine) = machine_storable world e answer next script valid is machine
step_keeps_storable world e answer next script valid is (lacks_memory lacks) = subst (λ (w : World). Storable w.state) (sym lacks.stays) is
step_keeps_storable world e answer next script valid is (loses_power lost) =
    let left : Storable lost.state = elim (lost.counts) [
      | inl before ↦ subst Storable (sym before) is
      | inr after ↦ subst Storable (sym after) (machine_storable world e lost.told lost.whole script valid is lost.machine)
    ] in
    subst (λ (w : World). Storable w.state) (sym lost.follows) left

pub run_keeps_storable : (world : World) (answered : List Answered) (next : World) → All (λ this. IsScriptEvent this.event) answered → Valid world.state → Storable world.state
    → Run world answered next → Storable next.state
run_keeps_storable world [] next script valid is same = subst (λ (w : World). Storable w.state) (sym same) is
run_keeps_storable world (this ∷ rest) next script valid is run =
    let P : Answered → Type 0 = λ this. IsScriptEvent this.event in
    let step : Step world this.event this.reply run.0 = run.1 in
    run_keeps_storable run.0 rest next (All-tail P this rest script) (step_valid world this.event this.reply run.0 valid step)
    (step_keeps_storable world this.event this.reply run.0 (All-head P this rest script) valid is step) run.2
