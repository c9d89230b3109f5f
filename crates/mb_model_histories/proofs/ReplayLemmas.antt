-- From one state a key signs any message at its next index, however often.
use Rattle.std.proofs.Common.{◌≡◌, ◌<◌, ℕ, List, Option, Some, Bool, true, false, refl, sym, ap, ◌∙◌, subst, arith}
use Rattle.std.specs.Prelude.{All, AllPairs, Contains, IsTrue, find, nat_lt, nat_le, not, ◌||◌, if◌then◌else◌}
use Rattle.std.proofs.lemmas.List.Elements.{All-contains}
use Rattle.mb_model.specs.declared.entry.Said.TheVariants.{Message}
use Rattle.mb_model.specs.declared.event.Event.TheVariants as event
use Rattle.mb_model.specs.declared.region.RegionKey.{RegionKey}
use Rattle.mb_model.specs.declared.reply.Reply.{Reply}
use Rattle.mb_model.specs.declared.reply.Reply.TheVariants as reply
use Rattle.mb_model.specs.declared.state.State.{State}
use Rattle.mb_model.specs.records.ChainFormat.{statement_format}
use Rattle.mb_model.specs.owners.Layers.{is_runnable, is_upper, Runnable}
use Rattle.mb_model.specs.machine.LayerEvents.{Outcome, code_in, takes_calls, on_region, has_number, sign_with, sign_event, statement_of}
use Rattle.mb_model.specs.owners.Log.{entries_of}
use Rattle.mb_model.specs.machine.Machine.{ratchet, World, opening_world, Step, machine_step}
use Rattle.mb_model.specs.owners.Regions.{region_of}
use Rattle.mb_model.specs.memories.Valid.{IsValidState}
use Rattle.mb_model_lemmas.proofs.FateLemmas.{keys_increase, found_by_number}
use Rattle.mb_model_lemmas.proofs.Splits.{All-from_splits}
use Rattle.mb_model_lemmas.proofs.ValidStates.{valid_is_ruled, region_is_valid}
use Rattle.mb_model_runs.specs.StatementLaws.{statement_saying}
use Rattle.mb_model_runs.proofs.KeyLemmas.{upper_of}
use Rattle.mb_model_histories.specs.ObeyedOrders.{IsOpen}
use Rattle.mb_model_histories.specs.HistoryLaws.{ReplayedImagesSignAgain}

-- a key of a valid state is found by its number
pub key_found : (state : State) (layer : ℕ) (key : RegionKey) → IsValidState state → Contains (region_of state layer).keys key → find (has_number key.number) (region_of state layer).keys ≡ Some key
key_found state layer key valid within =
    let keys : List RegionKey = (region_of state layer).keys in
    let Found : RegionKey → Type 0 = λ k. find (has_number k.number) keys ≡ Some k in
    let Below : RegionKey → RegionKey → Type 0 = λ a b. a.number < b.number in
    let region = region_is_valid state layer (upper_of state layer key within) valid in
    let up : AllPairs Below keys = keys_increase (entries_of state.log) layer keys (valid_is_ruled state valid) region.keys in
    let each : All Found keys = All-from_splits Found keys (λ front k rest split.
    subst (λ (ks : List RegionKey). find (has_number k.number) ks ≡ Some k) (sym split) (found_by_number front k rest (subst (AllPairs Below) split up))) in
    All-contains Found keys key each within

-- what a key signs while layer 1 runs
pub signed_bytes : State → RegionKey → List ℕ → List ℕ
signed_bytes state key message = statement_format.spelling (statement_of state key message)

passed : (past runs taken spent : Bool) (w x y z : Outcome) → past ≡ false → runs ≡ true → taken ≡ false → spent ≡ false
    → (if past || not runs then w else if taken then x else (if spent then y else z)) ≡ z
passed true runs taken spent w x y z e f g h = absurd (grind (arith, e))
passed false false taken spent w x y z e f g h = absurd (grind (arith, f))
passed false true true spent w x y z e f g h = absurd (grind (arith, g))
passed false true false true w x y z e f g h = absurd (grind (arith, h))
passed false true false false w x y z e f g h = refl

not_past : (layer : ℕ) → IsTrue (is_upper layer) → nat_lt layer 1 ≡ false
not_past layer upper = grind (arith, upper)

pub fresh : (uses : ℕ) → uses < 32 → nat_le 32 uses ≡ false
fresh uses few = grind (arith, few)

signs_here : (state : State) (layer : ℕ) (key : RegionKey) (message : List ℕ) → find (has_number key.number) (region_of state layer).keys ≡ Some key → nat_lt layer 1 ≡ false
    → is_runnable state.layers layer ≡ true → IsOpen state layer → nat_le 32 key.uses ≡ false
    → (on_region 1 layer (sign_event layer key.number message) state).0 ≡ reply.Signed key.number key.uses (signed_bytes state key message)
unfolding sign_event signed_bytes
signs_here state layer key message found below runs unsealed few =
    ap (λ (o : Option RegionKey). (on_region 1 layer (λ (s : State). sign_with layer o message s) state).0) found
    ∙ ap (λ (x : Outcome). x.0) (passed (nat_lt layer 1) (is_runnable state.layers layer) (takes_calls (code_in state.codes layer)) (nat_le 32 key.uses) _ _ _ _ below runs unsealed few)

-- the state after the signature
pub signed_state : State → ℕ → ℕ → List ℕ → State
signed_state state layer key_number message = (on_region 1 layer (sign_event layer key_number message) state).1

-- the layer 1 of this state runs
abbrev pub running_world : State → World
running_world state = record { state = Some state; phase = ratchet 1; armed = false }

signed_reply : (state : State) (layer : ℕ) (key : RegionKey) (message : List ℕ) → IsValidState state → Contains (region_of state layer).keys key → key.uses < 32 → Runnable state.layers layer → IsOpen state layer
    → (on_region 1 layer (sign_event layer key.number message) state).0 ≡ reply.Signed key.number key.uses (signed_bytes state key message)
signed_reply state layer key message valid within few runs unsealed =
    signs_here state layer key message (key_found state layer key valid within) (not_past layer (upper_of state layer key within)) runs unsealed (fresh key.uses few)

pub boot_step : (state : State) → Step (opening_world (Some state)) event.Boot reply.Booted (running_world state)
boot_step state = machine_step refl

pub sign_step : (state : State) (layer : ℕ) (key : RegionKey) (message : List ℕ) → IsValidState state → Contains (region_of state layer).keys key → key.uses < 32 → Runnable state.layers layer → IsOpen state layer
    → Step (running_world state) (event.Sign layer key.number message) (reply.Signed key.number key.uses (signed_bytes state key message)) (running_world (signed_state state layer key.number message))
unfolding signed_state
sign_step state layer key message valid within few runs unsealed =
    let next : World = running_world (signed_state state layer key.number message) in
    machine_step (ap (λ (r : Reply). (r, next)) (sym (signed_reply state layer key message valid within few runs unsealed)))

-- what the key signs says the message
pub say_step : (state : State) (layer : ℕ) (key : RegionKey) (message : List ℕ) → IsValidState state → Contains (region_of state layer).keys key → key.uses < 32 → Runnable state.layers layer → IsOpen state layer
    → Step (running_world state) (event.Sign layer key.number message) (reply.Signed key.number key.uses (statement_format.spelling (statement_saying state key (Message message))))
    (running_world (signed_state state layer key.number message))
unfolding signed_bytes statement_of statement_saying
say_step state layer key message valid within few runs unsealed = sign_step state layer key message valid within few runs unsealed

pub replayed_images_sign_again : ReplayedImagesSignAgain
replayed_images_sign_again state layer key message valid within few runs unsealed = (
  record { event = event.Boot; reply = reply.Booted },
  record { event = event.Sign layer key.number message; reply = reply.Signed key.number key.uses (signed_bytes state key message) },
  running_world (signed_state state layer key.number message),
  (running_world state, boot_step state, (running_world (signed_state state layer key.number message), sign_step state layer key message valid within few runs unsealed, refl)),
  refl,
  (signed_bytes state key message, refl),
)
