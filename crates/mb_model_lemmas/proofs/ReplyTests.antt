-- Which replies the machine gives to an event. A test that has one value for each of them, a statement aside, has it for
-- the answer to each event but a signing.
use Rattle.std.proofs.Common.{◌≡◌, ℕ, ◌+◌, List, length, inl, inr, Option, None, Some, Bool, true, false, ap, ◌∙◌}
use Rattle.std.specs.Prelude.{Result, Ok, Err, not, nat_lt, nat_le, ◌&&◌, ◌||◌, find, if◌then◌else◌}
use Rattle.std.specs.List.{list_any}
use Rattle.mb_model.specs.declared.region.Secret.{Secret}
use Rattle.mb_model.specs.declared.reply.Refusal.{Refusal}
use Rattle.mb_model.specs.declared.reply.Refusal.TheVariants.{WrongLayer, WrongCode}
use Rattle.mb_model.specs.declared.reply.Reply.{Reply}
use Rattle.mb_model.specs.declared.reply.Reply.TheVariants as reply
use Rattle.mb_model.specs.declared.reply.Standing.{Standing}
use Rattle.mb_model.specs.declared.state.State.{State}
use Rattle.mb_model.specs.owners.Layers.{is_runnable}
use Rattle.mb_model.specs.machine.Refusals.{refusal_reply}
use Rattle.mb_model.specs.owners.Regions.{region_of}
use Rattle.mb_model.specs.machine.OrderStep.{OrderStep, spells_none, fails_check, is_obeyed}
use Rattle.mb_model.specs.machine.LayerEvents.{Outcome, has_name, value_reply, put_event, get_event, drop_event, code_in, takes_calls}
use Rattle.mb_model.specs.machine.Machine.{Phase, off, dead, ratchet, World, Told, boot_event, status_of, status_event, go_event, region_event, CommandStep}

-- the test has this value for each reply of the machine but a statement
pub record HasValue (test : Reply → Bool) (value : Bool) : Type 0 where
  pub booted : test reply.Booted ≡ value
  pub off : test reply.Off ≡ value
  pub tampered : test reply.Tampered ≡ value
  pub armed : test reply.Armed ≡ value
  pub at : (layer : ℕ) → test (reply.At layer) ≡ value
  pub done : (number size : ℕ) → test (reply.Done number size) ≡ value
  pub kept : test reply.Kept ≡ value
  pub dropped : test reply.Dropped ≡ value
  pub secret : (bytes : List ℕ) → test (reply.Value bytes) ≡ value
  pub absent : test reply.Absent ≡ value
  pub status : (serial : List ℕ) (number size : ℕ) (one two three : Standing)
      → test (reply.Status serial number size one two three) ≡ value
  pub refused : (number : ℕ) → test (reply.Refused number) ≡ value

pub either_has : {A : Type 0} (value_of : A → Bool) (value : Bool) (b : Bool) (x y : A) → value_of x ≡ value → value_of y ≡ value → value_of (if b then x else y) ≡ value
either_has value_of value true x y first second = first
either_has value_of value false x y first second = second

module _ (test : Reply → Bool) (value : Bool) (has : HasValue test value) where
  either_reply : (b : Bool) (x y : Outcome) → test x.0 ≡ value → test y.0 ≡ value → test (if b then x else y).0 ≡ value
  either_reply b x y first second = either_has (λ (outcome : Outcome). test outcome.0) value b x y first second

  pub put_has : (L : ℕ) (name bytes : List ℕ) (state : State) → test (put_event L name bytes state).0 ≡ value
  unfolding put_event
  put_has L name bytes state =
      either_reply (not (list_any (has_name name) (region_of state L).secrets) && nat_le 22 (length (region_of state L).secrets)) _ _ (has.refused _) has.kept

  value_has : (secret : Option Secret) → test (value_reply secret) ≡ value
  value_has None = has.absent
  value_has (Some secret) = has.secret secret.value

  pub get_has : (L : ℕ) (name : List ℕ) (state : State) → test (get_event L name state).0 ≡ value
  unfolding get_event
  get_has L name state = value_has (find (has_name name) (region_of state L).secrets)

  pub drop_has : (L : ℕ) (name : List ℕ) (state : State) → test (drop_event L name state).0 ≡ value
  unfolding drop_event
  drop_has L name state = either_reply (list_any (has_name name) (region_of state L).secrets) _ _ has.dropped has.absent

  pub region_has : (world : World) (L : ℕ) (does : State → Outcome) (on : Result (ℕ × State) Refusal) → ((state : State) → test (does state).0 ≡ value) → test (region_event world L does on).0 ≡ value
  region_has world L does (Err refusal) each = has.refused _
  region_has world L does (Ok on) each =
      either_reply (nat_lt L on.0 || not (is_runnable on.1.layers L)) (refusal_reply WrongLayer, on.1) _ (has.refused _)
      (either_reply (takes_calls (code_in on.1.codes L)) (refusal_reply WrongCode, on.1) (does on.1) (has.refused _) (each on.1))

  pub boot_has : (world : World) (phase : Phase) (state : Option State) → test (boot_event world phase state).0 ≡ value
  boot_has world off (Some state) = has.booted
  boot_has world off None = has.refused _
  boot_has world dead state = has.refused _
  boot_has world (ratchet r) state = has.refused _

  pub status_has : (world : World) (on : Result (ℕ × State) Refusal) → test (status_event world on).0 ≡ value
  unfolding status_of
  status_has world (Err refusal) = has.refused _
  status_has world (Ok on) = has.status _ _ _ _ _ _

  either_told : (b : Bool) (x y : Told) → test x.0 ≡ value → test y.0 ≡ value → test (if b then x else y).0 ≡ value
  either_told b x y first second = either_has (λ (told : Told). test told.0) value b x y first second

  pub go_has : (world : World) (on : Result (ℕ × State) Refusal) → test (go_event world on).0 ≡ value
  go_has world (Err refusal) = has.refused _
  go_has world (Ok on) =
      either_told (nat_lt 2 on.0) _ _ (has.refused _) (either_told (is_runnable on.1.layers (on.0 + 1)) _ _ (has.at _) (has.refused _))

  order_has : (state : State) (text draw : List ℕ) (answer : Reply) (next : State) → OrderStep state text draw answer next → test answer ≡ value
  order_has state text draw answer next (spells_none p) = ap test p.answered ∙ has.refused _
  order_has state text draw answer next (fails_check p) = ap test p.answered ∙ has.refused _
  order_has state text draw answer next (is_obeyed p) = ap test p.answered ∙ has.done _ _

  pub command_has : (world : World) (text draw : List ℕ) (on : Result (ℕ × State) Refusal) (answer : Reply) (next : World) → CommandStep world text draw on answer next → test answer ≡ value
  command_has world text draw (Err refusal) answer next x = ap test x.0 ∙ has.refused _
  command_has world text draw (Ok on) answer next (inl x) = order_has on.1 text draw answer x.1.0 x.1.1
  command_has world text draw (Ok on) answer next (inr x) = ap test x.1 ∙ has.refused _
