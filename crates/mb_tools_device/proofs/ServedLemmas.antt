-- What a board shows that was loaded and has served events.
use Rattle.std.proofs.Common.{◌≡◌, ℕ, ◌+◌, ◌≤◌, Bool, true, false, List, [], ◌∷◌, length, length-append, map, ◌++◌, Option, Some, Result, refl, sym, ◌∙◌, ap, subst, arith}
use Rattle.std.specs.Prelude.{All, nat_lt, if◌then◌else◌}
use Rattle.std.proofs.lemmas.List.{length-map}
use Rattle.std.proofs.lemmas.List.Elements.{All-nil, All-cons, All-head, All-tail}
use Rattle.mb_model.specs.declared.event.Event.{Event}
use Rattle.mb_model.specs.declared.event.Answered.{Answered}
use Rattle.mb_model.specs.declared.state.State.{State}
use Rattle.mb_model.specs.machine.Machine.{World, opening_world, off}
use Rattle.mb_model.specs.memories.Meaning.{StandsFor, IsWellFormed}
use Rattle.mb_model.specs.chains.Script.{IsScriptEvent}
use Rattle.mb_model.specs.outside.Board.{Memory, Ledger, Meter, Held, Used, IsLoaded, image_of, phase_at, held_at_load, ledger_at_load, counted_load, use_of, not_used, loaded_once_more, having_answered}
use Rattle.mb_model.specs.memories.Acknowledged.{Shows}
use Rattle.mb_model.specs.memories.Clean.{Clean}
use Rattle.mb_model_commands.specs.RunCommand.{IsServed}
use Rattle.mb_model_commands.specs.Inputs.{Image}
use Rattle.mb_board.specs.Calls.{Seen, IsBetweenEvents, held_by}
use Rattle.mb_device.specs.Served.{IsServedFrom}
use Rattle.mb_model_lemmas.proofs.FaultLemmas.{image_parts}
use Rattle.mb_model_lemmas.proofs.LineLemmas.{cons_same}
use Rattle.mb_model_lemmas.proofs.ValidStates.{kept_rightly}
use Rattle.mb_model_runs.proofs.SoundLemmas.{run_is_sound}
use Rattle.mb_model_runs.proofs.StatementLemmas.{statements_stay_accepted}
use Rattle.mb_tools_device.specs.Holding.{HoldsAnswered}
use Rattle.mb_tools.proofs.ImageLemmas.{image_stored}

-- ---- the board after the load

-- an image has the length of both memories
pub image_sized : (image : List ℕ) (state : Option State) → IsWellFormed image state → length image ≡ 1077248
image_sized image state formed = omega (arith, ap length formed.image_is.0, length-append formed.flash formed.bbram, formed.image_is.1.flash, formed.image_is.1.bbram)

-- a board on which an image was loaded shows the world that opens with the image's state
pub loaded_shows : (memory : Memory) (power : Bool) (level : ℕ) (meter : Meter) (image : List ℕ) (state : Option State) → IsLoaded memory → image_of memory ≡ image
    → power ≡ false → meter.armed ≡ false → IsWellFormed image state → Shows (held_by memory power level meter) (opening_world state)
loaded_shows memory power level meter image state sized is dark none held =
    let parts = image_parts image held.flash held.bbram memory.flash memory.bbram held.image_is (sym is, sized) in
    record {
      stands = subst (λ f. StandsFor f memory.bbram state) parts.0 (subst (λ b. StandsFor held.flash b state) parts.1 held.stands);
      phase = sym (ap (λ (p : Bool). phase_at p level) dark);
      armed = sym none;
    }

-- what a board with its power off holds
dark_held : (memory : Memory) (power : Bool) (level : ℕ) (meter : Meter) → power ≡ false → meter.armed ≡ false → held_by memory power level meter ≡ held_at_load memory
dark_held memory power level meter dark none = ap (λ (b : Bool). let h : Held = record { memory = memory; phase = phase_at b level; armed = meter.armed } in h) dark
    ∙ ap (λ (b : Bool). let h : Held = record { memory = memory; phase = off; armed = b } in h) none

-- so it holds what it would have held at an answer, and no power loss has stopped a call since
pub loaded_between : {loads : ℕ} (old board : Seen) (events : List Event) → board.ledger ≡ ledger_at_load loads old.meter.stops board.memory events → board.power ≡ false
    → board.meter ≡ record old.meter { armed = false; writes = 0 } → IsBetweenEvents board
loaded_between old board events is dark metered = record {
  none_out = ap (λ (l : Ledger). l.out) is;
  standing = ap (λ (l : Ledger). l.standing) is ∙ sym (dark_held board.memory board.power board.level board.meter dark (ap (λ (m : Meter). m.armed) metered));
  stops = ap (λ (l : Ledger). l.stops) is ∙ sym (ap (λ (m : Meter). m.stops) metered);
}

-- the count of loads is never 0 after a load
counted_some : (loads : ℕ) → 1 ≤ counted_load loads
counted_some loads = by (nat_lt loads 1000) refl
  where
    by : (less : Bool) → nat_lt loads 1000 ≡ less → 1 ≤ (if less then loads + 1 else loads)
    by true is = omega arith
    by false is = grind (arith, is)

pub loaded_once : {stops : ℕ} (loads : ℕ) (memory : Memory) (events : List Event) (ledger : Ledger) → ledger ≡ ledger_at_load (counted_load loads) stops memory events → 1 ≤ ledger.loads
loaded_once loads memory events ledger is = subst (λ (n : ℕ). 1 ≤ n) (sym (ap (λ (l : Ledger). l.loads) is)) (counted_some loads)

-- answers leave the count of loads
pub served_once : (before after : Ledger) → 1 ≤ before.loads → use_of after ≡ having_answered after.answered (use_of before) → 1 ≤ after.loads
served_once before after once used = subst (λ (n : ℕ). 1 ≤ n) (sym (ap (λ (u : Used). u.loads) used)) once

-- how a board was used that was just loaded
pub loaded_use : {stops : ℕ} (image : List ℕ) (past : Used) (memory : Memory) (events : List Event) (old ledger : Ledger) → use_of old ≡ past → ledger ≡ ledger_at_load (counted_load old.loads) stops memory events → image_of memory ≡ image
    → use_of ledger ≡ loaded_once_more image past
loaded_use image past memory events old ledger was is bytes =
    ap (λ (l : Ledger). use_of l) is
    ∙ ap (λ (i : List ℕ). let u : Used = record { loads = counted_load old.loads; image = i; answered = [] } in u) bytes
    ∙ ap (λ (u : Used). loaded_once_more image u) was

-- ---- the events

-- as many events were answered as waited
pub answered_count : (world : World) (before after : Ledger) (held : Held) → IsServedFrom world before after held → length after.answered ≡ length before.answered + length before.waiting
answered_count world before after held from =
    omega (arith, ap length from.grown, length-append before.answered from.more, ap length from.all, length-map {A = Answered} {B = Event} from.more (λ a. a.event))

pub all_answered : {image : Image} {events : List Event} {answered : List Answered} {final : Held} → IsServed image events answered final → length answered ≡ length events
all_answered {answered = answered} served = sym (length-map {A = Answered} {B = Event} answered (λ a. a.event)) ∙ ap length served.all

-- events that were answered are those of a script, where those are that were given
all_scripted : (answered : List Answered) (events : List Event) → map (λ a. a.event) answered ≡ events → All IsScriptEvent events → All (λ a. IsScriptEvent a.event) answered
all_scripted [] events same scripts = All-nil (λ (a : Answered). IsScriptEvent a.event)
all_scripted (this ∷ rest) [] same scripts = absurd (omega (arith, ap length same))
all_scripted (this ∷ rest) (event ∷ events) same scripts =
    let parts = cons_same this.event event (map (λ a. a.event) rest) events same in
    All-cons (λ (a : Answered). IsScriptEvent a.event) this rest (subst IsScriptEvent (sym parts.0) (All-head IsScriptEvent event events scripts))
    (all_scripted rest events parts.1 (All-tail IsScriptEvent event events scripts))

-- The events were served from the world that opens with an image's state, and the board holds what it held at the last
-- answer.
pub served_whole : {loads stops : ℕ} (image : List ℕ) (state : Option State) (events : List Event) (memory : Memory) (before after : Ledger) (held : Held) → IsWellFormed image state → All IsScriptEvent events
    → before ≡ ledger_at_load loads stops memory events → IsLoaded memory → image_of memory ≡ image → after.standing ≡ held → IsServedFrom (opening_world state) before after held
    → IsServed (record { bytes = image; state = state }) events after.answered after.standing
served_whole image state events memory before after held formed scripts is sized loaded standing from =
    let whole : Image = record { bytes = image; state = state } in
    let grown : after.answered ≡ from.more = from.grown ∙ ap (λ l. l.answered ++ from.more) is in
    let all : map (λ a. a.event) from.more ≡ events = from.all ∙ ap (λ l. l.waiting) is in
    subst (λ a. IsServed whole events a after.standing) (sym grown) (subst (λ h. IsServed whole events from.more h) (sym standing) (record {
      all = all;
      last = from.last;
      run = from.run;
      shown = from.shown;
      bytes = from.bytes;
      clean = from.clean;
      kept = kept_rightly from.last.state from.valid;
      sound = run_is_sound (opening_world state) from.more from.last from.run formed.valid;
      accepted = statements_stay_accepted (opening_world state) from.more from.last from.run (all_scripted from.more events all scripts) formed.valid (image_stored image state formed);
      untouched = λ all. ap image_of (from.untouched all ∙ ap (λ (l : Ledger). l.standing.memory) is) ∙ loaded;
      quiet = λ clean all. (
          let at : before.standing.memory ≡ memory = ap (λ (l : Ledger). l.standing.memory) is in
          let parts = image_parts image clean.memory.flash clean.memory.bbram memory.flash memory.bbram (sym clean.same, clean.sized) (sym loaded, sized) in
          let held : Clean before.standing.memory.bbram (Some clean.state) =
          subst (λ (m : Memory). Clean m.bbram (Some clean.state)) (sym at) (subst (λ (b : List ℕ). Clean b (Some clean.state)) parts.1 clean.clean) in
          ap image_of (from.quiet clean.state held all ∙ at) ∙ loaded);
    }))

-- ---- the end

-- what a board holds that has served its events, whether the command is done then or not
pub holds_done : {Done : Type 0} {seen : Seen} → HoldsAnswered (Unit {0}) seen → HoldsAnswered Done seen
holds_done holds = record { loaded = holds.loaded; between = holds.between; none_waits = λ done. holds.none_waits tt }
