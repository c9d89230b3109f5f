-- The examples of calls, computed.
use Rattle.std.proofs.Common.{◌≡◌, ℕ, zero, suc, ◌+◌, List, [], ◌∷◌, ◌++◌, length, ◌<◌, ◌≤◌, inl, inr, Option, Some, Ok, Err, true, refl, arith, lit<, lit≤}
use Rattle.std.specs.Prelude.{Result}
use Rattle.mb_format.specs.Format.{Spells}
use Rattle.mb_format.specs.Combinators.{items}
use Rattle.mb_format.specs.Reading.{reads_whole, raw_at, number_at}
use Rattle.mb_format.proofs.Whole.{IsExactWhole-from_exact}
use Rattle.mb_model.specs.declared.event.Event.TheVariants as event
use Rattle.mb_model.specs.declared.instruction.Instruction.{Instruction}
use Rattle.mb_model.specs.declared.instruction.Instruction.TheVariants as instruction
use Rattle.mb_model.specs.declared.instruction.Plain.TheVariants as plain
use Rattle.mb_model.specs.declared.region.Secret.{Secret}
use Rattle.mb_model.specs.declared.reply.Reply.TheVariants as reply
use Rattle.mb_model.specs.declared.running.AppEnd.TheVariants as end
use Rattle.mb_model.specs.declared.trap.Trap.TheVariants as trap
use Rattle.mb_model.specs.application.Application.{AppState, Surroundings, goes, run_halts, AppStep, unknown, does}
use Rattle.mb_model.specs.application.Instructions.{instruction_format, Stands}
use Rattle.mb_model.specs.application.Runs.{first_state, RunsTo, AppRun}
use Rattle.mb_model.specs.machine.Actions.{Action, name_format, value_format, demand_format, action_format, call_word}
use Rattle.mb_model.specs.machine.Calls.{after_demands, does_act, asks_nothing}
use Rattle.mb_model.specs.machine.LayerEvents.{with_secret, with_use, put_event, drop_event}
use Rattle.mb_model.specs.machine.Machine.{ratchet}
use Rattle.mb_model.specs.owners.Log.{number_of}
use Rattle.mb_model_lemmas.proofs.InstructionLemmas.{instruction_exact}
use Rattle.mb_model_lemmas.proofs.OneCallLemmas.{action_exact}
use Rattle.mb_model_examples.specs.StepExamples.{armed_at}
use Rattle.mb_model_examples.specs.CallExamples.{CodeExamples, ActionExamples, DemandExamples, with_code, answering, answered, CallExamples, SealedExamples, StoppedCallExamples}
use Rattle.mb_model_examples.proofs.RecordProofs.{byte_test, are_bytes, spells, fails}
use Rattle.mb_model_examples.proofs.StepProofs.{stops_between}

pub code_examples : CodeExamples
code_examples = record { none = refl; without = refl; five = refl; later = refl; word = refl; with_more = λ code. refl }

-- ---- actions

pub actions : ActionExamples
unfolding action_format demand_format name_format value_format items raw_at number_at
actions = record {
  nothing = spells action_exact _ _ refl refl;
  both = spells action_exact _ _ refl refl;
  empty = fails action_exact _ _ refl refl;
  left_over = fails action_exact _ _ refl refl;
  long_answer = fails action_exact _ _ refl refl;
  other_demand = fails action_exact _ _ refl refl;
  no_name = fails action_exact _ _ refl refl;
  space_in_name = fails action_exact _ _ refl refl;
}

pub demands : (signature : List ℕ) → DemandExamples signature
unfolding number_of with_secret put_event drop_event after_demands
demands signature = record {
  in_order = refl;
  not_there = refl;
  full = refl;
  made_room = refl;
  none_is_done = λ input output spelled. does_act _ spelled refl;
}

-- ---- runs

-- the instruction that is read at a place stands there
stands_at : (code : List ℕ) (place : ℕ) (it : Instruction) (next : ℕ) → byte_test code ≡ true → place ≤ length code → instruction_format.reads code place ≡ Ok (it, next) → Stands code place it next
stands_at code place it next small within e = instruction_exact.found code place it next (record { are_bytes = are_bytes code small; within = within }) e

never_both : {A : Type 0} (read : Result A ℕ) (offset : ℕ) (value : A) → read ≡ Err offset → read ≡ Ok value → ⊥
never_both read offset value failed found = grind (arith, failed, found)

-- where none is read, none stands
none_at : (code : List ℕ) (place offset : ℕ) → byte_test code ≡ true → place ≤ length code → instruction_format.reads code place ≡ Err offset
    → (it : Instruction) (next : ℕ) → Stands code place it next → ⊥
none_at code place offset small within e it next stands =
    never_both (instruction_format.reads code place) offset (it, next) e (instruction_exact.finds code place it next (record { are_bytes = are_bytes code small; within = within }) stands)

-- a machine without values, at this place
at_place : ℕ → List ℕ → AppState
at_place place output = record first_state { place = place; output = output }

push_step : (seen : Surroundings) (place number next : ℕ) (output : List ℕ) → Stands seen.code place (instruction.Push number) next
    → AppStep seen (at_place place output) (goes (record (at_place next output) { stack = number ∷ [] }))
unfolding at_place
push_step seen place number next output stands = does (instruction.Push number) next stands [] [] refl refl (lit≤ tt) refl

pop_step : (seen : Surroundings) (place number next : ℕ) (output : List ℕ) → Stands seen.code place (instruction.Plain plain.Pop) next
    → AppStep seen (record (at_place place output) { stack = number ∷ [] }) (goes (at_place next output))
unfolding at_place
pop_step seen place number next output stands = does (instruction.Plain plain.Pop) next stands [] (number ∷ []) refl refl (lit≤ tt) refl

emit_step : (seen : Surroundings) (place next : ℕ) (output : List ℕ) → length output < 4096 → Stands seen.code place (instruction.Plain plain.Emit) next
    → AppStep seen (record (at_place place output) { stack = 0 ∷ [] }) (goes (at_place next (output ++ 0 ∷ [])))
unfolding at_place
emit_step seen place next output room stands = does (instruction.Plain plain.Emit) next stands [] (0 ∷ []) refl refl (lit≤ tt) (inr (room, refl))

halt_step : (seen : Surroundings) (place next : ℕ) (output : List ℕ) → Stands seen.code place (instruction.Plain plain.Halt) next → AppStep seen (at_place place output) run_halts
unfolding at_place
halt_step seen place next output stands = does (instruction.Plain plain.Halt) next stands [] [] refl refl (lit≤ tt) refl

jump_step : (seen : Surroundings) (place to next : ℕ) (output : List ℕ) → Stands seen.code place (instruction.Jump to) next → AppStep seen (at_place place output) (goes (at_place to output))
unfolding at_place
jump_step seen place to next output stands = does (instruction.Jump to) next stands [] [] refl refl (lit≤ tt) refl

abbrev looping : List ℕ
looping = call_word ++ 0x20 ∷ 0 ∷ 6 ∷ []

abbrev halting : List ℕ
halting = call_word ++ 0x00 ∷ []

trap_run : (input : List ℕ) (secrets : ℕ → Option (List Secret)) → AppRun call_word input secrets 1000000 (end.Trap trap.NoInstruction 6 [])
unfolding at_place RunsTo instruction_format number_at
trap_run input secrets = (
  _,
  push_step _ 0 1296193585 5 [] (stands_at call_word 0 _ _ refl (lit≤ tt) refl),
  (
    _,
    pop_step _ 5 1296193585 6 [] (stands_at call_word 5 _ _ refl (lit≤ tt) refl),
    (_, unknown (none_at call_word 6 6 refl (lit≤ tt) refl) refl, refl),
  ),
)

halt_run : (input : List ℕ) (secrets : ℕ → Option (List Secret)) → AppRun halting input secrets 1000000 (end.Halted 3 [])
unfolding at_place RunsTo instruction_format number_at
halt_run input secrets = (
  _,
  push_step _ 0 1296193585 5 [] (stands_at halting 0 _ _ refl (lit≤ tt) refl),
  (
    _,
    pop_step _ 5 1296193585 6 [] (stands_at halting 5 _ _ refl (lit≤ tt) refl),
    (_, halt_step _ 6 7 [] (stands_at halting 6 _ _ refl (lit≤ tt) refl), refl),
  ),
)

answer_run : (input : List ℕ) (secrets : ℕ → Option (List Secret)) → AppRun answering input secrets 1000000 (end.Halted 7 (0 ∷ 0 ∷ []))
unfolding at_place RunsTo instruction_format number_at
answer_run input secrets = (
  _,
  push_step _ 0 1296193585 5 [] (stands_at answering 0 _ _ refl (lit≤ tt) refl),
  (
    _,
    pop_step _ 5 1296193585 6 [] (stands_at answering 5 _ _ refl (lit≤ tt) refl),
    (
      _,
      push_step _ 6 0 11 [] (stands_at answering 6 _ _ refl (lit≤ tt) refl),
      (
        _,
        emit_step _ 11 12 [] (lit< tt) (stands_at answering 11 _ _ refl (lit≤ tt) refl),
        (
          _,
          push_step _ 12 0 17 (0 ∷ []) (stands_at answering 12 _ _ refl (lit≤ tt) refl),
          (
            _,
            emit_step _ 17 18 (0 ∷ []) (lit< tt) (stands_at answering 17 _ _ refl (lit≤ tt) refl),
            (_, halt_step _ 18 19 (0 ∷ 0 ∷ []) (stands_at answering 18 _ _ refl (lit≤ tt) refl), refl),
          ),
        ),
      ),
    ),
  ),
)

-- a jump to itself goes on for ever
loops : (seen : Surroundings) → Stands seen.code 6 (instruction.Jump 6) 9 → (more steps : ℕ) → RunsTo seen (at_place 6 []) steps more (end.OutOfSteps [])
unfolding at_place RunsTo
loops seen stands zero steps = refl
loops seen stands (suc more) steps = (_, jump_step seen 6 6 9 [] stands, loops seen stands more (steps + 1))

loop_run : (input : List ℕ) (secrets : ℕ → Option (List Secret)) → AppRun looping input secrets 1000000 (end.OutOfSteps [])
unfolding at_place RunsTo instruction_format number_at
loop_run input secrets = (
  _,
  push_step _ 0 1296193585 5 [] (stands_at looping 0 _ _ refl (lit≤ tt) refl),
  (
    _,
    pop_step _ 5 1296193585 6 [] (stands_at looping 5 _ _ refl (lit≤ tt) refl),
    loops _ (stands_at looping 6 _ _ refl (lit≤ tt) refl) 999998 2,
  ),
)

-- ---- calls

-- no bytes spell no action
no_action : (action : Action) → Spells action_format [] action → ⊥
unfolding action_format items number_at
no_action action spelled =
    never_both (reads_whole action_format []) 0 action refl ((IsExactWhole-from_exact action_exact).finds [] action (are_bytes [] refl) spelled)

zeros : Spells action_format (0 ∷ 0 ∷ []) (record { demands = []; answer = [] })
zeros = actions.nothing

pub calls : (input signature : List ℕ) → CallExamples input signature
unfolding with_use after_demands
calls input signature = record {
  no_code = (_, inr (refl, refl), refl, refl);
  old_code = (_, inr (refl, inl (refl, refl)), refl, refl);
  five = (_, inr (refl, inl (refl, refl)), refl, refl);
  no_key = λ code. (_, inr (refl, inr (refl, refl)), refl, refl);
  spent = λ code. (_, inr (refl, inr (refl, refl)), refl, refl);
  trap = (_, inr (refl, inr (refl, record { ending = _; run = trap_run input _; ends = refl })), refl, refl);
  loop = (_, inr (refl, inr (refl, record { ending = _; run = loop_run input _; ends = refl })), refl, refl);
  no_action = (_, inr (refl, inr (refl, record { ending = _; run = halt_run input _; ends = asks_nothing no_action refl })), refl, refl);
  called = (_, inr (refl, inr (refl, record { ending = _; run = answer_run input _; ends = does_act _ zeros refl })), refl, refl);
  signed = (_, inr (refl, inr (refl, record { ending = _; run = answer_run input _; ends = does_act _ zeros refl })), refl, refl);
}

pub sealed : (code signature : List ℕ) → SealedExamples code signature
unfolding drop_event
sealed code signature = record {
  from_two = record { put = λ name value. refl; get = λ name. refl; drop = λ name. refl; sign = λ key message. refl };
  from_three = record { put = λ name value. refl; get = λ name. refl; drop = λ name. refl; sign = λ key message. refl };
  beneath = refl;
}

pub stopped_calls : (input signature : List ℕ) → StoppedCallExamples input signature
unfolding with_use after_demands
stopped_calls input signature = record {
  call =
      stops_between (armed_at (ratchet 3) (with_code 0 answering signature)) (event.Call 3 (Some 1) input) (reply.Signed 1 0 (answered 0 input signature))
      (armed_at (ratchet 3) (with_code 1 answering signature)) (with_code 0 answering signature) (with_code 1 answering signature) tt
      (_, inr (refl, inr (refl, record { ending = _; run = answer_run input _; ends = does_act _ zeros refl })), refl, refl) refl refl refl refl;
}
