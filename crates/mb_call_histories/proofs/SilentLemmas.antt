-- Code that answers nothing at all, and a statement of a call of it.
use Rattle.std.proofs.Common.{◌≡◌, ◌<◌, ◌≤◌, ℕ, zero, suc, List, [], ◌∷◌, ◌++◌, length, inr, Option, Some, Ok, Err, Bool, true, false, ltb, refl, sym, ap, ◌∙◌, subst, arith, lit<, lit≤}
use Rattle.std.specs.Prelude.{Result, ◌&&◌, not, nat_le, IsTrue, find, if◌then◌else◌}
use Rattle.std.proofs.lemmas.Bool.{ltb-true, and_parts}
use Rattle.std.proofs.lemmas.Option.{same_Some}
use Rattle.sha2.specs.Sha256.{sha256}
use Rattle.sha2.proofs.Facts256.{length-sha256}
use Rattle.mb_format.specs.Format.{IsBytes, Spells}
use Rattle.mb_format.specs.Combinators.{items}
use Rattle.mb_format.specs.Reading.{reads_whole, number_at, raw_at}
use Rattle.mb_format.proofs.Whole.{IsExactWhole-from_exact}
use Rattle.mb_model.specs.declared.entry.Said.TheVariants.{Answer}
use Rattle.mb_model.specs.declared.event.Event.TheVariants as event
use Rattle.mb_model.specs.declared.instruction.Instruction.{Instruction}
use Rattle.mb_model.specs.declared.instruction.Instruction.TheVariants as instruction
use Rattle.mb_model.specs.declared.instruction.Plain.TheVariants as plain
use Rattle.mb_model.specs.declared.region.RegionKey.{RegionKey}
use Rattle.mb_model.specs.declared.region.Secret.{Secret}
use Rattle.mb_model.specs.declared.reply.Refusal.{Refusal}
use Rattle.mb_model.specs.declared.reply.Refusal.TheVariants.{KeySpent}
use Rattle.mb_model.specs.declared.reply.Reply.TheVariants as reply
use Rattle.mb_model.specs.declared.running.AppEnd.{AppEnd}
use Rattle.mb_model.specs.declared.running.AppEnd.TheVariants as end
use Rattle.mb_model.specs.declared.state.State.{State}
use Rattle.mb_model.specs.application.Application.{AppState, Surroundings, goes, run_halts, AppStep, does}
use Rattle.mb_model.specs.application.Instructions.{instruction_format, Stands}
use Rattle.mb_model.specs.application.Runs.{first_state, RunsTo, AppRun, readable_secrets}
use Rattle.mb_model.specs.machine.Actions.{Action, name_format, value_format, demand_format, action_format, call_word}
use Rattle.mb_model.specs.machine.Calls.{Call, usable_key, key_for, after_demands, call_statement_of, answer_by, does_act, WithKey, WithCode, OnLayer}
use Rattle.mb_model.specs.machine.LayerEvents.{Outcome, has_number, with_use, code_in}
use Rattle.mb_model.specs.machine.Machine.{Step, machine_step}
use Rattle.mb_model.specs.owners.Layers.{is_runnable}
use Rattle.mb_model.specs.owners.Regions.{region_of, with_region}
use Rattle.mb_model.specs.records.ChainFormat.{answered_format, said_format, statement_format}
use Rattle.mb_model.specs.signatures.Signing.{public_of}
use Rattle.mb_model.specs.machine.Machine.{opening_world}
use Rattle.mb_model_lemmas.proofs.Determined.{runs_end_once}
use Rattle.mb_model_lemmas.proofs.InstructionLemmas.{instruction_exact}
use Rattle.mb_model_lemmas.proofs.OneCallLemmas.{action_exact}
use Rattle.mb_model_runs.specs.StatementLaws.{statement_saying}
use Rattle.mb_model_histories.specs.UseLaws.{state_begun}
use Rattle.mb_model_histories.proofs.ReplayLemmas.{key_found, fresh, running_world}
use Rattle.mb_model_histories.proofs.UseLemmas.{IsReady, comes_ready, ready_comes, shows_statement}
use Rattle.mb_call_histories.specs.AcceptedCallLaws.{silent_code, CallsCanBeMade, HaltingCodeAnswersNothing}

-- ---- bytes

abbrev byte_test : List ℕ → Bool
byte_test [] = true
byte_test (byte ∷ bytes) = ltb byte 256 && byte_test bytes

are_bytes : (bytes : List ℕ) → byte_test bytes ≡ true → IsBytes bytes
are_bytes [] h i = omega arith
are_bytes (byte ∷ bytes) h zero = ltb-true byte 256 (and_parts (ltb byte 256) (byte_test bytes) h).0
are_bytes (byte ∷ bytes) h (suc i) = are_bytes bytes (and_parts (ltb byte 256) (byte_test bytes) h).1 i

never_both : {A : Type 0} (read : Result A ℕ) (offset : ℕ) (value : A) → read ≡ Err offset → read ≡ Ok value → ⊥
never_both read offset value failed found = grind (arith, failed, found)

-- two bytes 0 are an action that asks for nothing
nothing_asked : Spells action_format (0 ∷ 0 ∷ []) (record { demands = []; answer = [] })
unfolding action_format demand_format name_format value_format items raw_at number_at
nothing_asked = (IsExactWhole-from_exact action_exact).found _ _ (are_bytes (0 ∷ 0 ∷ []) refl) refl

-- no bytes are none
no_action : (action : Action) → Spells action_format [] action → ⊥
unfolding action_format items number_at
no_action action spelled =
    never_both (reads_whole action_format []) 0 action refl ((IsExactWhole-from_exact action_exact).finds [] action (are_bytes [] refl) spelled)

-- ---- runs

-- the instruction that is read at a place stands there
stands_at : (code : List ℕ) (place : ℕ) (it : Instruction) (next : ℕ) → byte_test code ≡ true → place ≤ length code → instruction_format.reads code place ≡ Ok (it, next) → Stands code place it next
stands_at code place it next small within e = instruction_exact.found code place it next (record { are_bytes = are_bytes code small; within = within }) e

-- a machine without values, at this place
at_place : ℕ → List ℕ → AppState
at_place place output = record first_state { place = place; output = output }

push_step : (seen : Surroundings) (place number next : ℕ) (output : List ℕ) → Stands seen.code place (instruction.Push number) next
    → AppStep seen (at_place place output) (goes (record (at_place next output) { stack = number ∷ [] }))
unfolding at_place
push_step seen place number next output stands = does (instruction.Push number) next stands [] [] refl refl (lit≤ tt) refl

pop_step : (seen : Surroundings) (place number next : ℕ) (output : List ℕ) → Stands seen.code place (instruction.Plain plain.Pop) next
    → AppStep seen (record (at_place place output) { stack = number ∷ [] }) (goes (at_place next output))
unfolding at_place
pop_step seen place number next output stands = does (instruction.Plain plain.Pop) next stands [] (number ∷ []) refl refl (lit≤ tt) refl

emit_step : (seen : Surroundings) (place next : ℕ) (output : List ℕ) → length output < 4096 → Stands seen.code place (instruction.Plain plain.Emit) next
    → AppStep seen (record (at_place place output) { stack = 0 ∷ [] }) (goes (at_place next (output ++ 0 ∷ [])))
unfolding at_place
emit_step seen place next output room stands = does (instruction.Plain plain.Emit) next stands [] (0 ∷ []) refl refl (lit≤ tt) (inr (room, refl))

halt_step : (seen : Surroundings) (place next : ℕ) (output : List ℕ) → Stands seen.code place (instruction.Plain plain.Halt) next → AppStep seen (at_place place output) run_halts
unfolding at_place
halt_step seen place next output stands = does (instruction.Plain plain.Halt) next stands [] [] refl refl (lit≤ tt) refl

abbrev halting : List ℕ
halting = call_word ++ 0x00 ∷ []

halt_run : (input : List ℕ) (secrets : ℕ → Option (List Secret)) → AppRun halting input secrets 1000000 (end.Halted 3 [])
unfolding at_place RunsTo instruction_format number_at
halt_run input secrets = (
  _,
  push_step _ 0 1296193585 5 [] (stands_at halting 0 _ _ refl (lit≤ tt) refl),
  (
    _,
    pop_step _ 5 1296193585 6 [] (stands_at halting 5 _ _ refl (lit≤ tt) refl),
    (_, halt_step _ 6 7 [] (stands_at halting 6 _ _ refl (lit≤ tt) refl), refl),
  ),
)

silent_run : (input : List ℕ) (secrets : ℕ → Option (List Secret)) → AppRun silent_code input secrets 1000000 (end.Halted 7 (0 ∷ 0 ∷ []))
unfolding at_place RunsTo instruction_format number_at
silent_run input secrets = (
  _,
  push_step _ 0 1296193585 5 [] (stands_at silent_code 0 _ _ refl (lit≤ tt) refl),
  (
    _,
    pop_step _ 5 1296193585 6 [] (stands_at silent_code 5 _ _ refl (lit≤ tt) refl),
    (
      _,
      push_step _ 6 0 11 [] (stands_at silent_code 6 _ _ refl (lit≤ tt) refl),
      (
        _,
        emit_step _ 11 12 [] (lit< tt) (stands_at silent_code 11 _ _ refl (lit≤ tt) refl),
        (
          _,
          push_step _ 12 0 17 (0 ∷ []) (stands_at silent_code 12 _ _ refl (lit≤ tt) refl),
          (
            _,
            emit_step _ 17 18 (0 ∷ []) (lit< tt) (stands_at silent_code 17 _ _ refl (lit≤ tt) refl),
            (_, halt_step _ 18 19 (0 ∷ 0 ∷ []) (stands_at silent_code 18 _ _ refl (lit≤ tt) refl), refl),
          ),
        ),
      ),
    ),
  ),
)

-- ---- code that halts at once

output_in : AppEnd → List ℕ
output_in (end.Halted steps output) = output
output_in other = []

pub halting_code_answers_nothing : HaltingCodeAnswersNothing
unfolding output_in
halting_code_answers_nothing state layer input answer stored ran =
    let secrets : ℕ → Option (List Secret) = readable_secrets state.layers layer state.two state.three in
    let code : ran.code ≡ halting = same_Some ran.code halting (sym ran.stored ∙ stored) in
    let run : AppRun halting input secrets 1000000 (end.Halted ran.steps ran.output) =
    subst (λ (c : List ℕ). AppRun c input secrets 1000000 (end.Halted ran.steps ran.output)) code ran.run in
    let ends : end.Halted ran.steps ran.output ≡ end.Halted 3 [] = runs_end_once halting input secrets 1000000 _ _ run (halt_run input secrets) in
    no_action ran.action (subst (λ (output : List ℕ). Spells action_format output ran.action) (ap output_in ends) ran.spelled)

-- ---- a statement of a call

-- the code answers at layer 2, while layer 1 is in control
module _ (state : State) (key : RegionKey) (input : List ℕ) (runs : IsTrue (is_runnable state.layers 2)) (stored : code_in state.codes 2 ≡ Some silent_code)
    (found : find (has_number key.number) (region_of state 2).keys ≡ Some key) (left : nat_le 32 key.uses ≡ false) where
  abbrev call : Call
  call = record { layer = 2; key = Some key.number; input = input }

  abbrev used : State
  used = with_region state 2 (record (region_of state 2) { keys = with_use key.number (region_of state 2).keys })

  outcome : Outcome
  outcome = answer_by 2 (Some key) input [] state state

  usable : (spent : Bool) → spent ≡ false → ◌≡◌ {A = Result (Option RegionKey) Refusal} (if spent then Err KeySpent else Ok (Some key)) (Ok (Some key))
  usable true is = absurd (grind (arith, is))
  usable false is = refl

  key_there : key_for call.key (region_of state 2) ≡ Ok (Some key)
  key_there = ap usable_key found ∙ usable (nat_le 32 key.uses) left

  coded : WithCode state call (code_in state.codes 2) outcome
  unfolding outcome after_demands
  coded =
      subst (λ (code : Option (List ℕ)). WithCode state call code (answer_by 2 (Some key) input [] state state)) (sym stored)
      (inr (
        refl,
        subst (λ (k : Result (Option RegionKey) Refusal). WithKey state call silent_code k (answer_by 2 (Some key) input [] state state)) (sym key_there)
            (record { ending = end.Halted 7 (0 ∷ 0 ∷ []); run = silent_run input (readable_secrets state.layers 2 state.two state.three); ends = does_act _ nothing_asked refl }),
      ))

  calls : OnLayer 1 call state outcome
  calls = inr (ap (λ (b : Bool). not b) runs, coded)

  call_step : Step (running_world state) (event.Call 2 (Some key.number) input) (reply.Signed key.number key.uses (statement_format.spelling (statement_saying state key (Answer (sha256 input) [])))) (running_world used)
  unfolding outcome call_statement_of statement_saying
  call_step = machine_step (outcome, calls, refl, refl)

answer_fits : (hash : List ℕ) → length hash ≡ 32 → said_format.Allowed (Answer hash [])
unfolding said_format answered_format
answer_fits hash long = ((omega arith, omega arith), (long, ((omega arith, omega arith), refl)))

pub calls_can_be_made : CallsCanBeMade
calls_can_be_made its image input can made code =
    let ready : IsReady its image = comes_ready its image can made in
    let few : ready.key.uses < 32 = omega (arith, ready.at.unused) in
    shows_statement (public_of its.maker) (opening_world (Some (state_begun its))) ready.state _ ready.key (Answer (sha256 input) [])
    (event.Call 2 (Some ready.key.number) input) ready.valid ready.at.within few ready.stored (answer_fits (sha256 input) (length-sha256 input)) ready.bears (ready_comes its image ready)
    (input, refl, refl)
    (call_step ready.state ready.key input ready.at.may_run (ready.at.stored ∙ ap Some code) (key_found ready.state 2 ready.key ready.valid ready.at.within) (fresh ready.key.uses few))
