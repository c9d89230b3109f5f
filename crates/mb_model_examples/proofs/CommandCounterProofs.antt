-- The counterexamples of commands, refuted.
use Rattle.std.proofs.Common.{◌≡◌, ℕ, zero, suc, ◌≤◌, List, [], ◌∷◌, length, take, inl, inr, Option, Some, true, sym, ap, ◌∙◌, arith}
use Rattle.std.specs.Prelude.{◌⊎◌, codes, slice_index}
use Rattle.std.proofs.lemmas.Bool.{false≢true}
use Rattle.std.proofs.lemmas.Option.{same_Some}
use Rattle.mb_model.specs.outside.Board.{loaded_once_more, having_answered}
use Rattle.mb_model_commands.specs.Outside.{Outside, count_after_call, read_once, FailsToRead, by_fault, by_absence}
use Rattle.mb_model_commands.specs.Commands.{Command, read, find, either_command, load, serve, rehearse, write, print, refuse, lack, Input, Output, Past, Ended, end_seen_from, InputEnds, input_is_too_long, input_is_faulty, input_is_not_read, memory_lacks, PrintEnds, text_is_printed, text_is_not_printed, CommandEnds, HasInputsFor}
use Rattle.mb_model_commands.specs.Inputs.{code_input}
use Rattle.mb_model_commands.specs.Keygen.{keygen}
use Rattle.mb_model_commands.specs.Sign.{sign, countersign}
use Rattle.mb_model_commands.specs.FactoryCommand.{factory}
use Rattle.mb_model_commands.specs.RunCommand.{run}
use Rattle.mb_model_commands.specs.VerifyCommand.{verify}
use Rattle.mb_model_commands.specs.ChainCommands.{chain, attach}
use Rattle.mb_model_commands.specs.AuditCommand.{audit}
use Rattle.mb_model_commands.specs.GenerateCommand.{generate}
use Rattle.mb_model_lemmas.proofs.Splits.{none_is_some}
use Rattle.mb_model_lemmas.proofs.LineLemmas.{cons_none}
use Rattle.mb_model_examples.specs.CommandCounterExamples.{StatusCounterExamples, CommandCounterExamples, FileCounterExamples, HostCounterExamples}

-- ---- statuses

input_statuses : {A : Type 0} (input : Input A) (past : Past) (e : Ended) → InputEnds input past e → (3 ≤ e.status)
input_statuses input past e (input_is_too_long held stops) = omega (arith, stops.status_is)
input_statuses input past e (input_is_faulty bytes has place fault stops) = omega (arith, stops.status_is)
input_statuses input past e (input_is_not_read mid fails stops) = omega (arith, stops.status_is)
input_statuses input past e (memory_lacks wants) = omega (arith, wants.stops.status_is)

print_statuses : (text : List ℕ) (past : Past) (e : Ended) → PrintEnds text past e → 1 ≤ e.status → e.status ≡ 5
print_statuses text past e (text_is_printed prints same status) least = absurd (omega (arith, status, least))
print_statuses text past e (text_is_not_printed mid fails stops) least = stops.status_is

statuses : (command : Command) (past : Past) (e : Ended) → 1 ≤ e.status → e.status ≤ 2 → CommandEnds command past e → ⊥
unfolding CommandEnds
statuses (read {A = A} input rest) past e least most (inl ends) = omega (arith, most, input_statuses input past e ends)
statuses (read {A = A} input rest) past e least most (inr it) = statuses (rest it.2.0) past (end_seen_from (read_once e.before) e) least most it.2.2
statuses (find {A = A} Is rest) past e least most (inl it) = statuses (rest it.0) past e least most it.2
statuses (find {A = A} Is rest) past e least most (inr wants) = omega (arith, most, wants.stops.status_is)
statuses (either_command If first second) past e least most (inl it) = statuses first past e least most it.1
statuses (either_command If first second) past e least most (inr (inl it)) = statuses second past e least most it.1
statuses (either_command If first second) past e least most (inr (inr wants)) = omega (arith, most, wants.stops.status_is)
statuses (load image rest) past e least most (inl it) = statuses rest (record past { used = loaded_once_more image past.used }) e least most it
statuses (load image rest) past e least most (inr wants) = omega (arith, most, wants.stops.status_is)
statuses (serve IsServed rest) past e least most it = statuses (rest e.used.answered e.final) (record past { used = e.used }) e least most it.2
statuses (rehearse IsRehearsed rest) past e least most it = statuses (rest it.0 it.1) (record past { used = having_answered it.0 past.used }) e least most it.3
statuses (write output rest) past e least most (inl ends) = omega (arith, most, ends.stops.status_is)
statuses (write output rest) past e least most (inr (inl it)) = statuses rest (record past { wrote = true }) (end_seen_from it.0 e) least most it.2
statuses (write output rest) past e least most (inr (inr wants)) = omega (arith, most, wants.stops.status_is)
statuses (print text) past e least most (inl ends) = omega (arith, most, print_statuses text past e ends least)
statuses (print text) past e least most (inr wants) = omega (arith, most, wants.stops.status_is)
statuses (refuse line) past e least most (inl stops) = omega (arith, most, stops.status_is)
statuses (refuse line) past e least most (inr wants) = omega (arith, most, wants.stops.status_is)
statuses lack past e least most stops = omega (arith, most, stops.status_is)

pub statuses_of_commands : (past : Past) (e : Ended) → StatusCounterExamples past e
statuses_of_commands past e = record {
  run = λ names. statuses (run names) past e;
  keygen = λ names. statuses (keygen names) past e;
  sign = λ names. statuses (sign names) past e;
  countersign = λ names. statuses (countersign names) past e;
  factory = λ names. statuses (factory names) past e;
  verify = λ names. statuses (verify names) past e;
  audit = λ names. statuses (audit names) past e;
  chain = λ names. statuses (chain names) past e;
  attach = λ names. statuses (attach names) past e;
  generate = λ names. statuses (generate names) past e;
}

-- ---- single commands

input_not_refused : {A : Type 0} (input : Input A) (past : Past) (e : Ended) → InputEnds input past e → e.status ≤ 6
input_not_refused input past e (input_is_too_long held stops) = omega (arith, stops.status_is)
input_not_refused input past e (input_is_faulty bytes has place fault stops) = omega (arith, stops.status_is)
input_not_refused input past e (input_is_not_read mid fails stops) = omega (arith, stops.status_is)
input_not_refused input past e (memory_lacks wants) = omega (arith, wants.stops.status_is)

-- a command that prints is done, or could not print, or lacked memory
print_status : (text : List ℕ) (past : Past) (e : Ended) → CommandEnds (print text) past e → (e.status ≡ 0) ⊎ (5 ≤ e.status) × (e.status ≤ 6)
unfolding CommandEnds
print_status text past e (inl (text_is_printed prints same status)) = inl status
print_status text past e (inl (text_is_not_printed mid fails stops)) = inr (omega (arith, stops.status_is), omega (arith, stops.status_is))
print_status text past e (inr wants) = inr (omega (arith, wants.stops.status_is), omega (arith, wants.stops.status_is))

not_four : (text : List ℕ) (past : Past) (e : Ended) → e.status ≡ 4 → CommandEnds (print text) past e → ⊥
not_four text past e four ends = elim (print_status text past e ends) [
  | inl done ↦ omega (arith, four, done)
  | inr other ↦ omega (arith, four, other.0)
]

not_seven : (text : List ℕ) (past : Past) (e : Ended) → e.status ≡ 7 → CommandEnds (print text) past e → ⊥
not_seven text past e seven ends = elim (print_status text past e ends) [
  | inl done ↦ omega (arith, seven, done)
  | inr other ↦ omega (arith, seven, other.1)
]

refused : (past : Past) (e : Ended) (text name : List ℕ) → e.status ≡ 7 → CommandEnds (read (code_input name) (λ code. print text)) past e → ⊥
unfolding CommandEnds
refused past e text name seven (inl ends) = omega (arith, seven, input_not_refused (code_input name) past e ends)
refused past e text name seven (inr it) = not_seven text past (end_seen_from (read_once e.before) e) seven it.2.2

found : (past : Past) (e : Ended) (text : List ℕ) → e.status ≡ 0 → CommandEnds (find (λ (n : ℕ). ⊥) (λ n. print text)) past e → ⊥
unfolding CommandEnds
found past e text done (inl it) = it.1
found past e text done (inr wants) = omega (arith, done, wants.stops.status_is)

not_four_written : (past : Past) (e : Ended) (text : List ℕ) (output : Output) → e.status ≡ 4 → CommandEnds (write output (print text)) past e → ⊥
unfolding CommandEnds
not_four_written past e text output four (inl ends) = omega (arith, four, ends.stops.status_is)
not_four_written past e text output four (inr (inl it)) = not_four text (record past { wrote = true }) (end_seen_from it.0 e) four it.2
not_four_written past e text output four (inr (inr wants)) = omega (arith, four, wants.stops.status_is)

late : (past : Past) (e : Ended) (text : List ℕ) → past.wrote ≡ true → e.status ≡ 6 → CommandEnds (print text) past e → ⊥
unfolding CommandEnds
late past e text wrote six (inl (text_is_printed prints same status)) = omega (arith, six, status)
late past e text wrote six (inl (text_is_not_printed mid fails stops)) = omega (arith, six, stops.status_is)
late past e text wrote six (inr wants) = false≢true (sym wants.first ∙ wrote)

other_text : (past : Past) (e : Ended) → e.before.printed ≡ Some [] → e.after.printed ≡ Some (codes "b") → e.status ≡ 0
    → CommandEnds (print (codes "a")) past e → ⊥
unfolding CommandEnds
other_text past e before after done (inl (text_is_printed prints same status)) =
    let texts = same_Some (codes "b") (codes "a") (sym after ∙ prints.adds [] before) in
    omega (arith, ap (λ (bytes : List ℕ). slice_index bytes 0) texts)
other_text past e before after done (inl (text_is_not_printed mid fails stops)) = omega (arith, done, stops.status_is)
other_text past e before after done (inr wants) = omega (arith, done, wants.stops.status_is)

-- a text that is printed leaves the files
print_leaves : (text : List ℕ) (past : Past) (e : Ended) → e.status ≡ 0 → CommandEnds (print text) past e → e.after.files ≡ e.before.files
unfolding CommandEnds
print_leaves text past e done (inl (text_is_printed prints same status)) = ap (λ (outside : Outside). outside.files) prints.stays
print_leaves text past e done (inl (text_is_not_printed mid fails stops)) = absurd (omega (arith, done, stops.status_is))
print_leaves text past e done (inr wants) = absurd (omega (arith, done, wants.stops.status_is))

not_written : (past : Past) (e : Ended) (text : List ℕ) (output : Output) (files now : List ℕ → Option (List ℕ)) → e.status ≡ 0
    → output.bytes ≡ 7 ∷ [] → e.before.files ≡ Some files → e.after.files ≡ Some now → now output.name ≡ Some []
    → CommandEnds (write output (print text)) past e → ⊥
unfolding CommandEnds
not_written past e text output files now done seven before after empty (inl ends) = omega (arith, done, ends.stops.status_is)
not_written past e text output files now done seven before after empty (inr (inl it)) =
    let stays = print_leaves text (record past { wrote = true }) (end_seen_from it.0 e) done it.2 in
    let held = it.1.holds now (sym stays ∙ after) in
    cons_none 7 [] (same_Some [] output.bytes (sym empty ∙ held) ∙ seven)
not_written past e text output files now done seven before after empty (inr (inr wants)) = omega (arith, done, wants.stops.status_is)

pub commands : (past : Past) (e : Ended) (text : List ℕ) → CommandCounterExamples past e text
commands past e text = record {
  refused = refused past e text;
  found = found past e text;
  not_read = not_four_written past e text;
  late = late past e text;
  other_text = other_text past e;
  not_written = not_written past e text;
}

pub files : (name text : List ℕ) (files : List ℕ → Option (List ℕ)) → FileCounterExamples name text files
unfolding HasInputsFor
files name text told = record { absent = λ none has. none_is_some (told name) has.0 none has.1 }

-- ---- hosts

counted : (name : List ℕ) (before after : Outside) → before.reads ≡ 0 → after.reads ≡ 0 → FailsToRead name before after → ⊥
unfolding count_after_call
counted name before after none still (by_fault e) =
    omega (arith, sym still ∙ ap (λ (outside : Outside). outside.reads) e ∙ ap count_after_call none)
counted name before after none still (by_absence absent e) =
    omega (arith, sym still ∙ ap (λ (outside : Outside). outside.reads) e ∙ ap count_after_call none)

other_front : (part : ℕ) → codes "b" ≡ take part (codes "a") → ⊥
other_front zero e = omega (arith, ap length e)
other_front (suc part) e = omega (arith, ap (λ (bytes : List ℕ). slice_index bytes 0) e)

pub hosts : (before after : Outside) (name bytes : List ℕ) → HostCounterExamples before after name bytes
hosts before after name bytes = record {
  too_long = λ long has. omega (arith, long, has.fits);
  other_bytes = λ files told empty has. cons_none 7 [] (same_Some [] (7 ∷ []) (sym empty ∙ has.held files told));
  no_byte = λ high has. omega (arith, high, has.are_bytes 0);
  uncounted = counted name before after;
  other_text = λ nothing printed fails. other_front fails.part (same_Some (codes "b") (take fails.part (codes "a")) (sym printed ∙ fails.adds [] nothing));
}
