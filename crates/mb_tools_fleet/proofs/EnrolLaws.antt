-- Enrolments, one after another and each by itself.
use Rattle.std.proofs.Common.{◌≡◌, ◌≢◌, ℕ, ◌<◌, ◌⊎◌, ◌↔◌, inl, inr, List, [], ◌∷◌, ◌++◌, length, map, Option, Some, true, refl, sym, ap, subst, ◌∙◌, arith, length-append, append-nil}
use Rattle.std.proofs.lemmas.List.{append_cancel_left, nil_from_length}
use Rattle.std.proofs.lemmas.List.Concat.{flat_map-cons}
use Rattle.mb_model.specs.declared.key.PublicKey.{PublicKey}
use Rattle.mb_model.specs.outside.Texts.{line_with_lf}
use Rattle.mb_model.specs.chains.Lines.{text_of}
use Rattle.mb_model_commands.specs.Outside.{Outside, HasRisen, read_once, WritesFile, Prints}
use Rattle.mb_model_commands.specs.Commands.{Input, print, refuse, Past, Ended, SaysLine, Stops, WantsMemory, InputEnds, input_is_too_long, input_is_faulty, input_is_not_read, memory_lacks, PrintEnds, text_is_printed, text_is_not_printed, CommandEnds, IsFaultless, at_first}
use Rattle.mb_model_lemmas.proofs.LineLemmas.{cons_same}
use Rattle.mb_console.proofs.Completing.{raised_rises}
use Rattle.mb_fleet.specs.declared.row.Row.{Row}
use Rattle.mb_fleet.specs.declared.item.Item.TheVariants.{Show}
use Rattle.mb_fleet.specs.RegisterFormat.{register_format}
use Rattle.mb_fleet.specs.Serving.{answer_line, FleetRun}
use Rattle.mb_fleet.specs.Showing as answers
use Rattle.mb_fleet.specs.Showing.{Answer, IsShorter, Meets, is_added, is_full, is_same, is_extended, is_older, is_forked, IsChainAnswered, is_chain_refused, is_shown}
use Rattle.mb_model_commands.specs.Inputs.{root_input, chain_bytes_input}
use Rattle.mb_fleet.specs.Laws.{register_input}
use Rattle.mb_tools_fleet.specs.EnrolCommand.{EnrolNames, Enrolment, ComesToEnrolment, write_register, tell_answer, enrol}
use Rattle.mb_tools_fleet.specs.FleetLaws.{AreEnrolled, IsChange, IsRegisterWritten, IsServedAsOneItem, EnrolmentsAreARun}

-- ---- one after another

enrolled_run : (maker : PublicKey) (rows : List Row) (chains : List (List ℕ)) (answers : List Answer) (after : List Row) → AreEnrolled maker rows chains answers after
    → FleetRun maker rows (map (λ (chain : List ℕ). Show chain) chains) (map answer_line answers) after
enrolled_run maker rows [] answers after (none, same) = (ap (map answer_line) none, same)
enrolled_run maker rows (chain ∷ chains) answers after (answer, rest, between, shown, more, whole) = (
  answer_line answer ∷ [],
  map answer_line rest,
  between,
  (answer, shown, refl),
  enrolled_run maker between chains rest after more,
  ap (map answer_line) whole,
)

run_enrolled : (maker : PublicKey) (rows : List Row) (chains lines : List (List ℕ)) (after : List Row) → FleetRun maker rows (map (λ (chain : List ℕ). Show chain) chains) lines after
    → (answers : List Answer) × AreEnrolled maker rows chains answers after × (lines ≡ map answer_line answers)
run_enrolled maker rows [] lines after (none, same) = ([], (refl, same), none)
run_enrolled maker rows (chain ∷ chains) lines after (first, rest, between, (answer, shown, first_is), more, whole) =
    let later = run_enrolled maker between chains rest after more in (
      answer ∷ later.0,
      (answer, later.0, between, shown, later.1, refl),
      whole ∙ ap (λ (xs : List (List ℕ)). xs ++ rest) first_is ∙ ap (λ (xs : List (List ℕ)). answer_line answer ∷ xs) later.2,
    )

-- ---- whether the rows have changed

-- they have changed, or are the same
abbrev Changes : Answer → List Row → List Row → Type 0
Changes answer rows after = (IsChange answer × (after ≢ rows)) ⊎ ((IsChange answer → ⊥) × (after ≡ rows))

row_more : (rows after before later : List Row) (row : Row) → rows ≡ before ++ later → after ≡ before ++ row ∷ later → after ≢ rows
row_more rows after before later row split whole same =
    omega (arith, ap length split, ap length whole, ap length same, length-append before later, length-append before (row ∷ later))

row_longer : (rows after before later : List Row) (row old : Row) → rows ≡ before ++ old ∷ later → IsShorter old.hashes row.hashes → after ≡ before ++ row ∷ later → after ≢ rows
row_longer rows after before later row old split shorter whole same =
    let rest = append_cancel_left before (row ∷ later) (old ∷ later) (sym whole ∙ same ∙ split) in
    let one : row ≡ old = (cons_same row old later later rest).0 in
    shorter.some (nil_from_length shorter.more
    (omega (arith, ap (λ (r : Row). length r.hashes) one, ap length shorter.whole, length-append old.hashes shorter.more)))

met_changes : (rows : List Row) (row : Row) (answer : Answer) (after : List Row) → Meets rows row answer after → Changes answer rows after
met_changes rows row answer after (is_added new few before later split stands whole is) =
    subst (λ (a : Answer). Changes a rows after) (sym is) (inl (tt, row_more rows after before later row split whole))
met_changes rows row answer after (is_full new many kept is) = subst (λ (a : Answer). Changes a rows after) (sym is) (inr ((λ change. change), kept))
met_changes rows row answer after (is_same before old later has equal kept is) = subst (λ (a : Answer). Changes a rows after) (sym is) (inr ((λ change. change), kept))
met_changes rows row answer after (is_extended before old later has shorter whole is) =
    subst (λ (a : Answer). Changes a rows after) (sym is) (inl (tt, row_longer rows after before later row old has.split shorter whole))
met_changes rows row answer after (is_older before old later has shorter kept is) = subst (λ (a : Answer). Changes a rows after) (sym is) (inr ((λ change. change), kept))
met_changes rows row answer after (is_forked before old later has place differ kept is) = subst (λ (a : Answer). Changes a rows after) (sym is) (inr ((λ change. change), kept))

answer_changes : (maker : PublicKey) (rows : List Row) (chain : List ℕ) (answer : Answer) (after : List Row) → IsChainAnswered maker rows chain answer after → Changes answer rows after
answer_changes maker rows chain answer after (is_chain_refused why refused kept is) = subst (λ (a : Answer). Changes a rows after) (sym is) (inr ((λ change. change), kept))
answer_changes maker rows chain answer after (is_shown row shown meets) = met_changes rows row answer after meets

changed_only : (answer : Answer) (rows after : List Row) → Changes answer rows after → IsChange answer ↔ (after ≢ rows)
changed_only answer rows after (inl (change, other)) = ((λ again. other), (λ differ. change))
changed_only answer rows after (inr (never, kept)) = ((λ change. absurd (never change)), (λ differ. absurd (differ kept)))

-- ---- one command

abbrev IsComplete : Ended → Type 0
IsComplete e = (e.status ≡ 0) ⊎ (e.status ≡ 7)

-- a command with another status is not complete
stopped : (e : Ended) (n : ℕ) → IsComplete e → e.status ≡ n → 0 < n → n < 7 → ⊥
stopped e n (inl zero) is some few = omega (arith, zero, is, some)
stopped e n (inr seven) is some few = omega (arith, seven, is, few)

input_stops : {A : Type 0} (input : Input A) (past : Past) (e : Ended) → IsComplete e → InputEnds input past e → ⊥
input_stops input past e complete (input_is_too_long held stops) = stopped e 3 complete stops.status_is (omega arith) (omega arith)
input_stops input past e complete (input_is_faulty bytes has place fault stops) = stopped e 3 complete stops.status_is (omega arith) (omega arith)
input_stops input past e complete (input_is_not_read mid fails stops) = stopped e 4 complete stops.status_is (omega arith) (omega arith)
input_stops input past e complete (memory_lacks wants) = stopped e 6 complete wants.stops.status_is (omega arith) (omega arith)

never_lacks : (past : Past) (e : Ended) → IsComplete e → WantsMemory past e → ⊥
never_lacks past e complete wants = stopped e 6 complete wants.stops.status_is (omega arith) (omega arith)

text_of_one : (line : List ℕ) → text_of (line ∷ []) ≡ line_with_lf line
text_of_one line = flat_map-cons line_with_lf line [] ∙ append-nil (line_with_lf line)

-- what an enrolment has told, and what it has left of the files
record Tells (name line : List ℕ) (rows after : List Row) (files : List ℕ → Option (List ℕ)) (shown : List ℕ) (e : Ended) : Type 0 where
  printed : e.after.printed ≡ Some (shown ++ text_of (line ∷ []))
  kept : ((after ≡ rows) × (e.after.files ≡ e.before.files)) ⊎ ((after ≢ rows) × IsRegisterWritten name after files e.after)

line_shown : (line shown : List ℕ) (before after : Outside) → Prints (line_with_lf line) before after → before.printed ≡ Some shown
    → after.printed ≡ Some (shown ++ text_of (line ∷ []))
line_shown line shown before after prints is = prints.adds shown is ∙ ap (λ (text : List ℕ). Some (shown ++ text)) (sym (text_of_one line))

files_stay : (line : List ℕ) (before after : Outside) → Prints (line_with_lf line) before after → after.files ≡ before.files
files_stay line before after prints = ap (λ (o : Outside). o.files) prints.stays

-- a line is printed, and no file changes
kept_tells : (name line : List ℕ) (rows after : List Row) (files : List ℕ → Option (List ℕ)) (shown : List ℕ) (e : Ended) → Prints (line_with_lf line) e.before e.after
    → e.before.printed ≡ Some shown → after ≡ rows → Tells name line rows after files shown e
kept_tells name line rows after files shown e prints is kept = record {
  printed = line_shown line shown e.before e.after prints is;
  kept = inl (kept, files_stay line e.before e.after prints);
}

refused_tells : (name line : List ℕ) (rows after : List Row) (files : List ℕ → Option (List ℕ)) (shown : List ℕ) (past : Past) (e : Ended) → IsFaultless e.before e.after
    → Stops line 7 past e → e.before.printed ≡ Some shown → after ≡ rows → Tells name line rows after files shown e
refused_tells name line rows after files shown past e well stops is kept = by stops.says
  where
    by : SaysLine line e.before e.after → Tells name line rows after files shown e
    by (inl prints) = kept_tells name line rows after files shown e prints is kept
    by (inr fails) = absurd (well.write (subst (λ (n : ℕ). HasRisen e.before.write_faults n) (sym (ap (λ (o : Outside). o.write_faults) fails.stays)) (raised_rises e.before.write_faults)))

written_tells : (name line : List ℕ) (rows after : List Row) (files : List ℕ → Option (List ℕ)) (shown : List ℕ) (e : Ended) (mid : Outside)
    → WritesFile name (register_format.spelling after) e.before mid → Prints (line_with_lf line) mid e.after → e.before.files ≡ Some files → e.before.printed ≡ Some shown
    → after ≢ rows → Tells name line rows after files shown e
written_tells name line rows after files shown e mid writes prints files_are is other =
    let left = writes.others files files_are in
    record {
      printed = line_shown line shown mid e.after prints (ap (λ (o : Outside). o.printed) writes.stays ∙ is);
      kept = inr (
        other,
        record {
          left = left.0;
          files_are = files_stay line mid e.after prints ∙ left.1;
          written = writes.holds left.0 left.1;
          others = left.2;
        },
      );
    }

print_tells : (name line : List ℕ) (rows after : List Row) (files : List ℕ → Option (List ℕ)) (shown : List ℕ) (past : Past) (e : Ended) → IsComplete e
    → PrintEnds (line_with_lf line) past e → e.before.printed ≡ Some shown → after ≡ rows → Tells name line rows after files shown e
print_tells name line rows after files shown past e complete (text_is_printed prints used status) is kept = kept_tells name line rows after files shown e prints is kept
print_tells name line rows after files shown past e complete (text_is_not_printed mid fails stops) is kept =
    absurd (stopped e 5 complete stops.status_is (omega arith) (omega arith))

print_after : (name line : List ℕ) (rows after : List Row) (files : List ℕ → Option (List ℕ)) (shown : List ℕ) (past : Past) (e : Ended) (mid : Outside) → IsComplete e
    → WritesFile name (register_format.spelling after) e.before mid → PrintEnds (line_with_lf line) past (record e { before = mid }) → e.before.files ≡ Some files
    → e.before.printed ≡ Some shown → after ≢ rows → Tells name line rows after files shown e
print_after name line rows after files shown past e mid complete writes (text_is_printed prints used status) files_are is other =
    written_tells name line rows after files shown e mid writes prints files_are is other
print_after name line rows after files shown past e mid complete writes (text_is_not_printed late fails stops) files_are is other =
    absurd (stopped e 5 complete stops.status_is (omega arith) (omega arith))

-- the host shows its files and what was printed, no call of it failed, and the command is done or refused
record IsSeen (files : List ℕ → Option (List ℕ)) (shown : List ℕ) (e : Ended) : Type 0 where
  complete : IsComplete e
  well : IsFaultless e.before e.after
  files_are : e.before.files ≡ Some files
  shown_is : e.before.printed ≡ Some shown

written_ends : (name line : List ℕ) (rows after : List Row) (files : List ℕ → Option (List ℕ)) (shown : List ℕ) (past : Past) (e : Ended) → IsSeen files shown e
    → CommandEnds (write_register name after line) past e → after ≢ rows → Tells name line rows after files shown e
unfolding CommandEnds
written_ends name line rows after files shown past e seen (inl fails) other = absurd (stopped e 5 seen.complete fails.stops.status_is (omega arith) (omega arith))
written_ends name line rows after files shown past e seen (inr (inl (mid, writes, inl prints))) other =
    print_after name line rows after files shown (record past { wrote = true }) e mid seen.complete writes prints seen.files_are seen.shown_is other
written_ends name line rows after files shown past e seen (inr (inl (mid, writes, inr wants))) other =
    absurd (never_lacks (record past { wrote = true }) (record e { before = mid }) seen.complete wants)
written_ends name line rows after files shown past e seen (inr (inr wants)) other = absurd (never_lacks past e seen.complete wants)

printed_ends : (name line : List ℕ) (rows after : List Row) (files : List ℕ → Option (List ℕ)) (shown : List ℕ) (past : Past) (e : Ended) → IsSeen files shown e
    → CommandEnds (print (line_with_lf line)) past e → after ≡ rows → Tells name line rows after files shown e
unfolding CommandEnds
printed_ends name line rows after files shown past e seen (inl prints) kept = print_tells name line rows after files shown past e seen.complete prints seen.shown_is kept
printed_ends name line rows after files shown past e seen (inr wants) kept = absurd (never_lacks past e seen.complete wants)

refused_ends : (name line : List ℕ) (rows after : List Row) (files : List ℕ → Option (List ℕ)) (shown : List ℕ) (past : Past) (e : Ended) → IsSeen files shown e
    → CommandEnds (refuse line) past e → after ≡ rows → Tells name line rows after files shown e
unfolding CommandEnds
refused_ends name line rows after files shown past e seen (inl stops) kept = refused_tells name line rows after files shown past e seen.well stops seen.shown_is kept
refused_ends name line rows after files shown past e seen (inr wants) kept = absurd (never_lacks past e seen.complete wants)

answer_tells : (name : List ℕ) (rows after : List Row) (files : List ℕ → Option (List ℕ)) (shown : List ℕ) (past : Past) (e : Ended) (answer : Answer) → IsSeen files shown e
    → CommandEnds (tell_answer name after answer) past e → Changes answer rows after → Tells name (answer_line answer) rows after files shown e
answer_tells name rows after files shown past e (answers.newly_added serial n) seen ends (inl (change, other)) =
    written_ends name (answer_line (answers.newly_added serial n)) rows after files shown past e seen ends other
answer_tells name rows after files shown past e (answers.newly_added serial n) seen ends (inr (never, kept)) = absurd (never tt)
answer_tells name rows after files shown past e (answers.extended serial n) seen ends (inl (change, other)) =
    written_ends name (answer_line (answers.extended serial n)) rows after files shown past e seen ends other
answer_tells name rows after files shown past e (answers.extended serial n) seen ends (inr (never, kept)) = absurd (never tt)
answer_tells name rows after files shown past e (answers.same serial n) seen ends (inl (change, other)) = absurd change
answer_tells name rows after files shown past e (answers.same serial n) seen ends (inr (never, kept)) =
    printed_ends name (answer_line (answers.same serial n)) rows after files shown past e seen ends kept
answer_tells name rows after files shown past e (answers.chain_refused why) seen ends (inl (change, other)) = absurd change
answer_tells name rows after files shown past e (answers.chain_refused why) seen ends (inr (never, kept)) =
    refused_ends name (answer_line (answers.chain_refused why)) rows after files shown past e seen ends kept
answer_tells name rows after files shown past e (answers.older serial have) seen ends (inl (change, other)) = absurd change
answer_tells name rows after files shown past e (answers.older serial have) seen ends (inr (never, kept)) =
    refused_ends name (answer_line (answers.older serial have)) rows after files shown past e seen ends kept
answer_tells name rows after files shown past e (answers.forked serial place) seen ends (inl (change, other)) = absurd change
answer_tells name rows after files shown past e (answers.forked serial place) seen ends (inr (never, kept)) =
    refused_ends name (answer_line (answers.forked serial place)) rows after files shown past e seen ends kept
answer_tells name rows after files shown past e answers.full seen ends (inl (change, other)) = absurd change
answer_tells name rows after files shown past e answers.full seen ends (inr (never, kept)) =
    refused_ends name (answer_line answers.full) rows after files shown past e seen ends kept

-- the end of the command once a chain was shown
shown_item : (names : EnrolNames) (files : List ℕ → Option (List ℕ)) (shown : List ℕ) (e : Ended) (maker : PublicKey) (rows : List Row) (root register chain whole : List ℕ) (done : Enrolment)
    → files names.root ≡ Some root → files names.register ≡ Some register → files names.chain ≡ Some chain → (root_input names.root).Is root maker
    → (register_input names.register).Is register rows → whole ≡ chain → ComesToEnrolment maker rows whole done
    → Tells names.register (answer_line done.answer) rows done.after files shown e → IsServedAsOneItem names files shown e
shown_item names files shown e maker rows root register chain whole done root_there register_there chain_there root_is register_is same answered tells = record {
  maker = maker;
  rows = rows;
  after = done.after;
  lines = answer_line done.answer ∷ [];
  root = root;
  register = register;
  chain = chain;
  root_there = root_there;
  register_there = register_there;
  chain_there = chain_there;
  root_is = root_is;
  register_is = register_is;
  step = (done.answer, subst (λ (bytes : List ℕ). IsChainAnswered maker rows bytes done.answer done.after) same answered, refl);
  printed = tells.printed;
  kept = tells.kept;
}

-- an end of the command, after its three inputs were read
late : Ended → Ended
late e = record e { before = read_once (read_once (read_once e.before)) }

one_ends : (names : EnrolNames) (files : List ℕ → Option (List ℕ)) (shown : List ℕ) (e : Ended) → IsSeen files shown e → CommandEnds (enrol names) at_first e
    → IsServedAsOneItem names files shown e
unfolding CommandEnds enrol late
one_ends names files shown e seen (inl ends) = absurd (input_stops (root_input names.root) at_first e seen.complete ends)
one_ends names files shown e seen (inr (root, root_read, (maker, root_is, inl ends))) =
    absurd (input_stops (register_input names.register) at_first (record e { before = read_once e.before }) seen.complete ends)
one_ends names files shown e seen (inr (root, root_read, (maker, root_is, inr (register, register_read, (rows, register_is, inl ends))))) =
    absurd (input_stops (chain_bytes_input names.chain) at_first (record e { before = read_once (read_once e.before) }) seen.complete ends)
one_ends names files shown e seen (inr (root, root_read, (maker, root_is, inr (register, register_read, (rows, register_is, inr (chain, chain_read, (whole, chain_is, inr wants))))))) =
    absurd (never_lacks at_first (late e) seen.complete wants)
one_ends names files shown e seen (inr (root, root_read, (maker, root_is, inr (register, register_read, (rows, register_is, inr (chain, chain_read, (whole, chain_is, inl (done, answered, ends)))))))) =
    let late_seen : IsSeen files shown (late e) = record { complete = seen.complete; well = record { read = seen.well.read; write = seen.well.write }; files_are = seen.files_are; shown_is = seen.shown_is } in
    let tells = answer_tells names.register rows done.after files shown at_first (late e) done.answer late_seen ends (answer_changes maker rows whole done.answer done.after answered) in
    shown_item names files shown e maker rows root register chain whole done (root_read.held files seen.files_are) (register_read.held files seen.files_are)
    (chain_read.held files seen.files_are) root_is register_is chain_is answered
    (record { printed = tells.printed; kept = tells.kept })

pub enrolments_are_a_run : EnrolmentsAreARun
enrolments_are_a_run = record {
  run = enrolled_run;
  enrolled = run_enrolled;
  changed = λ maker rows chain answer after answered. changed_only answer rows after (answer_changes maker rows chain answer after answered);
  one = λ names files shown e told.
      one_ends names files shown e (record { complete = told.complete; well = told.faultless; files_are = told.files_are; shown_is = told.shown_is }) told.ends;
}
