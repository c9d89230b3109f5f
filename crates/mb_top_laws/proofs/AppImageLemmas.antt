-- The ends of `app` over two images.
use Rattle.std.proofs.Common.{◌≡◌, ◌≢◌, ◌≤◌, ℕ, List, [], ◌∷◌, ◌++◌, codes, length, inl, inr, Option, None, Some, Bool, true, false, refl, sym, ap, ◌∙◌, subst, arith, length-append, if◌then◌else◌}
use Rattle.std.specs.Prelude.{◌==◌, find}
use Rattle.std.proofs.lemmas.List.{append_cancel_left}
use Rattle.std.proofs.lemmas.Option.{same_Some}
use Rattle.mb_format.specs.Combinators.{number_bytes}
use Rattle.mb_format.specs.Format.{IsBytes}
use Rattle.mb_model.specs.declared.region.Secret.{Secret}
use Rattle.mb_model.specs.declared.state.State.{State}
use Rattle.mb_model.specs.memories.Faults.{HasFault}
use Rattle.mb_model.specs.machine.LayerEvents.{has_name}
use Rattle.mb_model.specs.owners.Layers.{Runnable}
use Rattle.mb_model.specs.memories.Meaning.{IsWellFormed}
use Rattle.mb_model.specs.outside.Texts.{line_with_lf}
use Rattle.mb_model_commands.specs.Commands.{Input, Past, Ended, end_seen_from, HasRead, SaysLine, Stops, WantsMemory, InputEnds, input_is_too_long, input_is_faulty, input_is_not_read, memory_lacks, PrintEnds, text_is_printed, text_is_not_printed, CommandEnds}
use Rattle.mb_model_commands.specs.Commands as command
use Rattle.mb_model_commands.specs.Inputs.{image_input}
use Rattle.mb_model_commands.specs.Outside.{Outside, HasRisen, read_once, FailsToRead, by_fault, by_absence, Prints, FailsToPrint}
use Rattle.mb_model_lemmas.proofs.FaultLemmas.{well_formed_has_no_fault, well_formed_stands_for_one}
use Rattle.mb_console.proofs.Completing.{raised_rises}
use Rattle.mb_model.specs.declared.running.AppEnd.{AppEnd}
use Rattle.mb_model.specs.declared.running.AppEnd.TheVariants as app_end
use Rattle.mb_model.specs.declared.instruction.Plain.TheVariants as plain
use Rattle.mb_model.specs.declared.instruction.Instruction.TheVariants as instruction
use Rattle.mb_model.specs.declared.trap.Trap.TheVariants as trap
use Rattle.mb_model.specs.application.Application.{AppState, Surroundings, StepOutcome, goes, run_halts, traps, after_push, after_write, DoesGet, DoesCopy, AppStep, does}
use Rattle.mb_model.specs.application.Instructions.{Stands, instruction_format}
use Rattle.mb_model.specs.application.Runs.{first_state, RunsTo, readable_secrets, AppRun}
use Rattle.mb_model_lemmas.proofs.Determined.{runs_end_once}
use Rattle.mb_model_histories.specs.KeyFileLaws.{Files}
use Rattle.mb_tools_app.specs.AppCommand.{RunsStoredCode, AppNames, app, run_stored_code, code_of_layer, app_line, tell_end}
use Rattle.mb_tools_app.specs.AppInputs.{app_input}
use Rattle.mb_tools_app.specs.Seeing.{ShowsPrinted}
use Rattle.mb_tools_app.proofs.SeeingLemmas.{app_sees_nothing_else, IsComplete, never_lacks}
use Rattle.mb_model_histories.proofs.KeyFileLemmas.{stopped_files}
use Rattle.mb_top_laws.proofs.FileLemmas.{input_undone}
use Rattle.mb_top_laws.specs.AppImageLaws.{copying_code, HasCopyingCode, SecretsAreSeen, dead_alike, live_alike, HoldImages, with_files, over_files, ImagesAlikeHaveEqualEnds, ImagesAlikeHaveEqualLines, LayersAreSeen}

-- ---- what an image holds

formed_short : (image : List ℕ) (state : Option State) → IsWellFormed image state → length image ≤ 4194304
formed_short image state formed =
    omega (arith, ap length formed.image_is.0, length-append formed.flash formed.bbram, formed.image_is.1.flash, formed.image_is.1.bbram)

-- ---- ends over other files

-- the end of a command that has read once more
abbrev once : Ended → Ended
once e = end_seen_from (read_once e.before) e

module _ (now : Files) where
  prints_over : (bytes : List ℕ) (before after : Outside) → Prints bytes before after → Prints bytes (with_files now before) (with_files now after)
  prints_over bytes before after p = record { stays = ap (with_files now) p.stays; adds = p.adds }

  fails_over : (bytes : List ℕ) (before after : Outside) → FailsToPrint bytes before after → FailsToPrint bytes (with_files now before) (with_files now after)
  fails_over bytes before after p = record { stays = ap (with_files now) p.stays; part = p.part; adds = p.adds }

  says_over : (line : List ℕ) (before after : Outside) → SaysLine line before after → SaysLine line (with_files now before) (with_files now after)
  says_over line before after (inl p) = inl (prints_over (line_with_lf line) before after p)
  says_over line before after (inr p) = inr (fails_over (line_with_lf line) before after p)

  stops_over : (line : List ℕ) (status : ℕ) (past : Past) (e : Ended) → Stops line status past e → Stops line status past (over_files now e)
  stops_over line status past e stops = record { says = says_over line e.before e.after stops.says; used = stops.used; status_is = stops.status_is }

  wants_over : (past : Past) (e : Ended) → WantsMemory past e → WantsMemory past (over_files now e)
  wants_over past e wants = record { first = wants.first; stops = stops_over (codes "no memory") 6 past e wants.stops }

  print_over : (text : List ℕ) (past : Past) (e : Ended) → PrintEnds text past e → PrintEnds text past (over_files now e)
  print_over text past e (text_is_printed p used status) = text_is_printed (prints_over text e.before e.after p) used status
  print_over text past e (text_is_not_printed mid fails stops) =
      text_is_not_printed (with_files now mid) (fails_over text e.before mid fails) (stops_over (codes "write failed output") 5 past (end_seen_from mid e) stops)

  -- a read that failed, of a name that the other files have alike
  unread_over : (name : List ℕ) (before after : Outside) (files : List ℕ → Option (List ℕ)) → before.files ≡ Some files → now name ≡ files name → FailsToRead name before after
      → FailsToRead name (with_files now before) (with_files now after)
  unread_over name before after files told same (by_fault is) = by_fault (ap (with_files now) is)
  unread_over name before after files told same (by_absence none is) =
      by_absence (λ shown are. ap (λ (f : List ℕ → Option (List ℕ)). f name) (sym (same_Some now shown are)) ∙ same ∙ none files told) (ap (with_files now) is)

  has_over : (name bytes : List ℕ) (before : Outside) (files : List ℕ → Option (List ℕ)) → before.files ≡ Some files → now name ≡ files name → HasRead before name bytes
      → HasRead (with_files now before) name bytes
  has_over name bytes before files told same has = record {
    held = λ shown are. ap (λ (f : List ℕ → Option (List ℕ)). f name) (sym (same_Some now shown are)) ∙ same ∙ has.held files told;
    are_bytes = has.are_bytes;
    fits = has.fits;
  }

  tell_over : (ending : AppEnd) (past : Past) (e : Ended) → CommandEnds (tell_end ending) past e → CommandEnds (tell_end ending) past (over_files now e)
  unfolding CommandEnds
  tell_over (app_end.Halted steps output) past e (inl p) = inl (print_over _ past e p)
  tell_over (app_end.Halted steps output) past e (inr wants) = inr (wants_over past e wants)
  tell_over (app_end.Trap cause place output) past e (inl stops) = inl (stops_over _ 7 past e stops)
  tell_over (app_end.Trap cause place output) past e (inr wants) = inr (wants_over past e wants)
  tell_over (app_end.OutOfSteps output) past e (inl stops) = inl (stops_over _ 7 past e stops)
  tell_over (app_end.OutOfSteps output) past e (inr wants) = inr (wants_over past e wants)

  stored_over : (names : AppNames) (state : Option State) (input : List ℕ) (past : Past) (e : Ended) → CommandEnds (run_stored_code names state input) past e
      → CommandEnds (run_stored_code names state input) past (over_files now e)
  unfolding CommandEnds
  stored_over names None input past e (inl stops) = inl (stops_over _ 7 past e stops)
  stored_over names None input past e (inr wants) = inr (wants_over past e wants)
  stored_over names (Some state) input past e (inl (runs, inl (ending, is, told))) = inl (runs, inl (ending, is, tell_over ending past e told))
  stored_over names (Some state) input past e (inl (runs, inr wants)) = inl (runs, inr (wants_over past e wants))
  stored_over names (Some state) input past e (inr (inl (never, inl stops))) = inr (inl (never, inl (stops_over _ 7 past e stops)))
  stored_over names (Some state) input past e (inr (inl (never, inr wants))) = inr (inl (never, inr (wants_over past e wants)))
  stored_over names (Some state) input past e (inr (inr wants)) = inr (inr (wants_over past e wants))

  input_over : (name : List ℕ) (past : Past) (e : Ended) (files : List ℕ → Option (List ℕ)) → e.before.files ≡ Some files → now name ≡ files name → InputEnds (app_input name) past e
      → InputEnds (app_input name) past (over_files now e)
  input_over name past e files told same (input_is_too_long held stops) =
      let found = held files told in
      input_is_too_long (λ shown are. (found.0, ap (λ (f : List ℕ → Option (List ℕ)). f name) (sym (same_Some now shown are)) ∙ same ∙ found.1, found.2)) (stops_over _ 3 past (once e) stops)
  input_over name past e files told same (input_is_faulty bytes has place fault stops) = absurd fault
  input_over name past e files told same (input_is_not_read mid fails stops) =
      input_is_not_read (with_files now mid) (unread_over name e.before mid files told same fails) (stops_over _ 4 past (end_seen_from mid e) stops)
  input_over name past e files told same (memory_lacks wants) = memory_lacks (wants_over past (once e) wants)

  module _ (names : AppNames) (one other : Option State)
      (switch : (input : List ℕ) (past : Past) (e : Ended) → CommandEnds (run_stored_code names one input) past e → CommandEnds (run_stored_code names other input) past e)
      (files : List ℕ → Option (List ℕ)) (same : now names.input ≡ files names.input) where
    device_over : (past : Past) (e : Ended) → e.before.files ≡ Some files → CommandEnds (command.read (app_input names.input) (run_stored_code names one)) past e → CommandEnds (command.read (app_input names.input) (run_stored_code names other)) past (over_files now e)
    unfolding CommandEnds
    device_over past e told (inl ends) = inl (input_over names.input past e files told same ends)
    device_over past e told (inr (bytes, has, (input, is, ends))) =
        inr (bytes, has_over names.input bytes e.before files told same has, (input, is, stored_over names other input past (once e) (switch input past (once e) ends)))

    image_over : (past : Past) (e : Ended) (image twin : List ℕ) → e.before.files ≡ Some files → HoldImages names files now image twin → IsWellFormed image one → IsWellFormed twin other
        → CommandEnds (app names) past e → CommandEnds (app names) past (over_files now e)
    unfolding app CommandEnds
    image_over past e image twin told holds formed also (inl (input_is_too_long held stops)) =
        let found = held files told in
        let equal : found.0 ≡ image = same_Some found.0 image (sym found.1 ∙ holds.image_held) in
        absurd (omega (arith, ap length equal, formed_short image one formed, found.2))
    image_over past e image twin told holds formed also (inl (input_is_faulty bytes has place fault stops)) =
        let equal : bytes ≡ image = same_Some bytes image (sym (has.held files told) ∙ holds.image_held) in
        absurd (well_formed_has_no_fault image one fault.0 (subst IsBytes equal has.are_bytes) formed (subst (λ b. HasFault b fault.0) equal fault.2))
    image_over past e image twin told holds formed also (inl (input_is_not_read mid (by_fault is) stops)) =
        inl (input_is_not_read (with_files now mid) (by_fault (ap (with_files now) is)) (stops_over _ 4 past (end_seen_from mid e) stops))
    image_over past e image twin told holds formed also (inl (input_is_not_read mid (by_absence none is) stops)) = absurd (grind (arith, sym holds.image_held ∙ none files told))
    image_over past e image twin told holds formed also (inl (memory_lacks wants)) = inl (memory_lacks (wants_over past (once e) wants))
    image_over past e image twin told holds formed also (inr (bytes, has, (value, is, ends))) =
        let equal : bytes ≡ image = same_Some bytes image (sym (has.held files told) ∙ holds.image_held) in
        let state : value.state ≡ one = well_formed_stands_for_one image value.state one (subst IsBytes equal has.are_bytes) (subst (λ b. IsWellFormed b value.state) equal is.1) formed in
        let read : HasRead (with_files now e.before) names.image twin = record {
          held = λ shown are. ap (λ (f : List ℕ → Option (List ℕ)). f names.image) (sym (same_Some now shown are)) ∙ holds.other_held;
          are_bytes = holds.are_bytes;
          fits = formed_short twin other also;
        } in
        inr (
          twin,
          read,
          (
            record { bytes = twin; state = other },
            (refl, also),
            device_over past (once e) told (subst (λ (s : Option State). CommandEnds (command.read (app_input names.input) (run_stored_code names s)) past (once e)) state ends),
          ),
        )

-- ---- the files are left

tell_files : (ending : AppEnd) (past : Past) (e : Ended) → CommandEnds (tell_end ending) past e → e.after.files ≡ e.before.files
unfolding CommandEnds
tell_files (app_end.Halted steps output) past e (inl (text_is_printed p used status)) = ap (λ (o : Outside). o.files) p.stays
tell_files (app_end.Halted steps output) past e (inl (text_is_not_printed mid fails stops)) = stopped_files _ 5 past (end_seen_from mid e) stops ∙ ap (λ (o : Outside). o.files) fails.stays
tell_files (app_end.Halted steps output) past e (inr wants) = stopped_files _ 6 past e wants.stops
tell_files (app_end.Trap cause place output) past e (inl stops) = stopped_files _ 7 past e stops
tell_files (app_end.Trap cause place output) past e (inr wants) = stopped_files _ 6 past e wants.stops
tell_files (app_end.OutOfSteps output) past e (inl stops) = stopped_files _ 7 past e stops
tell_files (app_end.OutOfSteps output) past e (inr wants) = stopped_files _ 6 past e wants.stops

stored_files : (names : AppNames) (state : Option State) (input : List ℕ) (past : Past) (e : Ended) → CommandEnds (run_stored_code names state input) past e → e.after.files ≡ e.before.files
unfolding CommandEnds
stored_files names None input past e (inl stops) = stopped_files _ 7 past e stops
stored_files names None input past e (inr wants) = stopped_files _ 6 past e wants.stops
stored_files names (Some state) input past e (inl (runs, inl (ending, is, told))) = tell_files ending past e told
stored_files names (Some state) input past e (inl (runs, inr wants)) = stopped_files _ 6 past e wants.stops
stored_files names (Some state) input past e (inr (inl (never, inl stops))) = stopped_files _ 7 past e stops
stored_files names (Some state) input past e (inr (inl (never, inr wants))) = stopped_files _ 6 past e wants.stops
stored_files names (Some state) input past e (inr (inr wants)) = stopped_files _ 6 past e wants.stops

app_files : (names : AppNames) (past : Past) (e : Ended) → CommandEnds (app names) past e → e.after.files ≡ e.before.files
unfolding app CommandEnds
app_files names past e (inl ends) = (input_undone (image_input names.image) past e ends).0
app_files names past e (inr (bytes, has, (value, is, inl ends))) = (input_undone (app_input names.input) past (once e) ends).0
app_files names past e (inr (bytes, has, (value, is, inr (found, read, (input, same, ends))))) = stored_files names value.state input past (once (once e)) ends

pub images_alike_have_equal_ends : ImagesAlikeHaveEqualEnds
images_alike_have_equal_ends names past e files now image other told holds (dead_alike formed also) ends =
    (image_over now names None None (λ input past e ends. ends) files holds.input past e image other told holds formed also ends, app_files names past e ends ∙ told)
images_alike_have_equal_ends names past e files now image other told holds (live_alike state twin formed also agree) ends = (
  image_over now names (Some state) (Some twin) (λ input past e ends. app_sees_nothing_else.same_ends names state twin input past e agree ends) files holds.input past e image other told holds formed also ends,
  app_files names past e ends ∙ told,
)

-- ---- what is printed

never_stops : (line : List ℕ) (status : ℕ) (past : Past) (e : Ended) → IsComplete e → status ≢ 7 → status ≢ 0 → Stops line status past e → ⊥
never_stops line status past e (inl done) not_seven not_zero stops = not_zero (sym stops.status_is ∙ done)
never_stops line status past e (inr refused) not_seven not_zero stops = not_seven (sym stops.status_is ∙ refused)

never_unread : {A : Type 0} (input : Input A) (past : Past) (e : Ended) → IsComplete e → InputEnds input past e → ⊥
never_unread input past e complete (input_is_too_long held stops) = never_stops _ 3 past (once e) complete (omega arith) (omega arith) stops
never_unread input past e complete (input_is_faulty bytes has place fault stops) = never_stops _ 3 past (once e) complete (omega arith) (omega arith) stops
never_unread input past e complete (input_is_not_read mid fails stops) = never_stops _ 4 past (end_seen_from mid e) complete (omega arith) (omega arith) stops
never_unread input past e complete (memory_lacks wants) = never_lacks past (once e) complete wants

-- a command that is complete has come to run the stored code of the image's device
record Reaches (names : AppNames) (files : List ℕ → Option (List ℕ)) (image : List ℕ) (state : Option State) (past : Past) (e : Ended) : Type 0 where
  input : List ℕ
  held : files names.input ≡ Some input
  are_bytes : IsBytes image
  ends : CommandEnds (run_stored_code names state input) past (once (once e))

reaches : (names : AppNames) (files : List ℕ → Option (List ℕ)) (image : List ℕ) (state : Option State) (past : Past) (e : Ended) → e.before.files ≡ Some files → files names.image ≡ Some image
    → IsWellFormed image state → IsComplete e → CommandEnds (app names) past e → Reaches names files image state past e
unfolding app CommandEnds
reaches names files image state past e told holds formed complete (inl ends) = absurd (never_unread (image_input names.image) past e complete ends)
reaches names files image state past e told holds formed complete (inr (bytes, has, (value, is, inl ends))) = absurd (never_unread (app_input names.input) past (once e) complete ends)
reaches names files image state past e told holds formed complete (inr (bytes, has, (value, is, inr (found, read, (input, whole, ends))))) =
    let equal : bytes ≡ image = same_Some bytes image (sym (has.held files told) ∙ holds) in
    let are : IsBytes image = subst IsBytes equal has.are_bytes in
    let means : value.state ≡ state = well_formed_stands_for_one image value.state state are (subst (λ b. IsWellFormed b value.state) equal is.1) formed in
    record {
      input = input;
      held = read.held files told ∙ ap Some (sym whole);
      are_bytes = are;
      ends = subst (λ (s : Option State). CommandEnds (run_stored_code names s input) past (once (once e))) means ends;
    }

shown_later : (e : Ended) (text : List ℕ) → ShowsPrinted e text → ShowsPrinted (once (once e)) text
shown_later e text shows = record {
  faultless = record { read = shows.faultless.read; write = shows.faultless.write };
  complete = shows.complete;
  shown = shows.shown;
  before = shows.before;
  after = shows.after;
}

printed_text : (text line : List ℕ) (e : Ended) → ShowsPrinted e text → Prints line e.before e.after → text ≡ line
printed_text text line e shows prints =
    append_cancel_left shows.shown text line (same_Some (shows.shown ++ text) (shows.shown ++ line) (sym shows.after ∙ prints.adds shows.shown shows.before))

refused_text : (text line : List ℕ) (status : ℕ) (past : Past) (e : Ended) → ShowsPrinted e text → Stops line status past e → text ≡ line_with_lf line
refused_text text line status past e shows stops = by stops.says
  where
    by : SaysLine line e.before e.after → text ≡ line_with_lf line
    by (inl prints) = printed_text text (line_with_lf line) e shows prints
    by (inr fails) = absurd (shows.faultless.write (subst (λ (n : ℕ). HasRisen e.before.write_faults n) (sym (ap (λ (o : Outside). o.write_faults) fails.stays)) (raised_rises e.before.write_faults)))

dead_text : (names : AppNames) (input text : List ℕ) (past : Past) (e : Ended) → ShowsPrinted e text → CommandEnds (run_stored_code names None input) past e
    → (text ≡ line_with_lf (codes "zeroised")) × (e.status ≡ 7)
unfolding CommandEnds
dead_text names input text past e shows (inl stops) = (refused_text text (codes "zeroised") 7 past e shows stops, stops.status_is)
dead_text names input text past e shows (inr wants) = absurd (never_lacks past e shows.complete wants)

pub images_alike_have_equal_lines : ImagesAlikeHaveEqualLines
images_alike_have_equal_lines names past other_past e f files now image other text line told also holds (dead_alike formed formed_also) ends shows ends_also shows_also =
    let one = reaches names files image None past e told holds.image_held formed shows.complete ends in
    let two = reaches names now other None other_past f also holds.other_held formed_also shows_also.complete ends_also in
    let first = dead_text names one.input text past (once (once e)) (shown_later e text shows) one.ends in
    let second = dead_text names two.input line other_past (once (once f)) (shown_later f line shows_also) two.ends in
    (first.0 ∙ sym second.0, first.1 ∙ sym second.1)
images_alike_have_equal_lines names past other_past e f files now image other text line told also holds (live_alike state twin formed formed_also agree) ends shows ends_also shows_also =
    let one = reaches names files image (Some state) past e told holds.image_held formed shows.complete ends in
    let two = reaches names now other (Some twin) other_past f also holds.other_held formed_also shows_also.complete ends_also in
    let same : two.input ≡ one.input = same_Some two.input one.input (sym two.held ∙ holds.input ∙ one.held) in
    app_sees_nothing_else.equal_lines names state twin one.input past other_past (once (once e)) (once (once f)) text line agree
    one.ends (shown_later e text shows)
    (subst (λ (i : List ℕ). CommandEnds (run_stored_code names (Some twin) i) other_past (once (once f))) same two.ends) (shown_later f line shows_also)

-- ---- layers that may run, and that may not

leading : List ℕ → ℕ
leading [] = 0
leading (byte ∷ bytes) = byte

-- the line of an end does not begin as that of a refusal
ending_text : (ending : AppEnd) → leading (line_with_lf (app_line ending)) ≢ 114
unfolding leading
ending_text (app_end.Halted steps output) is = omega (arith, is)
ending_text (app_end.Trap cause place output) is = omega (arith, is)
ending_text (app_end.OutOfSteps output) is = omega (arith, is)

told_text : (ending : AppEnd) (text : List ℕ) (past : Past) (e : Ended) → ShowsPrinted e text → CommandEnds (tell_end ending) past e → text ≡ line_with_lf (app_line ending)
unfolding CommandEnds
told_text (app_end.Halted steps output) text past e shows (inl (text_is_printed prints used status)) = printed_text text _ e shows prints
told_text (app_end.Halted steps output) text past e shows (inl (text_is_not_printed mid fails stops)) =
    absurd (never_stops _ 5 past (end_seen_from mid e) shows.complete (omega arith) (omega arith) stops)
told_text (app_end.Halted steps output) text past e shows (inr wants) = absurd (never_lacks past e shows.complete wants)
told_text (app_end.Trap cause place output) text past e shows (inl stops) = refused_text text _ 7 past e shows stops
told_text (app_end.Trap cause place output) text past e shows (inr wants) = absurd (never_lacks past e shows.complete wants)
told_text (app_end.OutOfSteps output) text past e shows (inl stops) = refused_text text _ 7 past e shows stops
told_text (app_end.OutOfSteps output) text past e shows (inr wants) = absurd (never_lacks past e shows.complete wants)

runnable_text : (names : AppNames) (state : State) (input text : List ℕ) (past : Past) (e : Ended) → ShowsPrinted e text → Runnable state.layers names.layer
    → CommandEnds (run_stored_code names (Some state) input) past e → leading text ≢ 114
unfolding CommandEnds
runnable_text names state input text past e shows may (inl (runs, inl (ending, is, told))) =
    λ begins. ending_text ending (ap leading (sym (told_text ending text past e shows told)) ∙ begins)
runnable_text names state input text past e shows may (inl (runs, inr wants)) = absurd (never_lacks past e shows.complete wants)
runnable_text names state input text past e shows may (inr (inl (never, rest))) = absurd (never may)
runnable_text names state input text past e shows may (inr (inr wants)) = absurd (never_lacks past e shows.complete wants)

barred_text : (names : AppNames) (state : State) (input text : List ℕ) (past : Past) (e : Ended) → ShowsPrinted e text → (Runnable state.layers names.layer → ⊥)
    → CommandEnds (run_stored_code names (Some state) input) past e → leading text ≡ 114
unfolding CommandEnds leading
barred_text names state input text past e shows bars (inl (runs, rest)) = absurd (bars runs)
barred_text names state input text past e shows bars (inr (inl (never, inl stops))) = ap leading (refused_text text (codes "refused 4 layer") 7 past e shows stops)
barred_text names state input text past e shows bars (inr (inl (never, inr wants))) = absurd (never_lacks past e shows.complete wants)
barred_text names state input text past e shows bars (inr (inr wants)) = absurd (never_lacks past e shows.complete wants)

pub layers_are_seen : LayersAreSeen
layers_are_seen names past other_past e f files now image other text line state twin told also holds formed may formed_also bars ends shows ends_also shows_also =
    let one = reaches names files image (Some state) past e told holds.image_held formed shows.complete ends in
    let two = reaches names now other (Some twin) other_past f also holds.other_held formed_also shows_also.complete ends_also in
    λ same. runnable_text names state one.input text past (once (once e)) (shown_later e text shows) may one.ends
    (ap leading same ∙ barred_text names twin two.input line other_past (once (once f)) (shown_later f line shows_also) bars two.ends)

-- ---- a code that copies a secret

push_memory : Stands copying_code 0 (instruction.Push 1024) 5
unfolding instruction_format number_bytes
push_memory = record { allowed = (tt, omega arith); here = refl; ends = refl; within = omega arith }

push_region : Stands copying_code 5 (instruction.Push 2) 10
unfolding instruction_format number_bytes
push_region = record { allowed = (tt, omega arith); here = refl; ends = refl; within = omega arith }

get_secret : Stands copying_code 10 (instruction.Get (codes "a")) 13
unfolding instruction_format number_bytes
get_secret = record { allowed = (tt, ((omega arith, omega arith), (refl, refl))); here = refl; ends = refl; within = omega arith }

halt_last : Stands copying_code 13 (instruction.Plain plain.Halt) 14
unfolding instruction_format number_bytes
halt_last = record { allowed = (tt, refl); here = refl; ends = refl; within = omega arith }

module _ (input : List ℕ) (secrets : ℕ → Option (List Secret)) (list : List Secret) (may : secrets 2 ≡ Some list) (secret : Secret) (found : find (has_name (codes "a")) list ≡ Some secret) where
  abbrev around : Surroundings
  around = record { code = copying_code; input = input; secrets = secrets }

  abbrev address_pushed : AppState
  address_pushed = record first_state { place = 5; stack = 1024 ∷ [] }

  abbrev region_pushed : AppState
  region_pushed = record first_state { place = 10; stack = 1024 ∷ 2 ∷ [] }

  -- what the machine is without the values that `get` takes
  abbrev without_values : AppState
  without_values = record first_state { place = 10; stack = [] }

  abbrev copied : AppState
  copied = after_push 13 (length secret.value ∷ []) (after_write 1024 secret.value without_values)

  first_step : AppStep around first_state (goes address_pushed)
  first_step = does (instruction.Push 1024) 5 push_memory [] [] refl refl (omega arith) refl

  second_step : AppStep around address_pushed (goes region_pushed)
  second_step = does (instruction.Push 2) 10 push_region (1024 ∷ []) [] refl refl (omega arith) refl

  third_step : (outcome : StepOutcome) → DoesCopy (Some secret) 13 1024 without_values outcome → AppStep around region_pushed outcome
  third_step outcome copies = does (instruction.Get (codes "a")) 13 get_secret [] (1024 ∷ 2 ∷ []) refl refl (omega arith)
      (subst (λ (o : Option (List Secret)). DoesGet o (codes "a") 13 1024 without_values outcome) (sym may)
      (subst (λ (o : Option Secret). DoesCopy o 13 1024 without_values outcome) (sym found) copies))

  last_step : AppStep around copied run_halts
  last_step = does (instruction.Plain plain.Halt) 14 halt_last (length secret.value ∷ []) [] refl refl (omega arith) refl

  empty_halts : secret.value ≡ [] → AppRun copying_code input secrets 4 (app_end.Halted 4 [])
  unfolding RunsTo
  empty_halts empty =
      (goes address_pushed, first_step, (goes region_pushed, second_step, (goes copied, third_step (goes copied) (inr (omega (arith, ap length empty), refl)), (run_halts, last_step, refl))))

  full_traps : 1 ≤ length secret.value → AppRun copying_code input secrets 4 (app_end.Trap trap.BadAddress 10 [])
  unfolding RunsTo
  full_traps full = (goes address_pushed, first_step, (goes region_pushed, second_step, (traps trap.BadAddress, third_step (traps trap.BadAddress) (inl (omega (arith, full), refl)), refl)))

-- layer 2 may read region 2, if it may run
reads_two : (state : State) → Runnable state.layers 2 → readable_secrets state.layers 2 state.two state.three 2 ≡ Some state.two.secrets
reads_two state runs = ap (λ (b : Bool). if b then Some state.two.secrets else None) runs

-- the code comes to no other end than one to which it is seen to come
one_end : (image value input : List ℕ) (state : State) (ending told : AppEnd) → HasCopyingCode image value state
    → AppRun copying_code input (readable_secrets state.layers 2 state.two state.three) 4 ending → RunsStoredCode state 2 input 4 told → told ≡ ending
one_end image value input state ending told has run is =
    let seen : ℕ → Option (List Secret) = readable_secrets state.layers 2 state.two state.three in
    let code : is.code ≡ copying_code = same_Some is.code copying_code (sym is.stored ∙ has.code) in
    runs_end_once copying_code input seen 4 told ending (subst (λ (c : List ℕ). AppRun c input seen 4 told) code is.run) run

-- the text that is printed is the line of that end
prints_end : (names : AppNames) (state : State) (input text : List ℕ) (past : Past) (e : Ended) (ending : AppEnd) → Runnable state.layers names.layer
    → ((told : AppEnd) → RunsStoredCode state names.layer input names.steps told → told ≡ ending) → ShowsPrinted e text
    → CommandEnds (run_stored_code names (Some state) input) past e → text ≡ line_with_lf (app_line ending)
unfolding CommandEnds
prints_end names state input text past e ending may only shows (inl (runs, inl (told, is, tells))) =
    told_text told text past e shows tells ∙ ap (λ (x : AppEnd). line_with_lf (app_line x)) (only told is)
prints_end names state input text past e ending may only shows (inl (runs, inr wants)) = absurd (never_lacks past e shows.complete wants)
prints_end names state input text past e ending may only shows (inr (inl (never, rest))) = absurd (never may)
prints_end names state input text past e ending may only shows (inr (inr wants)) = absurd (never_lacks past e shows.complete wants)

pub secrets_are_seen : SecretsAreSeen
unfolding leading
secrets_are_seen image_name input_name past other_past e f files now image other text line value state twin told also holds has has_also full ends shows ends_also shows_also =
    let names : AppNames = record { image = image_name; layer = 2; input = input_name; steps = 4 } in
    let one = reaches names files image (Some state) past e told holds.image_held has.formed shows.complete ends in
    let two = reaches names now other (Some twin) other_past f also holds.other_held has_also.formed shows_also.complete ends_also in
    let halts : AppEnd = app_end.Halted 4 [] in
    let stops : AppEnd = app_end.Trap trap.BadAddress 10 [] in
    let runs = empty_halts one.input (readable_secrets state.layers 2 state.two state.three) state.two.secrets (reads_two state has.runs) has.secret has.found has.value_is in
    let fails = full_traps two.input (readable_secrets twin.layers 2 twin.two twin.three) twin.two.secrets (reads_two twin has_also.runs) has_also.secret has_also.found
    (omega (arith, full, ap length has_also.value_is)) in
    let first : text ≡ line_with_lf (app_line halts) =
    prints_end names state one.input text past (once (once e)) halts has.runs (λ told is. one_end image [] one.input state halts told has runs is) (shown_later e text shows) one.ends in
    let second : line ≡ line_with_lf (app_line stops) =
    prints_end names twin two.input line other_past (once (once f)) stops has_also.runs (λ told is. one_end other value two.input twin stops told has_also fails is) (shown_later f line shows_also) two.ends in
    λ same.
    let begins : leading (line_with_lf (app_line halts)) ≡ leading (line_with_lf (app_line stops)) = ap leading (sym first ∙ same ∙ second) in
    omega (arith, begins)
