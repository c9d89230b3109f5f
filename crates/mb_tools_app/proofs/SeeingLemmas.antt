-- Nothing but what a layer sees changes what `app` tells.
use Rattle.std.proofs.Common.{◌≡◌, ℕ, ◌==◌, ◌≤◌, ◌⊎◌, List, codes, Bool, true, false, if◌then◌else◌, Option, Some, None, refl, sym, ◌∙◌, ap, subst, inl, inr, arith}
use mathlib.Core.Path.{fun_ext}
use Rattle.std.proofs.lemmas.List.{append_cancel_left}
use Rattle.std.proofs.lemmas.Option.{same_Some}
use Rattle.mb_model.specs.declared.state.State.{State}
use Rattle.mb_model.specs.declared.region.Secret.{Secret}
use Rattle.mb_model.specs.declared.layer.Layers.{Layers}
use Rattle.mb_model.specs.owners.Layers.{Runnable}
use Rattle.mb_model.specs.outside.Texts.{line_with_lf}
use Rattle.mb_model_commands.specs.Outside.{Outside, HasRisen, Prints}
use Rattle.mb_model_commands.specs.Commands.{Past, Ended, SaysLine, Stops, WantsMemory, PrintEnds, text_is_printed, text_is_not_printed, CommandEnds, IsFaultless}
use Rattle.mb_model.specs.declared.running.AppEnd.{AppEnd}
use Rattle.mb_model.specs.declared.running.AppEnd.TheVariants as end
use Rattle.mb_model.specs.application.Runs.{is_readable, readable_secrets, AppRun}
use Rattle.mb_model_lemmas.proofs.Determined.{runs_end_once}
use Rattle.mb_console.proofs.Completing.{raised_rises}
use Rattle.mb_tools_app.specs.AppCommand.{AppNames, code_of_layer, RunsStoredCode, app_line, tell_end, run_stored_code}
use Rattle.mb_tools_app.specs.Seeing.{AgreeFor, ShowsPrinted, AppSeesNothingElse}

-- ---- what is seen

secrets_same : (layers : Layers) (layer region : ℕ) (two three other_two other_three : List Secret) → (layer ≤ 2 → two ≡ other_two) → (layer ≤ 3 → three ≡ other_three)
    → (b : Bool) → is_readable layers layer region ≡ b
    → (if b then Some (if region == 2 then two else three) else None) ≡ (if b then Some (if region == 2 then other_two else other_three) else None)
secrets_same layers layer region two three other_two other_three first second false is = refl
secrets_same layers layer region two three other_two other_three first second true is = ap Some (by (region == 2) refl)
  where
    by : (b : Bool) → (region == 2) ≡ b → (if b then two else three) ≡ (if b then other_two else other_three)
    by true at = first (grind (arith, is, at))
    by false at = second (grind (arith, is, at))

pub sees_same : (layer : ℕ) (a b : State) → AgreeFor layer a b → (region : ℕ)
    → readable_secrets a.layers layer a.two a.three region ≡ readable_secrets b.layers layer b.two b.three region
sees_same layer a b agree region =
    secrets_same a.layers layer region a.two.secrets a.three.secrets b.two.secrets b.three.secrets agree.two agree.three (is_readable a.layers layer region) refl
    ∙ ap (λ (l : Layers). readable_secrets l layer b.two b.three region) agree.layers

runs_same : (layer : ℕ) (a b : State) (input : List ℕ) (steps : ℕ) (ending : AppEnd) → AgreeFor layer a b → RunsStoredCode a layer input steps ending
    → RunsStoredCode b layer input steps ending
runs_same layer a b input steps ending agree is = record {
  code = is.code;
  stored = sym agree.code ∙ is.stored;
  run = subst (λ (f : ℕ → Option (List Secret)). AppRun is.code input f steps ending) (fun_ext (sees_same layer a b agree)) is.run;
}

-- ---- the ends over two devices

pub ends_same : (names : AppNames) (a b : State) (input : List ℕ) (past : Past) (e : Ended) → AgreeFor names.layer a b
    → CommandEnds (run_stored_code names (Some a) input) past e → CommandEnds (run_stored_code names (Some b) input) past e
unfolding CommandEnds
ends_same names a b input past e agree (inl (runs, inl (ending, is, told))) =
    inl (subst (λ (l : Layers). Runnable l names.layer) agree.layers runs, inl (ending, runs_same names.layer a b input names.steps ending agree is, told))
ends_same names a b input past e agree (inl (runs, inr wants)) = inl (subst (λ (l : Layers). Runnable l names.layer) agree.layers runs, inr wants)
ends_same names a b input past e agree (inr (inl (not, refused))) =
    inr (inl (λ runs. not (subst (λ (l : Layers). Runnable l names.layer) (sym agree.layers) runs), refused))
ends_same names a b input past e agree (inr (inr wants)) = inr (inr wants)

-- ---- the line of an end

-- the line was printed whole, and the command ended with the status
record TellsLine (line : List ℕ) (status : ℕ) (e : Ended) : Type 0 where
  prints : Prints (line_with_lf line) e.before e.after
  status_is : e.status ≡ status

abbrev pub IsComplete : Ended → Type 0
IsComplete e = (e.status ≡ 0) ⊎ (e.status ≡ 7)

pub never_lacks : (past : Past) (e : Ended) → IsComplete e → WantsMemory past e → ⊥
never_lacks past e (inl zero) wants = omega (arith, zero, wants.stops.status_is)
never_lacks past e (inr seven) wants = omega (arith, seven, wants.stops.status_is)

refusal_tells : (line : List ℕ) (past : Past) (e : Ended) → IsFaultless e.before e.after → Stops line 7 past e → TellsLine line 7 e
refusal_tells line past e well stops = by stops.says
  where
    by : SaysLine line e.before e.after → TellsLine line 7 e
    by (inl prints) = record { prints = prints; status_is = stops.status_is }
    by (inr fails) = absurd (well.write (subst (λ (n : ℕ). HasRisen e.before.write_faults n) (sym (ap (λ (o : Outside). o.write_faults) fails.stays)) (raised_rises e.before.write_faults)))

halt_tells : (line : List ℕ) (past : Past) (e : Ended) → IsComplete e → PrintEnds (line_with_lf line) past e → TellsLine line 0 e
halt_tells line past e complete (text_is_printed prints same status) = record { prints = prints; status_is = status }
halt_tells line past e (inl zero) (text_is_not_printed mid fails stops) = absurd (omega (arith, zero, stops.status_is))
halt_tells line past e (inr seven) (text_is_not_printed mid fails stops) = absurd (omega (arith, seven, stops.status_is))

-- the status with which an end is told
abbrev status_of : AppEnd → ℕ
status_of (end.Halted steps output) = 0
status_of (end.Trap cause place output) = 7
status_of (end.OutOfSteps output) = 7

end_tells : (ending : AppEnd) (past : Past) (e : Ended) → IsFaultless e.before e.after → IsComplete e → CommandEnds (tell_end ending) past e
    → TellsLine (app_line ending) (status_of ending) e
unfolding CommandEnds
end_tells (end.Halted steps output) past e well complete (inl prints) = halt_tells (app_line (end.Halted steps output)) past e complete prints
end_tells (end.Halted steps output) past e well complete (inr wants) = absurd (never_lacks past e complete wants)
end_tells (end.Trap cause place output) past e well complete (inl stops) = refusal_tells (app_line (end.Trap cause place output)) past e well stops
end_tells (end.Trap cause place output) past e well complete (inr wants) = absurd (never_lacks past e complete wants)
end_tells (end.OutOfSteps output) past e well complete (inl stops) = refusal_tells (app_line (end.OutOfSteps output)) past e well stops
end_tells (end.OutOfSteps output) past e well complete (inr wants) = absurd (never_lacks past e complete wants)

-- what was told of a device
data IsTold (names : AppNames) (state : State) (input : List ℕ) (e : Ended) : Type 0 where
  ran : Runnable state.layers names.layer → (ending : AppEnd) → RunsStoredCode state names.layer input names.steps ending
      → TellsLine (app_line ending) (status_of ending) e → IsTold names state input e
  barred : (Runnable state.layers names.layer → ⊥) → TellsLine (codes "refused 4 layer") 7 e → IsTold names state input e

is_told : (names : AppNames) (state : State) (input : List ℕ) (past : Past) (e : Ended) → IsFaultless e.before e.after → IsComplete e
    → CommandEnds (run_stored_code names (Some state) input) past e → IsTold names state input e
unfolding CommandEnds
is_told names state input past e well complete (inl (runs, inl (ending, is, told))) = ran runs ending is (end_tells ending past e well complete told)
is_told names state input past e well complete (inl (runs, inr wants)) = absurd (never_lacks past e complete wants)
is_told names state input past e well complete (inr (inl (not, inl stops))) = barred not (refusal_tells (codes "refused 4 layer") past e well stops)
is_told names state input past e well complete (inr (inl (not, inr wants))) = absurd (never_lacks past e complete wants)
is_told names state input past e well complete (inr (inr wants)) = absurd (never_lacks past e complete wants)

-- ---- equal lines

line_shown : (line text : List ℕ) (status : ℕ) (e : Ended) → TellsLine line status e → ShowsPrinted e text → text ≡ line_with_lf line
line_shown line text status e tells shows =
    append_cancel_left shows.shown text (line_with_lf line) (same_Some _ _ (sym shows.after ∙ tells.prints.adds shows.shown shows.before))

shown_same : (first second : List ℕ) (m n : ℕ) (e f : Ended) (text line : List ℕ) → first ≡ second → m ≡ n → TellsLine first m e → TellsLine second n f
    → ShowsPrinted e text → ShowsPrinted f line → (text ≡ line) × (e.status ≡ f.status)
shown_same first second m n e f text line same equal tells other shows also =
    (line_shown first text m e tells shows ∙ ap line_with_lf same ∙ sym (line_shown second line n f other also), tells.status_is ∙ equal ∙ sym other.status_is)

endings_same : (layer : ℕ) (a b : State) (input : List ℕ) (steps : ℕ) (first second : AppEnd) → AgreeFor layer a b
    → RunsStoredCode a layer input steps first → RunsStoredCode b layer input steps second
    → first ≡ second
endings_same layer a b input steps first second agree is other =
    let also = runs_same layer a b input steps first agree is in
    let code : other.code ≡ also.code = same_Some _ _ (sym other.stored ∙ also.stored) in
    let run = subst (λ (c : List ℕ). AppRun c input (readable_secrets b.layers layer b.two b.three) steps second) code other.run in
    runs_end_once also.code input (readable_secrets b.layers layer b.two b.three) steps first second also.run run

told_same : (names : AppNames) (a b : State) (input : List ℕ) (e f : Ended) (text line : List ℕ) → AgreeFor names.layer a b
    → IsTold names a input e → ShowsPrinted e text → IsTold names b input f → ShowsPrinted f line
    → (text ≡ line) × (e.status ≡ f.status)
told_same names a b input e f text line agree (ran runs first is tells) shows (ran also second other too) shown =
    let same = endings_same names.layer a b input names.steps first second agree is other in
    shown_same (app_line first) (app_line second) (status_of first) (status_of second) e f text line (ap app_line same) (ap status_of same) tells too shows shown
told_same names a b input e f text line agree (ran runs first is tells) shows (barred not too) shown =
    absurd (not (subst (λ (l : Layers). Runnable l names.layer) agree.layers runs))
told_same names a b input e f text line agree (barred not tells) shows (ran runs second other too) shown =
    absurd (not (subst (λ (l : Layers). Runnable l names.layer) (sym agree.layers) runs))
told_same names a b input e f text line agree (barred not tells) shows (barred neither too) shown =
    shown_same _ _ 7 7 e f text line refl refl tells too shows shown

pub app_sees_nothing_else : AppSeesNothingElse
app_sees_nothing_else = record {
  same_ends = ends_same;
  equal_lines = λ names a b input past other e f text line agree ends shows also shown.
      told_same names a b input e f text line agree (is_told names a input past e shows.faultless shows.complete ends) shows
      (is_told names b input other f shown.faultless shown.complete also) shown;
}
