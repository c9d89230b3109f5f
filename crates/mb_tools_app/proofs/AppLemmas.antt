-- What carries out `app`.
use Rattle.std.proofs.Common.{◌≡◌, ℕ, ◌≤◌, ◌==◌, if◌then◌else◌, length, List, [], codes, Bool, true, false, true≢false, Option, Some, None, Result, Err, refl, sym, ◌∙◌, subst, arith}
use Rattle.std.specs.Prelude.{IsTrue, IsSome}
use Rattle.mb_model.specs.outside.Board.{Held, Used, not_used}
use Rattle.mb_model.specs.declared.key.PublicKey.{PublicKey}
use Rattle.mb_model.specs.declared.layer.CodeName.{CodeName}
use Rattle.mb_model.specs.declared.layer.Trusts.{Trusts}
use Rattle.mb_model.specs.declared.state.Codes.{Codes}
use Rattle.mb_model.specs.declared.state.State.{State}
use Rattle.mb_model.specs.owners.Layers.{layer_of, is_upper, Runnable}
use Rattle.mb_model.specs.records.LayerFormat.{layer_format}
use Rattle.mb_model.specs.memories.PublicRecord.{code_format, codes_format}
use Rattle.mb_model.specs.memories.Valid.{IsValidState, IsNamed}
use Rattle.mb_model.specs.outside.Texts.{line_with_lf}
use Rattle.mb_model_commands.specs.Outside.{Outside}
use Rattle.mb_model_commands.specs.Commands.{Command, print, refuse, Past, at_first}
use Rattle.mb_model_lemmas.proofs.RegionLemmas.{at_upper}
use Rattle.mb_model_lemmas.proofs.RuleLemmas.{layer_with, to_each}
use Rattle.mb_model_memory.specs.Storable.{IsStorableState}
use Rattle.mb_model_memory.proofs.StorableFormats.{layer_of-allowed}
use Rattle.mb_console.specs.declared.end.End.{End}
use Rattle.mb_console.specs.declared.end.End.TheVariants as end
use Rattle.mb_console.specs.Ending.{CarriesOut, CarriesOutAfter, CarriesOutRest, RefusesWith, LeadsTo}
use Rattle.mb_console.specs.Outputs.{writes}
use Rattle.mb_console.proofs.CommandLemmas.{goes_first, goes_second, finds, refuse_here, memory_unfound, memory_unprinted, memory_unrefused}
use Rattle.mb_console.proofs.Leading.{is_refused}
use Rattle.mb_model.specs.declared.running.AppEnd.{AppEnd}
use Rattle.mb_model.specs.declared.running.AppEnd.TheVariants as app
use Rattle.mb_tools_app.specs.AppCommand.{AppNames, code_of_layer, RunsStoredCode, app_line, tell_end, run_stored_code}

-- ---- a layer that may run has code

-- only a layer with code is spelled as a reliable one
reliable_has_code : (owner : Option PublicKey) (code : Option CodeName) (reliable : Bool) (trust : Trusts) → (layer_format 2).Allowed (layer_with owner code reliable trust)
    → reliable ≡ true → IsSome code
unfolding layer_format
reliable_has_code None code reliable trust allowed is = absurd (true≢false (sym is ∙ allowed.1.1.1.1))
reliable_has_code (Some owner) None reliable trust allowed is = absurd (true≢false (sym is ∙ allowed.1.1.1.1))
reliable_has_code (Some owner) (Some code) reliable trust allowed is = refl

-- a name stands for code that is there
named_is_there : (name : Option CodeName) (code : Option (List ℕ)) → IsNamed name code → IsSome name → IsSome code
named_is_there None code named there = absurd (true≢false (sym there))
named_is_there (Some name) None named there = absurd named
named_is_there (Some name) (Some code) named there = refl

pub runnable_has_code : (state : State) (layer : ℕ) → IsTrue (is_upper layer) → IsValidState state → IsStorableState state → Runnable state.layers layer
    → IsSome (code_of_layer state.codes layer)
runnable_has_code state layer upper valid stored runs =
    let has = λ (n : ℕ) (reliable : (layer_of state.layers n).reliable ≡ true).
    let at = layer_of state.layers n in
    reliable_has_code at.owner at.code at.reliable at.trust (layer_of-allowed state.layers n stored.layers) reliable in
    at_upper (λ n. (layer_of state.layers n).reliable ≡ true → IsSome (code_of_layer state.codes n)) layer upper
    (λ reliable. named_is_there state.layers.two.code state.codes.two valid.codes.two (has 2 reliable))
    (λ reliable. named_is_there state.layers.three.code state.codes.three valid.codes.three (has 3 reliable))
    (to_each state.layers layer (grind (arith, upper)) runs layer (grind (arith, upper)) (omega arith))

-- a stored code is as short as a code has to be
code_is_short : (code : List ℕ) → code_format.Allowed (Some code) → length code ≤ 32768
unfolding code_format
code_is_short code allowed = allowed.1.0.1

pub stored_is_short : (codes : Codes) (layer : ℕ) (code : List ℕ) → codes_format.Allowed codes → code_of_layer codes layer ≡ Some code → length code ≤ 32768
unfolding codes_format
stored_is_short codes layer code allowed is = by (layer == 2) is
  where
    by : (b : Bool) → (if b then codes.two else codes.three) ≡ Some code → length code ≤ 32768
    by true at = code_is_short code (subst code_format.Allowed at allowed.1.0)
    by false at = code_is_short code (subst code_format.Allowed at allowed.1.1)

-- ---- a run

pub dead_runs_nothing : {used : Used} {final : Held} {whole : Command} {past : Past} {before : Outside} {later : Past} {mid : Outside}
    (names : AppNames) (found : Option State) (input : List ℕ) (why : End) → LeadsTo used final whole past before (run_stored_code names found input) later mid → found ≡ None
    → RefusesWith (codes "zeroised") why → used ≡ later.used → CarriesOutRest whole past used final before (Err why) mid
dead_runs_nothing names None input why leads dead refuses same = is_refused leads same why refuses
dead_runs_nothing names (Some state) input why leads dead refuses same = absurd (cc)

pub layer_may_not_run : (names : AppNames) (state : State) (input : List ℕ) (before : Outside) (why : End) → (Runnable state.layers names.layer → ⊥)
    → RefusesWith (codes "refused 4 layer") why → CarriesOut (run_stored_code names (Some state) input) before (Err why) before
layer_may_not_run names state input before why not refuses = λ final.
    goes_second (Runnable state.layers names.layer) _ _ at_first not_used final before before _ not (refuse_here (codes "refused 4 layer") why at_first not_used final before refuses refl)

pub layer_runs : (names : AppNames) (state : State) (input : List ℕ) (ending : AppEnd) (before now : Outside) (result : Result (Unit {0}) End) → Runnable state.layers names.layer
    → RunsStoredCode state names.layer input names.steps ending → CarriesOut (tell_end ending) before result now → CarriesOut (run_stored_code names (Some state) input) before result now
layer_runs names state input ending before now result runs is carried = λ final.
    goes_first (Runnable state.layers names.layer) _ _ at_first not_used final before now result runs
    (finds (RunsStoredCode state names.layer input names.steps) tell_end at_first not_used final before now ending result is (carried final))

pub run_lacks : (names : AppNames) (state : State) (input : List ℕ) (before : Outside) → Runnable state.layers names.layer
    → CarriesOut (run_stored_code names (Some state) input) before (Err end.NoMemory) before
run_lacks names state input before runs = λ final.
    goes_first (Runnable state.layers names.layer) _ _ at_first not_used final before before _ runs
    (memory_unfound (RunsStoredCode state names.layer input names.steps) tell_end at_first not_used final before refl refl)

-- ---- what is told

pub line_printed : (line text : List ℕ) (before now : Outside) (result : Result (Unit {0}) End) → text ≡ line_with_lf line
    → CarriesOutAfter (writes [] (print text)) before result now → CarriesOut (print (line_with_lf line)) before result now
unfolding writes
line_printed line text before now result is carried = λ final.
    (subst (λ t. CarriesOutAfter (print t) before result now) is carried) at_first final

pub line_lacks : (line : List ℕ) (before : Outside) → CarriesOut (print (line_with_lf line)) before (Err end.NoMemory) before
line_lacks line before = λ final. memory_unprinted (line_with_lf line) at_first not_used final before refl refl

pub line_refused : (line long : List ℕ) (before : Outside) → long ≡ line → CarriesOut (refuse line) before (Err (end.RefusedAtLength long)) before
line_refused line long before is = λ final.
    refuse_here line (end.RefusedAtLength long) at_first not_used final before (record { line_is = is; status_is = refl }) refl

pub refusal_lacks : (line : List ℕ) (before : Outside) → CarriesOut (refuse line) before (Err end.NoMemory) before
refusal_lacks line before = λ final. memory_unrefused line at_first not_used final before refl refl

pub end_lacks : (ending : AppEnd) (before : Outside) → CarriesOut (tell_end ending) before (Err end.NoMemory) before
end_lacks (app.Halted steps output) before = line_lacks (app_line (app.Halted steps output)) before
end_lacks (app.Trap cause place output) before = refusal_lacks (app_line (app.Trap cause place output)) before
end_lacks (app.OutOfSteps output) before = refusal_lacks (app_line (app.OutOfSteps output)) before
