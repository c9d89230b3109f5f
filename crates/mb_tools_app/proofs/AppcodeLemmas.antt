-- A code runs as the stored code of layer 3 of a device whose layers may all run and which has no secrets.
use Rattle.std.proofs.Common.{◌≡◌, ℕ, ◌==◌, List, [], Bool, true, false, if◌then◌else◌, Option, Some, None, refl, sym, ap, subst, ◌∙◌, inl, inr, arith}
use mathlib.Core.Path.{fun_ext}
use Rattle.std.proofs.lemmas.Bool.{eqb-true}
use Rattle.std.proofs.lemmas.Option.{same_Some}
use Rattle.mb_model.specs.declared.layer.Layers.{Layers}
use Rattle.mb_model.specs.declared.region.Secret.{Secret}
use Rattle.mb_model.specs.declared.region.Region.{Region}
use Rattle.mb_model.specs.declared.state.State.{State}
use Rattle.mb_model.specs.owners.Layers.{Runnable}
use Rattle.mb_model_commands.specs.Commands.{Past, Ended, CommandEnds}
use Rattle.mb_model.specs.declared.running.AppEnd.{AppEnd}
use Rattle.mb_model.specs.application.Runs.{is_readable, readable_secrets, AppRun}
use Rattle.mb_tools_app.specs.AppCommand.{AppNames, RunsStoredCode, run_stored_code}
use Rattle.mb_tools_app.specs.AppcodeCommand.{no_secrets, run_code, AppcodeRunsAsApp}

-- ---- what is seen

readable_three : (layers : Layers) (region : ℕ) → Runnable layers 3 → is_readable layers 3 region ≡ (region == 3)
readable_three layers region runs = by (region == 3) refl (region == 2) refl
  where
    by : (three : Bool) → (region == 3) ≡ three → (two : Bool) → (region == 2) ≡ two → is_readable layers 3 region ≡ (region == 3)
    by true at two other = subst (λ (n : ℕ). is_readable layers 3 n ≡ (n == 3)) (sym (eqb-true region 3 at)) runs
    by false at true other = subst (λ (n : ℕ). is_readable layers 3 n ≡ (n == 3)) (sym (eqb-true region 2 other)) refl
    by false at false other = rw (other, at) refl

none_there : (two three : List Secret) (region : ℕ) → three ≡ [] → (if region == 3 then Some (if region == 2 then two else three) else None) ≡ no_secrets region
none_there two three region empty = by (region == 3) refl
  where
    by : (b : Bool) → (region == 3) ≡ b → (if b then Some (if region == 2 then two else three) else None) ≡ (if b then Some [] else None)
    by false at = refl
    by true at =
        let other : (region == 2) ≡ false = grind (arith, at) in
        ap (λ (c : Bool). Some (if c then two else three)) other ∙ ap (λ (xs : List Secret). Some xs) empty

sees_none_at : (layers : Layers) (two three : Region) (region : ℕ) → Runnable layers 3 → three.secrets ≡ [] → readable_secrets layers 3 two three region ≡ no_secrets region
sees_none_at layers two three region runs empty =
    ap (λ (b : Bool). if b then Some (if region == 2 then two.secrets else three.secrets) else None) (readable_three layers region runs)
    ∙ none_there two.secrets three.secrets region empty

sees_none : (layers : Layers) (two three : Region) → Runnable layers 3 → three.secrets ≡ [] → readable_secrets layers 3 two three ≡ no_secrets
sees_none layers two three runs empty = fun_ext (λ region. sees_none_at layers two three region runs empty)

-- ---- the ends

module _ (state : State) (code input : List ℕ) (steps : ℕ) (ending : AppEnd) (runs : Runnable state.layers 3) (stored : state.codes.three ≡ Some code) (empty : state.three.secrets ≡ []) where
  stored_run : AppRun code input no_secrets steps ending → RunsStoredCode state 3 input steps ending
  stored_run run = record {
    code = code;
    stored = stored;
    run = subst (λ (f : ℕ → Option (List Secret)). AppRun code input f steps ending) (sym (sees_none state.layers state.two state.three runs empty)) run;
  }

  code_run : RunsStoredCode state 3 input steps ending → AppRun code input no_secrets steps ending
  code_run is =
      subst (λ (c : List ℕ). AppRun c input no_secrets steps ending) (same_Some _ _ (sym is.stored ∙ stored))
      (subst (λ (f : ℕ → Option (List Secret)). AppRun is.code input f steps ending) (sees_none state.layers state.two state.three runs empty) is.run)

to_code : (names : AppNames) (state : State) (code input : List ℕ) (past : Past) (e : Ended) → Runnable state.layers 3 → state.codes.three ≡ Some code → state.three.secrets ≡ []
    → CommandEnds (run_stored_code (record names { layer = 3 }) (Some state) input) past e → CommandEnds (run_code code input names.steps) past e
unfolding CommandEnds
to_code names state code input past e runs stored empty (inl (may, inl (ending, is, told))) = inl (ending, code_run state code input names.steps ending runs stored empty is, told)
to_code names state code input past e runs stored empty (inl (may, inr wants)) = inr wants
to_code names state code input past e runs stored empty (inr (inl (not, refused))) = absurd (not runs)
to_code names state code input past e runs stored empty (inr (inr wants)) = inr wants

to_stored : (names : AppNames) (state : State) (code input : List ℕ) (past : Past) (e : Ended) → Runnable state.layers 3 → state.codes.three ≡ Some code → state.three.secrets ≡ []
    → CommandEnds (run_code code input names.steps) past e → CommandEnds (run_stored_code (record names { layer = 3 }) (Some state) input) past e
unfolding CommandEnds
to_stored names state code input past e runs stored empty (inl (ending, run, told)) = inl (runs, inl (ending, stored_run state code input names.steps ending runs stored empty run, told))
to_stored names state code input past e runs stored empty (inr wants) = inl (runs, inr wants)

third : (names : AppNames) → names.layer ≡ 3 → names ≡ record names { layer = 3 }
third names is = ap (λ (n : ℕ). record names { layer = n }) is

pub appcode_runs_as_app : AppcodeRunsAsApp
appcode_runs_as_app names state code input past e layer runs stored empty =
    let same = third names layer in (
      (λ ends. to_code names state code input past e runs stored empty (subst (λ (n : AppNames). CommandEnds (run_stored_code n (Some state) input) past e) same ends)),
      (λ ends. subst (λ (n : AppNames). CommandEnds (run_stored_code n (Some state) input) past e) (sym same) (to_stored names state code input past e runs stored empty ends)),
    )
