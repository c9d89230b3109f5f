-- How far the lines of a script have been counted.
use Rattle.std.proofs.Common.{◌≡◌, ◌≢◌, ℕ, ◌+◌, ◌<◌, ◌≤◌, List, [], ◌∷◌, ◌++◌, length, length-append, refl, sym, ap, subst, ◌∙◌, arith, append_assoc, true, false}
use Rattle.std.specs.Prelude.{filter}
use Rattle.std.proofs.lemmas.List.{append-nil}
use Rattle.std.proofs.lemmas.List.Elements.{filter-append}
use Rattle.mb_model.specs.chains.Lines.{HasLines}
use Rattle.mb_model.specs.chains.Script.{is_skipped}
use Rattle.mb_model_lemmas.proofs.LineLemmas.{HasLines-nil, HasLines-always}
use Rattle.mb_model_lemmas.proofs.EventLemmas.{counts}
use Rattle.mb_words.specs.Words.{SplitsLine}
use Rattle.mb_words.proofs.NextLines.{shorter, with_line}
use Rattle.mb_script.specs.Reading.{IsLineOf, says, past, lines_said}
use Rattle.mb_script.proofs.ScriptReading.{one_left, one_kept}

-- Some lines have been passed, of which so many say events; whatever lines the rest has, the text has those and these.
pub record IsPassedTo (text rest : List ℕ) (passed number index : ℕ) : Type 0 where
  pub before : List (List ℕ)
  pub said : length (lines_said before) ≡ passed
  pub within : passed ≤ index
  pub forward : (more : List (List ℕ)) → HasLines rest more → HasLines text (before ++ more)
  pub count : number ≡ length before
  pub less : number + length rest ≤ length text

pub none_passed : (text : List ℕ) (index : ℕ) → IsPassedTo text text 0 0 index
none_passed text index = record { before = []; said = refl; within = omega arith; forward = λ more has. has; count = refl; less = omega arith }

one_more : (text rest line remaining : List ℕ) (passed more_passed number index : ℕ) (is : IsPassedTo text rest passed number index) → SplitsLine rest line remaining → 0 < length rest
    → length (lines_said (is.before ++ line ∷ [])) ≡ more_passed → more_passed ≤ index → IsPassedTo text remaining more_passed (number + 1) index
one_more text rest line remaining passed more_passed number index is splits some said within = record {
  before = is.before ++ line ∷ [];
  said = said;
  within = within;
  forward = λ more has.
      subst (λ (x : List (List ℕ)). HasLines text x) (sym (append_assoc is.before (line ∷ []) more)) (is.forward (line ∷ more) (with_line rest line remaining more splits some has));
  count = omega (arith, is.count, length-append is.before (line ∷ []));
  less = omega (arith, is.less, shorter rest line remaining splits some);
}

pub skip_line : (text rest line remaining : List ℕ) (passed number index : ℕ) → IsPassedTo text rest passed number index → SplitsLine rest line remaining → 0 < length rest
    → is_skipped line ≡ true → IsPassedTo text remaining passed (number + 1) index
skip_line text rest line remaining passed number index is splits some skipped =
    let same = filter-append counts is.before (line ∷ []) ∙ ap (λ (x : List (List ℕ)). filter counts is.before ++ x) (one_left line skipped) ∙ append-nil (filter counts is.before) in
    one_more text rest line remaining passed passed number index is splits some (ap length same ∙ is.said) is.within

pub pass_line : (text rest line remaining : List ℕ) (passed number index : ℕ) → IsPassedTo text rest passed number index → SplitsLine rest line remaining → 0 < length rest
    → is_skipped line ≡ false → passed ≢ index → IsPassedTo text remaining (passed + 1) (number + 1) index
pass_line text rest line remaining passed number index is splits some said other =
    let same = filter-append counts is.before (line ∷ []) ∙ ap (λ (x : List (List ℕ)). filter counts is.before ++ x) (one_kept line said) in
    one_more text rest line remaining passed (passed + 1) number index is splits some
    (omega (arith, ap length same, length-append (filter counts is.before) (line ∷ []), is.said)) (omega (arith, is.within, other))

pub found_line : (text rest line remaining : List ℕ) (passed number index : ℕ) → IsPassedTo text rest passed number index → SplitsLine rest line remaining → 0 < length rest
    → is_skipped line ≡ false → passed ≡ index → IsLineOf text index (number + 1)
found_line text rest line remaining passed number index is splits some said same =
    let later = HasLines-always remaining in
    says is.before line later.0 (is.forward (line ∷ later.0) (with_line rest line remaining later.0 splits some later.1)) said (is.said ∙ same) (ap (λ (n : ℕ). n + 1) is.count)

pub no_line : (text rest : List ℕ) (passed number index : ℕ) → IsPassedTo text rest passed number index → rest ≡ [] → IsLineOf text index (number + 1)
no_line text rest passed number index is none =
    let whole : is.before ++ [] ≡ is.before = append-nil is.before in
    past is.before (subst (λ (x : List (List ℕ)). HasLines text x) whole (is.forward [] (subst (λ (x : List ℕ). HasLines x []) (sym none) HasLines-nil)))
    (omega (arith, is.said, is.within)) (ap (λ (n : ℕ). n + 1) is.count)
