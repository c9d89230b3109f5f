-- The next line of a text, and the lines after it.
use Rattle.std.proofs.Common.{ℕ, ◌<◌, inl, inr, List, [], ◌∷◌, length, length-append, sym, ap, subst, arith}
use Rattle.mb_model.specs.chains.Lines.{HasLines}
use Rattle.mb_model_lemmas.proofs.LineLemmas.{HasLines-on, HasLines-over, HasLines-nil, HasLines-same}
use Rattle.mb_words.specs.Words.{SplitsLine}

-- what is left is less
pub shorter : (rest line remaining : List ℕ) → SplitsLine rest line remaining → 0 < length rest → length remaining < length rest
shorter rest line remaining splits some =
    elim splits.whole [
      | inl ends ↦ omega (arith, ap length ends, length-append line (10 ∷ remaining))
      | inr last ↦ omega (arith, some, ap length last.1)
    ]

-- the lines of what stands after a line, with it
pub with_line : (rest line remaining : List ℕ) (more : List (List ℕ)) → SplitsLine rest line remaining → 0 < length rest → HasLines remaining more → HasLines rest (line ∷ more)
with_line rest line remaining more splits some has =
    elim splits.whole [
      | inl ends ↦ HasLines-on rest line remaining more splits.plain ends has
      | inr last ↦
          let none = HasLines-same [] more [] (subst (λ (x : List ℕ). HasLines x more) last.1 has) HasLines-nil in
          let alone = HasLines-over line splits.plain (λ empty. omega (arith, some, ap length last.0, ap length empty)) in
          subst (λ (x : List (List ℕ)). HasLines rest (line ∷ x)) (sym none) (subst (λ (x : List ℕ). HasLines x (line ∷ [])) (sym last.0) alone)
    ]
