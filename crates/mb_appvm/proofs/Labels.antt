-- Labels among lines and in texts.
use Rattle.std.proofs.Common.{◌≡◌, ℕ, ◌<◌, ◌⊎◌, inl, inr, List, [], ◌∷◌, length, true, ap, subst}
use Rattle.mb_format.proofs.Fields.{same_bytes-true}
use Rattle.mb_model.specs.chains.Lines.{HasLines}
use Rattle.mb_model_lemmas.proofs.LineLemmas.{HasLines-same, HasLines-always, HasLines-nil}
use Rattle.mb_words.specs.Words.{SplitsLine}
use Rattle.mb_words.proofs.NextLines.{with_line}
use Rattle.mb_appvm.specs.declared.lines.Said.{Said}
use Rattle.mb_appvm.specs.declared.lines.Said.TheVariants as says
use Rattle.mb_appvm.specs.Assembly.{SaysAssemblyLine, is_label, GivesLabel}
use Rattle.mb_appvm.specs.Checking.{TextGives}

pub is_label-true : (s : Said) (name : List ℕ) → is_label name s ≡ true → s ≡ says.Label name
is_label-true (says.Label other) name e = ap (λ (x : List ℕ). says.Label x) (same_bytes-true other name e)
is_label-true (says.Whole i) name e = absurd cc
is_label-true (says.JumpTo kind other) name e = absurd cc

-- ---- a text, line by line

pub gives_on : (rest line later name : List ℕ) → SplitsLine rest line later → 0 < length rest → TextGives later name → TextGives rest name
gives_on rest line later name splits some gives = record {
  lines = line ∷ gives.lines;
  has = with_line rest line later gives.lines splits some gives.has;
  gives = inr gives.gives;
}

pub gives_here : (rest line later name : List ℕ) → SplitsLine rest line later → 0 < length rest → SaysAssemblyLine line (says.Label name) → TextGives rest name
gives_here rest line later name splits some is =
    let more = HasLines-always later in
    record { lines = line ∷ more.0; has = with_line rest line later more.0 splits some more.1; gives = inl is }

pub gives_parts : (rest line later name : List ℕ) → SplitsLine rest line later → 0 < length rest → TextGives rest name
    → SaysAssemblyLine line (says.Label name) ⊎ TextGives later name
gives_parts rest line later name splits some gives =
    let more = HasLines-always later in
    let same = HasLines-same rest gives.lines (line ∷ more.0) gives.has (with_line rest line later more.0 splits some more.1) in
    elim (subst (λ (x : List (List ℕ)). GivesLabel x name) same gives.gives) [
      | inl is ↦ inl is
      | inr on ↦ inr (record { lines = more.0; has = more.1; gives = on })
    ]

pub none_given : (rest name : List ℕ) → rest ≡ [] → TextGives rest name → ⊥
none_given rest name none gives =
    let has = subst (λ (x : List ℕ). HasLines x gives.lines) none gives.has in
    subst (λ (x : List (List ℕ)). GivesLabel x name) (HasLines-same [] gives.lines [] has HasLines-nil) gives.gives
