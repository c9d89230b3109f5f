-- A text of one line: what it is read as, or which line of it is wrong.
use Rattle.std.proofs.Common.{◌≡◌, ℕ, ◌<◌, List, [], ◌∷◌, length, sym, ap, subst, arith}
use Rattle.std.specs.Prelude.{Err}
use Rattle.mb_model.specs.chains.Lines.{HasLines, TextFailsAtLine}
use Rattle.mb_model_lemmas.proofs.LineLemmas.{HasLines-none, HasLines-nil, HasLines-always}
use Rattle.mb_model_lemmas.proofs.OrderLineLemmas.{HasOneLine, empty, first, second}
use Rattle.mb_words.specs.declared.said.NotSaid.{NotSaid}
use Rattle.mb_words.specs.declared.said.NotSaid.TheVariants as why
use Rattle.mb_words.specs.Words.{Finds, SplitsLine}
use Rattle.mb_words.proofs.NextLines.{with_line}

-- each value stands in one line, and here is one that does
pub record IsOneLine {A : Type 0} (Grammar : List (List ℕ) → A → Type 0) : Type 0 where
  pub one : HasOneLine Grammar
  pub good : List (List ℕ)
  pub value : A
  pub stands : Grammar good value

-- there is no line
pub no_line : {A : Type 0} {Grammar : List (List ℕ) → A → Type 0} → IsOneLine Grammar → (text : List ℕ) → text ≡ [] → TextFailsAtLine Grammar text 1
no_line {A} {Grammar} is text none = record {
  lines = [];
  has = subst (λ (x : List ℕ). HasLines x []) (sym none) HasLines-nil;
  fails = empty Grammar is.one is.good is.value is.stands;
}

-- the first line stands for nothing
pub first_wrong : {A : Type 0} {Grammar : List (List ℕ) → A → Type 0} → IsOneLine Grammar → (text line rest : List ℕ) → SplitsLine text line rest
    → 0 < length text → ((value : A) → Grammar (line ∷ []) value → ⊥) → TextFailsAtLine Grammar text 1
first_wrong {A} {Grammar} is text line rest splits some none =
    let remaining = HasLines-always rest in
    record {
      lines = line ∷ remaining.0;
      has = with_line text line rest remaining.0 splits some remaining.1;
      fails = first Grammar is.one line remaining.0 is.good is.value is.stands none;
    }

second_in : {A : Type 0} {Grammar : List (List ℕ) → A → Type 0} → HasOneLine Grammar → (text line rest : List ℕ) (value : A) (lines : List (List ℕ))
    → SplitsLine text line rest → 0 < length text → 0 < length rest → Grammar (line ∷ []) value → HasLines rest lines → TextFailsAtLine Grammar text 2
second_in {A} {Grammar} one text line rest value [] splits some more is has = absurd (omega (arith, more, ap length (HasLines-none rest has)))
second_in {A} {Grammar} one text line rest value (other ∷ later) splits some more is has = record {
  lines = line ∷ other ∷ later;
  has = with_line text line rest (other ∷ later) splits some has;
  fails = second Grammar one line other later value is;
}

-- another line follows the first
pub second_wrong : {A : Type 0} {Grammar : List (List ℕ) → A → Type 0} → HasOneLine Grammar → (text line rest : List ℕ) (value : A) → SplitsLine text line rest
    → 0 < length text → 0 < length rest → Grammar (line ∷ []) value → TextFailsAtLine Grammar text 2
second_wrong {A} {Grammar} one text line rest value splits some more is =
    let remaining = HasLines-always rest in
    second_in {Grammar = Grammar} one text line rest value remaining.0 splits some more is remaining.1

-- what is not in the grammar is none
pub none_found : {A : Type 0} (Is : A → Type 0) (e : NotSaid) → e ≡ why.Form → Finds {A = A} Is (Err e) → (a : A) → Is a → ⊥
none_found {A} Is e form found = subst (λ (x : NotSaid). Finds {A = A} Is (Err x)) form found
