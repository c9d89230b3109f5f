-- What reading a text, a line or its words gives. Is what is found exactly what stands there?
use Rattle.std.specs.Prelude.{◌≡◌, ◌≢◌, ℕ, ◌⊎◌, List, [], ◌∷◌, ◌++◌, All, Option, Some, None, Result, Ok, Err}
use Rattle.mb_model.specs.chains.Lines.{IsLine, ReadsLines, TextFailsAtLine}
use Rattle.mb_words.specs.declared.end.TextEnd.{TextEnd}
use Rattle.mb_words.specs.declared.end.TextEnd.TheVariants as end
use Rattle.mb_words.specs.declared.said.NotSaid.{NotSaid}
use Rattle.mb_words.specs.declared.said.NotSaid.TheVariants as why

-- ---- words

-- what is found has the property, or nothing has it; nothing is said of a failed allocation
abbrev pub Finds : {A : Type 0} → (A → Type 0) → Result A NotSaid → Type 0
Finds Is (Ok a) = Is a
Finds {A} Is (Err why.Form) = (a : A) → Is a → ⊥
Finds Is (Err why.NoMemory) = Unit {0}

-- what is found has the property, or nothing has it
abbrev pub FindsSome : {A : Type 0} → (A → Type 0) → Option A → Type 0
FindsSome Is (Some a) = Is a
FindsSome {A} Is None = (a : A) → Is a → ⊥

-- a text is split at the first occurrence of this byte
pub record IsSplit (byte : ℕ) (text front rest : List ℕ) : Type 0 where
  pub first : All (λ b. b ≢ byte) front
  pub whole : text ≡ front ++ byte ∷ rest

-- ---- lines

-- a text is its first line, which has no LF, and what stands after the line's LF; the last line may lack its LF
pub record SplitsLine (text first rest : List ℕ) : Type 0 where
  pub plain : IsLine first
  pub whole : (text ≡ first ++ 10 ∷ rest) ⊎ ((text ≡ first) × (rest ≡ []))

-- ---- texts

-- The text is one of the grammar, and what was read means its value; or this line of it is the first that is wrong.
-- Nothing is said of a failed allocation.
abbrev pub ReadsTextAs : {A X : Type 0} → (X → A) → (List (List ℕ) → A → Type 0) → List ℕ → Result X TextEnd → Type 0
ReadsTextAs view Grammar text (Ok x) = ReadsLines Grammar text (view x)
ReadsTextAs view Grammar text (Err (end.BadLine line)) = TextFailsAtLine Grammar text line
ReadsTextAs view Grammar text (Err end.NoMemory) = Unit {0}

abbrev pub ReadsTextOf : {A : Type 0} → (List (List ℕ) → A → Type 0) → List ℕ → Result A TextEnd → Type 0
ReadsTextOf Grammar = ReadsTextAs (λ a. a) Grammar
