-- A search that is right both ways. Is there a value, and which?
use Rattle.std.specs.Prelude.{Option, Some, None}

-- the value found has the property; if none is found, no value has it
abbrev pub FindsBy : {A X : Type 0} → (X → A) → (A → Type 0) → Option X → Type 0
FindsBy view Is (Some x) = Is (view x)
FindsBy {A} view Is None = (a : A) → Is a → ⊥
