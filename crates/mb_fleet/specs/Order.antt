-- When lists of serials or of hashes ascend. Which of two comes first?
use Rattle.std.specs.Prelude.{◌≡◌, ℕ, List, [], ◌∷◌}
use Rattle.std.specs.List.{AllByRecursion}
use Rattle.std.specs.Ordering.{nat_cmp}
use Rattle.std.specs.declared.cmp.Ordering.TheVariants.{Less}
use Rattle.std.specs.Cmp.Lexicographic.{slice_cmp}

-- the first of two serials or two hashes comes before the other: it is less at the first byte that differs
abbrev pub IsBefore : List ℕ → List ℕ → Type 0
IsBefore a b = slice_cmp nat_cmp a b ≡ Less

-- each item of a list comes before all that follow it, by this key
abbrev pub IsAscending : {A : Type 0} → (A → List ℕ) → List A → Type 0
IsAscending key [] = Unit {0}
IsAscending key (x ∷ xs) = AllByRecursion (λ y. IsBefore (key x) (key y)) xs × IsAscending key xs
