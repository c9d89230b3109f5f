-- The codes that an index tells of, and how many devices have each.
use Rattle.std.proofs.Common.{◌≡◌, ◌<◌, ◌≤◌, ◌+◌, ℕ, Bool, true, false, List, [], ◌∷◌, ◌++◌, length, filter, Option, Some, refl, sym, ap, subst, ◌∙◌, true≢false, append_assoc, arith}
use Rattle.std.specs.Prelude.{count_by, if◌then◌else◌, unwrap_or}
use Rattle.std.specs.List.{AllByRecursion}
use Rattle.std.specs.List.Sorted.{IsStrictlySortedBy}
use Rattle.std.specs.Map.{lookup, keys_of}
use Rattle.std.specs.BTreeMap.{is_at, get}
use Rattle.std.specs.Ordering.{nat_cmp, is_eq}
use Rattle.std.proofs.lemmas.Cmp.{nat_list_cmp_total, tied_itself}
use Rattle.std.specs.Cmp.Lexicographic.{slice_cmp}
use Rattle.std.specs.declared.cmp.Ordering.{Ordering}
use Rattle.std.specs.declared.cmp.Ordering.TheVariants.{Less, Equal, Greater}
use Rattle.std.proofs.lemmas.List.{length-map}
use Rattle.std.proofs.lemmas.List.Sums.{sum_by-cons, length-filter, count_by-le-length}
use Rattle.mb_format.specs.Combinators.{same_bytes}
use Rattle.mb_format.proofs.Fields.{same_bytes-refl, same_bytes-true}
use Rattle.mb_fleet.specs.declared.row.Row.{Row}
use Rattle.mb_fleet.specs.declared.question.CodeCount.{CodeCount}
use Rattle.mb_fleet.specs.declared.index.CodeIndex.{CodeIndex}
use Rattle.mb_fleet.specs.declared.indexes.CodeIndexes.{CodeIndexes}
use Rattle.mb_fleet.specs.Order.{IsBefore, IsAscending}
use Rattle.mb_fleet.specs.Rows.{serial_of_row}
use Rattle.mb_fleet.specs.Questions.{row_has_code, serials_with, hash_of_count, count_beside, AreCounts}
use Rattle.mb_fleet.specs.Indexes.{IsIndexOf, IsOfFewRows, AreIndexesOf, AreOfFewRows, AreListed}
use Rattle.mb_fleet.proofs.Each.{each_join, each_weaker}
use Rattle.mb_fleet.proofs.Indexing.{turned_off, none_found}
use Rattle.mb_fleet.proofs.Ascending.{equal_keys, before_differs}

-- ---- the counts of a map's entries

abbrev pub Entry : Type 0
Entry = List ℕ × List (List ℕ)

abbrev pub count_if : Bool → Entry → List CodeCount
count_if true e = record { hash = e.0; count = length e.1 } ∷ []
count_if false e = []

abbrev pub is_some_list : List (List ℕ) → Bool
is_some_list [] = false
is_some_list (x ∷ xs) = true

abbrev pub counts_of : List Entry → List CodeCount
counts_of [] = []
counts_of (e ∷ es) = count_if (is_some_list e.1) e ++ counts_of es

pub counts_more : (counts after : List CodeCount) (e : Entry) (left : List Entry) (all : List CodeCount) → counts ++ counts_of (e ∷ left) ≡ all → 0 < length e.1
    → after ≡ counts ++ record { hash = e.0; count = length e.1 } ∷ [] → after ++ counts_of left ≡ all
counts_more counts after e left all so_far some pushed =
    ap (λ (cs : List CodeCount). cs ++ counts_of left) pushed
    ∙ append_assoc counts (record { hash = e.0; count = length e.1 } ∷ []) (counts_of left)
    ∙ ap (λ (b : Bool). counts ++ (count_if b e ++ counts_of left)) (sym (is_there e.1 some)) ∙ so_far
  where
    is_there : (xs : List (List ℕ)) → 0 < length xs → is_some_list xs ≡ true
    is_there [] lt = absurd (omega (arith, lt))
    is_there (x ∷ xs) lt = refl

pub counts_less : (counts : List CodeCount) (e : Entry) (left : List Entry) (all : List CodeCount) → counts ++ counts_of (e ∷ left) ≡ all → length e.1 ≡ 0
    → counts ++ counts_of left ≡ all
counts_less counts e left all so_far none = ap (λ (b : Bool). counts ++ (count_if b e ++ counts_of left)) (sym (is_none e.1 none)) ∙ so_far
  where
    is_none : (xs : List (List ℕ)) → length xs ≡ 0 → is_some_list xs ≡ false
    is_none [] e = refl
    is_none (x ∷ xs) e = absurd (omega (arith, e))

-- ---- they ascend, and none is 0

each_count : (P : List ℕ → Type 0) (es : List Entry) → AllByRecursion P (keys_of es) → AllByRecursion (λ c. P c.hash) (counts_of es)
each_count P [] each = tt
each_count P (e ∷ es) each = each_join (λ c. P c.hash) (count_if (is_some_list e.1) e) (counts_of es) (own (is_some_list e.1)) (each_count P es each.1)
  where
    own : (b : Bool) → AllByRecursion (λ c. P c.hash) (count_if b e)
    own true = (each.0, tt)
    own false = tt

counts_ordered : (es : List Entry) → IsStrictlySortedBy (slice_cmp nat_cmp) (keys_of es) → IsAscending hash_of_count (counts_of es)
unfolding IsStrictlySortedBy
counts_ordered [] sorted = tt
counts_ordered (e ∷ es) sorted = own (is_some_list e.1) (counts_ordered es sorted.1)
  where
    own : (b : Bool) → IsAscending hash_of_count (counts_of es) → IsAscending hash_of_count (count_if b e ++ counts_of es)
    own true later = (each_count (λ k. IsBefore e.0 k) es sorted.0, later)
    own false later = later

counts_some : (es : List Entry) → AllByRecursion (λ c. 0 < c.count) (counts_of es)
counts_some [] = tt
counts_some ((hash, []) ∷ es) = counts_some es
counts_some ((hash, x ∷ xs) ∷ es) = (omega arith, counts_some es)

-- ---- the number beside a hash

abbrev share : List ℕ → CodeCount → ℕ
share hash c = if same_bytes hash c.hash then c.count else 0

beside_none : (hash : List ℕ) (counts : List CodeCount) → AllByRecursion (λ c. same_bytes hash c.hash ≡ false) counts → count_beside hash counts ≡ 0
beside_none hash [] each = refl
beside_none hash (c ∷ counts) each =
    let none : share hash c ≡ 0 = ap (λ (b : Bool). if b then c.count else 0) each.0 in
    omega (arith, sum_by-cons (share hash) c counts, none, beside_none hash counts each.1)

beside_first : (hash : List ℕ) (e : Entry) (es : List Entry) → count_beside hash (counts_of (e ∷ es)) ≡ (if same_bytes hash e.0 then length e.1 else 0) + count_beside hash (counts_of es)
beside_first hash (k, []) es = omega (arith, nothing (same_bytes hash k))
  where
    nothing : (b : Bool) → ◌≡◌ {A = ℕ} (if b then 0 else 0) 0
    nothing true = refl
    nothing false = refl
beside_first hash (k, x ∷ xs) es = sum_by-cons (share hash) (record { hash = k; count = length (x ∷ xs) }) (counts_of es)

not_equal : (o : Ordering) → (o ≡ Equal → ⊥) → is_eq o ≡ false
not_equal Less other = refl
not_equal Equal other = absurd (other refl)
not_equal Greater other = refl

counts_beside : (hash : List ℕ) (es : List Entry) → IsStrictlySortedBy (slice_cmp nat_cmp) (keys_of es)
    → count_beside hash (counts_of es) ≡ length (unwrap_or (lookup (is_at (slice_cmp nat_cmp hash)) es) [])
unfolding IsStrictlySortedBy
counts_beside hash [] sorted = refl
counts_beside hash (e ∷ es) sorted = beside_first hash e es ∙ own (same_bytes hash e.0) refl (counts_beside hash es sorted.1)
  where
    own : (b : Bool) → same_bytes hash e.0 ≡ b → count_beside hash (counts_of es) ≡ length (unwrap_or (lookup (is_at (slice_cmp nat_cmp hash)) es) [])
        → (if same_bytes hash e.0 then length e.1 else 0) + count_beside hash (counts_of es) ≡ length (unwrap_or (lookup (is_at (slice_cmp nat_cmp hash)) (e ∷ es)) [])
    own true is later =
        let equal = same_bytes-true hash e.0 is in
        let at : is_at (slice_cmp nat_cmp hash) e.0 ≡ true = ap (λ (k : List ℕ). is_eq (slice_cmp nat_cmp hash k)) (sym equal) ∙ ap is_eq (tied_itself nat_list_cmp_total hash) in
        let none = beside_none hash (counts_of es) (each_count (λ k. same_bytes hash k ≡ false) es
        (each_weaker (λ k. IsBefore e.0 k) (λ k. same_bytes hash k ≡ false)
        (λ k p. turned_off (same_bytes hash k) (λ s. before_differs e.0 k p (sym equal ∙ same_bytes-true hash k s))) (keys_of es) sorted.0)) in
        rw (is, at) (omega (arith, none))
    own false is later =
        let at : is_at (slice_cmp nat_cmp hash) e.0 ≡ false = not_equal (slice_cmp nat_cmp hash e.0)
        (λ q. true≢false (sym (ap (λ (k : List ℕ). same_bytes hash k) (sym (equal_keys hash e.0 q)) ∙ same_bytes-refl hash) ∙ is)) in
        rw (is, at) (omega (arith, later))

pub counts_listed : (index : CodeIndex) (counts : List CodeCount) → IsStrictlySortedBy (slice_cmp nat_cmp) (keys_of index.serials.entries)
    → counts ≡ counts_of index.serials.entries → AreListed index counts
counts_listed index counts sorted are = subst (AreListed index) (sym are) (record {
  ordered = counts_ordered index.serials.entries sorted;
  some = counts_some index.serials.entries;
  counted = λ hash. counts_beside hash index.serials.entries sorted;
})

-- ---- the index of rows

with_length : (layer : ℕ) (hash : List ℕ) (rows : List Row) → length (serials_with layer hash rows) ≡ count_by (row_has_code layer hash) rows
with_length layer hash rows = length-map (filter (row_has_code layer hash) rows) serial_of_row ∙ length-filter (row_has_code layer hash) rows

pub are_counts : (layer : ℕ) (rows : List Row) (index : CodeIndex) (counts : List CodeCount) → IsIndexOf layer rows index → AreListed index counts → AreCounts layer rows counts
are_counts layer rows index counts is are = record {
  ordered = are.ordered;
  some = are.some;
  counted = λ hash. are.counted hash ∙ ap length (is hash) ∙ with_length layer hash rows;
}

few_listed : (layer : ℕ) (rows : List Row) (index : CodeIndex) → length rows ≤ 512 → IsIndexOf layer rows index → IsOfFewRows index
few_listed layer rows index few is hash = omega (arith, ap length (is hash), with_length layer hash rows, count_by-le-length (row_has_code layer hash) rows, few)

pub all_few : (rows : List Row) (indexes : CodeIndexes) → length rows ≤ 512 → AreIndexesOf rows indexes → AreOfFewRows indexes
all_few rows indexes few are = record {
  one = few_listed 1 rows indexes.one few are.one;
  two = few_listed 2 rows indexes.two few are.two;
  three = few_listed 3 rows indexes.three few are.three;
}

-- the serials that are listed at a key are few
pub few_here : (index : CodeIndex) (hash : List ℕ) (serials : List (List ℕ)) → IsOfFewRows index → get (slice_cmp nat_cmp) index.serials hash ≡ Some serials → length serials ≤ 512
few_here index hash serials few is = subst (λ (o : Option (List (List ℕ))). length (unwrap_or o []) ≤ 512) is (few hash)

-- ---- no other layer has codes

pub no_counts : (layer : ℕ) (rows : List Row) → (layer ≡ 1 → ⊥) → (layer ≡ 2 → ⊥) → (layer ≡ 3 → ⊥) → AreCounts layer rows []
no_counts layer rows one two three = record {
  ordered = tt;
  some = tt;
  counted = λ hash. ap length (sym (none_found layer hash rows one two three)) ∙ with_length layer hash rows;
}
