-- Where a key stands: what a walk over the list finds.
use Rattle.std.proofs.Common.{◌≡◌, ◌<◌, ◌≤◌, ◌+◌, ℕ, List, [], ◌∷◌, ◌++◌, length, take, drop, get_or, refl, sym, ap, subst, ◌∙◌, ◌-◌, append-nil, arith}
use Rattle.std.specs.List.{AllByRecursion, insert}
use Rattle.std.specs.Prelude.{slice_set}
use Rattle.std.proofs.lemmas.List.{take_more, take_all, take-append-drop, set-append_right, length-take-le}
use Rattle.std.proofs.lemmas.List.Edits.{insert-append_right}
use Rattle.std.proofs.Math.Seq.{get_or-append_seam}
use Rattle.std.specs.Cmp.Lexicographic.{slice_cmp}
use Rattle.std.specs.Ordering.{nat_cmp}
use Rattle.std.specs.declared.cmp.Ordering.TheVariants.{Less, Equal, Greater}
use Rattle.mb_bytes.proofs.Putting.{item_at}
use Rattle.mb_fleet.specs.Order.{IsBefore, IsAscending}
use Rattle.mb_fleet.specs.Lookups.{IsHeld, IsFree}
use Rattle.mb_fleet.proofs.Each.{each_push}
use Rattle.mb_fleet.proofs.Ascending.{before_all, after_is_before, equal_keys, middle_above}

-- a list about one of its items
pub about : {A : Type 0} (xs : List A) (i : ℕ) (d : A) → i < length xs → xs ≡ take i xs ++ get_or xs i d ∷ drop (i + 1) xs
about xs i d lt = sym (take-append-drop i xs) ∙ ap (λ rest. take i xs ++ rest) (item_at xs i d lt)

count_front : {A : Type 0} (xs : List A) (i : ℕ) → i ≤ length xs → i ≡ length (take i xs)
count_front xs i le = sym (length-take-le i xs le)

module _ {A : Type 0} (key : A → List ℕ) (xs : List A) (wanted : List ℕ) where
  -- the first items of the list come before the key
  abbrev pub IsPast : ℕ → Type 0
  IsPast i = AllByRecursion (λ x. IsBefore (key x) wanted) (take i xs)

  pub past_none : IsPast 0
  past_none = tt

  pub past_more : (i : ℕ) (d : A) → i < length xs → IsPast i → slice_cmp nat_cmp (key (get_or xs i d)) wanted ≡ Less → IsPast (i + 1)
  past_more i d lt past less = subst (AllByRecursion (λ x. IsBefore (key x) wanted)) (sym (take_more xs i d lt))
      (each_push (λ x. IsBefore (key x) wanted) (take i xs) (get_or xs i d) past less)

  pub held_here : (i : ℕ) (d : A) → i < length xs → slice_cmp nat_cmp (key (get_or xs i d)) wanted ≡ Equal → IsHeld key xs wanted i
  held_here i d lt equal = record {
    before = take i xs;
    item = get_or xs i d;
    later = drop (i + 1) xs;
    split = about xs i d lt;
    index_is = count_front xs i (omega (arith, lt));
    key_is = equal_keys (key (get_or xs i d)) wanted equal;
  }

  pub free_here : (i : ℕ) (d : A) → i < length xs → IsAscending key xs → IsPast i → slice_cmp nat_cmp (key (get_or xs i d)) wanted ≡ Greater → IsFree key xs wanted i
  free_here i d lt is past greater =
      let first = after_is_before (key (get_or xs i d)) wanted greater in
      let above = middle_above key (take i xs) (get_or xs i d) (drop (i + 1) xs) (subst (IsAscending key) (about xs i d lt) is) in
      record {
        before = take i xs;
        later = get_or xs i d ∷ drop (i + 1) xs;
        split = about xs i d lt;
        index_is = count_front xs i (omega (arith, lt));
        below = past;
        above = (first, before_all key wanted (get_or xs i d) (drop (i + 1) xs) first above);
      }

  pub free_at_end : (i : ℕ) → length xs ≤ i → IsPast i → IsFree key xs wanted (length xs)
  free_at_end i le past = record {
    before = xs;
    later = [];
    split = sym (append-nil xs);
    index_is = refl;
    below = subst (AllByRecursion (λ x. IsBefore (key x) wanted)) (take_all i xs le) past;
    above = tt;
  }

-- the item at the index at which a key is held
pub held_here_is : {A : Type 0} (key : A → List ℕ) (xs : List A) (wanted : List ℕ) (i : ℕ) (held : IsHeld key xs wanted i) (d : A) → get_or xs i d ≡ held.item
held_here_is key xs wanted i held d =
    ap (λ (ys : List _). get_or ys i d) held.split ∙ ap (λ n. get_or (held.before ++ held.item ∷ held.later) n d) held.index_is
    ∙ get_or-append_seam held.before held.item held.later d

-- ---- edits in the middle

pub insert_between : {A : Type 0} (xs before later : List A) (i : ℕ) (x : A) → xs ≡ before ++ later → i ≡ length before → insert xs i x ≡ before ++ x ∷ later
insert_between xs before later i x split index =
    ap (λ (ys : List _). insert ys i x) split
    ∙ insert-append_right before later (length before) i x refl (omega (arith, index))
    ∙ (let n : i - length before ≡ 0 = omega (arith, index) in rw n refl)

pub set_between : {A : Type 0} (xs before : List A) (old : A) (later : List A) (i : ℕ) (x : A) → xs ≡ before ++ old ∷ later → i ≡ length before → slice_set xs i x ≡ before ++ x ∷ later
set_between xs before old later i x split index =
    ap (λ (ys : List _). slice_set ys i x) split
    ∙ set-append_right before (old ∷ later) (length before) i x refl (omega (arith, index))
    ∙ (let n : i - length before ≡ 0 = omega (arith, index) in rw n refl)
