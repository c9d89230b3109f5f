-- A row that meets the rows of a register.
use Rattle.std.proofs.Common.{◌≡◌, ◌==◌, ◌<◌, ◌≤◌, ◌+◌, ℕ, Bool, true, false, List, [], ◌∷◌, ◌++◌, length, take, drop, get_or, refl, sym, ap, subst, ◌∙◌, true≢false, arith}
use Rattle.std.specs.Prelude.{not, nat_eq, slice_set, ◌&&◌, if◌then◌else◌}
use Rattle.std.specs.Str.{bytes_eq}
use Rattle.std.specs.List.{AllByRecursion, insert}
use Rattle.std.specs.Cmp.Lexicographic.{pointwise}
use Rattle.std.proofs.lemmas.Cmp.{nat_list_eq_equiv}
use Rattle.std.proofs.lemmas.Option.{slice_get-get_or, get_or_from_slice_get}
use Rattle.std.proofs.lemmas.List.{take_all, take_more_same, take-append-drop, length-drop, length-append}
use Rattle.mb_format.specs.Combinators.{same_bytes}
use Rattle.mb_format.proofs.Fields.{same_bytes-true}
use Rattle.mb_fleet.specs.declared.row.Row.{Row}
use Rattle.mb_fleet.specs.Rows.{AreOrdered, serial_of_row}
use Rattle.mb_fleet.specs.Showing.{newly_added, same, extended, older, forked, full, IsShorter, DifferAt, HasOld, Meets, is_added, is_full, is_same, is_extended, is_older, is_forked}
use Rattle.mb_fleet.specs.Lookups.{IsHeld, IsFree, HasFewEntries, FitsRegister}
use Rattle.mb_fleet.proofs.Each.{each_between, each_instead}
use Rattle.mb_fleet.proofs.Ascending.{ascending_between, ascending_instead, none_has}
use Rattle.mb_fleet.proofs.Standing.{held_here_is, insert_between, set_between}

-- ---- bytes

same_is : (xs ys : List ℕ) → bytes_eq xs ys ≡ same_bytes xs ys
same_is [] [] = refl
same_is [] (y ∷ ys) = refl
same_is (x ∷ xs) [] = refl
same_is (x ∷ xs) (y ∷ ys) = both (x == y) (bytes_eq xs ys) (same_bytes xs ys) (same_is xs ys)
  where
    both : (b one other : Bool) → one ≡ other → (b && one) ≡ (if b then other else false)
    both true one other e = e
    both false one other e = refl

equal_bytes : (xs ys : List ℕ) → bytes_eq xs ys ≡ true → xs ≡ ys
equal_bytes xs ys is = same_bytes-true xs ys (sym (same_is xs ys) ∙ is)

-- ---- two lists of hashes

pub differ_here : (a b : List (List ℕ)) (i : ℕ) → i < length a → i < length b → take i a ≡ take i b
    → not (pointwise nat_eq (get_or a i []) (get_or b i [])) ≡ true → DifferAt a b i
differ_here a b i in_a in_b equal differ = record {
  equal = equal;
  in_a = in_a;
  in_b = in_b;
  differ = λ e.
      let one : get_or a i [] ≡ get_or b i [] = get_or_from_slice_get a i (get_or b i []) [] (e ∙ slice_get-get_or b i [] in_b) in
      let eq : pointwise nat_eq (get_or a i []) (get_or b i []) ≡ true =
      ap (pointwise nat_eq (get_or a i [])) (sym one) ∙ nat_list_eq_equiv.refl (get_or a i []) in
      true≢false (sym differ ∙ ap not eq);
}

pub all_same : (old new : List (List ℕ)) (i : ℕ) → length old ≡ length new → length old ≤ i → take i old ≡ take i new → new ≡ old
all_same old new i size le equal = sym (take_all i new (omega (arith, size, le))) ∙ sym equal ∙ take_all i old le

pub one_shorter : (short long : List (List ℕ)) (i : ℕ) → i ≡ length short → length short < length long → take i short ≡ take i long → IsShorter short long
one_shorter short long i size less equal = record {
  more = drop i long;
  some = λ none. absurd (omega (arith, ap length none, length-drop i long, size, less));
  whole = sym (take-append-drop i long) ∙ ap (λ front. front ++ drop i long) (sym equal ∙ take_all i short (omega (arith, size)));
}

not_off : (b : Bool) → not b ≡ false → b ≡ true
not_off true is = refl
not_off false is = absurd (true≢false is)

pub same_goes_on : (a b : List (List ℕ)) (i : ℕ) → i < length a → i < length b → take i a ≡ take i b
    → not (pointwise nat_eq (get_or a i []) (get_or b i [])) ≡ false → take (i + 1) a ≡ take (i + 1) b
same_goes_on a b i in_a in_b equal off =
    take_more_same a b i [] in_a in_b equal (equal_bytes (get_or a i []) (get_or b i []) (not_off (pointwise nat_eq (get_or a i []) (get_or b i [])) off))

-- ---- a new device

module _ (rows : List Row) (row : Row) (at : ℕ) (free : IsFree serial_of_row rows row.serial at) where
  is_new : AllByRecursion (λ other. other.serial ≡ row.serial → ⊥) rows
  is_new = subst (AllByRecursion (λ other. other.serial ≡ row.serial → ⊥)) (sym free.split) (none_has serial_of_row free.before free.later row.serial free.below free.above)

  pub meets_full : 512 ≤ length rows → Meets rows row full rows
  meets_full many = is_full is_new many refl refl

  pub meets_new : (after : List Row) (n : ℕ) → length rows < 512 → after ≡ insert rows at row → n ≡ length row.hashes → Meets rows row (newly_added row.serial n) after
  meets_new after n few inserted size =
      is_added is_new few free.before free.later free.split (record { below = free.below; above = free.above })
      (inserted ∙ insert_between rows free.before free.later at row free.split free.index_is) (ap (newly_added row.serial) size)

  pub new_fits : (after : List Row) → FitsRegister rows → HasFewEntries row → length rows < 512 → after ≡ insert rows at row → FitsRegister after
  new_fits after fits own few inserted =
      let whole = inserted ∙ insert_between rows free.before free.later at row free.split free.index_is in
      let size = ap length whole ∙ length-append free.before (row ∷ free.later) in
      let old = ap length free.split ∙ length-append free.before free.later in
      record {
        ordered = subst AreOrdered (sym whole) (ascending_between serial_of_row free.before row free.later (subst AreOrdered free.split fits.ordered) free.below free.above);
        few = omega (arith, size, old, few);
        each = subst (AllByRecursion HasFewEntries) (sym whole) (each_between HasFewEntries free.before row free.later (subst (AllByRecursion HasFewEntries) free.split fits.each) own);
      }

-- ---- a device that is there

module _ (rows : List Row) (row : Row) (at : ℕ) (held : IsHeld serial_of_row rows row.serial at) where
  pub held_within : at < length rows
  held_within = omega (arith, held.index_is, ap length held.split, length-append held.before (held.item ∷ held.later))

  pub held_item : (d : Row) → get_or rows at d ≡ held.item
  held_item d = held_here_is serial_of_row rows row.serial at held d

  has_old : HasOld rows row held.before held.item held.later
  has_old = record { split = held.split; serial = held.key_is }

  -- the hashes of the row that is read there
  pub hashes_there : (inside : List Row) (d : Row) (hashes : List (List ℕ)) → inside ≡ rows → d ≡ get_or inside at d → hashes ≡ d.hashes → hashes ≡ held.item.hashes
  hashes_there inside d hashes view is own = own ∙ ap (λ (r : Row). r.hashes) (is ∙ ap (λ (rs : List Row). get_or rs at d) view ∙ held_item d)

  module _ (olds news : List (List ℕ)) (o : olds ≡ held.item.hashes) (w : news ≡ row.hashes) where
    are_shorter : IsShorter olds news → IsShorter held.item.hashes row.hashes
    are_shorter shorter = subst (λ (x : List (List ℕ)). IsShorter x row.hashes) o (subst (λ (y : List (List ℕ)). IsShorter olds y) w shorter)

    are_longer : IsShorter news olds → IsShorter row.hashes held.item.hashes
    are_longer longer = subst (λ (x : List (List ℕ)). IsShorter x held.item.hashes) w (subst (λ (y : List (List ℕ)). IsShorter news y) o longer)

    they_differ : (place : ℕ) → DifferAt olds news place → DifferAt held.item.hashes row.hashes place
    they_differ place differ = subst (λ (x : List (List ℕ)). DifferAt x row.hashes place) o (subst (λ (y : List (List ℕ)). DifferAt olds y place) w differ)

    pub meets_same : (n : ℕ) → news ≡ olds → n ≡ length row.hashes → Meets rows row (same row.serial n) rows
    meets_same n equal size = is_same held.before held.item held.later has_old (sym w ∙ equal ∙ o) refl (ap (same row.serial) size)

    pub meets_older : (n : ℕ) → IsShorter news olds → n ≡ length held.item.hashes → Meets rows row (older row.serial n) rows
    meets_older n longer size = is_older held.before held.item held.later has_old (are_longer longer) refl (ap (older row.serial) size)

    pub meets_fork : (place : ℕ) → DifferAt olds news place → Meets rows row (forked row.serial place) rows
    meets_fork place differ = is_forked held.before held.item held.later has_old place (they_differ place differ) refl refl

    pub meets_extended : (after : List Row) (n : ℕ) → IsShorter olds news → n ≡ length row.hashes → after ≡ slice_set rows at row → Meets rows row (extended row.serial n) after
    meets_extended after n shorter size replaced = is_extended held.before held.item held.later has_old (are_shorter shorter)
        (replaced ∙ set_between rows held.before held.item held.later at row held.split held.index_is) (ap (extended row.serial) size)

  pub old_fits : (after : List Row) → FitsRegister rows → HasFewEntries row → after ≡ slice_set rows at row → FitsRegister after
  old_fits after fits own replaced =
      let whole = replaced ∙ set_between rows held.before held.item held.later at row held.split held.index_is in
      let size = ap length whole ∙ length-append held.before (row ∷ held.later) in
      let old = ap length held.split ∙ length-append held.before (held.item ∷ held.later) in
      record {
        ordered = subst AreOrdered (sym whole) (ascending_instead serial_of_row held.before held.item row held.later held.key_is (subst AreOrdered held.split fits.ordered));
        few = omega (arith, size, old, fits.few);
        each = subst (AllByRecursion HasFewEntries) (sym whole) (each_instead HasFewEntries held.before held.item row held.later (subst (AllByRecursion HasFewEntries) held.split fits.each) own);
      }
