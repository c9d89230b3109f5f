-- Bytes are the items of one list, or fail at one offset.
use Rattle.std.proofs.Common.{◌≡◌, ◌<◌, ◌+◌, ℕ, List, [], ◌∷◌, ◌++◌, length, drop, Option, Some, None, refl, sym, ap, subst, ◌∙◌, append_assoc, length-append, drop_at, drop-drop, arith, true≢false, is_some}
use Rattle.std.proofs.lemmas.Option.{same_Some}
use Rattle.mb_format.specs.Format.{IsOffset, SpelledAt, IsClear}
use Rattle.mb_format.specs.Combinators.{times, items}
use Rattle.mb_format.proofs.Exact.{IsClear-from_exact, after_offset}
use Rattle.mb_format.proofs.Whole.{at_start, whole_spelled, IsClearWhole-from_exact}
use Rattle.mb_fleet.specs.declared.item.Item.{Item}
use Rattle.mb_fleet.specs.ItemFormat.{item_format, AreItems}
use Rattle.mb_fleet.specs.Laws.{ItemsAreClear, FleetInputsAreClear}
use Rattle.mb_fleet.proofs.Reading.{item_exact, item_some}
use Rattle.mb_fleet.specs.ExactFormats.{register_exact}

item_clear : IsClear item_format
item_clear = IsClear-from_exact item_exact

-- ---- item after item

-- items are spelled one after another from an offset on
abbrev Steps : List ℕ → ℕ → List Item → ℕ → Type 0
Steps bytes at [] after = at ≡ after
Steps bytes at (x ∷ xs) after = (middle : ℕ) × SpelledAt item_format.spelling item_format.Allowed bytes at x middle × Steps bytes middle xs after

abbrev AllAt : List ℕ → ℕ → List Item → ℕ → Type 0
AllAt bytes at xs after = SpelledAt (times (length xs) item_format).spelling (times (length xs) item_format).Allowed bytes at xs after

first_of : (bytes : List ℕ) (at : ℕ) (x : Item) (xs : List Item) (after : ℕ) → AllAt bytes at (x ∷ xs) after
    → SpelledAt item_format.spelling item_format.Allowed bytes at x (at + length (item_format.spelling x)) × AllAt bytes (at + length (item_format.spelling x)) xs after
unfolding items
first_of bytes at x xs after all =
    let own = item_format.spelling x in
    let rest = (times (length xs) item_format).spelling xs in
    let whole : drop at bytes ≡ own ++ (rest ++ drop after bytes) = all.here ∙ append_assoc own rest (drop after bytes) in
    let later : drop (at + length own) bytes ≡ rest ++ drop after bytes =
    sym (drop-drop (length own) at bytes) ∙ ap (λ (b : List ℕ). drop (length own) b) whole ∙ drop_at own (rest ++ drop after bytes) (length own) refl in (
      record {
        allowed = all.allowed.0;
        here = whole ∙ ap (λ (b : List ℕ). own ++ b) (sym later);
        ends = refl;
        within = omega (arith, all.ends, all.within, length-append own rest);
      },
      record {
        allowed = all.allowed.1;
        here = later;
        ends = omega (arith, all.ends, length-append own rest);
        within = all.within;
      },
    )

nothing_spelled : length ((times 0 item_format).spelling []) ≡ 0
unfolding items
nothing_spelled = refl

steps_of : (bytes : List ℕ) (at : ℕ) (xs : List Item) (after : ℕ) → AllAt bytes at xs after → Steps bytes at xs after
steps_of bytes at [] after all = omega (arith, all.ends, nothing_spelled)
steps_of bytes at (x ∷ xs) after all =
    let first = first_of bytes at x xs after all in
    (at + length (item_format.spelling x), first.0, steps_of bytes (at + length (item_format.spelling x)) xs after first.1)

-- ---- where they end

-- at the end of the bytes, or where the next item fails
abbrev Ends : List ℕ → ℕ → Option ℕ → Type 0
Ends bytes after None = after ≡ length bytes
Ends bytes after (Some offset) = (after < length bytes) × item_format.FailsAt bytes after offset

no_more : (bytes : List ℕ) (at : ℕ) (x : Item) (middle : ℕ) (o : Option ℕ) → IsOffset bytes at → SpelledAt item_format.spelling item_format.Allowed bytes at x middle → Ends bytes at o → ⊥
no_more bytes at x middle None offset spelled ends = absurd (omega (arith, spelled.ends, spelled.within, item_some x, ends))
no_more bytes at x middle (Some p) offset spelled ends = item_clear.never_both bytes at x middle p offset spelled ends.1

one_end : (bytes : List ℕ) (at : ℕ) (o p : Option ℕ) → IsOffset bytes at → Ends bytes at o → Ends bytes at p → o ≡ p
one_end bytes at None None offset x y = refl
one_end bytes at None (Some p) offset x y = absurd (omega (arith, x, y.0))
one_end bytes at (Some o) None offset x y = absurd (omega (arith, y, x.0))
one_end bytes at (Some o) (Some p) offset x y = ap (λ (n : ℕ). Some n) (item_clear.one_offset bytes at o p offset x.1 y.1)

one_way : (bytes : List ℕ) (at : ℕ) (a b : List Item) (m n : ℕ) (o p : Option ℕ) → IsOffset bytes at → Steps bytes at a m → Ends bytes m o → Steps bytes at b n → Ends bytes n p
    → (a ≡ b) × (o ≡ p)
one_way bytes at [] [] m n o p offset x ends y also =
    (refl, one_end bytes at o p offset (subst (λ (k : ℕ). Ends bytes k o) (sym x) ends) (subst (λ (k : ℕ). Ends bytes k p) (sym y) also))
one_way bytes at [] (b ∷ bs) m n o p offset x ends y also = absurd (no_more bytes at b y.0 o offset y.1 (subst (λ (k : ℕ). Ends bytes k o) (sym x) ends))
one_way bytes at (a ∷ more) [] m n o p offset x ends y also = absurd (no_more bytes at a x.0 p offset x.1 (subst (λ (k : ℕ). Ends bytes k p) (sym y) also))
one_way bytes at (a ∷ more) (b ∷ bs) m n o p offset x ends y also =
    let same = item_clear.one_value bytes at a b x.0 y.0 offset x.1 y.1 in
    let rest = one_way bytes y.0 more bs m n o p (after_offset item_format.spelling item_format.Allowed bytes at b y.0 offset y.1)
    (subst (λ (k : ℕ). Steps bytes k more m) same.1 x.2) ends y.2 also in
    (ap (λ (i : Item). i ∷ more) same.0 ∙ ap (λ (is : List Item). b ∷ is) rest.0, rest.1)

-- ---- the laws

steps_whole : (bytes : List ℕ) (listed : List Item) → AreItems bytes listed → Steps bytes 0 listed (length bytes)
steps_whole bytes listed are = steps_of bytes 0 listed (length bytes) (whole_spelled (times (length listed) item_format) bytes listed are)

pub items_are_clear : ItemsAreClear
items_are_clear = record {
  one_list = λ bytes a b are x y. (one_way bytes 0 a b (length bytes) (length bytes) None None (at_start bytes are) (steps_whole bytes a x) refl (steps_whole bytes b y) refl).0;
  one_offset = λ bytes p q are x y. same_Some p q (one_way bytes 0 x.listed y.listed x.after y.after (Some p) (Some q) (at_start bytes are)
      (steps_of bytes 0 x.listed x.after x.spelled) (x.more, x.fails) (steps_of bytes 0 y.listed y.after y.spelled) (y.more, y.fails)).1;
  never_both = λ bytes listed offset are x y. true≢false (sym (ap is_some (one_way bytes 0 listed y.listed (length bytes) y.after None (Some offset) (at_start bytes are)
      (steps_whole bytes listed x) refl (steps_of bytes 0 y.listed y.after y.spelled) (y.more, y.fails)).1));
}

pub inputs_are_clear : FleetInputsAreClear
inputs_are_clear = record {
  register = λ name bytes rows place are is faulty. (IsClearWhole-from_exact register_exact).never_both bytes rows faulty.0 are is faulty.2;
  items = λ name bytes listed place are is faulty. items_are_clear.never_both bytes listed faulty.0 are is faulty.2;
}
