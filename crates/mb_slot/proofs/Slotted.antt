-- The areas of a slot after one of them, or the selector, was written.
use Rattle.std.proofs.Common.{◌≡◌, ◌≢◌, ℕ, zero, suc, ◌+◌, ◌*◌, ◌%◌, ◌==◌, ◌<◌, ◌≤◌, ◌⊎◌, inl, inr, Bool, true, false, not, if◌then◌else◌, Result, Ok, Err, OnOk, List, [], ◌∷◌, length, get_or, refl, ap, sym, subst, ◌∙◌, arith}
use Rattle.std.proofs.lemmas.Bool.{cases_order}
use mathlib.Core.Bool.{not-not}
use Rattle.mb_model.specs.outside.Pieces.{part}
use Rattle.mb_model.specs.outside.Board.{Memory, IsLoaded, memory_with_bytes}
use Rattle.mb_model.specs.declared.limits.TheConstants.{AREA_LENGTH}
use Rattle.mb_model.specs.memories.Memory.{slots, life_byte, spare_bytes, selector_of, first_area, second_area, area_of_slot, inactive_area_of_slot}
use Rattle.mb_model.proofs.Places.{part-put}
use Rattle.mb_board.specs.Reach.{Reached, selector as in_selector, in_first_area as in_first, in_second_area as in_second}
use Rattle.mb_board.specs.Calls.{Torn}
use Rattle.mb_model_memory.specs.InForce.{AgreeBesides}
use Rattle.mb_model_memory.proofs.FlashFrames.{part_same}
use Rattle.mb_slot.specs.Slots.{is_first_in_force, area_offset, current_offset, other_offset, IsOutside, IsSameOutside, IsSameBut, IsSameButOther, IsAreaAt, AreExchanged}
use Rattle.mb_slot.proofs.Ranges.{get_or-put_byte, put_same, torn_same, apart_same}

-- ---- where a slot stands

pub record StandsAt (slot : ℕ) : Type 0 where
  pub selector : (slots slot).selector ≡ slot
  pub first : (slots slot).first + 4096 ≡ 8192 * slot
  pub second : (slots slot).second ≡ 8192 * slot

pub stands_at : (slot : ℕ) → 1 ≤ slot → slot ≤ 3 → StandsAt slot
stands_at zero least most = absurd (omega arith)
stands_at (suc zero) least most = record { selector = refl; first = refl; second = refl }
stands_at (suc (suc zero)) least most = record { selector = refl; first = refl; second = refl }
stands_at (suc (suc (suc zero))) least most = record { selector = refl; first = refl; second = refl }
stands_at (suc (suc (suc (suc n)))) least most = absurd (omega arith)

-- an area is one of the two
pub in_area : (level slot : ℕ) (is_first : Bool) → 1 ≤ slot → slot ≤ 3 → level ≤ slot → Reached level (area_offset slot is_first) 4096
in_area level slot true least most reached = in_first slot (record { least = least; most = most; reached = reached }) (omega arith) (omega arith)
in_area level slot false least most reached = in_second slot (record { least = least; most = most; reached = reached }) (omega arith) (omega arith)

pub area_within : (slot : ℕ) (is_first : Bool) → 1 ≤ slot → slot ≤ 3 → area_offset slot is_first + 4096 ≤ 28672
area_within slot true least most = let at = stands_at slot least most in omega arith
area_within slot false least most = let at = stands_at slot least most in omega arith

pub after_selectors : (slot : ℕ) (is_first : Bool) → 1 ≤ slot → slot ≤ 3 → 4096 ≤ area_offset slot is_first
after_selectors slot true least most = let at = stands_at slot least most in omega arith
after_selectors slot false least most = let at = stands_at slot least most in omega arith

halves_apart : (slot : ℕ) (is_first : Bool) → 1 ≤ slot → slot ≤ 3 → (area_offset slot is_first + 4096 ≤ area_offset slot (not is_first)) ⊎ (area_offset slot (not is_first) + 4096 ≤ area_offset slot is_first)
halves_apart slot true least most = let at = stands_at slot least most in inl (omega arith)
halves_apart slot false least most = let at = stands_at slot least most in inr (omega arith)

-- an area lies within the 8,192 bytes of its slot
pub record LiesIn (slot at : ℕ) : Type 0 where
  pub from : 8192 * slot ≤ at + 4096
  pub to : at ≤ 8192 * slot

lies_in : (slot : ℕ) (is_first : Bool) → 1 ≤ slot → slot ≤ 3 → LiesIn slot (area_offset slot is_first)
lies_in slot true least most = let at = stands_at slot least most in record { from = omega arith; to = omega arith }
lies_in slot false least most = let at = stands_at slot least most in record { from = omega arith; to = omega arith }

-- ---- the areas as parts

picked : (is_first : Bool) (slot : ℕ) (bbram : List ℕ) → (if is_first then part (slots slot).first AREA_LENGTH bbram else part (slots slot).second AREA_LENGTH bbram) ≡ part (area_offset slot is_first) AREA_LENGTH bbram
picked true slot bbram = refl
picked false slot bbram = refl

picked_not : (is_first : Bool) (slot : ℕ) (bbram : List ℕ) → (if is_first then part (slots slot).second AREA_LENGTH bbram else part (slots slot).first AREA_LENGTH bbram) ≡ part (area_offset slot (not is_first)) AREA_LENGTH bbram
picked_not true slot bbram = refl
picked_not false slot bbram = refl

pub current_is : (bbram : List ℕ) (slot : ℕ) → area_of_slot bbram slot ≡ part (current_offset bbram slot) AREA_LENGTH bbram
unfolding area_of_slot first_area second_area
current_is bbram slot = picked (is_first_in_force bbram slot) slot bbram

pub other_is : (bbram : List ℕ) (slot : ℕ) → inactive_area_of_slot bbram slot ≡ part (other_offset bbram slot) AREA_LENGTH bbram
unfolding inactive_area_of_slot first_area second_area
other_is bbram slot = picked_not (is_first_in_force bbram slot) slot bbram

-- ---- after the area that is not in force was written

selector_below : (slot : ℕ) (is_first : Bool) → 1 ≤ slot → slot ≤ 3 → (slots slot).selector < area_offset slot is_first
selector_below slot is_first least most = let at = stands_at slot least most in omega (arith, after_selectors slot is_first least most)

selector_kept : (slot : ℕ) (before after : List ℕ) → 1 ≤ slot → slot ≤ 3 → IsSameButOther slot before after → selector_of after slot ≡ selector_of before slot
selector_kept slot before after least most same =
    same.bytes (slots slot).selector (inl (selector_below slot (not (is_first_in_force before slot)) least most))

first_kept : (slot : ℕ) (before after : List ℕ) → selector_of after slot ≡ selector_of before slot → is_first_in_force after slot ≡ is_first_in_force before slot
first_kept slot before after same = ap (λ (n : ℕ). n % 2 == 0) same

pub current_kept : (slot : ℕ) (before after : List ℕ) → 1 ≤ slot → slot ≤ 3 → length before ≡ 28672 → IsSameButOther slot before after → area_of_slot after slot ≡ area_of_slot before slot
current_kept slot before after least most sized same =
    let force : Bool = is_first_in_force before slot in
    let kept : is_first_in_force after slot ≡ force = first_kept slot before after (selector_kept slot before after least most same) in
    current_is after slot
    ∙ ap (λ (b : Bool). part (area_offset slot b) 4096 after) kept
    ∙ apart_same (area_offset slot force) 4096 (area_offset slot (not force)) 4096 before after same (omega (arith, area_within slot force least most)) (halves_apart slot force least most)
    ∙ sym (current_is before slot)

pub other_written : (slot : ℕ) (before after bytes : List ℕ) → 1 ≤ slot → slot ≤ 3 → length before ≡ 28672 → length bytes ≡ 4096 → IsSameButOther slot before after
    → after ≡ memory_with_bytes (other_offset before slot) bytes before → inactive_area_of_slot after slot ≡ bytes
other_written slot before after bytes least most sized count same whole =
    let force : Bool = is_first_in_force before slot in
    let kept : is_first_in_force after slot ≡ force = first_kept slot before after (selector_kept slot before after least most same) in
    other_is after slot
    ∙ ap (λ (b : Bool). part (area_offset slot (not b)) 4096 after) kept
    ∙ ap (part (area_offset slot (not force)) 4096) whole
    ∙ part-put (area_offset slot (not force)) 4096 bytes before (sym count) (omega (arith, area_within slot (not force) least most))

-- both memories keep their lengths where a part of one was written
pub sized_still : (at n : ℕ) (before after : Memory) → IsLoaded before → at + n ≤ 28672 → Torn at n before.bbram after.bbram → after.flash ≡ before.flash → IsLoaded after
sized_still at n before after loaded within torn same = record {
  flash = ap length same ∙ loaded.flash;
  bbram = (torn_same at n before.bbram after.bbram (omega (arith, loaded.bbram)) torn).sized ∙ loaded.bbram;
}

-- ---- what stays of the other slots

outside_of : (slot : ℕ) (is_first : Bool) (offset : ℕ) → IsOutside (slots slot).first AREA_LENGTH offset → IsOutside (slots slot).second AREA_LENGTH offset → IsOutside (area_offset slot is_first) 4096 offset
outside_of slot true offset first second = first
outside_of slot false offset first second = second

-- nothing but one area of the slot has changed
pub but_other : (slot : ℕ) (before after : List ℕ) → IsSameButOther slot before after → IsSameBut slot before after
but_other slot before after same = record {
  sized = same.sized;
  bytes = λ offset apart first second. same.bytes offset (outside_of slot (not (is_first_in_force before slot)) offset first second);
}

beside_by : (slot offset : ℕ) → (offset ≡ slot) ⊎ ((offset < slot) ⊎ (slot < offset)) → offset ≢ slot → IsOutside slot 1 offset
beside_by slot offset (inl same) apart = absurd (apart same)
beside_by slot offset (inr (inl below)) apart = inl below
beside_by slot offset (inr (inr above)) apart = inr (omega arith)

beside : (slot offset : ℕ) → StandsAt slot → offset ≢ (slots slot).selector → IsOutside slot 1 offset
beside slot offset at apart = beside_by slot offset (cases_order offset slot) (λ e. apart (e ∙ sym at.selector))

-- nothing but the selector of the slot has changed
pub but_selector : (slot : ℕ) (before after : List ℕ) → 1 ≤ slot → slot ≤ 3 → IsSameOutside slot 1 before after → IsSameBut slot before after
but_selector slot before after least most same = record {
  sized = same.sized;
  bytes = λ offset apart first second. same.bytes offset (beside slot offset (stands_at slot least most) apart);
}

pub but_then : (slot : ℕ) (before between after : List ℕ) → IsSameBut slot before between → IsSameBut slot between after → IsSameBut slot before after
but_then slot before between after first second = record {
  sized = second.sized ∙ first.sized;
  bytes = λ offset apart one two. second.bytes offset apart one two ∙ first.bytes offset apart one two;
}

-- a part apart from the selector and the areas of the slot is the same
apart_from_slot : (slot from n : ℕ) (before after : List ℕ) → 1 ≤ slot → slot ≤ 3 → length before ≡ 28672 → IsSameBut slot before after → 4 ≤ from → from + n ≤ 28672
    → (from + n ≤ (slots slot).first) ⊎ ((slots slot).second + 4096 ≤ from) → part from n after ≡ part from n before
apart_from_slot slot from n before after least most sized same past within (inl below) =
    let at = stands_at slot least most in
    part_same from n before after same.sized (omega arith) (λ offset above under. same.bytes offset (λ e. omega (arith, e)) (inl (omega arith)) (inl (omega arith)))
apart_from_slot slot from n before after least most sized same past within (inr above) =
    let at = stands_at slot least most in
    part_same from n before after same.sized (omega arith) (λ offset more under. same.bytes offset (λ e. omega (arith, e)) (inr (omega arith)) (inr (omega arith)))

area_apart : (slot m : ℕ) (this : Bool) → 1 ≤ slot → slot ≤ 3 → 1 ≤ m → m ≤ 3 → (m ≡ slot) ⊎ ((m < slot) ⊎ (slot < m)) → m ≢ slot
    → (area_offset m this + 4096 ≤ (slots slot).first) ⊎ ((slots slot).second + 4096 ≤ area_offset m this)
area_apart slot m this least most m_least m_most (inl same) apart = absurd (apart same)
area_apart slot m this least most m_least m_most (inr (inl below)) apart =
    let at = stands_at slot least most in
    let lies = lies_in m this m_least m_most in
    inl (omega arith)
area_apart slot m this least most m_least m_most (inr (inr above)) apart =
    let at = stands_at slot least most in
    let lies = lies_in m this m_least m_most in
    inr (omega arith)

-- either area of another slot is the same
area_kept : (slot m : ℕ) (this : Bool) (before after : List ℕ) → 1 ≤ slot → slot ≤ 3 → 1 ≤ m → m ≤ 3 → m ≢ slot → length before ≡ 28672 → IsSameBut slot before after
    → part (area_offset m this) 4096 after ≡ part (area_offset m this) 4096 before
area_kept slot m this before after least most m_least m_most apart sized same =
    apart_from_slot slot (area_offset m this) 4096 before after least most sized same (omega (arith, after_selectors m this m_least m_most)) (area_within m this m_least m_most)
    (area_apart slot m this least most m_least m_most (cases_order m slot) apart)

other_selector : (slot m : ℕ) (before after : List ℕ) → 1 ≤ slot → slot ≤ 3 → 1 ≤ m → m ≤ 3 → m ≢ slot → IsSameBut slot before after → selector_of after m ≡ selector_of before m
other_selector slot m before after least most m_least m_most apart same =
    let at = stands_at slot least most in
    let m_at = stands_at m m_least m_most in
    same.bytes (slots m).selector (λ e. apart (sym m_at.selector ∙ e ∙ at.selector)) (inl (omega arith)) (inl (omega arith))

pub other_current : (slot m : ℕ) (before after : List ℕ) → 1 ≤ slot → slot ≤ 3 → 1 ≤ m → m ≤ 3 → m ≢ slot → length before ≡ 28672 → IsSameBut slot before after → area_of_slot after m ≡ area_of_slot before m
other_current slot m before after least most m_least m_most apart sized same =
    current_is after m
    ∙ ap (λ (b : Bool). part (area_offset m b) 4096 after) (first_kept m before after (other_selector slot m before after least most m_least m_most apart same))
    ∙ area_kept slot m (is_first_in_force before m) before after least most m_least m_most apart sized same
    ∙ sym (current_is before m)

pub other_other : (slot m : ℕ) (before after : List ℕ) → 1 ≤ slot → slot ≤ 3 → 1 ≤ m → m ≤ 3 → m ≢ slot → length before ≡ 28672 → IsSameBut slot before after → inactive_area_of_slot after m ≡ inactive_area_of_slot before m
other_other slot m before after least most m_least m_most apart sized same =
    other_is after m
    ∙ ap (λ (b : Bool). part (area_offset m (not b)) 4096 after) (first_kept m before after (other_selector slot m before after least most m_least m_most apart same))
    ∙ area_kept slot m (not (is_first_in_force before m)) before after least most m_least m_most apart sized same
    ∙ sym (other_is before m)

life_kept : (slot : ℕ) (before after : List ℕ) → 1 ≤ slot → slot ≤ 3 → IsSameBut slot before after → life_byte after ≡ life_byte before
life_kept slot before after least most same =
    let at = stands_at slot least most in
    same.bytes 0 (λ e. omega (arith, e)) (inl (omega arith)) (inl (omega arith))

spare_kept : (slot : ℕ) (before after : List ℕ) → 1 ≤ slot → slot ≤ 3 → length before ≡ 28672 → IsSameBut slot before after → spare_bytes after ≡ spare_bytes before
unfolding spare_bytes
spare_kept slot before after least most sized same =
    let at = stands_at slot least most in
    apart_from_slot slot 4 4092 before after least most sized same (omega arith) (omega arith) (inl (omega arith))

-- So all that is in force is the same besides the slot.
pub agree_besides : (slot : ℕ) (before after : List ℕ) → 1 ≤ slot → slot ≤ 3 → length before ≡ 28672 → IsSameBut slot before after → AgreeBesides slot before after
agree_besides slot before after least most sized same = record {
  life = life_kept slot before after least most same;
  between = spare_kept slot before after least most sized same;
  others = λ m m_least m_most apart. other_current slot m before after least most m_least m_most apart sized same;
}

-- ---- after the selector was written

half_kept : (slot : ℕ) (this : Bool) (before after : List ℕ) → 1 ≤ slot → slot ≤ 3 → length before ≡ 28672 → IsSameOutside slot 1 before after → part (area_offset slot this) 4096 after ≡ part (area_offset slot this) 4096 before
half_kept slot this before after least most sized same =
    apart_same (area_offset slot this) 4096 slot 1 before after same (omega (arith, area_within slot this least most)) (inr (omega (arith, after_selectors slot this least most)))

either_half : (slot : ℕ) (was is : Bool) (bbram : List ℕ) → (part (area_offset slot is) 4096 bbram ≡ part (area_offset slot was) 4096 bbram) ⊎ (part (area_offset slot is) 4096 bbram ≡ part (area_offset slot (not was)) 4096 bbram)
either_half slot true true bbram = inl refl
either_half slot false false bbram = inl refl
either_half slot true false bbram = inr refl
either_half slot false true bbram = inr refl

either_moved : (was other_was is now : List ℕ) → (is ≡ was) ⊎ (is ≡ other_was) → (now ≡ is) → (now ≡ was) ⊎ (now ≡ other_was)
either_moved was other_was is now (inl same) e = inl (e ∙ same)
either_moved was other_was is now (inr same) e = inr (e ∙ same)

-- whatever byte the selector is, one of the two areas is in force, whole
pub either_in_force : (slot : ℕ) (before after : List ℕ) → 1 ≤ slot → slot ≤ 3 → length before ≡ 28672 → IsSameOutside slot 1 before after
    → (area_of_slot after slot ≡ area_of_slot before slot) ⊎ (area_of_slot after slot ≡ inactive_area_of_slot before slot)
either_in_force slot before after least most sized same =
    let was : Bool = is_first_in_force before slot in
    let is : Bool = is_first_in_force after slot in
    rw (current_is before slot, other_is before slot) (either_moved (part (area_offset slot was) 4096 before) (part (area_offset slot (not was)) 4096 before) (part (area_offset slot is) 4096 before) (area_of_slot after slot)
    (either_half slot was is before)
    (current_is after slot ∙ half_kept slot is before after least most sized same))

-- a torn write of the selector
pub flipped : (slot : ℕ) (before after : List ℕ) → slot ≤ 3 → length before ≡ 28672 → Torn slot 1 before after → IsSameOutside slot 1 before after
flipped slot before after most sized torn = torn_same slot 1 before after (omega arith) torn

-- and after a selector of the other parity was put, it is the other one
pub exchanged : (slot byte : ℕ) (before after : List ℕ) → 1 ≤ slot → slot ≤ 3 → length before ≡ 28672 → (byte % 2 == 0) ≡ not (is_first_in_force before slot)
    → after ≡ memory_with_bytes slot (byte ∷ []) before → AreExchanged slot before after
exchanged slot byte before after least most sized parity whole =
    let at = stands_at slot least most in
    let was : Bool = is_first_in_force before slot in
    let same : IsSameOutside slot 1 before after = rw whole (put_same slot 1 (byte ∷ []) before refl (omega arith)) in
    let selector : selector_of after slot ≡ byte = ap (λ (k : ℕ). get_or after k 0) at.selector ∙ ap (λ (xs : List ℕ). get_or xs slot 0) whole ∙ get_or-put_byte slot byte before (omega arith) in
    let is : is_first_in_force after slot ≡ not was = ap (λ (n : ℕ). n % 2 == 0) selector ∙ parity in
    record {
      in_force =
          current_is after slot
          ∙ ap (λ (b : Bool). part (area_offset slot b) 4096 after) is
          ∙ half_kept slot (not was) before after least most sized same
          ∙ sym (other_is before slot);
      not_in_force =
          other_is after slot
          ∙ ap (λ (b : Bool). part (area_offset slot (not b)) 4096 after) is
          ∙ ap (λ (b : Bool). part (area_offset slot b) 4096 after) (not-not was)
          ∙ half_kept slot was before after least most sized same
          ∙ sym (current_is before slot);
    }

-- ---- for calls

pub selector_reached : (level slot : ℕ) → 1 ≤ slot → slot ≤ 3 → level ≤ slot → Reached level slot 1
selector_reached level slot least most reached =
    let at = stands_at slot least most in
    in_selector slot (record { least = least; most = most; reached = reached }) (sym at.selector) refl

pub area_is_at : (level slot at : ℕ) (is_first known : Bool) → 1 ≤ slot → slot ≤ 3 → level ≤ slot → known ≡ is_first → at ≡ area_offset slot known → IsAreaAt level (area_offset slot is_first) at
area_is_at level slot at is_first known least most reached same at_is =
    let whole : at ≡ area_offset slot is_first = at_is ∙ ap (area_offset slot) same in
    record {
      same = whole;
      within = omega (arith, area_within slot is_first least most);
      reached = subst (λ (n : ℕ). Reached level n 4096) (sym whole) (in_area level slot is_first least most reached);
    }

pub reached_as : (level at n : ℕ) → n ≡ 4096 → Reached level at 4096 → Reached level at n
reached_as level at n same reached = subst (λ (k : ℕ). Reached level at k) (sym same) reached

pub read_as_current : (slot at n : ℕ) (bbram out : List ℕ) → at ≡ current_offset bbram slot → n ≡ 4096 → out ≡ part at n bbram → out ≡ area_of_slot bbram slot
read_as_current slot at n bbram out at_is count read =
    read ∙ ap (λ (k : ℕ). part k n bbram) at_is ∙ ap (λ (k : ℕ). part (current_offset bbram slot) k bbram) count ∙ sym (current_is bbram slot)

pub read_as_other : (slot at n : ℕ) (bbram out : List ℕ) → at ≡ other_offset bbram slot → n ≡ 4096 → out ≡ part at n bbram → out ≡ inactive_area_of_slot bbram slot
read_as_other slot at n bbram out at_is count read =
    read ∙ ap (λ (k : ℕ). part k n bbram) at_is ∙ ap (λ (k : ℕ). part (other_offset bbram slot) k bbram) count ∙ sym (other_is bbram slot)

-- a torn write at the offset of the other area
pub torn_other : (slot at n : ℕ) (before after : List ℕ) → 1 ≤ slot → slot ≤ 3 → length before ≡ 28672 → at ≡ other_offset before slot → n ≡ 4096 → Torn at n before after → IsSameButOther slot before after
torn_other slot at n before after least most sized at_is count torn =
    let here : Torn (other_offset before slot) 4096 before after =
    subst (λ (k : ℕ). Torn (other_offset before slot) k before after) count (subst (λ (k : ℕ). Torn k n before after) at_is torn)
    in
    torn_same (other_offset before slot) 4096 before after (omega (arith, area_within slot (not (is_first_in_force before slot)) least most)) here

pub put_other : (slot at : ℕ) (before after bytes : List ℕ) → 1 ≤ slot → slot ≤ 3 → length before ≡ 28672 → length bytes ≡ 4096 → at ≡ other_offset before slot → IsSameButOther slot before after
    → after ≡ memory_with_bytes at bytes before → inactive_area_of_slot after slot ≡ bytes
put_other slot at before after bytes least most sized count at_is same whole =
    other_written slot before after bytes least most sized count same (whole ∙ ap (λ (k : ℕ). memory_with_bytes k bytes before) at_is)

-- what follows on Ok
pub on_ok : {A E P Q : Type 0} (result : Result A E) → (P → Q) → OnOk result P → OnOk result Q
on_ok (Ok value) step given = step given
on_ok (Err error) step given = given
