-- Which area of a slot is in force.
use Rattle.std.proofs.Common.{◌≡◌, ◌≤◌, ℕ, ◌+◌, ◌-◌, ◌*◌, List, Bool, true, false, refl, sym, ap, subst, ◌∙◌, arith, take, drop}
use Rattle.std.specs.Prelude.{◌%◌, ◌==◌, slice_index, if◌then◌else◌}
use Rattle.mb_model.specs.outside.Pieces.{part}
use Rattle.mb_model.specs.memories.Memory.{selector_of, first_area, second_area, area_of_slot}

-- what holds of 1, 2 and 3 holds of the number of each slot
at_slot : (P : ℕ → Type 0) (slot : ℕ) → 1 ≤ slot → slot ≤ 3 → P 1 → P 2 → P 3 → P slot
at_slot P slot low high one two three =
    (elim (slot == 1) as (λ b. (slot == 1) ≡ b → P slot) [
      | true ↦ λ e. let is : 1 ≡ slot = grind (arith, e) in subst P is one
      | false ↦ λ e.
          (elim (slot == 2) as (λ b. (slot == 2) ≡ b → P slot) [
            | true ↦ λ f. let is : 2 ≡ slot = grind (arith, f) in subst P is two
            | false ↦ λ f. let is : 3 ≡ slot = grind (arith, e, f, low, high) in subst P is three
          ]) refl
    ]) refl

-- where the area of a slot begins by the parity of its selector
abbrev pub begins_at : Bool → ℕ → ℕ
begins_at even slot = if even then 4096 + (slot - 1) * 2 * 4096 else 4096 + (slot - 1) * 2 * 4096 + 4096

abbrev IsAt : List ℕ → ℕ → Type 0
IsAt bbram slot = (even : Bool) → (selector_of bbram slot % 2 == 0) ≡ even → part (begins_at even slot) 4096 bbram ≡ area_of_slot bbram slot

one_at : (bbram : List ℕ) → IsAt bbram 1
unfolding area_of_slot first_area second_area
one_at bbram true e = sym (ap (λ b. if b then part 4096 4096 bbram else part 8192 4096 bbram) e)
one_at bbram false e = sym (ap (λ b. if b then part 4096 4096 bbram else part 8192 4096 bbram) e)

two_at : (bbram : List ℕ) → IsAt bbram 2
unfolding area_of_slot first_area second_area
two_at bbram true e = sym (ap (λ b. if b then part 12288 4096 bbram else part 16384 4096 bbram) e)
two_at bbram false e = sym (ap (λ b. if b then part 12288 4096 bbram else part 16384 4096 bbram) e)

three_at : (bbram : List ℕ) → IsAt bbram 3
unfolding area_of_slot first_area second_area
three_at bbram true e = sym (ap (λ b. if b then part 20480 4096 bbram else part 24576 4096 bbram) e)
three_at bbram false e = sym (ap (λ b. if b then part 20480 4096 bbram else part 24576 4096 bbram) e)

selector_is : (bbram : List ℕ) (slot : ℕ) → 1 ≤ slot → slot ≤ 3 → slice_index bbram slot ≡ selector_of bbram slot
selector_is bbram slot low high = at_slot (λ n. slice_index bbram n ≡ selector_of bbram n) slot low high refl refl refl

-- the area in force, by where it begins
pub area_at : (bbram : List ℕ) (slot start : ℕ) (even : Bool) → 1 ≤ slot → slot ≤ 3 → (slice_index bbram slot % 2 == 0) ≡ even
    → start ≡ begins_at even slot → take (start + 4096 - start) (drop start bbram) ≡ area_of_slot bbram slot
area_at bbram slot start even low high parity begins =
    let long : start + 4096 - start ≡ 4096 = omega arith in
    ap (λ n. take n (drop start bbram)) long
    ∙ ap (λ at. part at 4096 bbram) begins
    ∙ at_slot (IsAt bbram) slot low high (one_at bbram) (two_at bbram) (three_at bbram) even (ap (λ n. n % 2 == 0) (sym (selector_is bbram slot low high)) ∙ parity)
