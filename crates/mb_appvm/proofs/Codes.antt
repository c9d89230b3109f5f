-- The code of lines, one after another.
use Rattle.std.proofs.Common.{◌≡◌, ℕ, ◌+◌, ◌<◌, ◌≤◌, List, [], ◌∷◌, ◌++◌, length, take, drop, get_or, true, inl, inr, refl, sym, ap, subst, ◌∙◌, arith, append_assoc, length-append}
use Rattle.std.specs.Prelude.{sum_by, slice_index}
use Rattle.std.specs.Global.{Vec}
use Rattle.std.specs.List.{AllZip}
use Rattle.std.proofs.lemmas.Bool.{cases_lt}
use Rattle.std.proofs.lemmas.List.{take_more, take-append-drop, flat_map_more, get_or_append_left, get_or_push}
use Rattle.std.proofs.lemmas.List.Sums.{sum_by_push, sum_by-take-le, sum_by_more_le}
use Rattle.mb_bytes.specs.Puts.{Appends}
use Rattle.mb_model.specs.declared.instruction.Instruction.{Instruction}
use Rattle.mb_appvm.specs.declared.keyword.Jump.{Jump}
use Rattle.mb_appvm.specs.declared.lines.Said.{Said}
use Rattle.mb_appvm.specs.declared.lines.Said.TheVariants as says
use Rattle.mb_model.specs.application.Instructions.{instruction_format}
use Rattle.mb_appvm.specs.Assembly.{jump_to, size_of, is_label, IsPlaced, Makes, piece}
use Rattle.mb_appvm.specs.Checking.{IsCode, AreMeasured}
use Rattle.mb_appvm.proofs.Labels.{is_label-true}
use Rattle.mb_appvm.proofs.Sizes.{size_jump}
use Rattle.mb_appvm.proofs.Words.{jump_sayable}

pub splits_at : (all : List Said) (at : ℕ) (s d : Said) → at < length all → s ≡ get_or all at d → all ≡ take at all ++ s ∷ drop (at + 1) all
splits_at all at s d within is =
    sym (take-append-drop (at + 1) all)
    ∙ ap (λ (x : List Said). x ++ drop (at + 1) all) (take_more all at d within ∙ ap (λ (x : Said). take at all ++ x ∷ []) (sym is))
    ∙ append_assoc (take at all) (s ∷ []) (drop (at + 1) all)

pub placed_at : (all : List Said) (name : List ℕ) (at place : ℕ) (s d : Said) → at < length all → s ≡ get_or all at d → is_label name s ≡ true
    → place ≡ sum_by size_of (take at all) → IsPlaced all name place
placed_at all name at place s d within is label sum = record {
  before = take at all;
  after = drop (at + 1) all;
  split = splits_at all at s d within is ∙ ap (λ (x : Said). take at all ++ x ∷ drop (at + 1) all) (is_label-true s name label);
  size = sum;
}

-- ---- the length of the code before each line

pub record AreMeasuredTo (all : List Said) (count size : ℕ) (places : List ℕ) : Type 0 where
  pub each : length places ≡ count
  pub whole : size ≡ sum_by size_of (take count all)
  pub place : (at : ℕ) → at < count → slice_index places at ≡ sum_by size_of (take at all)

pub measured_none : (all : List Said) → AreMeasuredTo all 0 0 []
measured_none all = record { each = refl; whole = refl; place = λ at less. absurd (omega (arith, less)) }

pub measured_more : (all : List Said) (count size more : ℕ) (s d : Said) (places later : List ℕ) → count < length all → s ≡ get_or all count d → AreMeasuredTo all count size places
    → more ≡ size_of s → later ≡ places ++ size ∷ [] → AreMeasuredTo all (count + 1) (size + more) later
measured_more all count size more s d places later within is measured size_is pushed =
    let front : take (count + 1) all ≡ take count all ++ s ∷ [] = take_more all count d within ∙ ap (λ (x : Said). take count all ++ x ∷ []) (sym is) in
    let each = measured.each in
    record {
      each = omega (arith, each, ap length pushed, length-append places (size ∷ []));
      whole = omega (arith, measured.whole, size_is, ap (sum_by size_of) front, sum_by_push size_of (take count all) s);
      place = λ at less.
          ap (λ (xs : List ℕ). slice_index xs at) pushed
          ∙ elim (cases_lt at count) [
            | inl before ↦ get_or_append_left places (size ∷ []) 0 at (omega (arith, before, each)) ∙ measured.place at before
            | inr last ↦
                let here : count ≡ at = omega (arith, last, less) in
                get_or_push places size 0 at (each ∙ here) ∙ measured.whole ∙ ap (λ (n : ℕ). sum_by size_of (take n all)) here
          ];
    }

pub measured_all : (all : List Said) (count size : ℕ) (places : List ℕ) → AreMeasuredTo all count size places → count ≡ length all → sum_by size_of all ≤ 32768 → AreMeasured all places
measured_all all count size places measured whole short = record {
  each = measured.each ∙ whole;
  place = λ at less. measured.place at (omega (arith, less, whole));
  short = λ at less. omega (arith, measured.place at (omega (arith, less, whole)), sum_by-take-le size_of all at, short);
}

-- a place is short where the code of all lines is
pub measured_fits : (all : List Said) (count size : ℕ) (places : List ℕ) → AreMeasuredTo all count size places → sum_by size_of all ≤ 32768 → size ≤ 32768
measured_fits all count size places measured short = omega (arith, measured.whole, sum_by-take-le size_of all count, short)

-- with the next line it is short too
pub measured_sum : (all : List Said) (count size more : ℕ) (s d : Said) (places : List ℕ) → count < length all → s ≡ get_or all count d → AreMeasuredTo all count size places
    → more ≡ size_of s → sum_by size_of all ≤ 32768 → size + more ≤ 32768
measured_sum all count size more s d places within is measured size_is short =
    omega (arith, measured.whole, size_is, ap size_of is, sum_by_more_le size_of all count d within, short)

pub jump_allowed : (kind : Jump) (place : ℕ) (i : Instruction) → i ≡ jump_to kind place → place ≤ 32768 → instruction_format.Allowed i
jump_allowed kind place i is fits =
    subst (λ (j : Instruction). instruction_format.Allowed j) (sym is) (jump_sayable kind place (omega (arith, fits)))

makes_size : (all : List Said) (s : Said) (bytes : List ℕ) → Makes all s bytes → length bytes ≡ size_of s
makes_size all (says.Label name) bytes is = ap length is
makes_size all (says.Whole i) bytes is = ap length is
makes_size all (says.JumpTo kind name) bytes is = ap length is.2 ∙ sym (size_jump kind is.0)

pub zip_push : {A B : Type 0} (R : A → B → Type 0) (xs : List A) (ys : List B) (x : A) (y : B) → AllZip R xs ys → R x y → AllZip R (xs ++ x ∷ []) (ys ++ y ∷ [])
zip_push R [] [] x y all is = (is, tt)
zip_push R [] (b ∷ ys) x y all is = absurd all
zip_push R (a ∷ xs) [] x y all is = absurd all
zip_push R (a ∷ xs) (b ∷ ys) x y all is = (all.0, zip_push R xs ys x y all.1 is)

pub one_line : (all : List Said) (at : ℕ) (s d : Said) (bytes : List ℕ) (old new : Vec ℕ) → at < length all → s ≡ get_or all at d → IsCode all (take at all) old.items
    → Makes all s bytes → Appends bytes old new → IsCode all (take (at + 1) all) new.items
one_line all at s d bytes old new within is code makes puts =
    let more : take (at + 1) all ≡ take at all ++ s ∷ [] = take_more all at d within ∙ ap (λ (x : Said). take at all ++ x ∷ []) (sym is) in
    subst (λ (xs : List Said). IsCode all xs new.items) (sym more)
    (record {
      pieces = code.pieces ++ bytes ∷ [];
      made = zip_push (Makes all) (take at all) code.pieces s bytes code.made makes;
      whole = puts.items ∙ ap (λ (x : List ℕ). x ++ bytes) code.whole ∙ flat_map_more piece [] code.pieces bytes;
      size = omega (arith, ap length puts.items, length-append old.items bytes, code.size, makes_size all s bytes makes, sum_by_push size_of (take at all) s);
    })
