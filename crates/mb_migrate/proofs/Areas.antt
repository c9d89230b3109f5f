-- The bytes with which an area of the flash begins: which they are, and that no others are.
use Rattle.std.proofs.Common.{◌≡◌, ℕ, ◌+◌, ◌<◌, ◌≤◌, List, length, take, drop, refl, sym, ◌∙◌, arith}
use Rattle.std.specs.Int.{w32, from_be_bytes}
use Rattle.mb_format.specs.Format.{Format, IsBytes, FailsWhole}
use Rattle.mb_format.specs.Reading.{IsExact}
use Rattle.mb_format.proofs.Fields.{wide32}
use Rattle.mb_model.specs.memories.OldFlash.{BeginsArea, BeginsWithRecord}
use Rattle.mb_layout.proofs.Areas.{area_is, bytes_are, bytes_after, spells_none}

pub begins : {area front rest bytes : List ℕ} {n : ℕ} → IsBytes area → front ≡ take 4 area → rest ≡ drop 4 area → length rest + 4 ≡ length area → n ≡ from_be_bytes w32 front → n ≤ 470000 → n ≤ length rest
    → bytes ≡ take n rest → BeginsArea area bytes
begins {area} {front} {rest} {bytes} {n} are f r len e short le b =
    let p = area_is wide32 area front rest bytes (drop n rest) n are f r len e le b refl in
    record { rest = drop n rest; short = omega (arith, p.0); whole = p.1 }

pub one_begun : {area : List ℕ} (a b : List ℕ) → BeginsArea area a → BeginsArea area b → a ≡ b
one_begun {area} a b h k =
    let small_a : length a < 4294967296 = omega (arith, h.short) in
    let small_b : length b < 4294967296 = omega (arith, k.short) in
    bytes_are wide32 area a h.rest small_a h.whole ∙ sym (bytes_are wide32 area b k.rest small_b k.whole)

pub start_none : {A : Type 0} {f : Format A} {area bytes : List ℕ} {at : ℕ} → IsExact f → IsBytes area → BeginsArea area bytes → FailsWhole f bytes at → (a : A) → BeginsWithRecord f area a → ⊥
start_none {A} {f} {area} {bytes} {at} exact are h fails a other =
    let same : other.bytes ≡ bytes = one_begun other.bytes bytes other.begins h in
    spells_none exact (bytes_after wide32 area bytes h.rest are h.whole) fails a (rw same at other.spelled)
