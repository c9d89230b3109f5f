-- Bytes after their number at the beginning of an area: which they are, and that no others are.
use Rattle.std.proofs.Common.{◌≡◌, ℕ, zero, suc, false, ◌==◌, ◌+◌, ◌-◌, ◌<◌, ◌≤◌, List, ◌++◌, length, take, drop, replicate, inl, inr, refl, sym, ap, ◌∙◌, append_assoc, take-append-drop, arith}
use Rattle.std.proofs.lemmas.List.{length-take-le, drop-drop, drop-replicate}
use Rattle.std.proofs.lemmas.List.Elements.{All-replicate}
use Rattle.std.proofs.Math.Seq.{take-append_seam, drop-append_seam}
use Rattle.std.specs.Int.{Width, w16, byte_len, to_be_bytes, from_be_bytes}
use Rattle.mb_format.specs.Format.{Format, IsBytes, Spells, FailsWhole}
use Rattle.mb_format.specs.Reading.{IsExact}
use Rattle.mb_format.specs.Combinators.{limit}
use Rattle.mb_format.proofs.Fields.{IsWide, wide16}
use Rattle.mb_format.proofs.Exact.{IsBytes-spelled, IsBytes-drop}
use Rattle.mb_format.proofs.Whole.{IsClearWhole-from_exact}
use Rattle.mb_model.specs.declared.region.Region.{Region}
use Rattle.mb_model.specs.memories.Memory.{IsBlank, HoldsInArea, HoldsRecord}
use Rattle.mb_model.specs.records.RegionFormat.{region_format, SpellsRegion}
use Rattle.mb_model.specs.memories.Meaning.{HoldsRegion}
use Rattle.mb_model.proofs.RecordFormatLaws.{region_exact}

-- ---- what stands first

front_is : {w : Width} → IsWide w → (area bytes rest : List ℕ) → area ≡ to_be_bytes w (length bytes) ++ bytes ++ rest → take (byte_len w) area ≡ to_be_bytes w (length bytes)
front_is {w} wide area bytes rest e =
    let n = to_be_bytes w (length bytes) in
    ap (take (byte_len w)) (e ∙ append_assoc n bytes rest) ∙ ap (λ (k : ℕ). take k (n ++ (bytes ++ rest))) (sym (wide.len (length bytes))) ∙ take-append_seam n (bytes ++ rest)

-- it is the number of the bytes
pub number_is : {w : Width} → IsWide w → (area bytes rest : List ℕ) → length bytes < limit w → area ≡ to_be_bytes w (length bytes) ++ bytes ++ rest → from_be_bytes w (take (byte_len w) area) ≡ length bytes
number_is {w} wide area bytes rest lt e = ap (from_be_bytes w) (front_is wide area bytes rest e) ∙ wide.again (length bytes) lt

-- the bytes and the rest stand after it
pub after_number : {w : Width} → IsWide w → (area bytes rest : List ℕ) → area ≡ to_be_bytes w (length bytes) ++ bytes ++ rest → drop (byte_len w) area ≡ bytes ++ rest
after_number {w} wide area bytes rest e =
    let n = to_be_bytes w (length bytes) in
    ap (drop (byte_len w)) (e ∙ append_assoc n bytes rest) ∙ ap (λ (k : ℕ). drop k (n ++ (bytes ++ rest))) (sym (wide.len (length bytes))) ∙ drop-append_seam n (bytes ++ rest)

-- the bytes are determined by the area
pub bytes_are : {w : Width} → IsWide w → (area bytes rest : List ℕ) → length bytes < limit w → area ≡ to_be_bytes w (length bytes) ++ bytes ++ rest → bytes ≡ take (from_be_bytes w (take (byte_len w) area)) (drop (byte_len w) area)
bytes_are {w} wide area bytes rest lt e =
    sym (take-append_seam bytes rest) ∙ ap (take (length bytes)) (sym (after_number wide area bytes rest e)) ∙ ap (λ (k : ℕ). take k (drop (byte_len w) area)) (sym (number_is wide area bytes rest lt e))

-- an area that begins with so many bytes after their number
pub area_is : {w : Width} → IsWide w → (area front rest bytes after : List ℕ) (n : ℕ) → IsBytes area → front ≡ take (byte_len w) area → rest ≡ drop (byte_len w) area → length rest + byte_len w ≡ length area → n ≡ from_be_bytes w front → n ≤ length rest
    → bytes ≡ take n rest → after ≡ drop n rest → (length bytes ≡ n) × (area ≡ to_be_bytes w (length bytes) ++ bytes ++ after)
area_is {w} wide area front rest bytes after n are f r len e le b a =
    let size : length bytes ≡ n = ap length b ∙ length-take-le n rest le in
    let k = byte_len w in
    let long : length (take k area) ≡ k = length-take-le k area (omega (arith, len)) in
    let fits : IsBytes (take k area) = IsBytes-spelled area (take k area) (drop k area) are (sym (take-append-drop k area)) in
    let first : take k area ≡ to_be_bytes w n = sym (wide.back (take k area) long fits) ∙ ap (λ (x : List ℕ). to_be_bytes w (from_be_bytes w x)) (sym f) ∙ ap (to_be_bytes w) (sym e) in
    let second : drop k area ≡ bytes ++ after = sym r ∙ sym (take-append-drop n rest) ∙ ap (λ (x : List ℕ). x ++ drop n rest) (sym b) ∙ ap (λ (x : List ℕ). bytes ++ x) (sym a) in
    let whole : area ≡ to_be_bytes w n ++ bytes ++ after =
    sym (take-append-drop k area) ∙ ap (λ (x : List ℕ). x ++ drop k area) first ∙ ap (λ (x : List ℕ). to_be_bytes w n ++ x) second ∙ sym (append_assoc (to_be_bytes w n) bytes after) in
    (size, whole ∙ ap (λ (k : ℕ). to_be_bytes w k ++ bytes ++ after) (sym size))

-- ---- areas of the battery-backed memory

pub holds : {area front rest bytes blank : List ℕ} {n : ℕ} → IsBytes area → front ≡ take 2 area → rest ≡ drop 2 area → length rest + 2 ≡ length area → n ≡ from_be_bytes w16 front → n ≤ 4094 → n ≤ length rest
    → bytes ≡ take n rest → blank ≡ drop n rest → IsBlank blank → HoldsInArea area bytes
holds {area} {front} {rest} {bytes} {blank} {n} are f r len e short le b a blank_is =
    let p = area_is wide16 area front rest bytes blank n are f r len e le b a in
    record { rest = blank; short = omega (arith, p.0); whole = p.1; blank = blank_is }

pub one_held : {area : List ℕ} (a b : List ℕ) → HoldsInArea area a → HoldsInArea area b → a ≡ b
one_held {area} a b h k =
    let small_a : length a < 65536 = omega (arith, h.short) in
    let small_b : length b < 65536 = omega (arith, k.short) in
    bytes_are wide16 area a h.rest small_a h.whole ∙ sym (bytes_are wide16 area b k.rest small_b k.whole)

-- ---- records in areas

-- bytes that fail as a whole spell no value
pub spells_none : {A : Type 0} {f : Format A} {bytes : List ℕ} {at : ℕ} → IsExact f → IsBytes bytes → FailsWhole f bytes at → (a : A) → Spells f bytes a → ⊥
spells_none {A} {f} {bytes} {at} exact are fails a spells = (IsClearWhole-from_exact exact).never_both bytes a at are spells fails

-- the bytes after the number are bytes
pub bytes_after : {w : Width} → IsWide w → (area bytes rest : List ℕ) → IsBytes area → area ≡ to_be_bytes w (length bytes) ++ bytes ++ rest → IsBytes bytes
bytes_after {w} wide area bytes rest are e = IsBytes-spelled (drop (byte_len w) area) bytes rest (IsBytes-drop (byte_len w) area are) (after_number wide area bytes rest e)

pub area_none : {A : Type 0} {f : Format A} {area bytes : List ℕ} {at : ℕ} → IsExact f → IsBytes area → HoldsInArea area bytes → FailsWhole f bytes at → (a : A) → HoldsRecord f area a → ⊥
area_none {A} {f} {area} {bytes} {at} exact are h fails a other =
    let same : other.bytes ≡ bytes = one_held other.bytes bytes other.holds h in
    spells_none exact (bytes_after wide16 area bytes h.rest are h.whole) fails a (rw same at other.spelled)

no_region : {bytes : List ℕ} {at : ℕ} → IsBytes bytes → 0 < length bytes → FailsWhole region_format bytes at → (region : Region) → SpellsRegion bytes region → ⊥
no_region are some fails region (inl none) = omega (arith, some, ap length none.0)
no_region are some fails region (inr spelled) = spells_none region_exact are fails (spelled.version, region) spelled.spelled

pub region_none : {area bytes : List ℕ} {at : ℕ} → IsBytes area → 0 < length bytes → HoldsInArea area bytes → FailsWhole region_format bytes at → (region : Region) → HoldsRegion area region → ⊥
region_none {area} {bytes} {at} are some h fails region other =
    let same : other.bytes ≡ bytes = one_held other.bytes bytes other.holds h in
    no_region (bytes_after wide16 area bytes h.rest are h.whole) some fails region (rw same at other.spelled)

pub some_left : (n : ℕ) → false ≡ (n == 0) → 0 < n
some_left zero e = cc
some_left (suc n) e = omega arith

-- ---- filling an area

pub fills : (area : List ℕ) {bytes : List ℕ} (zeros one two number : List ℕ) → zeros ≡ replicate (length area) 0 → number ≡ to_be_bytes w16 (length bytes) → length bytes ≤ 4094
    → take (0 + length number) one ≡ take 0 zeros ++ number → drop (0 + length number) one ≡ drop (0 + length number) zeros
    → take (2 + length bytes) two ≡ take 2 one ++ bytes → drop (2 + length bytes) two ≡ drop (2 + length bytes) one → HoldsInArea two bytes
fills area {bytes} zeros one two number z nb short t1 d1 t2 d2 =
    let n = length bytes in
    let two_long : 0 + length number ≡ 2 = omega (arith, ap length nb, wide16.len n) in
    let first : take 2 one ≡ to_be_bytes w16 n = ap (λ (k : ℕ). take k one) (sym two_long) ∙ t1 ∙ nb in
    let after_one : drop 2 one ≡ drop 2 zeros = ap (λ (k : ℕ). drop k one) (sym two_long) ∙ d1 ∙ ap (λ (k : ℕ). drop k zeros) two_long in
    let last : drop (2 + n) two ≡ replicate (length area - (2 + n)) 0 =
    d2 ∙ sym (drop-drop n 2 one) ∙ ap (drop n) after_one ∙ drop-drop n 2 zeros ∙ ap (drop (2 + n)) z ∙ drop-replicate (2 + n) (length area) 0 in
    record {
      rest = drop (2 + n) two;
      short = short;
      whole = sym (take-append-drop (2 + n) two) ∙ ap (λ (x : List ℕ). x ++ drop (2 + n) two) (t2 ∙ ap (λ (x : List ℕ). x ++ bytes) first);
      blank = rw last (All-replicate (λ byte. byte ≡ 0) (length area - (2 + n)) 0 refl);
    }
