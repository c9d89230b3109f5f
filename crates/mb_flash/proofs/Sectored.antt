-- What the writes of a sector, and of several, leave.
use Rattle.std.proofs.Common.{◌≡◌, ℕ, ◌+◌, ◌*◌, ◌<◌, ◌≤◌, ◌⊎◌, inl, inr, List, [], ◌∷◌, ◌++◌, length, take, drop, Bool, true, Result, Ok, Err, IsErr, OnErr, true≢false, refl, ap, sym, subst, ◌∙◌, arith, length-append}
use Rattle.std.proofs.Math.Seq.{take-add, take-append_seam, drop-append_seam}
use Rattle.std.proofs.lemmas.List.{take-take, take-replicate, drop-drop, drop-take, append-nil}
use Rattle.mb_model.specs.outside.Pieces.{part}
use Rattle.mb_model.specs.outside.Board.{Memory, IsLoaded, memory_with_bytes, erased_bytes}
use Rattle.mb_model.proofs.Places.{length-erased, part-put}
use Rattle.mb_board.specs.Calls.{Torn, Seen, RanOnFlash, level_of, armed_by, stops_by}
use Rattle.mb_slot.specs.Slots.{IsOutside, IsSameOutside}
use Rattle.mb_slot.proofs.Ranges.{torn_same, apart_same}
use Rattle.mb_flash.specs.Sectors.{sectors_for}
use Rattle.mb_flash.specs.Calls.{WritesSectors}

-- ---- what stays

narrower : (at m n offset : ℕ) → m ≤ n → IsOutside at n offset → IsOutside at m offset
narrower at m n offset less (inl below) = inl below
narrower at m n offset less (inr above) = inr (omega arith)

-- what is the same outside of fewer bytes is so outside of more
pub widened : (at m n : ℕ) (before after : List ℕ) → m ≤ n → IsSameOutside at m before after → IsSameOutside at n before after
widened at m n before after less same = record {
  sized = same.sized;
  bytes = λ offset outside. same.bytes offset (narrower at m n offset less outside);
}

-- ---- one sector

-- a write call of at most a sector, at the start of this one
pub torn_sector : (sector n : ℕ) (before after : List ℕ) → sector < 256 → n ≤ 4096 → length before ≡ 1048576 → Torn (4096 * sector) n before after
    → IsSameOutside (4096 * sector) 4096 before after
torn_sector sector n before after less few sized torn =
    widened (4096 * sector) n 4096 before after few (torn_same (4096 * sector) n before after (omega arith) torn)

-- both memories keep their lengths where a part of the flash was written
pub sized_still : (at n : ℕ) (before after : Memory) → IsLoaded before → at + n ≤ 1048576 → Torn at n before.flash after.flash → after.bbram ≡ before.bbram → IsLoaded after
sized_still at n before after loaded within torn same = record {
  flash = (torn_same at n before.flash after.flash (omega (arith, loaded.flash)) torn).sized ∙ loaded.flash;
  bbram = ap length same ∙ loaded.bbram;
}

-- an erased sector begins with erased bytes
pub erased_start : (sector n : ℕ) (before after : List ℕ) → sector < 256 → n ≤ 4096 → length before ≡ 1048576
    → after ≡ memory_with_bytes (4096 * sector) (erased_bytes 4096) before → part (4096 * sector) n after ≡ erased_bytes n
unfolding erased_bytes
erased_start sector n before after less few sized whole =
    let at : ℕ = 4096 * sector in
    let all : part at 4096 (memory_with_bytes at (erased_bytes 4096) before) ≡ erased_bytes 4096 = part-put at 4096 (erased_bytes 4096) before (sym (length-erased 4096)) (omega arith) in
    ap (part at n) whole
    ∙ sym (take-take n 4096 (drop at (memory_with_bytes at (erased_bytes 4096) before)) few)
    ∙ ap (take n) all
    ∙ take-replicate n 4096 0xFF few

-- what was put at the start of a sector stands there
pub put_start : (sector : ℕ) (before after bytes : List ℕ) → sector < 256 → length before ≡ 1048576
    → after ≡ memory_with_bytes (4096 * sector) bytes before → part (4096 * sector) (length bytes) after ≡ bytes
put_start sector before after bytes less sized whole =
    ap (part (4096 * sector) (length bytes)) whole ∙ part-put (4096 * sector) (length bytes) bytes before refl (omega arith)

-- ---- several sectors

no_items : (xs : List ℕ) → length xs ≡ 0 → xs ≡ []
no_items [] none = refl
no_items (x ∷ xs) none = absurd (omega (arith, none))

-- where a piece fills its sector, or nothing comes after it, what stands in its sector and in those after it is both
pub joined : (at : ℕ) (flash piece rest bytes : List ℕ) → bytes ≡ piece ++ rest → (length piece ≡ 4096) ⊎ (length rest ≡ 0)
    → part at (length piece) flash ≡ piece → part (at + 4096) (length rest) flash ≡ rest → part at (length bytes) flash ≡ bytes
joined at flash piece rest bytes whole (inl full) first later =
    let count : length bytes ≡ length piece + length rest = ap length whole ∙ length-append piece rest in
    let next : drop (length piece) (drop at flash) ≡ drop (at + 4096) flash = drop-drop (length piece) at flash ∙ ap (λ n. drop (at + n) flash) full in
    ap (λ n. part at n flash) count
    ∙ take-add (length piece) (length rest) (drop at flash)
    ∙ ap (λ xs. take (length piece) (drop at flash) ++ take (length rest) xs) next
    ∙ ap (λ xs. xs ++ part (at + 4096) (length rest) flash) first
    ∙ ap (λ xs. piece ++ xs) later
    ∙ sym whole
joined at flash piece rest bytes whole (inr none) first later =
    let empty : rest ≡ [] = no_items rest none in
    let same : bytes ≡ piece = whole ∙ ap (λ xs. piece ++ xs) empty ∙ append-nil piece in
    rw same first

-- what stands in a sector stays while those after it are written
pub both_stand : (first : ℕ) (mid after piece rest bytes : List ℕ) → bytes ≡ piece ++ rest → length piece ≤ 4096 → (length piece ≡ 4096) ⊎ (length rest ≡ 0)
    → IsSameOutside (4096 * (first + 1)) (4096 * sectors_for (length rest)) mid after → 4096 * first + 4096 ≤ length mid
    → part (4096 * first) (length piece) mid ≡ piece → part (4096 * (first + 1)) (length rest) after ≡ rest
    → part (4096 * first) (length bytes) after ≡ bytes
both_stand first mid after piece rest bytes whole most full same within stood later =
    let at : ℕ = 4096 * first in
    let next : 4096 * (first + 1) ≡ at + 4096 = omega arith in
    let stays : part at (length piece) after ≡ part at (length piece) mid =
    apart_same at (length piece) (4096 * (first + 1)) (4096 * sectors_for (length rest)) mid after same (omega arith) (inl (omega arith)) in
    joined at after piece rest bytes whole full (stays ∙ stood) (ap (λ k. part k (length rest) after) (sym next) ∙ later)

-- ---- what stands already

-- where bytes stand, the first piece of them does
pub piece_stands : (at : ℕ) (flash piece rest bytes : List ℕ) → bytes ≡ piece ++ rest → part at (length bytes) flash ≡ bytes → part at (length piece) flash ≡ piece
piece_stands at flash piece rest bytes whole stands =
    sym (take-take (length piece) (length bytes) (drop at flash) (omega (arith, ap length whole, length-append piece rest)))
    ∙ ap (take (length piece)) (stands ∙ whole) ∙ take-append_seam piece rest

-- and what comes after it, where it fills its sector or nothing does
pub rest_stands : (at : ℕ) (flash piece rest bytes : List ℕ) → bytes ≡ piece ++ rest → (length piece ≡ 4096) ⊎ (length rest ≡ 0)
    → part at (length bytes) flash ≡ bytes → part (at + 4096) (length rest) flash ≡ rest
rest_stands at flash piece rest bytes whole (inl full) stands =
    let count : length bytes ≡ length piece + length rest = ap length whole ∙ length-append piece rest in
    let next : drop (length piece) (drop at flash) ≡ drop (at + 4096) flash = drop-drop (length piece) at flash ∙ ap (λ n. drop (at + n) flash) full in
    ap (take (length rest)) (sym next)
    ∙ sym (drop-take (length piece) (length rest) (drop at flash))
    ∙ ap (λ n. drop (length piece) (take n (drop at flash))) (sym count)
    ∙ ap (drop (length piece)) (stands ∙ whole)
    ∙ drop-append_seam piece rest
rest_stands at flash piece rest bytes whole (inr none) stands = rw (no_items rest none) refl

-- so it does in the next sector
pub next_stands : (first : ℕ) (flash piece rest bytes : List ℕ) → bytes ≡ piece ++ rest → (length piece ≡ 4096) ⊎ (length rest ≡ 0)
    → part (4096 * first) (length bytes) flash ≡ bytes → part (4096 * (first + 1)) (length rest) flash ≡ rest
next_stands first flash piece rest bytes whole full stands =
    let next : 4096 * (first + 1) ≡ 4096 * first + 4096 = omega arith in
    ap (λ k. part k (length rest) flash) next ∙ rest_stands (4096 * first) flash piece rest bytes whole full stands

-- ---- the sectors of all the bytes

-- the first piece takes a sector, and the rest those after it
pub one_more : (piece rest bytes : List ℕ) → bytes ≡ piece ++ rest → 0 < length piece → length piece ≤ 4096 → (length piece ≡ 4096) ⊎ (length rest ≡ 0)
    → sectors_for (length bytes) ≡ 1 + sectors_for (length rest)
one_more piece rest bytes whole some most (inl full) = omega (arith, full, ap length whole, length-append piece rest)
one_more piece rest bytes whole some most (inr none) = omega (arith, some, most, none, ap length whole, length-append piece rest)

-- what stays while the first sector is written, and then those after it
pub both_same : (first count all : ℕ) (before mid after : List ℕ) → all ≡ 1 + count → IsSameOutside (4096 * first) 4096 before mid → IsSameOutside (4096 * (first + 1)) (4096 * count) mid after
    → IsSameOutside (4096 * first) (4096 * all) before after
both_same first count all before mid after is one more = record {
  sized = more.sized ∙ one.sized;
  bytes = λ offset outside. more.bytes offset (after_first offset outside) ∙ one.bytes offset (before_rest offset outside);
}
  where
    after_first : (offset : ℕ) → IsOutside (4096 * first) (4096 * all) offset → IsOutside (4096 * (first + 1)) (4096 * count) offset
    after_first offset (inl below) = inl (omega arith)
    after_first offset (inr above) = inr (omega (arith, is))

    before_rest : (offset : ℕ) → IsOutside (4096 * first) (4096 * all) offset → IsOutside (4096 * first) 4096 offset
    before_rest offset (inl below) = inl below
    before_rest offset (inr above) = inr (omega (arith, is))

-- calls that were not stopped, and then others
pub ran_then : {A B E F : Type 0} (n m all : ℕ) (value : A) (result : Result B F) (before mid after : Seen) → n + m ≤ all → RanOnFlash n {A = A} {E = E} (Ok value) before mid → RanOnFlash m result mid after
    → RanOnFlash all result before after
ran_then n m all value result before mid after less one more = record {
  ran = record {
    power = more.ran.power;
    level = more.ran.level ∙ ap (level_of result) one.ran.level;
    sized = more.ran.sized;
    ledger = more.ran.ledger ∙ one.ran.ledger;
    meter = record {
      armed = more.ran.meter.armed ∙ ap (armed_by result) one.ran.meter.armed;
      stops = more.ran.meter.stops ∙ ap (stops_by result) one.ran.meter.stops;
      writes = omega (arith, less, one.ran.meter.writes, more.ran.meter.writes);
      cut = subst (λ (armed : Bool). OnErr result (armed ≡ true)) one.ran.meter.armed more.ran.meter.cut;
    };
  };
  bbram = more.bbram ∙ one.bbram;
}

-- what is written of all the bytes where the first sector was stopped
pub first_stopped : {A B E F : Type 0} (first : ℕ) (bytes piece rest : List ℕ) (error : E) (result : Result B F) (before after : Seen) → 1 ≤ sectors_for (length bytes) → bytes ≡ piece ++ rest → IsErr result
    → WritesSectors first 1 piece {A = A} {E = E} (Err error) before after → WritesSectors first (sectors_for (length bytes)) bytes result before after
first_stopped first bytes piece rest error (Ok value) before after some whole is stopped = absurd (true≢false (sym is))
first_stopped first bytes piece rest error (Err other) before after some whole is stopped = record {
  written = tt;
  idle = λ stands. stopped.idle (piece_stands (4096 * first) before.memory.flash piece rest bytes whole stands);
  same = widened (4096 * first) 4096 (4096 * sectors_for (length bytes)) before.memory.flash after.memory.flash (omega (arith, some)) stopped.same;
  ran = record {
    ran = record {
      power = stopped.ran.ran.power;
      level = stopped.ran.ran.level;
      sized = stopped.ran.ran.sized;
      ledger = stopped.ran.ran.ledger;
      meter = record {
        armed = stopped.ran.ran.meter.armed;
        stops = stopped.ran.ran.meter.stops;
        writes = omega (arith, some, stopped.ran.ran.meter.writes);
        cut = stopped.ran.ran.meter.cut;
      };
    };
    bbram = stopped.ran.bbram;
  };
}
