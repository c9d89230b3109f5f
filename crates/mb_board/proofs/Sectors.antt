-- What is the same in two memories stays so in the sectors in which nothing is written, and comes to be so where a sector
-- is copied.
use Rattle.std.proofs.Common.{◌≡◌, ◌≢◌, ℕ, ◌+◌, ◌*◌, ◌<◌, ◌≤◌, Bool, true, false, List, ◌++◌, length, take, get_or, set, ap, sym, ◌∙◌, inl, inr, arith, length-set, get_or-set_other, get_or-set_same, replicate}
use Rattle.std.proofs.Math.Seq.{take-add}
use Rattle.std.proofs.lemmas.Bool.{cases_order}
use Rattle.std.proofs.lemmas.List.{length-replicate, get_or-replicate}
use Rattle.mb_model.specs.outside.Board.{memory_with_bytes}
use Rattle.mb_model.proofs.Places.{length-part, length-put, take-put_below, part-put, part-put_below, part-put_above}
use Rattle.mb_board.specs.Kept.{sector_of, IsSameUnchanged}

-- a range that begins at the offset at lies within a sector
pub record LiesIn (sector at n : ℕ) : Type 0 where
  pub least : 4096 * sector ≤ at
  pub most : at + n ≤ 4096 * sector + 4096

-- what is put into a sector leaves the others
sector_of-put_other : (other sector at : ℕ) (bytes memory : List ℕ) → other ≢ sector → LiesIn sector at (length bytes) → at ≤ length memory → sector_of other (memory_with_bytes at bytes memory) ≡ sector_of other memory
sector_of-put_other other sector at bytes memory differ lies within =
    elim (cases_order other sector) [
      | inl same ↦ absurd (differ same)
      | inr unequal ↦ elim unequal [
        | inl below ↦ part-put_below (4096 * other) 4096 at bytes memory (omega arith) within
        | inr above ↦ part-put_above (4096 * other) 4096 at bytes memory (omega arith) within
      ]
    ]

-- a write into a sector that is marked as changed
pub same-put : (changed : List Bool) (standing memory : List ℕ) (sector at : ℕ) (bytes : List ℕ) → IsSameUnchanged changed standing memory → sector < length changed → LiesIn sector at (length bytes) → IsSameUnchanged (set changed sector true) standing (memory_with_bytes at bytes memory)
same-put changed standing memory sector at bytes same known lies =
    let count : length (set changed sector true) ≡ length changed = length-set changed sector true in
    let size : length (memory_with_bytes at bytes memory) ≡ length memory = length-put at bytes memory (omega arith) in
    record {
      whole = omega arith;
      sized = same.sized ∙ sym size;
      same = λ other below is.
          let differ : other ≢ sector = λ equal.
          let marked : get_or (set changed sector true) sector false ≡ true = get_or-set_same changed sector true false known in
          let not : get_or (set changed sector true) sector false ≡ false = ap (λ i. get_or (set changed sector true) i false) (sym equal) ∙ is in
          cc in
          same.same other (omega arith) (sym (get_or-set_other changed sector other true false differ) ∙ is)
          ∙ sym (sector_of-put_other other sector at bytes memory differ lies (omega arith));
    }

-- the first sectors are the same, and the one after them
pub prefix_more : (sector : ℕ) (standing memory : List ℕ) → take (4096 * sector) standing ≡ take (4096 * sector) memory → sector_of sector standing ≡ sector_of sector memory → take (4096 * (sector + 1)) standing ≡ take (4096 * (sector + 1)) memory
prefix_more sector standing memory front next =
    let more : 4096 * sector + 4096 ≡ 4096 * (sector + 1) = omega arith in
    let split_standing : take (4096 * sector + 4096) standing ≡ take (4096 * sector) standing ++ sector_of sector standing = take-add (4096 * sector) 4096 standing in
    let split_memory : take (4096 * sector + 4096) memory ≡ take (4096 * sector) memory ++ sector_of sector memory = take-add (4096 * sector) 4096 memory in
    cc

-- a sector is copied, and no longer marked
pub same-copied : (changed : List Bool) (standing memory : List ℕ) (sector : ℕ) → IsSameUnchanged changed standing memory → sector < length changed → IsSameUnchanged (set changed sector false) (memory_with_bytes (4096 * sector) (sector_of sector memory) standing) memory
same-copied changed standing memory sector same known =
    let count : length (set changed sector false) ≡ length changed = length-set changed sector false in
    let new : List ℕ = sector_of sector memory in
    let new_length : length new ≡ 4096 = length-part (4096 * sector) 4096 memory (omega arith) in
    let lies : LiesIn sector (4096 * sector) (length new) = record { least = omega arith; most = omega arith } in
    let within : 4096 * sector ≤ length standing = omega arith in
    record {
      whole = omega arith;
      sized = length-put (4096 * sector) new standing (omega arith) ∙ same.sized;
      same = λ other below is.
          let unequal : (other ≢ sector) → sector_of other (memory_with_bytes (4096 * sector) new standing) ≡ sector_of other memory = λ differ.
          sector_of-put_other other sector (4096 * sector) new standing differ lies within
          ∙ same.same other (omega arith) (sym (get_or-set_other changed sector other false false differ) ∙ is) in
          elim (cases_order other sector) [
            | inl equal ↦
                ap (λ i. sector_of i (memory_with_bytes (4096 * sector) new standing)) equal
                ∙ (part-put (4096 * sector) 4096 new standing (sym new_length) within ∙ ap (λ i. sector_of i memory) (sym equal))
            | inr order ↦ unequal (elim order [ inl below ↦ λ equal. omega arith | inr above ↦ λ equal. omega arith ])
          ];
    }

pub prefix-copied : (standing memory : List ℕ) (sector : ℕ) → length standing ≡ length memory → 4096 * sector + 4096 ≤ length memory → take (4096 * sector) standing ≡ take (4096 * sector) memory → take (4096 * (sector + 1)) (memory_with_bytes (4096 * sector) (sector_of sector memory) standing) ≡ take (4096 * (sector + 1)) memory
prefix-copied standing memory sector sized within front =
    let new : List ℕ = sector_of sector memory in
    let new_length : length new ≡ 4096 = length-part (4096 * sector) 4096 memory within in
    prefix_more sector (memory_with_bytes (4096 * sector) new standing) memory
    (take-put_below (4096 * sector) (4096 * sector) new standing (omega arith) (omega arith) ∙ front)
    (part-put (4096 * sector) 4096 new standing (sym new_length) (omega arith))

-- every sector is marked
pub same-marked : (changed : List Bool) (standing memory new : List ℕ) → IsSameUnchanged changed standing memory → length new ≡ length memory → IsSameUnchanged (replicate (length changed) true) standing new
same-marked changed standing memory new same size =
    let count : length (replicate (length changed) true) ≡ length changed = length-replicate (length changed) true in
    record {
      whole = omega arith;
      sized = same.sized ∙ sym size;
      same = λ other below is.
          let marked : get_or (replicate (length changed) true) other false ≡ true = get_or-replicate (length changed) other true false (omega arith) in
          cc;
    }
