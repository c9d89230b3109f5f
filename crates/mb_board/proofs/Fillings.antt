-- The bytes that a tear fills with.
use Rattle.std.proofs.Common.{◌≡◌, ℕ, ◌+◌, ◌-◌, ◌%◌, ◌≤◌, List, [], ◌∷◌, ◌++◌, length, take, drop, get_or, refl, ap, sym, ◌∙◌, min, inl, inr, arith, append_assoc, length-append}
use Rattle.std.proofs.Math.Seq.{take-add}
use Rattle.std.proofs.lemmas.List.{take-take, take_all, length-take, append-nil}
use Rattle.std.proofs.lemmas.Bool.{cases_lt}
use Rattle.std.proofs.lemmas.List.FromFn.{length-map-range_with_len, map-range_with_len_more}
use Rattle.mb_model.specs.declared.event.Tear.{Tear}
use Rattle.mb_board.specs.declared.fuse.Cut.{Cut}
use Rattle.mb_model.specs.outside.Pieces.{part}
use Rattle.mb_model.specs.outside.Board.{memory_with_bytes}
use Rattle.mb_model.proofs.Places.{length-part, part-put, put-put}
use Rattle.mb_board.specs.Cuts.{filling, torn_by, LeavesWhatItKeeps}
use Rattle.mb_board.specs.Shown.{BankContents}

pub length-filling : (tear : Tear) (n : ℕ) → length (filling tear n) ≡ n
unfolding filling
length-filling tear n = length-map-range_with_len (λ offset. get_or tear.fill (offset % tear.fill_length) 0) 0 n

pub filling_none : (tear : Tear) → filling tear 0 ≡ []
unfolding filling
filling_none tear = refl

pub filling_more : (tear : Tear) (n : ℕ) → filling tear (n + 1) ≡ filling tear n ++ get_or tear.fill (n % tear.fill_length) 0 ∷ []
unfolding filling
filling_more tear n = map-range_with_len_more (λ offset. get_or tear.fill (offset % tear.fill_length) 0) 0 n n (omega arith)

pub length-torn_by : (tear : Tear) (bytes : List ℕ) → length (torn_by tear bytes) ≡ length bytes
unfolding torn_by
length-torn_by tear bytes =
    omega (arith, length-append (take tear.keep bytes) (filling tear (length bytes - tear.keep)), length-take tear.keep bytes, length-filling tear (length bytes - tear.keep))

-- a range whose first bytes stay
put-kept : (at kept : ℕ) (rest memory : List ℕ) → at + kept ≤ length memory → memory_with_bytes at (part at kept memory ++ rest) memory ≡ memory_with_bytes (at + kept) rest memory
unfolding memory_with_bytes
put-kept at kept rest memory within =
    let front : take (at + kept) memory ++ rest ≡ take at memory ++ (part at kept memory ++ rest) =
    ap (λ start. start ++ rest) (take-add at kept memory) ∙ append_assoc (take at memory) (part at kept memory) rest in
    let ends : at + length (part at kept memory ++ rest) ≡ at + kept + length rest =
    omega (arith, length-append (part at kept memory) rest, length-part at kept memory within) in
    let beyond : drop (at + length (part at kept memory ++ rest)) memory ≡ drop (at + kept + length rest) memory =
    ap (λ end. drop end memory) ends in
    cc

-- the bytes of a range that a tear keeps
take-part : (keep count kept at : ℕ) (memory : List ℕ) → kept ≡ min count keep → at + count ≤ length memory → take keep (part at count memory) ≡ part at kept memory
take-part keep count kept at memory least within =
    elim (cases_lt keep count) [
      | inl less ↦
          let is : kept ≡ keep = omega arith in
          take-take keep count (drop at memory) (omega arith) ∙ ap (λ n. part at n memory) (sym is)
      | inr more ↦
          let is : kept ≡ count = omega arith in
          take_all keep (part at count memory) (omega (arith, length-part at count memory within)) ∙ ap (λ n. part at n memory) (sym is)
    ]

-- a tear changes the rest of a range that was written alone
pub put-torn_by : (tear : Tear) (at count kept : ℕ) (memory : List ℕ) → kept ≡ min count tear.keep → at + count ≤ length memory → memory_with_bytes (at + kept) (filling tear (count - kept)) memory ≡ memory_with_bytes at (torn_by tear (part at count memory)) memory
unfolding torn_by
put-torn_by tear at count kept memory least within =
    let front : take tear.keep (part at count memory) ≡ part at kept memory = take-part tear.keep count kept at memory least within in
    let left : length (part at count memory) - tear.keep ≡ count - kept = omega (arith, length-part at count memory within) in
    let rest : filling tear (length (part at count memory) - tear.keep) ≡ filling tear (count - kept) = ap (filling tear) left in
    let same : memory_with_bytes at (part at kept memory ++ filling tear (count - kept)) memory ≡ memory_with_bytes (at + kept) (filling tear (count - kept)) memory =
    put-kept at kept (filling tear (count - kept)) memory (omega arith) in
    cc

-- what a tear leaves of a range that was just written
torn_by-put : (tear : Tear) (at count : ℕ) (bytes memory : List ℕ) → count ≡ length bytes → at + length bytes ≤ length memory → memory_with_bytes at (torn_by tear (part at count (memory_with_bytes at bytes memory))) (memory_with_bytes at bytes memory) ≡ memory_with_bytes at (torn_by tear bytes) memory
torn_by-put tear at count bytes memory sized within =
    let stored : part at count (memory_with_bytes at bytes memory) ≡ bytes = part-put at count bytes memory sized (omega arith) in
    ap (λ range. memory_with_bytes at (torn_by tear range) (memory_with_bytes at bytes memory)) stored
    ∙ put-put at (torn_by tear bytes) bytes memory (omega (arith, length-torn_by tear bytes)) (omega arith)

pub torn_write : (tear : Tear) (at count : ℕ) (bytes : List ℕ) (old written new : BankContents) → new ≡ record written { bytes = memory_with_bytes at (torn_by tear (part at count written.bytes)) written.bytes } → written ≡ record old { bytes = memory_with_bytes at bytes old.bytes } → count ≡ length bytes → at + length bytes ≤ length old.bytes → new ≡ record old { bytes = memory_with_bytes at (torn_by tear bytes) old.bytes }
torn_write tear at count bytes old written new spoils writes sized within =
    let spoiled : BankContents → BankContents = λ bank. record bank { bytes = memory_with_bytes at (torn_by tear (part at count bank.bytes)) bank.bytes } in
    let with_bytes : List ℕ → BankContents = λ all. record old { bytes = all } in
    spoils ∙ (ap spoiled writes ∙ ap with_bytes (torn_by-put tear at count bytes old.bytes sized within))

-- a tear that keeps all of the bytes leaves them
pub leaves_what_it_keeps : (cut : Cut) → LeavesWhatItKeeps cut
unfolding torn_by
leaves_what_it_keeps cut bytes keeps =
    let tear : Tear = cut.tear in
    let all : take tear.keep bytes ≡ bytes = take_all tear.keep bytes keeps in
    let none : length bytes - tear.keep ≡ 0 = omega arith in
    let rest : filling tear (length bytes - tear.keep) ≡ [] = ap (filling tear) none ∙ filling_none tear in
    let nothing : bytes ++ [] ≡ bytes = append-nil bytes in
    cc
