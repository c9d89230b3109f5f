-- What a torn write leaves, byte by byte.
use Rattle.std.proofs.Common.{◌≡◌, ℕ, ◌+◌, ◌-◌, ◌<◌, ◌≤◌, ◌⊎◌, inl, inr, List, [], ◌∷◌, length, get_or, drop, refl, ap, sym, ◌∙◌, arith}
use Rattle.std.proofs.lemmas.List.{get_or-take, get_or-drop}
use Rattle.mb_model.specs.outside.Pieces.{part}
use Rattle.mb_model.specs.outside.Board.{memory_with_bytes}
use Rattle.mb_model.proofs.Places.{length-put, take-put_below, drop-put_above, part-put}
use Rattle.mb_model_memory.proofs.FlashFrames.{part_same}
use Rattle.mb_board.specs.Calls.{Torn}
use Rattle.mb_slot.specs.Slots.{IsOutside, IsSameOutside}

-- ---- single bytes

get_or-put_below : (at i : ℕ) (bytes memory : List ℕ) → i < at → at ≤ length memory → get_or (memory_with_bytes at bytes memory) i 0 ≡ get_or memory i 0
get_or-put_below at i bytes memory below within =
    sym (get_or-take at (memory_with_bytes at bytes memory) i 0 below)
    ∙ ap (λ (xs : List ℕ). get_or xs i 0) (take-put_below at at bytes memory (omega arith) within)
    ∙ get_or-take at memory i 0 below

get_or-from : (n i : ℕ) (xs : List ℕ) → n ≤ i → get_or (drop n xs) (i - n) 0 ≡ get_or xs i 0
get_or-from n i xs from =
    let whole : n + (i - n) ≡ i = omega arith in
    get_or-drop n xs (i - n) 0 ∙ ap (λ (k : ℕ). get_or xs k 0) whole

get_or-put_above : (at i : ℕ) (bytes memory : List ℕ) → at + length bytes ≤ i → at ≤ length memory → get_or (memory_with_bytes at bytes memory) i 0 ≡ get_or memory i 0
get_or-put_above at i bytes memory above within =
    let end : ℕ = at + length bytes in
    sym (get_or-from end i (memory_with_bytes at bytes memory) above)
    ∙ ap (λ (xs : List ℕ). get_or xs (i - end) 0) (drop-put_above end at bytes memory (omega arith) within)
    ∙ get_or-from end i memory above

-- the byte that was put
pub get_or-put_byte : (at byte : ℕ) (memory : List ℕ) → at ≤ length memory → get_or (memory_with_bytes at (byte ∷ []) memory) at 0 ≡ byte
get_or-put_byte at byte memory within =
    let written : part at 1 (memory_with_bytes at (byte ∷ []) memory) ≡ byte ∷ [] = part-put at 1 (byte ∷ []) memory refl within in
    sym (get_or-from at at (memory_with_bytes at (byte ∷ []) memory) (omega arith))
    ∙ ap (λ (k : ℕ). get_or (drop at (memory_with_bytes at (byte ∷ []) memory)) k 0) (omega arith)
    ∙ sym (get_or-take 1 (drop at (memory_with_bytes at (byte ∷ []) memory)) 0 0 (omega arith))
    ∙ ap (λ (xs : List ℕ). get_or xs 0 0) written

-- ---- ranges

put_outside : (at n offset : ℕ) (bytes memory : List ℕ) → length bytes ≡ n → at + n ≤ length memory → IsOutside at n offset → get_or (memory_with_bytes at bytes memory) offset 0 ≡ get_or memory offset 0
put_outside at n offset bytes memory sized within (inl below) = get_or-put_below at offset bytes memory below (omega arith)
put_outside at n offset bytes memory sized within (inr above) = get_or-put_above at offset bytes memory (omega arith) (omega arith)

-- after bytes were put, a memory is the same outside of them
pub put_same : (at n : ℕ) (bytes memory : List ℕ) → length bytes ≡ n → at + n ≤ length memory → IsSameOutside at n memory (memory_with_bytes at bytes memory)
put_same at n bytes memory sized within = record {
  sized = length-put at bytes memory (omega arith);
  bytes = λ offset outside. put_outside at n offset bytes memory sized within outside;
}

-- so it is after a torn write
pub torn_same : (at n : ℕ) (before after : List ℕ) → at + n ≤ length before → Torn at n before after → IsSameOutside at n before after
torn_same at n before after within torn = rw torn.whole (put_same at n torn.written before torn.sized within)

-- a part apart from the bytes that may differ is the same
pub apart_same : (from n at count : ℕ) (before after : List ℕ) → IsSameOutside at count before after → from + n ≤ length before → (from + n ≤ at) ⊎ (at + count ≤ from) → part from n after ≡ part from n before
apart_same from n at count before after same within (inl below) = part_same from n before after same.sized within (λ offset least most. same.bytes offset (inl (omega arith)))
apart_same from n at count before after same within (inr above) = part_same from n before after same.sized within (λ offset least most. same.bytes offset (inr (omega arith)))
