-- What stands where in a memory after bytes were put at a place.
use Rattle.std.proofs.Common.{◌≡◌, ℕ, ◌+◌, ◌-◌, ◌≤◌, List, ◌++◌, length, take, drop, refl, ap, sym, ◌∙◌, arith, append_assoc, length-append, length-drop}
use Rattle.std.proofs.lemmas.List.{length-take-le, take-append-le, take-take, take_at, drop_at, drop-drop, drop-take, length-replicate}
use Rattle.std.proofs.Math.Seq.{drop-append-add}
use Rattle.mb_model.specs.outside.Pieces.{part}
use Rattle.mb_model.specs.outside.Board.{memory_with_bytes, erased_bytes}

pub length-part : (at n : ℕ) (bytes : List ℕ) → at + n ≤ length bytes → length (part at n bytes) ≡ n
length-part at n bytes within = length-take-le n (drop at bytes) (omega (arith, length-drop at bytes))

-- how many bytes stand before the end of those that were put
length-front : (at : ℕ) (bytes memory : List ℕ) → at ≤ length memory → length (take at memory ++ bytes) ≡ at + length bytes
length-front at bytes memory within =
    omega (arith, length-append (take at memory) bytes, length-take-le at memory within)

pub length-put : (at : ℕ) (bytes memory : List ℕ) → at + length bytes ≤ length memory → length (memory_with_bytes at bytes memory) ≡ length memory
unfolding memory_with_bytes
length-put at bytes memory within =
    omega (arith, length-append (take at memory ++ bytes) (drop (at + length bytes) memory), length-front at bytes memory (omega arith), length-drop (at + length bytes) memory)

-- the bytes before the place stay
pub take-put_below : (n at : ℕ) (bytes memory : List ℕ) → n ≤ at → at ≤ length memory → take n (memory_with_bytes at bytes memory) ≡ take n memory
unfolding memory_with_bytes
take-put_below n at bytes memory below within =
    take-append-le n (take at memory ++ bytes) (drop (at + length bytes) memory) (omega (arith, length-front at bytes memory within))
    ∙ (take-append-le n (take at memory) bytes (omega (arith, length-take-le at memory within)) ∙ take-take n at memory below)

-- the bytes after those that were put stay
pub drop-put_above : (n at : ℕ) (bytes memory : List ℕ) → at + length bytes ≤ n → at ≤ length memory → drop n (memory_with_bytes at bytes memory) ≡ drop n memory
unfolding memory_with_bytes
drop-put_above n at bytes memory above within =
    let front : List ℕ = take at memory ++ bytes in
    let rest : List ℕ = drop (at + length bytes) memory in
    let more : ℕ = n - (at + length bytes) in
    let split : length front + more ≡ n = omega (arith, length-front at bytes memory within) in
    let whole : at + length bytes + more ≡ n = omega arith in
    ap (λ i. drop i (front ++ rest)) (sym split)
    ∙ (drop-append-add front rest more
    ∙ (drop-drop more (at + length bytes) memory ∙ ap (λ i. drop i memory) whole))

pub take-put_start : (bytes memory : List ℕ) → take (length bytes) (memory_with_bytes 0 bytes memory) ≡ bytes
unfolding memory_with_bytes
take-put_start bytes memory = take_at bytes (drop (0 + length bytes) memory) (length bytes) refl

pub part-put : (at n : ℕ) (bytes memory : List ℕ) → n ≡ length bytes → at ≤ length memory → part at n (memory_with_bytes at bytes memory) ≡ bytes
unfolding memory_with_bytes
part-put at n bytes memory same within =
    let rest : List ℕ = drop (at + length bytes) memory in
    rw append_assoc (rw (drop_at (take at memory) (bytes ++ rest) at (length-take-le at memory within)) (take_at bytes rest n (sym same)))

pub part-put_below : (from n at : ℕ) (bytes memory : List ℕ) → from + n ≤ at → at ≤ length memory → part from n (memory_with_bytes at bytes memory) ≡ part from n memory
part-put_below from n at bytes memory below within =
    sym (drop-take from n (memory_with_bytes at bytes memory))
    ∙ (ap (drop from) (take-put_below (from + n) at bytes memory below within) ∙ drop-take from n memory)

pub part-put_above : (from n at : ℕ) (bytes memory : List ℕ) → at + length bytes ≤ from → at ≤ length memory → part from n (memory_with_bytes at bytes memory) ≡ part from n memory
part-put_above from n at bytes memory above within =
    ap (take n) (drop-put_above from at bytes memory above within)

-- what bytes are put into counts outside of them alone
put_by_parts : (at : ℕ) (bytes memory other : List ℕ) → take at memory ≡ take at other → drop (at + length bytes) memory ≡ drop (at + length bytes) other → memory_with_bytes at bytes memory ≡ memory_with_bytes at bytes other
unfolding memory_with_bytes
put_by_parts at bytes memory other front rest = cc

-- only what was put last counts
pub put-put : (at : ℕ) (later earlier memory : List ℕ) → length earlier ≤ length later → at ≤ length memory → memory_with_bytes at later (memory_with_bytes at earlier memory) ≡ memory_with_bytes at later memory
put-put at later earlier memory covers within =
    let front : take at (memory_with_bytes at earlier memory) ≡ take at memory = take-put_below at at earlier memory (omega arith) within in
    let rest : drop (at + length later) (memory_with_bytes at earlier memory) ≡ drop (at + length later) memory = drop-put_above (at + length later) at earlier memory (omega arith) within in
    put_by_parts at later (memory_with_bytes at earlier memory) memory front rest

pub length-erased : (n : ℕ) → length (erased_bytes n) ≡ n
unfolding erased_bytes
length-erased n = length-replicate n 0xFF

-- all of them
pub ruleset puts = (length-erased, length-part, length-put, take-put_below, drop-put_above, take-put_start, part-put, part-put_below, part-put_above, put-put)
