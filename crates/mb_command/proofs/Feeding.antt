-- What the answers of looking over bytes say of an order that is fed in pieces.
use Rattle.std.proofs.Common.{◌≡◌, ℕ, ◌<◌, ◌≤◌, ◌-◌, List, [], ◌++◌, length, take, drop, Ok, Err, ap, ◌∙◌, subst, arith, append_assoc, append-nil, take-append-drop}
use Rattle.std.proofs.lemmas.List.{length-append, length-take, take_all}
use Rattle.mb_format.specs.Format.{IsBytes, FailsWhole}
use Rattle.mb_format.proofs.Exact.{IsBytes-drop, IsBytes-none}
use Rattle.mb_model.specs.records.OrderFormat.{order_format}
use Rattle.mb_model.proofs.OrderFormatLaws.{order_exact}
use Rattle.mb_model.proofs.FormatBounds.{order_short}
use Rattle.mb_bytes.specs.declared.cursor.Cursor.{Cursor}
use Rattle.mb_bytes.specs.Reads.{FailsWholeAt}
use Rattle.mb_bytes.specs.declared.end.ReadEnd.{ReadEnd}
use Rattle.mb_bytes.specs.declared.end.ReadEnd.TheVariants.{Bad, NoMemory}
use Rattle.mb_command.specs.Beginnings.{FailsHowever, CanBecome, FailsFrom, CanEndFrom}
use Rattle.mb_bytes.specs.Ends.{end_at}
use Rattle.mb_command.specs.Feeding.{Feeds}
use Rattle.mb_command.specs.Surveys.{IsFound, NothingTold}
use Rattle.mb_command.proofs.WholeBeginnings.{never_both, whole_lost, whole_over, whole_here, whole_open, fails_more}

-- ---- all bytes were looked over

found_first : (bytes : List ℕ) (old new : Cursor) → old.bytes.now ≡ bytes → old.offset ≡ 0 → (p : IsFound order_format old new (NothingTold tt)) → order_format.reads bytes 0 ≡ Ok (p.value, new.offset)
found_first bytes old new all first p = subst (λ (b : List ℕ). order_format.reads b 0 ≡ Ok (p.value, new.offset)) all (subst (λ (n : ℕ). order_format.reads old.bytes.now n ≡ Ok (p.value, new.offset)) first p.reads)

-- an order was found, and bytes are left
pub settled_over : (bytes : List ℕ) (old new : Cursor) → IsBytes bytes → old.bytes.now ≡ bytes → old.offset ≡ 0 → IsFound order_format old new (NothingTold tt) → new.offset < length bytes → FailsHowever order_format bytes new.offset
settled_over bytes old new h all first p lt = whole_over order_format order_exact bytes p.value new.offset h (found_first bytes old new all first p) lt

-- an order was found, and no bytes are left
pub settled_here : (bytes : List ℕ) (old new : Cursor) → IsBytes bytes → old.bytes.now ≡ bytes → old.offset ≡ 0 → IsFound order_format old new (NothingTold tt) → length bytes ≤ new.offset → CanBecome order_format bytes
settled_here bytes old new h all first p le = whole_here order_format order_exact bytes p.value new.offset h (found_first bytes old new all first p) le

pub settled_lost : (bytes : List ℕ) (old : Cursor) (at : ℕ) → IsBytes bytes → old.bytes.now ≡ bytes → old.offset ≡ 0 → FailsFrom order_format old.bytes.now old.offset at → FailsHowever order_format bytes at
settled_lost bytes old at h all first fails = whole_lost order_format order_exact bytes at h (subst (λ (b : List ℕ). FailsFrom order_format b 0 at) all (subst (λ (n : ℕ). FailsFrom order_format old.bytes.now n at) first fails))

pub settled_open : (bytes : List ℕ) (old : Cursor) → IsBytes bytes → old.bytes.now ≡ bytes → old.offset ≡ 0 → CanEndFrom order_format old.bytes.now old.offset → CanBecome order_format bytes
settled_open bytes old h all first can = whole_open order_format order_exact bytes h (subst (λ (b : List ℕ). CanEndFrom order_format b 0) all (subst (λ (n : ℕ). CanEndFrom order_format old.bytes.now n) first can))

-- ---- one piece more

-- no more bytes than an order has can become one
order_few : (bytes : List ℕ) → CanBecome order_format bytes → length bytes ≤ 61034
order_few bytes can =
    let short = order_short.short can.value can.spelled.allowed in
    omega (arith, short, ap length can.spelled.whole, length-append bytes can.more)

-- if a piece was not taken in whole, they cannot
pub taken_whole : (old piece : List ℕ) (there : ℕ) → there ≡ length old → there ≤ 65536 → CanBecome order_format (old ++ take (65536 - there) piece) → take (65536 - there) piece ≡ piece
taken_whole old piece there is le can =
    let few = order_few (old ++ take (65536 - there) piece) can in
    take_all (65536 - there) piece (omega (arith, is, le, few, length-append old (take (65536 - there) piece), length-take (65536 - there) piece))

-- what fails in the bytes that were taken in fails in all of them
pub fails_whole : (old piece : List ℕ) (n at : ℕ) → IsBytes piece → FailsHowever order_format (old ++ take n piece) at → FailsHowever order_format (old ++ piece) at
fails_whole old piece n at h fails =
    let parts : (old ++ take n piece) ++ drop n piece ≡ old ++ piece = append_assoc old (take n piece) (drop n piece) ∙ ap (λ (rest : List ℕ). old ++ rest) (take-append-drop n piece) in
    subst (λ (b : List ℕ). FailsHowever order_format b at) parts (fails_more order_format (old ++ take n piece) (drop n piece) at (IsBytes-drop n piece h) fails)

pub becomes_unfailed : (bytes : List ℕ) (at : ℕ) → IsBytes bytes → CanBecome order_format bytes → FailsHowever order_format bytes at → ⊥
becomes_unfailed bytes at h can fails = never_both order_format order_exact bytes at h fails can

-- ---- after an error

-- the error answers the bytes with one piece more
pub ended_more : (fed piece : List ℕ) (end : ReadEnd) → IsBytes piece → Feeds fed (Err end) → Feeds (fed ++ piece) (Err end)
ended_more fed piece (Bad at) h fails = fails_more order_format fed piece at h fails
ended_more fed piece NoMemory h u = tt

-- the error answers the bytes as a whole
pub ended_whole : (fed : List ℕ) (end : ReadEnd) → Feeds fed (Err end) → FailsWholeAt order_format fed (end_at end)
ended_whole fed (Bad at) fails = subst (λ (b : List ℕ). FailsWhole order_format b at) (append-nil fed) (fails.fails [] IsBytes-none)
ended_whole fed NoMemory u = tt
