-- A statement has a spelling if what it says has one, and there is room for it.
use Rattle.std.proofs.Common.{◌≡◌, ◌<◌, ◌≤◌, ℕ, List, length, replicate, refl, arith}
use Rattle.std.proofs.lemmas.List.{length-replicate}
use Rattle.std.specs.Int.{w32}
use Rattle.std.specs.Global.{Vec}
use Rattle.std.specs.Vec.{vec_len, vec_capacity}
use Rattle.mb_format.specs.Combinators.{limit}
use Rattle.mb_model.specs.chains.Script.{FitsMessage}
use Rattle.mb_model.specs.declared.entry.Said.{Said}
use Rattle.mb_model.specs.declared.entry.Said.TheVariants.{Message, Answer}
use Rattle.mb_model.specs.declared.entry.Statement.{Statement}
use Rattle.mb_model.specs.records.ChainFormat.{answered_format, said_format, statement_format}
use Rattle.mb_model.proofs.FormatBounds.{statement_short}
use Rattle.mb_bytes.specs.Puts.{IsUnwritten}
use Rattle.mb_model_lemmas.proofs.AttachLemmas.{statement_allowed}

pub finds_room : (statement : Statement) {old new : Vec ℕ} → statement_format.Allowed statement → IsUnwritten (statement_format.spelling statement) old new → vec_len old ≡ 0 → 2514 ≤ vec_capacity old → ⊥
finds_room statement {old} {new} allowed lacks empty room = omega (arith, statement_short.short statement allowed, lacks.no_room, empty, room)

pub said_allowed : (number : ℕ) (said : Said) (signature : List ℕ) → number < limit w32 → said_format.Allowed said → length signature ≡ 2348
    → statement_format.Allowed (record { number = number; said = said; signature = signature })
unfolding statement_format
said_allowed number said signature small allowed long = (small, (allowed, long))

-- a message has a spelling
pub message_allowed : (message : List ℕ) → FitsMessage message → said_format.Allowed (Message message)
unfolding statement_format
message_allowed message fits = (statement_allowed 0 message (replicate {A = ℕ} 2348 0) (omega arith) fits (length-replicate {A = ℕ} 2348 0)).1.0

-- an answer has one
pub answer_allowed : (input answer : List ℕ) → length input ≡ 32 → length answer ≤ 128 → said_format.Allowed (Answer input answer)
unfolding said_format answered_format
answer_allowed input answer long short = ((omega arith, omega arith), (long, ((omega arith, omega (arith, short)), refl)))
