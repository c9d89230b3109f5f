-- How a statement and a chain of certificates are spelled. What does a device hand out?
use Rattle.std.specs.Prelude.{ℕ, ◌==◌, List, [], ◌∷◌, length, Option, None, Some}
use Rattle.std.specs.Int.{w8, w16, w32}
use Rattle.mb_format.specs.Format.{Format}
use Rattle.mb_format.specs.Combinators.{number, between, raw, mark, either, optional, pair, led, as_value, as_record}
use Rattle.mb_format.specs.Combinators.{then_value, sized, counted}
use Rattle.mb_model.specs.declared.limits.TheConstants.{MESSAGE_LIMIT, CALL_MARK, ENTRY_LIMIT}
use Rattle.mb_model.specs.declared.entry.Statement.{Statement}
use Rattle.mb_model.specs.declared.entry.Chain.{Chain}
use Rattle.mb_model.specs.declared.entry.Said.{Said}
use Rattle.mb_model.specs.declared.entry.Said.TheVariants.{Message, Answer}
use Rattle.mb_model.specs.records.EntryFormat.{signature_format, signed_entry_format}

-- what stands before what is said: the length of a message, or `CALL_MARK`
abbrev pub said_byte : Said → ℕ
said_byte (Message message) = length message
said_byte (Answer input answer) = CALL_MARK

abbrev pub asked_in : Said → Option (List ℕ)
asked_in (Message message) = Some message
asked_in (Answer input answer) = None

abbrev pub answered_in : Said → Option (List ℕ × List ℕ)
answered_in (Message message) = None
answered_in (Answer input answer) = Some (input, answer)

-- an answer: the hash of the input, and the answer after its length
unfoldable pub answered_format : Format Said
answered_format =
    as_value (pair (raw 32) (sized (between w8 0 MESSAGE_LIMIT))) (λ (input, answer). Answer input answer) answered_in

unfoldable pub asked_format : ℕ → Format Said
asked_format size = as_value (raw size) Message asked_in

-- a message after its length, or an answer after `CALL_MARK`
unfoldable pub said_format : Format Said
said_format =
    led (between w8 0 CALL_MARK) said_byte (λ size. either (size == CALL_MARK) answered_format (asked_format size))

-- a statement: the configuration number, what is said, the signature
unfoldable pub statement_format : Format Statement
statement_format = as_record (pair (number w32) (pair said_format signature_format))
    (λ (number, (said, signature)). record { number = number; said = said; signature = signature })
    (λ statement. (statement.number, (statement.said, statement.signature)))

-- the word that a chain begins with: MBC1
abbrev pub chain_word : List ℕ
chain_word = 0x4D ∷ 0x42 ∷ 0x43 ∷ 0x31 ∷ []

-- a chain: its word, 1 to 128 entries with their signatures, and maybe a statement
unfoldable pub chain_format : Format Chain
chain_format = then_value (mark chain_word) (as_record
    (pair (counted (between w16 1 ENTRY_LIMIT) signed_entry_format) (optional statement_format))
    (λ (entries, statement). record { entries = entries; statement = statement })
    (λ chain. (chain.entries, chain.statement)))
