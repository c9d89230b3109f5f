-- A statement of a message has the bytes that it had before there were calls.
use Rattle.std.proofs.Common.{◌≡◌, ◌≤◌, ℕ, ◌%◌, List, ◌∷◌, ◌++◌, length, Bool, true, false, refl, sym, ap, ◌∙◌, arith}
use Rattle.std.specs.Prelude.{◌==◌}
use Rattle.std.specs.Int.{w8, w32, to_be_bytes}
use Rattle.mb_format.specs.Combinators.{either, number_bytes}
use Rattle.mb_model.specs.declared.entry.Said.TheVariants.{Message}
use Rattle.mb_model.specs.records.ChainFormat.{answered_format, asked_format, said_format, statement_format}
use Rattle.mb_model.proofs.KeyLemmas.{same_parts}
use Rattle.mb_model_lemmas.proofs.AttachLemmas.{statement_allowed}
use Rattle.mb_model_lemmas.proofs.LineLemmas.{cons_same}
use Rattle.mb_call_histories.specs.AcceptedCallLaws.{plain_format, StatementsKeepTheirBytes, CallsHaveOtherBytes}

few : (size : ℕ) → size ≤ 128 → (size == 129) ≡ false
few size short = grind (arith, short)

after_length : (size : ℕ) (b : Bool) → b ≡ false → (message : List ℕ) → (either b answered_format (asked_format size)).spelling (Message message) ≡ message
unfolding asked_format
after_length size true is message = absurd (grind (arith, is))
after_length size false is message = refl

-- the spellings are one
same_spelling : (number : ℕ) (message signature : List ℕ) → length message ≤ 128
    → statement_format.spelling (record { number = number; said = Message message; signature = signature }) ≡ plain_format.spelling (number, (message, signature))
unfolding statement_format said_format
same_spelling number message signature short =
    ap (λ (m : List ℕ). number_bytes w32 number ++ ((number_bytes w8 (length message) ++ m) ++ signature)) (after_length (length message) (length message == 129) (few (length message) short) message)

-- a message has at most 128 bytes
no_mark : (size : ℕ) (b : Bool) → (size == 129) ≡ b → size ≤ 129 → (message : List ℕ) → (either b answered_format (asked_format size)).Allowed (Message message) → size ≤ 128
unfolding answered_format
no_mark size true is most message allowed = absurd allowed
no_mark size false is most message allowed = grind (arith, is, most)

message_short : (message : List ℕ) → said_format.Allowed (Message message) → length message ≤ 128
unfolding said_format
message_short message allowed = no_mark (length message) (length message == 129) refl allowed.0.1 message allowed.1

pub statements_keep_their_bytes : StatementsKeepTheirBytes
unfolding statement_format
statements_keep_their_bytes bytes message signature number = (
  λ plain. record {
    allowed = statement_allowed number message signature plain.allowed.0 plain.allowed.1.0.0.1 plain.allowed.1.1;
    whole = plain.whole ∙ sym (same_spelling number message signature plain.allowed.1.0.0.1);
  },
  λ spelled.
      let short : length message ≤ 128 = message_short message spelled.allowed.1.0 in
      record {
        allowed = (spelled.allowed.0, (((omega arith, short), refl), spelled.allowed.1.1));
        whole = spelled.whole ∙ same_spelling number message signature short;
      },
)

pub calls_have_other_bytes : CallsHaveOtherBytes
unfolding statement_format said_format answered_format number_bytes
calls_have_other_bytes bytes message signature hash answer mark number other_number plain spelled =
    let short : length message ≤ 128 = plain.allowed.1.0.0.1 in
    let rest : List ℕ = hash ++ (to_be_bytes w8 (length answer) ++ answer) in
    let same : to_be_bytes w32 number ++ (length message % 256 ∷ (message ++ signature)) ≡ to_be_bytes w32 other_number ++ (129 ∷ (rest ++ mark)) = sym plain.whole ∙ spelled.whole in
    let sizes = (same_parts (to_be_bytes w32 number) (to_be_bytes w32 other_number) (length message % 256 ∷ (message ++ signature)) (129 ∷ (rest ++ mark)) refl same).1 in
    let first : length message % 256 ≡ 129 = (cons_same (length message % 256) 129 (message ++ signature) (rest ++ mark) sizes).0 in
    omega (arith, first, short)
