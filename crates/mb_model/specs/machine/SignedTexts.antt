-- The texts that are signed. Can a signature on one thing pass for a signature on another?
use Rattle.std.specs.Prelude.{ℕ, List, ◌∷◌, ◌++◌, Option, IsSomeAnd}
use Rattle.std.specs.Int.{w32, to_be_bytes}
use Rattle.mb_model.specs.declared.separators.TheConstants.{ORDER_TEXT, COUNTERSIGNED_TEXT, ENTRY_TEXT}
use Rattle.mb_model.specs.declared.separators.TheConstants.{STATEMENT_TEXT, CALL_TEXT}
use Rattle.mb_model.specs.declared.key.PublicKey.{PublicKey}
use Rattle.mb_model.specs.declared.entry.Entry.{Entry}
use Rattle.mb_model.specs.declared.entry.Said.{Said}
use Rattle.mb_model.specs.declared.entry.Said.TheVariants.{Message, Answer}
use Rattle.mb_model.specs.records.EntryFormat.{entry_format}
use Rattle.mb_model.specs.signatures.Merkle.{Verifies}

-- what the owner in charge signs of an order: a domain separator and the body, the part before the signatures
unfoldable pub order_text : List ℕ → List ℕ
order_text body = ORDER_TEXT ∷ body

-- what the owner of a layer above signs of an order: a domain separator, the number of that layer, and the body
unfoldable pub countersigned_text : ℕ → List ℕ → List ℕ
countersigned_text cosigner body = COUNTERSIGNED_TEXT ∷ cosigner ∷ body

-- what a device key, or the maker's key, signs of a log entry
unfoldable pub entry_text : Entry → List ℕ
entry_text entry = ENTRY_TEXT ∷ entry_format.spelling entry

-- what the key of a region with this number signs of a message, in the device with this serial and at this
-- configuration number
unfoldable pub statement_text : List ℕ → ℕ → ℕ → List ℕ → List ℕ
statement_text serial key_number number message =
    STATEMENT_TEXT ∷ serial ++ to_be_bytes w32 key_number ++ to_be_bytes w32 number ++ message

-- what it signs for a call: the hash of the input, and the answer of the code
unfoldable pub call_text : List ℕ → ℕ → ℕ → List ℕ → List ℕ → List ℕ
call_text serial key_number number input_hash answer =
    CALL_TEXT ∷ serial ++ to_be_bytes w32 key_number ++ to_be_bytes w32 number ++ input_hash ++ answer

-- the text of what a statement says
abbrev pub said_text : List ℕ → ℕ → ℕ → Said → List ℕ
said_text serial key_number number (Message message) = statement_text serial key_number number message
said_text serial key_number number (Answer input answer) = call_text serial key_number number input answer

-- there is a key, and the signature is one of the text under it
abbrev pub IsSignedBy : Option PublicKey → List ℕ → List ℕ → Type 0
IsSignedBy key text signature = IsSomeAnd key (λ owner. Verifies owner text signature)
