-- Laws of the texts that are signed. Can a signature on one thing pass for a signature on another?
use Rattle.std.specs.Prelude.{◌≡◌, ◌≢◌, ℕ, ◌<◌, List, [], ◌∷◌, length}
use Rattle.std.specs.Int.{w32}
use Rattle.mb_format.specs.Format.{IsBytes}
use Rattle.mb_format.specs.Combinators.{limit}
use Rattle.mb_model.specs.declared.separators.TheConstants.{ORDER_TEXT, COUNTERSIGNED_TEXT, ENTRY_TEXT}
use Rattle.mb_model.specs.declared.separators.TheConstants.{STATEMENT_TEXT, CALL_TEXT}
use Rattle.mb_model.specs.declared.key.PublicKey.{PublicKey}
use Rattle.mb_model.specs.declared.entry.Entry.{Entry}
use Rattle.mb_model.specs.signatures.Key.{key_bytes}
use Rattle.mb_model.specs.records.EntryFormat.{entry_format}
use Rattle.mb_model.specs.records.OrderFormat.{Body, body_format}
use Rattle.mb_model.specs.machine.SignedTexts.{order_text, countersigned_text, entry_text, statement_text, call_text}

-- What is signed: by the owner in charge, all of an order but its signatures; the same for the layer of a
-- countersignature; an entry of a log; a message, with the serial of the device, the number of the region's key and the
-- configuration number; with these, the hash of a call's input and the answer.
pub data Signable : Type 0 where
  of_order : Body → Signable
  of_countersignature : ℕ → Body → Signable
  of_entry : Entry → Signable
  of_statement : List ℕ → ℕ → ℕ → List ℕ → Signable
  of_call : List ℕ → ℕ → ℕ → List ℕ → List ℕ → Signable

-- the text that is signed for it
abbrev pub signed_text : Signable → List ℕ
signed_text (of_order body) = order_text (body_format.spelling body)
signed_text (of_countersignature layer body) = countersigned_text layer (body_format.spelling body)
signed_text (of_entry its) = entry_text its
signed_text (of_statement serial key_number number message) = statement_text serial key_number number message
signed_text (of_call serial key_number number input answer) = call_text serial key_number number input answer

-- what is in it can be spelled, in bytes; any message will do, and any answer
abbrev pub IsSpelled : Signable → Type 0
IsSpelled (of_order body) = body_format.Allowed body × IsBytes (body_format.spelling body)
IsSpelled (of_countersignature layer body) = body_format.Allowed body × IsBytes (body_format.spelling body)
IsSpelled (of_entry its) = entry_format.Allowed its × IsBytes (entry_format.spelling its)
IsSpelled (of_statement serial key_number number message) =
    (length serial ≡ 16) × (key_number < limit w32) × (number < limit w32)
IsSpelled (of_call serial key_number number input answer) =
    (length serial ≡ 16) × (key_number < limit w32) × (number < limit w32) × (length input ≡ 32)

-- No text is signed for two things.
abbrev pub TextsAreApart : Type 0
TextsAreApart =
    (this that : Signable) → IsSpelled this → IsSpelled that → signed_text this ≡ signed_text that → this ≡ that

-- the domain separator of what is signed
abbrev pub separator_of : Signable → ℕ
separator_of (of_order body) = ORDER_TEXT
separator_of (of_countersignature layer body) = COUNTERSIGNED_TEXT
separator_of (of_entry its) = ENTRY_TEXT
separator_of (of_statement serial key_number number message) = STATEMENT_TEXT
separator_of (of_call serial key_number number input answer) = CALL_TEXT

-- A text begins with a byte that tells what kind of thing is signed, and that is not 0.
abbrev pub TextsBeginWithTheirByte : Type 0
TextsBeginWithTheirByte =
    (this : Signable) → (0 < separator_of this) × ((rest : List ℕ) × (signed_text this ≡ separator_of this ∷ rest))

-- No text is a public key, which begins with a byte 0.
abbrev pub KeysAreNoTexts : Type 0
KeysAreNoTexts = (this : Signable) (key : PublicKey) → signed_text this ≢ key_bytes key

-- Two messages have one text if serials may have any length.
abbrev pub SerialsHaveToBeSized : Type 0
SerialsHaveToBeSized =
    (signed_text (of_statement (0 ∷ []) 0 0 []) ≡ signed_text (of_statement [] 0 0 (0 ∷ [])))
    × (of_statement (0 ∷ []) 0 0 [] ≢ of_statement [] 0 0 (0 ∷ []))

-- Two calls have one text if hashes of inputs may have any length.
abbrev pub HashesHaveToBeSized : Type 0
HashesHaveToBeSized =
    (serial : List ℕ)
    → (signed_text (of_call serial 0 0 (0 ∷ []) []) ≡ signed_text (of_call serial 0 0 [] (0 ∷ [])))
    × (of_call serial 0 0 (0 ∷ []) [] ≢ of_call serial 0 0 [] (0 ∷ []))

-- Two keys sign one text if their numbers may have more than 32 bits.
abbrev pub NumbersHaveToBeInRange : Type 0
NumbersHaveToBeInRange =
    (serial message : List ℕ)
    → (signed_text (of_statement serial (limit w32) 0 message) ≡ signed_text (of_statement serial 0 0 message))
    × (of_statement serial (limit w32) 0 message ≢ of_statement serial 0 0 message)
