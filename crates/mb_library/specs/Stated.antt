-- What is answered of the statement of a chain. Can a message that a host chose be taken for the answer of code?
use Rattle.std.specs.Prelude.{◌≡◌, ℕ, ◌<◌, ◌≤◌, List, ◌++◌, length, drop, replicate, Option, None, Some}
use Rattle.mb_model.specs.declared.limits.TheConstants.{FILE_LIMIT, MESSAGE_LIMIT}
use Rattle.mb_model.specs.declared.key.PublicKey.{PublicKey}
use Rattle.mb_model.specs.declared.entry.Said.{Said}
use Rattle.mb_model.specs.declared.entry.Said.TheVariants.{Message, Answer}
use Rattle.mb_model.specs.declared.state.Report.{Report}
use Rattle.mb_model.specs.chains.Acceptance.{Accepts, IsRefused, ChainRefusal, refusal_code}
use Rattle.mb_library.specs.declared.details.Details.{Details}
use Rattle.mb_library.specs.declared.stated.Stated.{Stated}
use Rattle.mb_library.specs.Details.{no_details, refusal_details}
use Rattle.mb_library.specs.Signatures.{SpellsKey, SpellsNoKey}

-- the bytes, and zeros up to 128
abbrev pub padded : List ℕ → List ℕ
padded bytes = bytes ++ drop (length bytes) (replicate 128 0)

abbrev pub no_statement : Stated
no_statement = record { kind = 0; length = 0; input = replicate 32 0; bytes = replicate 128 0 }

abbrev pub message_stated : List ℕ → Stated
message_stated message =
    record { kind = 1; length = length message; input = replicate 32 0; bytes = padded message }

abbrev pub answer_stated : List ℕ → List ℕ → Stated
answer_stated input answer = record { kind = 2; length = length answer; input = input; bytes = padded answer }

-- what is told of the statement of an accepted chain
abbrev pub stated_of : Option Said → Stated
stated_of None = no_statement
stated_of (Some (Message message)) = message_stated message
stated_of (Some (Answer input answer)) = answer_stated input answer

-- the message or the answer has at most 128 bytes, as that of a statement that is spelled
abbrev pub IsShortSaid : Option Said → Type 0
IsShortSaid None = Unit {0}
IsShortSaid (Some (Message message)) = length message ≤ MESSAGE_LIMIT
IsShortSaid (Some (Answer input answer)) = length answer ≤ MESSAGE_LIMIT

-- the end for a chain under a maker's key, asked for the key with this number
pub data SaidEnd (maker : PublicKey) (chain : List ℕ) (key_number : ℕ) (stated : Stated) (told : Details) (code : ℕ)
    : Type 0 where
  said_accepted : (report : Report) → Accepts maker chain key_number report → code ≡ 0 → told ≡ no_details
      → stated ≡ stated_of report.said
      → SaidEnd maker chain key_number stated told code
  said_not_accepted : (refusal : ChainRefusal) → code ≡ refusal_code refusal → told ≡ refusal_details refusal
      → IsRefused maker chain key_number refusal → stated ≡ no_statement
      → SaidEnd maker chain key_number stated told code
  said_without_memory : code ≡ 4 → told ≡ no_details → stated ≡ no_statement
      → SaidEnd maker chain key_number stated told code

-- the answer for the bytes of a maker's key and of a chain
pub data SaidAnswer (maker chain : List ℕ) (key_number : ℕ) (stated : Stated) (told : Details) (code : ℕ)
    : Type 0 where
  said_read : (key : PublicKey) → SpellsKey maker key → length chain ≤ FILE_LIMIT
      → SaidEnd key chain key_number stated told code
      → SaidAnswer maker chain key_number stated told code
  said_too_long : (key : PublicKey) → SpellsKey maker key → FILE_LIMIT < length chain → code ≡ 3
      → told ≡ no_details → stated ≡ no_statement
      → SaidAnswer maker chain key_number stated told code
  said_under_no_key : SpellsNoKey maker → code ≡ 1 → told ≡ no_details → stated ≡ no_statement
      → SaidAnswer maker chain key_number stated told code
