-- The inputs of commands: which value the bytes of each mean, and at which place they are at fault. Is each input read
-- in one way only?
use Rattle.std.specs.Prelude.{◌≡◌, ℕ, ◌<◌, ◌≤◌, List, length, take, Option}
use Rattle.mb_format.specs.Format.{Format, IsBytes, Spells, FailsWhole}
use Rattle.mb_model.specs.declared.limits.TheConstants.{DRAW_LENGTH, CODE_LIMIT}
use Rattle.mb_model.specs.declared.key.PublicKey.{PublicKey}
use Rattle.mb_model.specs.declared.entry.Chain.{Chain}
use Rattle.mb_model.specs.declared.entry.Statement.{Statement}
use Rattle.mb_model.specs.declared.event.Event.{Event}
use Rattle.mb_model.specs.declared.state.State.{State}
use Rattle.mb_model.specs.declared.order.Order.{Order}
use Rattle.mb_model.specs.declared.tools.Keyfile.{Keyfile}
use Rattle.mb_model.specs.records.KeyFormat.{public_key_format, keyfile_format}
use Rattle.mb_model.specs.chains.Lines.{ReadsLines, TextFailsAtLine}
use Rattle.mb_model.specs.chains.Drafts.{IsDraft}
use Rattle.mb_model.specs.chains.OrderLines.{IsOrderLine, IsStatementLine}
use Rattle.mb_model.specs.records.ChainFormat.{chain_format}
use Rattle.mb_model.specs.chains.Script.{IsScript, IsShortNoise, Drawn}
use Rattle.mb_model.specs.memories.Meaning.{IsWellFormed}
use Rattle.mb_model.specs.memories.Faults.{Fault, HasFault, bad_length, bad_root, bad_public, bad_region_two}
use Rattle.mb_model.specs.memories.Faults.{bad_region_three, bad_state}
use Rattle.mb_model_commands.specs.declared.role.Role.{Role}
use Rattle.mb_model_commands.specs.declared.role.Role.TheVariants as role
use Rattle.mb_model_commands.specs.declared.role.Place.{Place}
use Rattle.mb_model_commands.specs.declared.role.Place.TheVariants as fault
use Rattle.mb_model_commands.specs.Commands.{Input}

-- No bytes both mean a value and are at fault, so an input at fault ends its command.
abbrev pub IsClearInput : {A : Type 0} → Input A → Type 0
IsClearInput {A} input =
    (bytes : List ℕ) (value : A) (place : Place) → IsBytes bytes
    → input.Is bytes value → input.FaultyAt bytes place → ⊥

-- ---- kinds of inputs

-- A file that spells a value. It is at fault at the offset of the first field that is not allowed, or after the last
-- field.
abbrev pub binary_input : {A : Type 0} → Role → Format A → List ℕ → Input A
binary_input role format name = record {
  role = role;
  name = name;
  Is = Spells format;
  FaultyAt = λ bytes place. (offset : ℕ) × (place ≡ fault.At offset) × FailsWhole format bytes offset;
}

-- a text whose lines follow a grammar; it is at fault at the first line that is wrong
abbrev pub text_input : {A : Type 0} → Role → (List (List ℕ) → A → Type 0) → List ℕ → Input A
text_input role Grammar name = record {
  role = role;
  name = name;
  Is = ReadsLines Grammar;
  FaultyAt = λ bytes place. (line : ℕ) × (place ≡ fault.Line line) × TextFailsAtLine Grammar bytes line;
}

-- arbitrary bytes; the first `count` are used, and have to be there
abbrev pub leading_input : Role → ℕ → List ℕ → Input (List ℕ)
leading_input role count name = record {
  role = role;
  name = name;
  Is = λ bytes leading. (count ≤ length bytes) × (leading ≡ take count bytes);
  FaultyAt = λ bytes place. (length bytes < count) × (place ≡ fault.Length);
}

-- arbitrary bytes, at most `most` of them
abbrev pub bounded_input : Role → ℕ → List ℕ → Input (List ℕ)
bounded_input role most name = record {
  role = role;
  name = name;
  Is = λ bytes whole. (length bytes ≤ most) × (whole ≡ bytes);
  FaultyAt = λ bytes place. (most < length bytes) × (place ≡ fault.Length);
}

-- ---- the inputs

-- the noise that an officer's key is derived from
abbrev pub key_noise_input : List ℕ → Input (List ℕ)
key_noise_input name = leading_input role.Noise DRAW_LENGTH name

-- the file of an officer's key
abbrev pub key_input : List ℕ → Input Keyfile
key_input name = binary_input role.Key keyfile_format name

-- the noise that gives a device its first key and its serial
abbrev pub birth_noise_input : List ℕ → Input (List ℕ)
birth_noise_input name = leading_input role.Noise 48 name

-- the public key of an owner
abbrev pub owner_input : List ℕ → Input PublicKey
owner_input name = binary_input role.Owner public_key_format name

-- the code of a layer
abbrev pub code_input : List ℕ → Input (List ℕ)
code_input name = bounded_input role.Code CODE_LIMIT name

-- the draft of an order
abbrev pub draft_input : List ℕ → Input Order
draft_input name = text_input role.Draft IsDraft name

-- a signed order, as a line
abbrev pub order_input : List ℕ → Input Order
order_input name = text_input role.Order IsOrderLine name

-- the place where an image has a fault
abbrev pub fault_place : Fault → Place
fault_place bad_length = fault.Length
fault_place bad_root = fault.Root
fault_place bad_public = fault.Public
fault_place bad_region_two = fault.Region 2
fault_place bad_region_three = fault.Region 3
fault_place bad_state = fault.State

-- an image, and the state of a device that its bytes mean
pub record Image : Type 0 where
  pub bytes : List ℕ
  pub state : Option State

-- the image of a device
abbrev pub image_input : List ℕ → Input Image
image_input name = record {
  role = role.Image;
  name = name;
  Is = λ bytes image. (image.bytes ≡ bytes) × IsWellFormed bytes image.state;
  FaultyAt = λ bytes place. (faulty : Fault) × (place ≡ fault_place faulty) × HasFault bytes faulty;
}

-- a script; its text means a list of events
abbrev pub script_input : List ℕ → Input (List Event)
script_input name = text_input role.Script IsScript name

-- the public key of a device's maker
abbrev pub root_input : List ℕ → Input PublicKey
root_input name = binary_input role.Root public_key_format name

-- a chain of certificates
abbrev pub chain_input : List ℕ → Input Chain
chain_input name = binary_input role.Chain chain_format name

-- The bytes of a chain to verify; the verifier says whether they spell one. Whoever verifies asks about bytes that
-- someone hands over: whatever they are, the answer is a verdict. A file that is too long is not read to its end.
abbrev pub chain_bytes_input : List ℕ → Input (List ℕ)
chain_bytes_input name = record {
  role = role.Chain;
  name = name;
  Is = λ bytes whole. whole ≡ bytes;
  FaultyAt = λ bytes place. ⊥;
}

-- a statement by a region's key, as a line
abbrev pub statement_input : List ℕ → Input Statement
statement_input name = text_input role.Statement IsStatementLine name

-- the noise that gives the commands among the events their draws
abbrev pub draws_input : List Event → List ℕ → Input (List Event)
draws_input events name = record {
  role = role.Noise;
  name = name;
  Is = Drawn events;
  FaultyAt = λ bytes place. (place ≡ fault.Length) × IsShortNoise events bytes;
}
