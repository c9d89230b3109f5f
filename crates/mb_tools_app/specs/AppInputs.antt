-- The inputs of the commands on the code of applications: what an application reads, an assembler text, and a code that
-- is listed. Is each input read in one way only?
use Rattle.std.specs.Prelude.{◌≡◌, ℕ, ◌<◌, ◌≤◌, ◌⊎◌, List, length, All}
use Rattle.mb_model.specs.declared.limits.TheConstants.{CODE_LIMIT}
use Rattle.mb_model_commands.specs.declared.role.Role.TheVariants as role
use Rattle.mb_model_commands.specs.declared.role.Place.{Place}
use Rattle.mb_model_commands.specs.declared.role.Place.TheVariants as fault
use Rattle.mb_model_commands.specs.Commands.{Input}
use Rattle.mb_model.specs.declared.instruction.Instruction.{Instruction}
use Rattle.mb_model.specs.application.Instructions.{instruction_format}
use Rattle.mb_appvm.specs.Assembly.{Assembles, AssemblyFailsAt}
use Rattle.mb_appvm.specs.Listing.{listing_bytes, LacksInstruction}

-- what an application reads: arbitrary bytes
abbrev pub app_input : List ℕ → Input (List ℕ)
app_input name = record {
  role = role.Input;
  name = name;
  Is = λ bytes whole. whole ≡ bytes;
  FaultyAt = λ bytes place. ⊥;
}

-- an assembler text, whose value is its code; it is at fault at the first line that is wrong
abbrev pub assembly_input : List ℕ → Input (List ℕ)
assembly_input name = record {
  role = role.Text;
  name = name;
  Is = Assembles;
  FaultyAt = λ bytes place. (n : ℕ) × (place ≡ fault.Line n) × AssemblyFailsAt bytes n;
}

-- the bytes are no longer than a code may be, and spell these instructions, one after another
pub record IsCodeOf (bytes : List ℕ) (listed : List Instruction) : Type 0 where
  pub short : length bytes ≤ CODE_LIMIT
  pub allowed : All instruction_format.Allowed listed
  pub whole : bytes ≡ listing_bytes listed

-- The bytes are no code that can be listed: they are longer than a code may be, or else no whole instruction stands at
-- the place.
abbrev pub ListingFailsAt : List ℕ → Place → Type 0
ListingFailsAt bytes place =
    ((CODE_LIMIT < length bytes) × (place ≡ fault.Length))
    ⊎ ((length bytes ≤ CODE_LIMIT) × ((offset : ℕ) × (place ≡ fault.At offset) × LacksInstruction bytes offset))

-- a code that is listed, whose value is its instructions
abbrev pub listing_input : List ℕ → Input (List Instruction)
listing_input name = record {
  role = role.Code;
  name = name;
  Is = IsCodeOf;
  FaultyAt = ListingFailsAt;
}
