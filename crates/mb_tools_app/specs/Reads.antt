-- A code that was read to be listed, and its text. Is the text that of the code's instructions?
use Rattle.std.specs.Prelude.{◌≡◌, ℕ, List, map}
use Rattle.mb_model.specs.chains.Lines.{text_of}
use Rattle.mb_model_commands.specs.Outside.{Outside}
use Rattle.mb_console.specs.Ending.{HasInput}
use Rattle.mb_model.specs.declared.instruction.Instruction.{Instruction}
use Rattle.mb_appvm.specs.Listing.{instruction_line}
use Rattle.mb_assembler.specs.Labelled.{labelled_text}
use Rattle.mb_tools_app.specs.AppInputs.{listing_input}

-- the code was read, and the text has the line of each of its instructions
pub record HasListing (name : List ℕ) (before now : Outside) (text : List ℕ) : Type 0 where
  pub listed : List Instruction
  pub read : HasInput (listing_input name) before now listed
  pub written : text ≡ text_of (map instruction_line listed)

-- the code was read, and the text is that of its instructions with labels and places
pub record HasLabelledListing (name : List ℕ) (before now : Outside) (text : List ℕ) : Type 0 where
  pub listed : List Instruction
  pub read : HasInput (listing_input name) before now listed
  pub written : text ≡ labelled_text listed
