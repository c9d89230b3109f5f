-- What the command `showcode` does. Is what is printed the listing, with labels and places, of the code that was read?
use Rattle.std.specs.Prelude.{ℕ, List}
use Rattle.mb_model_commands.specs.Commands.{Command, read, print}
use Rattle.mb_assembler.specs.Labelled.{labelled_text}
use Rattle.mb_tools_app.specs.AppInputs.{listing_input}

-- the name of the file of `showcode`
pub record ShowcodeNames : Type 0 where
  pub code : List ℕ

-- The code is read, and the text of its instructions, with labels and places, is printed. The input is that of
-- `disasm`: what is read stands for instructions.
unfoldable pub showcode : ShowcodeNames → Command
showcode names = read (listing_input names.code) (λ listed. print (labelled_text listed))
