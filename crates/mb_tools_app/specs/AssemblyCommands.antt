-- What the commands `asm` and `disasm` do. Is the code that of the text, and the text that of the code?
use Rattle.std.specs.Prelude.{ℕ, List, [], ◌∷◌, length, map, codes}
use Rattle.std.specs.Fmt.{decimal}
use Rattle.mb_model.specs.outside.Texts.{line_with_lf}
use Rattle.mb_model.specs.chains.Lines.{spaced_words, text_of}
use Rattle.mb_model_commands.specs.declared.role.Role.TheVariants as role
use Rattle.mb_model_commands.specs.Commands.{Command, read, write, print}
use Rattle.mb_appvm.specs.Listing.{instruction_line}
use Rattle.mb_tools_app.specs.AppInputs.{assembly_input, listing_input}

-- the names of the files of `asm`
pub record AsmNames : Type 0 where
  pub text : List ℕ
  pub out : List ℕ

-- the names of the files of `disasm`
pub record DisasmNames : Type 0 where
  pub code : List ℕ
  pub out : List ℕ

-- the line of a word and a count
abbrev pub line_of_count : List ℕ → ℕ → List ℕ
line_of_count word count = spaced_words (word ∷ decimal count ∷ [])

-- the bytes are written, and a count is printed
abbrev pub write_counted : List ℕ → List ℕ → List ℕ → ℕ → Command
write_counted out bytes word count =
    write (record { role = role.Out; name = out; bytes = bytes }) (print (line_with_lf (line_of_count word count)))

-- the text is read and assembled, its code is written, and the number of its bytes is printed
unfoldable pub asm : AsmNames → Command
asm names =
    read (assembly_input names.text) (λ code.
    write_counted names.out code (codes "bytes") (length code))

-- The code is read, the line of each of its instructions is written, and the number of these lines is printed. What is
-- read stands for instructions, and not for a text, so that the output and the number of its lines are said of one
-- list. The code keeps only their text, so it reads this input by a function of its own.
unfoldable pub disasm : DisasmNames → Command
disasm names =
    read (listing_input names.code) (λ listed.
    write_counted names.out (text_of (map instruction_line listed)) (codes "lines") (length listed))
