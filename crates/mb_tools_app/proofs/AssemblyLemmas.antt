-- What carries out `asm` and `disasm`.
use Rattle.std.proofs.Common.{◌≡◌, ◌≢◌, ℕ, ◌==◌, List, [], ◌∷◌, length, map, cond, All, count_by, Result, Err, refl, ◌∙◌, ap, subst, arith}
use Rattle.std.proofs.lemmas.List.{length-map}
use Rattle.std.proofs.lemmas.List.Elements.{All-head, All-tail}
use Rattle.std.proofs.lemmas.List.Concat.{flat_map-cons}
use Rattle.std.proofs.lemmas.List.Sums.{sum_by-cons, sum_by-append}
use Rattle.mb_model.specs.outside.Board.{not_used}
use Rattle.mb_model.specs.outside.Texts.{line_with_lf}
use Rattle.mb_model.specs.chains.Lines.{IsLine, text_of}
use Rattle.mb_model_commands.specs.declared.role.Role.TheVariants as role
use Rattle.mb_model_commands.specs.Outside.{Outside}
use Rattle.mb_model_commands.specs.Commands.{Output, print, at_first}
use Rattle.mb_console.specs.declared.end.End.{End}
use Rattle.mb_console.specs.declared.end.End.TheVariants as end
use Rattle.mb_console.specs.Ending.{CarriesOut, CarriesOutAfter}
use Rattle.mb_console.specs.Outputs.{writes}
use Rattle.mb_console.proofs.CommandLemmas.{memory_here}
use Rattle.mb_model.specs.declared.instruction.Instruction.{Instruction}
use Rattle.mb_model.specs.application.Instructions.{instruction_format}
use Rattle.mb_appvm.specs.Listing.{instruction_line}
use Rattle.mb_appvm.proofs.Listings.{are_lines}
use Rattle.mb_tools_app.specs.AssemblyCommands.{line_of_count, write_counted}

-- ---- the output

abbrev pub out_of : List ℕ → List ℕ → Output
out_of out bytes = record { role = role.Out; name = out; bytes = bytes }

pub counted : (out bytes word : List ℕ) (count : ℕ) (text : List ℕ) (before now : Outside) (result : Result (Unit {0}) End) → text ≡ line_with_lf (line_of_count word count)
    → CarriesOutAfter (writes (out_of out bytes ∷ []) (print text)) before result now → CarriesOut (write_counted out bytes word count) before result now
unfolding writes
counted out bytes word count text before now result is carried = λ final.
    (subst (λ t. CarriesOutAfter (writes (out_of out bytes ∷ []) (print t)) before result now) is carried) at_first final

pub counted_lacks : (out bytes word : List ℕ) (count : ℕ) (before : Outside) → CarriesOut (write_counted out bytes word count) before (Err end.NoMemory) before
counted_lacks out bytes word count before = λ final. memory_here (out_of out bytes) _ at_first not_used final before refl refl

-- ---- the lines of a text

abbrev is_lf : ℕ → ℕ
is_lf byte = cond (byte == 10) 1 0

no_lf : (byte : ℕ) → byte ≢ 10 → is_lf byte ≡ 0
no_lf byte other = grind (arith, other)

none_in_line : (line : List ℕ) → IsLine line → count_by (λ byte. byte == 10) line ≡ 0
none_in_line [] is = refl
none_in_line (byte ∷ line) is =
    omega (arith, sum_by-cons is_lf byte line, no_lf byte (All-head (λ (b : ℕ). b ≢ 10) byte line is), none_in_line line (All-tail (λ (b : ℕ). b ≢ 10) byte line is))

one_in_ended : (line : List ℕ) → IsLine line → count_by (λ byte. byte == 10) (line_with_lf line) ≡ 1
one_in_ended line is = omega (arith, sum_by-append is_lf line (10 ∷ []), none_in_line line is, sum_by-cons is_lf 10 [])

lines_counted : (lines : List (List ℕ)) → All IsLine lines → count_by (λ byte. byte == 10) (text_of lines) ≡ length lines
lines_counted [] are = refl
lines_counted (line ∷ lines) are =
    omega (arith, ap (count_by (λ (byte : ℕ). byte == 10)) (flat_map-cons line_with_lf line lines), sum_by-append is_lf (line_with_lf line) (text_of lines), one_in_ended line (All-head IsLine line lines are), lines_counted lines (All-tail IsLine line lines are))

-- a listing has a line for each instruction
pub listing_counted : (text : List ℕ) (listed : List Instruction) (count : ℕ) → All instruction_format.Allowed listed → text ≡ text_of (map instruction_line listed)
    → count ≡ count_by (λ byte. byte == 10) text → count ≡ length listed
listing_counted text listed count allowed is counts =
    counts ∙ ap (count_by (λ (byte : ℕ). byte == 10)) is ∙ lines_counted (map instruction_line listed) (are_lines listed allowed) ∙ length-map listed instruction_line
