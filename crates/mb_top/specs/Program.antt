-- What the program does with its command line: the two words that it answers by itself, and all other words. Are there
-- words for which nothing is said?
use Rattle.std.specs.Prelude.{◌≡◌, ℕ, List, [], ◌∷◌, codes}
use Rattle.mb_model_commands.specs.Commands.{Ended, PrintEnds, at_first}
use Rattle.mb_top.specs.Top.{Ends}
use Rattle.mb_console.specs.declared.end.End.{End}
use Rattle.mb_console.specs.declared.end.End.TheVariants as end
use Rattle.mb_top.specs.declared.command_line.NoWords.{NoWords}
use Rattle.mb_top.specs.declared.command_line.NoWords.TheVariants as no

-- How the program ends with these words, if its usage and its version are these texts.
pub data ProgramEnds (usage version : List ℕ) (words : List (List ℕ)) (e : Ended) : Type 0 where
  -- 0, or 5: it prints its usage
  helped : words ≡ codes "--help" ∷ [] → PrintEnds usage at_first e → ProgramEnds usage version words e
  -- 0, or 5: it prints its version
  versioned : words ≡ codes "--version" ∷ [] → PrintEnds version at_first e → ProgramEnds usage version words e
  -- all other words are those of a command, or of none
  commanded : (words ≡ codes "--help" ∷ [] → ⊥) → (words ≡ codes "--version" ∷ [] → ⊥) → Ends words e
      → ProgramEnds usage version words e

-- how the program ends if its words cannot be read: words that are not text are no command
abbrev pub end_without : NoWords → End
end_without no.NotText = end.Words
end_without no.NoMemory = end.NoMemory
