-- The text of a statement in parts. Does each kind of statement have a text of its own?
use Rattle.std.specs.Prelude.{ℕ, List, ◌++◌}
use Rattle.mb_model.specs.declared.separators.TheConstants.{STATEMENT_TEXT, CALL_TEXT}
use Rattle.mb_model.specs.declared.entry.Said.{Said}
use Rattle.mb_model.specs.declared.entry.Said.TheVariants.{Message, Answer}

-- the first byte of the text
abbrev pub said_separator : Said → ℕ
said_separator (Message message) = STATEMENT_TEXT
said_separator (Answer input answer) = CALL_TEXT

-- its end, after the configuration number
abbrev pub said_bytes : Said → List ℕ
said_bytes (Message message) = message
said_bytes (Answer input answer) = input ++ answer
