-- The bounds that every chain with a spelling keeps. Do its lengths and counts fit into their fields?
use Rattle.std.specs.Prelude.{◌≡◌, ◌<◌, length, Some}
use Rattle.mb_model.specs.declared.limits.TheConstants.{CALL_MARK}
use Rattle.mb_model.specs.declared.entry.Said.{Said}
use Rattle.mb_model.specs.declared.entry.Said.TheVariants.{Message, Answer}
use Rattle.mb_model.specs.declared.entry.Statement.{Statement}
use Rattle.mb_model.specs.declared.entry.Chain.{Chain}

-- a message has at most 128 bytes, so that its length is not taken for `CALL_MARK`; an answer at most 255
abbrev pub SaidFits : Said → Type 0
SaidFits (Message message) = length message < CALL_MARK
SaidFits (Answer input answer) = length answer < 256

abbrev pub StatementFits : Statement → Type 0
StatementFits statement = SaidFits statement.said

-- at most 65,535 entries, and a statement that fits
pub record ChainFits (chain : Chain) : Type 0 where
  pub entries : length chain.entries < 65536
  pub statement : (statement : Statement) → chain.statement ≡ Some statement → StatementFits statement
