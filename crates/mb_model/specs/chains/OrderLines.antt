-- Orders and statements as texts of one line. Does a line carry exactly the bytes that were signed?
use Rattle.std.specs.Prelude.{◌≡◌, ℕ, List, [], ◌∷◌, codes}
use Rattle.mb_format.specs.Format.{Spells}
use Rattle.mb_model.specs.declared.order.Order.{Order}
use Rattle.mb_model.specs.declared.entry.Statement.{Statement}
use Rattle.mb_model.specs.outside.Texts.{IsHex}
use Rattle.mb_model.specs.chains.Lines.{spaced_words, hex_word}
use Rattle.mb_model.specs.chains.Script.{EndsInHex}
use Rattle.mb_model.specs.records.OrderFormat.{order_format}
use Rattle.mb_model.specs.records.ChainFormat.{statement_format}

-- There is one line, that of a command whose bytes spell the order. In any other text line 1 is wrong, or line 2 if
-- line 1 is that of an order and another line, even an empty one, follows. So nothing can be appended unseen.
pub record IsOrderLine (lines : List (List ℕ)) (order : Order) : Type 0 where
  pub line : List ℕ
  pub bytes : List ℕ
  pub one : lines ≡ line ∷ []
  pub worded : EndsInHex line (codes "command" ∷ []) bytes
  pub spelled : Spells order_format bytes order

-- the line that is written for an order
abbrev pub order_line : Order → List ℕ
order_line order = spaced_words (codes "command" ∷ hex_word (order_format.spelling order) ∷ [])

-- There is one line, whose bytes spell the statement. In any other text line 1 is wrong, or line 2 if line 1 is that of
-- a statement and another line, even an empty one, follows.
pub record IsStatementLine (lines : List (List ℕ)) (statement : Statement) : Type 0 where
  pub line : List ℕ
  pub bytes : List ℕ
  pub one : lines ≡ line ∷ []
  pub worded : IsHex line bytes
  pub spelled : Spells statement_format bytes statement
