-- What is seen of a board that simulates a device.
use Rattle.std.specs.Prelude.{ℕ, List, [], Bool, Result}
use Rattle.mb_model.specs.outside.Board.{Memory, Ledger}
use Rattle.mb_board.specs.Calls.{power_of, level_of}
use Rattle.mb_board.specs.Cuts.{Armed, fuse_after}

-- a memory of a board: its bytes, and what they were when they were last kept
pub record BankContents : Type 0 where
  pub bytes : List ℕ
  pub standing : List ℕ

-- a memory whose bytes were just kept
abbrev pub just_kept : List ℕ → BankContents
just_kept bytes = record { bytes = bytes; standing = bytes }

-- what is seen of a board: its power, the level of its ratchet, its memory, its events, and when power will fail
pub record BoardShown : Type 0 where
  pub power : Bool
  pub level : ℕ
  pub memory : Memory
  pub ledger : Ledger
  pub fuse : Armed

-- what is seen of a board besides its power and its level
pub record Rest : Type 0 where
  pub memory : Memory
  pub ledger : Ledger
  pub fuse : Armed

abbrev pub rest_of : BoardShown → Rest
rest_of board = record { memory = board.memory; ledger = board.ledger; fuse = board.fuse }

-- both memories are empty
abbrev pub unloaded : Memory
unloaded = record { flash = []; bbram = [] }

-- The board after a write call with this result that left this memory: its events and answers stay.
abbrev pub board_after : {A E : Type 0} → Result A E → Memory → BoardShown → BoardShown
board_after result memory board = record board {
  power = power_of result;
  level = level_of result board.level;
  memory = memory;
  fuse = fuse_after result board.fuse;
}
