-- What holds of the fields of a board that simulates a device.
use Rattle.std.specs.Prelude.{◌≡◌, ◌+◌, ◌≤◌, length, option_to_list, vec_capacity, All}
use Rattle.mb_model.specs.declared.limits.TheConstants.{EVENT_LIMIT}
use Rattle.mb_model.specs.chains.Script.{IsScriptEvent}
use Rattle.mb_board.specs.declared.sim.SimBoard.TheInside.{Inside}

pub record IsSoundBoard (board : Inside) : Type 0 where
  -- the copies are those of the events that wait
  pub copies : board.copies.items ≡ board.waiting.items
  pub count : length board.waiting.items ≤ EVENT_LIMIT
  pub events : All IsScriptEvent board.waiting.items
  -- the list of answers has room for the event that is out and for those that wait
  pub room : length board.answered.items + length (option_to_list board.out) + length board.waiting.items
      ≤ vec_capacity board.answered
