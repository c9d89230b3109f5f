-- What a device is about to write. Do the calls that only need working space leave it as it is?
use Rattle.std.specs.Prelude.{◌≡◌}
use Rattle.mb_layout.specs.declared.room.Room.{Room}

-- what is written next stays: code with its layer, header, and sector of the log
pub record SamePlans (before after : Room) : Type 0 where
  pub code : after.code ≡ before.code
  pub code_layer : after.code_layer ≡ before.code_layer
  pub header : after.header ≡ before.header
  pub log : after.log ≡ before.log

-- all that is written next stays, but for the header
pub record SameBesidesHeader (before after : Room) : Type 0 where
  pub code : after.code ≡ before.code
  pub code_layer : after.code_layer ≡ before.code_layer
  pub log : after.log ≡ before.log

-- all that is written next stays, but for the sector of the log
pub record SameBesidesLog (before after : Room) : Type 0 where
  pub code : after.code ≡ before.code
  pub code_layer : after.code_layer ≡ before.code_layer
  pub header : after.header ≡ before.header
