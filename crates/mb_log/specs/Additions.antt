-- When entries can be added. Does the log have room for them, and are the counts of the device in their ranges?
use Rattle.std.specs.Prelude.{◌≤◌}
use Rattle.mb_model.specs.declared.limits.TheConstants.{LAST_INDEX, ENTRY_LIMIT}
use Rattle.mb_model.specs.declared.state.View.{View}
use Rattle.mb_model.specs.declared.state.Fact.{Fact}
use Rattle.mb_model.specs.machine.OrderChecks.{HasRoomWith}
use Rattle.mb_model.specs.machine.OrderEffects.{names_next}

-- the log has room for the entries of the fact
abbrev pub HasRoomFor : View → Fact → Type 0
HasRoomFor view fact = HasRoomWith view (names_next fact)

-- the device key has an index left, and the other counts are those of a log that fits
pub record IsInRange (view : View) : Type 0 where
  pub uses : view.uses ≤ LAST_INDEX
  pub number : view.number ≤ ENTRY_LIMIT
  pub keys_made : view.keys_made ≤ ENTRY_LIMIT
