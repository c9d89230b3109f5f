-- How single events are answered. Does an answer report everything that was written?
use Rattle.std.specs.Prelude.{◌≡◌, false, Result, Ok, Err}
use Rattle.mb_model.specs.declared.event.Event.{Event}
use Rattle.mb_model.specs.declared.event.Event.TheVariants as event
use Rattle.mb_model.specs.declared.reply.Reply.{Reply}
use Rattle.mb_model.specs.declared.reply.Reply.TheVariants as reply
use Rattle.mb_model.specs.owners.Layers.{layer_standing}
use Rattle.mb_model.specs.outside.Board.{Memory, Meter}
use Rattle.mb_model.specs.machine.Machine.{may_have_written}
use Rattle.mb_device_orders.specs.declared.remembering.Known.{Known}
use Rattle.mb_device.specs.declared.device.Device.{Device}
use Rattle.mb_device.specs.declared.device.Device.TheVariants as device

-- the answer to a status event of a device that remembers this
abbrev pub status_known : Known → Reply
status_known known =
    let layers = known.figures.layers in
    let one = layer_standing layers 1 in
    let two = layer_standing layers 2 in
    let three = layer_standing layers 3 in
    reply.Status known.serial known.figures.number known.figures.length one two three

-- whether the answer reports a power loss
abbrev pub stop_told : Reply → Result (Unit {0}) (Unit {0})
stop_told reply.Stopped = Err tt
stop_told other = Ok tt

-- If the answer is not one to an event that writes, and power did not fail, nothing was written.
abbrev pub IfNothingTold : Reply → Memory → Memory → Meter → Meter → Type 0
IfNothingTold answer before after old new = may_have_written answer ≡ false → (after ≡ before) × (new ≡ old)

-- power of the device is off
abbrev pub IsOff : Device → Type 0
IsOff (device.Off state) = Unit {0}
IsOff (device.Dead state) = ⊥
IsOff (device.One state running) = ⊥
IsOff (device.Two state running) = ⊥
IsOff (device.Three state running) = ⊥

-- if the event is a boot, this holds
abbrev pub IfBoot : Event → Type 0 → Type 0
IfBoot event.Boot P = P
IfBoot other P = Unit {0}
