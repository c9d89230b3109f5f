use Rattle.std.proofs.Common.{◌≡◌, length, ◌∙◌, ap, arith, length-append}
use Rattle.mb_tools_device.proofs.Buffers.{filled_whole}
use Rattle.mb_tools_device.proofs.serving.held_image.Goals as goal

pub returns : goal.returns
returns g c =
    let memory = (g.B.Board.seen c.args.board.now).memory in
    let sized : c.args.room.len ≡ length c.copy_image.new.out =
    omega (arith, c.requires.room, c.args.room.ok, ap length c.copy_image.ensures, length-append memory.flash memory.bbram, c.requires.loaded.flash, c.requires.loaded.bbram) in
    filled_whole c.args.room.len c.copy_image.new.out c.args.room.items sized ∙ c.copy_image.ensures
