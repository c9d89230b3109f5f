use Rattle.std.proofs.Common.{ap, length, arith}
use Rattle.mb_model.specs.memories.WrittenImage.{written_image}
use Rattle.mb_model_lemmas.proofs.WrittenImages.{length-image}
use Rattle.mb_bytes.proofs.Putting.{length_items}
use Rattle.mb_image.proofs.Writing.{puts_never_fail}
use Rattle.mb_image.proofs.written.ImageRoom.write.Goals as goal

pub unreachable-requires : goal.unreachable-requires
unreachable-requires c =
    puts_never_fail (written_image c.args.state.now) c.args.self.image _ _ c.put_image.ensures
    (omega (arith, length-image c.args.state.now c.requires, ap length c.args.self.empty, length_items c.args.self.image, c.args.self.room)) c.in_default.not-Ok
