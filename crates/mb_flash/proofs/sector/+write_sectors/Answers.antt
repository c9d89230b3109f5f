use Rattle.std.proofs.Common.{ap, ◌∙◌, ◌*◌, ◌+◌, length, arith}
use Rattle.mb_slot.proofs.Slotted.{on_ok}
use Rattle.mb_model.specs.outside.Pieces.{part}
use Rattle.mb_model.specs.outside.Board.{Memory}
use Rattle.mb_flash.proofs.Sectored.{both_stand, piece_stands, next_stands, one_more, both_same, ran_then, first_stopped}
use Rattle.mb_flash.proofs.sector.+write_sectors.Goals as goal

pub returns-in_err-write_sector : goal.returns-in_err-write_sector
returns-in_err-write_sector g n c =
    let piece = c.split_piece.result.0.now in
    let rest = c.split_piece.result.1.now in
    let more = one_more piece rest c.args.bytes.now c.split_piece.ensures.whole (c.split_piece.ensures.some (grind (arith, c.is_empty.ensures, c.if-is_empty.false))) c.split_piece.ensures.most c.split_piece.ensures.full in
    first_stopped c.args.first c.args.bytes.now piece rest _ c.from_residual.result (g.B.Board.seen c.args.b.now) (g.B.Board.seen c.write_sector.new.b) (omega (arith, more)) c.split_piece.ensures.whole c.from_residual.ensures.0
    c.in_err-write_sector.ensures

pub returns : goal.returns
returns g n c =
    let before = g.B.Board.seen c.args.b.now in
    let between = g.B.Board.seen c.write_sector.new.b in
    let after = g.B.Board.seen c.write_sectors.new.b in
    let piece = c.split_piece.result.0.now in
    let rest = c.split_piece.result.1.now in
    let more = one_more piece rest c.args.bytes.now c.split_piece.ensures.whole (c.split_piece.ensures.some (grind (arith, c.is_empty.ensures, c.if-is_empty.false))) c.split_piece.ensures.most c.split_piece.ensures.full in
    record {
      written = on_ok c.write_sectors.result
          (λ later. both_stand c.args.first between.memory.flash after.memory.flash piece rest c.args.bytes.now c.split_piece.ensures.whole c.split_piece.ensures.most
          c.split_piece.ensures.full c.write_sectors.ensures.same (grind (arith, c.requires.powered.loaded.flash, c.requires.within, c.write_sector.ensures.same.sized, more)) c.in_ok-write_sector.ensures.written later)
          c.write_sectors.ensures.written;
      idle = λ stands. (
          let first = c.write_sector.ensures.idle (piece_stands (4096 * c.args.first) before.memory.flash piece rest c.args.bytes.now c.split_piece.ensures.whole stands) in
          let later = c.write_sectors.ensures.idle
          (ap (λ (m : Memory). part (4096 * (c.args.first + 1)) (length rest) m.flash) first.1
          ∙ next_stands c.args.first before.memory.flash piece rest c.args.bytes.now c.split_piece.ensures.whole c.split_piece.ensures.full stands) in
          (later.0, later.1 ∙ first.1, later.2 ∙ first.2));
      same = both_same c.args.first _ _ before.memory.flash between.memory.flash after.memory.flash more c.in_ok-write_sector.ensures.same c.write_sectors.ensures.same;
      ran = ran_then 2 _ _ _ c.write_sectors.result before between after (omega (arith, more)) c.in_ok-write_sector.ensures.ran c.write_sectors.ensures.ran;
    }
