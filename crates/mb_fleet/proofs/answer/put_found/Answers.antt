use Rattle.std.proofs.Common.{◌∷◌, [], length, codes}
use Rattle.std.specs.Fmt.{decimal}
use Rattle.mb_model.specs.chains.Lines.{spaced_words}
use Rattle.mb_fleet.specs.Serving.{serial_line}
use Rattle.mb_fleet.proofs.Texts.{lines_more, lines_ended}
use Rattle.mb_fleet.proofs.answer.put_found.Goals as goal

pub loop-serial-preserved : goal.loop-serial-preserved
loop-serial-preserved c =
    lines_more serial_line c.args.serials.now c.loop-serial.serial-index _ c.put_counted.new.out.items c.loop-serial.out.items _
    c.loop-serial-test.true c.loop-serial.invariant c.in_ok-put_serial.ensures.items

pub returns : goal.returns
returns c =
    lines_ended serial_line c.args.serials.now c.loop-serial.serial-index (spaced_words (codes "found" ∷ decimal (length c.args.serials.now) ∷ [])) c.args.out.now.items c.put_counted.new.out.items c.loop-serial.out.items
    c.loop-serial-test.false c.in_ok-put_counted.ensures.items c.loop-serial.invariant
