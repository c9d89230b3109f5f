use Rattle.std.proofs.Common.{◌∷◌, [], length, codes}
use Rattle.std.specs.Fmt.{decimal}
use Rattle.mb_model.specs.chains.Lines.{spaced_words}
use Rattle.mb_fleet.specs.Serving.{count_line}
use Rattle.mb_fleet.proofs.Texts.{lines_more, lines_ended}
use Rattle.mb_fleet.proofs.answer.put_codes.Goals as goal

pub loop-count-preserved : goal.loop-count-preserved
loop-count-preserved c =
    lines_more count_line c.args.counts.now c.loop-count.count-index _ c.put_counted.new.out.items c.loop-count.out.items _
    c.loop-count-test.true c.loop-count.invariant c.in_ok-put_count.ensures.items

pub returns : goal.returns
returns c =
    lines_ended count_line c.args.counts.now c.loop-count.count-index (spaced_words (codes "codes" ∷ decimal (length c.args.counts.now) ∷ [])) c.args.out.now.items c.put_counted.new.out.items c.loop-count.out.items
    c.loop-count-test.false c.in_ok-put_counted.ensures.items c.loop-count.invariant
