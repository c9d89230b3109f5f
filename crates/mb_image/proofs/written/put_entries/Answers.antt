use Rattle.std.proofs.lemmas.Result.{err_from_is_err_and}
use Rattle.mb_image.proofs.WrittenSectors.{one_more_entry, no_more_entry, all_entries, no_entries}
use Rattle.mb_image.proofs.written.put_entries.Goals as goal

pub loop-signed-init : goal.loop-signed-init
loop-signed-init c = no_entries c.args.log.now c.args.out.now

pub returns-in_err-put_entry : goal.returns-in_err-put_entry
returns-in_err-put_entry c =
    rw (err_from_is_err_and c.from_residual.result c.from_residual.ensures.1).1
    (no_more_entry c.args.log.now c.loop-signed.signed-index _ _ _ _ c.loop-signed-test.true c.loop-signed.invariant c.in_err-put_entry.ensures)

pub loop-signed-preserved : goal.loop-signed-preserved
loop-signed-preserved c = one_more_entry c.args.log.now c.loop-signed.signed-index _ _ _ _ c.loop-signed-test.true c.loop-signed.invariant c.in_ok-put_entry.ensures

pub returns : goal.returns
returns c = all_entries c.args.log.now c.loop-signed.signed-index _ _ c.loop-signed-test.false c.loop-signed.invariant
