use Rattle.mb_policy.specs.Meanings.{items_of}
use Rattle.mb_policy.proofs.Steps.{test_ended, test_failed}
use Rattle.mb_policy.proofs.lines.read_whole_test.Goals as goal

pub returns-in-Ok : goal.returns-in-Ok
returns-in-Ok c = test_ended (items_of c.args.before.now) c.args.words.now c.read_test.new.words c.in-Ok.test c.end_test.result c.in-Ok.ensures c.end_test.ensures

pub returns-in-Err : goal.returns-in-Err
returns-in-Err c = test_failed (items_of c.args.before.now) c.args.words.now c.in-Err.why c.read_test.new.words c.in-Err.ensures
