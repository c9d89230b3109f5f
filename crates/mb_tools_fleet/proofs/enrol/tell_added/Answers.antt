use Rattle.std.proofs.Common.{List, ℕ, ◌∙◌}
use Rattle.mb_tools_fleet.proofs.EnrolLemmas.{added_lacks, same_added}
use Rattle.mb_tools_fleet.proofs.enrol.tell_added.Goals as goal

pub returns-in_default : goal.returns-in_default
returns-in_default g c = added_lacks c.args.register.now c.args.fleet.now c.args.added.now (g.H.Host.outside c.args.host.now)

pub returns-in-Same : goal.returns-in-Same
returns-in-Same g c =
    let outside = g.H.Host.outside in
    same_added c.args.register.now c.args.fleet.now c.args.added.now _ _ c.as_bytes.result.now (outside c.args.host.now) (outside c.finish.new.host) c.finish.result
    c.in-Same.is (◌∙◌ {A = List ℕ} c.as_bytes.ensures.value c.in-Ok.ensures) c.finish.ensures
