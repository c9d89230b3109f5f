use Rattle.std.proofs.Common.{◌∙◌}
use Rattle.mb_tools.proofs.ChainLemmas.{report_told, report_lacks}
use Rattle.mb_tools.proofs.verify.print_report.Goals as goal

pub returns-in-Ok : goal.returns-in-Ok
returns-in-Ok g c =
    let outside = g.H.Host.outside in
    report_told c.args.key c.args.report.now c.deref.result.now (outside c.args.host.now) (outside c.finish.new.host) c.finish.result (c.deref.ensures.value ∙ c.in-Ok.ensures) c.finish.ensures

pub returns-in-Err : goal.returns-in-Err
returns-in-Err g c = report_lacks c.args.key c.args.report.now (g.H.Host.outside c.args.host.now)
