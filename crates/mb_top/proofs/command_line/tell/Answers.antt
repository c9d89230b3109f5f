use Rattle.mb_top.proofs.CommandLineLemmas.{text_not_printed}
use Rattle.mb_top.proofs.command_line.tell.Goals as goal

pub returns-in-Err : goal.returns-in-Err
returns-in-Err g c = λ final.
    let outside = g.H.Host.outside in
    text_not_printed c.args.text.now (outside c.args.host.now) (outside c.print.new.self) (outside c.stop.new.host) final c.stop.result c.in-Err.ensures.failed c.stop.ensures.says c.stop.ensures.status
