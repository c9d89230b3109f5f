use Rattle.std.proofs.Common.{◌∙◌}
use Rattle.mb_tools_app.proofs.AssemblyLemmas.{counted, counted_lacks}
use Rattle.mb_tools_app.proofs.output.write_counted.Goals as goal

pub returns-in_default : goal.returns-in_default
returns-in_default g c = counted_lacks c.args.out.now c.args.bytes.now c.args.word.now c.args.count (g.H.Host.outside c.args.host.now)

pub returns : goal.returns
returns g c =
    let outside = g.H.Host.outside in
    counted c.args.out.now c.args.bytes.now c.args.word.now c.args.count c.as_bytes.result.now (outside c.args.host.now) (outside c.finish.new.host) c.finish.result
    (c.as_bytes.ensures.value ∙ c.in-Ok.ensures) c.finish.ensures
