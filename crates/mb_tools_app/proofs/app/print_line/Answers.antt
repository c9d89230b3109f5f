use Rattle.std.proofs.Common.{ℕ, List, ◌++◌, string_bytes, ◌∙◌, ap, arith}
use Rattle.mb_tools_app.proofs.AppLemmas.{line_printed, line_lacks}
use Rattle.mb_tools_app.proofs.app.print_line.Goals as goal

pub returns-in-Ok : goal.returns-in-Ok
returns-in-Ok g c =
    let outside = g.H.Host.outside in
    line_printed (string_bytes c.args.line) c.as_bytes.result.now (outside c.args.host.now) (outside c.finish.new.host) c.finish.result
    (c.as_bytes.ensures.value ∙ c.in-Ok.ensures.bytes ∙ ap (λ (b : List ℕ). string_bytes c.args.line ++ b) (c.in-Ok.ensures.ascii (omega arith))) c.finish.ensures

pub returns : goal.returns
returns g c = line_lacks (string_bytes c.args.line) (g.H.Host.outside c.args.host.now)
