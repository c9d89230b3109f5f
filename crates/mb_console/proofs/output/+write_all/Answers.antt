use Rattle.std.proofs.lemmas.Result.{err_from_is_err_and}
use Rattle.mb_console.proofs.OutputLemmas.{one_stops, later_stop}
use Rattle.mb_console.proofs.output.+write_all.Goals as goal

pub returns-in_err-write_output-clause-err : goal.returns-in_err-write_output-clause-err
returns-in_err-write_output-clause-err g t c =
    let outside = g.H.Host.outside in
    let p = err_from_is_err_and c.from_residual.result c.from_residual.ensures.1 in
    let ends = c.in_err-write_output.ensures.err in
    rw (p.1, p.2) (one_stops c.args.outputs.now c.in-Some.rest.now c.in-Some.output.now (outside c.args.host.now) (outside c.write_output.new.host)
    c.in_err-write_output.field-0.0 c.in-Some.ensures.cases.0 ends.0 ends.1)

pub returns-clause-err : goal.returns-clause-err
returns-clause-err g t c =
    let outside = g.H.Host.outside in
    later_stop c.args.outputs.now c.in-Some.rest.now c.in-Some.output.now (outside c.args.host.now) (outside c.write_output.new.host) (outside c.write_all.new.host)
    c.write_all.result c.in-Some.ensures.cases.0 c.in_ok-write_output.ensures.ok c.write_all.ensures.err
