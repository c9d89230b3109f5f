use Rattle.std.proofs.Common.{map}
use Rattle.std.proofs.lemmas.Result.{err_from_is_err_and}
use Rattle.mb_model_commands.specs.Commands.{print}
use Rattle.mb_console.specs.Outputs.{output_of}
use Rattle.mb_console.proofs.OutputLemmas.{alone_written, stops_carried}
use Rattle.mb_console.proofs.output.finish.Goals as goal

pub returns-in_err-write_all : goal.returns-in_err-write_all
returns-in_err-write_all g c =
    let p = err_from_is_err_and c.from_residual.result c.from_residual.ensures.1 in
    let outside = g.H.Host.outside in
    rw (p.1, p.2) (stops_carried (map output_of c.args.outputs.now) (print c.args.text.now) (outside c.args.host.now) (outside c.write_all.new.host) c.in_err-write_all.field-0.0 c.in_err-write_all.ensures.err)

pub returns : goal.returns
returns g c =
    let outside = g.H.Host.outside in
    alone_written (map output_of c.args.outputs.now) (print c.args.text.now) (outside c.args.host.now) (outside c.write_all.new.host) (outside c.print_text.new.host) c.print_text.result
    c.in_ok-write_all.ensures.ok c.print_text.ensures
