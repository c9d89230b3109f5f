use Rattle.std.proofs.Common.{ℕ, List, length, codes, refl, subst}
use Rattle.mb_console.specs.Ending.{CarriesOut}
use Rattle.mb_console.proofs.Leading.{begins, reads, stops_at_input}
use Rattle.mb_tools_app.specs.AssemblyCommands.{asm, write_counted}
use Rattle.mb_tools_app.proofs.asm.asm.Goals as goal

pub returns-in_err-code : goal.returns-in_err-code
unfolding asm
returns-in_err-code g c = λ final. stops_at_input _ _ _ begins c.from_residual.ensures.1 c.in_err-code.ensures.err refl refl

pub returns : goal.returns
unfolding asm
returns g c = λ final.
    let code = reads begins c.in_ok-code.ensures.read in
    let outside = g.H.Host.outside in
    let carried = subst (λ (b : List ℕ). CarriesOut (write_counted c.args.names.now.out.now b (codes "bytes") (length b)) (outside c.read_as.new.host) c.write_counted.result (outside c.write_counted.new.host))
    c.as_slice-bytes.ensures c.write_counted.ensures in
    code.lead _ _ (carried final)
