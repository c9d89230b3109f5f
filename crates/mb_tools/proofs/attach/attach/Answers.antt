use Rattle.std.proofs.Common.{◌≡◌, ◌≢◌, true, false, is_some, None, refl, sym, ◌∙◌, ap, subst}
use Rattle.mb_model_commands.specs.ChainCommands.{attach, attach_statement, write_entries}
use Rattle.mb_console.specs.Ending.{CarriesOut}
use Rattle.mb_console.proofs.Leading.{begins, reads, chooses_first, chooses_second, stops_at_input, is_refused}
use Rattle.mb_tools.proofs.ChainLemmas.{none_there}
use Rattle.mb_tools.proofs.attach.attach.Goals as goal

pub write_entries-requires : goal.write_entries-requires
write_entries-requires g c = c.attach-stated.ensures.allowed c.in_ok-chain.ensures.keeps c.in_ok-statement.ensures.keeps

pub returns-in_err-chain : goal.returns-in_err-chain
unfolding attach
returns-in_err-chain g c = λ final. stops_at_input _ _ _ begins c.from_residual.ensures.1 c.in_err-chain.ensures.err refl refl

pub returns-in_err-statement : goal.returns-in_err-statement
unfolding attach
returns-in_err-statement g c = λ final. stops_at_input _ _ _ (reads begins c.in_ok-chain.ensures.read) c.from_residual-in_err-statement.ensures.1 c.in_err-statement.ensures.err refl refl

pub returns-then-is_some : goal.returns-then-is_some
unfolding attach attach_statement
returns-then-is_some g c = λ final.
    let statement = reads (reads begins c.in_ok-chain.ensures.read) c.in_ok-statement.ensures.read in
    let some : c.in_ok-chain.chain.statement ≢ None = λ none. let true_is : true ≡ false = sym c.if-is_some.true ∙ c.is_some.ensures ∙ ap is_some none in cc in
    is_refused (chooses_first {mid = g.H.Host.outside c.read_as-2.new.host} statement some) refl _ c.refused.ensures

pub returns : goal.returns
unfolding attach attach_statement
returns g c = λ final.
    let statement = reads (reads begins c.in_ok-chain.ensures.read) c.in_ok-statement.ensures.read in
    let none = none_there c.in_ok-chain.chain.statement c.is_some.result c.is_some.ensures c.if-is_some.false in
    let outside = g.H.Host.outside in
    let carried = subst (λ chain. CarriesOut (write_entries c.args.names.now.out.now chain) (outside c.read_as-2.new.host) c.write_entries.result (outside c.write_entries.new.host)) c.attach-stated.ensures.is c.write_entries.ensures in
    (chooses_second {mid = outside c.read_as-2.new.host} statement (λ some. some none)).lead _ _ (carried final)
