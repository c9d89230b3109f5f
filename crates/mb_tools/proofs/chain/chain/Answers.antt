use Rattle.std.proofs.Common.{refl, sym, subst}
use Rattle.mb_model.specs.memories.Valid.{Valid}
use Rattle.mb_model_commands.specs.ChainCommands.{chain, chain_of}
use Rattle.mb_model_memory.specs.Storable.{Storable}
use Rattle.mb_console.specs.Ending.{CarriesOut}
use Rattle.mb_console.proofs.Leading.{begins, reads, stops_at_input}
use Rattle.mb_tools.specs.Names.{chain_files}
use Rattle.mb_tools.proofs.ChainLemmas.{dead_has_none}
use Rattle.mb_tools.proofs.chain.chain.Goals as goal

pub write_log-requires-clause-valid : goal.write_log-requires-clause-valid
write_log-requires-clause-valid g c = subst Valid c.in-Some.is c.in_ok-state.ensures.valid

pub write_log-requires-clause-stored : goal.write_log-requires-clause-stored
write_log-requires-clause-stored g c = subst Storable c.in-Some.is c.in_ok-state.ensures.stored

pub returns-in_err-state-clause-carried : goal.returns-in_err-state-clause-carried
unfolding chain
returns-in_err-state-clause-carried g c = λ final. stops_at_input _ _ _ begins c.from_residual.ensures.1 c.in_err-state.ensures.err refl refl

pub returns-in-Some-clause-carried : goal.returns-in-Some-clause-carried
unfolding chain
returns-in-Some-clause-carried g c = λ final.
    let image = reads begins c.in_ok-state.ensures.read in
    let outside = g.H.Host.outside in
    let written = subst (λ s. CarriesOut (chain_of (chain_files c.args.names.now) s) (outside c.read_image.new.host) c.write_log.result (outside c.write_log.new.host)) (sym c.in-Some.is) c.write_log.ensures in
    image.lead _ _ (written final)

pub returns-in-None-clause-carried : goal.returns-in-None-clause-carried
unfolding chain
returns-in-None-clause-carried g c = λ final.
    let image = reads begins c.in_ok-state.ensures.read in
    dead_has_none (chain_files c.args.names.now) _ _ image c.in-None.is c.refused.ensures refl
