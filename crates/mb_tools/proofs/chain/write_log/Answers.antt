use Rattle.mb_tools.specs.Names.{chain_files}
use Rattle.mb_model_memory.proofs.StorableChains.{bare_allowed}
use Rattle.mb_tools.proofs.ChainLemmas.{log_carried_out}
use Rattle.mb_tools.proofs.chain.write_log.Goals as goal

pub write_entries-requires : goal.write_entries-requires
write_entries-requires g c = bare_allowed c.args.state c.requires.valid c.requires.stored

pub returns : goal.returns
returns g c =
    let outside = g.H.Host.outside in
    log_carried_out (chain_files c.args.names.now) c.args.state (outside c.args.host.now) (outside c.write_entries.new.host) c.write_entries.result c.requires.valid c.write_entries.ensures
