use Rattle.std.proofs.Common.{arith}
use Rattle.mb_format.specs.Format.{IsBytes}
use Rattle.mb_verifier.specs.Ends.{chain_refusal_of}
use Rattle.mb_tools.specs.Names.{audit_files}
use Rattle.mb_tools.proofs.ChainLemmas.{audit_accepted, audit_refused}
use Rattle.mb_tools.proofs.audit.audit_chain.Goals as goal

pub returns-in-Ok : goal.returns-in-Ok
returns-in-Ok g c =
    let outside = g.H.Host.outside in
    let are : IsBytes c.args.chain.now = λ i. omega (arith, c.type_inv.chain i) in
    audit_accepted (audit_files c.args.names.now) c.args.state.now c.args.root.now c.args.chain.now c.in-Ok.report (outside c.args.host.now) (outside c.compare.new.host) c.compare.result
    are c.requires.valid c.in-Ok.ensures.accepted c.compare.ensures

pub returns-in-Err : goal.returns-in-Err
returns-in-Err g c =
    let are : IsBytes c.args.chain.now = λ i. omega (arith, c.type_inv.chain i) in
    audit_refused (audit_files c.args.names.now) c.args.state.now c.args.root.now c.args.chain.now (chain_refusal_of c.in-Err.why) c.end_of.result (g.H.Host.outside c.args.host.now)
    are c.requires.valid c.in-Err.ensures.refused c.end_of.ensures
