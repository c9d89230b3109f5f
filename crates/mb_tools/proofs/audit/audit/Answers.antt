use Rattle.std.proofs.Common.{ℕ, List, Some, refl, sym, subst}
use Rattle.mb_model.specs.memories.Valid.{Valid}
use Rattle.mb_model_commands.specs.AuditCommand.{audit, audit_chain}
use Rattle.mb_model_memory.specs.Storable.{Storable}
use Rattle.mb_console.specs.Ending.{CarriesOut}
use Rattle.mb_console.proofs.Leading.{begins, reads, stops_at_input}
use Rattle.mb_tools.specs.Names.{audit_files}
use Rattle.mb_tools.proofs.ChainLemmas.{dead_not_audited}
use Rattle.mb_tools.proofs.audit.audit.Goals as goal

pub audit_chain-requires-clause-valid : goal.audit_chain-requires-clause-valid
audit_chain-requires-clause-valid g c = subst Valid c.in-Some.is c.in_ok-state.ensures.valid

pub audit_chain-requires-clause-stored : goal.audit_chain-requires-clause-stored
audit_chain-requires-clause-stored g c = subst Storable c.in-Some.is c.in_ok-state.ensures.stored

pub returns-in_err-state-clause-carried : goal.returns-in_err-state-clause-carried
unfolding audit
returns-in_err-state-clause-carried g c = λ final. stops_at_input _ _ _ begins c.from_residual.ensures.1 c.in_err-state.ensures.err refl refl

pub returns-in_err-root-clause-carried : goal.returns-in_err-root-clause-carried
unfolding audit
returns-in_err-root-clause-carried g c = λ final. stops_at_input _ _ _ (reads begins c.in_ok-state.ensures.read) c.from_residual-in_err-root.ensures.1 c.in_err-root.ensures.err refl refl

pub returns-in_err-chain-clause-carried : goal.returns-in_err-chain-clause-carried
unfolding audit
returns-in_err-chain-clause-carried g c = λ final.
    let root = reads (reads begins c.in_ok-state.ensures.read) c.in_ok-root.ensures.read in
    stops_at_input _ _ _ root c.from_residual-in_err-chain.ensures.1 c.in_err-chain.ensures.err refl refl

pub returns-in-Some-clause-carried : goal.returns-in-Some-clause-carried
unfolding audit
returns-in-Some-clause-carried g c = λ final.
    let chain = reads (reads (reads begins c.in_ok-state.ensures.read) c.in_ok-root.ensures.read) c.in_ok-chain.ensures.read in
    let outside = g.H.Host.outside in
    let names = audit_files c.args.names.now in
    let mid = outside c.read_as-2.new.host in
    let now = outside c.audit_chain.new.host in
    let carried = subst (λ (b : List ℕ). CarriesOut (audit_chain names (Some c.in-Some.state) c.in_ok-root.root b) mid c.audit_chain.result now) c.deref.ensures.value c.audit_chain.ensures in
    let audited = subst (λ s. CarriesOut (audit_chain names s c.in_ok-root.root c.in_ok-chain.chain.items) mid c.audit_chain.result now) (sym c.in-Some.is) carried in
    chain.lead _ _ (audited final)

pub returns-clause-carried : goal.returns-clause-carried
unfolding audit
returns-clause-carried g c = λ final.
    let chain = reads (reads (reads begins c.in_ok-state.ensures.read) c.in_ok-root.ensures.read) c.in_ok-chain.ensures.read in
    dead_not_audited (audit_files c.args.names.now) _ _ _ _ chain c.in-None.is c.refused.ensures refl
