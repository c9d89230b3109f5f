use Rattle.std.proofs.Common.{subst, List, ℕ}
use Rattle.std.proofs.lemmas.Result.{err_from_is_err_and}
use Rattle.mb_model.specs.declared.entry.SignedEntry.{SignedEntry}
use Rattle.mb_model.specs.owners.Log.{entries_of}
use Rattle.mb_model.specs.chains.Acceptance.{IfStatement, IsCurrent, IsRefused}
use Rattle.mb_log.specs.KeyLife.{as_entry}
use Rattle.mb_verifier.specs.Checked.{HasBadEntry}
use Rattle.mb_verifier.specs.Ends.{chain_refusal_of}
use Rattle.mb_verifier.proofs.Judging.{if_some_weaker}
use Rattle.mb_verifier.proofs.Verdicts.{entries_spelled, entries_few, entry_refuses, with_statement, without_statement, accepted}
use Rattle.mb_verifier.proofs.chain.report_on.Goals as goal
use Rattle.mb_verifier.proofs.chain.report_on.Goals.{in-Some-statement+in_ok-check_statement, in_default-statement}

pub judge-requires-clause-spelled : goal.judge-requires-clause-spelled
judge-requires-clause-spelled c = rw c.as_slice-log.ensures (entries_spelled c.args.chain c.requires)

pub judge-requires-clause-short : goal.judge-requires-clause-short
judge-requires-clause-short c = rw c.as_slice-log.ensures (entries_few c.args.chain c.requires)

pub returns-in_err-judged-clause-refused : goal.returns-in_err-judged-clause-refused
returns-in_err-judged-clause-refused c = λ bytes spelled.
    let maker = c.args.root.now in
    let p = err_from_is_err_and c.from_residual.result c.from_residual.ensures.1 in
    rw (p.1, p.2) (if_some_weaker _ (IsRefused maker bytes c.args.key) (chain_refusal_of c.in_err-judged.field-0.0)
    (λ why has. entry_refuses maker bytes c.args.key c.args.chain spelled why (subst (λ (log : List SignedEntry). HasBadEntry maker log why) c.as_slice-log.ensures has))
    c.in_err-judged.ensures.refused)

pub returns-clause-accepted : goal.returns-clause-accepted
returns-clause-accepted c = λ bytes spelled.
    let log = c.as_slice-log.result.now in
    let key = c.args.key in
    let made = as_entry c.in-Some.born in
    let judged = c.in_ok-judged.judged in
    let says = c.in_ok-judged.ensures in
    let current : IfStatement c.args.chain.statement (IsCurrent (entries_of log) key made) = elim c.match-chain-5.branch [
      | in-Some-statement+in_ok-check_statement w ↦
          with_statement (IsCurrent (entries_of log) key made) c.args.chain.statement _ w.in-Some-statement.is
          (subst (λ (n : ℕ). IsCurrent (entries_of log) n made w.in-Some-statement.statement) says.life.number w.in_ok-check_statement.ensures.current)
      | in_default-statement w ↦ without_statement (IsCurrent (entries_of log) key made) c.args.chain.statement w.in_default-statement.is
    ] in
    accepted c.args.root.now bytes c.args.chain log key judged.figures judged.life c.in-Some.born c.said_of.result spelled c.as_slice-log.ensures
    says.good says.figures says.life c.in-Some.is current c.said_of.ensures
