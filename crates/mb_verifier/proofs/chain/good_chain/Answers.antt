use Rattle.std.proofs.Common.{subst, List}
use Rattle.std.proofs.lemmas.Result.{err_from_is_err_and}
use Rattle.mb_model.specs.declared.entry.SignedEntry.{SignedEntry}
use Rattle.mb_verifier.specs.Checked.{HasBadEntry}
use Rattle.mb_verifier.specs.Ends.{chain_refusal_of}
use Rattle.mb_verifier.specs.Entries.{IsEntriesRefused}
use Rattle.mb_verifier.proofs.Judging.{if_some_weaker}
use Rattle.mb_verifier.proofs.Verdicts.{entries_spelled, entries_few, entries_refuse}
use Rattle.mb_verifier.proofs.chain.good_chain.Goals as goal

pub judge-requires-clause-spelled : goal.judge-requires-clause-spelled
judge-requires-clause-spelled c = rw c.as_slice.ensures (entries_spelled c.args.chain c.requires)

pub judge-requires-clause-short : goal.judge-requires-clause-short
judge-requires-clause-short c = rw c.as_slice.ensures (entries_few c.args.chain c.requires)

pub returns-in_err-judge-clause-refused : goal.returns-in_err-judge-clause-refused
returns-in_err-judge-clause-refused c = λ bytes spelled.
    let maker = c.args.root.now in
    let p = err_from_is_err_and c.from_residual.result c.from_residual.ensures.1 in
    rw (p.1, p.2) (if_some_weaker _ (IsEntriesRefused maker bytes) (chain_refusal_of c.in_err-judge.field-0.0)
    (λ why has. entries_refuse maker bytes c.args.chain spelled why (subst (λ (log : List SignedEntry). HasBadEntry maker log why) c.as_slice.ensures has))
    c.in_err-judge.ensures.refused)
