use Rattle.std.proofs.Common.{◌∙◌, List, subst, sym}
use Rattle.std.proofs.lemmas.Result.{err_from_is_err_and}
use Rattle.mb_model.specs.declared.entry.SignedEntry.{SignedEntry}
use Rattle.mb_verifier.specs.Checked.{HasBadEntry}
use Rattle.mb_verifier.specs.Ends.{chain_refusal_of}
use Rattle.mb_verifier.specs.Entries.{IsEntriesRefused}
use Rattle.mb_verifier.proofs.Judging.{if_some_weaker, some_serial}
use Rattle.mb_verifier.proofs.Verdicts.{entries_spelled, entries_few, some_entries, entries_refuse, entries_show}
use Rattle.mb_verifier.proofs.chain.shown_by.Goals as goal

pub hash_entries-requires-clause-spelled : goal.hash_entries-requires-clause-spelled
hash_entries-requires-clause-spelled c = rw c.as_slice-log.ensures (entries_spelled c.args.chain.now c.requires)

pub hash_entries-requires-clause-short : goal.hash_entries-requires-clause-short
hash_entries-requires-clause-short c = rw c.as_slice-log.ensures (entries_few c.args.chain.now c.requires)

pub unreachable-requires : goal.unreachable-requires
unreachable-requires c =
    some_serial c.args.root.now c.as_slice-log.result.now (rw c.as_slice-log.ensures (some_entries c.args.chain.now c.requires)) c.in_ok-hashed.ensures.good (sym c.serial_of.ensures ∙ c.in_default.is)

pub returns-in_err-hashed-clause-refused : goal.returns-in_err-hashed-clause-refused
returns-in_err-hashed-clause-refused c = λ bytes spelled.
    let maker = c.args.root.now in
    let p = err_from_is_err_and c.from_residual.result c.from_residual.ensures.1 in
    rw (p.1, p.2) (if_some_weaker _ (IsEntriesRefused maker bytes) (chain_refusal_of c.in_err-hashed.field-0.0)
    (λ why has. entries_refuse maker bytes c.args.chain.now spelled why (subst (λ (log : List SignedEntry). HasBadEntry maker log why) c.as_slice-log.ensures has))
    c.in_err-hashed.ensures.refused)

pub returns-clause-shown : goal.returns-clause-shown
returns-clause-shown c = λ bytes spelled.
    let says = c.in_ok-hashed.ensures in
    entries_show c.args.root.now bytes c.args.chain.now c.as_slice-log.result.now c.in-Some.serial c.in_ok-hashed.hashed.figures c.in_ok-hashed.hashed.hashes spelled c.as_slice-log.ensures
    says.good (sym c.serial_of.ensures ∙ c.in-Some.is) says.figures says.hashes
