use Rattle.std.proofs.Common.{List, Some, take, sym, ap, subst, ◌∙◌}
use Rattle.mb_model.specs.declared.entry.SignedEntry.{SignedEntry}
use Rattle.mb_model.specs.records.ChainFormat.{chain_format}
use Rattle.mb_model.specs.chains.Attach.{cut_at}
use Rattle.mb_model_lemmas.proofs.AttachLemmas.{stated_allowed}
use Rattle.mb_cert.proofs.attached.attach.Goals as goal

pub returns-clause-allowed : goal.returns-clause-allowed
returns-clause-allowed c = λ spelled stated.
    let same = c.from_vec.ensures ∙ c.truncate.ensures.items ∙ ap (take c.count_before_cut-count.result) (sym c.deref.ensures.value)
    ∙ c.count_before_cut-count.ensures ∙ ap (cut_at c.args.statement.number) (c.deref.ensures.value ∙ c.into_vec-entries.ensures) in
    subst (λ (log : List SignedEntry). chain_format.Allowed (record { entries = log; statement = Some c.args.statement })) (sym same)
    (stated_allowed c.args.chain c.args.statement spelled stated)
