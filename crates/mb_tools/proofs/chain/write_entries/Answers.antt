use Rattle.std.proofs.Common.{ℕ, List, ◌++◌, length, ◌∙◌, ap}
use Rattle.mb_model.specs.declared.entry.SignedEntry.{SignedEntry}
use Rattle.mb_model.specs.records.ChainFormat.{chain_format}
use Rattle.mb_model_commands.specs.ChainCommands.{entries_text}
use Rattle.mb_tools.proofs.ChainLemmas.{entries_written, entries_lack}
use Rattle.mb_tools.proofs.chain.write_entries.Goals as goal

pub returns-in_default : goal.returns-in_default
returns-in_default g c = entries_lack c.args.out.now c.args.chain.now (g.H.Host.outside c.args.host.now)

pub returns-in_default-entries_text : goal.returns-in_default-entries_text
returns-in_default-entries_text g c = entries_lack c.args.out.now c.args.chain.now (g.H.Host.outside c.args.host.now)

pub returns : goal.returns
returns g c =
    let outside = g.H.Host.outside in
    entries_written c.args.out.now c.args.chain.now c.deref.result.now c.as_bytes.result.now (outside c.args.host.now) (outside c.finish.new.host) c.finish.result c.requires
    (◌∙◌ {A = List ℕ} c.deref.ensures.value (◌∙◌ {A = List ℕ} c.in-Ok.ensures.items (ap (λ (old : List ℕ). old ++ chain_format.spelling c.args.chain.now) c.new-bytes.ensures.items)))
    (c.as_bytes.ensures.value ∙ c.in-Ok-entries_text.ensures ∙ ap (λ (log : List SignedEntry). entries_text (length log)) c.as_slice.ensures) c.finish.ensures
