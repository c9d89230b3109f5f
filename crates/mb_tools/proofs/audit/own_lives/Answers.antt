use Rattle.std.proofs.Common.{ℕ, List, length, take, min, ◌∙◌, ap}
use Rattle.mb_model.specs.declared.entry.SignedEntry.{SignedEntry}
use Rattle.mb_tools.proofs.ChainLemmas.{own_list}
use Rattle.mb_tools.proofs.audit.own_lives.Goals as goal

pub returns : goal.returns
returns c =
    let log = c.as_slice-log.result.now in
    let front = ap (λ (n : ℕ). take n log) c.min-count.ensures ∙ ap (λ (l : List SignedEntry). take (min c.args.count (length l)) l) c.as_slice-log.ensures in
    own_list c.args.state.now c.args.count c.args.key _ c.lives.result c.requires.valid front c.lives.ensures
