use Rattle.std.proofs.Common.{rules, sym, ◌∙◌}
use Rattle.mb_lms.proofs.Spelling.{tree_read, chains_read, spelled}
use Rattle.mb_lms.proofs.key.parse_key.Goals as goal

pub returns-in_err-tree : goal.returns-in_err-tree
returns-in_err-tree c =
    let unknown = c.in_err-tree.ensures in
    rw c.from_residual.ensures (λ key _ e. unknown key.tree (tree_read key _ e ∙ sym c.u32_at.ensures))

pub returns-in_err-chains : goal.returns-in_err-chains
returns-in_err-chains c =
    let unknown = c.in_err-chains.ensures in
    rw c.from_residual-in_err-chains.ensures (λ key _ e. unknown key.chains (chains_read key _ e ∙ sym c.u32_at-2.ensures))

pub returns : goal.returns
returns c = (
  record { identifier = search rules; root = search rules },
  spelled _ _ c.told-bytes c.fits-bytes (c.in_ok-tree.ensures ∙ c.u32_at.ensures) (c.in_ok-chains.ensures ∙ c.u32_at-2.ensures)
      c.copy_from_slice.ensures.after c.copy_from_slice-2.ensures.after,
)
