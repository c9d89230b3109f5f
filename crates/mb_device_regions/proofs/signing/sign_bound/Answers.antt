use Rattle.std.proofs.Common.{Option, ap, sym, subst, ◌∙◌}
use Rattle.mb_signer.specs.Tree.{IsTreeOf}
use Rattle.mb_device_orders.specs.declared.remembering.Trees.{Trees}
use Rattle.mb_outbound.specs.declared.kept.RegionTree.{RegionTree}
use Rattle.mb_outbound.specs.KeptTrees.{IfKeptFor}
use Rattle.mb_device_regions.proofs.signing.sign_bound.Goals as goal

pub region_tree-own-requires : goal.region_tree-own-requires
region_tree-own-requires g c =
    let taken = c.take.ensures.value ∙ ap (λ (trees : Trees). trees.region) c.deref_mut.ensures.value in
    subst (λ (tree : Option RegionTree). IfKeptFor tree c.args.place c.args.key (λ own. IsTreeOf c.args.seed.now own.tree)) (sym taken) c.requires.own
