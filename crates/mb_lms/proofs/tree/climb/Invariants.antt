use Rattle.std.proofs.Common.{◌≡◌, ◌-◌, ◌*◌, drop}
use Rattle.mb_model.specs.signatures.Merkle.{climb}
use Rattle.mb_lms.proofs.tree.climb.Given as goal

abbrev pub invariant-loop-level : goal.invariant-loop-level
invariant-loop-level l =
    climb l.identifier l.number l.node (drop (32 * l.level) l.path) (l.levels - l.level)
    ≡ climb l.identifier l.fn.number l.fn.leaf l.path l.levels
