use Rattle.std.proofs.Common.{take, ap, ◌∙◌}
use Rattle.std.specs.Int.{w8, w64, to_be_bytes}
use Rattle.mb_hss.proofs.LevelLemmas.{derived, level_key_is}
use Rattle.mb_hss.proofs.level.level_key.Goals as goal

pub returns-clause-key : goal.returns-clause-key
returns-clause-key g c =
    level_key_is c.args.seed.now c.args.level c.args.prefix c.copy_from_slice.new.self c.hash-2.result
    (c.copy_from_slice.ensures.after
    ∙ ap (take 16) (derived 0x15 c.args.seed.now c.level_and_prefix-whose.result (to_be_bytes w8 c.args.level) (to_be_bytes w64 c.args.prefix) c.hash.result
    c.level_and_prefix-whose.ensures c.hash.ensures.value))
    (derived 0x14 c.args.seed.now c.level_and_prefix-whose.result (to_be_bytes w8 c.args.level) (to_be_bytes w64 c.args.prefix) c.hash-2.result
    c.level_and_prefix-whose.ensures c.hash-2.ensures.value)
