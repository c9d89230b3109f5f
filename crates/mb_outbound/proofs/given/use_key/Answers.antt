use Rattle.std.proofs.Common.{◌∙◌, ap, List, arith}
use Rattle.mb_model.specs.declared.region.Region.{Region}
use Rattle.mb_model.specs.declared.region.RegionKey.{RegionKey}
use Rattle.mb_outbound.proofs.KeyUses.{stands_somewhere, key_has_use, key_fits, key_used, key_placed}
use Rattle.mb_outbound.proofs.given.use_key.Goals as goal

pub unreachable-requires : goal.unreachable-requires
unreachable-requires c = stands_somewhere c.args.key c.args.region.now c.as_slice.result.now c.as_slice.ensures c.requires.can_sign c.in_default.ensures

pub overflow_add-used : goal.overflow_add-used
overflow_add-used c =
    key_fits _ (record { same = c.as_slice-2.ensures; searched = c.as_slice.result.now; all = c.as_slice.ensures; first = c.in-Some.ensures; can = c.requires.can_sign })

pub overflow_cast-at : goal.overflow_cast-at
overflow_cast-at c =
    omega (arith, key_placed c.args.region.now c.requires.stored (record { same = c.as_slice.ensures; searched = c.as_slice.result.now; all = c.as_slice.ensures; first = c.in-Some.ensures; can = c.requires.can_sign }))

pub returns-clause-found : goal.returns-clause-found
returns-clause-found c = key_has_use _ (record { same = c.as_slice-2.ensures; searched = c.as_slice.result.now; all = c.as_slice.ensures; first = c.in-Some.ensures; can = c.requires.can_sign })

pub returns-clause-used : goal.returns-clause-used
returns-clause-used c =
    ap (λ (keys : List RegionKey). let it : Region = record { secrets = c.args.region.now.secrets; keys = keys } in it)
    (c.set-old.ensures.new ∙ key_used _ c.requires.ordered (record { same = c.as_slice-2.ensures; searched = c.as_slice.result.now; all = c.as_slice.ensures; first = c.in-Some.ensures; can = c.requires.can_sign }))
