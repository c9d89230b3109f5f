use Rattle.std.proofs.Common.{◌≡◌, ◌≤◌, List, map, ap, subst, ◌∙◌, arith, length}
use Rattle.std.specs.Prelude.{◌↔◌, IsTrue}
use Rattle.mb_model.specs.declared.region.RegionKey.{RegionKey}
use Rattle.mb_model.specs.memories.Valid.{as_made}
use Rattle.mb_image.specs.Keys.{listed_keys}
use Rattle.mb_model.specs.declared.region.Secret.{Secret}
use Rattle.mb_model.specs.owners.Log.{entries_of}
use Rattle.mb_image.proofs.ValidParts.{AreKept, valid_where}
use Rattle.mb_image.proofs.regions.is_valid_region.Goals as goal

pub returns-clause-valid : goal.returns-clause-valid
returns-clause-valid g c =
    let kept = subst (λ (secrets : List Secret). AreKept (entries_of c.args.log.now) c.args.figures.now.number c.args.layer secrets) c.as_slice-2.ensures (c.are_kept.ensures.0 c.if-not-are_kept.false) in
    let few : length c.args.region.now.keys ≤ 8 = omega (arith, ap length c.as_slice.ensures, c.if-as_slice.false) in
    let same = subst (λ (keys : List RegionKey). IsTrue c.are_alive.result ↔ (map as_made keys ≡ listed_keys c.deref.result.now)) c.as_slice-3.ensures c.are_alive.ensures.alive in
    valid_where (entries_of c.args.log.now) c.args.figures.now.layers c.args.figures.now.number c.args.layer c.args.region.now c.deref.result.now c.are_alive.result
    c.requires.layer c.requires.ruled c.requires.number (c.may_be_there.ensures.0 c.if-not-may_be_there.false) few kept
    (ap listed_keys c.deref.ensures.value ∙ c.in_ok-alive.ensures) same
