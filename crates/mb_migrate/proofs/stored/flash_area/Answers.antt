use Rattle.std.proofs.Common.{◌≡◌, ◌*◌, ◌+◌, ◌-◌, ap, ◌∙◌, arith, take, drop}
use Rattle.mb_model.specs.memories.OldFlash.{flash_area}
use Rattle.mb_migrate.proofs.stored.flash_area.Goals as goal

pub returns : goal.returns
unfolding flash_area
returns c =
    let start = 524288 * c.from-start.result in
    let long : start + 524288 - start ≡ 524288 = omega arith in
    ap (λ n. take n (drop start c.args.flash.now)) long
    ∙ ap (λ k. take 524288 (drop (524288 * k) c.args.flash.now)) c.from-start.ensures
