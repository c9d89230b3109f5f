use Rattle.std.proofs.Common.{◌≡◌, ◌+◌, ◌-◌, ◌*◌, ap, ◌∙◌, arith, take, drop}
use Rattle.mb_model.specs.memories.Flash.{sector}
use Rattle.mb_image.proofs.segments.sector.Goals as goal

pub returns-clause-found : goal.returns-clause-found
unfolding sector
returns-clause-found c =
    let start = 4096 * c.from-start.result in
    let long : start + 4096 - start ≡ 4096 = omega arith in
    ap (λ n. take n (drop start c.args.flash.now)) long
    ∙ ap (λ n. take 4096 (drop (4096 * n) c.args.flash.now)) c.from-start.ensures
