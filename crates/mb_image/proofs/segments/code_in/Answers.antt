use Rattle.std.proofs.Common.{◌*◌, ap, ◌∙◌, arith}
use Rattle.mb_image.proofs.Sectors.{code_found}
use Rattle.mb_image.proofs.segments.code_in.Goals as goal

pub returns : goal.returns
returns c = (
  (λ none. absurd (grind (arith, none, c.if-slot-eq0.false))),
  c.in_ok-copy.ensures ∙ code_found c.args.flash.now c.args.layer c.args.slot.which c.args.slot.length (4096 * c.from-start.result) (ap (λ n. 4096 * n) (c.from-start.ensures ∙ c.code_sector.ensures)) c.requires.length,
)
