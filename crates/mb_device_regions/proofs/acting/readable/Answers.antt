use Rattle.std.proofs.Common.{◌∙◌}
use Rattle.mb_device_regions.proofs.Called.{sees_as_three}
use Rattle.mb_device_regions.proofs.acting.readable.Goals as goal

pub returns-in-None : goal.returns-in-None
returns-in-None c = λ two three seen.
    c.of-in-None.ensures ∙ sees_as_three c.args.given.now.layer c.args.given.now.layers.now c.args.own.now two three (rw c.in-None.is at seen)
