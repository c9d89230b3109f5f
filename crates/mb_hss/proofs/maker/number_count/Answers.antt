use Rattle.std.proofs.Common.{◌∙◌, ◌*◌, arith}
use Rattle.std.proofs.lemmas.Nat.{one_shl}
use Rattle.mb_hss.proofs.Digits.{digit_power}
use Rattle.mb_hss.proofs.maker.number_count.Goals as goal

pub returns : goal.returns
returns c = one_shl (5 * c.args.levels) 64 (omega arith) ∙ digit_power c.args.levels c.requires
