use Rattle.std.proofs.Common.{arith}
use Rattle.mb_format.proofs.Whole.{IsClearWhole-from_exact}
use Rattle.mb_model_lemmas.proofs.OneCallLemmas.{action_exact}
use Rattle.mb_appvm.proofs.action.read_action.Goals as goal

pub returns-in-Err : goal.returns-in-Err
returns-in-Err c = λ action spelled.
    (IsClearWhole-from_exact action_exact).never_both c.args.output.now action c.in-Err.field-0.at (λ i. omega (arith, c.type_inv.output i)) spelled c.in-Err.ensures
