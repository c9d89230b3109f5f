use Rattle.std.proofs.Common.{arith}
use Rattle.mb_format.proofs.Whole.{IsClearWhole-from_exact}
use Rattle.mb_hss.specs.ExactFormats.{hss_key_exact, maker_exact}
use Rattle.mb_tools_hss.proofs.laws.inputs_are_clear.Goals as goal

pub returns : goal.returns
returns c = record {
  noise = λ name bytes value place are is faulty. omega (arith, is.0, faulty.0);
  key = λ name bytes value place are is faulty.
      (IsClearWhole-from_exact maker_exact).never_both bytes value faulty.0 are is faulty.2;
  public = λ name bytes value place are is faulty.
      (IsClearWhole-from_exact hss_key_exact).never_both bytes value faulty.0 are is faulty.2;
  endorsement = λ name bytes value place are is faulty. faulty;
}
