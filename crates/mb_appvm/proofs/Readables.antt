-- What the code of a layer may read, as the secrets of region 2 and of region 3.
use Rattle.std.proofs.Common.{◌≡◌, ℕ, ◌==◌, zero, suc, true, false, Some, None, refl, arith, if◌then◌else◌}
use mathlib.Core.Path.{fun_ext}
use Rattle.mb_model.specs.declared.layer.Layers.{Layers}
use Rattle.mb_model.specs.declared.region.Region.{Region}
use Rattle.mb_model.specs.owners.Layers.{is_runnable}
use Rattle.mb_model.specs.application.Runs.{readable_secrets}
use Rattle.mb_appvm.specs.Acting.{secrets_among}

-- the code of layer 3 reads region 3 alone, if it may run
pub three_reads : (layers : Layers) (two three : Region) → is_runnable layers 3 ≡ true
    → secrets_among None (Some three.secrets) ≡ readable_secrets layers 3 two three
three_reads layers two three runs = fun_ext by
  where
    by : (region : ℕ) → secrets_among None (Some three.secrets) region ≡ readable_secrets layers 3 two three region
    by zero = refl
    by (suc zero) = refl
    by (suc (suc zero)) = refl
    by (suc (suc (suc zero))) = rw runs refl
    by (suc (suc (suc (suc region)))) =
        let not_two : (suc (suc (suc (suc region))) == 2) ≡ false = grind arith in
        let not_three : (suc (suc (suc (suc region))) == 3) ≡ false = grind arith in
        rw (not_two, not_three) refl

-- the code of layer 2 reads region 2, if it may run, and region 3, if layer 3 may run
pub two_reads : (layers : Layers) (two three : Region) → is_runnable layers 2 ≡ true
    → secrets_among (Some two.secrets) (if is_runnable layers 3 then Some three.secrets else None) ≡ readable_secrets layers 2 two three
two_reads layers two three runs = fun_ext by
  where
    by : (region : ℕ) → secrets_among (Some two.secrets) (if is_runnable layers 3 then Some three.secrets else None) region ≡ readable_secrets layers 2 two three region
    by zero = refl
    by (suc zero) = refl
    by (suc (suc zero)) = rw runs refl
    by (suc (suc (suc zero))) = refl
    by (suc (suc (suc (suc region)))) =
        let not_two : (suc (suc (suc (suc region))) == 2) ≡ false = grind arith in
        let not_three : (suc (suc (suc (suc region))) == 3) ≡ false = grind arith in
        rw (not_two, not_three) refl
