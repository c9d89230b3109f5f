-- The public key of HSS and a maker's file are read exactly.
use Rattle.std.specs.Prelude.{ℕ, ◌≤◌, ◌<◌, ◌^◌, refl}
use Rattle.std.specs.Int.{w64}
use Rattle.std.proofs.Common.{lit<}
use Rattle.std.proofs.Math.Nat.{pow-le-pow_right, lt_of_le_of_lt}
use Rattle.mb_format.specs.Combinators.{limit, raw, between, pair}
use Rattle.mb_format.specs.Reading.{IsExact}
use Rattle.mb_format.proofs.Fields.{wide8, wide32, wide64, raw_exact, between_exact, mark_exact}
use Rattle.mb_format.proofs.Compositions.{both_exact, pair_exact, as_record_exact, then_value_exact}
use Rattle.mb_model.proofs.KeyFormatLaws.{public_key_exact}
use Rattle.mb_hss.specs.declared.limits.TheConstants.{LEVEL_LIMIT}
use Rattle.mb_hss.specs.HssKeyFormat.{hss_key_format}
use Rattle.mb_hss.specs.MakerFormat.{maker_format}

pub hss_key_exact : IsExact hss_key_format
unfolding hss_key_format
hss_key_exact =
    let parts = pair_exact (between_exact wide32 (lit< tt)) public_key_exact in
    as_record_exact _ _ parts (λ p h. refl) (λ key. refl)

-- the numbers of a maker fit into eight bytes
numbers_fit : (levels : ℕ) → levels ≤ LEVEL_LIMIT → 32 ^ levels < limit w64
numbers_fit levels within = lt_of_le_of_lt (pow-le-pow_right (lit< tt) within) (lit< tt)

seed_and_next :
    (levels : ℕ) → (1 ≤ levels) × (levels ≤ LEVEL_LIMIT) → IsExact (pair (raw 32) (between w64 0 (32 ^ levels)))
seed_and_next levels within = pair_exact (raw_exact 32) (between_exact wide64 (numbers_fit levels within.1))

pub maker_exact : IsExact maker_format
unfolding maker_format
maker_exact =
    let parts = both_exact (between_exact wide8 (lit< tt)) seed_and_next in
    then_value_exact mark_exact (as_record_exact _ _ parts (λ p h. refl) (λ maker. refl))
