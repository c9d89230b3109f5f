-- Digits to the base 32 and bits.
use Rattle.std.proofs.Common.{◌≡◌, ℕ, zero, suc, ◌*◌, ◌^◌, ◌≤◌, refl, arith}

-- 32 to a power of at most 8
pub digit_power : (n : ℕ) → n ≤ 8 → 2 ^ (5 * n) ≡ 32 ^ n
digit_power zero within = refl
digit_power (suc zero) within = refl
digit_power (suc (suc zero)) within = refl
digit_power (suc (suc (suc zero))) within = refl
digit_power (suc (suc (suc (suc zero)))) within = refl
digit_power (suc (suc (suc (suc (suc zero))))) within = refl
digit_power (suc (suc (suc (suc (suc (suc zero)))))) within = refl
digit_power (suc (suc (suc (suc (suc (suc (suc zero))))))) within = refl
digit_power (suc (suc (suc (suc (suc (suc (suc (suc zero)))))))) within = refl
digit_power (suc (suc (suc (suc (suc (suc (suc (suc (suc n))))))))) within = absurd (omega arith)

pub ruleset digit_powers = (digit_power)
