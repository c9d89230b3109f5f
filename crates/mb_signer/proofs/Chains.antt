-- Chains, one step and one chain at a time.
use Rattle.std.proofs.Common.{◌≡◌, ℕ, ◌+◌, List, [], ◌++◌, refl, add-one, arith}
use Rattle.mb_model.specs.declared.key.KeySeed.{KeySeed}
use Rattle.mb_model.specs.signatures.Winternitz.{coef, chain_step, value_after_steps, value_after_count}
use Rattle.mb_model.specs.signatures.Signing.{private_value, public_ends, signed_values}
use Rattle.mb_lms.proofs.Digits.{steps_none}

pub steps_next : (id : List ℕ) (q i n : ℕ) (x : List ℕ) →
    value_after_count id q i 0 (n + 1) x ≡ chain_step id q i n (value_after_count id q i 0 n x)
unfolding value_after_count
steps_next id q i n x = let e : 0 + n ≡ n = omega arith in rw (add-one, e) refl

pub ruleset chain_rules = (steps_none, steps_next)

pub ends_none : (key : KeySeed) (q : ℕ) → public_ends key q 0 ≡ []
unfolding public_ends
ends_none key q = refl

pub ends_next : (key : KeySeed) (q n : ℕ) →
    public_ends key q (n + 1) ≡ public_ends key q n ++ value_after_count key.identifier q n 0 15 (private_value key q n)
unfolding public_ends
ends_next key q n = rw add-one refl

pub ruleset end_rules = (ends_none, ends_next)

pub signed_none : (key : KeySeed) (q : ℕ) (digits : List ℕ) → signed_values key q digits 0 ≡ []
unfolding signed_values
signed_none key q digits = refl

pub signed_next : (key : KeySeed) (q : ℕ) (digits : List ℕ) (n last : ℕ) (value : List ℕ) → last ≡ coef digits n 4 →
    value ≡ value_after_steps key.identifier q n 0 last (private_value key q n) →
    signed_values key q digits (n + 1) ≡ signed_values key q digits n ++ value
unfolding signed_values
signed_next key q digits n last value e f = rw (add-one, f, e) refl
