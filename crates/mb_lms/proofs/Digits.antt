-- The digits of a hash, the steps of a chain, and the ends of chains one after another.
use Rattle.std.proofs.Common.{◌≡◌, ℕ, ◌+◌, ◌-◌, ◌^◌, List, ◌∷◌, ◌++◌, refl, add-one, sym, ◌∙◌, append-nil, append_assoc}
use Rattle.std.specs.Int.{w16, w32, to_be_bytes}
use Rattle.std.proofs.lemmas.Nat.{and_le_l}
use Rattle.sha2.specs.Sha256.{sha256}
use Rattle.mb_model.specs.signatures.Winternitz.{coef, shortfall, chain_step, value_after_count, value_after_steps, value_at, chain_ends}

pub ruleset digit_rules = and_le_l

pub shortfall_none : (s : List ℕ) (w : ℕ) → shortfall s w 0 ≡ 0
unfolding shortfall
shortfall_none s w = refl

pub shortfall_next : (s : List ℕ) (w n : ℕ) → shortfall s w (n + 1) ≡ shortfall s w n + (2 ^ w - 1 - coef s n w)
unfolding shortfall
shortfall_next s w n = rw add-one refl

pub ruleset shortfall_rules = (shortfall_none, shortfall_next)

pub steps_none : (id : List ℕ) (q i a : ℕ) (x : List ℕ) → value_after_count id q i a 0 x ≡ x
unfolding value_after_count
steps_none id q i a x = refl

pub steps_next : (id : List ℕ) (q i a n : ℕ) (x : List ℕ) →
    value_after_count id q i a (n + 1) x ≡ sha256 (id ++ to_be_bytes w32 q ++ to_be_bytes w16 i ++ (a + n) ∷ value_after_count id q i a n x)
unfolding value_after_count chain_step
steps_next id q i a n x = rw add-one refl

pub ruleset chain_rules = (steps_none, steps_next)

-- what precedes the ends, with none of them and with one more
pub ends_begun : (start id : List ℕ) (q w : ℕ) (digits values : List ℕ) →
    start ≡ start ++ chain_ends id q w digits values 0
unfolding chain_ends
ends_begun start id q w digits values = sym (append-nil start)

pub ends_grown : (start id : List ℕ) (q w : ℕ) (digits values : List ℕ) (n : ℕ) (end : List ℕ) →
    end ≡ value_after_steps id q n (coef digits n w) (2 ^ w - 1) (value_at values n) →
    (start ++ chain_ends id q w digits values n) ++ end ≡ start ++ chain_ends id q w digits values (n + 1)
unfolding chain_ends
ends_grown start id q w digits values n end e =
    append_assoc start (chain_ends id q w digits values n) end ∙ rw (add-one, e) refl
