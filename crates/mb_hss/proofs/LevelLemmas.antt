-- The keys of a maker's levels, as they are derived.
use Rattle.std.proofs.Common.{◌≡◌, ℕ, List, [], ◌∷◌, ◌++◌, take, refl, sym, ap, ◌∙◌, append_assoc}
use Rattle.std.specs.Int.{w8, w64, to_be_bytes}
use Rattle.sha2.specs.Sha256.{sha256}
use Rattle.mb_model.specs.declared.key.KeySeed.{KeySeed}
use Rattle.mb_hss.specs.MakerKeys.{level_key}

-- what is hashed in three pieces
pub derived : (mark : ℕ) (seed whose first second result : List ℕ) → whose ≡ first ++ second →
    result ≡ sha256 ((mark ∷ []) ++ seed ++ whose) → result ≡ sha256 (mark ∷ seed ++ first ++ second)
derived mark seed whose first second result is hashed =
    hashed ∙ ap (λ (x : List ℕ). sha256 ((mark ∷ seed) ++ x)) is ∙ ap sha256 (sym (append_assoc (mark ∷ seed) first second))

pub level_key_is : (seed : List ℕ) (level prefix : ℕ) (identifier secret : List ℕ) →
    identifier ≡ take 16 (sha256 (0x15 ∷ seed ++ to_be_bytes w8 level ++ to_be_bytes w64 prefix)) →
    secret ≡ sha256 (0x14 ∷ seed ++ to_be_bytes w8 level ++ to_be_bytes w64 prefix) →
    ◌≡◌ {A = KeySeed} (record { identifier = identifier; seed = secret }) (level_key seed level prefix)
unfolding level_key
level_key_is seed level prefix identifier secret first second = rw (first, second) refl
