-- The keys of a maker, all derived from one seed. Which of them does a number use at each level, and at which index?
use Rattle.std.specs.Prelude.{ℕ, ◌-◌, ◌/◌, ◌%◌, ◌^◌, ◌≤◌, List, ◌∷◌, ◌++◌, take}
use Rattle.std.specs.Int.{w8, w64, to_be_bytes}
use Rattle.sha2.specs.Sha256.{sha256}
use Rattle.mb_model.specs.declared.separators.TheConstants.{LEVEL_SECRET, LEVEL_IDENTIFIER, MAKER_SECRET}
use Rattle.mb_model.specs.declared.key.KeySeed.{KeySeed}
use Rattle.mb_model.specs.signatures.Key.{key_bytes}
use Rattle.mb_model.specs.signatures.Signing.{public_of}
use Rattle.mb_hss.specs.declared.limits.TheConstants.{LEVEL_LIMIT}
use Rattle.mb_hss.specs.declared.key.HssKey.{HssKey}
use Rattle.mb_hss.specs.declared.maker.Maker.{Maker}

-- a maker has 1 to 8 levels, and has used at most the 32^levels numbers from 0 on
pub record IsMaker (maker : Maker) : Type 0 where
  pub least : 1 ≤ maker.levels
  pub most : maker.levels ≤ LEVEL_LIMIT
  pub next : maker.next ≤ 32 ^ maker.levels

-- a new maker, derived from 32 bytes of noise
unfoldable pub new_maker : List ℕ → ℕ → Maker
new_maker noise levels = record { levels = levels; seed = sha256 (MAKER_SECRET ∷ noise); next = 0 }

-- the key of a level and a prefix
unfoldable pub level_key : List ℕ → ℕ → ℕ → KeySeed
level_key seed level prefix = record {
  identifier = take 16 (sha256 (LEVEL_IDENTIFIER ∷ seed ++ to_be_bytes w8 level ++ to_be_bytes w64 prefix));
  seed = sha256 (LEVEL_SECRET ∷ seed ++ to_be_bytes w8 level ++ to_be_bytes w64 prefix);
}

-- A number has a digit to the base 32 for each level. At a level it uses the key whose prefix is the digits of the
-- levels above, at the index that is the digit of the level.
abbrev pub prefix_at : ℕ → ℕ → ℕ → ℕ
prefix_at levels number level = number / 32 ^ (levels - level)

abbrev pub index_at : ℕ → ℕ → ℕ → ℕ
index_at levels number level = number / 32 ^ (levels - level - 1) % 32

-- the key that a number uses at a level, and its public key as bytes
abbrev pub key_at : Maker → ℕ → ℕ → KeySeed
key_at maker number level = level_key maker.seed level (prefix_at maker.levels number level)

abbrev pub public_at : Maker → ℕ → ℕ → List ℕ
public_at maker number level = key_bytes (public_of (key_at maker number level))

-- the maker's public key: every number has the prefix 0 at level 0
unfoldable pub maker_key : Maker → HssKey
maker_key maker = record { levels = maker.levels; top = public_of (level_key maker.seed 0 0) }
