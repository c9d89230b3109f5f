-- The trees of the keys at hand while one event is served. Is the tree of a key among them?
use Rattle.std.specs.Prelude.{◌≡◌, ◌⊎◌, Option, None, Some}
use Rattle.mb_model.specs.declared.key.KeySeed.{KeySeed}
use Rattle.mb_signer.specs.declared.bench.Bench.{Bench}
use Rattle.mb_signer.specs.declared.key_tree.KeyTree.{KeyTree}

-- a slot of a bench holds the tree of this key
abbrev pub IsTreeAt : Option KeyTree → KeySeed → Type 0
IsTreeAt None seed = ⊥
IsTreeAt (Some own) seed = own.seed ≡ seed

-- the tree of this key is on the bench
abbrev pub HasTree : Bench → KeySeed → Type 0
HasTree bench seed = IsTreeAt bench.first seed ⊎ IsTreeAt bench.second seed

-- no tree is on the bench
abbrev pub IsBare : Bench → Type 0
IsBare bench = (bench.first ≡ None) × (bench.second ≡ None)

-- the bench has room for one more tree
abbrev pub HasRoom : Bench → Type 0
HasRoom bench = (bench.first ≡ None) ⊎ (bench.second ≡ None)

-- each tree that was on the bench is there still
abbrev pub KeepsTrees : Bench → Bench → Type 0
KeepsTrees before after = (key : KeySeed) → HasTree before key → HasTree after key
