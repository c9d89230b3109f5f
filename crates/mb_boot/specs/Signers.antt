-- The keys that sign unsigned entries, and their trees. Is a tree built anew where it is on the bench?
use Rattle.std.specs.Prelude.{◌≡◌, ℕ, ◌≤◌, ◌⊎◌, List, None, IsSome, IfSome}
use Rattle.mb_model.specs.declared.stored.Header.{Header}
use Rattle.mb_model.specs.declared.stored.Root.{Root}
use Rattle.mb_model.specs.memories.Flash.{HoldsHeader}
use Rattle.mb_model.specs.memories.StoredLog.{outgoing_of, signer_of}
use Rattle.mb_signer.specs.declared.bench.Bench.{Bench}
use Rattle.mb_signer.specs.Benches.{HasTree, HasRoom}

-- the device key, and one that gives way, have each had at most this many uses
pub record IsUsedAtMost (most : ℕ) (root : Root) : Type 0 where
  pub device : root.uses ≤ most
  pub outgoing : IfSome (outgoing_of root.pending) (λ outgoing. outgoing.uses ≤ most)

-- the tree of the key that signs the unsigned entry at a place, 0 or 1, is on the bench
abbrev pub HasSigner : Bench → Root → ℕ → Type 0
HasSigner bench root place = HasTree bench (signer_of root place).key

-- the trees of the keys that sign the unsigned entries are on the bench
pub record HasSigners (bench : Bench) (root : Root) : Type 0 where
  pub first : HasSigner bench root 0
  pub second : HasSigner bench root 1

-- the tree of the device key is on the bench, and beside it that of the key that signs first, or room for it
pub record HoldsDeviceTree (bench : Bench) (root : Root) : Type 0 where
  pub device : HasTree bench root.device
  pub first : HasRoom bench ⊎ HasSigner bench root 0

-- the flash has an unsigned entry for this root, and no device key gives way: the device key signs it
pub record DeviceKeySigns (flash : List ℕ) (root : Root) : Type 0 where
  pub header : Header
  pub holds : HoldsHeader flash root.area header
  pub some : IsSome header.first
  pub stays : outgoing_of root.pending ≡ None
