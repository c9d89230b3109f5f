-- The bytes of a statement, and the tree of the key that signs it.
use Rattle.std.specs.Prelude.{◌≡◌, ℕ, List, false, Option, None, Some, Result, Ok, Err}
use Rattle.mb_model.specs.declared.entry.Said.{Said}
use Rattle.mb_model.specs.declared.entry.Statement.{Statement}
use Rattle.mb_model.specs.declared.key.KeySeed.{KeySeed}
use Rattle.mb_model.specs.records.ChainFormat.{statement_format}
use Rattle.mb_model.specs.chains.Listing.{is_signed}
use Rattle.mb_model.specs.signatures.Signing.{signature_of}
use Rattle.mb_model.specs.machine.SignedTexts.{said_text}
use Rattle.mb_model.specs.declared.reply.Reply.{Reply}
use Rattle.mb_model.specs.declared.reply.Reply.TheVariants as reply
use Rattle.mb_device_orders.specs.declared.remembering.Known.{Known}
use Rattle.mb_outbound.specs.declared.kept.RegionTree.{RegionTree}
use Rattle.mb_outbound.specs.declared.stating.Subject.{Subject}
use Rattle.mb_outbound.specs.KeptTrees.{IsKeptFor}
use Rattle.mb_signer.specs.Tree.{IsTreeOf}

-- the statement that says this, at this configuration number and with this signature
abbrev pub signed_statement : ℕ → Said → List ℕ → Statement
signed_statement number said signature = record { number = number; said = said; signature = signature }

-- the bytes of the statement that says this, signed by a key at the index, for this subject
abbrev pub signed_statement_bytes : KeySeed → ℕ → Subject → Said → List ℕ
signed_statement_bytes seed index subject said =
    let text = said_text subject.serial subject.key subject.number said in
    statement_format.spelling (signed_statement subject.number said (signature_of seed index text))

-- ---- what a device knows of itself

-- the key with this number, in the device and in the configuration that are remembered
abbrev pub subject_in : Known → ℕ → Subject
subject_in known key = record { serial = known.serial; key = key; number = known.figures.number }

-- nothing that is remembered has changed but the tree of the region's key that signed last
pub record SameBesidesTree (known known_after : Known) : Type 0 where
  pub serial : known_after.serial ≡ known.serial
  pub figures : known_after.figures ≡ known.figures
  pub two : known_after.two ≡ known.two
  pub three : known_after.three ≡ known.three
  pub device : known_after.trees.value.device ≡ known.trees.value.device

-- a tree is kept, for the key with this number in the region of this place, and it is that of this seed
abbrev pub IsKeptOfSeed : Option RegionTree → ℕ → ℕ → KeySeed → Type 0
IsKeptOfSeed None place number seed = ⊥
IsKeptOfSeed (Some own) place number seed = (own.place ≡ place) × (own.number ≡ number) × IsTreeOf seed own.tree

-- ---- trees once a key has signed

-- once the key has signed, its tree is kept
abbrev pub KeepsTree : {S E : Type 0} → Result (S × Reply) E → Option RegionTree → ℕ → ℕ → Type 0
KeepsTree (Ok told) kept L key =
    (index : ℕ) (statement : List ℕ) → told.1 ≡ reply.Signed key index statement → IsKeptFor kept L key
KeepsTree (Err stop) kept L key = Unit {0}

-- unless a key has signed, the tree that was kept is kept still
abbrev pub LeavesTree : {S E : Type 0} → Result (S × Reply) E → Option RegionTree → Option RegionTree → Type 0
LeavesTree (Ok told) before after = is_signed told.1 ≡ false → after ≡ before
LeavesTree (Err stop) before after = after ≡ before
