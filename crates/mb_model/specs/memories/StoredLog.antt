-- Which log is meant by stored entries whose last ones are not signed yet. Is what was committed fixed, although its
-- signatures are still to be made?
use Rattle.std.specs.Prelude.{◌≡◌, ◌≢◌, ℕ, ◌-◌, ◌==◌, List, [], ◌∷◌, ◌++◌, length, map, Option, None, Some}
use Rattle.std.specs.Prelude.{if◌then◌else◌}
use Rattle.mb_model.specs.declared.key.KeySeed.{KeySeed}
use Rattle.mb_model.specs.declared.entry.Entry.{Entry}
use Rattle.mb_model.specs.declared.entry.SignedEntry.{SignedEntry}
use Rattle.mb_model.specs.declared.stored.Root.{Root}
use Rattle.mb_model.specs.declared.stored.Pending.{Pending}
use Rattle.mb_model.specs.declared.stored.Outgoing.{Outgoing}
use Rattle.mb_model.specs.declared.stored.Signer.{Signer}
use Rattle.mb_model.specs.machine.OrderEffects.{entry_signed_by}

-- how many entries are not signed yet
abbrev pub how_many_unsigned : Option Pending → ℕ
how_many_unsigned None = 0
how_many_unsigned (Some pending) = pending.unsigned

-- two entries are left unsigned only if the outgoing key signs the first of them
abbrev pub CanSign : Option Pending → Type 0
CanSign None = Unit {0}
CanSign (Some pending) = pending.outgoing ≡ None → pending.unsigned ≡ 1

-- the unsigned entries are as many as the root says, two only if the outgoing key signs the first
pub record AreCounted (pending : Option Pending) (unsigned : List Entry) : Type 0 where
  pub counted : length unsigned ≡ how_many_unsigned pending
  pub can_sign : CanSign pending

-- if the device key signs the first unsigned entry, it has used an index for that
abbrev pub HasIndex : Root → Option Pending → Type 0
HasIndex root None = Unit {0}
HasIndex root (Some pending) = pending.outgoing ≡ None → root.uses ≢ 0

-- Who signs the unsigned entry at a place, 0 or 1? The device key does with the index that it used last. If a key gives
-- way, this key signs the first entry with the index that it used last, and the device key the second with its first
-- index.
abbrev pub signer_by : KeySeed → ℕ → Option Outgoing → ℕ → Signer
signer_by device uses None place = record { key = device; index = uses - 1 }
signer_by device uses (Some outgoing) place =
    if place == 0 then record { key = outgoing.seed; index = outgoing.uses - 1 } else record { key = device; index = 0 }

-- The unsigned entries, two at most, with the signatures that they will have. They are signed in the version that they
-- have, also in an old image; the next order's entry has version 2.
abbrev pub entries_signed_for : KeySeed → ℕ → Option Outgoing → List Entry → List SignedEntry
entries_signed_for device uses outgoing [] = []
entries_signed_for device uses outgoing (first ∷ rest) =
    let one = signer_by device uses outgoing 0 in
    let other = signer_by device uses outgoing 1 in
    entry_signed_by one.key one.index first ∷ map (entry_signed_by other.key other.index) rest

abbrev pub outgoing_of : Option Pending → Option Outgoing
outgoing_of None = None
outgoing_of (Some pending) = pending.outgoing

-- who signs the unsigned entry at a place, by the root record
abbrev pub signer_of : Root → ℕ → Signer
signer_of root place = signer_by root.device root.uses (outgoing_of root.pending) place

-- the log that the stored entries and the root record mean
unfoldable pub log_completed_by : Root → List SignedEntry → List Entry → List SignedEntry
log_completed_by root signed unsigned =
    signed ++ entries_signed_for root.device root.uses (outgoing_of root.pending) unsigned
