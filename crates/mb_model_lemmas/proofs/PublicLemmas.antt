-- What is true of a root record and of a public record that can be spelled: their numbers are small, and each of their
-- entries can be spelled too. And of the signatures that a root record still has to be given: how many they are, and
-- by which key.
use Rattle.std.proofs.Common.{◌≡◌, ◌≤◌, ℕ, suc, ◌-◌, List, [], ◌∷◌, ◌++◌}
use Rattle.std.proofs.Common.{length, map, Option, None, Some, refl, ap, arith}
use Rattle.std.specs.Prelude.{All, IfSome}
use Rattle.std.specs.List.{AllByRecursion}
use Rattle.std.proofs.lemmas.List.{length-map}
use Rattle.std.proofs.lemmas.List.Elements.{All-nil, All-cons}
use Rattle.mb_format.specs.Combinators.{optional}
use Rattle.mb_format.proofs.Compositions.{items_all}
use Rattle.mb_model.specs.declared.key.KeySeed.{KeySeed}
use Rattle.mb_model.specs.declared.entry.Entry.{Entry}
use Rattle.mb_model.specs.declared.entry.PublicEntry.{PublicEntry}
use Rattle.mb_model.specs.declared.entry.SignedEntry.{SignedEntry}
use Rattle.mb_model.specs.declared.stored.Outgoing.{Outgoing}
use Rattle.mb_model.specs.declared.stored.Pending.{Pending}
use Rattle.mb_model.specs.declared.stored.Public.{Public}
use Rattle.mb_model.specs.declared.stored.Root.{Root}
use Rattle.mb_model.specs.records.EntryFormat.{entry_format, signed_entry_format}
use Rattle.mb_model.specs.machine.OrderEffects.{entry_signed_by}
use Rattle.mb_model.specs.records.RootFormat.{outgoing_format, pending_format, root_format}
use Rattle.mb_model.proofs.AllowedFields.{root_fields, pending_fields, public_fields}
use Rattle.mb_model.specs.memories.StoredLog.{signer_by, entries_signed_for, how_many_unsigned, outgoing_of}
use Rattle.mb_model.specs.memories.PublicRecord.{public_entry_format, public_format}
use Rattle.mb_model.specs.memories.OldFlash.{with_signature, without_signature}

-- ---- the root

-- the numbers in a root are small
pub record IsBounded (root : Root) : Type 0 where
  pub area : root.area ≤ 1
  pub uses : root.uses ≤ 32
  pub outgoing : IfSome (outgoing_of root.pending) (λ outgoing. outgoing.uses ≤ 32)
  pub unsigned : how_many_unsigned root.pending ≤ 2

handed_over : (outgoing : Option Outgoing) → (optional outgoing_format).Allowed outgoing
    → IfSome outgoing (λ o. o.uses ≤ 32)
unfolding outgoing_format
handed_over None is = tt
handed_over (Some outgoing) (_, (seed, uses)) = uses.1

pending_outgoing : (pending : Option Pending) → (optional pending_format).Allowed pending
    → IfSome (outgoing_of pending) (λ o. o.uses ≤ 32)
pending_outgoing None is = tt
pending_outgoing (Some pending) (_, is) = handed_over pending.outgoing (pending_fields pending is).outgoing

pending_unsigned : (pending : Option Pending) → (optional pending_format).Allowed pending
    → how_many_unsigned pending ≤ 2
pending_unsigned None is = omega arith
pending_unsigned (Some pending) (_, is) = (pending_fields pending is).most_unsigned

pub bounded_by : (root : Root) → root_format.Allowed root → IsBounded root
bounded_by root is =
    let its = root_fields root is in
    record {
      area = its.area;
      uses = its.uses;
      outgoing = pending_outgoing root.pending its.pending;
      unsigned = pending_unsigned root.pending its.pending;
    }

-- ---- the public record

-- What holds of each entry of a public record, those with a signature before those without one, holds of the signed
-- entries and of the entries that are still to be signed.

pub public_entries : (public : Public) → public_format.Allowed public
    → AllByRecursion public_entry_format.Allowed public.entries
public_entries public is =
    (items_all public_entry_format (length public.entries) public.entries (public_fields public is).entries).1

signed_from_public : (signed : SignedEntry) → public_entry_format.Allowed (with_signature signed)
    → signed_entry_format.Allowed signed
unfolding public_entry_format signed_entry_format
signed_from_public signed (entry, (_, signature)) = (entry, signature)

entry_from_public : (entry : Entry) → public_entry_format.Allowed (without_signature entry)
    → entry_format.Allowed entry
unfolding public_entry_format
entry_from_public entry is = is.0

pub signed_front : (signed : List SignedEntry) (rest : List PublicEntry)
    → AllByRecursion public_entry_format.Allowed (map with_signature signed ++ rest)
    → All signed_entry_format.Allowed signed
signed_front [] rest are = All-nil signed_entry_format.Allowed
signed_front (one ∷ more) rest (first, others) =
    All-cons signed_entry_format.Allowed one more (signed_from_public one first) (signed_front more rest others)

pub unsigned_rest : (signed : List SignedEntry) (unsigned : List Entry)
    → AllByRecursion public_entry_format.Allowed (map with_signature signed ++ map without_signature unsigned)
    → All entry_format.Allowed unsigned
unsigned_rest [] [] are = All-nil entry_format.Allowed
unsigned_rest [] (entry ∷ more) are =
    All-cons entry_format.Allowed entry more (entry_from_public entry are.0) (unsigned_rest [] more are.1)
unsigned_rest (one ∷ rest) unsigned are = unsigned_rest rest unsigned are.1

pub entry_from_signed : (signed : SignedEntry) → signed_entry_format.Allowed signed → entry_format.Allowed signed.entry
unfolding signed_entry_format
entry_from_signed signed is = is.0

-- ---- signatures that are still to be made

-- as many entries are signed as there are
pub length-signed_for : (device : KeySeed) (uses : ℕ) (outgoing : Option Outgoing) (unsigned : List Entry)
    → length (entries_signed_for device uses outgoing unsigned) ≡ length unsigned
length-signed_for device uses outgoing [] = refl
length-signed_for device uses outgoing (first ∷ rest) =
    let second = signer_by device uses outgoing 1 in
    ap (λ (n : ℕ). suc n) (length-map rest (entry_signed_by second.key second.index))

-- if no key gives way, the device key signs them all
pub signed_by_device : (device : KeySeed) (uses : ℕ) (unsigned : List Entry)
    → entries_signed_for device uses None unsigned ≡ map (entry_signed_by device (uses - 1)) unsigned
signed_by_device device uses [] = refl
signed_by_device device uses (first ∷ rest) = refl
