-- The state that stored contents mean.
use Rattle.std.proofs.Common.{◌≡◌, ◌≤◌, ℕ, List, [], ◌∷◌, ◌++◌, length, map, Option, None, Some, sym, ap, subst, ◌∙◌, arith, length-append}
use Rattle.std.specs.Prelude.{All, IfSome}
use Rattle.std.proofs.lemmas.List.Elements.{All-nil, All-cons, All-append, All-head, All-tail}
use Rattle.mb_model.specs.declared.key.KeySeed.{KeySeed}
use Rattle.mb_model.specs.declared.entry.Entry.{Entry}
use Rattle.mb_model.specs.declared.entry.SignedEntry.{SignedEntry}
use Rattle.mb_model.specs.declared.state.State.{State}
use Rattle.mb_model.specs.declared.stored.Outgoing.{Outgoing}
use Rattle.mb_model.specs.declared.stored.Signer.{Signer}
use Rattle.mb_model.specs.records.EntryFormat.{entry_format}
use Rattle.mb_model.specs.owners.Log.{entries_of, layers_of}
use Rattle.mb_model.specs.machine.OrderEffects.{entry_signed_by}
use Rattle.mb_model.specs.memories.StoredLog.{HasIndex, signer_by, entries_signed_for, outgoing_of, log_completed_by}
use Rattle.mb_model.specs.memories.Memory.{IsImage}
use Rattle.mb_model.specs.memories.Meaning.{Contents, FlashForm, HoldsContentsBy, state_of_contents, is_live}
use Rattle.mb_model.specs.memories.Meaning.{IsWellFormedBy}
use Rattle.mb_model.specs.memories.Faults.{AreSound, IsFaultyBy, HasFaultBy}
use Rattle.mb_model.specs.signatures.Signing.{public_of}
use Rattle.mb_model.specs.memories.Valid.{IsValidState}
use Rattle.mb_model_lemmas.proofs.PublicLemmas.{length-signed_for}
use Rattle.mb_image.specs.declared.image.ImageEnd.{ImageEnd}
use Rattle.mb_image.specs.declared.image.ImageEnd.TheVariants as end
use Rattle.mb_image.specs.Ends.{fault_of}
use Rattle.mb_image.specs.Stored.{CanBeCompleted}

abbrev pub IsSpelled : SignedEntry → Type 0
IsSpelled signed = entry_format.Allowed signed.entry

signed_by_spelled : (key : KeySeed) (index : ℕ) (entry : Entry) → entry_format.Allowed entry → IsSpelled (entry_signed_by key index entry)
unfolding entry_signed_by
signed_by_spelled key index entry allowed = allowed

all_by_spelled : (key : KeySeed) (index : ℕ) (entries : List Entry) → All entry_format.Allowed entries → All IsSpelled (map (entry_signed_by key index) entries)
all_by_spelled key index [] are = All-nil IsSpelled
all_by_spelled key index (entry ∷ more) are =
    All-cons IsSpelled (entry_signed_by key index entry) (map (entry_signed_by key index) more) (signed_by_spelled key index entry (All-head entry_format.Allowed entry more are)) (all_by_spelled key index more (All-tail entry_format.Allowed entry more are))

signed_for_spelled : (device : KeySeed) (uses : ℕ) (outgoing : Option Outgoing) (unsigned : List Entry) → All entry_format.Allowed unsigned → All IsSpelled (entries_signed_for device uses outgoing unsigned)
signed_for_spelled device uses outgoing [] are = All-nil IsSpelled
signed_for_spelled device uses outgoing (first ∷ rest) are =
    let one : Signer = signer_by device uses outgoing 0 in
    let other : Signer = signer_by device uses outgoing 1 in
    All-cons IsSpelled (entry_signed_by one.key one.index first) (map (entry_signed_by other.key other.index) rest)
    (signed_by_spelled one.key one.index first (All-head entry_format.Allowed first rest are)) (all_by_spelled other.key other.index rest (All-tail entry_format.Allowed first rest are))

-- each entry of the completed log has a spelling
pub meant_spelled : (contents : Contents) (state : State) → CanBeCompleted contents → state ≡ state_of_contents contents → All IsSpelled state.log
unfolding state_of_contents log_completed_by
meant_spelled c state can is =
    subst (λ (s : State). All IsSpelled s.log) (sym is)
    (All-append IsSpelled c.signed (entries_signed_for c.root.device c.root.uses (outgoing_of c.root.pending) c.unsigned) can.signed_spelled
    (signed_for_spelled c.root.device c.root.uses (outgoing_of c.root.pending) c.unsigned can.unsigned_spelled))

-- there are few
pub meant_short : (contents : Contents) (state : State) → CanBeCompleted contents → state ≡ state_of_contents contents → length state.log ≤ 128
unfolding state_of_contents log_completed_by
meant_short c state can is =
    let signed : List SignedEntry = entries_signed_for c.root.device c.root.uses (outgoing_of c.root.pending) c.unsigned in
    let whole : length state.log ≡ length (c.signed ++ signed) = ap (λ (s : State). length s.log) is in
    omega (arith, whole, can.few, length-append c.signed signed, length-signed_for c.root.device c.root.uses (outgoing_of c.root.pending) c.unsigned)

pub meant_layers : (contents : Contents) (state : State) → state ≡ state_of_contents contents → state.layers ≡ layers_of (entries_of state.log)
unfolding state_of_contents
meant_layers c state is = ap (λ (s : State). s.layers) is ∙ sym (ap (λ (s : State). layers_of (entries_of s.log)) is)

pub meant_device : (contents : Contents) (state : State) → state ≡ state_of_contents contents → public_of contents.root.device ≡ public_of state.device
unfolding state_of_contents
meant_device c state is = sym (ap (λ (s : State). public_of s.device) is)

-- a valid state is what sound contents mean
pub sound_where : (contents : Contents) (state : State) → HasIndex contents.root contents.root.pending → state ≡ state_of_contents contents → IsValidState state → AreSound contents × (state ≡ state_of_contents contents)
sound_where c state index is valid = ((index, subst IsValidState is valid), is)

pub not_sound : (contents : Contents) (state : State) → state ≡ state_of_contents contents → (IsValidState state → ⊥) → AreSound contents → ⊥
not_sound c state is fails sound = fails (subst IsValidState (sym is) sound.1)

-- a live image
pub live_image : (Form : FlashForm) (image flash bbram : List ℕ) (contents : Contents) (state : State) → IsImage image flash bbram → HoldsContentsBy Form flash bbram contents
    → AreSound contents → state ≡ state_of_contents contents → IsWellFormedBy Form image (Some state)
live_image Form image flash bbram c state parts holds sound is = record {
  flash = flash;
  bbram = bbram;
  image_is = parts;
  stands = record { sized = parts.1; meaning = is_live c holds sound.0 (ap Some is) };
  valid = subst IsValidState (sym is) sound.1;
}

-- the fault of the memories of an image is one of the image
pub fault_there : (Form : FlashForm) (image flash bbram : List ℕ) (ended : ImageEnd) → IsImage image flash bbram → IfSome (fault_of ended) (IsFaultyBy Form flash bbram) → IfSome (fault_of ended) (HasFaultBy Form image)
fault_there Form image flash bbram end.Length is faulty = absurd faulty
fault_there Form image flash bbram end.Root is faulty = (flash, bbram, is, faulty)
fault_there Form image flash bbram end.Public is faulty = (flash, bbram, is, faulty)
fault_there Form image flash bbram end.RegionTwo is faulty = (flash, bbram, is, faulty)
fault_there Form image flash bbram end.RegionThree is faulty = (flash, bbram, is, faulty)
fault_there Form image flash bbram end.State is faulty = (flash, bbram, is, faulty)
fault_there Form image flash bbram end.NoMemory is faulty = tt
