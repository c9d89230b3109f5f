-- A state for which a memory stands can be stored, and so can that of a new device.
use Rattle.std.proofs.Common.{◌≡◌, ◌≤◌, ℕ, List, [], ◌∷◌, ◌++◌, inl, inr, length, map, take, Option, None, Some, Bool, true, false, sym, subst, arith, length-append}
use Rattle.std.specs.Prelude.{All, unwrap_or, if◌then◌else◌, IfSome}
use Rattle.std.specs.Option.{option_or}
use Rattle.std.specs.List.{list_any, AllByRecursion}
use Rattle.std.proofs.lemmas.List.Elements.{All-nil, All-cons, All-push, All-filter, All-append, All-from_recursion, recursion_from_All}
use Rattle.mb_format.specs.Combinators.{optional}
use Rattle.mb_format.proofs.Compositions.{items_all}
use Rattle.mb_model.specs.declared.key.KeySeed.{KeySeed}
use Rattle.mb_model.specs.declared.key.PublicKey.{PublicKey}
use Rattle.mb_model.specs.declared.layer.Layers.{Layers}
use Rattle.mb_model.specs.declared.entry.Entry.{Entry}
use Rattle.mb_model.specs.declared.entry.Entry.TheVariants.{Birth, Change, NewKey, Succession}
use Rattle.mb_model.specs.declared.entry.SignedEntry.{SignedEntry}
use Rattle.mb_model.specs.declared.region.Region.{Region}
use Rattle.mb_model.specs.declared.region.RegionKey.{RegionKey}
use Rattle.mb_model.specs.declared.state.Codes.{Codes}
use Rattle.mb_model.specs.declared.state.State.{State}
use Rattle.mb_model.specs.declared.stored.Fate.{Fate}
use Rattle.mb_model.specs.declared.stored.Fate.TheVariants.{Keep, Empty, DropConfiguration, AddKey}
use Rattle.mb_model.specs.declared.stored.Outgoing.{Outgoing}
use Rattle.mb_model.specs.declared.stored.Signer.{Signer}
use Rattle.mb_model.specs.declared.stored.Pending.{Pending}
use Rattle.mb_model.specs.declared.stored.Root.{Root}
use Rattle.mb_model.specs.owners.Layers.{unowned_layers}
use Rattle.mb_model.specs.owners.Log.{entries_of, layers_in, last_of, layers_of}
use Rattle.mb_model.specs.owners.Regions.{is_epoch}
use Rattle.mb_model.specs.machine.LayerEvents.{has_number}
use Rattle.mb_model.specs.records.KeyFormat.{public_key_format}
use Rattle.mb_model.specs.records.LayerFormat.{layers_format}
use Rattle.mb_model.specs.records.EntryFormat.{birth_format, entry_format, signed_entry_format}
use Rattle.mb_model.specs.records.RootFormat.{region_key_format, fate_format, pending_format}
use Rattle.mb_model.specs.records.RegionFormat.{secret_format, secrets_format, keys_format, region_by, region_format, SpellsRegion}
use Rattle.mb_model.specs.machine.OrderEffects.{entry_signed_by}
use Rattle.mb_model.specs.memories.StoredLog.{signer_by, entries_signed_for, outgoing_of, log_completed_by}
use Rattle.mb_model.specs.memories.Flash.{HoldsPublic}
use Rattle.mb_model.specs.memories.OldFlash.{HeldPublic}
use Rattle.mb_model.specs.memories.Meaning.{Contents, FlashForm, HoldsContentsBy, region_after_fate, fate_of_two, fate_of_three, state_of_contents, StandsForBy, IsWellFormedBy, IsWellFormed}
use Rattle.mb_model.specs.memories.Valid.{IsValidState}
use Rattle.mb_model.specs.memories.Factory.{layers_at_birth, serial_from, birth_entry, state_at_birth}
use Rattle.mb_model.proofs.Places.{length-part}
use Rattle.mb_model.proofs.RecordFormatLaws.{few_secrets}
use Rattle.mb_model.proofs.AllowedFields.{root_fields, pending_fields, change_fields, layers_allowed_by}
use Rattle.mb_model.specs.memories.WrittenImage.{written_image, FitsImage}
use Rattle.mb_model_lemmas.proofs.PublicLemmas.{entry_from_signed, length-signed_for}
use Rattle.mb_model_lemmas.specs.FormLaws.{PublicPartsFit, HoldsFittingParts}
use Rattle.mb_model_lemmas.proofs.HeldSegments.{segments_parts_fit}
use Rattle.mb_model_lemmas.proofs.OldFlashLemmas.{old_parts_fit}
use Rattle.mb_model_lemmas.proofs.WrittenImages.{written_is_well_formed}
use Rattle.mb_model_memory.specs.Storable.{IsStorableRegion, IsStorableState}
use Rattle.mb_model_memory.specs.StorableLaws.{StoredStatesAreStorable, OldStatesAreStorable}
use Rattle.mb_model_memory.proofs.CommitLemmas.{live_contents_by}
use Rattle.mb_model_memory.proofs.StorableFormats.{fitting_codes, keep_allowed, small_number, born_seed_allowed, born_public_allowed, unowned_allowed, layers_of_version_two, first_layer_allowed, first_codes_allowed, birth_allowed, signed_allowed}
use Rattle.mb_model_memory.proofs.StorableOrders.{empty_storable}
use Rattle.mb_model_memory.proofs.StorableRecords.{image_fits}

-- ---- the root

fate_two : (pending : Option Pending) → (optional pending_format).Allowed pending → fate_format.Allowed (fate_of_two pending)
fate_two None is = keep_allowed
fate_two (Some pending) (_, is) = (pending_fields pending is).two

fate_three : (pending : Option Pending) → (optional pending_format).Allowed pending → fate_format.Allowed (fate_of_three pending)
fate_three None is = keep_allowed
fate_three (Some pending) (_, is) = (pending_fields pending is).three

-- ---- regions

pub spelled_storable : (bytes : List ℕ) (region : Region) → SpellsRegion bytes region → IsStorableRegion region
unfolding region_format region_by secrets_format keys_format
spelled_storable bytes region (inl none) = subst IsStorableRegion (sym none.1) empty_storable
spelled_storable bytes region (inr spelled) =
    let secrets = spelled.spelled.allowed.1.0 in
    let keys = spelled.spelled.allowed.1.1 in
    record {
      secrets = All-from_recursion secret_format.Allowed region.secrets (items_all secret_format (length region.secrets) region.secrets secrets.1).1;
      few_secrets = omega (arith, secrets.0.1, few_secrets spelled.version);
      keys = All-from_recursion region_key_format.Allowed region.keys (items_all region_key_format (length region.keys) region.keys keys.1).1;
      few_keys = keys.0.1;
    }

added_key : (key : RegionKey) → fate_format.Allowed (AddKey key) → region_key_format.Allowed key
unfolding fate_format
added_key key is = is.1

added_all : (b : Bool) (key : RegionKey) (keys : List RegionKey) → region_key_format.Allowed key → All region_key_format.Allowed keys → All region_key_format.Allowed (if b then keys else keys ++ key ∷ [])
added_all true key keys own are = are
added_all false key keys own are = All-push region_key_format.Allowed keys key are own

-- what is left of a region by a fate that is stored, where it has no more keys than it may
pub fated_storable : (fate : Fate) (region : Region) → fate_format.Allowed fate → IsStorableRegion region → length (region_after_fate fate region).keys ≤ 8 → IsStorableRegion (region_after_fate fate region)
unfolding region_after_fate
fated_storable Keep region allowed is few = is
fated_storable Empty region allowed is few = empty_storable
fated_storable DropConfiguration region allowed is few = record {
  secrets = is.secrets;
  few_secrets = is.few_secrets;
  keys = All-filter (λ (key : RegionKey). is_epoch key.kind) region_key_format.Allowed region.keys is.keys;
  few_keys = few;
}
fated_storable (AddKey key) region allowed is few = record {
  secrets = is.secrets;
  few_secrets = is.few_secrets;
  keys = added_all (list_any (has_number key.number) region.keys) key region.keys (added_key key allowed) is.keys;
  few_keys = few;
}

-- ---- the log

mapped_signed : (key : KeySeed) (index : ℕ) (unsigned : List Entry) → AllByRecursion entry_format.Allowed unsigned → All signed_entry_format.Allowed (map (entry_signed_by key index) unsigned)
mapped_signed key index [] are = All-nil signed_entry_format.Allowed
mapped_signed key index (entry ∷ more) are =
    All-cons signed_entry_format.Allowed (entry_signed_by key index entry) (map (entry_signed_by key index) more) (signed_allowed key index entry are.0) (mapped_signed key index more are.1)

all_signed : (device : KeySeed) (uses : ℕ) (outgoing : Option Outgoing) (unsigned : List Entry) → AllByRecursion entry_format.Allowed unsigned → All signed_entry_format.Allowed (entries_signed_for device uses outgoing unsigned)
all_signed device uses outgoing [] are = All-nil signed_entry_format.Allowed
all_signed device uses outgoing (first ∷ rest) are =
    let one : Signer = signer_by device uses outgoing 0 in
    let other : Signer = signer_by device uses outgoing 1 in
    All-cons signed_entry_format.Allowed (entry_signed_by one.key one.index first) (map (entry_signed_by other.key other.index) rest) (signed_allowed one.key one.index first are.0) (mapped_signed other.key other.index rest are.1)

-- the layers that entries name can be stored
abbrev NamesAllowed : Option Layers → Type 0
NamesAllowed None = Unit {0}
NamesAllowed (Some layers) = (layers_format 2).Allowed layers

entry_names : (entry : Entry) → entry_format.Allowed entry → NamesAllowed (layers_in entry)
unfolding entry_format birth_format
entry_names (Birth version serial key layers) (_, (_, (_, (_, are)))) = layers_of_version_two version layers are
entry_names (Change version position number kind layer cosigned layers kept next) is =
    layers_of_version_two version layers (change_fields kind cosigned kept is).layers_allowed
entry_names (NewKey position number key_number layer kind key) is = tt
entry_names (Succession position key) is = tt

either_names : (later own : Option Layers) → NamesAllowed later → NamesAllowed own → NamesAllowed (option_or later own)
either_names None own is_later is_own = is_own
either_names (Some layers) own is_later is_own = is_later

last_names : (log : List SignedEntry) → AllByRecursion signed_entry_format.Allowed log → NamesAllowed (last_of layers_in (entries_of log))
unfolding last_of
last_names [] are = tt
last_names (signed ∷ rest) are = either_names (last_of layers_in (entries_of rest)) (layers_in signed.entry) (last_names rest are.1) (entry_names signed.entry (entry_from_signed signed are.0))

named_or_none : (named : Option Layers) → NamesAllowed named → (layers_format 2).Allowed (unwrap_or named unowned_layers)
named_or_none None is =
    layers_allowed_by 2 unowned_layers (record { one = unowned_allowed; two = unowned_allowed; three = unowned_allowed })
named_or_none (Some layers) is = is

pub layers_of-allowed : (log : List SignedEntry) → All signed_entry_format.Allowed log → (layers_format 2).Allowed (layers_of (entries_of log))
unfolding layers_of
layers_of-allowed log are = named_or_none (last_of layers_in (entries_of log)) (last_names log (recursion_from_All signed_entry_format.Allowed log are))

-- ---- the state

completed_allowed : (root : Root) (codes : Codes) (signed : List SignedEntry) (unsigned : List Entry) → PublicPartsFit codes signed unsigned
    → All signed_entry_format.Allowed (log_completed_by root signed unsigned)
unfolding log_completed_by
completed_allowed root codes signed unsigned fit =
    All-append signed_entry_format.Allowed signed (entries_signed_for root.device root.uses (outgoing_of root.pending) unsigned) fit.signed_allowed
    (all_signed root.device root.uses (outgoing_of root.pending) unsigned (recursion_from_All entry_format.Allowed unsigned fit.unsigned_allowed))

completed_few : (root : Root) (codes : Codes) (signed : List SignedEntry) (unsigned : List Entry) → PublicPartsFit codes signed unsigned → length (log_completed_by root signed unsigned) ≤ 128
unfolding log_completed_by
completed_few root codes signed unsigned fit =
    omega (arith, fit.together, length-append signed (entries_signed_for root.device root.uses (outgoing_of root.pending) unsigned), length-signed_for root.device root.uses (outgoing_of root.pending) unsigned)

-- what a flash holds by this form fits a device
module _ (Form : FlashForm) (fits : HoldsFittingParts Form) (flash bbram : List ℕ) where
  meant_storable : (contents : Contents) → HoldsContentsBy Form flash bbram contents → length (state_of_contents contents).two.keys ≤ 8 → length (state_of_contents contents).three.keys ≤ 8
      → IsStorableState (state_of_contents contents)
  unfolding state_of_contents
  meant_storable c holds few_two few_three =
      let root = root_fields c.root holds.root.holds.spelled.allowed in
      let public : PublicPartsFit c.codes c.signed c.unsigned = fits flash c.root c.codes c.signed c.unsigned holds.public in
      let log : All signed_entry_format.Allowed (log_completed_by c.root c.signed c.unsigned) = completed_allowed c.root c.codes c.signed c.unsigned public in
      record {
        serial = root.serial;
        device = root.device;
        layers = layers_of-allowed (log_completed_by c.root c.signed c.unsigned) log;
        codes = fitting_codes c.codes public.codes_fit;
        log = log;
        few = completed_few c.root c.codes c.signed c.unsigned public;
        two = fated_storable (fate_of_two c.root.pending) c.two (fate_two c.root.pending root.pending) (spelled_storable holds.two.bytes c.two holds.two.spelled) few_two;
        three = fated_storable (fate_of_three c.root.pending) c.three (fate_three c.root.pending root.pending) (spelled_storable holds.three.bytes c.three holds.three.spelled) few_three;
      }

  pub stands_storable_by : (state : State) → StandsForBy Form flash bbram (Some state) → IsValidState state → IsStorableState state
  stands_storable_by state stands valid =
      let live = live_contents_by Form flash bbram state stands in
      let own : IsValidState (state_of_contents live.contents) = subst IsValidState live.means valid in
      subst IsStorableState (sym live.means) (meant_storable live.contents live.holds own.two.few own.three.few)

pub stands_storable : StoredStatesAreStorable
stands_storable = stands_storable_by HoldsPublic segments_parts_fit

pub stood_storable : OldStatesAreStorable
stood_storable = stands_storable_by HeldPublic old_parts_fit

-- ---- a new device

pub birth_storable : (maker : KeySeed) (index : ℕ) (owner : PublicKey) (code noise : List ℕ) → public_key_format.Allowed owner → length code ≤ 32768 → 48 ≤ length noise
    → IsStorableState (state_at_birth maker index owner code noise)
unfolding state_at_birth
birth_storable maker index owner code noise is short long =
    let serial : length (serial_from noise) ≡ 16 = length-part 32 16 noise (omega (arith, long)) in
    let layers : (layers_format 2).Allowed (layers_at_birth owner code) =
    layers_allowed_by 2 (layers_at_birth owner code) (record {
      one = first_layer_allowed owner code 1 _ is (small_number 1 (omega arith));
      two = unowned_allowed;
      three = unowned_allowed;
    })
    in
    let entry : entry_format.Allowed (birth_entry owner code noise) = birth_allowed (serial_from noise) _ (layers_at_birth owner code) serial (born_public_allowed (take 32 noise) (serial_from noise) 0) layers in
    record {
      serial = serial;
      device = born_seed_allowed (take 32 noise) (serial_from noise) 0;
      layers = layers;
      codes = first_codes_allowed code short;
      log = All-cons signed_entry_format.Allowed (entry_signed_by maker index (birth_entry owner code noise)) [] (signed_allowed maker index (birth_entry owner code noise) entry) (All-nil signed_entry_format.Allowed);
      few = omega arith;
      two = empty_storable;
      three = empty_storable;
    }

-- ---- what is written anew

-- the state of an image can be written
pub fits_by : (Form : FlashForm) → HoldsFittingParts Form → (image : List ℕ) (state : Option State) → IsWellFormedBy Form image state → IfSome state FitsImage
fits_by Form fits image None formed = tt
fits_by Form fits image (Some state) formed =
    image_fits state formed.valid (stands_storable_by Form fits formed.flash formed.bbram state formed.stands formed.valid)

-- what is written for it is well formed for it
pub written_formed_by : (Form : FlashForm) → HoldsFittingParts Form → (image out : List ℕ) (state : Option State) → IsWellFormedBy Form image state → out ≡ written_image state → IsWellFormed out state
written_formed_by Form fits image out state formed written =
    subst (λ (o : List ℕ). IsWellFormed o state) (sym written) (written_is_well_formed state (fits_by Form fits image state formed) formed.valid)
