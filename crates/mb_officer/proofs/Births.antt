-- The state of a new device as it is made is that of the definition, and fits an image.
use Rattle.std.proofs.Common.{◌≡◌, ◌≤◌, ℕ, List, [], ◌∷◌, ◌++◌, length, Some, refl, sym, ap, subst, ◌∙◌, arith}
use Rattle.std.proofs.lemmas.List.Elements.{All-head}
use Rattle.mb_model.specs.declared.key.KeySeed.{KeySeed}
use Rattle.mb_model.specs.declared.key.PublicKey.{PublicKey}
use Rattle.mb_model.specs.declared.layer.Layers.{Layers}
use Rattle.mb_model.specs.declared.entry.Entry.{Entry}
use Rattle.mb_model.specs.declared.entry.Entry.TheVariants.{Birth}
use Rattle.mb_model.specs.declared.entry.SignedEntry.{SignedEntry}
use Rattle.mb_model.specs.declared.state.State.{State}
use Rattle.mb_model.specs.signatures.Key.{IsSized}
use Rattle.mb_model.specs.records.KeyFormat.{public_key_format}
use Rattle.mb_model.specs.records.EntryFormat.{entry_format, signed_entry_format}
use Rattle.mb_model.specs.owners.Regions.{empty_region}
use Rattle.mb_model.specs.signatures.Signing.{public_of, signature_of}
use Rattle.mb_model.specs.machine.SignedTexts.{entry_text}
use Rattle.mb_model.specs.machine.OrderEffects.{entry_signed_by}
use Rattle.mb_model.specs.memories.WrittenImage.{written_image, FitsImage}
use Rattle.mb_model.specs.memories.Factory.{serial_from, first_key, layers_at_birth, birth_entry, codes_at_birth, state_at_birth, IsFactoryImage}
use Rattle.mb_model_lemmas.proofs.FactoryLemmas.{birth_is_valid}
use Rattle.mb_model_lemmas.proofs.PublicLemmas.{entry_from_signed}
use Rattle.mb_model_memory.proofs.StorableMemories.{birth_storable}
use Rattle.mb_model_memory.proofs.StorableRecords.{image_fits}

pub at_least_48 : (noise : List ℕ) → length noise ≡ 48 → 48 ≤ length noise
at_least_48 noise long = omega (arith, long)

-- an owner has a spelling
pub owner_allowed : (owner : PublicKey) → IsSized owner → public_key_format.Allowed owner
unfolding public_key_format
owner_allowed owner sized = (tt, (tt, (sized.identifier, sized.root)))

-- the signature of an entry whose bytes were written
pub birth_signed : (maker : KeySeed) (index : ℕ) (birth : Entry) (signature text empty : List ℕ) → signature ≡ signature_of maker index ((3 ∷ []) ++ text)
    → text ≡ empty ++ entry_format.spelling birth → empty ≡ [] → record { entry = birth; signature = signature } ≡ entry_signed_by maker index birth
unfolding entry_signed_by entry_text
birth_signed maker index birth signature text empty is spelled none =
    ap (λ (s : List ℕ). record { entry = birth; signature = s })
    (is ∙ ap (λ (t : List ℕ). signature_of maker index (3 ∷ t)) (spelled ∙ ap (λ (front : List ℕ). front ++ entry_format.spelling birth) none))

-- ---- a new device

-- the state of a device with this serial, this key, these layers and this code of layer 1
abbrev pub newborn : List ℕ → KeySeed → Layers → List ℕ → List SignedEntry → State
newborn serial key layers code log = record {
  serial = serial;
  layers = layers;
  codes = codes_at_birth code;
  log = log;
  device = key;
  uses = 0;
  two = empty_region;
  three = empty_region;
}

module _ (maker : KeySeed) (index : ℕ) (owner : PublicKey) (code noise : List ℕ) where
  pub birth_is : (serial : List ℕ) (key : KeySeed) (layers : Layers) (birth : Entry) → serial ≡ serial_from noise → key ≡ first_key noise → layers ≡ layers_at_birth owner code
      → birth ≡ Birth 2 serial (public_of key) layers → birth ≡ birth_entry owner code noise
  birth_is serial key layers birth is_serial is_key is_layers is_birth = rw (is_birth, is_serial, is_key, is_layers) refl

  pub state_is : (serial : List ℕ) (key : KeySeed) (layers : Layers) (birth : Entry) (own : ℕ) (signed : SignedEntry) (kept : List ℕ) (log : List SignedEntry) (state : State)
      → serial ≡ serial_from noise → key ≡ first_key noise → layers ≡ layers_at_birth owner code → birth ≡ Birth 2 serial (public_of key) layers
      → own ≡ index → signed ≡ entry_signed_by maker own birth → kept ≡ code → log ≡ signed ∷ [] → state ≡ newborn serial key layers kept log
      → state ≡ state_at_birth maker index owner code noise
  unfolding state_at_birth
  state_is serial key layers birth own signed kept log state is_serial is_key is_layers is_birth is_index is_signed is_code is_log is_state =
      rw (is_state, is_log, is_code, is_signed, is_index, is_birth, is_serial, is_key, is_layers) refl

module _ (maker : KeySeed) (index : ℕ) (owner : PublicKey) (code noise : List ℕ) (is : public_key_format.Allowed owner) (short : length code ≤ 32768) (long : 48 ≤ length noise) where
  birth_spelled : entry_format.Allowed (birth_entry owner code noise)
  unfolding entry_signed_by state_at_birth
  birth_spelled =
      let signed : SignedEntry = entry_signed_by maker index (birth_entry owner code noise) in
      entry_from_signed signed (All-head signed_entry_format.Allowed signed [] (birth_storable maker index owner code noise is short long).log)

  birth_fits : FitsImage (state_at_birth maker index owner code noise)
  birth_fits = image_fits (state_at_birth maker index owner code noise) (birth_is_valid maker index owner code noise) (birth_storable maker index owner code noise is short long)

  pub made_birth : (birth : Entry) → birth ≡ birth_entry owner code noise → entry_format.Allowed birth
  made_birth birth is_birth = subst entry_format.Allowed (sym is_birth) birth_spelled

  pub made_fits : (state : State) → state ≡ state_at_birth maker index owner code noise → FitsImage state
  made_fits state is_state = subst FitsImage (sym is_state) birth_fits

  pub made_image : (state : State) (image : List ℕ) → state ≡ state_at_birth maker index owner code noise → image ≡ written_image (Some state) → IsFactoryImage maker index owner code noise image
  made_image state image is_state is_image = record { fits = birth_fits; written = is_image ∙ ap (λ (s : State). written_image (Some s)) is_state }
