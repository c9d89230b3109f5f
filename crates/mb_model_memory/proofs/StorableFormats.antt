-- What a device makes can be spelled: its keys, the layers and code after an order, and the entries of its log. Each
-- lemma ends in `Allowed` of a format, and `StorableOrders.antt` puts them together for a whole state.
use Rattle.std.proofs.Common.{◌≡◌, ℕ, ◌+◌, ◌≤◌, ◌<◌, List, length, Option, None, Some, Bool, true, false, not}
use Rattle.std.proofs.Common.{refl, sym, ap, subst, arith, lit<}
use Rattle.std.specs.Prelude.{◌==◌, ◌&&◌, nat_lt, IfSome, IsSome, if◌then◌else◌}
use Rattle.std.specs.Int.{w32}
use Rattle.sha2.specs.Sha256.{sha256}
use Rattle.sha2.proofs.Facts256.{length-sha256}
use Rattle.mb_format.specs.Format.{Format}
use Rattle.mb_format.specs.Combinators.{limit, either, optional}
use Rattle.mb_model.specs.declared.key.KeySeed.{KeySeed}
use Rattle.mb_model.specs.declared.key.PublicKey.{PublicKey}
use Rattle.mb_model.specs.declared.key.Trust.{Trust}
use Rattle.mb_model.specs.declared.layer.Trusts.{Trusts}
use Rattle.mb_model.specs.declared.layer.CodeName.{CodeName}
use Rattle.mb_model.specs.declared.layer.Layer.{Layer}
use Rattle.mb_model.specs.declared.layer.Layers.{Layers}
use Rattle.mb_model.specs.declared.layer.Pair.{Pair}
use Rattle.mb_model.specs.declared.order.Act.{Act}
use Rattle.mb_model.specs.declared.order.Act.TheVariants as act
use Rattle.mb_model.specs.declared.order.ChangeKind.{ChangeKind}
use Rattle.mb_model.specs.declared.order.Payload.{Payload}
use Rattle.mb_model.specs.declared.entry.Entry.{Entry}
use Rattle.mb_model.specs.declared.entry.Entry.TheVariants.{Birth, Succession}
use Rattle.mb_model.specs.declared.region.RegionKey.{RegionKey}
use Rattle.mb_model.specs.declared.region.Secret.{Secret}
use Rattle.mb_model.specs.declared.state.Codes.{Codes}
use Rattle.mb_model.specs.declared.stored.Fate.TheVariants.{Keep}
use Rattle.mb_model.specs.owners.Layers.{are_equal, layer_without_owner, layer_of}
use Rattle.mb_model.specs.owners.Rules.{kind_of, change_of, is_load, layer_from_order, loaded_layer, admits, after}
use Rattle.mb_model.specs.owners.Born.{born_key}
use Rattle.mb_model.specs.signatures.Signing.{public_of}
use Rattle.mb_model.specs.machine.SignedTexts.{entry_text}
use Rattle.mb_model.specs.records.KeyFormat.{public_key_format, key_seed_format}
use Rattle.mb_model.specs.records.LayerFormat.{trust_format, one_trust, two_trusts, trust_by, has_of}
use Rattle.mb_model.specs.records.LayerFormat.{code_name_format, layer_format, layers_format}
use Rattle.mb_model.specs.records.EntryFormat.{birth_format, succession_format, entry_format, signed_entry_format}
use Rattle.mb_model.specs.records.RootFormat.{region_key_format, fate_format}
use Rattle.mb_model.specs.records.RegionFormat.{is_name, secret_format}
use Rattle.mb_model.specs.records.OrderFormat.{differs_in, payload_format, act_by}
use Rattle.mb_model.specs.memories.PublicRecord.{code_format, codes_format}
use Rattle.mb_model.specs.memories.WrittenFlash.{CodesFitSlots}
use Rattle.mb_model.proofs.AllowedFields.{LayerFields, layer_fields, layer_allowed_by, layers_fields, layers_allowed_by}
use Rattle.mb_model.proofs.AllowedFields.{payload_fields, region_key_fields, region_key_allowed_by}
use Rattle.mb_model.proofs.AllowedFields.{codes_fields, codes_allowed_by}
use Rattle.mb_model.specs.machine.OrderEffects.{entry_signed_by, code_after, codes_after}
use Rattle.mb_model_lemmas.proofs.SignatureLemmas.{length-signature_of, public_sized, born_key-sized}
use Rattle.mb_model_lemmas.proofs.RuleLemmas.{layer_with}

-- ---- numbers and options

pub small_number : (n : ℕ) → n ≤ 128 → n < limit w32
small_number n few =
    let most : 128 < limit w32 = lit< tt in
    omega (arith, few, most)

pub some_allowed : {A : Type 0} (format : Format A) (a : A) → format.Allowed a → (optional format).Allowed (Some a)
some_allowed format a is = (tt, is)

pub none_allowed : {A : Type 0} (format : Format A) → (optional format).Allowed None
none_allowed format = (tt, refl)

-- ---- keys

-- the seeds and public keys that a device derives have the sizes of seeds and keys
pub born_seed_allowed : (draw serial : List ℕ) (n : ℕ) → key_seed_format.Allowed (born_key draw serial n)
unfolding key_seed_format
born_seed_allowed draw serial n =
    let sized = born_key-sized draw serial n in
    (sized.identifier, sized.seed)

pub born_public_allowed : (draw serial : List ℕ) (n : ℕ)
    → public_key_format.Allowed (public_of (born_key draw serial n))
unfolding public_key_format
born_public_allowed draw serial n =
    let sized = public_sized (born_key draw serial n) (born_key-sized draw serial n).identifier in
    (tt, (tt, (sized.identifier, sized.root)))

-- a key that has an index left may be used
pub used_key_allowed : (key : RegionKey) → region_key_format.Allowed key → key.uses < 32
    → region_key_format.Allowed (record key { uses = key.uses + 1 })
used_key_allowed key is left =
    let its = region_key_fields key is in
    region_key_allowed_by (record key { uses = key.uses + 1 })
    (record { number = its.number; seed = its.seed; uses = omega (arith, left) })

-- ---- layers of entries of both versions

pub unowned_allowed : (layer_format 2).Allowed layer_without_owner
unowned_allowed = layer_allowed_by 2 layer_without_owner
    (record { trust = (refl, refl); owner = refl; code = refl; reliable = refl })

-- two trusts are allowed wherever one for both is
two_trusts_allowed : (first : Bool) (f : Format Trust) (trusts : Trusts)
    → (either first (one_trust f) (two_trusts f)).Allowed trusts → (two_trusts f).Allowed trusts
two_trusts_allowed true f trusts (one, equal) =
    (one, subst f.Allowed (sym (ap (λ (its : Trusts). its.two) equal)) one)
two_trusts_allowed false f trusts is = is

-- what an entry of any version may name, one of version 2 may
layer_of_version_two : (version : ℕ) (layer : Layer) → (layer_format version).Allowed layer
    → (layer_format 2).Allowed layer
layer_of_version_two version layer is =
    let its = layer_fields version layer is in
    layer_allowed_by 2 layer (record {
      trust = two_trusts_allowed (version == 1) (trust_by (has_of layer)) layer.trust its.trust;
      owner = its.owner;
      code = its.code;
      reliable = its.reliable;
    })

pub layers_of_version_two : (version : ℕ) (layers : Layers) → (layers_format version).Allowed layers
    → (layers_format 2).Allowed layers
layers_of_version_two version layers are =
    let its = layers_fields version layers are in
    layers_allowed_by 2 layers (record {
      one = layer_of_version_two version layers.one its.one;
      two = layer_of_version_two version layers.two its.two;
      three = layer_of_version_two version layers.three its.three;
    })

either_layer : (b : Bool) (one other : Layer) → (layer_format 2).Allowed one → (layer_format 2).Allowed other
    → (layer_format 2).Allowed (if b then one else other)
either_layer true one other first second = first
either_layer false one other first second = second

pub layer_of-allowed : (layers : Layers) (n : ℕ) → (layers_format 2).Allowed layers
    → (layer_format 2).Allowed (layer_of layers n)
layer_of-allowed layers n are =
    let its = layers_fields 2 layers are in
    let third = either_layer (n == 3) layers.three layer_without_owner its.three unowned_allowed in
    let second = either_layer (n == 2) layers.two _ its.two third in
    either_layer (n == 1) layers.one _ its.one second

-- ---- the layers after a change

-- a layer above the one that is changed may become unreliable
less_reliable : (owner : Option PublicKey) (code : Option CodeName) (reliable b : Bool) (trust : Trusts)
    → LayerFields 2 (layer_with owner code reliable trust) → LayerFields 2 (layer_with owner code (reliable && b) trust)
less_reliable None code reliable b trust its = record {
  trust = its.trust;
  owner = its.owner;
  code = its.code;
  reliable = ap (λ (r : Bool). r && b) its.reliable;
}
less_reliable (Some owner) None reliable b trust its = record {
  trust = its.trust;
  owner = its.owner;
  code = its.code;
  reliable = ap (λ (r : Bool). r && b) its.reliable;
}
less_reliable (Some owner) (Some code) false b trust its = its
less_reliable (Some owner) (Some code) true true trust its = its
less_reliable (Some owner) (Some code) true false trust its =
    record { trust = its.trust; owner = its.owner; code = its.code; reliable = refl }

layer_after_allowed : (at below b : Bool) (old new : Layer) → (layer_format 2).Allowed old
    → (layer_format 2).Allowed new
    → (layer_format 2).Allowed (if at then new else if below then old else record old { reliable = old.reliable && b })
layer_after_allowed true below b old new is_old is_new = is_new
layer_after_allowed false true b old new is_old is_new = is_old
layer_after_allowed false false b old new is_old is_new =
    layer_allowed_by 2 (record old { reliable = old.reliable && b })
    (less_reliable old.owner old.code old.reliable b old.trust (layer_fields 2 old is_old))

pub after_allowed : (layers : Layers) (kind : ChangeKind) (k : ℕ) (cosigned : Pair) (new : Layer)
    → (layers_format 2).Allowed layers → (layer_format 2).Allowed new
    → (layers_format 2).Allowed (after layers kind k cosigned new)
unfolding after
after_allowed layers kind k by new are own =
    let its = layers_fields 2 layers are in
    layers_allowed_by 2 (after layers kind k by new) (record {
      one = layer_after_allowed (1 == k) (nat_lt 1 k) (admits layers kind k by 1) layers.one new its.one own;
      two = layer_after_allowed (2 == k) (nat_lt 2 k) (admits layers kind k by 2) layers.two new its.two own;
      three = layer_after_allowed (3 == k) (nat_lt 3 k) (admits layers kind k by 3) layers.three new its.three own;
    })

-- ---- what an order puts in place of its layer

-- the name of code
abbrev named : List ℕ → ℕ → CodeName
named code version = record { hash = sha256 code; version = version }

-- code with a version has a name that can be spelled
name_allowed : (code : List ℕ) (version : ℕ) → version < limit w32 → code_name_format.Allowed (named code version)
unfolding code_name_format
name_allowed code version small = (length-sha256 code, small)

pub first_layer_allowed : (owner : PublicKey) (code : List ℕ) (version : ℕ) (trust : Trusts)
    → public_key_format.Allowed owner → version < limit w32
    → (layer_format 2).Allowed (layer_with (Some owner) (Some (named code version)) true trust)
unfolding trust_format
first_layer_allowed owner code version trust is small =
    layer_allowed_by 2 (layer_with (Some owner) (Some (named code version)) true trust)
    (record { trust = (tt, tt); owner = is; code = name_allowed code version small; reliable = refl })

-- the owner of a layer that may be stored may be
owner_allowed : (owner : Option PublicKey) (code : Option CodeName) (reliable : Bool) (trust : Trusts)
    → LayerFields 2 (layer_with owner code reliable trust) → IfSome owner public_key_format.Allowed
owner_allowed None code reliable trust its = tt
owner_allowed (Some owner) None reliable trust its = its.owner
owner_allowed (Some owner) (Some code) false trust its = its.owner
owner_allowed (Some owner) (Some code) true trust its = its.owner

loaded_allowed : (owner : Option PublicKey) (payload : Payload) → IfSome owner public_key_format.Allowed
    → payload.version < limit w32 → IsSome owner
    → (layer_format 2).Allowed (layer_with owner (Some (named payload.code payload.version)) true payload.trust)
loaded_allowed None payload is small owned = absurd (grind (arith, owned))
loaded_allowed (Some owner) payload is small owned =
    first_layer_allowed owner payload.code payload.version payload.trust is small

loaded_by : (old : Layer) (differs : Bool) (payload : Payload) → (layer_format 2).Allowed old
    → (payload_format differs).Allowed payload → IsSome old.owner → (layer_format 2).Allowed (loaded_layer old payload)
loaded_by old differs payload is allowed owned =
    let owner = owner_allowed old.owner old.code old.reliable old.trust (layer_fields 2 old is) in
    loaded_allowed old.owner payload owner (payload_fields differs payload allowed).version owned

established_allowed : (owner : PublicKey) (trust : Trusts) → public_key_format.Allowed owner
    → (layer_format 2).Allowed (layer_with (Some owner) None false trust)
unfolding trust_format
established_allowed owner trust is =
    layer_allowed_by 2 (layer_with (Some owner) None false trust)
    (record { trust = (tt, tt); owner = is; code = refl; reliable = refl })

-- what an order puts in place, where a layer that is loaded has an owner
pub placed_allowed : (old : Layer) (a : Act) → (layer_format 2).Allowed old
    → (act_by (kind_of a) (differs_in a)).Allowed a → (is_load (change_of (kind_of a)) ≡ true → IsSome old.owner)
    → (layer_format 2).Allowed (layer_from_order old a)
placed_allowed old (act.Establish owner trust) is allowed owned = established_allowed owner trust allowed.0
placed_allowed old act.Surrender is allowed owned = unowned_allowed
placed_allowed old (act.Load payload) is allowed owned =
    loaded_by old (not (are_equal payload.trust)) payload is allowed (owned refl)
placed_allowed old (act.Emergency payload) is allowed owned =
    loaded_by old (not (are_equal payload.trust)) payload is allowed (owned refl)
placed_allowed old (act.NewKey kind) is allowed owned = is

-- ---- code

no_code : code_format.Allowed None
unfolding code_format
no_code = (tt, refl)

some_code : (code : List ℕ) → length code ≤ 32768 → code_format.Allowed (Some code)
unfolding code_format
some_code code short = (tt, ((omega arith, short), refl))

pub code_short : (differs : Bool) (payload : Payload) → (payload_format differs).Allowed payload
    → length payload.code ≤ 32768
code_short differs payload is = (payload_fields differs payload is).code

-- code that fits its slot has a spelling
fitting_code : (code : Option (List ℕ)) → IfSome code (λ bytes. length bytes ≤ 32768) → code_format.Allowed code
fitting_code None fits = no_code
fitting_code (Some code) fits = some_code code fits

pub fitting_codes : (codes : Codes) → CodesFitSlots codes → codes_format.Allowed codes
fitting_codes codes fit = codes_allowed_by codes (record {
  one = fitting_code codes.one fit.one;
  two = fitting_code codes.two fit.two;
  three = fitting_code codes.three fit.three;
})

code_after_allowed : (old : Option (List ℕ)) (a : Act) → code_format.Allowed old
    → (act_by (kind_of a) (differs_in a)).Allowed a → code_format.Allowed (code_after old a)
code_after_allowed old (act.Establish owner trust) is allowed = no_code
code_after_allowed old act.Surrender is allowed = no_code
code_after_allowed old (act.Load payload) is allowed =
    some_code payload.code (code_short (not (are_equal payload.trust)) payload allowed)
code_after_allowed old (act.Emergency payload) is allowed =
    some_code payload.code (code_short (not (are_equal payload.trust)) payload allowed)
code_after_allowed old (act.NewKey kind) is allowed = is

either_code : (b : Bool) (one other : Option (List ℕ)) → code_format.Allowed one → code_format.Allowed other
    → code_format.Allowed (if b then one else other)
either_code true one other first second = first
either_code false one other first second = second

pub codes_after_allowed : (old : Codes) (k : ℕ) (a : Act) → codes_format.Allowed old
    → (act_by (kind_of a) (differs_in a)).Allowed a → codes_format.Allowed (codes_after old k a)
codes_after_allowed old k a are allowed =
    let its = codes_fields old are in
    codes_allowed_by (codes_after old k a) (record {
      one = either_code (k == 1) _ old.one (code_after_allowed old.one a its.one allowed) its.one;
      two = either_code (k == 2) _ old.two (code_after_allowed old.two a its.two allowed) its.two;
      three = either_code (k == 3) _ old.three (code_after_allowed old.three a its.three allowed) its.three;
    })

pub first_codes_allowed : (code : List ℕ) → length code ≤ 32768
    → codes_format.Allowed (record { one = Some code; two = None; three = None })
first_codes_allowed code short =
    codes_allowed_by _ (record { one = some_code code short; two = no_code; three = no_code })

-- ---- entries

-- A birth and a succession; a change and a new key are made by `change_allowed_by` and `new_key_allowed_by` of
-- AllowedFields.antt, which name what they need.

pub birth_allowed : (serial : List ℕ) (key : PublicKey) (layers : Layers) → length serial ≡ 16
    → public_key_format.Allowed key → (layers_format 2).Allowed layers
    → entry_format.Allowed (Birth 2 serial key layers)
unfolding entry_format birth_format
birth_allowed serial key layers sized is are = (refl, (refl, (sized, (is, are))))

pub succession_allowed : (position : ℕ) (key : PublicKey) → position < limit w32 → public_key_format.Allowed key
    → entry_format.Allowed (Succession position key)
unfolding entry_format succession_format
succession_allowed position key small is = (refl, (small, is))

-- an entry that a key signs
pub signed_allowed : (key : KeySeed) (index : ℕ) (entry : Entry) → entry_format.Allowed entry
    → signed_entry_format.Allowed (entry_signed_by key index entry)
unfolding signed_entry_format entry_signed_by
signed_allowed key index entry is = (is, length-signature_of key index (entry_text entry))

-- ---- fates and secrets

pub keep_allowed : fate_format.Allowed Keep
unfolding fate_format
keep_allowed = (tt, refl)

pub secret_allowed : (secret : Secret) → 1 ≤ length secret.name → length secret.name ≤ 32 → is_name secret.name ≡ true
    → length secret.value ≤ 128 → secret.born < limit w32 → secret_format.Allowed secret
unfolding secret_format
secret_allowed secret some short printed small born =
    (((some, short), (refl, printed)), (((omega arith, small), refl), born))
