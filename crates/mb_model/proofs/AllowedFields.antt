-- What a format says of each field of a record that it allows, by the field's name. `Allowed` of a format is a nest of
-- pairs in the order of its bytes, with a place for each mark and tag; `NAME_fields` takes it apart, so that no proof
-- counts places, and `NAME_allowed_by` makes it of its fields.
use Rattle.std.proofs.Common.{◌≡◌, ℕ, ◌≤◌, ◌<◌, Bool, length, Option, refl, arith}
use Rattle.std.specs.Int.{w32}
use Rattle.mb_format.specs.Combinators.{limit, optional, times}
use Rattle.mb_model.specs.declared.key.PublicKey.{PublicKey}
use Rattle.mb_model.specs.declared.layer.Layer.{Layer}
use Rattle.mb_model.specs.declared.layer.Layers.{Layers}
use Rattle.mb_model.specs.declared.layer.Pair.{Pair}
use Rattle.mb_model.specs.declared.order.ChangeKind.{ChangeKind}
use Rattle.mb_model.specs.declared.order.KeyKind.{KeyKind}
use Rattle.mb_model.specs.declared.order.Payload.{Payload}
use Rattle.mb_model.specs.declared.entry.Entry.TheVariants.{Change, NewKey}
use Rattle.mb_model.specs.declared.region.RegionKey.{RegionKey}
use Rattle.mb_model.specs.declared.state.Codes.{Codes}
use Rattle.mb_model.specs.declared.stored.Header.{Header}
use Rattle.mb_model.specs.declared.stored.Pending.{Pending}
use Rattle.mb_model.specs.declared.stored.Public.{Public}
use Rattle.mb_model.specs.declared.stored.Root.{Root}
use Rattle.mb_model.specs.records.KeyFormat.{public_key_format, key_seed_format}
use Rattle.mb_model.specs.records.LayerFormat.{trusts_of, trust_by, owner_by, code_by, reliable_by, has_of}
use Rattle.mb_model.specs.records.LayerFormat.{layer_format, layers_format}
use Rattle.mb_model.specs.records.EntryFormat.{key_kind_format, pair_format}
use Rattle.mb_model.specs.records.EntryFormat.{change_format, new_key_format, entry_format}
use Rattle.mb_model.specs.records.RootFormat.{region_key_format, root_format}
use Rattle.mb_model.specs.records.RootFormat.{outgoing_format, fate_format, pending_format}
use Rattle.mb_model.specs.records.OrderFormat.{payload_format}
use Rattle.mb_model.specs.records.HeaderFormat.{slot_format, unsigned_format, header_format}
use Rattle.mb_model.specs.memories.PublicRecord.{code_format, codes_format, public_entry_format, public_format}

-- ---- layers

-- What a layer has says in which format each field is, so it may lack an owner or code.
pub record LayerFields (version : ℕ) (layer : Layer) : Type 0 where
  pub trust : (trusts_of version (trust_by (has_of layer))).Allowed layer.trust
  pub owner : (owner_by (has_of layer)).Allowed layer.owner
  pub code : (code_by (has_of layer)).Allowed layer.code
  pub reliable : (reliable_by (has_of layer)).Allowed layer.reliable

pub layer_fields : (version : ℕ) (layer : Layer) → (layer_format version).Allowed layer → LayerFields version layer
unfolding layer_format
layer_fields version layer (_, (trust, (owner, (code, reliable)))) =
    record { trust = trust; owner = owner; code = code; reliable = reliable }

pub layer_allowed_by : (version : ℕ) (layer : Layer) → LayerFields version layer → (layer_format version).Allowed layer
unfolding layer_format
layer_allowed_by version layer its = (tt, (its.trust, (its.owner, (its.code, its.reliable))))

pub record LayersFields (version : ℕ) (layers : Layers) : Type 0 where
  pub one : (layer_format version).Allowed layers.one
  pub two : (layer_format version).Allowed layers.two
  pub three : (layer_format version).Allowed layers.three

pub layers_fields : (version : ℕ) (layers : Layers) → (layers_format version).Allowed layers
    → LayersFields version layers
unfolding layers_format
layers_fields version layers (one, (two, three)) = record { one = one; two = two; three = three }

pub layers_allowed_by : (version : ℕ) (layers : Layers) → LayersFields version layers
    → (layers_format version).Allowed layers
unfolding layers_format
layers_allowed_by version layers its = (its.one, (its.two, its.three))

-- ---- entries

pub record ChangeFields (version position number layer : ℕ) (layers : Layers) (next : Option PublicKey) : Type 0 where
  pub small_position : position < limit w32
  pub small_number : number < limit w32
  pub least_layer : 1 ≤ layer
  pub most_layer : layer ≤ 3
  pub layers_allowed : (layers_format version).Allowed layers
  pub next_allowed : (optional public_key_format).Allowed next

pub change_fields : {version position number layer : ℕ} {layers : Layers} {next : Option PublicKey}
    → (kind : ChangeKind) (cosigned kept : Pair)
    → entry_format.Allowed (Change version position number kind layer cosigned layers kept next)
    → ChangeFields version position number layer layers next
unfolding entry_format change_format
change_fields kind cosigned kept (_, (_, (position, (number, (_, (layer, (_, (_, (layers, next))))))))) = record {
  small_position = position;
  small_number = number;
  least_layer = layer.0;
  most_layer = layer.1;
  layers_allowed = layers;
  next_allowed = next;
}

pub change_allowed_by : {position number layer : ℕ} {layers : Layers} {next : Option PublicKey}
    → (kind : ChangeKind) (cosigned kept : Pair) → ChangeFields 2 position number layer layers next
    → entry_format.Allowed (Change 2 position number kind layer cosigned layers kept next)
unfolding entry_format change_format pair_format
change_allowed_by kind cosigned kept its = (
  refl,
  (
    refl,
    (
      its.small_position,
      (
        its.small_number,
        (tt, ((its.least_layer, its.most_layer), (tt, (tt, (its.layers_allowed, its.next_allowed))))),
      ),
    ),
  ),
)

pub record NewKeyFields (position number key_number layer : ℕ) (key : PublicKey) : Type 0 where
  pub small_position : position < limit w32
  pub small_number : number < limit w32
  pub small_key_number : key_number < limit w32
  pub least_layer : 2 ≤ layer
  pub most_layer : layer ≤ 3
  pub key_allowed : public_key_format.Allowed key

pub new_key_fields : {position number key_number layer : ℕ} {key : PublicKey} → (kind : KeyKind)
    → entry_format.Allowed (NewKey position number key_number layer kind key)
    → NewKeyFields position number key_number layer key
unfolding entry_format new_key_format
new_key_fields kind (_, (position, (number, (key_number, (layer, (_, key)))))) = record {
  small_position = position;
  small_number = number;
  small_key_number = key_number;
  least_layer = layer.0;
  most_layer = layer.1;
  key_allowed = key;
}

pub new_key_allowed_by : {position number key_number layer : ℕ} {key : PublicKey} → (kind : KeyKind)
    → NewKeyFields position number key_number layer key
    → entry_format.Allowed (NewKey position number key_number layer kind key)
unfolding entry_format new_key_format key_kind_format
new_key_allowed_by kind its = (
  refl,
  (
    its.small_position,
    (
      its.small_number,
      (
        its.small_key_number,
        ((its.least_layer, its.most_layer), (tt, its.key_allowed)),
      ),
    ),
  ),
)

-- ---- orders

-- It says nothing of the trusts: what an order begins with says whether they are one or two.
pub record PayloadFields (payload : Payload) : Type 0 where
  pub version : payload.version < limit w32
  pub code : length payload.code ≤ 32768

pub payload_fields : (differs : Bool) (payload : Payload) → (payload_format differs).Allowed payload
    → PayloadFields payload
unfolding payload_format
payload_fields differs payload (version, (_, (code_length, _))) =
    record { version = version; code = code_length.1 }

-- ---- the root record

pub record RegionKeyFields (key : RegionKey) : Type 0 where
  pub number : key.number < limit w32
  pub seed : key_seed_format.Allowed key.seed
  pub uses : key.uses ≤ 32

pub region_key_fields : (key : RegionKey) → region_key_format.Allowed key → RegionKeyFields key
unfolding region_key_format
region_key_fields key (number, (_, (seed, uses))) = record { number = number; seed = seed; uses = uses.1 }

pub region_key_allowed_by : (key : RegionKey) → RegionKeyFields key → region_key_format.Allowed key
unfolding region_key_format key_kind_format
region_key_allowed_by key its = (its.number, (tt, (its.seed, (omega arith, its.uses))))

pub record PendingFields (pending : Pending) : Type 0 where
  pub least_unsigned : 1 ≤ pending.unsigned
  pub most_unsigned : pending.unsigned ≤ 2
  pub outgoing : (optional outgoing_format).Allowed pending.outgoing
  pub two : fate_format.Allowed pending.two
  pub three : fate_format.Allowed pending.three

pub pending_fields : (pending : Pending) → pending_format.Allowed pending → PendingFields pending
unfolding pending_format
pending_fields pending (unsigned, (outgoing, (two, three))) = record {
  least_unsigned = unsigned.0;
  most_unsigned = unsigned.1;
  outgoing = outgoing;
  two = two;
  three = three;
}

pub record RootFields (root : Root) : Type 0 where
  pub area : root.area ≤ 1
  pub serial : length root.serial ≡ 16
  pub device : key_seed_format.Allowed root.device
  pub uses : root.uses ≤ 32
  pub pending : (optional pending_format).Allowed root.pending

pub root_fields : (root : Root) → root_format.Allowed root → RootFields root
unfolding root_format
root_fields root (_, (area, (serial, (device, (uses, pending))))) =
    record { area = area.1; serial = serial; device = device; uses = uses.1; pending = pending }

pub root_allowed_by : (root : Root) → RootFields root → root_format.Allowed root
unfolding root_format
root_allowed_by root its =
    (tt, ((omega arith, its.area), (its.serial, (its.device, ((omega arith, its.uses), its.pending)))))

-- ---- the public record

pub record CodesFields (codes : Codes) : Type 0 where
  pub one : code_format.Allowed codes.one
  pub two : code_format.Allowed codes.two
  pub three : code_format.Allowed codes.three

pub codes_fields : (codes : Codes) → codes_format.Allowed codes → CodesFields codes
unfolding codes_format
codes_fields codes (one, (two, three)) = record { one = one; two = two; three = three }

pub codes_allowed_by : (codes : Codes) → CodesFields codes → codes_format.Allowed codes
unfolding codes_format
codes_allowed_by codes its = (its.one, (its.two, its.three))

pub record PublicFields (public : Public) : Type 0 where
  pub codes : codes_format.Allowed public.codes
  pub some : 1 ≤ length public.entries
  pub few : length public.entries ≤ 128
  pub entries : (times (length public.entries) public_entry_format).Allowed public.entries

pub public_fields : (public : Public) → public_format.Allowed public → PublicFields public
unfolding public_format
public_fields public (_, (codes, (count, entries))) =
    record { codes = codes; some = count.0; few = count.1; entries = entries }

-- ---- headers

pub record HeaderFields (header : Header) : Type 0 where
  pub one : slot_format.Allowed header.one
  pub two : slot_format.Allowed header.two
  pub three : slot_format.Allowed header.three
  pub some_signed : 1 ≤ header.signed
  pub few_signed : header.signed ≤ 128
  pub texts : (unsigned_format header.signed).Allowed (header.first, header.second)

pub header_fields : (header : Header) → header_format.Allowed header → HeaderFields header
unfolding header_format
header_fields header (_, (one, (two, (three, (signed, texts))))) = record {
  one = one;
  two = two;
  three = three;
  some_signed = signed.0;
  few_signed = signed.1;
  texts = texts;
}

pub header_allowed_by : (header : Header) → HeaderFields header → header_format.Allowed header
unfolding header_format
header_allowed_by header its =
    (tt, (its.one, (its.two, (its.three, ((its.some_signed, its.few_signed), its.texts)))))
