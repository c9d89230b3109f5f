-- How long the spellings of records are, and how far an order is read.
use Rattle.std.proofs.Common.{ℕ, ◌+◌, ◌-◌, ◌≤◌, ◌==◌, Bool, true, false, [], ◌∷◌, length, arith, lit≤}
use Rattle.mb_format.specs.Format.{Format, IsShort}
use Rattle.mb_format.proofs.Fields.{wide8, wide16, wide32}
use Rattle.mb_format.proofs.Bounds as bounds
use Rattle.mb_model.specs.declared.key.Trust.{Trust}
use Rattle.mb_model.specs.declared.key.Trust.TheVariants.{Never}
use Rattle.mb_model.specs.declared.order.Act.TheVariants.{NewKey as MakeKey}
use Rattle.mb_model.specs.declared.order.Target.TheVariants.{Serial, Length}
use Rattle.mb_model.specs.declared.stored.Fate.TheVariants.{AddKey}
use Rattle.mb_model.specs.signatures.Key.{tree_type, chains_type}
use Rattle.mb_model.specs.records.KeyFormat.{tree_rows, chains_rows, public_key_format, key_seed_format, keyfile_word, keyfile_format}
use Rattle.mb_model.specs.records.LayerFormat.{trust_byte, trust_rows, trust_format, one_trust, trusts_of, code_name_format, Has, has_nothing, has_owner, has_code, has_reliable_code, has_byte, has_rows, has_of, trust_by, owner_by, code_by, reliable_by, layer_by, layer_format, layers_format}
use Rattle.mb_model.specs.records.EntryFormat.{change_byte, change_rows, key_kind_byte, key_kind_rows, key_kind_format, pair_byte, pair_rows, pair_format, EntryTag, birth_tag, change_tag, new_key_tag, succession_tag, entry_byte, entry_rows, entry_tag, birth_in, birth_format, change_in, change_format, new_key_in, new_key_format, succession_in, succession_format, entry_by, entry_format, signed_entry_format}
use Rattle.mb_model.specs.declared.order.OrderKind.{OrderKind}
use Rattle.mb_model.specs.declared.order.OrderKind.TheVariants as kind
use Rattle.mb_model.specs.declared.order.OrderForm.{OrderForm}
use Rattle.mb_model.specs.owners.Rules.{kind_of, least_layer}
use Rattle.mb_model.specs.records.OrderFormat.{TargetTag, serial_tag, length_tag, owner_tag, code_tag, target_byte, target_rows, target_tag, demanded_serial, demanded_length, demanded_owner, demanded_code, target_by, target_format, form_byte, form_rows, other_rows, given_trusts, establish_in, load_in, emergency_in, made_in, payload_format, act_by, Body, body_by, body_format, sized_signature_format, Climb, countersignature_format, climb_after, countersignature_limit, countersignatures_format, order_format}
use Rattle.mb_model.specs.records.ChainFormat.{said_byte, asked_in, answered_in, answered_format, asked_format, said_format, statement_format, chain_word, chain_format}
use Rattle.mb_model.specs.records.RootFormat.{region_key_format, outgoing_format, FateTag, keep_tag, empty_tag, drop_tag, add_tag, fate_byte, fate_rows, fate_tag, key_added_by, fate_by, fate_format, pending_format, root_format}
use Rattle.mb_model.specs.records.RegionFormat.{is_name, secret_format, most_secrets, secrets_format, least_keys, keys_format, region_by, region_format}
use Rattle.mb_model.specs.memories.PublicRecord.{code_format, codes_format, public_entry_format, public_format}
use Rattle.mb_model.specs.records.HeaderFormat.{code_length_format, slot_format, entry_bytes_format, unsigned_limit, unsigned_format, header_word, header_format, log_format}
use Rattle.mb_model.proofs.HeaderFormatLaws.{few_unsigned}
use Rattle.mb_model.proofs.RecordFormatLaws.{few_secrets}

-- ---- keys and layers

pub public_key_short : IsShort public_key_format 56
unfolding public_key_format
public_key_short = bounds.as_record_short _ _
    (bounds.pair_short (bounds.table_short tree_rows tree_type wide32) (bounds.pair_short (bounds.table_short chains_rows chains_type wide32) (bounds.pair_short bounds.raw_short bounds.raw_short)))

key_seed_short : IsShort key_seed_format 48
unfolding key_seed_format
key_seed_short = bounds.as_record_short _ _ (bounds.pair_short bounds.raw_short bounds.raw_short)

pub keyfile_short : IsShort keyfile_format 56
unfolding keyfile_format
keyfile_short = bounds.then_value_short (bounds.mark_short keyfile_word) (bounds.as_record_short _ _ (bounds.pair_short key_seed_short (bounds.between_short 0 32 wide32)))

trust_short : IsShort trust_format 1
unfolding trust_format
trust_short = bounds.table_short trust_rows trust_byte wide8

one_trust_short : {f : Format Trust} {n : ℕ} → IsShort f n → IsShort (one_trust f) (n + 0)
one_trust_short is = bounds.led_short (λ trusts. trusts.one) is (λ trust h. bounds.nothing_short)

trusts_of-short : (version : ℕ) {f : Format Trust} → IsShort f 1 → IsShort (trusts_of version f) 2
trusts_of-short version is =
    bounds.either_short (version == 1) (bounds.short_more (one_trust_short is) (lit≤ tt)) (bounds.as_record_short _ _ (bounds.pair_short is is))

code_name_short : IsShort code_name_format 36
unfolding code_name_format
code_name_short = bounds.as_record_short _ _ (bounds.pair_short bounds.raw_short (bounds.number_short wide32))

trust_by-short : (has : Has) → IsShort (trust_by has) 1
trust_by-short has_nothing = bounds.listed_short ((1, Never) ∷ []) trust_byte wide8
trust_by-short has_owner = trust_short
trust_by-short has_code = trust_short
trust_by-short has_reliable_code = trust_short

owner_by-short : (has : Has) → IsShort (owner_by has) 56
owner_by-short has_nothing = bounds.short_more bounds.nothing_short (lit≤ tt)
owner_by-short has_owner = bounds.present_short public_key_short
owner_by-short has_code = bounds.present_short public_key_short
owner_by-short has_reliable_code = bounds.present_short public_key_short

code_by-short : (has : Has) → IsShort (code_by has) 36
code_by-short has_nothing = bounds.short_more bounds.nothing_short (lit≤ tt)
code_by-short has_owner = bounds.short_more bounds.nothing_short (lit≤ tt)
code_by-short has_code = bounds.present_short code_name_short
code_by-short has_reliable_code = bounds.present_short code_name_short

reliable_by-short : (has : Has) → IsShort (reliable_by has) 0
reliable_by-short has_nothing = bounds.nothing_short
reliable_by-short has_owner = bounds.nothing_short
reliable_by-short has_code = bounds.nothing_short
reliable_by-short has_reliable_code = bounds.nothing_short

layer_by-short : (version : ℕ) (has : Has) → IsShort (layer_by version has) 94
layer_by-short version has = bounds.as_record_short _ _
    (bounds.pair_short (trusts_of-short version (trust_by-short has)) (bounds.pair_short (owner_by-short has) (bounds.pair_short (code_by-short has) (reliable_by-short has))))

layer_short : (version : ℕ) → IsShort (layer_format version) 95
unfolding layer_format
layer_short version = bounds.led_short has_of (bounds.table_short has_rows has_byte wide8) (λ has h. layer_by-short version has)

layers_short : (version : ℕ) → IsShort (layers_format version) 285
unfolding layers_format
layers_short version = bounds.as_record_short _ _ (bounds.pair_short (layer_short version) (bounds.pair_short (layer_short version) (layer_short version)))

-- ---- entries and chains

key_kind_short : IsShort key_kind_format 1
unfolding key_kind_format
key_kind_short = bounds.table_short key_kind_rows key_kind_byte wide8

pair_format_short : IsShort pair_format 1
unfolding pair_format
pair_format_short = bounds.table_short pair_rows pair_byte wide8

birth_short : (version : ℕ) → IsShort (birth_format version) 357
unfolding birth_format
birth_short version = bounds.as_value_short _ birth_in (bounds.pair_short bounds.nothing_short (bounds.pair_short bounds.raw_short (bounds.pair_short public_key_short (layers_short version))))

change_short : (version : ℕ) → IsShort (change_format version) 354
unfolding change_format
change_short version = bounds.as_value_short _ change_in
    (bounds.pair_short bounds.nothing_short (bounds.pair_short (bounds.number_short wide32) (bounds.pair_short (bounds.number_short wide32) (bounds.pair_short (bounds.table_short change_rows change_byte wide8) (bounds.pair_short (bounds.between_short 1 3 wide8)
    (bounds.pair_short pair_format_short (bounds.pair_short pair_format_short (bounds.pair_short (layers_short version) (bounds.optional_short public_key_short)))))))))

new_key_short : IsShort new_key_format 70
unfolding new_key_format
new_key_short = bounds.as_value_short _ new_key_in
    (bounds.pair_short (bounds.number_short wide32) (bounds.pair_short (bounds.number_short wide32) (bounds.pair_short (bounds.number_short wide32) (bounds.pair_short (bounds.between_short 2 3 wide8) (bounds.pair_short key_kind_short public_key_short)))))

succession_short : IsShort succession_format 60
unfolding succession_format
succession_short = bounds.as_value_short _ succession_in (bounds.pair_short (bounds.number_short wide32) public_key_short)

entry_by-short : (tag : EntryTag) → IsShort (entry_by tag) 357
entry_by-short (birth_tag version) = birth_short version
entry_by-short (change_tag version) = bounds.short_more (change_short version) (lit≤ tt)
entry_by-short new_key_tag = bounds.short_more new_key_short (lit≤ tt)
entry_by-short succession_tag = bounds.short_more succession_short (lit≤ tt)

pub entry_short : IsShort entry_format 358
unfolding entry_format
entry_short = bounds.led_short entry_tag (bounds.listed_short entry_rows entry_byte wide8) (λ tag h. entry_by-short tag)

pub signed_entry_short : IsShort signed_entry_format 2706
unfolding signed_entry_format
signed_entry_short = bounds.as_record_short _ _ (bounds.pair_short entry_short bounds.raw_short)

answered_short : IsShort answered_format 161
unfolding answered_format
answered_short = bounds.as_value_short _ answered_in (bounds.pair_short bounds.raw_short (bounds.sized_short 0 128 wide8))

asked_short : (size : ℕ) → IsShort (asked_format size) size
unfolding asked_format
asked_short size = bounds.as_value_short _ asked_in bounds.raw_short

said_short : IsShort said_format 162
unfolding said_format
said_short =
    bounds.led_short said_byte (bounds.between_short 0 129 wide8)
    (λ size few. bounds.either_short (size == 129) answered_short (bounds.short_more (asked_short size) (omega (arith, few.1))))

pub statement_short : IsShort statement_format 2514
unfolding statement_format
statement_short = bounds.as_record_short _ _ (bounds.pair_short (bounds.number_short wide32) (bounds.pair_short said_short bounds.raw_short))

pub chain_short : IsShort chain_format 348889
unfolding chain_format
chain_short = bounds.then_value_short (bounds.mark_short chain_word)
    (bounds.as_record_short _ _ (bounds.pair_short (bounds.counted_short 1 128 wide16 signed_entry_short) (bounds.optional_short statement_short)))

-- ---- orders

target_by-short : (tag : TargetTag) → IsShort (target_by tag) 33
target_by-short serial_tag = bounds.short_more (bounds.as_value_short Serial demanded_serial bounds.raw_short) (lit≤ tt)
target_by-short length_tag = bounds.short_more (bounds.as_value_short Length demanded_length (bounds.number_short wide32)) (lit≤ tt)
target_by-short owner_tag = bounds.as_value_short _ demanded_owner (bounds.pair_short (bounds.between_short 1 3 wide8) bounds.raw_short)
target_by-short code_tag = bounds.as_value_short _ demanded_code (bounds.pair_short (bounds.between_short 1 3 wide8) bounds.raw_short)

target_short : IsShort target_format 34
unfolding target_format
target_short = bounds.led_short target_tag (bounds.table_short target_rows target_byte wide8) (λ tag h. target_by-short tag)

given_short : (differs : Bool) → IsShort (given_trusts differs) 2
given_short false = bounds.short_more (one_trust_short trust_short) (lit≤ tt)
given_short true = bounds.as_record_short _ _ (bounds.both_short trust_short (λ one h. bounds.listed_short (other_rows one) trust_byte wide8))

payload_short : (differs : Bool) → IsShort (payload_format differs) 32778
unfolding payload_format
payload_short differs = bounds.as_record_short _ _ (bounds.pair_short (bounds.number_short wide32) (bounds.pair_short (given_short differs) (bounds.sized_short 0 32768 wide32)))

act_by-short : (order : OrderKind) (differs : Bool) → IsShort (act_by order differs) 32778
act_by-short kind.Establish differs = bounds.short_more (bounds.as_value_short _ establish_in (bounds.pair_short public_key_short (given_short differs))) (lit≤ tt)
act_by-short kind.Surrender differs = bounds.short_more bounds.nothing_short (lit≤ tt)
act_by-short kind.Load differs = bounds.as_value_short _ load_in (payload_short differs)
act_by-short kind.Emergency differs = bounds.as_value_short _ emergency_in (payload_short differs)
act_by-short kind.NewKey differs = bounds.short_more (bounds.as_value_short MakeKey made_in key_kind_short) (lit≤ tt)

body_by-short : (f : OrderForm) → IsShort (body_by f) 33052
body_by-short f = bounds.as_record_short _ _
    (bounds.pair_short (bounds.between_short (least_layer f.kind) 3 wide8) (bounds.pair_short (bounds.counted_short 0 8 wide8 target_short) (act_by-short f.kind f.differs)))

pub body_short : IsShort body_format 33053
unfolding body_format
body_short = bounds.led_short _ (bounds.listed_short form_rows form_byte wide8) (λ f h. body_by-short f)

sized_signature_short : IsShort sized_signature_format 9326
unfolding sized_signature_format
sized_signature_short = bounds.sized_short 0 9324 wide16

countersignature_short : (climb : Climb) → IsShort (countersignature_format climb) 9327
countersignature_short climb = bounds.as_record_short _ _ (bounds.pair_short (bounds.between_short (climb.below + 1) (4 - climb.left) wide8) sized_signature_short)

-- at most two owners may countersign, since a body's layer is 1 at least
pub most_two : (body : Body) → body_format.Allowed body → countersignature_limit (kind_of body.act) body.layer ≤ 2
unfolding body_format
most_two body h = of_kind (kind_of body.act) body.layer h.1.0.0
  where
    of_kind : (order : OrderKind) (n : ℕ) → least_layer order ≤ n → countersignature_limit order n ≤ 2
    of_kind kind.Establish n le = lit≤ tt
    of_kind kind.Surrender n le = lit≤ tt
    of_kind kind.Load n le = omega arith
    of_kind kind.Emergency n le = omega arith
    of_kind kind.NewKey n le = lit≤ tt

countersignatures_short : (body : Body) → body_format.Allowed body → IsShort (countersignatures_format body) 18655
unfolding countersignatures_format
countersignatures_short body h =
    bounds.led_short {n = 18654} length (bounds.between_short 0 (countersignature_limit (kind_of body.act) body.layer) wide8)
    (λ n g. (let two = most_two body h in bounds.short_more (bounds.items_short climb_after n (record { below = body.layer; left = n }) countersignature_short) (omega (arith, g.1, two))))

pub order_short : IsShort order_format 61034
unfolding order_format
order_short = bounds.as_record_short _ _ (bounds.both_short body_short (λ body h. bounds.pair_short sized_signature_short (countersignatures_short body h)))

-- ---- the records of a device's memory

region_key_short : IsShort region_key_format 54
unfolding region_key_format
region_key_short = bounds.as_record_short _ _ (bounds.pair_short (bounds.number_short wide32) (bounds.pair_short key_kind_short (bounds.pair_short key_seed_short (bounds.between_short 0 32 wide8))))

outgoing_short : IsShort outgoing_format 49
unfolding outgoing_format
outgoing_short = bounds.as_record_short _ _ (bounds.pair_short key_seed_short (bounds.between_short 1 32 wide8))

fate_by-short : (tag : FateTag) → IsShort (fate_by tag) 54
fate_by-short keep_tag = bounds.short_more bounds.nothing_short (lit≤ tt)
fate_by-short empty_tag = bounds.short_more bounds.nothing_short (lit≤ tt)
fate_by-short drop_tag = bounds.short_more bounds.nothing_short (lit≤ tt)
fate_by-short add_tag = bounds.as_value_short AddKey key_added_by region_key_short

fate_short : IsShort fate_format 55
unfolding fate_format
fate_short = bounds.led_short fate_tag (bounds.table_short fate_rows fate_byte wide8) (λ tag h. fate_by-short tag)

pending_short : IsShort pending_format 161
unfolding pending_format
pending_short = bounds.as_record_short _ _ (bounds.pair_short (bounds.between_short 1 2 wide8) (bounds.pair_short (bounds.optional_short outgoing_short) (bounds.pair_short fate_short fate_short)))

pub root_short : IsShort root_format 229
unfolding root_format
root_short = bounds.then_value_short (bounds.mark_short (1 ∷ []))
    (bounds.as_record_short _ _ (bounds.pair_short (bounds.between_short 0 1 wide8) (bounds.pair_short bounds.raw_short (bounds.pair_short key_seed_short (bounds.pair_short (bounds.between_short 0 32 wide8) (bounds.optional_short pending_short))))))

secret_short : IsShort secret_format 166
unfolding secret_format
secret_short = bounds.as_record_short _ _ (bounds.pair_short (bounds.sized_that_short is_name 1 32 wide8) (bounds.pair_short (bounds.sized_short 0 128 wide8) (bounds.number_short wide32)))

secrets_short : (most : ℕ) → most ≤ 22 → IsShort (secrets_format most) 3653
unfolding secrets_format
secrets_short most few = bounds.short_more (bounds.counted_short 0 most wide8 secret_short) (omega (arith, few))

keys_short : (least : ℕ) → IsShort (keys_format least) 433
unfolding keys_format
keys_short least = bounds.counted_short least 8 wide8 region_key_short

region_by-short : (version : ℕ) → IsShort (region_by version) 4086
unfolding region_by
region_by-short version =
    bounds.as_record_short _ _ (bounds.both_short (secrets_short (most_secrets version) (few_secrets version)) (λ secrets h. keys_short (least_keys secrets)))

pub region_short : IsShort region_format 4087
unfolding region_format
region_short = bounds.both_short (bounds.between_short 1 2 wide8) (λ version h. region_by-short version)

code_format_short : IsShort code_format 32773
unfolding code_format
code_format_short = bounds.optional_short (bounds.sized_short 0 32768 wide32)

codes_short : IsShort codes_format 98319
unfolding codes_format
codes_short = bounds.as_record_short _ _ (bounds.pair_short code_format_short (bounds.pair_short code_format_short code_format_short))

pub public_entry_short : IsShort public_entry_format 2707
unfolding public_entry_format
public_entry_short = bounds.as_record_short _ _ (bounds.pair_short entry_short (bounds.optional_short bounds.raw_short))

pub public_short : IsShort public_format 444818
unfolding public_format
public_short = bounds.then_value_short (bounds.mark_short (1 ∷ [])) (bounds.as_record_short _ _ (bounds.pair_short codes_short (bounds.counted_short 1 128 wide16 public_entry_short)))

-- ---- headers and sectors of the log

slot_short : IsShort slot_format 5
unfolding slot_format code_length_format
slot_short = bounds.as_record_short _ _ (bounds.both_short (bounds.between_short 0 2 wide8) (λ which h. bounds.either_short (which == 0) (bounds.between_short 0 0 wide32) (bounds.between_short 0 32768 wide32)))

entry_bytes_short : IsShort entry_bytes_format 402
unfolding entry_bytes_format
entry_bytes_short = bounds.sized_short 1 400 wide16

unsigned_short : (signed : ℕ) → IsShort (unsigned_format signed) 805
unfolding unsigned_format
unsigned_short signed = bounds.as_value_short _ _ (bounds.short_more (bounds.counted_short 0 (unsigned_limit signed) wide8 entry_bytes_short) (omega (arith, few_unsigned signed)))

pub header_short : IsShort header_format 826
unfolding header_format
header_short = bounds.then_value_short (bounds.mark_short header_word)
    (bounds.as_record_short _ _ (bounds.pair_short slot_short (bounds.pair_short slot_short (bounds.pair_short slot_short (bounds.both_short (bounds.between_short 1 128 wide16) (λ signed h. unsigned_short signed))))))

pub log_short : IsShort log_format 2750
unfolding log_format
log_short = bounds.pair_short entry_bytes_short bounds.raw_short
