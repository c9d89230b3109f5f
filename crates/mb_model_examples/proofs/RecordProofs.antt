-- The examples of records, computed.
use Rattle.std.proofs.Common.{◌≡◌, ℕ, zero, suc, List, [], ◌∷◌, ◌++◌, take, replicate, Ok, Err, Bool, true, ltb, refl, ap, arith, lit≤}
use Rattle.std.specs.Prelude.{◌&&◌, codes}
use Rattle.std.proofs.lemmas.Bool.{ltb-true, and_parts}
use Rattle.std.proofs.lemmas.List.Elements.{All-replicate}
use Rattle.sha2.specs.Sha256.{first_words, schedule, rounds, compress, hash_after, digest_bytes, sha256}
use Rattle.hex.specs.Hex.{decode_pairs}
use Rattle.mb_format.specs.Format.{IsBytes, Format, Spells, FailsWhole}
use Rattle.mb_format.specs.Combinators.{number_bytes, items}
use Rattle.mb_format.specs.Reading.{IsExact, reads_whole, raw_at, number_at}
use Rattle.mb_format.proofs.Whole.{IsExactWhole-from_exact}
use Rattle.mb_model.specs.records.KeyFormat.{public_key_format, key_seed_format, keyfile_format}
use Rattle.mb_model.specs.declared.key.Trust.TheVariants.{Always, Never}
use Rattle.mb_model.specs.declared.layer.Trusts.{Trusts}
use Rattle.mb_model.specs.owners.Layers.{layer_without_owner}
use Rattle.mb_model.specs.records.LayerFormat.{trust_format, code_name_format, layer_format, layers_format}
use Rattle.mb_model.specs.records.EntryFormat.{key_kind_format, pair_format, birth_format, change_format, new_key_format, succession_format, entry_format, signed_entry_format}
use Rattle.mb_model.specs.records.RootFormat.{region_key_format, outgoing_format, fate_format, pending_format}
use Rattle.mb_model.specs.records.RootFormat.{root_format}
use Rattle.mb_model.specs.records.RegionFormat.{secret_format, secrets_format, keys_format, region_by, region_format}
use Rattle.mb_model.specs.records.ChainFormat.{answered_format, asked_format, said_format, statement_format, chain_format}
use Rattle.mb_model.specs.memories.PublicRecord.{code_format, codes_format, public_entry_format, public_format}
use Rattle.mb_model.specs.machine.SignedTexts.{statement_text, call_text}
use Rattle.mb_model.specs.signatures.Key.{key_bytes}
use Rattle.mb_model.specs.owners.Born.{officer_key}
use Rattle.mb_model.specs.records.OrderFormat.{target_format, payload_format, body_format}
use Rattle.mb_model.proofs.OrderFormatLaws.{body_exact}
use Rattle.mb_model.proofs.KeyFormatLaws.{public_key_exact, keyfile_exact, layer_exact}
use Rattle.mb_model.proofs.EntryFormatLaws.{entry_exact, statement_exact, chain_exact}
use Rattle.mb_model.proofs.RecordFormatLaws.{root_exact, region_exact, public_exact}
use Rattle.mb_model_examples.specs.RecordValues.{bytes_of, officer_file, officer_file_digits, officer_public, officer_public_digits, surrender_body, new_key_body, load_three_body, load_one_body, load_one_body_digits, emergency_body, emergency_body_digits, split_load_body, split_load_body_digits, split_establish_body, split_establish_body_digits, split_emergency_body, split_emergency_body_digits, area_of_a_key, reliable_layer, reliable_layer_digits, doubted_layer, doubted_layer_digits, bare_layer, bare_layer_digits, split_layer, split_layer_digits, wary_layer, wary_layer_digits, birth_of_version_two, birth_of_version_two_digits, load_of_version_two, load_of_version_two_digits, birth, birth_digits, load_of_one, load_of_one_digits, emergency_of_two, emergency_of_two_digits, new_key_entry, new_key_digits, succession, succession_digits, settled_root_value, settled_root_digits, busy_root, busy_root_digits, small_root, small_root_digits, region_of_both, region_of_both_digits, region_of_a_key, region_of_a_key_digits, statement, statement_bytes, answer_statement, answer_statement_bytes, hash_of_pin_digits, chain_example, chain_bytes, stored, stored_bytes}
use Rattle.mb_model_examples.specs.RecordExamples.{KeyRecords, LayerRecords, BodyRecords, EntryRecords, RootRecords, RegionRecords, StatementRecords, ChainRecords, PublicRecords, with_byte, FailingRecords}

-- ---- bytes

abbrev pub byte_test : List ℕ → Bool
byte_test [] = true
byte_test (byte ∷ bytes) = ltb byte 256 && byte_test bytes

pub are_bytes : (bytes : List ℕ) → byte_test bytes ≡ true → IsBytes bytes
are_bytes [] h i = omega arith
are_bytes (byte ∷ bytes) h zero = ltb-true byte 256 (and_parts (ltb byte 256) (byte_test bytes) h).0
are_bytes (byte ∷ bytes) h (suc i) = are_bytes bytes (and_parts (ltb byte 256) (byte_test bytes) h).1 i

-- bytes spell what reading them as a whole finds
pub spells : {A : Type 0} {f : Format A} → IsExact f → (bytes : List ℕ) (value : A) → byte_test bytes ≡ true → reads_whole f bytes ≡ Ok value → Spells f bytes value
spells exact bytes value small e = (IsExactWhole-from_exact exact).found bytes value (are_bytes bytes small) e

-- and fail where it fails
pub fails : {A : Type 0} {f : Format A} → IsExact f → (bytes : List ℕ) (offset : ℕ) → byte_test bytes ≡ true → reads_whole f bytes ≡ Err offset → FailsWhole f bytes offset
fails exact bytes offset small e = (IsExactWhole-from_exact exact).fails bytes offset (are_bytes bytes small) e

-- ---- values and their bytes

area_hash : sha256 area_of_a_key ≡ bytes_of (codes "58d56411d7bd11d49bff3d8b11ed2b6d184005d3d7c5f21d926e2f8a030f48ab")
unfolding first_words schedule rounds compress hash_after digest_bytes sha256 decode_pairs
area_hash = refl

statement_hash : sha256 statement_bytes ≡ bytes_of (codes "310582fae6f5ee04275da2139d407709f673eef60211116bfd57c6744084992b")
unfolding first_words schedule rounds compress hash_after digest_bytes sha256 decode_pairs
statement_hash = refl

answer_hash : sha256 answer_statement_bytes ≡ bytes_of (codes "69edf641c6a776dfbdd0b3308b1db036e8a94a2db6b723e1db45f918182bfeb6")
unfolding first_words schedule rounds compress hash_after digest_bytes sha256 decode_pairs
answer_hash = refl

input_hash : sha256 (codes "pin") ≡ bytes_of hash_of_pin_digits
unfolding first_words schedule rounds compress hash_after digest_bytes sha256 decode_pairs
input_hash = refl

chain_hash : sha256 chain_bytes ≡ bytes_of (codes "b866a07f0ca69f80354b819af17f1d31ffeb8fc295377b8c04a98bd339319593")
unfolding first_words schedule rounds compress hash_after digest_bytes sha256 decode_pairs
chain_hash = refl

stored_hash : sha256 stored_bytes ≡ bytes_of (codes "3ce78f80c5a0a40976859be0da701d1a2f3c8937c3a4651e34fc67eeb0df5315")
unfolding first_words schedule rounds compress hash_after digest_bytes sha256 decode_pairs
stored_hash = refl

pub keys : KeyRecords
unfolding first_words schedule rounds compress hash_after digest_bytes sha256 decode_pairs number_bytes number_at raw_at key_bytes key_seed_format keyfile_format public_key_format officer_key
keys = record {
  of_noise = refl;
  file = spells keyfile_exact (bytes_of officer_file_digits) officer_file refl refl;
  of_public = spells public_key_exact (bytes_of officer_public_digits) officer_public refl refl;
  hash = refl;
}

never_is_not_always : Never ≡ Always → ⊥
never_is_not_always same = absurd cc

pub layers : LayerRecords
unfolding decode_pairs number_bytes number_at raw_at public_key_format trust_format code_name_format layer_format
layers = record {
  reliable = spells (layer_exact 1) (bytes_of reliable_layer_digits) reliable_layer refl refl;
  doubted = spells (layer_exact 1) (bytes_of doubted_layer_digits) doubted_layer refl refl;
  bare = spells (layer_exact 1) (bytes_of bare_layer_digits) bare_layer refl refl;
  unowned_layer = spells (layer_exact 1) (0 ∷ 1 ∷ []) layer_without_owner refl refl;
  split = spells (layer_exact 2) (bytes_of split_layer_digits) split_layer refl refl;
  wary = spells (layer_exact 2) (bytes_of wary_layer_digits) wary_layer refl refl;
  unowned_in_version_two = spells (layer_exact 2) (0 ∷ 1 ∷ 1 ∷ []) layer_without_owner refl refl;
  no_split_in_version_one = λ bytes spelled. never_is_not_always (ap (λ (trusts : Trusts). trusts.two) spelled.allowed.1.0.1);
}

pub entries : EntryRecords
unfolding decode_pairs number_bytes number_at raw_at public_key_format trust_format code_name_format layer_format layers_format key_kind_format pair_format birth_format change_format new_key_format succession_format entry_format
entries = record {
  of_birth = spells entry_exact (bytes_of birth_digits) birth refl refl;
  of_load = spells entry_exact (bytes_of load_of_one_digits) load_of_one refl refl;
  of_emergency = spells entry_exact (bytes_of emergency_of_two_digits) emergency_of_two refl refl;
  of_new_key = spells entry_exact (bytes_of new_key_digits) new_key_entry refl refl;
  of_succession = spells entry_exact (bytes_of succession_digits) succession refl refl;
  of_birth_of_version_two = spells entry_exact (bytes_of birth_of_version_two_digits) birth_of_version_two refl refl;
  of_load_of_version_two = spells entry_exact (bytes_of load_of_version_two_digits) load_of_version_two refl refl;
}

pub roots : RootRecords
unfolding decode_pairs number_bytes number_at raw_at key_seed_format key_kind_format region_key_format outgoing_format fate_format pending_format root_format
roots = record {
  settled = spells root_exact (bytes_of settled_root_digits) settled_root_value refl refl;
  busy = spells root_exact (bytes_of busy_root_digits) busy_root refl refl;
  small = spells root_exact (bytes_of small_root_digits) small_root refl refl;
}

pub regions : RegionRecords
unfolding decode_pairs number_bytes number_at raw_at items key_seed_format key_kind_format region_key_format secret_format secrets_format keys_format region_by region_format
regions = record {
  of_both = spells region_exact (bytes_of region_of_both_digits) (1, region_of_both) refl refl;
  of_a_key = spells region_exact (bytes_of region_of_a_key_digits) (1, region_of_a_key) refl refl;
  in_version_two = spells region_exact (with_byte 0 2 (bytes_of region_of_both_digits)) (2, region_of_both) refl refl;
  is_written = refl;
  area_size = refl;
  area_hash = area_hash;
  in_area = record {
    bytes = bytes_of region_of_a_key_digits;
    holds = record {
      rest = replicate 4037 0;
      short = lit≤ tt;
      whole = refl;
      blank = All-replicate (λ (byte : ℕ). byte ≡ 0) 4037 0 refl;
    };
    spelled = spells region_exact (bytes_of region_of_a_key_digits) (1, region_of_a_key) refl refl;
  };
}

pub statements : StatementRecords
unfolding decode_pairs number_bytes number_at raw_at answered_format asked_format said_format statement_format statement_text call_text
statements = record {
  spelled = spells statement_exact statement_bytes statement refl refl;
  first = refl;
  hash = statement_hash;
  signed = refl;
  answer_spelled = spells statement_exact answer_statement_bytes answer_statement refl refl;
  answer_size = refl;
  answer_hash = answer_hash;
  answer_signed = refl;
  input_hash = input_hash;
}

pub chains : ChainRecords
unfolding decode_pairs number_bytes number_at raw_at items public_key_format trust_format code_name_format layer_format layers_format key_kind_format birth_format new_key_format entry_format signed_entry_format answered_format asked_format said_format statement_format chain_format
chains = record { spelled = spells chain_exact chain_bytes chain_example refl refl; size = refl; first = refl; hash = chain_hash }

pub publics : PublicRecords
unfolding decode_pairs number_bytes number_at raw_at items public_key_format trust_format code_name_format layer_format layers_format key_kind_format birth_format new_key_format succession_format entry_format code_format codes_format public_entry_format public_format
publics = record { spelled = spells public_exact stored_bytes stored refl refl; size = refl; first = refl; hash = stored_hash }

pub bodies : BodyRecords
unfolding decode_pairs number_bytes number_at raw_at items public_key_format trust_format key_kind_format target_format payload_format body_format
bodies = record {
  surrender = spells body_exact (bytes_of (codes "0202010200000007")) surrender_body refl refl;
  of_new_key = spells body_exact (bytes_of (codes "05030001")) new_key_body refl refl;
  load_three = spells body_exact (bytes_of (codes "030300000001020100000003616263")) load_three_body refl refl;
  load_one = spells body_exact (bytes_of load_one_body_digits) load_one_body refl refl;
  emergency = spells body_exact (bytes_of emergency_body_digits) emergency_body refl refl;
  split_load = spells body_exact (bytes_of split_load_body_digits) split_load_body refl refl;
  split_establish = spells body_exact (bytes_of split_establish_body_digits) split_establish_body refl refl;
  split_emergency = spells body_exact (bytes_of split_emergency_body_digits) split_emergency_body refl refl;
}

-- ---- bytes that are no record

pub failings : FailingRecords
unfolding decode_pairs number_at raw_at items public_key_format key_seed_format trust_format code_name_format layer_format layers_format key_kind_format pair_format birth_format change_format entry_format region_key_format outgoing_format fate_format pending_format root_format secret_format secrets_format keys_format region_by region_format target_format payload_format body_format
failings = record {
  short_birth = fails entry_exact (take 170 (bytes_of birth_digits)) 170 refl refl;
  entry_tag = fails entry_exact (with_byte 0 4 (bytes_of birth_digits)) 0 refl refl;
  entry_tag_of_no_version = fails entry_exact (with_byte 0 18 (bytes_of load_of_version_two_digits)) 0 refl refl;
  change_kind = fails entry_exact (with_byte 9 5 (bytes_of load_of_one_digits)) 9 refl refl;
  layer_has = fails entry_exact (with_byte 13 2 (bytes_of load_of_one_digits)) 13 refl refl;
  unowned_trusts_always = fails (layer_exact 2) (0 ∷ 1 ∷ 0 ∷ []) 2 refl refl;
  equal_trusts_in_load = fails body_exact (with_byte 8 0 (bytes_of split_load_body_digits)) 8 refl refl;
  equal_trusts_in_establish = fails body_exact (with_byte 60 0 (bytes_of split_establish_body_digits)) 60 refl refl;
  equal_trusts_in_emergency = fails body_exact (with_byte 13 2 (bytes_of split_emergency_body_digits)) 13 refl refl;
  third_trust = fails body_exact (with_byte 8 3 (bytes_of split_load_body_digits)) 8 refl refl;
  surrender_with_trusts = fails body_exact (18 ∷ 2 ∷ 0 ∷ []) 0 refl refl;
  kind_of_no_form = fails body_exact (21 ∷ 3 ∷ 0 ∷ 1 ∷ []) 0 refl refl;
  area = fails root_exact (with_byte 1 2 (bytes_of busy_root_digits)) 1 refl refl;
  uses = fails root_exact (with_byte 66 33 (bytes_of busy_root_digits)) 66 refl refl;
  unsigned = fails root_exact (with_byte 68 3 (bytes_of busy_root_digits)) 68 refl refl;
  short_root = fails root_exact (take 174 (bytes_of busy_root_digits)) 174 refl refl;
  empty = fails region_exact (1 ∷ 0 ∷ 0 ∷ []) 2 refl refl;
  space_in_name = fails region_exact (with_byte 3 0x20 (bytes_of region_of_both_digits)) 3 refl refl;
  version = fails region_exact (with_byte 0 3 (bytes_of region_of_both_digits)) 0 refl refl;
  many_secrets = fails region_exact (with_byte 1 17 (bytes_of region_of_both_digits)) 1 refl refl;
  many_secrets_in_version_two = fails region_exact (with_byte 0 2 (with_byte 1 23 (bytes_of region_of_both_digits))) 1 refl refl;
  left_over = fails region_exact (bytes_of region_of_both_digits ++ 0 ∷ []) 131 refl refl;
}
