-- The records of a device as bytes, and bytes that are no record; the checker computes each line. Do the formats say
-- what an independent program wrote?
use Rattle.std.specs.Prelude.{◌≡◌, ℕ, ◌+◌, List, [], ◌∷◌, ◌++◌, length, take, drop, replicate, codes}
use Rattle.sha2.specs.Sha256.{sha256}
use Rattle.mb_format.specs.Format.{Spells, FailsWhole}
use Rattle.mb_model.specs.signatures.Key.{key_bytes}
use Rattle.mb_model.specs.owners.Born.{officer_key}
use Rattle.mb_model.specs.records.KeyFormat.{public_key_format, keyfile_format}
use Rattle.mb_model.specs.records.OrderFormat.{body_format}
use Rattle.mb_model.specs.owners.Layers.{layer_without_owner}
use Rattle.mb_model.specs.records.LayerFormat.{layer_format}
use Rattle.mb_model.specs.records.EntryFormat.{entry_format}
use Rattle.mb_model.specs.records.RootFormat.{root_format}
use Rattle.mb_model.specs.records.RegionFormat.{region_format, written_region}
use Rattle.mb_model.specs.memories.Memory.{HoldsRecord}
use Rattle.mb_model.specs.records.ChainFormat.{statement_format, chain_format}
use Rattle.mb_model.specs.memories.PublicRecord.{public_format}
use Rattle.mb_model.specs.machine.SignedTexts.{statement_text, call_text}
use Rattle.mb_model_examples.specs.RecordValues.{bytes_of, reliable_layer, reliable_layer_digits, doubted_layer}
use Rattle.mb_model_examples.specs.RecordValues.{doubted_layer_digits, bare_layer}
use Rattle.mb_model_examples.specs.RecordValues.{bare_layer_digits, birth, birth_digits}
use Rattle.mb_model_examples.specs.RecordValues.{load_of_one, load_of_one_digits}
use Rattle.mb_model_examples.specs.RecordValues.{emergency_of_two, emergency_of_two_digits}
use Rattle.mb_model_examples.specs.RecordValues.{new_key_entry, new_key_digits, succession, succession_digits}
use Rattle.mb_model_examples.specs.RecordValues.{settled_root_value, settled_root_digits, busy_root, busy_root_digits}
use Rattle.mb_model_examples.specs.RecordValues.{small_root, small_root_digits, region_of_both, region_of_both_digits}
use Rattle.mb_model_examples.specs.RecordValues.{region_of_a_key, region_of_a_key_digits, area_of_a_key}
use Rattle.mb_model_examples.specs.RecordValues.{statement, statement_bytes, statement_text_digits}
use Rattle.mb_model_examples.specs.RecordValues.{answer_statement, hash_of_pin_digits, answer_statement_bytes}
use Rattle.mb_model_examples.specs.RecordValues.{answer_text_digits}
use Rattle.mb_model_examples.specs.RecordValues.{chain_example, chain_bytes}
use Rattle.mb_model_examples.specs.RecordValues.{stored, stored_bytes}
use Rattle.mb_model_examples.specs.RecordValues.{noise_digits, officer_file, officer_file_digits, officer_public}
use Rattle.mb_model_examples.specs.RecordValues.{officer_public_digits, surrender_body, new_key_body, load_three_body}
use Rattle.mb_model_examples.specs.RecordValues.{load_one_body, load_one_body_digits}
use Rattle.mb_model_examples.specs.RecordValues.{emergency_body, emergency_body_digits}
use Rattle.mb_model_examples.specs.RecordValues.{split_layer, split_layer_digits, wary_layer, wary_layer_digits}
use Rattle.mb_model_examples.specs.RecordValues.{birth_of_version_two, birth_of_version_two_digits}
use Rattle.mb_model_examples.specs.RecordValues.{load_of_version_two, load_of_version_two_digits}
use Rattle.mb_model_examples.specs.RecordValues.{split_load_body, split_load_body_digits, split_establish_body}
use Rattle.mb_model_examples.specs.RecordValues.{split_establish_body_digits, split_emergency_body}
use Rattle.mb_model_examples.specs.RecordValues.{split_emergency_body_digits}

-- the bytes with another byte at an offset
abbrev pub with_byte : ℕ → ℕ → List ℕ → List ℕ
with_byte at byte bytes = take at bytes ++ byte ∷ drop (at + 1) bytes

-- ---- values and their bytes: of long ones the program gave the length, the first bytes and the hash

pub record KeyRecords : Type 0 where
  pub of_noise : officer_key (bytes_of noise_digits) ≡ officer_file.seed
  pub file : Spells keyfile_format (bytes_of officer_file_digits) officer_file
  pub of_public : Spells public_key_format (bytes_of officer_public_digits) officer_public
  pub hash : sha256 (key_bytes officer_public)
      ≡ bytes_of (codes "4f6e9ff38c1bc427d7e117d76edf284a97cc41938a0dc9375856a06c06f87f9b")

pub record LayerRecords : Type 0 where
  pub reliable : Spells (layer_format 1) (bytes_of reliable_layer_digits) reliable_layer
  pub doubted : Spells (layer_format 1) (bytes_of doubted_layer_digits) doubted_layer
  pub bare : Spells (layer_format 1) (bytes_of bare_layer_digits) bare_layer
  pub unowned_layer : Spells (layer_format 1) (0 ∷ 1 ∷ []) layer_without_owner
  pub split : Spells (layer_format 2) (bytes_of split_layer_digits) split_layer
  pub wary : Spells (layer_format 2) (bytes_of wary_layer_digits) wary_layer
  pub unowned_in_version_two : Spells (layer_format 2) (0 ∷ 1 ∷ 1 ∷ []) layer_without_owner
  -- no bytes of version 1 spell two trusts that differ
  pub no_split_in_version_one : (bytes : List ℕ) → Spells (layer_format 1) bytes split_layer → ⊥

pub record EntryRecords : Type 0 where
  pub of_birth : Spells entry_format (bytes_of birth_digits) birth
  pub of_load : Spells entry_format (bytes_of load_of_one_digits) load_of_one
  pub of_emergency : Spells entry_format (bytes_of emergency_of_two_digits) emergency_of_two
  pub of_new_key : Spells entry_format (bytes_of new_key_digits) new_key_entry
  pub of_succession : Spells entry_format (bytes_of succession_digits) succession
  pub of_birth_of_version_two : Spells entry_format (bytes_of birth_of_version_two_digits) birth_of_version_two
  pub of_load_of_version_two : Spells entry_format (bytes_of load_of_version_two_digits) load_of_version_two

pub record RootRecords : Type 0 where
  pub settled : Spells root_format (bytes_of settled_root_digits) settled_root_value
  pub busy : Spells root_format (bytes_of busy_root_digits) busy_root
  pub small : Spells root_format (bytes_of small_root_digits) small_root

pub record RegionRecords : Type 0 where
  pub of_both : Spells region_format (bytes_of region_of_both_digits) (1, region_of_both)
  pub of_a_key : Spells region_format (bytes_of region_of_a_key_digits) (1, region_of_a_key)
  pub in_area : HoldsRecord region_format area_of_a_key (1, region_of_a_key)
  -- the version alone differs in the record that is written
  pub in_version_two : Spells region_format (with_byte 0 2 (bytes_of region_of_both_digits)) (2, region_of_both)
  pub is_written : written_region region_of_both ≡ with_byte 0 2 (bytes_of region_of_both_digits)
  pub area_size : length area_of_a_key ≡ 4096
  pub area_hash : sha256 area_of_a_key
      ≡ bytes_of (codes "58d56411d7bd11d49bff3d8b11ed2b6d184005d3d7c5f21d926e2f8a030f48ab")

pub record StatementRecords : Type 0 where
  pub spelled : Spells statement_format statement_bytes statement
  pub first : take 12 statement_bytes ≡ bytes_of (codes "000000050568656c6c6f6363")
  pub hash : sha256 statement_bytes
      ≡ bytes_of (codes "310582fae6f5ee04275da2139d407709f673eef60211116bfd57c6744084992b")
  -- what key 9 signed of the statement, on the device of serial 0x41..
  pub signed : statement_text (replicate 16 0x41) 9 5 (codes "hello") ≡ bytes_of statement_text_digits
  -- a statement of a call, and what key 9 signed of it
  pub answer_spelled : Spells statement_format answer_statement_bytes answer_statement
  pub answer_size : length answer_statement_bytes ≡ 2391
  pub answer_hash : sha256 answer_statement_bytes
      ≡ bytes_of (codes "69edf641c6a776dfbdd0b3308b1db036e8a94a2db6b723e1db45f918182bfeb6")
  pub answer_signed : call_text (replicate 16 0x41) 9 5 (bytes_of hash_of_pin_digits) (codes "hello")
      ≡ bytes_of answer_text_digits
  pub input_hash : sha256 (codes "pin") ≡ bytes_of hash_of_pin_digits

pub record ChainRecords : Type 0 where
  pub spelled : Spells chain_format chain_bytes chain_example
  pub size : length chain_bytes ≡ 7303
  pub first : take 24 chain_bytes ≡ bytes_of (codes "4d4243310002004141414141414141414141414141414100")
  pub hash : sha256 chain_bytes
      ≡ bytes_of (codes "b866a07f0ca69f80354b819af17f1d31ffeb8fc295377b8c04a98bd339319593")

pub record PublicRecords : Type 0 where
  pub spelled : Spells public_format stored_bytes stored
  pub size : length stored_bytes ≡ 5020
  pub first : take 40 stored_bytes
      ≡ bytes_of (codes "0101000000010a000100000003616263000300414141414141414141414141414141410000000500")
  pub hash : sha256 stored_bytes
      ≡ bytes_of (codes "3ce78f80c5a0a40976859be0da701d1a2f3c8937c3a4651e34fc67eeb0df5315")

-- what is signed of orders
pub record BodyRecords : Type 0 where
  pub surrender : Spells body_format (bytes_of (codes "0202010200000007")) surrender_body
  pub of_new_key : Spells body_format (bytes_of (codes "05030001")) new_key_body
  pub load_three : Spells body_format (bytes_of (codes "030300000001020100000003616263")) load_three_body
  pub load_one : Spells body_format (bytes_of load_one_body_digits) load_one_body
  pub emergency : Spells body_format (bytes_of emergency_body_digits) emergency_body
  pub split_load : Spells body_format (bytes_of split_load_body_digits) split_load_body
  pub split_establish : Spells body_format (bytes_of split_establish_body_digits) split_establish_body
  pub split_emergency : Spells body_format (bytes_of split_emergency_body_digits) split_emergency_body

-- ---- bytes that are no record

pub record FailingRecords : Type 0 where
  -- a birth that ends before the trust of its layer 3
  pub short_birth : FailsWhole entry_format (take 170 (bytes_of birth_digits)) 170
  -- no entry has the tag 4, no change the kind 5, and no layer has code without an owner
  pub entry_tag : FailsWhole entry_format (with_byte 0 4 (bytes_of birth_digits)) 0
  pub entry_tag_of_no_version : FailsWhole entry_format (with_byte 0 18 (bytes_of load_of_version_two_digits)) 0
  pub change_kind : FailsWhole entry_format (with_byte 9 5 (bytes_of load_of_one_digits)) 9
  pub layer_has : FailsWhole entry_format (with_byte 13 2 (bytes_of load_of_one_digits)) 13
  -- both trusts of an unowned layer are never
  pub unowned_trusts_always : FailsWhole (layer_format 2) (0 ∷ 1 ∷ 0 ∷ []) 2
  -- of two trusts in an order the second is not the first, and surrender gives none
  pub equal_trusts_in_load : FailsWhole body_format (with_byte 8 0 (bytes_of split_load_body_digits)) 8
  pub equal_trusts_in_establish : FailsWhole body_format (with_byte 60 0 (bytes_of split_establish_body_digits)) 60
  pub equal_trusts_in_emergency : FailsWhole body_format (with_byte 13 2 (bytes_of split_emergency_body_digits)) 13
  pub third_trust : FailsWhole body_format (with_byte 8 3 (bytes_of split_load_body_digits)) 8
  pub surrender_with_trusts : FailsWhole body_format (18 ∷ 2 ∷ 0 ∷ []) 0
  pub kind_of_no_form : FailsWhole body_format (21 ∷ 3 ∷ 0 ∷ 1 ∷ []) 0
  -- there is no area 2, no key with 33 uses, and no three entries are unsigned
  pub area : FailsWhole root_format (with_byte 1 2 (bytes_of busy_root_digits)) 1
  pub uses : FailsWhole root_format (with_byte 66 33 (bytes_of busy_root_digits)) 66
  pub unsigned : FailsWhole root_format (with_byte 68 3 (bytes_of busy_root_digits)) 68
  -- a root that ends before the uses of the key that is added
  pub short_root : FailsWhole root_format (take 174 (bytes_of busy_root_digits)) 174
  -- an empty region has no record
  pub empty : FailsWhole region_format (1 ∷ 0 ∷ 0 ∷ []) 2
  -- a name has no space: the whole name fails
  pub space_in_name : FailsWhole region_format (with_byte 3 0x20 (bytes_of region_of_both_digits)) 3
  pub version : FailsWhole region_format (with_byte 0 3 (bytes_of region_of_both_digits)) 0
  -- no region has 17 secrets in version 1, or 23 in version 2
  pub many_secrets : FailsWhole region_format (with_byte 1 17 (bytes_of region_of_both_digits)) 1
  pub many_secrets_in_version_two :
      FailsWhole region_format (with_byte 0 2 (with_byte 1 23 (bytes_of region_of_both_digits))) 1
  -- nothing follows a region
  pub left_over : FailsWhole region_format (bytes_of region_of_both_digits ++ 0 ∷ []) 131
