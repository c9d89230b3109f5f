-- Headers of a flash in segments and a sector of its log as bytes, and bytes that are no header; the checker computes
-- each line. Do the formats say what an independent program wrote?
use Rattle.std.specs.Prelude.{◌≡◌, ℕ, List, ◌++◌, length, take, replicate, codes, Option, None, Some}
use Rattle.sha2.specs.Sha256.{sha256}
use Rattle.mb_format.specs.Format.{Spells, FailsWhole}
use Rattle.mb_model.specs.declared.stored.Slot.{Slot}
use Rattle.mb_model.specs.declared.stored.Header.{Header}
use Rattle.mb_model.specs.records.HeaderFormat.{header_format, log_format}
use Rattle.mb_model_examples.specs.RecordValues.{bytes_of, birth_digits, new_key_digits, succession_digits}
use Rattle.mb_model_examples.specs.RecordExamples.{with_byte}

-- ---- headers

abbrev pub no_code : Slot
no_code = record { which = 0; length = 0 }

-- layer 1 has 9 bytes of code in slot 1, and this many entries are signed
abbrev pub header_of_one : ℕ → Option (List ℕ) → Option (List ℕ) → Header
header_of_one signed first second = record {
  one = record { which = 1; length = 9 };
  two = no_code;
  three = no_code;
  signed = signed;
  first = first;
  second = second;
}

-- each layer has a slot, layer 2 with no bytes of code, and the log is full
abbrev pub full_header : Header
full_header = record {
  one = record { which = 2; length = 32768 };
  two = record { which = 1; length = 0 };
  three = record { which = 2; length = 4097 };
  signed = 128;
  first = None;
  second = None;
}

-- a surrender of layer 3 at position 9, as bytes
abbrev pub surrender_digits : List ℕ
surrender_digits =
    codes "010000000900000006020300010700000000050000000311111111111111111111111111111111121212121212"
    ++ codes "121212121212121212121212121212121212121212121212121213131313131313131313131313131313131313"
    ++ codes "13131313131313131313131313000001020001000100"

-- one new key at position 7 is unsigned
abbrev pub header_with_one_digits : List ℕ
header_with_one_digits = codes "4d4248310100000009000000000000000000000007010047" ++ new_key_digits

-- a succession at position 8 and the surrender are unsigned
abbrev pub header_with_two_digits : List ℕ
header_with_two_digits =
    codes "4d424831010000000900000000000000000000000802003d" ++ succession_digits ++ codes "0070" ++ surrender_digits

pub record HeaderRecords : Type 0 where
  pub of_a_birth : Spells header_format (bytes_of (codes "4d424831010000000900000000000000000000000100"))
      (header_of_one 1 None None)
  pub of_a_full_log : Spells header_format (bytes_of (codes "4d424831020000800001000000000200001001008000"))
      full_header
  pub with_one_unsigned : Spells header_format (bytes_of header_with_one_digits)
      (header_of_one 7 (Some (bytes_of new_key_digits)) None)
  pub with_two_unsigned : Spells header_format (bytes_of header_with_two_digits)
      (header_of_one 8 (Some (bytes_of succession_digits)) (Some (bytes_of surrender_digits)))
  -- a second unsigned entry without a first has no spelling
  pub no_second_alone : (bytes text : List ℕ) → Spells header_format bytes (header_of_one 8 None (Some text)) → ⊥

-- ---- bytes that are no header

pub record FailingHeaders : Type 0 where
  -- the last byte of the word is another
  pub word : FailsWhole header_format (with_byte 3 0x32 (bytes_of header_with_one_digits)) 0
  -- a layer has two slots, and code only in one of these
  pub third_slot : FailsWhole header_format (with_byte 4 3 (bytes_of header_with_one_digits)) 4
  pub code_without_slot : FailsWhole header_format (with_byte 13 1 (bytes_of header_with_one_digits)) 10
  -- a code has at most 32,768 bytes
  pub long_code : FailsWhole header_format (with_byte 7 0x80 (with_byte 8 1 (bytes_of header_with_one_digits))) 5
  -- 1 to 128 entries are signed, at most two are not, and there are at most 128 together
  pub none_signed : FailsWhole header_format (with_byte 20 0 (bytes_of header_with_one_digits)) 19
  pub many_signed : FailsWhole header_format (with_byte 20 129 (bytes_of header_with_one_digits)) 19
  pub three_unsigned : FailsWhole header_format (with_byte 21 3 (bytes_of header_with_one_digits)) 21
  pub one_too_many : FailsWhole header_format (with_byte 20 128 (bytes_of header_with_one_digits)) 21
  -- an entry has 1 to 400 bytes
  pub empty_entry : FailsWhole header_format (with_byte 23 0 (bytes_of header_with_one_digits)) 22
  pub long_entry : FailsWhole header_format (with_byte 22 1 (with_byte 23 0x91 (bytes_of header_with_one_digits))) 22

-- ---- sectors of the log

-- a birth with its signature
abbrev pub log_bytes : List ℕ
log_bytes = bytes_of (codes "00ab" ++ birth_digits) ++ replicate 2348 0x61

pub record LogRecords : Type 0 where
  pub spelled : Spells log_format log_bytes (bytes_of birth_digits, replicate 2348 0x61)
  pub size : length log_bytes ≡ 2521
  pub first : take 40 log_bytes
      ≡ bytes_of (codes "00ab0041414141414141414141414141414141000000050000000343434343434343434343434343")
  pub hash : sha256 log_bytes
      ≡ bytes_of (codes "9f340373a0885fd3421fe2e978467988e0a014796e510fb169e1e5cc8f74a15d")
