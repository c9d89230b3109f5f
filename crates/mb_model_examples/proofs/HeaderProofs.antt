-- The examples of headers and of a sector of the log, computed.
use Rattle.std.proofs.Common.{◌≡◌, replicate, None, Some, refl}
use Rattle.std.specs.Prelude.{codes}
use Rattle.sha2.specs.Sha256.{first_words, schedule, rounds, compress, hash_after, digest_bytes, sha256}
use Rattle.hex.specs.Hex.{decode_pairs}
use Rattle.mb_format.specs.Combinators.{number_bytes, items}
use Rattle.mb_format.specs.Reading.{raw_at, number_at}
use Rattle.mb_model.specs.records.HeaderFormat.{code_length_format, slot_format, entry_bytes_format, unsigned_format, header_format, log_format}
use Rattle.mb_model.proofs.HeaderFormatLaws.{header_exact, log_exact}
use Rattle.mb_model_examples.specs.RecordValues.{bytes_of, birth_digits, new_key_digits, succession_digits}
use Rattle.mb_model_examples.specs.RecordExamples.{with_byte}
use Rattle.mb_model_examples.specs.HeaderExamples.{header_of_one, full_header, surrender_digits, header_with_one_digits, header_with_two_digits, HeaderRecords, FailingHeaders, log_bytes, LogRecords}
use Rattle.mb_model_examples.proofs.RecordProofs.{spells, fails}

pub headers : HeaderRecords
unfolding decode_pairs number_bytes number_at raw_at items code_length_format slot_format entry_bytes_format unsigned_format header_format
headers = record {
  of_a_birth = spells header_exact (bytes_of (codes "4d424831010000000900000000000000000000000100")) (header_of_one 1 None None) refl refl;
  of_a_full_log = spells header_exact (bytes_of (codes "4d424831020000800001000000000200001001008000")) full_header refl refl;
  with_one_unsigned = spells header_exact (bytes_of header_with_one_digits) (header_of_one 7 (Some (bytes_of new_key_digits)) None) refl refl;
  with_two_unsigned = spells header_exact (bytes_of header_with_two_digits) (header_of_one 8 (Some (bytes_of succession_digits)) (Some (bytes_of surrender_digits))) refl refl;
  no_second_alone = λ bytes text spelled. absurd spelled.allowed.1.1.1.1.1;
}

pub failings : FailingHeaders
unfolding decode_pairs number_at raw_at items code_length_format slot_format entry_bytes_format unsigned_format header_format
failings = record {
  word = fails header_exact (with_byte 3 0x32 (bytes_of header_with_one_digits)) 0 refl refl;
  third_slot = fails header_exact (with_byte 4 3 (bytes_of header_with_one_digits)) 4 refl refl;
  code_without_slot = fails header_exact (with_byte 13 1 (bytes_of header_with_one_digits)) 10 refl refl;
  long_code = fails header_exact (with_byte 7 0x80 (with_byte 8 1 (bytes_of header_with_one_digits))) 5 refl refl;
  none_signed = fails header_exact (with_byte 20 0 (bytes_of header_with_one_digits)) 19 refl refl;
  many_signed = fails header_exact (with_byte 20 129 (bytes_of header_with_one_digits)) 19 refl refl;
  three_unsigned = fails header_exact (with_byte 21 3 (bytes_of header_with_one_digits)) 21 refl refl;
  one_too_many = fails header_exact (with_byte 20 128 (bytes_of header_with_one_digits)) 21 refl refl;
  empty_entry = fails header_exact (with_byte 23 0 (bytes_of header_with_one_digits)) 22 refl refl;
  long_entry = fails header_exact (with_byte 22 1 (with_byte 23 0x91 (bytes_of header_with_one_digits))) 22 refl refl;
}

log_hash : sha256 log_bytes ≡ bytes_of (codes "9f340373a0885fd3421fe2e978467988e0a014796e510fb169e1e5cc8f74a15d")
unfolding first_words schedule rounds compress hash_after digest_bytes sha256 decode_pairs
log_hash = refl

pub logs : LogRecords
unfolding decode_pairs number_bytes number_at raw_at entry_bytes_format log_format
logs = record { spelled = spells log_exact log_bytes (bytes_of birth_digits, replicate 2348 0x61) refl refl; size = refl; first = refl; hash = log_hash }
