-- The examples of formats, computed.
use Rattle.std.proofs.Common.{[], ◌∷◌, ◌++◌, refl, rules}
use Rattle.mb_format.specs.Combinators.{number_bytes, items}
use Rattle.mb_format.specs.Reading.{raw_at, number_at}
use Rattle.mb_format.proofs.Examples.{fails_at}
use Rattle.mb_model.specs.records.KeyFormat.{public_key_format}
use Rattle.mb_model.specs.records.LayerFormat.{trust_format}
use Rattle.mb_model.specs.records.EntryFormat.{key_kind_format}
use Rattle.mb_model.specs.records.OrderFormat.{target_format, payload_format, body_format, sized_signature_format, countersignatures_format, order_format}
use Rattle.mb_model.specs.records.ChainFormat.{chain_format}
use Rattle.mb_model.specs.records.RegionFormat.{secrets_format, keys_format, region_by, region_format}
use Rattle.mb_model.proofs.OrderFormatLaws.{order_exact}
use Rattle.mb_model.proofs.EntryFormatLaws.{chain_exact}
use Rattle.mb_model.proofs.RecordFormatLaws.{region_exact}
use Rattle.mb_model_examples.specs.FormatExamples.{surrender_bytes, countersigned_first_by, SpellingExamples, FailingExamples}

pub spellings : SpellingExamples
unfolding public_key_format trust_format key_kind_format target_format payload_format body_format number_bytes items
spellings = record { public_key = λ identifier root. refl; surrender = refl; new_key = refl; load = refl }

pub failings : FailingExamples
unfolding trust_format target_format payload_format body_format sized_signature_format countersignatures_format order_format chain_format secrets_format keys_format region_by region_format number_at raw_at items
failings = record {
  countersigned_surrender = fails_at order_exact (surrender_bytes ++ 0 ∷ 0 ∷ 1 ∷ []) 10 (search rules depth 20) refl;
  left_over = fails_at order_exact (surrender_bytes ++ 0 ∷ 0 ∷ 0 ∷ 9 ∷ []) 11 (search rules depth 20) refl;
  three_first = fails_at order_exact (countersigned_first_by 3) 15 (search rules depth 20) refl;
  two_first = fails_at order_exact (countersigned_first_by 2) 16 (search rules depth 20) refl;
  surrender_one = fails_at order_exact (2 ∷ 1 ∷ 0 ∷ 0 ∷ 0 ∷ 0 ∷ []) 1 (search rules depth 20) refl;
  empty_region = fails_at region_exact (1 ∷ 0 ∷ 0 ∷ []) 2 (search rules depth 20) refl;
  other_word = fails_at chain_exact (0x4D ∷ 0x42 ∷ 0x4B ∷ 0x31 ∷ 0 ∷ 1 ∷ []) 0 (search rules depth 20) refl;
  no_entries = fails_at chain_exact (0x4D ∷ 0x42 ∷ 0x43 ∷ 0x31 ∷ 0 ∷ 0 ∷ 0 ∷ []) 4 (search rules depth 20) refl;
}
