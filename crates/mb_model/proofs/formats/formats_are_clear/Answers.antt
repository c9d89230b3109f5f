use Rattle.mb_format.proofs.Exact.{IsClear-from_exact}
use Rattle.mb_model.proofs.KeyFormatLaws as keys
use Rattle.mb_model.proofs.EntryFormatLaws as entries
use Rattle.mb_model.proofs.OrderFormatLaws as orders
use Rattle.mb_model.proofs.RecordFormatLaws as records
use Rattle.mb_model.proofs.HeaderFormatLaws as headers
use Rattle.mb_model.proofs.formats.formats_are_clear.Goals as goal

pub returns-clause-public_key : goal.returns-clause-public_key
returns-clause-public_key c = IsClear-from_exact keys.public_key_exact

pub returns-clause-key_seed : goal.returns-clause-key_seed
returns-clause-key_seed c = IsClear-from_exact keys.key_seed_exact

pub returns-clause-keyfile : goal.returns-clause-keyfile
returns-clause-keyfile c = IsClear-from_exact keys.keyfile_exact

pub returns-clause-trust : goal.returns-clause-trust
returns-clause-trust c = IsClear-from_exact keys.trust_exact

pub returns-clause-layer : goal.returns-clause-layer
returns-clause-layer c = λ version. IsClear-from_exact (keys.layer_exact version)

pub returns-clause-layers : goal.returns-clause-layers
returns-clause-layers c = λ version. IsClear-from_exact (keys.layers_exact version)

pub returns-clause-entry : goal.returns-clause-entry
returns-clause-entry c = IsClear-from_exact entries.entry_exact

pub returns-clause-signed_entry : goal.returns-clause-signed_entry
returns-clause-signed_entry c = IsClear-from_exact entries.signed_entry_exact

pub returns-clause-target : goal.returns-clause-target
returns-clause-target c = IsClear-from_exact orders.target_exact

pub returns-clause-body : goal.returns-clause-body
returns-clause-body c = IsClear-from_exact orders.body_exact

pub returns-clause-order : goal.returns-clause-order
returns-clause-order c = IsClear-from_exact orders.order_exact

pub returns-clause-statement : goal.returns-clause-statement
returns-clause-statement c = IsClear-from_exact entries.statement_exact

pub returns-clause-chain : goal.returns-clause-chain
returns-clause-chain c = IsClear-from_exact entries.chain_exact

pub returns-clause-region_key : goal.returns-clause-region_key
returns-clause-region_key c = IsClear-from_exact records.region_key_exact

pub returns-clause-root : goal.returns-clause-root
returns-clause-root c = IsClear-from_exact records.root_exact

pub returns-clause-secret : goal.returns-clause-secret
returns-clause-secret c = IsClear-from_exact records.secret_exact

pub returns-clause-region : goal.returns-clause-region
returns-clause-region c = IsClear-from_exact records.region_exact

pub returns-clause-public_entry : goal.returns-clause-public_entry
returns-clause-public_entry c = IsClear-from_exact records.public_entry_exact

pub returns-clause-public_record : goal.returns-clause-public_record
returns-clause-public_record c = IsClear-from_exact records.public_exact

pub returns-clause-slot : goal.returns-clause-slot
returns-clause-slot c = IsClear-from_exact headers.slot_exact

pub returns-clause-header : goal.returns-clause-header
returns-clause-header c = IsClear-from_exact headers.header_exact

pub returns-clause-log_sector : goal.returns-clause-log_sector
returns-clause-log_sector c = IsClear-from_exact headers.log_exact
