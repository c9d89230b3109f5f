use Rattle.mb_format.proofs.Whole.{IsClearWhole-from_exact}
use Rattle.mb_model.proofs.KeyFormatLaws as keys
use Rattle.mb_model.proofs.OrderFormatLaws as orders
use Rattle.mb_model.proofs.EntryFormatLaws as entries
use Rattle.mb_model.proofs.RecordFormatLaws as records
use Rattle.mb_model.proofs.formats.whole_formats_are_clear.Goals as goal

pub returns-clause-public_key : goal.returns-clause-public_key
returns-clause-public_key c = IsClearWhole-from_exact keys.public_key_exact

pub returns-clause-keyfile : goal.returns-clause-keyfile
returns-clause-keyfile c = IsClearWhole-from_exact keys.keyfile_exact

pub returns-clause-order : goal.returns-clause-order
returns-clause-order c = IsClearWhole-from_exact orders.order_exact

pub returns-clause-statement : goal.returns-clause-statement
returns-clause-statement c = IsClearWhole-from_exact entries.statement_exact

pub returns-clause-chain : goal.returns-clause-chain
returns-clause-chain c = IsClearWhole-from_exact entries.chain_exact

pub returns-clause-root : goal.returns-clause-root
returns-clause-root c = IsClearWhole-from_exact records.root_exact

pub returns-clause-region : goal.returns-clause-region
returns-clause-region c = IsClearWhole-from_exact records.region_exact

pub returns-clause-public_record : goal.returns-clause-public_record
returns-clause-public_record c = IsClearWhole-from_exact records.public_exact
