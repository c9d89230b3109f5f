use Rattle.mb_model.proofs.FormatBounds as bounds
use Rattle.mb_model.proofs.formats.formats_are_short.Goals as goal

pub returns-clause-public_key : goal.returns-clause-public_key
returns-clause-public_key c = bounds.public_key_short

pub returns-clause-keyfile : goal.returns-clause-keyfile
returns-clause-keyfile c = bounds.keyfile_short

pub returns-clause-entry : goal.returns-clause-entry
returns-clause-entry c = bounds.entry_short

pub returns-clause-order : goal.returns-clause-order
returns-clause-order c = bounds.order_short

pub returns-clause-statement : goal.returns-clause-statement
returns-clause-statement c = bounds.statement_short

pub returns-clause-chain : goal.returns-clause-chain
returns-clause-chain c = bounds.chain_short

pub returns-clause-root : goal.returns-clause-root
returns-clause-root c = bounds.root_short

pub returns-clause-region : goal.returns-clause-region
returns-clause-region c = bounds.region_short

pub returns-clause-public_record : goal.returns-clause-public_record
returns-clause-public_record c = bounds.public_short

pub returns-clause-header : goal.returns-clause-header
returns-clause-header c = bounds.header_short

pub returns-clause-log_sector : goal.returns-clause-log_sector
returns-clause-log_sector c = bounds.log_short
