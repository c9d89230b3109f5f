use Rattle.mb_model_memory.proofs.FlashWrites as writes
use Rattle.mb_model_memory.proofs.FlashHeaders as headers
use Rattle.mb_model_laws.proofs.segments.order_writes_are_held.Goals as goal

pub returns-clause-held : goal.returns-clause-held
returns-clause-held c = writes.order_held

pub returns-clause-writes : goal.returns-clause-writes
returns-clause-writes c = writes.order_written

pub returns-clause-texts : goal.returns-clause-texts
returns-clause-texts c = headers.entries_have_texts

pub returns-clause-code : goal.returns-clause-code
returns-clause-code c = headers.code_brought_short

pub returns-clause-header : goal.returns-clause-header
returns-clause-header c = headers.header_after_allowed
