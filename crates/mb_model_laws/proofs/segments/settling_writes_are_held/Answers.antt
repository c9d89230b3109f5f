use Rattle.mb_model_memory.proofs.FlashWrites as writes
use Rattle.mb_model_memory.proofs.FlashHeaders as headers
use Rattle.mb_model_laws.proofs.segments.settling_writes_are_held.Goals as goal

pub returns-clause-append : goal.returns-clause-append
returns-clause-append c = writes.log_appended

pub returns-clause-held : goal.returns-clause-held
returns-clause-held c = writes.log_settled

pub returns-clause-one : goal.returns-clause-one
returns-clause-one c = writes.one_settled

pub returns-clause-two : goal.returns-clause-two
returns-clause-two c = writes.two_settled

pub returns-clause-header : goal.returns-clause-header
returns-clause-header c = headers.header_settled_allowed
