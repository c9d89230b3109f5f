use Rattle.mb_model_memory.proofs.FlashFrames as frames
use Rattle.mb_model_laws.proofs.segments.free_places_can_be_written.Goals as goal

pub returns-clause-log : goal.returns-clause-log
returns-clause-log c = frames.torn_log

pub returns-clause-header : goal.returns-clause-header
returns-clause-header c = frames.torn_header

pub returns-clause-code : goal.returns-clause-code
returns-clause-code c = frames.torn_code
