use Rattle.mb_model_memory.proofs.FlashFrames as frames
use Rattle.mb_model_laws.proofs.segments.agreeing_flashes_hold_the_same.Goals as goal

pub returns-clause-segments : goal.returns-clause-segments
returns-clause-segments c = frames.segments_stay

pub returns-clause-log : goal.returns-clause-log
returns-clause-log c = frames.signed_log_stays

pub returns-clause-itself : goal.returns-clause-itself
returns-clause-itself c = frames.agree_same

pub returns-clause-further : goal.returns-clause-further
returns-clause-further c = frames.agree_then

pub returns-clause-back : goal.returns-clause-back
returns-clause-back c = frames.agree_turned
