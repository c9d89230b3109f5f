use Rattle.mb_model_lemmas.proofs.HeldSegments as held
use Rattle.mb_model_laws.proofs.segments.held_segments_fit.Goals as goal

pub returns-clause-headers : goal.returns-clause-headers
returns-clause-headers c = held.small_held

pub returns-clause-log : goal.returns-clause-log
returns-clause-log c = held.log_allowed

pub returns-clause-texts : goal.returns-clause-texts
returns-clause-texts c = held.texts_allowed

pub returns-clause-codes : goal.returns-clause-codes
returns-clause-codes c = held.code_short

pub returns-clause-fit : goal.returns-clause-fit
returns-clause-fit c = held.segments_fit
