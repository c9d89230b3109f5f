use Rattle.mb_model_lemmas.proofs.OneFlash as one
use Rattle.mb_model_laws.proofs.segments.segments_hold_one.Goals as goal

pub returns-clause-header : goal.returns-clause-header
returns-clause-header c = one.one_header

pub returns-clause-segments : goal.returns-clause-segments
returns-clause-segments c = one.one_list

pub returns-clause-nothing : goal.returns-clause-nothing
returns-clause-nothing c = one.no_list
