use Rattle.mb_officer.proofs.Headings.{key_first, key_kind}
use Rattle.mb_officer.proofs.draft.read_key.Goals as goal

pub returns-then-layer-eq1 : goal.returns-then-layer-eq1
returns-then-layer-eq1 c = λ h is.
    key_first c.args.words.now c.in-Some.word.now c.in-Some.layer h.0 h.1 c.in-Some.ensures.0 c.in-Some.ensures.1 c.if-layer-eq1.true is

pub returns-in-None : goal.returns-in-None
returns-in-None c = λ h is.
    key_kind c.args.words.now c.in-Some.word.now c.in-Some.layer h.0 h.1 c.in-Some.ensures.0 c.in-Some.ensures.1 c.in-None.ensures is
