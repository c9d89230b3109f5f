use Rattle.mb_layout_edits.proofs.Rows.{added_there, added_new}
use Rattle.mb_layout_edits.proofs.fate.with_key.Goals as goal

pub returns-then-has_key : goal.returns-then-has_key
returns-then-has_key c = λ few. added_there c.args.key.now c.as_slice.ensures.keys c.if-has_key.ensures

pub returns : goal.returns
returns c = λ few. added_new c.args.key.now c.as_slice.ensures.keys c.if-has_key.ensures c.push.ensures
