use Rattle.std.proofs.Common.{ap, ◌∙◌, length}
use Rattle.mb_layout_edits.proofs.stored.count_keys.Goals as goal

pub returns : goal.returns
returns c = λ region h. (
    let stands = c.in_ok-stored.ensures region h in
    ap length (c.as_slice.ensures.keys ∙ stands.keys))
