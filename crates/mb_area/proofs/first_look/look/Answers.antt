use Rattle.std.proofs.Common.{◌∙◌, sym, refl}
use Rattle.mb_area.proofs.Rooted.{is_pending, none_pending, is_not}
use Rattle.mb_area.proofs.first_look.look.Goals as goal

pub returns-then-is_some-clause-looked : goal.returns-then-is_some-clause-looked
returns-then-is_some-clause-looked g c = λ root is.
    (c.read_root-root.ensures.current.only root is ∙ sym c.unsettled_by.ensures, λ none. is_pending c.read_root-root.result root (c.read_root-root.ensures.current.only root is) c.if-is_some.ensures none)

pub returns-then-is_other_blank-clause-looked : goal.returns-then-is_other_blank-clause-looked
returns-then-is_other_blank-clause-looked g c = λ root is. (none_pending c.read_root-root.result root (c.read_root-root.ensures.current.only root is) c.if-is_some.ensures, c.if-is_other_blank.ensures.0 refl)

pub returns-clause-looked : goal.returns-clause-looked
returns-clause-looked g c = λ root is. (none_pending c.read_root-root.result root (c.read_root-root.ensures.current.only root is) c.if-is_some.ensures, λ blank. is_not c.if-is_other_blank.ensures blank)
