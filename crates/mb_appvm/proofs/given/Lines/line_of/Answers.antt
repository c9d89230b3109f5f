use Rattle.std.proofs.Common.{◌<◌, ℕ, length, Option, sym, ap, subst, ◌∙◌, arith}
use Rattle.std.specs.Prelude.{MatchOption}
use Rattle.std.specs.List.{position_from}
use Rattle.mb_appvm.specs.Assembly.{is_label}
use Rattle.mb_appvm.proofs.Positions.{position_within}
use Rattle.mb_appvm.proofs.given.Lines.line_of.Goals as goal

pub returns-clause-within : goal.returns-clause-within
returns-clause-within c =
    let name = c.args.name.now in
    let first = c.line_of.ensures ∙ c.self.invariant name ∙ ap (position_from (is_label name) 0) c.self.view_is in
    subst (λ (o : Option ℕ). MatchOption o (Unit {0}) (λ line. line < length c.args.self.now)) (sym first) (position_within (is_label name) 0 (length c.args.self.now) c.args.self.now (omega arith))
