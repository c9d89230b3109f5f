use Rattle.std.proofs.Common.{ap, ◌∙◌}
use Rattle.std.specs.Prelude.{is_some}
use Rattle.mb_appvm.specs.Assembly.{is_label}
use Rattle.mb_appvm.proofs.Positions.{position_some}
use Rattle.mb_appvm.proofs.given.Lines.gives.Goals as goal

pub returns : goal.returns
returns c = c.is_some.ensures ∙ ap is_some c.line_of.ensures.first ∙ position_some (is_label c.args.name.now) 0 c.args.self.now
