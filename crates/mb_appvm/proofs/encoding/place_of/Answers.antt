use Rattle.std.proofs.Common.{sym, ap, ◌∙◌}
use Rattle.std.specs.Prelude.{is_some}
use Rattle.std.proofs.lemmas.Bool.{false≢true}
use Rattle.mb_appvm.specs.Assembly.{is_label}
use Rattle.mb_appvm.proofs.Positions.{position_some, place_found}
use Rattle.mb_appvm.proofs.encoding.place_of.Goals as goal

pub unreachable-requires : goal.unreachable-requires
unreachable-requires c =
    false≢true (ap is_some (sym c.in-None.is ∙ c.line_of.ensures.first) ∙ position_some (is_label c.args.name.now) 0 c.args.all.now ∙ c.requires.given)

pub returns-clause-place : goal.returns-clause-place
returns-clause-place c =
    place_found c.args.all.now c.args.places.now c.args.name.now c.in-Some.line c.requires.measured (sym c.line_of.ensures.first ∙ c.in-Some.is)
