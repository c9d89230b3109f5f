use Rattle.mb_fleet.proofs.Rowing.{shown_few}
use Rattle.mb_fleet.proofs.row.row_of.Goals as goal

pub returns-clause-few : goal.returns-clause-few
returns-clause-few c = λ maker bytes shows. shown_few maker bytes c.args.shown shows
