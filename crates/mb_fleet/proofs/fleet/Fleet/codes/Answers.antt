use Rattle.mb_fleet.proofs.Listings.{all_few}
use Rattle.mb_fleet.proofs.fleet.Fleet.codes.Goals as goal

pub codes-requires : goal.codes-requires
codes-requires c = all_few c.self.inside.rows.items c.self.inside.indexes c.self.invariant.0.few c.self.invariant.1
