use Rattle.std.proofs.Common.{arith}
use Rattle.mb_fleet.proofs.Indexing.{if_ok_weaker}
use Rattle.mb_fleet.proofs.Listings.{are_counts, no_counts}
use Rattle.mb_fleet.proofs.indexes.CodeIndexes.codes.Goals as goal

pub returns-in-1 : goal.returns-in-1
returns-in-1 c = λ rows are. rw c.in-1.is (if_ok_weaker c.codes.result (λ counts listed. are_counts 1 rows c.args.self.now.one counts are.one listed) c.codes.ensures)

pub returns-in-2 : goal.returns-in-2
returns-in-2 c = λ rows are. rw c.in-2.is (if_ok_weaker c.codes-in-2.result (λ counts listed. are_counts 2 rows c.args.self.now.two counts are.two listed) c.codes-in-2.ensures)

pub returns-in-3 : goal.returns-in-3
returns-in-3 c = λ rows are. rw c.in-3.is (if_ok_weaker c.codes-in-3.result (λ counts listed. are_counts 3 rows c.args.self.now.three counts are.three listed) c.codes-in-3.ensures)

pub returns-in_default : goal.returns-in_default
returns-in_default c = λ rows are. rw c.new.ensures (no_counts c.args.layer rows (λ e. absurd (omega (arith, e, c.in_default.in_default-own))) (λ e. absurd (omega (arith, e, c.in_default.in_default-own))) (λ e. absurd (omega (arith, e, c.in_default.in_default-own))))
