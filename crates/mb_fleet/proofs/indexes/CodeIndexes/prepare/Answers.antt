use Rattle.mb_fleet.proofs.Indexing.{same_index}
use Rattle.mb_fleet.proofs.indexes.CodeIndexes.prepare.Goals as goal

pub returns-in_err-one-clause-same : goal.returns-in_err-one-clause-same
returns-in_err-one-clause-same c = λ rows are. record {
  one = same_index 1 rows c.args.self.now.one c.prepare.new.self c.in_err-one.ensures.same are.one;
  two = are.two;
  three = are.three;
}

pub returns-in_err-two-clause-same : goal.returns-in_err-two-clause-same
returns-in_err-two-clause-same c = λ rows are. record {
  one = same_index 1 rows c.args.self.now.one c.prepare.new.self c.in_ok-one.ensures.same are.one;
  two = same_index 2 rows c.args.self.now.two c.prepare-2.new.self c.in_err-two.ensures.same are.two;
  three = are.three;
}

pub returns-in_err-three-clause-same : goal.returns-in_err-three-clause-same
returns-in_err-three-clause-same c = λ rows are. record {
  one = same_index 1 rows c.args.self.now.one c.prepare.new.self c.in_ok-one.ensures.same are.one;
  two = same_index 2 rows c.args.self.now.two c.prepare-2.new.self c.in_ok-two.ensures.same are.two;
  three = same_index 3 rows c.args.self.now.three c.prepare-3.new.self c.in_err-three.ensures.same are.three;
}

pub returns-clause-same : goal.returns-clause-same
returns-clause-same c = λ rows are. record {
  one = same_index 1 rows c.args.self.now.one c.prepare.new.self c.in_ok-one.ensures.same are.one;
  two = same_index 2 rows c.args.self.now.two c.prepare-2.new.self c.in_ok-two.ensures.same are.two;
  three = same_index 3 rows c.args.self.now.three c.prepare-3.new.self c.in_ok-three.ensures.same are.three;
}
