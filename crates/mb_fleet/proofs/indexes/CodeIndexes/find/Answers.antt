use Rattle.std.proofs.Common.{sym, ◌∙◌, arith}
use Rattle.mb_fleet.proofs.Indexing.{none_found}
use Rattle.mb_fleet.proofs.indexes.CodeIndexes.find.Goals as goal

pub returns-in_default : goal.returns-in_default
returns-in_default c = λ rows are. c.new.ensures ∙ sym (none_found c.args.layer c.args.hash.now rows (λ e. absurd (omega (arith, e, c.in_default.in_default-own))) (λ e. absurd (omega (arith, e, c.in_default.in_default-own))) (λ e. absurd (omega (arith, e, c.in_default.in_default-own))))
