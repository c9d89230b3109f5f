-- The lines so far, after the first.
use Rattle.std.proofs.Common.{◌≡◌, ◌++◌, take, map}
use Rattle.mb_model.specs.chains.Lines.{text_of}
use Rattle.mb_fleet.specs.Serving.{count_line}
use Rattle.mb_fleet.proofs.answer.put_codes.Given as goal

abbrev pub invariant-loop-count : goal.invariant-loop-count
invariant-loop-count l = l.out.items ≡ l.initial.out.items ++ text_of (map count_line (take l.count-index l.counts))
