-- The values so far were appended.
use Rattle.std.proofs.Common.{◌≡◌, ◌++◌, take}
use Rattle.mb_appvm.specs.Tracing.{stack_words}
use Rattle.mb_appvm.proofs.tracing.put_values.Given as goal

abbrev pub invariant-loop-value : goal.invariant-loop-value
invariant-loop-value l = l.out.items ≡ l.initial.out.items ++ stack_words (take l.value-index l.values)
