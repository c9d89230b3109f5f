use Rattle.std.proofs.Common.{◌≡◌, ◌+◌, ◌++◌, take}
use Rattle.mb_generate.specs.Scripts.{puts_text}
use Rattle.mb_generate.proofs.script.put_secrets.Given as goal

abbrev pub invariant-loop-value : goal.invariant-loop-value
invariant-loop-value l = record {
  number : l.number ≡ l.fn.n + l.value-index;
  text : l.script.items ≡ l.fn.script.items ++ puts_text l.fn.n (take l.value-index l.values);
}
