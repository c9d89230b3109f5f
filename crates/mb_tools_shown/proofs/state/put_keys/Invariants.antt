use Rattle.std.proofs.Common.{◌≡◌, ◌++◌, take}
use Rattle.std.specs.Prelude.{map}
use Rattle.mb_model.specs.chains.Lines.{text_of}
use Rattle.mb_tools_shown.specs.StateShown.{key_shown}
use Rattle.mb_tools_shown.proofs.state.put_keys.Given as goal

abbrev pub invariant-loop-key : goal.invariant-loop-key
invariant-loop-key l = l.out.items ≡ l.initial.out.items ++ text_of (map (key_shown l.region) (take l.key-index l.keys))
