use Rattle.std.proofs.Common.{◌≡◌, ◌++◌, take}
use Rattle.std.specs.Prelude.{map}
use Rattle.mb_model.specs.chains.Lines.{text_of}
use Rattle.mb_tools_shown.specs.StateShown.{secret_shown}
use Rattle.mb_tools_shown.proofs.state.put_secrets.Given as goal

abbrev pub invariant-loop-secret : goal.invariant-loop-secret
invariant-loop-secret l = l.out.items ≡ l.initial.out.items ++ text_of (map (secret_shown l.region) (take l.secret-index l.secrets))
