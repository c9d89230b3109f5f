use Rattle.std.proofs.Common.{length}
use Rattle.mb_appvm.proofs.SecretReading.{IsReadTo}
use Rattle.mb_appvm.proofs.secret_texts.read_secrets.Given as goal

abbrev pub invariant-loop-rest : goal.invariant-loop-rest
invariant-loop-rest l = IsReadTo l.text l.rest l.secrets l.number

abbrev pub decreases-loop-rest : goal.decreases-loop-rest
decreases-loop-rest l = length l.rest
