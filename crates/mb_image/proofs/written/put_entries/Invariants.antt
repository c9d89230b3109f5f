use Rattle.mb_image.proofs.WrittenSectors.{AppendsFirst}
use Rattle.mb_image.proofs.written.put_entries.Given as goal

abbrev pub invariant-loop-signed : goal.invariant-loop-signed
invariant-loop-signed l = AppendsFirst l.log l.signed-index l.initial.out l.out
