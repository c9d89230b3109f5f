use Rattle.std.proofs.Common.{◌≡◌, map, take}
use Rattle.mb_model.specs.memories.OldFlash.{with_signature}
use Rattle.mb_migrate.proofs.entries.all_signed.Given as goal

abbrev pub invariant-loop-stored : goal.invariant-loop-stored
invariant-loop-stored l = take l.stored-index l.entries ≡ map with_signature l.log
