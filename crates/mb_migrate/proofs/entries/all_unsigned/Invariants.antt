use Rattle.std.proofs.Common.{◌≡◌, map, take}
use Rattle.mb_model.specs.memories.OldFlash.{without_signature}
use Rattle.mb_migrate.proofs.entries.all_unsigned.Given as goal

abbrev pub invariant-loop-stored : goal.invariant-loop-stored
invariant-loop-stored l = take l.stored-index l.entries ≡ map without_signature l.list
