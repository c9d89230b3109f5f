-- How the commands that sign end if the key has not signed. Does each cause have its end?
use Rattle.std.specs.Prelude.{◌≡◌, codes}
use Rattle.mb_officer.specs.declared.signing.SignEnd.{SignEnd}
use Rattle.mb_officer.specs.declared.signing.SignEnd.TheVariants as sign
use Rattle.mb_console.specs.declared.end.End.{End}
use Rattle.mb_console.specs.declared.end.End.TheVariants as end
use Rattle.mb_console.specs.Ending.{RefusesWith}

abbrev pub TellsUnsigned : SignEnd → End → Type 0
TellsUnsigned sign.Spent why = RefusesWith (codes "spent") why
TellsUnsigned sign.NotCountersignable why = RefusesWith (codes "not countersignable") why
TellsUnsigned sign.NoMemory why = why ≡ end.NoMemory
