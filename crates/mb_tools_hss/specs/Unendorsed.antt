-- How `endorse` ends if the maker has not signed. Does each cause have its end?
use Rattle.std.specs.Prelude.{◌≡◌, codes}
use Rattle.mb_hss.specs.declared.signing.HssEnd.{HssEnd}
use Rattle.mb_hss.specs.declared.signing.HssEnd.TheVariants as cause
use Rattle.mb_console.specs.declared.end.End.{End}
use Rattle.mb_console.specs.declared.end.End.TheVariants as end
use Rattle.mb_console.specs.Ending.{RefusesWith}

abbrev pub TellsUnendorsed : HssEnd → End → Type 0
TellsUnendorsed cause.Spent why = RefusesWith (codes "spent") why
TellsUnendorsed cause.NoMemory why = why ≡ end.NoMemory
