use Rattle.std.proofs.Common.{◌≡◌, arith, refl}
use Rattle.std.specs.Option.{IsSome}
use Rattle.mb_format.specs.Format.{IsBytes}
use Rattle.mb_image.specs.declared.image.ImageEnd.{ImageEnd}
use Rattle.mb_image.specs.declared.image.ImageEnd.TheVariants as end
use Rattle.mb_image.specs.Ends.{fault_of}
use Rattle.mb_migrate.proofs.Migrations.{found_faulty}
use Rattle.mb_migrate.proofs.migration.read_by.Goals as goal

told_fault : (ended : ImageEnd) → (ended ≡ end.NoMemory → ⊥) → IsSome (fault_of ended)
told_fault end.Length other = refl
told_fault end.Root other = refl
told_fault end.Public other = refl
told_fault end.RegionTwo other = refl
told_fault end.RegionThree other = refl
told_fault end.State other = refl
told_fault end.NoMemory other = absurd (other refl)

pub returns-in_default-clause-read : goal.returns-in_default-clause-read
returns-in_default-clause-read g c =
    let are : IsBytes c.args.image.now = λ i. omega (arith, c.type_inv.image i) in
    found_faulty g.F.FlashForm.form g.met.F.FlashForm.one c.args.image.now c.in-Err.end are (told_fault c.in-Err.end c.in_default.not-NoMemory) c.in-Err.ensures.fault
