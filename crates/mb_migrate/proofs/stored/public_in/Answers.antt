use Rattle.std.proofs.Common.{arith}
use Rattle.mb_format.specs.Format.{IsBytes}
use Rattle.mb_migrate.proofs.Reading.{none_begins, none_split}
use Rattle.mb_migrate.proofs.stored.public_in.Goals as goal

pub returns-in_default : goal.returns-in_default
returns-in_default c =
    none_begins c.args.flash.now c.args.root.now c.flash_area.result.now c.in_ok-public.field-0 c.flash_area.ensures c.in_ok-public.ensures c.in_default.is

pub returns-in_default-2 : goal.returns-in_default-2
returns-in_default-2 c =
    let are : IsBytes c.args.flash.now = λ i. omega (arith, c.type_inv.flash i) in
    none_split c.args.flash.now c.args.root.now c.flash_area.result.now c.in_ok-public.field-0 c.in-Some.public c.as_slice.result.now _ c.in_ok-split.field-0
    are c.flash_area.ensures c.in_ok-public.ensures c.in-Some.is c.as_slice.ensures c.in_ok-split.ensures c.in_default-2.is
