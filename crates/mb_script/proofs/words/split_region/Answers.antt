use Rattle.std.proofs.Common.{arith}
use Rattle.mb_script.proofs.Parts.{region_number, number_same}
use Rattle.mb_script.proofs.words.split_region.Goals as goal
use Rattle.mb_script.proofs.words.split_region.Goals.{in_default-via-in-Some+else-region-ge2, in_default-via-in_default}

pub returns-in_default : goal.returns-in_default
returns-in_default c = λ region rest has.
    let number = region_number c.args.text.now region rest has in
    elim c.in_default.branch [
      | in_default-via-in-Some+else-region-ge2 w ↦
          let same = (number_same 3 c.args.text.now region w.in-Some.region rest w.in-Some.rest.now (omega arith) number.0 w.in-Some.ensures).0 in
          omega (arith, same, number.1, w.if-region-ge2.false)
      | in_default-via-in_default w ↦ w.in_default.ensures region rest number.0
    ]
