use Rattle.mb_model_lemmas.proofs.PublicLemmas.{bounded_by}
use Rattle.mb_image.proofs.Reading.{none_holds, some_holds, matched}
use Rattle.mb_image.proofs.stored.stored_in.Goals as goal

pub public_in-requires-clause-area : goal.public_in-requires-clause-area
public_in-requires-clause-area g c = (bounded_by c.args.root c.requires.root.holds.spelled.allowed).area

pub returns-in_default-2-clause-err : goal.returns-in_default-2-clause-err
returns-in_default-2-clause-err g c =
    let public = matched _ _ c.in_ok-public.field-0 c.in-Some.public c.in-Some.is c.in_ok-public.ensures in (
      c.args.root,
      c.requires.root,
      (c.in-Some.public.codes, c.in-Some.public.signed, c.in-Some.public.unsigned, public),
      none_holds _ c.current_area.result.now c.in_ok-two.field-0 c.current_area.ensures c.in_ok-two.ensures c.in_default-2.is,
    )

pub returns-in_default-3-clause-err : goal.returns-in_default-3-clause-err
returns-in_default-3-clause-err g c =
    let public = matched _ _ c.in_ok-public.field-0 c.in-Some.public c.in-Some.is c.in_ok-public.ensures in (
      c.args.root,
      c.requires.root,
      (c.in-Some.public.codes, c.in-Some.public.signed, c.in-Some.public.unsigned, public),
      (c.in-Some-2.two, some_holds _ c.current_area.result.now c.in_ok-two.field-0 c.in-Some-2.two c.current_area.ensures c.in_ok-two.ensures c.in-Some-2.is),
      none_holds _ c.current_area-2.result.now c.in_ok-three.field-0 c.current_area-2.ensures c.in_ok-three.ensures c.in_default-3.is,
    )
