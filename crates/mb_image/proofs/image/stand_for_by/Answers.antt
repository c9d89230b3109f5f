use Rattle.std.proofs.lemmas.Result.{err_from_is_err_and}
use Rattle.mb_image.specs.Stored.{contents_of}
use Rattle.mb_image.proofs.Reading.{held_can_be_completed, matched}
use Rattle.mb_image.proofs.Meanings.{live_image, fault_there}
use Rattle.mb_image.proofs.image.stand_for_by.Goals as goal

pub sound_state-requires : goal.sound_state-requires
sound_state-requires g c = held_can_be_completed g.F.FlashForm.form g.met.F.FlashForm.fits g.met.F.FlashForm.counted c.in-Some.flash.now c.in-Some.bbram.now (contents_of c.in_ok-stored.stored) c.in_ok-stored.ensures.ok

pub returns-in_err-stored-clause-fault : goal.returns-in_err-stored-clause-fault
returns-in_err-stored-clause-fault g c =
    let p = err_from_is_err_and c.from_residual.result c.from_residual.ensures.1 in
    rw (p.1, p.2) (fault_there g.F.FlashForm.form c.args.image.now c.in-Some.flash.now c.in-Some.bbram.now c.in_err-stored.field-0.0 c.in-Some.ensures c.in_err-stored.ensures.err)

pub returns-in-Some-2-clause-stands : goal.returns-in-Some-2-clause-stands
returns-in-Some-2-clause-stands g c =
    let found = matched _ _ c.in_ok-state.field-0 c.in-Some-2.state c.in-Some-2.is c.in_ok-state.ensures.state in
    live_image g.F.FlashForm.form c.args.image.now c.in-Some.flash.now c.in-Some.bbram.now (contents_of c.in_ok-stored.stored) c.in-Some-2.state c.in-Some.ensures c.in_ok-stored.ensures.ok found.0 found.1
