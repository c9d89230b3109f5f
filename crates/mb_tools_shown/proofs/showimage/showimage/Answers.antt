use Rattle.std.proofs.Common.{refl, subst}
use Rattle.mb_model.specs.memories.Meaning.{IsWellFormed}
use Rattle.mb_model_memory.specs.Storable.{Storable, IsStorableState}
use Rattle.mb_console.proofs.Leading.{begins, reads, stops_at_input}
use Rattle.mb_tools_shown.specs.ShowimageCommand.{showimage}
use Rattle.mb_tools_shown.proofs.StateLemmas.{work_told, dead_not_shown, device_shown_on}
use Rattle.mb_tools_shown.proofs.showimage.showimage.Goals as goal

pub show-requires : goal.show-requires
show-requires g c =
    let stored : IsStorableState c.in-Some.state = subst Storable c.in-Some.is c.in_ok-bytes.ensures.stored in
    stored.few

pub returns-in_err-bytes-clause-carried : goal.returns-in_err-bytes-clause-carried
unfolding showimage
returns-in_err-bytes-clause-carried g c = λ final. stops_at_input _ _ _ begins c.from_residual.ensures.1 c.in_err-bytes.ensures.err refl refl

pub returns-in-Some-clause-carried : goal.returns-in-Some-clause-carried
unfolding showimage
returns-in-Some-clause-carried g c = λ final.
    let image = reads begins c.in_ok-bytes.ensures.read in
    let formed = subst (IsWellFormed c.in_ok-bytes.field-0.bytes.items) c.in-Some.is c.in_ok-bytes.ensures.form in
    let told = work_told c.in_ok-bytes.field-0.bytes.items c.in-Some.state c.has_pending_work.result formed (rw c.deref.ensures.value at c.has_pending_work.ensures) in
    (device_shown_on _ _ c.in-Some.state c.has_pending_work.result image c.in-Some.is told).lead _ _ (c.show.ensures final)

pub returns-clause-carried : goal.returns-clause-carried
unfolding showimage
returns-clause-carried g c = λ final.
    dead_not_shown _ _ _ (reads begins c.in_ok-bytes.ensures.read) c.in-None.is c.refused.ensures refl
