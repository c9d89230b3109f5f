use Rattle.std.proofs.Common.{◌++◌, Option, map, sym, ap, ◌∙◌}
use Rattle.mb_model.specs.machine.OrderEffects.{entry_signed_by}
use Rattle.mb_model.specs.declared.stored.Outgoing.{Outgoing}
use Rattle.mb_model.specs.memories.StoredLog.{entries_signed_for, log_completed_by}
use Rattle.mb_model_lemmas.proofs.PublicLemmas.{signed_by_device}
use Rattle.mb_image.proofs.complete.completed.Goals as goal
use Rattle.mb_image.proofs.complete.completed.Goals.{in-None+in_ok-push_signed-in-None, in-Some+in_ok-push_handed_over-in-Some}

pub returns-clause-log : goal.returns-clause-log
unfolding log_completed_by
returns-clause-log g c =
    let root = c.args.root.now in
    let whole = λ (o : Option Outgoing). c.args.signed ++ entries_signed_for root.device root.uses o c.args.unsigned.now in
    elim c.match-outgoing_of.branch [
      | in-None+in_ok-push_signed-in-None w ↦
          w.log-is
          ∙ w.in_ok-push_signed-in-None.ensures.log
          ∙ ap (λ n. c.args.signed ++ map (entry_signed_by root.device n) c.args.unsigned.now) w.saturating_sub-last.ensures
          ∙ ap (λ more. c.args.signed ++ more) (sym (signed_by_device root.device root.uses c.args.unsigned.now))
          ∙ ap whole (sym (sym c.outgoing_of.ensures ∙ w.in-None.is))
      | in-Some+in_ok-push_handed_over-in-Some w ↦
          w.log-is
          ∙ w.in_ok-push_handed_over-in-Some.ensures.log root.uses
          ∙ ap whole (sym (sym c.outgoing_of.ensures ∙ w.in-Some.is))
    ]
