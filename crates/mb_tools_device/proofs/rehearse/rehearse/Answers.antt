use Rattle.std.proofs.Common.{refl, ◌∙◌, ap, inl, inr}
use Rattle.mb_model.specs.outside.Board.{Used, use_of, having_answered, loaded_once_more}
use Rattle.mb_board.specs.Calls.{Seen}
use Rattle.mb_console.proofs.Leading.{begins, reads, loads, serves, stops_at_input, lacks_memory}
use Rattle.mb_tools_device.specs.RehearseCommand.{rehearsal}
use Rattle.mb_tools_device.proofs.ServedLemmas.{holds_done}
use Rattle.mb_tools_device.proofs.rehearse.rehearse.Goals as goal

pub returns-in_err-image-clause-carried : goal.returns-in_err-image-clause-carried
unfolding rehearsal
returns-in_err-image-clause-carried g c = stops_at_input _ _ _ begins c.from_residual.ensures.1 c.in_err-image.ensures.err refl c.requires.fresh.never_used

pub returns-in_err-image-clause-stays : goal.returns-in_err-image-clause-stays
returns-in_err-image-clause-stays g c = inl refl

pub returns-in_err-script-clause-carried : goal.returns-in_err-script-clause-carried
unfolding rehearsal
returns-in_err-script-clause-carried g c =
    stops_at_input _ _ _ (reads begins c.in_ok-image.ensures.read) c.from_residual-in_err-script.ensures.1 c.in_err-script.ensures.err refl c.requires.fresh.never_used

pub returns-in_err-script-clause-stays : goal.returns-in_err-script-clause-stays
returns-in_err-script-clause-stays g c = inl refl

pub returns-in_err-events-clause-carried : goal.returns-in_err-events-clause-carried
unfolding rehearsal
returns-in_err-events-clause-carried g c =
    let script = reads (reads begins c.in_ok-image.ensures.read) c.in_ok-script.ensures.read in
    stops_at_input _ _ _ script c.from_residual-in_err-events.ensures.1 c.in_err-events.ensures.err refl c.requires.fresh.never_used

pub returns-in_err-events-clause-stays : goal.returns-in_err-events-clause-stays
returns-in_err-events-clause-stays g c = inl refl

pub returns-in-Err-clause-carried : goal.returns-in-Err-clause-carried
unfolding rehearsal
returns-in-Err-clause-carried g c =
    let events = reads (reads (reads begins c.in_ok-image.ensures.read) c.in_ok-script.ensures.read) c.in_ok-events.ensures.read in
    lacks_memory events tt refl (ap (λ (s : Seen). use_of s.ledger) c.in-Err.ensures.failed ∙ c.requires.fresh.never_used)

pub returns-in-Err-clause-stays : goal.returns-in-Err-clause-stays
returns-in-Err-clause-stays g c = inl c.in-Err.ensures.failed

pub returns-clause-carried : goal.returns-clause-carried
unfolding rehearsal
returns-clause-carried g c =
    let seen = g.B.Board.seen c.serve_events.new.board in
    let events = reads (reads (reads begins c.in_ok-image.ensures.read) c.in_ok-script.ensures.read) c.in_ok-events.ensures.read in
    let used = c.in-Ok.ensures.used ∙ ap (λ (u : Used). having_answered seen.ledger.answered (loaded_once_more c.in_ok-image.image.bytes.items u)) c.requires.fresh.never_used in
    let served = serves (loads events) used c.in-Ok.ensures.served in
    let carried = rw c.deref.ensures.value at c.tell.ensures in
    served.lead _ _ carried

pub returns-clause-stays : goal.returns-clause-stays
returns-clause-stays g c = inr (inl (holds_done c.in-Ok.ensures.holds))
