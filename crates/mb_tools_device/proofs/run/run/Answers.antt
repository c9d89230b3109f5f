use Rattle.std.proofs.Common.{List, ℕ, false, refl, sym, ◌∙◌, ap, inl, inr}
use Rattle.mb_model.specs.outside.Board.{Used, use_of, image_of, having_answered, loaded_once_more}
use Rattle.mb_model.specs.chains.Replies.{replies_text}
use Rattle.mb_model_commands.specs.RunCommand.{run}
use Rattle.mb_board.specs.Calls.{Seen}
use Rattle.mb_console.specs.Outputs.{writes}
use Rattle.mb_console.proofs.Leading.{begins, reads, loads, serves, stops_at_input, lacks_memory}
use Rattle.mb_tools_device.proofs.ServedLemmas.{image_sized, holds_done}
use Rattle.mb_tools_device.proofs.run.run.Goals as goal

pub returns-in_err-image-clause-carried : goal.returns-in_err-image-clause-carried
unfolding run
returns-in_err-image-clause-carried g c = stops_at_input _ _ _ begins c.from_residual.ensures.1 c.in_err-image.ensures.err refl c.requires.fresh.never_used

pub returns-in_err-image-clause-stays : goal.returns-in_err-image-clause-stays
returns-in_err-image-clause-stays g c = inl refl

pub returns-in_err-undrawn-clause-carried : goal.returns-in_err-undrawn-clause-carried
unfolding run
returns-in_err-undrawn-clause-carried g c =
    stops_at_input _ _ _ (reads begins c.in_ok-image.ensures.read) c.from_residual-in_err-undrawn.ensures.1 c.in_err-undrawn.ensures.err refl c.requires.fresh.never_used

pub returns-in_err-undrawn-clause-stays : goal.returns-in_err-undrawn-clause-stays
returns-in_err-undrawn-clause-stays g c = inl refl

pub returns-in_err-events-clause-carried : goal.returns-in_err-events-clause-carried
unfolding run
returns-in_err-events-clause-carried g c =
    let script = reads (reads begins c.in_ok-image.ensures.read) c.in_ok-undrawn.ensures.read in
    stops_at_input _ _ _ script c.from_residual-in_err-events.ensures.1 c.in_err-events.ensures.err refl c.requires.fresh.never_used

pub returns-in_err-events-clause-stays : goal.returns-in_err-events-clause-stays
returns-in_err-events-clause-stays g c = inl refl

pub returns-in-Err-clause-carried : goal.returns-in-Err-clause-carried
unfolding run
returns-in-Err-clause-carried g c =
    let events = reads (reads (reads begins c.in_ok-image.ensures.read) c.in_ok-undrawn.ensures.read) c.in_ok-events.ensures.read in
    lacks_memory events tt refl (ap (λ (s : Seen). use_of s.ledger) c.in-Err.ensures.failed ∙ c.requires.fresh.never_used)

pub returns-in-Err-clause-stays : goal.returns-in-Err-clause-stays
returns-in-Err-clause-stays g c = inl c.in-Err.ensures.failed

pub returns-in_default-clause-carried : goal.returns-in_default-clause-carried
unfolding run
returns-in_default-clause-carried g c =
    let events = reads (reads (reads begins c.in_ok-image.ensures.read) c.in_ok-undrawn.ensures.read) c.in_ok-events.ensures.read in
    let answered = (g.B.Board.seen c.serve_events.new.board).ledger.answered in
    let used = c.in-Ok.ensures.used ∙ ap (λ (u : Used). having_answered answered (loaded_once_more c.in_ok-image.image.bytes.items u)) c.requires.fresh.never_used in
    lacks_memory (serves (loads events) used c.in-Ok.ensures.served) tt refl refl

pub returns-in_default-clause-stays : goal.returns-in_default-clause-stays
returns-in_default-clause-stays g c = inr (inl (holds_done c.in-Ok.ensures.holds))

pub held_image-held-requires-clause-room : goal.held_image-held-requires-clause-room
held_image-held-requires-clause-room g c = image_sized c.in_ok-image.image.bytes.items c.in_ok-image.image.state c.in_ok-image.ensures.form

pub returns-clause-carried : goal.returns-clause-carried
unfolding run writes
returns-clause-carried g c =
    let seen = g.B.Board.seen c.serve_events.new.board in
    let events = reads (reads (reads begins c.in_ok-image.ensures.read) c.in_ok-undrawn.ensures.read) c.in_ok-events.ensures.read in
    let used = c.in-Ok.ensures.used ∙ ap (λ (u : Used). having_answered seen.ledger.answered (loaded_once_more c.in_ok-image.image.bytes.items u)) c.requires.fresh.never_used in
    let served = serves (loads events) used c.in-Ok.ensures.served in
    let is_image = ◌∙◌ {A = List ℕ} c.deref.ensures.value (c.held_image-held.ensures ∙ ap (λ h. image_of h.memory) (sym c.in-Ok.ensures.holds.between.standing)) in
    let is_text = ◌∙◌ {A = List ℕ} c.deref-2.ensures.value (c.in-Ok-write_replies.ensures ∙ ap replies_text c.answered.ensures) in
    let carried = rw (is_image, is_text) at c.finish.ensures in
    served.lead _ _ (carried (record { used = use_of seen.ledger; wrote = false }) seen.ledger.standing)

pub returns-clause-stays : goal.returns-clause-stays
returns-clause-stays g c = inr (inl (holds_done c.in-Ok.ensures.holds))
