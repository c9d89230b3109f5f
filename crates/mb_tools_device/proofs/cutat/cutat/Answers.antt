use Rattle.std.proofs.Common.{◌≡◌, true, false, List, length, inl, inr, refl, sym, ◌∙◌, ap, subst, arith}
use Rattle.mb_model.specs.declared.event.Event.{Event}
use Rattle.mb_model.specs.declared.event.Answered.{Answered}
use Rattle.mb_model.specs.outside.Board.{Ledger, Used, IsLoaded, use_of, image_of, having_answered, loaded_once_more}
use Rattle.mb_model_commands.specs.Inputs.{Image}
use Rattle.mb_model_commands.specs.RunCommand.{IsServed}
use Rattle.mb_board.specs.Calls.{Seen}
use Rattle.mb_console.proofs.Leading.{begins, reads, finds, loads, rehearses, chooses_first, chooses_second, serves, stops_at_input, lacks_memory, lacks_while_serving}
use Rattle.mb_tools_device.specs.Holding.{HoldsShut}
use Rattle.mb_tools_device.specs.CutCommand.{AnyLacksMemory, cutat}
use Rattle.mb_tools_device.proofs.Shutting.{shut_holds}
use Rattle.mb_tools_device.proofs.CutRuns.{draws_uncut, is_cut_served, rehearsed, served_left}
use Rattle.mb_tools_device.proofs.ServedLemmas.{image_sized, holds_done, all_answered}
use Rattle.mb_tools_device.proofs.cutat.cutat.Goals as goal

-- ---- the inputs

pub returns-in_err-image-clause-carried : goal.returns-in_err-image-clause-carried
unfolding cutat
returns-in_err-image-clause-carried g c = stops_at_input _ _ _ begins c.from_residual.ensures.1 c.in_err-image.ensures.err refl c.requires.fresh.never_used

pub returns-in_err-image-clause-stays : goal.returns-in_err-image-clause-stays
returns-in_err-image-clause-stays g c = inl refl

pub returns-in_err-undrawn-clause-carried : goal.returns-in_err-undrawn-clause-carried
unfolding cutat
returns-in_err-undrawn-clause-carried g c =
    stops_at_input _ _ _ (reads begins c.in_ok-image.ensures.read) c.from_residual-in_err-undrawn.ensures.1 c.in_err-undrawn.ensures.err refl c.requires.fresh.never_used

pub returns-in_err-undrawn-clause-stays : goal.returns-in_err-undrawn-clause-stays
returns-in_err-undrawn-clause-stays g c = inl refl

pub returns-in_err-events-clause-carried : goal.returns-in_err-events-clause-carried
unfolding cutat
returns-in_err-events-clause-carried g c =
    let script = reads (reads begins c.in_ok-image.ensures.read) c.in_ok-undrawn.ensures.read in
    stops_at_input _ _ _ script c.from_residual-in_err-events.ensures.1 c.in_err-events.ensures.err refl c.requires.fresh.never_used

pub returns-in_err-events-clause-stays : goal.returns-in_err-events-clause-stays
returns-in_err-events-clause-stays g c = inl refl

-- ---- the two runs

pub two_runs-requires-clause-uncut : goal.two_runs-requires-clause-uncut
two_runs-requires-clause-uncut g c = draws_uncut c.in_ok-undrawn.undrawn c.in_ok-events.ensures.read.bytes c.in_ok-events.events c.in_ok-undrawn.ensures.keeps.0 c.in_ok-events.ensures.read.is

pub returns-in_default-clause-carried : goal.returns-in_default-clause-carried
unfolding cutat
returns-in_default-clause-carried g c =
    let events = reads (reads (reads begins c.in_ok-image.ensures.read) c.in_ok-undrawn.ensures.read) c.in_ok-events.ensures.read in
    lacks_memory events tt refl c.requires.fresh.never_used

pub returns-in_default-clause-stays : goal.returns-in_default-clause-stays
returns-in_default-clause-stays g c = inl refl

pub returns-in_default-from_slice-clause-carried : goal.returns-in_default-from_slice-clause-carried
unfolding cutat
returns-in_default-from_slice-clause-carried g c =
    let events = reads (reads (reads begins c.in_ok-image.ensures.read) c.in_ok-undrawn.ensures.read) c.in_ok-events.ensures.read in
    lacks_memory (finds events c.in-Ok.ensures.cut.0 c.in-Ok.ensures.cut.1) tt refl c.requires.fresh.never_used

pub returns-in_default-from_slice-clause-stays : goal.returns-in_default-from_slice-clause-stays
returns-in_default-from_slice-clause-stays g c = inl refl

-- ---- the first run

pub returns-in-Err-clause-carried : goal.returns-in-Err-clause-carried
unfolding cutat
returns-in-Err-clause-carried g c =
    let events = reads (reads (reads begins c.in_ok-image.ensures.read) c.in_ok-undrawn.ensures.read) c.in_ok-events.ensures.read in
    lacks_memory (finds events c.in-Ok.ensures.cut.0 c.in-Ok.ensures.cut.1) tt refl (ap (λ (s : Seen). use_of s.ledger) c.in-Err.ensures.failed ∙ c.requires.fresh.never_used)

pub returns-in-Err-clause-stays : goal.returns-in-Err-clause-stays
returns-in-Err-clause-stays g c = inl c.in-Err.ensures.failed

pub returns-in-Err-clause-cost : goal.returns-in-Err-clause-cost
returns-in-Err-clause-cost g c =
    omega (
      arith,
      c.read_image.ensures.cost,
      c.serve_events.ensures.cost,
      ap (λ (s : Seen). length s.ledger.answered) c.in-Err.ensures.failed,
      ap (λ (u : Used). length u.answered) c.requires.fresh.never_used,
    )

pub returns-then-wants_memory-clause-carried : goal.returns-then-wants_memory-clause-carried
unfolding cutat
returns-then-wants_memory-clause-carried g c =
    let image : Image = record { bytes = c.in_ok-image.image.bytes.items; state = c.in_ok-image.image.state } in
    let ledger = (g.B.Board.seen c.serve_events.new.board).ledger in
    let made = c.in-Ok.ensures.cut in
    let served = rehearsed c.args.names.now.count image c.in-Ok.runs.first c.in-Ok.runs.second made.0 ledger.answered ledger.standing made.2 c.in-Ok-serve_events.ensures.served in
    let used = c.in-Ok-serve_events.ensures.used ∙ ap (λ (u : Used). having_answered ledger.answered (loaded_once_more image.bytes u)) c.requires.fresh.never_used in
    let events = reads (reads (reads begins c.in_ok-image.ensures.read) c.in_ok-undrawn.ensures.read) c.in_ok-events.ensures.read in
    let first = rehearses (loads (finds events made.0 made.1)) ledger.answered ledger.standing served in
    lacks_while_serving (chooses_first first (subst (λ (l : List Answered). AnyLacksMemory l) c.answered.ensures (c.wants_memory.ensures.0 c.if-wants_memory.true))) used

pub returns-then-wants_memory-clause-stays : goal.returns-then-wants_memory-clause-stays
returns-then-wants_memory-clause-stays g c = inr (inl (holds_done c.in-Ok-serve_events.ensures.holds))

pub returns-then-wants_memory-clause-cost : goal.returns-then-wants_memory-clause-cost
returns-then-wants_memory-clause-cost g c =
    omega (arith, c.read_image.ensures.cost, c.serve_events.ensures.cost, all_answered c.in-Ok-serve_events.ensures.served, c.in-Ok.ensures.first_count)

pub held_image-before-requires-clause-room : goal.held_image-before-requires-clause-room
held_image-before-requires-clause-room g c =
    ap length (c.in-Ok-from_slice.ensures.items ∙ c.deref.ensures.value) ∙ image_sized c.in_ok-image.image.bytes.items c.in_ok-image.image.state c.in_ok-image.ensures.form

-- ---- the second run

pub serve_events-requires-2-clause-none_out : goal.serve_events-requires-2-clause-none_out
serve_events-requires-2-clause-none_out g c = ap (λ (l : Ledger). l.out) c.shut.ensures.switched.ledger ∙ c.in-Ok-serve_events.ensures.holds.between.none_out

pub returns-in-Err-serve_events-clause-carried : goal.returns-in-Err-serve_events-clause-carried
unfolding cutat
returns-in-Err-serve_events-clause-carried g c =
    let image : Image = record { bytes = c.in_ok-image.image.bytes.items; state = c.in_ok-image.image.state } in
    let ledger = (g.B.Board.seen c.serve_events.new.board).ledger in
    let made = c.in-Ok.ensures.cut in
    let served = rehearsed c.args.names.now.count image c.in-Ok.runs.first c.in-Ok.runs.second made.0 ledger.answered ledger.standing made.2 c.in-Ok-serve_events.ensures.served in
    let used = c.in-Ok-serve_events.ensures.used ∙ ap (λ (u : Used). having_answered ledger.answered (loaded_once_more image.bytes u)) c.requires.fresh.never_used in
    let events = reads (reads (reads begins c.in_ok-image.ensures.read) c.in_ok-undrawn.ensures.read) c.in_ok-events.ensures.read in
    let first = rehearses (loads (finds events made.0 made.1)) ledger.answered ledger.standing served in
    let found = chooses_second first (λ lacks. let no : false ≡ true = sym c.if-wants_memory.false ∙ c.wants_memory.ensures.1 (subst (λ (l : List Answered). AnyLacksMemory l) (sym c.answered.ensures) lacks) in cc) in
    lacks_memory found tt refl (ap (λ (s : Seen). use_of s.ledger) c.in-Err-serve_events.ensures.failed ∙ ap use_of c.shut.ensures.switched.ledger ∙ used)

pub returns-in-Err-serve_events-clause-stays : goal.returns-in-Err-serve_events-clause-stays
returns-in-Err-serve_events-clause-stays g c =
    let holds = c.in-Ok-serve_events.ensures.holds in
    let shut = shut_holds (g.B.Board.seen c.serve_events.new.board) (g.B.Board.seen c.shut.new.b) holds.loaded holds.between (holds.none_waits tt) c.shut.ensures.switched c.shut.ensures.power in
    inr (inr (refl, subst HoldsShut (sym c.in-Err-serve_events.ensures.failed) shut))

pub returns-in-Err-serve_events-clause-cost : goal.returns-in-Err-serve_events-clause-cost
returns-in-Err-serve_events-clause-cost g c =
    omega (
      arith,
      c.read_image.ensures.cost,
      c.serve_events.ensures.cost,
      all_answered c.in-Ok-serve_events.ensures.served,
      c.in-Ok.ensures.first_count,
      c.serve_events-2.ensures.cost,
      ap (λ (s : Seen). length s.ledger.answered) c.in-Err-serve_events.ensures.failed,
      ap (λ (l : Ledger). length l.answered) c.shut.ensures.switched.ledger,
    )

pub tell_cut-requires-clause-answered : goal.tell_cut-requires-clause-answered
tell_cut-requires-clause-answered g c = ap (λ h. h.memory) c.in-Ok-serve_events-2.ensures.holds.between.standing

pub tell_cut-requires-clause-room : goal.tell_cut-requires-clause-room
tell_cut-requires-clause-room g c = image_sized c.in_ok-image.image.bytes.items c.in_ok-image.image.state c.in_ok-image.ensures.form

pub returns-clause-carried : goal.returns-clause-carried
unfolding cutat
returns-clause-carried g c =
    let image : Image = record { bytes = c.in_ok-image.image.bytes.items; state = c.in_ok-image.image.state } in
    let seen = g.B.Board.seen c.serve_events.new.board in
    let last = g.B.Board.seen c.serve_events-2.new.board in
    let made = c.in-Ok.ensures.cut in
    let held = seen.ledger.standing in
    let one = c.in-Ok-serve_events.ensures in
    let other = c.in-Ok-serve_events-2.ensures in
    let served = rehearsed c.args.names.now.count image c.in-Ok.runs.first c.in-Ok.runs.second made.0 seen.ledger.answered held made.2 one.served in
    let used = one.used ∙ ap (λ (u : Used). having_answered seen.ledger.answered (loaded_once_more image.bytes u)) c.requires.fresh.never_used in
    let events = reads (reads (reads begins c.in_ok-image.ensures.read) c.in_ok-undrawn.ensures.read) c.in_ok-events.ensures.read in
    let first = rehearses (loads (finds events made.0 made.1)) seen.ledger.answered held served in
    let found = chooses_second first (λ lacks. let no : false ≡ true = sym c.if-wants_memory.false ∙ c.wants_memory.ensures.1 (subst (λ (l : List Answered). AnyLacksMemory l) (sym c.answered.ensures) lacks) in cc) in
    let twice = other.used ∙ ap (λ (u : Used). having_answered last.ledger.answered (loaded_once_more image.bytes u)) (ap use_of c.shut.ensures.switched.ledger ∙ used) in
    let is = is_cut_served image c.args.names.now.count made.0 last.ledger.answered last.ledger.standing made.2.can
    (subst (λ (l : List Event). IsServed image l last.ledger.answered last.ledger.standing) made.2.second_is other.served) in
    let second = serves (loads found) twice is in
    let same_memory = ap (λ h. h.memory) one.holds.between.standing in
    let last_memory = ap (λ h. h.memory) other.holds.between.standing in
    let left = served_left image c.in-Ok.runs.first seen.ledger.answered held _ one.served (subst IsLoaded (sym same_memory) one.loaded)
    (c.deref-2.ensures.value ∙ c.held_image-before.ensures ∙ ap image_of (sym same_memory)) in
    second.lead _ _ (c.tell_cut.ensures.carried held left
    (λ bytes are. served_left image c.in-Ok.runs.second last.ledger.answered last.ledger.standing bytes other.served (subst IsLoaded (sym last_memory) other.loaded) (are ∙ ap image_of (sym last_memory))))

pub returns-clause-stays : goal.returns-clause-stays
returns-clause-stays g c = inr (inl (holds_done c.in-Ok-serve_events-2.ensures.holds))

pub returns-clause-cost : goal.returns-clause-cost
returns-clause-cost g c =
    omega (
      arith,
      c.read_image.ensures.cost,
      c.serve_events.ensures.cost,
      all_answered c.in-Ok-serve_events.ensures.served,
      c.in-Ok.ensures.first_count,
      c.serve_events-2.ensures.cost,
      all_answered c.in-Ok-serve_events-2.ensures.served,
      c.in-Ok.ensures.second_count,
      c.tell_cut.ensures.cost,
    )
