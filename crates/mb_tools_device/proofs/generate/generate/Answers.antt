use Rattle.std.proofs.Common.{◌≡◌, Some, Ok, Err, ◌∙◌, sym, ap, subst, length, arith, inl, inr, refl}
use Rattle.std.proofs.lemmas.Result.{err_from_is_err_and}
use Rattle.mb_model.specs.memories.Acknowledged.{Shows}
use Rattle.mb_model.specs.machine.Machine.{opening_world}
use Rattle.mb_board.specs.Calls.{Seen}
use Rattle.mb_model.specs.outside.Board.{Used, not_used, use_of, having_answered}
use Rattle.mb_tools_device.specs.Names.{generate_files}
use Rattle.mb_tools_device.proofs.ServedLemmas.{image_sized, loaded_shows, loaded_between, loaded_once, served_once, answered_count, loaded_use, served_whole}
use Rattle.mb_tools_device.proofs.GenerateLemmas.{new_state, new_image, none_made, files_not_written, workload_served}
use Rattle.mb_tools_device.proofs.generate.generate.Goals as goal

-- ---- the workload

pub returns-in_default-clause-carried : goal.returns-in_default-clause-carried
returns-in_default-clause-carried g c = none_made (generate_files c.args.names.now) _ _ (g.H.Host.outside c.args.host.now) c.requires.fresh.never_used

pub returns-in_default-clause-stays : goal.returns-in_default-clause-stays
returns-in_default-clause-stays g c = inl refl

pub returns-in_default-events_of-clause-carried : goal.returns-in_default-events_of-clause-carried
returns-in_default-events_of-clause-carried g c = none_made (generate_files c.args.names.now) _ _ (g.H.Host.outside c.args.host.now) c.requires.fresh.never_used

pub returns-in_default-events_of-clause-stays : goal.returns-in_default-events_of-clause-stays
returns-in_default-events_of-clause-stays g c = inl refl

-- ---- the load

pub load-requires-clause-image : goal.load-requires-clause-image
load-requires-clause-image g c =
    let names = c.args.names.now in
    ap length c.as_slice.ensures
    ∙ image_sized c.in-Ok.files.image (Some (new_state names.number names.rounds c.in-Ok.files c.in-Ok.ensures.made)) (new_image names.number names.rounds c.in-Ok.files c.in-Ok.ensures.made)

pub returns-in-Err-clause-carried : goal.returns-in-Err-clause-carried
returns-in-Err-clause-carried g c =
    none_made (generate_files c.args.names.now) _ _ (g.H.Host.outside c.args.host.now) (ap (λ (s : Seen). use_of s.ledger) c.in-Err.ensures.failed ∙ c.requires.fresh.never_used)

pub returns-in-Err-clause-stays : goal.returns-in-Err-clause-stays
returns-in-Err-clause-stays g c = inl c.in-Err.ensures.failed

-- ---- the files

pub returns-in_err-write_files-clause-carried : goal.returns-in_err-write_files-clause-carried
returns-in_err-write_files-clause-carried g c =
    let p = err_from_is_err_and c.from_residual.result c.from_residual.ensures.1 in
    let outside = g.H.Host.outside in
    let board = g.B.Board.seen c.load.new.self in
    let once = loaded_use c.in-Ok.files.image not_used board.memory c.in-Ok-events_of.events (g.B.Board.seen c.args.board.now).ledger board.ledger c.requires.fresh.never_used c.in-Ok-load.ensures.ledger (c.in-Ok-load.ensures.image ∙ c.as_slice.ensures) in
    rw (p.1, p.2) (files_not_written (generate_files c.args.names.now) c.in-Ok.files c.in-Ok-events_of.events _ _ (outside c.args.host.now) (outside c.write_files.new.host) c.in_err-write_files.field-0.0
    c.in-Ok.ensures.made c.in-Ok-events_of.ensures.events once c.in_err-write_files.ensures.err)

pub returns-in_err-write_files-clause-stays : goal.returns-in_err-write_files-clause-stays
returns-in_err-write_files-clause-stays g c =
    let old = g.B.Board.seen c.args.board.now in
    let board = g.B.Board.seen c.load.new.self in
    let p = err_from_is_err_and c.from_residual.result c.from_residual.ensures.1 in
    inr (inl (record {
      loaded = loaded_once old.ledger.loads board.memory c.in-Ok-events_of.events board.ledger c.in-Ok-load.ensures.ledger;
      between = loaded_between old board c.in-Ok-events_of.events c.in-Ok-load.ensures.ledger c.load.ensures.power c.in-Ok-load.ensures.meter;
      none_waits = λ done. let no : Err p.0 ≡ Ok tt = sym p.1 ∙ done in absurd (grind (arith, no));
    }))

-- ---- the events

pub serve-device-requires-clause-between : goal.serve-device-requires-clause-between
serve-device-requires-clause-between g c =
    loaded_between (g.B.Board.seen c.args.board.now) (g.B.Board.seen c.load.new.self) c.in-Ok-events_of.events c.in-Ok-load.ensures.ledger c.load.ensures.power c.in-Ok-load.ensures.meter

pub serve-device-requires-clause-sound : goal.serve-device-requires-clause-sound
serve-device-requires-clause-sound g c =
    let board = g.B.Board.seen c.load.new.self in
    let names = c.args.names.now in
    let state = Some (new_state names.number names.rounds c.in-Ok.files c.in-Ok.ensures.made) in
    let held = new_image names.number names.rounds c.in-Ok.files c.in-Ok.ensures.made in
    let shown = loaded_shows board.memory board.power board.level board.meter c.in-Ok.files.image state c.in-Ok-load.ensures.sized
    (c.in-Ok-load.ensures.image ∙ c.as_slice.ensures) c.load.ensures.power (ap (λ m. m.armed) c.in-Ok-load.ensures.meter) held in
    record { world = opening_world state; sound = c.start.ensures.started (opening_world state) shown held.valid }

pub summarise-requires-clause-shown : goal.summarise-requires-clause-shown
summarise-requires-clause-shown g c =
    let board = g.B.Board.seen c.load.new.self in
    let names = c.args.names.now in
    let state = Some (new_state names.number names.rounds c.in-Ok.files c.in-Ok.ensures.made) in
    let held = new_image names.number names.rounds c.in-Ok.files c.in-Ok.ensures.made in
    let shown = loaded_shows board.memory board.power board.level board.meter c.in-Ok.files.image state c.in-Ok-load.ensures.sized
    (c.in-Ok-load.ensures.image ∙ c.as_slice.ensures) c.load.ensures.power (ap (λ m. m.armed) c.in-Ok-load.ensures.meter) held in
    let served = c.serve-device.ensures.served (opening_world state) (c.start.ensures.started (opening_world state) shown held.valid) in
    (served.last, subst (λ h. Shows h served.last) (sym c.serve-device.ensures.between.standing) served.shown)

pub returns-clause-carried : goal.returns-clause-carried
returns-clause-carried g c =
    let outside = g.H.Host.outside in
    let old = (g.B.Board.seen c.args.board.now).ledger in
    let board = g.B.Board.seen c.load.new.self in
    let after = g.B.Board.seen c.serve-device.new.b in
    let names = c.args.names.now in
    let state = Some (new_state names.number names.rounds c.in-Ok.files c.in-Ok.ensures.made) in
    let held = new_image names.number names.rounds c.in-Ok.files c.in-Ok.ensures.made in
    let loaded = c.in-Ok-load.ensures.image ∙ c.as_slice.ensures in
    let shown = loaded_shows board.memory board.power board.level board.meter c.in-Ok.files.image state c.in-Ok-load.ensures.sized loaded c.load.ensures.power (ap (λ m. m.armed) c.in-Ok-load.ensures.meter) held in
    let sound = c.start.ensures.started (opening_world state) shown held.valid in
    let served = served_whole c.in-Ok.files.image state c.in-Ok-events_of.events board.memory board.ledger after.ledger _ held c.in-Ok-events_of.ensures.each c.in-Ok-load.ensures.ledger c.in-Ok-load.ensures.sized
    loaded c.serve-device.ensures.between.standing (c.serve-device.ensures.served (opening_world state) sound) in
    let once = loaded_use c.in-Ok.files.image not_used board.memory c.in-Ok-events_of.events old board.ledger c.requires.fresh.never_used c.in-Ok-load.ensures.ledger loaded in
    let used = c.serve-device.ensures.used ∙ ap (λ (u : Used). having_answered after.ledger.answered u) once in
    workload_served (generate_files names) c.in-Ok.files c.in-Ok-events_of.events _ _ (outside c.args.host.now) (outside c.write_files.new.host) (outside c.summarise.new.host) c.summarise.result
    c.in-Ok.ensures.made c.in-Ok-events_of.ensures.events c.in_ok-write_files.ensures.ok used served c.summarise.ensures

pub returns-clause-cost : goal.returns-clause-cost
returns-clause-cost g c =
    let board = g.B.Board.seen c.load.new.self in
    let names = c.args.names.now in
    let state = Some (new_state names.number names.rounds c.in-Ok.files c.in-Ok.ensures.made) in
    let held = new_image names.number names.rounds c.in-Ok.files c.in-Ok.ensures.made in
    let shown = loaded_shows board.memory board.power board.level board.meter c.in-Ok.files.image state c.in-Ok-load.ensures.sized
    (c.in-Ok-load.ensures.image ∙ c.as_slice.ensures) c.load.ensures.power (ap (λ m. m.armed) c.in-Ok-load.ensures.meter) held in
    let sound = c.start.ensures.started (opening_world state) shown held.valid in
    omega (
      arith,
      c.workload.ensures.cost,
      c.serve-device.ensures.cost,
      answered_count (opening_world state) board.ledger (g.B.Board.seen c.serve-device.new.b).ledger _ (c.serve-device.ensures.served (opening_world state) sound),
    )

pub returns-clause-stays : goal.returns-clause-stays
returns-clause-stays g c =
    let old = g.B.Board.seen c.args.board.now in
    let board = g.B.Board.seen c.load.new.self in
    let once = loaded_once old.ledger.loads board.memory c.in-Ok-events_of.events board.ledger c.in-Ok-load.ensures.ledger in
    inr (inl (record {
      loaded = served_once board.ledger (g.B.Board.seen c.serve-device.new.b).ledger once c.serve-device.ensures.used;
      between = c.serve-device.ensures.between;
      none_waits = λ done. c.serve-device.ensures.none_waits;
    }))
