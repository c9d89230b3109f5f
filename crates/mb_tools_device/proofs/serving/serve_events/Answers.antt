use Rattle.std.proofs.Common.{length, refl, ◌∙◌, ap, arith}
use Rattle.mb_model.specs.machine.Machine.{opening_world}
use Rattle.mb_model.specs.outside.Board.{Used, use_of, having_answered}
use Rattle.mb_tools_device.proofs.ServedLemmas.{loaded_shows, loaded_between, loaded_once, served_once, answered_count, loaded_use, served_whole, image_sized}
use Rattle.mb_tools_device.proofs.serving.serve_events.Goals as goal

pub load-requires-clause-image : goal.load-requires-clause-image
load-requires-clause-image g c = ap length c.deref.ensures.value ∙ image_sized c.args.image.now.bytes.items c.args.image.now.state c.requires.image

pub serve-device-requires-clause-between : goal.serve-device-requires-clause-between
serve-device-requires-clause-between g c =
    loaded_between (g.B.Board.seen c.args.board.now) (g.B.Board.seen c.load.new.self) c.args.events c.in-Ok.ensures.ledger c.load.ensures.power c.in-Ok.ensures.meter

pub serve-device-requires-clause-sound : goal.serve-device-requires-clause-sound
serve-device-requires-clause-sound g c =
    let board = g.B.Board.seen c.load.new.self in
    let state = c.args.image.now.state in
    let shown = loaded_shows board.memory board.power board.level board.meter c.args.image.now.bytes.items state c.in-Ok.ensures.sized
    (c.in-Ok.ensures.image ∙ c.deref.ensures.value) c.load.ensures.power (ap (λ m. m.armed) c.in-Ok.ensures.meter) c.requires.image in
    record { world = opening_world state; sound = c.start.ensures.started (opening_world state) shown c.requires.image.valid }

pub returns-clause-served : goal.returns-clause-served
returns-clause-served g c =
    let board = g.B.Board.seen c.load.new.self in
    let state = c.args.image.now.state in
    let shown = loaded_shows board.memory board.power board.level board.meter c.args.image.now.bytes.items state c.in-Ok.ensures.sized
    (c.in-Ok.ensures.image ∙ c.deref.ensures.value) c.load.ensures.power (ap (λ m. m.armed) c.in-Ok.ensures.meter) c.requires.image in
    let sound = c.start.ensures.started (opening_world state) shown c.requires.image.valid in
    served_whole c.args.image.now.bytes.items state c.args.events board.memory board.ledger (g.B.Board.seen c.serve-device.new.b).ledger _ c.requires.image c.requires.events c.in-Ok.ensures.ledger c.in-Ok.ensures.sized
    (c.in-Ok.ensures.image ∙ c.deref.ensures.value) c.serve-device.ensures.between.standing (c.serve-device.ensures.served (opening_world state) sound)

pub returns-clause-used : goal.returns-clause-used
returns-clause-used g c =
    let old = (g.B.Board.seen c.args.board.now).ledger in
    let board = g.B.Board.seen c.load.new.self in
    let once = loaded_use c.args.image.now.bytes.items (use_of old) board.memory c.args.events old board.ledger refl c.in-Ok.ensures.ledger (c.in-Ok.ensures.image ∙ c.deref.ensures.value) in
    c.serve-device.ensures.used ∙ ap (λ (u : Used). having_answered (g.B.Board.seen c.serve-device.new.b).ledger.answered u) once

pub returns-clause-holds : goal.returns-clause-holds
returns-clause-holds g c =
    let old = (g.B.Board.seen c.args.board.now).ledger in
    let board = g.B.Board.seen c.load.new.self in
    record {
      loaded = served_once board.ledger (g.B.Board.seen c.serve-device.new.b).ledger (loaded_once old.loads board.memory c.args.events board.ledger c.in-Ok.ensures.ledger) c.serve-device.ensures.used;
      between = c.serve-device.ensures.between;
      none_waits = λ done. c.serve-device.ensures.none_waits;
    }

pub returns-clause-cost : goal.returns-clause-cost
returns-clause-cost g c =
    let board = g.B.Board.seen c.load.new.self in
    let state = c.args.image.now.state in
    let shown = loaded_shows board.memory board.power board.level board.meter c.args.image.now.bytes.items state c.in-Ok.ensures.sized
    (c.in-Ok.ensures.image ∙ c.deref.ensures.value) c.load.ensures.power (ap (λ m. m.armed) c.in-Ok.ensures.meter) c.requires.image in
    let sound = c.start.ensures.started (opening_world state) shown c.requires.image.valid in
    omega (
      arith,
      c.serve-device.ensures.cost,
      answered_count (opening_world state) board.ledger (g.B.Board.seen c.serve-device.new.b).ledger _ (c.serve-device.ensures.served (opening_world state) sound),
    )
