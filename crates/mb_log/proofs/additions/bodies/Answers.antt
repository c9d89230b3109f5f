use Rattle.std.proofs.Common.{sym, ◌∙◌}
use Rattle.mb_log.proofs.Added.{bodies_made, room_left, trees_counted}
use Rattle.mb_log.proofs.additions.bodies.Goals as goal

pub returns-clause-bodies : goal.returns-clause-bodies
returns-clause-bodies g c =
    bodies_made c.args.draw.now c.args.view.now c.make_ready-ready.result c.args.fact.now c.names_next-next_named.result
    c.in_ok-entries.entries.items c.make_ready-ready.new.entries.items c.from_vec.result c.own_addition-own.result.entry c.own_addition-own.result.device
    c.own_addition-own.result.uses c.outgoing.result c.own_addition-own.result.key c.names_next-next_named.ensures
    c.make_ready-ready.ensures.ready c.in_ok-entries.ensures.items c.make_ready-ready.ensures.entries (c.from_vec.ensures ∙ c.put.ensures.items)
    c.own_addition-own.ensures.entry c.own_addition-own.ensures.device c.own_addition-own.ensures.uses c.outgoing.ensures c.own_addition-own.ensures.key

pub returns-clause-room : goal.returns-clause-room
returns-clause-room g c =
    room_left c.names_next-next_named.result c.args.bench.now c.make_ready-ready.new.bench c.own_addition-own.new.bench c.make_ready-ready.ensures.same c.make_ready-ready.ensures.left
    (λ no. c.own_addition-own.ensures.same (sym c.names_next-next_named.ensures ∙ no)) c.own_addition-own.ensures.room

pub returns-clause-keys : goal.returns-clause-keys
returns-clause-keys g c =
    trees_counted c.in_ok-entries.entries.items c.make_ready-ready.new.entries.items _ c.from_vec.result c.own_addition-own.result.entry _ _ _ c.in_ok-entries.ensures.items c.make_ready-ready.ensures.entries (c.from_vec.ensures ∙ c.put.ensures.items)
    c.make_ready-ready.ensures.keys c.own_addition-own.ensures.keys
