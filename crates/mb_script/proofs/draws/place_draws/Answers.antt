use Rattle.std.proofs.Common.{◌≡◌, ◌≤◌, ◌*◌, length, ap, ◌∙◌, arith}
use Rattle.std.proofs.Math.ListN.{length-set}
use Rattle.mb_model.specs.declared.event.Event.TheVariants as event
use Rattle.mb_model.specs.chains.Script.{commands_in}
use Rattle.mb_script.proofs.Drawings.{draws_begin, drawn_count, draw_left, place_one}
use Rattle.mb_script.proofs.draws.place_draws.Goals as goal

pub loop-at-init : goal.loop-at-init
loop-at-init c = record { count = ap length c.as_slice-2.ensures; drawing = draws_begin c.args.noise.now c.args.events.now }

pub set-event-requires : goal.set-event-requires
set-event-requires c =
    omega (arith, drawn_count _ _ _ _ _ c.loop-at.invariant.drawing (omega arith), c.loop-at.invariant.count)

pub draw_event-drawn-requires : goal.draw_event-drawn-requires
draw_event-drawn-requires c =
    let counted : c.count_commands.result ≡ commands_in c.args.events.now = c.count_commands.ensures ∙ ap commands_in c.as_slice.ensures in
    let enough : 32 * commands_in c.args.events.now ≤ length c.args.noise.now = omega arith in
    draw_left _ _ _ _ _ _ c.loop-at.invariant.drawing (omega arith) c.set-event.ensures.old enough

pub set-placeholder-requires : goal.set-placeholder-requires
set-placeholder-requires c =
    omega (arith, ap length c.set-event.ensures.new, length-set c.loop-at.events c.loop-at.at event.Off, drawn_count _ _ _ _ _ c.loop-at.invariant.drawing (omega arith), c.loop-at.invariant.count)

pub loop-at-preserved : goal.loop-at-preserved
loop-at-preserved c = record {
  count = c.loop-at.invariant.count;
  drawing = place_one _ _ _ _ _ _ _ _ _ _ _ c.loop-at.invariant.drawing (omega arith) c.set-event.ensures.old c.set-event.ensures.new c.set-placeholder.ensures.new c.draw_event-drawn.ensures.drawn c.draw_event-drawn.ensures.left;
}
