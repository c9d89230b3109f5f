use Rattle.std.proofs.Common.{rules}
use Rattle.mb_region.proofs.Wiped.{put_writes}
use Rattle.mb_outbound.proofs.Bound.{replaced_on, either_then, stands_still, ran_on}
use Rattle.mb_outbound.proofs.binding.store.Goals as goal

pub returns : goal.returns
returns g c = record {
  done = λ region spelled. replaced_on c.wipe_region.result g.L.Compartment.place region _ _ _ (c.in_ok-s.ensures.done region (stands_still region c.deref.ensures.value spelled)) c.wipe_region.ensures.contents;
  either = λ region spelled. either_then g.L.Compartment.place region _ _ _ (c.in_ok-s.ensures.done region (stands_still region c.deref.ensures.value spelled)) c.wipe_region.ensures.contents;
  blank = search rules;
  besides = search rules;
  writes = λ old has. put_writes g.L.Compartment.place old c.wipe_region.result (g.B.Board.seen c.args.b.now) (g.B.Board.seen c.commit_record.new.b) (g.B.Board.seen c.wipe_region.new.b) has c.in_ok-s.ensures.left c.in_ok-s.ensures.writes c.wipe_region.ensures.idle c.wipe_region.ensures.writes;
  ran = ran_on g.L.Compartment.place c.in_ok-s.s c.wipe_region.result _ _ _ c.in_ok-s.ensures.ran c.wipe_region.ensures.ran;
  plans = search rules;
}
