use Rattle.std.proofs.Common.{◌≡◌, sym, subst, rules}
use Rattle.mb_model.specs.declared.region.Region.{Region}
use Rattle.mb_region.specs.Regions.{ReplacesRegion}
use Rattle.mb_region.proofs.Wiped.{put_writes}
use Rattle.mb_outbound.proofs.Bound.{replaced_on, either_then, ran_on}
use Rattle.mb_outbound.proofs.given.put_region.Goals as goal

pub returns : goal.returns
returns g c =
    let place = g.L.Compartment.place in
    let put = λ (region : Region) (same : region ≡ c.args.region.now). subst (λ (r : Region). ReplacesRegion place r (g.B.Board.seen c.args.b.now).memory (g.B.Board.seen c.commit_region.new.b).memory) (sym same) c.in_ok-s.ensures.done in
    record {
      done = λ region same. replaced_on c.wipe_region.result place region _ _ _ (put region same) c.wipe_region.ensures.contents;
      either = λ region same. either_then place region _ _ _ (put region same) c.wipe_region.ensures.contents;
      blank = search rules;
      besides = search rules;
      writes = λ old has. put_writes place old c.wipe_region.result (g.B.Board.seen c.args.b.now) (g.B.Board.seen c.commit_region.new.b) (g.B.Board.seen c.wipe_region.new.b) has c.in_ok-s.ensures.left c.in_ok-s.ensures.writes c.wipe_region.ensures.idle c.wipe_region.ensures.writes;
      ran = ran_on place c.in_ok-s.s c.wipe_region.result _ _ _ c.in_ok-s.ensures.ran c.wipe_region.ensures.ran;
      plans = search rules;
    }
