use Rattle.std.proofs.Common.{rules}
use Rattle.mb_boot.proofs.Settled.{header_is_read, current_area, log_counted}
use Rattle.mb_boot.proofs.work.write_settled.Goals as goal

pub settle_header-requires : goal.settle_header-requires
settle_header-requires g c =
    record { header = header_is_read (g.B.Board.seen c.args.b.now).memory c.args.root.now c.args.room.now.header.items c.requires.root.live c.requires.root.root c.requires.header }

pub write_public-requires-clause-current : goal.write_public-requires-clause-current
write_public-requires-clause-current g c = current_area (g.B.Board.seen c.args.b.now).memory c.args.root.now c.requires.root.live c.requires.root.root

pub returns : goal.returns
returns g c =
    let public = c.in_ok-w.ensures.public in
    record {
      done = log_counted (g.B.Board.seen c.args.b.now).memory (g.B.Board.seen c.write_public.new.b).memory c.args.root.now c.args.room.now.header.items c.settle_header.new.room c.requires.root.root c.requires.header
          (record { settled = c.settle_header.ensures.settled; layer = c.settle_header.ensures.layer }) c.write_public.ensures.contents c.write_public.ensures.agree
          (λ header holds. (public header holds).written) (λ header holds. (public header holds).spared);
      contents = c.write_public.ensures.contents;
      agree = c.write_public.ensures.agree;
      ran = search rules;
    }
