use Rattle.mb_layout.proofs.Areas.{fills}
use Rattle.mb_layout.proofs.area.fill_area.Goals as goal

pub returns : goal.returns
returns c =
    fills c.args.area.now c.fill.new.self c.put_at.new.out c.put_at-2.new.out c.to_be_bytes.result (c.fill.ensures.after (λ y e. e)) c.to_be_bytes.ensures c.requires.bytes c.put_at.ensures.written c.put_at.ensures.beyond c.put_at-2.ensures.written c.put_at-2.ensures.beyond
