use Rattle.std.proofs.Common.{◌∙◌, ℕ, ap, rules}
use Rattle.std.specs.Global.{Vec}
use Rattle.mb_model_memory.proofs.FlashFrames.{agree_then}
use Rattle.mb_area.proofs.Published.{area_small, public_kept, spared_code, spared_header, header_agrees, public_written}
use Rattle.mb_area.proofs.public.write_both.Goals as goal

pub overflow_sub-area : goal.overflow_sub-area
overflow_sub-area g c = area_small (g.B.Board.seen c.args.b.now).memory c.args.area c.requires.current

pub returns-in_err-write_code : goal.returns-in_err-write_code
returns-in_err-write_code g c = record {
  contents = public_kept (g.B.Board.seen c.args.b.now).memory (g.B.Board.seen c.write_code.new.b).memory c.args.area c.requires.current c.write_code.ensures.agree c.write_code.ensures.ran.bbram;
  agree = c.write_code.ensures.agree;
  public = λ header holds. record {
    written = search rules;
    spared = λ n less spared. spared_code (g.B.Board.seen c.args.b.now).memory.flash (g.B.Board.seen c.write_code.new.b).memory.flash c.args.room.now header c.args.area n less c.requires.powered.loaded.flash spared
        (c.write_code.ensures.code header holds).same;
    idle = λ there. search rules;
  };
  ran = search rules;
  plans = c.write_code.ensures.plans;
}

pub returns : goal.returns
returns g c =
    let agree = agree_then (g.B.Board.seen c.args.b.now).memory.flash (g.B.Board.seen c.write_code.new.b).memory.flash (g.B.Board.seen c.store_sector.new.b).memory.flash c.args.area c.write_code.ensures.agree
    (header_agrees (g.B.Board.seen c.write_code.new.b).memory.flash (g.B.Board.seen c.store_sector.new.b).memory.flash c.args.area c.header_sector.result
    (area_small (g.B.Board.seen c.args.b.now).memory c.args.area c.requires.current) c.header_sector.ensures
    c.write_code.ensures.ran.ran.sized.flash c.store_sector.ensures.same) in
    record {
      contents = public_kept (g.B.Board.seen c.args.b.now).memory (g.B.Board.seen c.store_sector.new.b).memory c.args.area c.requires.current agree (c.store_sector.ensures.ran.bbram ∙ c.write_code.ensures.ran.bbram);
      agree = agree;
      public = λ header holds. record {
        written = public_written c.args.room.now header c.args.area c.header_sector.result c.deref.result.now (g.B.Board.seen c.args.b.now).memory.flash (g.B.Board.seen c.write_code.new.b).memory.flash
            (g.B.Board.seen c.store_sector.new.b).memory.flash c.store_sector.result c.header_sector.ensures (c.deref.ensures.value ∙ ap (λ (v : Vec ℕ). v.items) c.write_code.ensures.plans.header)
            (c.in_ok-write_code.ensures.code header holds).written c.store_sector.ensures.written;
        spared = λ n less spared.
            spared_header (g.B.Board.seen c.write_code.new.b).memory.flash (g.B.Board.seen c.store_sector.new.b).memory.flash c.args.area c.header_sector.result n less
            c.write_code.ensures.ran.ran.sized.flash c.header_sector.ensures spared.not_header c.store_sector.ensures.same
            ∙ spared_code (g.B.Board.seen c.args.b.now).memory.flash (g.B.Board.seen c.write_code.new.b).memory.flash c.args.room.now header c.args.area n less c.requires.powered.loaded.flash spared
            (c.write_code.ensures.code header holds).same;
        idle = search rules;
      };
      ran = search rules;
      plans = search rules;
    }
