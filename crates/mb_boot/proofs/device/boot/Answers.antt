use Rattle.mb_boot.proofs.Booted.{climbed_live, boots_up, boots_stopped}
use Rattle.mb_boot.proofs.device.boot.Goals as goal

pub come_up-requires : goal.come_up-requires
come_up-requires g c =
    climbed_live (g.B.Board.seen c.args.b.now) (g.B.Board.seen c.wake-zero.new.b) (g.B.Board.seen c.climb-up.new.b) c.is_dead.result c.wake-zero.ensures.switched c.climb-up.ensures c.requires.stands c.is_dead.ensures c.if-is_dead.false

pub returns-in-Ok-come_up : goal.returns-in-Ok-come_up
returns-in-Ok-come_up g c =
    boots_up _ c.in-Ok-come_up.up (g.B.Board.seen c.args.b.now) (g.B.Board.seen c.wake-zero.new.b) (g.B.Board.seen c.climb-up.new.b) (g.B.Board.seen c.come_up.new.b) c.is_dead.result _ _
    c.wake-zero.ensures.switched c.climb-up.ensures c.is_dead.ensures c.if-is_dead.false c.in-Ok-come_up.ensures.work c.come_up.ensures.quiet

pub returns-in-Err-come_up : goal.returns-in-Err-come_up
returns-in-Err-come_up g c =
    boots_stopped c.in-Err-come_up.off (g.B.Board.seen c.args.b.now) (g.B.Board.seen c.wake-zero.new.b) (g.B.Board.seen c.climb-up.new.b) (g.B.Board.seen c.come_up.new.b) c.is_dead.result _ _
    c.wake-zero.ensures.switched c.climb-up.ensures c.is_dead.ensures c.if-is_dead.false c.in-Err-come_up.ensures.work c.come_up.ensures.quiet
