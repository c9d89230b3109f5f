use Rattle.mb_slot.proofs.Slotted.{on_ok}
use Rattle.mb_region.proofs.Replaced.{replaces, keeps_or_replaces}
use Rattle.mb_region.proofs.stored.replace.Goals as goal

pub returns : goal.returns
returns g c =
    let before = (g.B.Board.seen c.args.b.now).memory in
    let after = (g.B.Board.seen c.commit_bytes.new.b).memory in
    let given = c.commit_bytes.ensures in
    record {
      done = λ region spelled. on_ok c.commit_bytes.result
          (λ holds. replaces c.args.slot region before after c.requires.slot given.ran.flash given.besides (record { bytes = c.args.bytes.now; holds = holds; spelled = spelled })) given.done;
      either = keeps_or_replaces c.args.slot before after c.args.bytes.now c.requires.slot given.ran.flash given.besides given.either;
      left = given.left;
      besides = given.besides;
      writes = given.writes;
      ran = given.ran;
      capacity = given.capacity;
    }
