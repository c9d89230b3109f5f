use Rattle.std.proofs.Common.{subst}
use Rattle.mb_area.specs.declared.first_look.Looked.{Looked}
use Rattle.mb_boot.specs.Booting.{IsFoundAs}
use Rattle.mb_boot.proofs.Booted.{already_works, found_live, unwiped_works}
use Rattle.mb_boot.proofs.device.bring_to_rest.Goals as goal

pub settle_and_wipe-requires : goal.settle_and_wipe-requires
settle_and_wipe-requires g c =
    let seen = g.B.Board.seen c.args.b.now in
    found_live c.in-Unsettled.u seen c.requires.live (subst (λ (what : Looked). IsFoundAs what seen.memory.bbram) c.in-Unsettled.is c.requires.looked)

pub returns-in-Settled-clause-work : goal.returns-in-Settled-clause-work
returns-in-Settled-clause-work g c =
    let seen = g.B.Board.seen c.args.b.now in
    already_works c.in-Settled.up seen _ c.requires.live (subst (λ (what : Looked). IsFoundAs what seen.memory.bbram) c.in-Settled.is c.requires.looked)

pub returns-in-Unwiped-clause-work : goal.returns-in-Unwiped-clause-work
returns-in-Unwiped-clause-work g c =
    let seen = g.B.Board.seen c.args.b.now in
    unwiped_works c.in-Unwiped.unwiped c.wipe_root.result seen (g.B.Board.seen c.wipe_root.new.b) _
    (subst (λ (what : Looked). IsFoundAs what seen.memory.bbram) c.in-Unwiped.is c.requires.looked) c.wipe_root.ensures
