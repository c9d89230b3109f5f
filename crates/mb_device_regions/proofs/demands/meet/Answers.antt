use Rattle.std.proofs.Common.{sym, subst, true}
use Rattle.mb_model.specs.machine.Actions.{demand_format}
use Rattle.mb_appvm.specs.declared.action.Demand.{Demand}
use Rattle.mb_appvm.specs.Asking.{demand_of}
use Rattle.mb_device_regions.specs.Demands.{shown_secrets, MeetsDemand}
use Rattle.mb_device_regions.proofs.Asked.{meets_keep, meets_drop}
use Rattle.mb_device_regions.proofs.demands.meet.Goals as goal

pub returns-in-Keep : goal.returns-in-Keep
returns-in-Keep c =
    subst (λ (demand : Demand). MeetsDemand c.args.number (demand_of demand) (shown_secrets c.args.listed.now.items) c.keep.result (shown_secrets c.keep.new.listed.items)) (sym c.in-Keep.is)
    (meets_keep c.in-Keep.name.now c.in-Keep.value.now c.args.number (shown_secrets c.args.listed.now.items) c.keep.result (shown_secrets c.keep.new.listed.items) c.ranges.number.fits
    (subst (λ (demand : Demand). demand_format.Allowed (demand_of demand)) c.in-Keep.is c.requires.demand) c.requires.kept c.keep.ensures)

pub returns-in-Drop : goal.returns-in-Drop
returns-in-Drop c =
    let met = meets_drop c.in-Drop.name.now c.args.number (shown_secrets c.args.listed.now.items) (shown_secrets c.discard.new.listed.items) c.requires.kept c.discard.ensures in
    subst (λ (demand : Demand). MeetsDemand c.args.number (demand_of demand) (shown_secrets c.args.listed.now.items) true (shown_secrets c.discard.new.listed.items)) (sym c.in-Drop.is) met
