use Rattle.std.proofs.Common.{List, [], true, false, Err, refl, subst}
use Rattle.mb_model.specs.declared.region.Secret.{Secret}
use Rattle.mb_console.specs.Ending.{CarriesOut}
use Rattle.mb_appvm.specs.Asking.{action_of}
use Rattle.mb_device_regions.specs.declared.listed.Shown.{Shown}
use Rattle.mb_device_regions.specs.Demands.{shown_secrets, MeetsDemands}
use Rattle.mb_device_regions.proofs.Asked.{demands_allowed}
use Rattle.mb_tools_app.specs.CallcodeCommand.{acts, finds_it_full, asks_for_nothing, by_offset, tell_output}
use Rattle.mb_tools_app.proofs.CallcodeLemmas.{done_comes, full_comes, output_told, full_told}
use Rattle.mb_tools_app.proofs.callcode.act.Goals as goal

pub returns-in-Err : goal.returns-in-Err
returns-in-Err g c =
    let before = g.H.Host.outside c.args.host.now in
    let at = c.in-Err.field-0.at in
    output_told c.args.next.now c.args.output.now c.args.secrets.now (asks_for_nothing at) before before (Err c.no_action.result)
    (by_offset at c.in-Err.ensures refl) (c.no_action.ensures before)

pub meet_all-requires-clause-demands : goal.meet_all-requires-clause-demands
meet_all-requires-clause-demands g c = demands_allowed c.args.output.now (action_of c.in-Ok.action) c.in-Ok.ensures

pub returns-then-not-meet_all : goal.returns-then-not-meet_all
returns-then-not-meet_all g c =
    let before = g.H.Host.outside c.args.host.now in
    let action = action_of c.in-Ok.action in
    let met = subst (λ (s : List Secret). MeetsDemands 0 action.demands s false []) c.list-listed.ensures c.if-not-meet_all.ensures in
    output_told c.args.next.now c.args.output.now c.args.secrets.now finds_it_full before before (Err c.refused.result)
    (full_comes c.args.secrets.now [] c.args.output.now action c.in-Ok.ensures met) (full_told c.args.next.now before c.refused.result c.refused.ensures)

pub returns : goal.returns
returns g c =
    let outside = g.H.Host.outside in
    let before = outside c.args.host.now in
    let now = outside c.write_next.new.host in
    let action = action_of c.in-Ok.action in
    let after = shown_secrets c.meet_all.new.listed.items in
    let met = subst (λ (s : List Secret). MeetsDemands 0 action.demands s true after) c.list-listed.ensures c.if-not-meet_all.ensures in
    let carried = subst (λ (l : List Shown). CarriesOut (tell_output c.args.next.now (acts (shown_secrets l) action.answer)) before c.write_next.result now)
    c.as_slice.ensures.value c.write_next.ensures in
    output_told c.args.next.now c.args.output.now c.args.secrets.now (acts after action.answer) before now c.write_next.result
    (done_comes c.args.secrets.now after c.args.output.now action c.in-Ok.ensures met) carried
