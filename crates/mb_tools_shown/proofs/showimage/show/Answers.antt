use Rattle.std.proofs.Common.{◌∙◌}
use Rattle.mb_model.specs.chains.Lines.{text_of}
use Rattle.mb_tools_shown.specs.StateShown.{state_shown}
use Rattle.mb_tools_shown.proofs.StateLemmas.{text_printed, text_lacks}
use Rattle.mb_tools_shown.proofs.showimage.show.Goals as goal

pub returns-in-Ok : goal.returns-in-Ok
returns-in-Ok g c =
    let outside = g.H.Host.outside in
    text_printed (state_shown c.args.pending c.args.state.now) c.deref.result.now (outside c.args.host.now) (outside c.finish.new.host) c.finish.result (c.deref.ensures.value ∙ c.in-Ok.ensures) c.finish.ensures

pub returns-in-Err : goal.returns-in-Err
returns-in-Err g c = text_lacks (text_of (state_shown c.args.pending c.args.state.now)) (g.H.Host.outside c.args.host.now)
