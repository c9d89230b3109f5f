use Rattle.std.proofs.Common.{◌∙◌}
use Rattle.mb_device_regions.specs.Demands.{shown_secrets}
use Rattle.mb_tools_app.proofs.CallcodeLemmas.{next_written, next_lacks}
use Rattle.mb_tools_app.proofs.callcode.write_next.Goals as goal

pub returns-in_default : goal.returns-in_default
returns-in_default g c = next_lacks c.args.next.now c.args.answer.now (shown_secrets c.args.secrets.now) (g.H.Host.outside c.args.host.now)

pub returns : goal.returns
returns g c =
    let outside = g.H.Host.outside in
    next_written c.args.next.now c.as_slice.result.now c.as_bytes.result.now c.args.answer.now (shown_secrets c.args.secrets.now) (outside c.args.host.now)
    (outside c.finish.new.host) c.finish.result (c.as_slice.ensures ∙ c.in-Ok.ensures) (c.as_bytes.ensures.value ∙ c.in-Ok-called_text.ensures) c.finish.ensures

pub returns-in_default-called_text : goal.returns-in_default-called_text
returns-in_default-called_text g c = next_lacks c.args.next.now c.args.answer.now (shown_secrets c.args.secrets.now) (g.H.Host.outside c.args.host.now)
