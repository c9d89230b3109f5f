use Rattle.std.proofs.Common.{◌∙◌}
use Rattle.mb_tools.proofs.SignLemmas.{index_used, index_lacks}
use Rattle.mb_tools.proofs.sign.use_index.Goals as goal

pub returns-in_default : goal.returns-in_default
returns-in_default g c = λ before used index. index_lacks c.args.names.key.now c.args.names.out.now before c.args.order.now (g.H.Host.outside c.args.host.now)

pub returns-in_default-index_text : goal.returns-in_default-index_text
returns-in_default-index_text g c = λ before used index. index_lacks c.args.names.key.now c.args.names.out.now before c.args.order.now (g.H.Host.outside c.args.host.now)

pub returns : goal.returns
returns g c = λ before used index.
    let outside = g.H.Host.outside in
    index_used c.args.names.key.now c.args.names.out.now before c.args.key.now c.args.order.now c.args.index c.write_keyfile-file.result c.deref.result.now c.as_bytes.result.now
    (outside c.args.host.now) (outside c.finish.new.host) c.finish.result used index c.write_keyfile-file.ensures
    (c.deref.ensures.value ∙ c.in-Ok.ensures) (c.as_bytes.ensures.value ∙ c.in-Ok-index_text.ensures) c.finish.ensures
