use Rattle.std.proofs.Common.{◌∙◌}
use Rattle.mb_tools.specs.Names.{factory_files}
use Rattle.mb_tools.proofs.FactoryLemmas.{device_written, device_lacks}
use Rattle.mb_tools.proofs.factory.write_device.Goals as goal

pub returns-in_default : goal.returns-in_default
returns-in_default g c = λ before used. device_lacks (factory_files c.args.names.now) c.args.noise.now before c.args.image.items (g.H.Host.outside c.args.host.now)

pub returns : goal.returns
returns g c = λ before used.
    let outside = g.H.Host.outside in
    device_written (factory_files c.args.names.now) c.args.noise.now before c.args.key.now c.args.image.items c.write_keyfile-file.result c.deref.result.now c.as_bytes.result.now
    (outside c.args.host.now) (outside c.finish.new.host) c.finish.result used c.write_keyfile-file.ensures c.deref.ensures.value (c.as_bytes.ensures.value ∙ c.in-Ok.ensures) c.finish.ensures
