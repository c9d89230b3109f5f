use Rattle.std.proofs.Common.{subst}
use Rattle.std.specs.Prelude.{IfSome}
use Rattle.mb_model.specs.memories.Faults.{HasFault}
use Rattle.mb_image.specs.Ends.{fault_of}
use Rattle.mb_tools.proofs.ImageLemmas.{image_stops, image_stored}
use Rattle.mb_tools.proofs.input.devices.read_image.Goals as goal

pub returns-in-Err-clause-err : goal.returns-in-Err-clause-err
returns-in-Err-clause-err g c =
    let outside = g.H.Host.outside in
    let fault = subst (λ b. IfSome (fault_of c.in-Err.end) (λ f. HasFault b f)) c.deref.ensures.value c.in-Err.ensures.fault in
    image_stops c.args.name.now c.in_ok-bytes.bytes.items (outside c.args.host.now) (outside c.read_input.new.host) (fault_of c.in-Err.end) c.end_of_image.result
    c.in_ok-bytes.ensures.read c.in_ok-bytes.ensures.counted fault c.end_of_image.ensures

pub returns-in-Ok-clause-stored : goal.returns-in-Ok-clause-stored
returns-in-Ok-clause-stored g c = image_stored c.deref.result.now c.in-Ok.state c.in-Ok.ensures.stands
