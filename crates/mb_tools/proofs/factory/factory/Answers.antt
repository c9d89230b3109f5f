use Rattle.std.proofs.Common.{List, ℕ, Err, refl, ap, subst}
use Rattle.mb_model.specs.memories.Factory.{IsFactoryImage}
use Rattle.mb_model_commands.specs.FactoryCommand.{factory}
use Rattle.mb_console.proofs.Leading.{begins, reads, stops_at_input}
use Rattle.mb_tools.proofs.FactoryLemmas.{device_made, device_not_made}
use Rattle.mb_tools.proofs.factory.factory.Goals as goal

pub returns-in_err-noise-clause-carried : goal.returns-in_err-noise-clause-carried
unfolding factory
returns-in_err-noise-clause-carried g c = λ final. stops_at_input _ _ _ begins c.from_residual.ensures.1 c.in_err-noise.ensures.err refl refl

pub returns-in_err-key-clause-carried : goal.returns-in_err-key-clause-carried
unfolding factory
returns-in_err-key-clause-carried g c = λ final. stops_at_input _ _ _ (reads begins c.in_ok-noise.ensures.read) c.from_residual-in_err-key.ensures.1 c.in_err-key.ensures.err refl refl

pub returns-in_err-owner-clause-carried : goal.returns-in_err-owner-clause-carried
unfolding factory
returns-in_err-owner-clause-carried g c = λ final.
    let key = reads (reads begins c.in_ok-noise.ensures.read) c.in_ok-key.ensures.read in
    stops_at_input _ _ _ key c.from_residual-in_err-owner.ensures.1 c.in_err-owner.ensures.err refl refl

pub returns-in_err-code-clause-carried : goal.returns-in_err-code-clause-carried
unfolding factory
returns-in_err-code-clause-carried g c = λ final.
    let owner = reads (reads (reads begins c.in_ok-noise.ensures.read) c.in_ok-key.ensures.read) c.in_ok-owner.ensures.read in
    stops_at_input _ _ _ owner c.from_residual-in_err-code.ensures.1 c.in_err-code.ensures.err refl refl

pub returns-in-Ok-clause-carried : goal.returns-in-Ok-clause-carried
unfolding factory
returns-in-Ok-clause-carried g c = λ final.
    let owner = reads (reads (reads begins c.in_ok-noise.ensures.read) c.in_ok-key.ensures.read) c.in_ok-owner.ensures.read in
    let code = reads owner c.in_ok-code.ensures.read in
    let made = subst (λ (b : List ℕ). IsFactoryImage c.in_ok-key.key.seed c.in_ok-key.key.next c.in_ok-owner.owner b c.in_ok-noise.noise c.in-Ok.image.items) c.deref.ensures.value c.in-Ok.ensures.image in
    device_made _ _ _ _ _ _ _ _ _ code c.in-Ok.ensures.used made (λ spent. let never = c.in-Ok.ensures.spent.1 spent in cc) c.write_device.ensures

pub returns-clause-carried : goal.returns-clause-carried
unfolding factory
returns-clause-carried g c = λ final.
    let owner = reads (reads (reads begins c.in_ok-noise.ensures.read) c.in_ok-key.ensures.read) c.in_ok-owner.ensures.read in
    let code = reads owner c.in_ok-code.ensures.read in
    device_not_made _ _ _ _ _ c.in-Err.end _ code (λ is. c.in-Err.ensures.spent.0 (ap Err is)) (λ is. c.in-Err.ensures.countersignable (ap Err is)) c.end_of.ensures
