use Rattle.std.proofs.Common.{Ok, Some, refl, sym, subst, arith}
use Rattle.mb_model.specs.declared.event.Event.{Event}
use Rattle.mb_model.specs.declared.event.Event.TheVariants as event
use Rattle.mb_model.specs.machine.LayerEvents.{get_event}
use Rattle.mb_device_orders.specs.declared.remembering.Known.{Known}
use Rattle.mb_device_regions.specs.Calls.{AnswersIn}
use Rattle.mb_device_regions.proofs.Promised.{remembered_ready, answers_idle}
use Rattle.mb_device.specs.Calls.{SignsIn}
use Rattle.mb_device.specs.Regions.{layer_outcome}
use Rattle.mb_device.specs.KeptTrees.{IsKeptToSign}
use Rattle.mb_device.proofs.Trees.{same_trees, trees_signed_by, trees_untouched}
use Rattle.mb_device.proofs.regions.ask.Goals as goal

pub get_secret-reply-requires-clause-ready : goal.get_secret-reply-requires-clause-ready
get_secret-reply-requires-clause-ready g c = remembered_ready c.requires.can_answer

pub returns-in-Put-clause-answers : goal.returns-in-Put-clause-answers
returns-in-Put-clause-answers g c =
    subst (λ (e : Event). AnswersIn g.L.Compartment.place (layer_outcome g.L.Compartment.place e) c.args.running.now c.put_secret.new.running c.put_secret.result (g.B.Board.seen c.args.b.now) (g.B.Board.seen c.put_secret.new.b)) (sym c.in-Put.is) c.put_secret.ensures.answers

pub returns-in-Get-clause-answers : goal.returns-in-Get-clause-answers
returns-in-Get-clause-answers g c =
    subst (λ (e : Event). AnswersIn g.L.Compartment.place (layer_outcome g.L.Compartment.place e) c.args.running.now (record c.args.running.now { room = c.get_secret-reply.new.room }) (Ok (c.args.s, c.get_secret-reply.result)) (g.B.Board.seen c.args.b.now) (g.B.Board.seen c.args.b.now)) (sym c.in-Get.is)
    (answers_idle g.L.Compartment.place _ (get_event g.L.Compartment.place c.in-Get.name) c.args.running.now _ c.args.s c.get_secret-reply.result (g.B.Board.seen c.args.b.now) c.requires.can_answer.up refl c.get_secret-reply.ensures.plans c.get_secret-reply.ensures.told)

pub returns-in-Drop-clause-answers : goal.returns-in-Drop-clause-answers
returns-in-Drop-clause-answers g c =
    subst (λ (e : Event). AnswersIn g.L.Compartment.place (layer_outcome g.L.Compartment.place e) c.args.running.now c.drop_secret.new.running c.drop_secret.result (g.B.Board.seen c.args.b.now) (g.B.Board.seen c.drop_secret.new.b)) (sym c.in-Drop.is) c.drop_secret.ensures.answers

pub returns-in-Sign-clause-answers : goal.returns-in-Sign-clause-answers
returns-in-Sign-clause-answers g c =
    subst (λ (e : Event). AnswersIn g.L.Compartment.place (layer_outcome g.L.Compartment.place e) c.args.running.now c.sign_message.new.running c.sign_message.result (g.B.Board.seen c.args.b.now) (g.B.Board.seen c.sign_message.new.b)) (sym c.in-Sign.is) c.sign_message.ensures.answers

pub returns-in-Put-clause-signs : goal.returns-in-Put-clause-signs
returns-in-Put-clause-signs g c =
    subst (λ (e : Event). SignsIn g.L.Compartment.place e (Some c.args.running.now.known.trees.value) (Some c.put_secret.new.running.known.trees.value) c.put_secret.result c.args.hashes.now c.args.hashes.now) (sym c.in-Put.is)
    (subst (λ (known : Known). SignsIn g.L.Compartment.place (event.Put c.in-Put.region c.in-Put.name c.in-Put.value) (Some c.args.running.now.known.trees.value) (Some known.trees.value) c.put_secret.result c.args.hashes.now c.args.hashes.now) (sym c.put_secret.ensures.stays)
    (record {
      trees = trees_untouched c.put_secret.result g.L.Compartment.place (event.Put c.in-Put.region c.in-Put.name c.in-Put.value) (Some c.args.running.now.known.trees.value) (λ answer. tt);
      cost = omega arith;
      again = λ own. omega arith;
    }))

pub returns-in-Drop-clause-signs : goal.returns-in-Drop-clause-signs
returns-in-Drop-clause-signs g c =
    subst (λ (e : Event). SignsIn g.L.Compartment.place e (Some c.args.running.now.known.trees.value) (Some c.drop_secret.new.running.known.trees.value) c.drop_secret.result c.args.hashes.now c.args.hashes.now) (sym c.in-Drop.is)
    (subst (λ (known : Known). SignsIn g.L.Compartment.place (event.Drop c.in-Drop.region c.in-Drop.name) (Some c.args.running.now.known.trees.value) (Some known.trees.value) c.drop_secret.result c.args.hashes.now c.args.hashes.now) (sym c.drop_secret.ensures.stays)
    (record {
      trees = trees_untouched c.drop_secret.result g.L.Compartment.place (event.Drop c.in-Drop.region c.in-Drop.name) (Some c.args.running.now.known.trees.value) (λ answer. tt);
      cost = omega arith;
      again = λ own. omega arith;
    }))

pub returns-in-Get-clause-signs : goal.returns-in-Get-clause-signs
returns-in-Get-clause-signs g c =
    subst (λ (e : Event). SignsIn g.L.Compartment.place e (Some c.args.running.now.known.trees.value) (Some c.args.running.now.known.trees.value) (Ok (c.args.s, c.get_secret-reply.result)) c.args.hashes.now c.args.hashes.now) (sym c.in-Get.is)
    (record {
      trees = same_trees g.L.Compartment.place (event.Get c.in-Get.region c.in-Get.name) c.get_secret-reply.result (Some c.args.running.now.known.trees.value) tt;
      cost = omega arith;
      again = λ own. omega arith;
    })

pub returns-in-Sign-clause-signs : goal.returns-in-Sign-clause-signs
returns-in-Sign-clause-signs g c =
    let signs = c.sign_message.ensures.trees in
    record {
      trees = trees_signed_by c.sign_message.result g.L.Compartment.place c.in-Sign.region c.in-Sign.key c.in-Sign.message c.args.event.now c.args.running.now.known.trees.value c.sign_message.new.running.known.trees.value c.in-Sign.is signs.keeps signs.stays signs.device;
      cost = signs.cost;
      again = λ own. signs.again (subst (λ (e : Event). IsKeptToSign (Some c.args.running.now.known.trees.value) g.L.Compartment.place e) c.in-Sign.is own);
    }
