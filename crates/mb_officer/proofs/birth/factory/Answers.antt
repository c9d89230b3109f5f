use Rattle.mb_model_lemmas.proofs.FactoryLemmas.{factory_is_well_formed}
use Rattle.mb_officer.proofs.Births.{at_least_48, owner_allowed, birth_is, state_is, made_birth, made_fits, made_image}
use Rattle.mb_officer.proofs.birth.factory.Goals as goal

pub sign_birth-signed-requires-clause-spelled : goal.sign_birth-signed-requires-clause-spelled
sign_birth-signed-requires-clause-spelled g c =
    let maker = c.args.k.now.seed in
    let index = c.args.k.now.next in
    let owner = c.args.owner.now in
    let code = c.args.code.now in
    let noise = c.args.noise.now in
    let device = c.device_of-device in
    let birth = c.birth_of-birth.result in
    let born = birth_is maker index owner code noise device.result.serial device.result.key c.layers_of-layers.result birth device.ensures.serial device.ensures.key c.layers_of-layers.ensures c.birth_of-birth.ensures.birth in
    made_birth maker index owner code noise (owner_allowed owner c.key_sizes.ensures) c.requires.code (at_least_48 noise device.ensures.long) birth born

pub write-requires : goal.write-requires
write-requires g c =
    let owner = c.args.owner.now in
    let noise = c.args.noise.now in
    let device = c.device_of-device in
    let state = c.state_of-state in
    let made = state_is c.args.k.now.seed c.args.k.now.next owner c.args.code.now noise device.result.serial device.result.key c.layers_of-layers.result c.birth_of-birth.result c.in-Some.index
    c.sign_birth-signed.result c.in_ok-kept_code.kept_code c.log_of.result state.result device.ensures.serial device.ensures.key c.layers_of-layers.ensures c.birth_of-birth.ensures.birth
    c.in-Some.ensures.some.0 c.sign_birth-signed.ensures.signed c.in_ok-kept_code.ensures c.log_of.ensures state.ensures in
    made_fits c.args.k.now.seed c.args.k.now.next owner c.args.code.now noise (owner_allowed owner c.key_sizes.ensures) c.requires.code (at_least_48 noise device.ensures.long) state.result made

pub returns-clause-image : goal.returns-clause-image
returns-clause-image g c =
    let owner = c.args.owner.now in
    let noise = c.args.noise.now in
    let device = c.device_of-device in
    let state = c.state_of-state in
    let made = state_is c.args.k.now.seed c.args.k.now.next owner c.args.code.now noise device.result.serial device.result.key c.layers_of-layers.result c.birth_of-birth.result c.in-Some.index
    c.sign_birth-signed.result c.in_ok-kept_code.kept_code c.log_of.result state.result device.ensures.serial device.ensures.key c.layers_of-layers.ensures c.birth_of-birth.ensures.birth
    c.in-Some.ensures.some.0 c.sign_birth-signed.ensures.signed c.in_ok-kept_code.ensures c.log_of.ensures state.ensures in
    made_image c.args.k.now.seed c.args.k.now.next owner c.args.code.now noise (owner_allowed owner c.key_sizes.ensures) c.requires.code (at_least_48 noise device.ensures.long) state.result
    c.write.result.items made c.write.ensures

pub returns-clause-stands : goal.returns-clause-stands
returns-clause-stands g c =
    factory_is_well_formed c.args.k.now.seed c.args.k.now.next c.args.owner.now c.args.code.now c.args.noise.now c.write.result.items (returns-clause-image g c)
