use Rattle.std.proofs.Common.{true≢false, sym, ◌∙◌, arith}
use Rattle.mb_image.specs.Stored.{contents_of}
use Rattle.mb_image.proofs.Meanings.{meant_spelled, meant_short, meant_layers, meant_device, sound_where, not_sound}
use Rattle.mb_image.proofs.sound.sound_state.Goals as goal

pub is_valid-requires-clause-spelled : goal.is_valid-requires-clause-spelled
is_valid-requires-clause-spelled g c = meant_spelled (contents_of c.args.stored) c.in_ok-state.state c.requires c.in_ok-state.ensures.state

pub is_valid-requires-clause-short : goal.is_valid-requires-clause-short
is_valid-requires-clause-short g c =
    let few = meant_short (contents_of c.args.stored) c.in_ok-state.state c.requires c.in_ok-state.ensures.state in
    omega (arith, few)

pub is_valid-requires-clause-layers : goal.is_valid-requires-clause-layers
is_valid-requires-clause-layers g c = meant_layers (contents_of c.args.stored) c.in_ok-state.state c.in_ok-state.ensures.state

pub is_valid-requires-clause-device : goal.is_valid-requires-clause-device
is_valid-requires-clause-device g c = c.public_kept-device.ensures ∙ meant_device (contents_of c.args.stored) c.in_ok-state.state c.in_ok-state.ensures.state

pub returns-then-branch-clause-state : goal.returns-then-branch-clause-state
returns-then-branch-clause-state g c =
    sound_where (contents_of c.args.stored) c.in_ok-state.state (c.has_index.ensures.0 c.if-not-has_index.false) c.in_ok-state.ensures.state (c.in_ok-is_valid.ensures.valid.0 c.if-branch.true)

pub returns-else-branch-clause-state : goal.returns-else-branch-clause-state
returns-else-branch-clause-state g c =
    not_sound (contents_of c.args.stored) c.in_ok-state.state c.in_ok-state.ensures.state (λ valid. true≢false (sym (c.in_ok-is_valid.ensures.valid.1 valid) ∙ c.if-branch.false))
