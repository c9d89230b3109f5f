use Rattle.std.proofs.Common.{◌<◌, length, get_or, ap, refl, ◌∙◌, arith}
use Rattle.std.proofs.lemmas.Bool.{false≢true}
use Rattle.std.specs.Prelude.{List}
use Rattle.mb_appvm.specs.declared.lines.Said.{Said}
use Rattle.mb_appvm.proofs.Soundness.{one_more, sizes, sound_stop}
use Rattle.mb_appvm.proofs.Positions.{first_new}
use Rattle.mb_appvm.proofs.checking.count_sound.Goals as goal

pub returns-then-not-is_sound : goal.returns-then-not-is_sound
returns-then-not-is_sound c =
    let s = c.index-said-at.result in
    let within : c.loop-at.at < length c.args.lines.now = omega (arith, c.loop-at-test.true, ap length c.as_slice-said.ensures) in
    let is = c.index-said-at.is ∙ ap (λ (x : List Said). get_or x c.loop-at.at s) c.as_slice-said.ensures in
    let first = first_new c.args.lines.now c.loop-at.at s s within is in
    sound_stop c.args.lines.now c.args.later.now c.loop-at.at s s within is c.loop-at.invariant.0
    (λ both. false≢true (c.if-not-is_sound.ensures.1 (first.1 both.0, both.1)))

pub loop-at-preserved : goal.loop-at-preserved
loop-at-preserved c =
    let s = c.index-said-at.result in
    let within : c.loop-at.at < length c.args.lines.now = omega (arith, c.loop-at-test.true, ap length c.as_slice-said.ensures) in
    let is = c.index-said-at.is ∙ ap (λ (x : List Said). get_or x c.loop-at.at s) c.as_slice-said.ensures in
    let first = first_new c.args.lines.now c.loop-at.at s s within is in
    let both = c.if-not-is_sound.ensures.0 refl in
    let sum = c.loop-at.invariant.1 in
    let size = c.size_of-size.ensures.value in (
      one_more c.args.lines.now c.args.later.now c.loop-at.at s s within is c.loop-at.invariant.0 (first.0 both.0, both.1) (omega (arith, sum, size, c.if-size.false)),
      sizes c.args.lines.now c.loop-at.at c.loop-at.size c.size_of-size.result s s within is sum size,
    )
