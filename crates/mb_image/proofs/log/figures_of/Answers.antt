use Rattle.std.proofs.Common.{true≢false, sym, ◌∙◌, arith}
use Rattle.mb_model.specs.owners.Log.{entries_of}
use Rattle.std.proofs.Common.{take}
use Rattle.mb_image.proofs.Following.{EachFollows-none, EachFollows-more, follows_by, one_fails, figures_next, short_front, figures_nothing}
use Rattle.mb_image.proofs.log.figures_of.Goals as goal

pub loop-signed-init : goal.loop-signed-init
loop-signed-init c = (EachFollows-none, c.no_figures-figures.ensures ∙ figures_nothing)

pub returns-then-not-branch : goal.returns-then-not-branch
returns-then-not-branch c =
    let front = entries_of (take c.loop-signed.signed-index c.args.log.now) in
    let says = follows_by c.loop-signed.figures front _ _ c.loop-signed.invariant.1 c.in_ok-follows.ensures in
    one_fails c.args.log.now c.loop-signed.signed-index _ c.loop-signed-test.true (λ follows. true≢false (sym (says.1 follows) ∙ c.if-not-branch.true))

pub loop-signed-preserved : goal.loop-signed-preserved
loop-signed-preserved c =
    let front = entries_of (take c.loop-signed.signed-index c.args.log.now) in
    let says = follows_by c.loop-signed.figures front _ _ c.loop-signed.invariant.1 c.in_ok-follows.ensures in
    let few = short_front c.args.log.now c.loop-signed.signed-index c.loop-signed-test.true in (
      EachFollows-more c.args.log.now c.loop-signed.signed-index _ c.loop-signed-test.true c.loop-signed.invariant.0 (says.0 c.if-not-branch.false),
      figures_next c.args.log.now c.loop-signed.signed-index _ c.loop-signed.figures c.add_entry.new.figures c.loop-signed-test.true c.loop-signed.invariant.1
          (λ was. c.add_entry.ensures front (omega (arith, few, c.requires.short, c.loop-signed-test.true)) was),
    )
