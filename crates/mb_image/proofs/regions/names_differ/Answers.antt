use Rattle.std.proofs.Common.{◌≡◌, get_or, true≢false, refl, sym, ◌∙◌}
use Rattle.mb_image.proofs.RegionSteps.{name_again, names_more, names_whole}
use Rattle.mb_image.proofs.regions.names_differ.Goals as goal

pub returns-then-has_name : goal.returns-then-has_name
returns-then-has_name c =
    let named : (get_or c.args.secrets.now c.loop-at.at c.index-secrets-at.result).name ≡ c.as_slice.result.now = sym c.as_slice.ensures in (
      (λ on. absurd (true≢false (sym on))),
      (λ pairs. absurd (name_again c.args.secrets.now c.loop-at.at c.index-secrets-at.result c.as_slice.result.now c.loop-at-test.true named (c.has_name.ensures.0 c.if-has_name.true) pairs)),
    )

pub loop-at-preserved : goal.loop-at-preserved
loop-at-preserved c =
    let named : (get_or c.args.secrets.now c.loop-at.at c.index-secrets-at.result).name ≡ c.as_slice.result.now = sym c.as_slice.ensures in
    names_more c.args.secrets.now c.loop-at.at c.index-secrets-at.result c.as_slice.result.now c.loop-at-test.true named
    (λ found. true≢false (sym (c.has_name.ensures.1 found) ∙ c.if-has_name.false)) c.loop-at.invariant

pub returns : goal.returns
returns c = ((λ on. names_whole c.args.secrets.now c.loop-at.at c.loop-at-test.false c.loop-at.invariant), (λ pairs. refl))
