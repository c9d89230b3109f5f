use Rattle.std.proofs.Common.{true≢false, sym, ◌∙◌}
use Rattle.mb_model_lemmas.proofs.ValidStates.{follows_is_ruled}
use Rattle.mb_model.specs.owners.Log.{entries_of}
use Rattle.mb_log.proofs.KeyLives.{figures_number}
use Rattle.mb_image.proofs.Following.{IfOk-weaker}
use Rattle.mb_image.proofs.Reading.{matched}
use Rattle.mb_image.proofs.ValidParts.{state_by, no_two_by}
use Rattle.mb_image.proofs.validity.is_valid.Goals as goal

pub is_valid_region-requires-clause-ruled : goal.is_valid_region-requires-clause-ruled
is_valid_region-requires-clause-ruled g c =
    let reads = matched _ _ c.in_ok-figures.field-0 c.in-Some.figures c.in-Some.is c.in_ok-figures.ensures in
    follows_is_ruled c.as_slice-log.result.now reads.0

pub is_valid_region-requires-clause-number : goal.is_valid_region-requires-clause-number
is_valid_region-requires-clause-number g c =
    let reads = matched _ _ c.in_ok-figures.field-0 c.in-Some.figures c.in-Some.is c.in_ok-figures.ensures in
    figures_number c.in-Some.figures (entries_of c.as_slice-log.result.now) reads.1

pub is_valid_region-requires-2-clause-ruled : goal.is_valid_region-requires-2-clause-ruled
is_valid_region-requires-2-clause-ruled g c =
    let reads = matched _ _ c.in_ok-figures.field-0 c.in-Some.figures c.in-Some.is c.in_ok-figures.ensures in
    follows_is_ruled c.as_slice-log.result.now reads.0

pub is_valid_region-requires-2-clause-number : goal.is_valid_region-requires-2-clause-number
is_valid_region-requires-2-clause-number g c =
    let reads = matched _ _ c.in_ok-figures.field-0 c.in-Some.figures c.in-Some.is c.in_ok-figures.ensures in
    figures_number c.in-Some.figures (entries_of c.as_slice-log.result.now) reads.1

pub returns-then-not-branch-clause-valid : goal.returns-then-not-branch-clause-valid
returns-then-not-branch-clause-valid g c =
    let reads = matched _ _ c.in_ok-figures.field-0 c.in-Some.figures c.in-Some.is c.in_ok-figures.ensures in (
      (λ on. absurd (true≢false (sym on))),
      (λ valid. absurd (no_two_by c.args.state.now c.as_slice-log.result.now c.in-Some.figures c.as_slice-log.ensures c.requires.layers reads
          (λ two. true≢false (sym (c.in_ok-is_valid_region.ensures.valid.1 two) ∙ c.if-not-branch.true)) valid)),
    )

pub returns-clause-valid : goal.returns-clause-valid
returns-clause-valid g c =
    let reads = matched _ _ c.in_ok-figures.field-0 c.in-Some.figures c.in-Some.is c.in_ok-figures.ensures in
    IfOk-weaker _ _
    (λ result three. state_by c.args.state.now c.as_slice-log.result.now c.args.device.now c.in-Some.figures result c.as_slice-log.ensures c.requires.device c.requires.layers reads
    (c.is_device.ensures.0 c.if-not-is_device.false) (c.are_named.ensures.0 c.if-not-are_named.false) (c.in_ok-is_valid_region.ensures.valid.0 c.if-not-branch.false) three)
    c.is_valid_region-2.result c.is_valid_region-2.ensures.valid
