use Rattle.std.proofs.Common.{arith}
use Rattle.mb_model.specs.memories.Meaning.{region_after_fate}
use Rattle.mb_layout_edits.proofs.RegionParts.{few_keys}
use Rattle.mb_layout_edits.proofs.fate.fate_record.Goals as goal

pub returns-in_default-clause-fated : goal.returns-in_default-clause-fated
returns-in_default-clause-fated c = λ region h can. absurd (c.in_default.ensures region h)

pub returns-clause-fated : goal.returns-clause-fated
returns-clause-fated c = λ region h can. (
    let after = region_after_fate c.args.fate.now region in
    c.store.ensures.stored after (c.fated_region.ensures region (c.in-Some.ensures region h) (few_keys after can)) can)

pub returns-clause-capacity : goal.returns-clause-capacity
returns-clause-capacity c = λ region h can. (
    let after = region_after_fate c.args.fate.now region in
    let more = c.store.ensures.capacity after (c.fated_region.ensures region (c.in-Some.ensures region h) (few_keys after can)) can in
    omega (arith, more, c.clear.ensures.capacity))
