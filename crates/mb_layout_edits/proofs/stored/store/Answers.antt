use Rattle.std.proofs.Common.{ap, ◌∙◌, length, arith}
use Rattle.mb_layout_edits.proofs.RegionParts.{empty_is_few, put_whole, put_roomy, stored_after, record_after}
use Rattle.mb_layout_edits.proofs.stored.store.Goals as goal

pub returns-clause-stored : goal.returns-clause-stored
returns-clause-stored c = λ region stands can. (
    stored_after can
    (λ e. let few = empty_is_few e stands.least (ap length (c.as_slice.ensures.keys ∙ stands.keys)) in omega (arith, few, c.if-as_slice-stored.false))
    (λ allowed. put_whole region c.clear.new.self c.put_stored.new.out c.put_stored.result c.put_stored.ensures c.clear.ensures.items c.clear.ensures.len
    (omega (arith, c.clear.ensures.capacity, c.requires)) stands.secrets (c.as_slice-2.ensures.keys ∙ stands.keys) allowed))

pub returns-clause-capacity : goal.returns-clause-capacity
returns-clause-capacity c = λ region stands can. (
    record_after can
    (λ e. let few = empty_is_few e stands.least (ap length (c.as_slice.ensures.keys ∙ stands.keys)) in omega (arith, few, c.if-as_slice-stored.false))
    (λ allowed. let more = put_roomy region c.clear.new.self c.put_stored.new.out c.put_stored.result c.put_stored.ensures c.clear.ensures.len
    (omega (arith, c.clear.ensures.capacity, c.requires)) stands.secrets (c.as_slice-2.ensures.keys ∙ stands.keys) allowed in omega (arith, more, c.clear.ensures.capacity)))
