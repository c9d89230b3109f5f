use Rattle.std.proofs.Common.{◌∙◌, sym, ap, arith}
use Rattle.mb_format.specs.Format.{IsBytes}
use Rattle.mb_model.specs.declared.stored.Header.{Header}
use Rattle.mb_model_lemmas.proofs.OneFlash.{one_header_begun}
use Rattle.mb_segments.specs.Uncopied.{header_of}
use Rattle.mb_area.proofs.Published.{slot_one, slot_two, slot_three}
use Rattle.mb_area.proofs.public.slot_at.Goals as goal

pub unreachable-requires : goal.unreachable-requires
unreachable-requires c = c.in_default.ensures c.requires.header.header c.requires.header.begins

pub returns-in-1 : goal.returns-in-1
returns-in-1 c = λ header begins. (
    let are : IsBytes c.args.sector.now = λ i. omega (arith, c.type_inv.sector i) in
    ap (λ (h : Header). h.one) (one_header_begun c.args.sector.now (header_of c.in-Some.header) header are c.in-Some.ensures begins) ∙ sym (slot_one header c.args.layer c.in-1.is))

pub returns-in-2 : goal.returns-in-2
returns-in-2 c = λ header begins. (
    let are : IsBytes c.args.sector.now = λ i. omega (arith, c.type_inv.sector i) in
    ap (λ (h : Header). h.two) (one_header_begun c.args.sector.now (header_of c.in-Some.header) header are c.in-Some.ensures begins) ∙ sym (slot_two header c.args.layer c.in-2.is))

pub returns-in_default-layer : goal.returns-in_default-layer
returns-in_default-layer c = λ header begins. (
    let are : IsBytes c.args.sector.now = λ i. omega (arith, c.type_inv.sector i) in
    ap (λ (h : Header). h.three) (one_header_begun c.args.sector.now (header_of c.in-Some.header) header are c.in-Some.ensures begins) ∙ sym (slot_three header c.args.layer (λ e. omega (arith, e)) (λ e. omega (arith, e))))
