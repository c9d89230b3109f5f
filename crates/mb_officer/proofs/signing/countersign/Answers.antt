use Rattle.std.proofs.Common.{List, [], ◌∷◌, length, sym, ap, subst, ◌∙◌, arith, length-append}
use Rattle.mb_model.specs.declared.order.Countersignature.{Countersignature}
use Rattle.mb_model.specs.records.OrderFormat.{order_format}
use Rattle.mb_model.specs.signatures.Signing.{signature_of}
use Rattle.mb_officer.proofs.Signatures.{countersigned_is, countersigned_allowed, at_most_one}
use Rattle.mb_officer.proofs.signing.countersign.Goals as goal

pub put_in_place-requires-clause-most : goal.put_in_place-requires-clause-most
put_in_place-requires-clause-most g c =
    let can = c.is_countersignable.ensures.0 c.if-not-is_countersignable.false in
    let few = at_most_one c.args.order.now c.args.layer c.requires.spelled c.requires.layer can in
    omega (arith, few, ap length c.in_ok-push.ensures.ok ∙ length-append c.args.order.now.countersignatures (_ ∷ []))

pub returns-clause-signed : goal.returns-clause-signed
returns-clause-signed g c =
    let can = c.is_countersignable.ensures.0 c.if-not-is_countersignable.false in
    let placed = c.put_in_place.ensures c.args.order.now.countersignatures _ c.in_ok-push.ensures.ok can.new in
    let took = c.in-Some.ensures.some in
    let key = c.args.k.now in
    let at_next = ap (λ n. signature_of key.seed n (2 ∷ c.args.layer ∷ c.as_slice.result.now)) took.0 in (
      took.0,
      ap (λ n. record key { next = n }) took.2,
      ap (λ (list : List Countersignature). record c.args.order.now { countersignatures = list }) placed
          ∙ countersigned_is key c.args.layer c.args.order.now c.signature_at-signature.result c.as_slice.result.now
          (c.signature_at-signature.ensures.signature ∙ at_next) (c.as_slice.ensures ∙ c.in_ok-body.ensures),
    )

pub returns-clause-spelled : goal.returns-clause-spelled
returns-clause-spelled g c =
    let can = c.is_countersignable.ensures.0 c.if-not-is_countersignable.false in
    let placed = c.put_in_place.ensures c.args.order.now.countersignatures _ c.in_ok-push.ensures.ok can.new in
    subst (λ (list : List Countersignature). order_format.Allowed (record c.args.order.now { countersignatures = list })) (sym placed)
    (countersigned_allowed c.args.order.now c.args.layer c.signature_at-signature.result c.requires.spelled c.requires.layer can c.signature_at-signature.ensures.length)
