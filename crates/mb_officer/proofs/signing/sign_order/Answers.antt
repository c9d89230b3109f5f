use Rattle.std.proofs.Common.{◌∷◌, ap, ◌∙◌}
use Rattle.mb_model.specs.signatures.Signing.{signature_of}
use Rattle.mb_officer.proofs.Signatures.{signed_is, signed_allowed}
use Rattle.mb_officer.proofs.signing.sign_order.Goals as goal

pub returns-clause-signed : goal.returns-clause-signed
returns-clause-signed g c =
    let took = c.in-Some.ensures.some in
    let key = c.args.k.now in
    let at_next = ap (λ n. signature_of key.seed n (1 ∷ c.as_slice.result.now)) took.0 in
    (took.0, ap (λ n. record key { next = n }) took.2, signed_is key c.args.order.now c.signature_at.result c.as_slice.result.now (c.signature_at.ensures.signature ∙ at_next) (c.as_slice.ensures ∙ c.in_ok-body.ensures))

pub returns-clause-spelled : goal.returns-clause-spelled
returns-clause-spelled g c = signed_allowed c.args.order.now c.signature_at.result c.requires.spelled c.signature_at.ensures.length
