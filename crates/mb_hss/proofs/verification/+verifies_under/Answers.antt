use Rattle.std.proofs.Common.{◌≡◌, ℕ, List, ◌++◌, refl, subst, sym, true, false}
use Rattle.mb_model.specs.signatures.Key.{key_bytes}
use Rattle.mb_model.specs.signatures.Merkle.{Verifies}
use Rattle.mb_hss.specs.HssVerification.{VerifiesUnder}
use Rattle.mb_hss.proofs.VerificationLemmas.{under_last, under_none, under_apart, under_from, whole_text, never}
use Rattle.mb_hss.proofs.verification.+verifies_under.Goals as goal

pub returns-then-below-eq0 : goal.returns-then-below-eq0
returns-then-below-eq0 t c =
    under_last c.args.key.now c.args.below (c.args.head.now ++ c.args.body.now) c.args.sig.now c.verify.result c.if-below-eq0.true c.verify.ensures

pub returns-in_default : goal.returns-in_default
returns-in_default t c =
    never (VerifiesUnder c.args.key.now c.args.below (c.args.head.now ++ c.args.body.now) c.args.sig.now)
    (under_none c.args.key.now c.args.below (c.args.head.now ++ c.args.body.now) c.args.sig.now c.if-below-eq0.false c.in_default.ensures)

pub returns-then-signed : goal.returns-then-signed
returns-then-signed t c =
    let P : List ℕ → Type 0 = λ x. Verifies c.args.key.now x c.in-Some.parts.own.now in
    let text : List ℕ = c.args.head.now ++ c.args.body.now in
    let signed : P (key_bytes c.in-Some.parts.next) = subst P (whole_text c.key_bytes.result _ c.key_bytes.ensures) (c.if-signed.ensures.0 refl) in (
      λ is. under_from c.args.key.now c.in-Some.parts.next c.args.below text c.args.sig.now c.in-Some.parts.own.now c.in-Some.parts.rest.now
          c.if-below-eq0.false c.in-Some.ensures signed (c.verifies_under.ensures.0 is),
      λ under. let parts = under_apart c.args.key.now c.in-Some.parts.next c.args.below text c.args.sig.now c.in-Some.parts.own.now
          c.in-Some.parts.rest.now c.if-below-eq0.false c.in-Some.ensures under in
          c.verifies_under.ensures.1 parts.1,
    )

pub returns-else-signed : goal.returns-else-signed
returns-else-signed t c =
    let P : List ℕ → Type 0 = λ x. Verifies c.args.key.now x c.in-Some.parts.own.now in
    let text : List ℕ = c.args.head.now ++ c.args.body.now in
    rw c.if-signed.false
    (never (VerifiesUnder c.args.key.now c.args.below text c.args.sig.now)
    (λ under. let parts = under_apart c.args.key.now c.in-Some.parts.next c.args.below text c.args.sig.now c.in-Some.parts.own.now
    c.in-Some.parts.rest.now c.if-below-eq0.false c.in-Some.ensures under in
    let clash : false ≡ true = c.if-signed.ensures.1 (subst P (sym (whole_text c.key_bytes.result _ c.key_bytes.ensures)) parts.0) in
    cc))
