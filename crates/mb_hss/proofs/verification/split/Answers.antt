use Rattle.std.proofs.Common.{◌≡◌, length, take, sym, ap, ◌∙◌, arith}
use Rattle.mb_hss.proofs.VerificationLemmas.{parts_long, key_after_own, joined_parts}
use Rattle.mb_hss.proofs.verification.split.Goals as goal

pub returns-in_err-own : goal.returns-in_err-own
returns-in_err-own c = rw c.from_residual.ensures (λ own rest next are.
    omega (arith, c.in_err-own.ensures.cases, parts_long own rest c.args.sig.now next are.sized are.parts, are.long, c.signature_length.ensures))

pub returns-in_err-bytes : goal.returns-in_err-bytes
returns-in_err-bytes c = rw c.from_residual-in_err-bytes.ensures (λ own rest next are.
    omega (
      arith,
      c.in_ok-own.ensures.cases.4,
      c.in_err-bytes.ensures.cases,
      parts_long own rest c.args.sig.now next are.sized are.parts,
      are.long,
      c.signature_length.ensures,
    ))

pub returns-in_err-next : goal.returns-in_err-next
returns-in_err-next c = rw c.from_residual-in_err-next.ensures (λ own rest next are.
    let size : length own ≡ c.signature_length.result = are.long ∙ sym c.signature_length.ensures in
    c.in_err-next.ensures next are.sized
    (sym (key_after_own own rest c.args.sig.now next c.signature_length.result size are.sized are.parts) ∙ ap (take 56) (sym c.in_ok-own.ensures.cases.2)
    ∙ sym c.in_ok-bytes.ensures.cases.0))

pub returns : goal.returns
returns c =
    let own = c.in_ok-own.ensures.cases in
    let bytes = c.in_ok-bytes.ensures.cases in
    record {
      long = own.3 ∙ c.signature_length.ensures;
      sized = c.in_ok-next.ensures.0;
      parts = joined_parts c.args.sig.now c.in_ok-own.own.now c.in_ok-own.after.now c.in_ok-bytes.bytes.now c.in_ok-bytes.rest.now c.in_ok-next.next
          c.signature_length.result own.1 own.2 bytes.0 bytes.1 c.in_ok-next.ensures.1;
    }
