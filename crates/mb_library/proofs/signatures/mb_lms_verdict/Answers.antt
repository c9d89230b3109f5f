use Rattle.std.proofs.Common.{◌∙◌, refl, sym, true≢false}
use Rattle.mb_library.specs.Signatures.{SpellsKey, key_not_spelled, signature_refused}
use Rattle.mb_library.proofs.KeyBytes.{none_of_length, not_by_bytes}
use Rattle.mb_library.proofs.signatures.mb_lms_verdict.Goals as goal

pub returns-then-key-ne56 : goal.returns-then-key-ne56
returns-then-key-ne56 c = key_not_spelled refl (none_of_length _ c.if-key-ne56.true)

pub returns-else-verify : goal.returns-else-verify
returns-else-verify c =
    let spells : SpellsKey c.args.key.now c.in-Some.key = record { sized = c.in-Some.ensures.0; spelled = c.in-Some.ensures.1 ∙ c.copy_from_slice.ensures.after } in
    signature_refused refl (not_by_bytes _ _ _ _ spells (λ verifies. true≢false (sym (c.if-verify.ensures.1 verifies))))
