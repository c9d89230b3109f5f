use Rattle.mb_library.specs.Signatures.{SpellsKey}
use Rattle.mb_library.proofs.KeyBytes.{under_key, by_bytes}
use Rattle.mb_library.proofs.signatures.mb_lms_verify.Goals as goal

pub returns-in-Some : goal.returns-in-Some
returns-in-Some c =
    let spells : SpellsKey c.args.key.now c.in-Some.key = record { sized = c.in-Some.ensures.0; spelled = c.in-Some.ensures.1 } in (
      (λ yes. by_bytes _ _ _ _ spells (c.verify.ensures.0 yes)),
      (λ signed. c.verify.ensures.1 (under_key _ _ _ _ spells signed)),
    )
