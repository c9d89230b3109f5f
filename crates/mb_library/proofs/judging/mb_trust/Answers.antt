use Rattle.std.proofs.Common.{refl, inl, inr, arith}
use Rattle.mb_library.specs.Signatures.{SpellsKey}
use Rattle.mb_library.specs.Judging.{AreShort, trust_by_policy_text, trust_by_no_policy, trust_unread, trust_too_long}
use Rattle.mb_library.proofs.judging.mb_trust.Goals.{then-chain-gt-FILE_LIMIT-via-then-chain-gt-FILE_LIMIT, then-chain-gt-FILE_LIMIT-via-else-chain-gt-FILE_LIMIT+then-policy-gt-FILE_LIMIT}
use Rattle.mb_library.proofs.judging.mb_trust.Goals as goal

pub returns-then-chain-gt-FILE_LIMIT : goal.returns-then-chain-gt-FILE_LIMIT
returns-then-chain-gt-FILE_LIMIT c =
    let spells : SpellsKey c.args.maker.now c.in-Some.maker = record { sized = c.in-Some.ensures.0; spelled = c.in-Some.ensures.1 } in
    trust_too_long _ spells (elim c.then-chain-gt-FILE_LIMIT.branch [
      | then-chain-gt-FILE_LIMIT-via-then-chain-gt-FILE_LIMIT w ↦ inl w.if-chain-gt-FILE_LIMIT.true
      | then-chain-gt-FILE_LIMIT-via-else-chain-gt-FILE_LIMIT+then-policy-gt-FILE_LIMIT w ↦ inr w.if-policy-gt-FILE_LIMIT.true
    ]) refl c.none.ensures

pub returns-in-Ok : goal.returns-in-Ok
returns-in-Ok c =
    let spells : SpellsKey c.args.maker.now c.in-Some.maker = record { sized = c.in-Some.ensures.0; spelled = c.in-Some.ensures.1 } in
    let short : AreShort c.args.chain.now c.args.policy.now = record { short_chain = omega (arith, c.if-chain-gt-FILE_LIMIT.false); short_policy = omega (arith, c.if-policy-gt-FILE_LIMIT.false) } in
    trust_by_policy_text _ _ spells short c.in-Ok.ensures c.trust_chain.ensures

pub returns-in-Err-BadLine : goal.returns-in-Err-BadLine
returns-in-Err-BadLine c =
    let spells : SpellsKey c.args.maker.now c.in-Some.maker = record { sized = c.in-Some.ensures.0; spelled = c.in-Some.ensures.1 } in
    let short : AreShort c.args.chain.now c.args.policy.now = record { short_chain = omega (arith, c.if-chain-gt-FILE_LIMIT.false); short_policy = omega (arith, c.if-policy-gt-FILE_LIMIT.false) } in
    trust_by_no_policy _ _ spells short (rw c.in-Err-BadLine.field-0-is at c.in-Err-BadLine.ensures) refl (rw c.in-Err-BadLine.line-is at c.of_line.ensures)

pub returns-in-Err-NoMemory : goal.returns-in-Err-NoMemory
returns-in-Err-NoMemory c =
    let spells : SpellsKey c.args.maker.now c.in-Some.maker = record { sized = c.in-Some.ensures.0; spelled = c.in-Some.ensures.1 } in
    let short : AreShort c.args.chain.now c.args.policy.now = record { short_chain = omega (arith, c.if-chain-gt-FILE_LIMIT.false); short_policy = omega (arith, c.if-policy-gt-FILE_LIMIT.false) } in
    trust_unread _ spells short refl c.none.ensures
