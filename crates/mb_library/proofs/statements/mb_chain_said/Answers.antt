use Rattle.std.proofs.Common.{refl, arith}
use Rattle.mb_library.specs.Signatures.{SpellsKey}
use Rattle.mb_library.specs.Stated.{said_read, said_too_long}
use Rattle.mb_library.proofs.statements.mb_chain_said.Goals as goal

pub returns-then-chain-gt-FILE_LIMIT : goal.returns-then-chain-gt-FILE_LIMIT
returns-then-chain-gt-FILE_LIMIT c =
    let spells : SpellsKey c.args.maker.now c.in-Some.maker = record { sized = c.in-Some.ensures.0; spelled = c.in-Some.ensures.1 } in
    said_too_long _ spells c.if-chain-gt-FILE_LIMIT.true refl c.none-2.ensures c.none.ensures

pub returns : goal.returns
returns c =
    let spells : SpellsKey c.args.maker.now c.in-Some.maker = record { sized = c.in-Some.ensures.0; spelled = c.in-Some.ensures.1 } in
    said_read _ spells (omega (arith, c.if-chain-gt-FILE_LIMIT.false)) c.say_chain.ensures
