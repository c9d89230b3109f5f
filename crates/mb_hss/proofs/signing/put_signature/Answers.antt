use Rattle.std.proofs.Common.{rules, ◌≡◌, ◌+◌, ◌<◌, ◌∙◌, ◌++◌, length, ap, arith}
use Rattle.std.specs.Int.{w32, to_be_bytes}
use Rattle.mb_hss.proofs.MakerLemmas.{length-front, front_begins, front_goes_on, front_ends}
use Rattle.mb_hss.proofs.signing.put_signature.Goals as goal

pub loop-above-init : goal.loop-above-init
loop-above-init g c = record {
  written =
      front_begins c.args.maker.now c.args.number (c.args.head.now ++ c.args.body.now) c.to_be_bytes.result
      (c.to_be_bytes.ensures ∙ ap (to_be_bytes w32) c.from.ensures) c.append.ensures;
  level = record { seed_is = c.at-level.ensures.seed; index_is = c.at-level.ensures.index };
  cost = omega (arith, c.at-level.ensures.counted);
}

pub append-requires-in-loop-above : goal.append-requires-in-loop-above
append-requires-in-loop-above g c =
    let long : length c.sign.result ≡ 2348 = search rules in
    omega (
      arith,
      long,
      c.requires.room,
      c.loop-above-test.true,
      c.loop-above.invariant.written.len,
      c.loop-above.invariant.written.capacity,
      length-front c.args.maker.now c.args.number (c.args.head.now ++ c.args.body.now) c.loop-above.above,
    )

pub append-requires-in-loop-above-2 : goal.append-requires-in-loop-above-2
append-requires-in-loop-above-2 g c =
    let long : length c.sign.result ≡ 2348 = search rules in
    let key_long : length c.public_bytes-key.result ≡ 56 = search rules in
    omega (
      arith,
      long,
      key_long,
      c.requires.room,
      c.loop-above-test.true,
      c.loop-above.invariant.written.len,
      c.loop-above.invariant.written.capacity,
      c.append-in-loop-above.ensures.len,
      c.append-in-loop-above.ensures.capacity,
      length-front c.args.maker.now c.args.number (c.args.head.now ++ c.args.body.now) c.loop-above.above,
    )

pub loop-above-preserved : goal.loop-above-preserved
loop-above-preserved g c =
    let within : c.loop-above.above + 1 < c.args.maker.now.levels = omega (arith, c.loop-above-test.true) in
    record {
      written =
          front_goes_on c.args.maker.now c.args.number (c.args.head.now ++ c.args.body.now) c.sign.result c.public_bytes-key.result c.loop-above.above
          c.loop-above.level.seed c.at-below.result.seed c.loop-above.level.index within c.loop-above.invariant.level c.at-below.ensures.seed
          c.public_bytes-key.ensures c.sign.ensures.signature c.loop-above.invariant.written c.append-in-loop-above.ensures
          c.append-in-loop-above-2.ensures;
      level = record { seed_is = c.at-below.ensures.seed; index_is = c.at-below.ensures.index };
      cost = omega (arith, c.at-below.ensures.counted, c.sign.ensures.cost, c.loop-above.invariant.cost);
    }

pub append-requires-2 : goal.append-requires-2
append-requires-2 g c =
    let long : length c.sign-2.result ≡ 2348 = search rules in
    omega (
      arith,
      long,
      c.requires.maker.least,
      c.requires.room,
      c.loop-above-test.false,
      c.loop-above.auto.above-end,
      c.loop-above.invariant.written.len,
      c.loop-above.invariant.written.capacity,
      length-front c.args.maker.now c.args.number (c.args.head.now ++ c.args.body.now) c.loop-above.above,
    )

pub returns-clause-signature : goal.returns-clause-signature
returns-clause-signature g c =
    let last : c.loop-above.above + 1 ≡ c.args.maker.now.levels = omega (arith, c.requires.maker.least, c.loop-above-test.false, c.loop-above.auto.above-end) in
    front_ends c.args.maker.now c.args.number (c.args.head.now ++ c.args.body.now) c.sign-2.result c.loop-above.above c.loop-above.level.seed
    c.loop-above.level.index last c.loop-above.invariant.level c.sign-2.ensures.signature c.loop-above.invariant.written c.append-2.ensures
