use Rattle.std.proofs.Common.{rules, ap, ◌∙◌, ◌++◌}
use Rattle.std.specs.Int.{w32, to_be_bytes}
use Rattle.mb_signer.proofs.Signed.{signed_by}
use Rattle.mb_signer.proofs.signing.sign_kept.Goals as goal

pub returns-clause-signature : goal.returns-clause-signature
returns-clause-signature g c =
    signed_by c.args.seed.now c.args.right c.spent-q.result (c.args.head.now ++ c.args.body.now) c.to_be_bytes.result c.to_be_bytes-2.result
    c.randomizer_at-randomizer.result c.message_hash-hash.result c.digits_of.result c.to_be_bytes-3.result c.put_path.new.out c.spent-q.ensures.value
    c.to_be_bytes.ensures (c.to_be_bytes-2.ensures ∙ ap (to_be_bytes w32) c.chains_type.ensures)
    (c.to_be_bytes-3.ensures ∙ ap (to_be_bytes w32) c.tree_type.ensures) c.randomizer_at-randomizer.ensures.value c.message_hash-hash.ensures.value
    c.digits_of.ensures
    (record {
      old = c.args.out.now;
      one = c.put_at.new.out;
      two = c.put_at-2.new.out;
      three = c.put_at-3.new.out;
      four = c.put_values.new.out;
      five = c.put_at-4.new.out;
      first_put = c.put_at.ensures.written;
      first_long = search rules;
      second_put = c.put_at-2.ensures.written;
      second_long = search rules;
      third_put = c.put_at-3.ensures.written;
      third_long = search rules;
      fourth_put = c.put_values.ensures.values;
      fifth_put = c.put_at-4.ensures.written;
      fifth_long = search rules;
      last_put = c.put_path.ensures c.args.seed.now c.requires;
    })
