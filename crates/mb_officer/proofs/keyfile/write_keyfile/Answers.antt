use Rattle.std.proofs.Common.{rules, ◌≡◌, length, ℕ, List, ◌++◌, take, arith, ap, ◌∙◌}
use Rattle.std.specs.Int.{w32, to_be_bytes}
use Rattle.mb_model.specs.records.KeyFormat.{keyfile_word, key_seed_format, keyfile_format}
use Rattle.mb_format.specs.Combinators.{number_bytes}
use Rattle.mb_bytes.proofs.InPlace.{joined, whole}
use Rattle.mb_officer.proofs.keyfile.write_keyfile.Goals as goal

pub returns : goal.returns
unfolding keyfile_format key_seed_format number_bytes
returns c =
    let id : List ℕ = c.args.k.now.seed.identifier in
    let seed : List ℕ = c.args.k.now.seed.seed in
    let next : List ℕ = c.to_be_bytes.result in
    let id_long : length id ≡ 16 = search rules in
    let seed_long : length seed ≡ 32 = search rules in
    let next_long : length next ≡ 4 = ap length c.to_be_bytes.ensures in
    let one : take 4 c.put_at.new.out ≡ keyfile_word = c.put_at.ensures.written in
    let two : take 20 c.put_at-2.new.out ≡ keyfile_word ++ id = joined c.put_at.new.out c.put_at-2.new.out keyfile_word id 4 20 c.put_at-2.ensures.written (omega (arith, id_long)) one in
    let three : take 52 c.put_at-3.new.out ≡ keyfile_word ++ id ++ seed = joined c.put_at-2.new.out c.put_at-3.new.out (keyfile_word ++ id) seed 20 52 c.put_at-3.ensures.written (omega (arith, seed_long)) two in
    let four : take 56 c.put_at-4.new.out ≡ keyfile_word ++ id ++ seed ++ next = joined c.put_at-3.new.out c.put_at-4.new.out (keyfile_word ++ id ++ seed) next 52 56 c.put_at-4.ensures.written (omega (arith, next_long)) three in
    let long : length c.put_at-4.new.out ≡ 56 = search rules in
    whole c.put_at-4.new.out _ 56 (omega (arith, long)) four ∙ ap (λ (n : List ℕ). keyfile_word ++ id ++ seed ++ n) (c.to_be_bytes.ensures ∙ ap (to_be_bytes w32) c.number.ensures.number)
