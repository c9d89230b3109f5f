use Rattle.std.proofs.Common.{rules, ◌≡◌, length, ℕ, List, ◌++◌, take, arith, ap, ◌∙◌}
use Rattle.mb_bytes.proofs.InPlace.{joined, whole}
use Rattle.mb_hss.specs.MakerFormat.{maker_word}
use Rattle.mb_hss.proofs.MakerFormatLemmas.{maker_spells, one_byte}
use Rattle.mb_hss.proofs.maker_file.write_maker.Goals as goal

pub returns : goal.returns
returns c =
    let levels : List ℕ = c.to_be_bytes.result in
    let seed : List ℕ = c.args.maker.now.seed in
    let next : List ℕ = c.to_be_bytes-2.result in
    let levels_long : length levels ≡ 1 = ap length c.to_be_bytes.ensures in
    let seed_long : length seed ≡ 32 = search rules in
    let next_long : length next ≡ 8 = ap length c.to_be_bytes-2.ensures in
    let one : take 4 c.put_at.new.out ≡ maker_word = c.put_at.ensures.written in
    let two : take 5 c.put_at-2.new.out ≡ maker_word ++ levels = joined c.put_at.new.out c.put_at-2.new.out maker_word levels 4 5 c.put_at-2.ensures.written (omega (arith, levels_long)) one in
    let three : take 37 c.put_at-3.new.out ≡ maker_word ++ levels ++ seed = joined c.put_at-2.new.out c.put_at-3.new.out (maker_word ++ levels) seed 5 37 c.put_at-3.ensures.written (omega (arith, seed_long)) two in
    let four : take 45 c.put_at-4.new.out ≡ maker_word ++ levels ++ seed ++ next = joined c.put_at-3.new.out c.put_at-4.new.out (maker_word ++ levels ++ seed) next 37 45 c.put_at-4.ensures.written (omega (arith, next_long)) three in
    let long : length c.put_at-4.new.out ≡ 45 = search rules in
    maker_spells c.put_at-4.new.out levels next c.args.maker.now c.requires seed_long (c.to_be_bytes.ensures ∙ one_byte c.args.maker.now.levels c.requires.most) c.to_be_bytes-2.ensures
    (whole c.put_at-4.new.out _ 45 (omega (arith, long)) four)
