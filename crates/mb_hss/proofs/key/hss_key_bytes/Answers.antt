use Rattle.std.proofs.Common.{rules, ◌≡◌, length, ℕ, List, ◌++◌, ◌+◌, take, arith, ap, ◌∙◌, sym}
use Rattle.std.specs.Int.{w32, to_be_bytes}
use Rattle.mb_bytes.proofs.InPlace.{joined, whole}
use Rattle.mb_hss.proofs.HssKeyLemmas.{key_spelling}
use Rattle.mb_hss.proofs.key.hss_key_bytes.Goals as goal

pub returns : goal.returns
returns c =
    let count : List ℕ = c.to_be_bytes.result in
    let top : List ℕ = c.key_bytes.result in
    let count_long : length count ≡ 4 = ap length c.to_be_bytes.ensures in
    let size : 0 + length count ≡ 4 = omega (arith, count_long) in
    let top_long : length top ≡ 56 = search rules in
    let first : take 4 c.put_at.new.out ≡ count = ap (λ (n : ℕ). take n c.put_at.new.out) (sym size) ∙ c.put_at.ensures.written in
    let both : take 60 c.put_at-2.new.out ≡ count ++ top = joined c.put_at.new.out c.put_at-2.new.out count top 4 60 c.put_at-2.ensures.written (omega (arith, top_long)) first in
    let long : length c.put_at-2.new.out ≡ 60 = search rules in
    key_spelling c.put_at-2.new.out count top c.args.key.now (c.to_be_bytes.ensures ∙ ap (to_be_bytes w32) c.from.ensures) c.key_bytes.ensures
    (whole c.put_at-2.new.out _ 60 (omega (arith, long)) both)
