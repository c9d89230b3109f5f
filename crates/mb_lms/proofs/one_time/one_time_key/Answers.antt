use Rattle.std.proofs.Common.{◌≡◌, ◌-◌, ◌^◌, List, ℕ, subst}
use Rattle.sha2.specs.Hashers.{Holds256}
use Rattle.mb_model.specs.signatures.Key.{digit_bits}
use Rattle.mb_model.specs.signatures.Winternitz.{coef, value_after_steps, value_at}
use Rattle.mb_lms.proofs.Digits.{ends_begun, ends_grown}
use Rattle.mb_lms.proofs.one_time.one_time_key.Goals as goal

pub loop-i-init : goal.loop-i-init
loop-i-init c =
    let P : List ℕ → Type 0 = λ m. Holds256 c.begun-hasher.result m in
    subst P (ends_begun _ c.args.key.now.identifier c.args.q (digit_bits c.args.key.now.chains) c.args.digits.now c.args.values.now) c.begun-hasher.ensures

pub loop-i-preserved : goal.loop-i-preserved
loop-i-preserved c =
    let P : List ℕ → Type 0 = λ m. Holds256 c.update.new.self m in
    let key = c.args.key.now in
    let w = digit_bits key.chains in
    let end = c.chain_end.ensures key.identifier c.args.q c.loop-i.i c.chain_prefix-prefix.ensures in
    let whole : c.chain_end.result ≡ value_after_steps key.identifier c.args.q c.loop-i.i (coef c.args.digits.now c.loop-i.i w) (2 ^ w - 1) (value_at c.args.values.now c.loop-i.i) =
    cc (end, c.coef.ensures.value, c.greatest_digit-last.ensures, c.value_at-value.ensures, c.from.ensures) in
    subst P (ends_grown _ key.identifier c.args.q w c.args.digits.now c.args.values.now c.loop-i.i _ whole) (c.update.ensures _ c.loop-i.invariant)
