use Rattle.std.proofs.Common.{length-append, ◌∷◌, [], arith}
use Rattle.std.proofs.lemmas.Result.{err_from_is_err_and}
use Rattle.std.specs.Prelude.{Some}
use Rattle.std.specs.Int.{w8}
use Rattle.mb_format.specs.Combinators.{between}
use Rattle.mb_model.specs.records.RootFormat.{region_key_format}
use Rattle.mb_model.specs.records.RegionFormat.{keys_format}
use Rattle.mb_bytes.proofs.Reading.{led_ok, reading_goes_on, reading_ends, list_fails_at}
use Rattle.mb_layout_edits.proofs.row.key_row_at.Goals as goal

pub returns : goal.returns
unfolding keys_format
returns c = led_ok c.in_ok-count.ensures.reads (reading_ends c.loop-i-test.false c.loop-i.invariant.0)

pub returns-in_err-region_key_at : goal.returns-in_err-region_key_at
unfolding keys_format
returns-in_err-region_key_at c =
    let p = err_from_is_err_and c.from_residual-in_err-region_key_at.result c.from_residual-in_err-region_key_at.ensures.1 in
    let at = c.in_err-region_key_at.field-0.0.at in
    rw (p.1, p.2) (list_fails_at (between w8 c.args.least 8) (λ (u : Unit {0}). region_key_format) (λ u a. u) (λ n. tt) c.region_key_at.new.cursor (Some at) c.in_ok-count.ensures.reads c.loop-i-test.true c.loop-i.invariant.0 c.in_err-region_key_at.ensures)

pub push-requires : goal.push-requires
push-requires c = omega (arith, c.loop-i.invariant.1, c.loop-i-test.true, c.in_ok-count.ensures.bounds)

pub loop-i-preserved : goal.loop-i-preserved
loop-i-preserved c =
    let more = length-append c.loop-i.keys (c.in_ok-region_key_at.field-0 ∷ []) in
    rw c.push.ensures (reading_goes_on c.in_ok-region_key_at.field-0 c.loop-i-test.true c.loop-i.invariant.0 c.in_ok-region_key_at.ensures, omega (arith, more, c.loop-i.invariant.1))
