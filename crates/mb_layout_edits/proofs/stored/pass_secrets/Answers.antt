use Rattle.std.proofs.Common.{arith}
use Rattle.std.proofs.lemmas.Result.{err_from_is_err_and}
use Rattle.std.specs.Prelude.{Some}
use Rattle.std.specs.Int.{w8}
use Rattle.mb_format.specs.Combinators.{between}
use Rattle.mb_model.specs.records.RegionFormat.{secret_format, secrets_format}
use Rattle.mb_bytes.proofs.Reading.{led_ok, reading_ends, list_fails_at}
use Rattle.mb_layout.specs.Uncopied.{secret_in}
use Rattle.mb_layout_edits.proofs.Walking.{passing_begins, passing_goes_on}
use Rattle.mb_layout_edits.proofs.stored.pass_secrets.Goals as goal

pub loop-i-init : goal.loop-i-init
loop-i-init c = passing_begins _ _ _

pub returns : goal.returns
unfolding secrets_format
returns c = record {
  items = c.loop-i.invariant.front;
  number = omega (arith, c.loop-i.invariant.number, c.loop-i-test.false, c.loop-i.auto._i-end);
  reads = led_ok c.in_ok-count.ensures.reads (reading_ends c.loop-i-test.false c.loop-i.invariant.reading);
}

pub returns-in_err-stored_secret_at : goal.returns-in_err-stored_secret_at
unfolding secrets_format
returns-in_err-stored_secret_at c =
    let p = err_from_is_err_and c.from_residual-in_err-stored_secret_at.result c.from_residual-in_err-stored_secret_at.ensures.1 in
    let at = c.in_err-stored_secret_at.field-0.0.at in
    rw (p.1, p.2) (list_fails_at (between w8 0 c.args.most) (λ (u : Unit {0}). secret_format) (λ u a. u) (λ n. tt) c.stored_secret_at.new.cursor (Some at) c.in_ok-count.ensures.reads c.loop-i-test.true c.loop-i.invariant.reading c.in_err-stored_secret_at.ensures)

pub loop-i-preserved : goal.loop-i-preserved
loop-i-preserved c = passing_goes_on (secret_in c.in_ok-stored_secret_at.field-0) c.loop-i-test.true c.loop-i.invariant c.in_ok-stored_secret_at.ensures
