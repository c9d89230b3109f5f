use Rattle.std.proofs.Common.{ℕ, List, sym, subst, ◌∙◌, refl, arith}
use Rattle.std.proofs.lemmas.Bool.{eqb-false}
use Rattle.std.proofs.lemmas.Result.{err_from_is_err_and}
use Rattle.mb_bytes.specs.Puts.{Appends, StopsShort}
use Rattle.mb_script.proofs.Written.{nothing_put, hex_goes_on, hex_stops}
use Rattle.mb_script.proofs.replies.put_hex.Goals as goal

pub loop-byte-init : goal.loop-byte-init
loop-byte-init c = record {
  some = omega (arith, eqb-false _ _ (sym c.is_empty.ensures ∙ c.if-is_empty.false));
  written = nothing_put c.args.out.now;
}

pub returns-in_err-put_slice : goal.returns-in_err-put_slice
returns-in_err-put_slice c =
    let p = err_from_is_err_and c.from_residual.result c.from_residual.ensures.1 in
    let digits = subst (λ (x : List ℕ). StopsShort x c.loop-byte.out c.put_slice-in-loop-byte.new.out) c.hex_digits.ensures c.in_err-put_slice.ensures.puts in
    rw p.1 (hex_stops c.args.bytes.now c.loop-byte.byte-index _ c.args.out.now c.loop-byte.out c.put_slice-in-loop-byte.new.out (omega arith) refl c.loop-byte.invariant.some c.loop-byte.invariant.written digits)

pub loop-byte-preserved : goal.loop-byte-preserved
loop-byte-preserved c =
    let digits = subst (λ (x : List ℕ). Appends x c.loop-byte.out c.put_slice-in-loop-byte.new.out) c.hex_digits.ensures c.in_ok-put_slice.ensures.puts in record {
      some = c.loop-byte.invariant.some;
      written = hex_goes_on c.args.bytes.now c.loop-byte.byte-index _ c.args.out.now c.loop-byte.out c.put_slice-in-loop-byte.new.out (omega arith) refl c.loop-byte.invariant.written digits;
    }
