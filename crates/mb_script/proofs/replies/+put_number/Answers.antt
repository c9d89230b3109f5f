use Rattle.std.proofs.Common.{ℕ, ◌+◌, ◌/◌, ◌%◌, [], ◌∷◌, sym, subst, refl, arith}
use Rattle.std.specs.Global.{Vec}
use Rattle.std.specs.Fmt.{decimal}
use Rattle.mb_bytes.specs.Puts.{Appends, Puts}
use Rattle.std.proofs.lemmas.Result.{err_from_is_err_and}
use Rattle.mb_script.proofs.Written.{number_stops, number_ends, one_digit_put}
use Rattle.mb_script.proofs.replies.+put_number.Goals as goal
use Rattle.mb_script.proofs.replies.+put_number.Goals.{then-number-ge10+in_ok-put_number, else-number-ge10}

pub returns-in_err-put_number : goal.returns-in_err-put_number
returns-in_err-put_number t c =
    let p = err_from_is_err_and c.from_residual.result c.from_residual.ensures.1 in
    rw p.1 (number_stops c.args.number c.args.out.now c.put_number.new.out c.if-number-ge10.true (omega arith) c.in_err-put_number.ensures)

pub returns : goal.returns
returns t c =
    elim c.if-number-ge10.branch [
      | then-number-ge10+in_ok-put_number w ↦
          let front = subst (λ (x : Vec ℕ). Appends (decimal (c.args.number / 10)) c.args.out.now x) (sym w.out-is) w.in_ok-put_number.ensures in
          number_ends c.args.number _ c.args.out.now c.if-number-ge10.out c.put_slice.new.out c.put_slice.result w.if-number-ge10.true (omega arith) refl front c.put_slice.ensures.puts
      | else-number-ge10 w ↦
          let last = subst (λ (x : Vec ℕ). Puts ((48 + c.args.number % 10) ∷ []) x c.put_slice.result c.put_slice.new.out) w.out-is c.put_slice.ensures.puts in
          one_digit_put c.args.number _ c.args.out.now c.put_slice.new.out c.put_slice.result w.if-number-ge10.false refl last
    ]
