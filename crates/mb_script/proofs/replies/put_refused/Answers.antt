use Rattle.std.proofs.Common.{ℕ, [], ◌∷◌, subst}
use Rattle.std.specs.Fmt.{decimal}
use Rattle.mb_bytes.specs.Puts.{StopsShort}
use Rattle.std.specs.Prelude.{unwrap_or}
use Rattle.std.proofs.lemmas.Result.{err_from_is_err_and}
use Rattle.mb_model.specs.machine.Refusals.{refusal_words}
use Rattle.mb_bytes.proofs.Putting.{puts_stop, puts_stop_later}
use Rattle.mb_script.proofs.replies.put_refused.Goals as goal

pub returns-in_err-put_number_word : goal.returns-in_err-put_number_word
returns-in_err-put_number_word c =
    let p = err_from_is_err_and c.from_residual-in_err-put_number_word.result c.from_residual-in_err-put_number_word.ensures.1 in
    let stops = subst (λ (n : ℕ). StopsShort (32 ∷ decimal n) c.put_slice.new.out c.put_number_word.new.out) c.from.ensures c.in_err-put_number_word.ensures in
    rw p.1 (puts_stop_later c.in_ok-put_slice.ensures.puts (puts_stop (32 ∷ unwrap_or (refusal_words c.args.number) []) stops))
