use Rattle.std.proofs.Common.{◌∷◌, ◌++◌}
use Rattle.std.specs.Prelude.{codes}
use Rattle.std.specs.Fmt.{decimal}
use Rattle.std.proofs.lemmas.Result.{err_from_is_err_and}
use Rattle.mb_model.specs.chains.Lines.{hex_word}
use Rattle.mb_model.specs.chains.Replies.{standing_word}
use Rattle.mb_bytes.proofs.Putting.{puts_stop, puts_stop_later}
use Rattle.mb_script.proofs.Written.{puts_after}
use Rattle.mb_script.proofs.replies.put_status.Goals as goal

pub returns-in_err-put_hex_word : goal.returns-in_err-put_hex_word
returns-in_err-put_hex_word c =
    let p = err_from_is_err_and c.from_residual-in_err-put_hex_word.result c.from_residual-in_err-put_hex_word.ensures.1 in
    let layers = 32 ∷ (standing_word c.args.layers.0 ++ 32 ∷ (standing_word c.args.layers.1 ++ 32 ∷ standing_word c.args.layers.2)) in
    rw p.1 (puts_stop_later c.in_ok-put_slice.ensures.puts (puts_stop ((32 ∷ decimal c.args.numbers.0) ++ ((32 ∷ decimal c.args.numbers.1) ++ layers)) c.in_err-put_hex_word.ensures))

pub returns-in_err-put_number_word : goal.returns-in_err-put_number_word
returns-in_err-put_number_word c =
    let p = err_from_is_err_and c.from_residual-in_err-put_number_word.result c.from_residual-in_err-put_number_word.ensures.1 in
    let layers = 32 ∷ (standing_word c.args.layers.0 ++ 32 ∷ (standing_word c.args.layers.1 ++ 32 ∷ standing_word c.args.layers.2)) in
    rw p.1 (puts_stop_later c.in_ok-put_slice.ensures.puts (puts_stop_later c.in_ok-put_hex_word.ensures (puts_stop ((32 ∷ decimal c.args.numbers.1) ++ layers) c.in_err-put_number_word.ensures)))

pub returns-in_err-put_number_word-2 : goal.returns-in_err-put_number_word-2
returns-in_err-put_number_word-2 c =
    let p = err_from_is_err_and c.from_residual-in_err-put_number_word-2.result c.from_residual-in_err-put_number_word-2.ensures.1 in
    let layers = 32 ∷ (standing_word c.args.layers.0 ++ 32 ∷ (standing_word c.args.layers.1 ++ 32 ∷ standing_word c.args.layers.2)) in
    rw p.1 (puts_stop_later c.in_ok-put_slice.ensures.puts (puts_stop_later c.in_ok-put_hex_word.ensures (puts_stop_later c.in_ok-put_number_word.ensures (puts_stop layers c.in_err-put_number_word-2.ensures))))

pub returns : goal.returns
returns c =
    let serial = 32 ∷ hex_word c.args.serial.now in
    let number = 32 ∷ decimal c.args.numbers.0 in
    let log = 32 ∷ decimal c.args.numbers.1 in
    let layers = 32 ∷ (standing_word c.args.layers.0 ++ 32 ∷ (standing_word c.args.layers.1 ++ 32 ∷ standing_word c.args.layers.2)) in
    let new = c.put_layers.new.out in
    let result = c.put_layers.result in
    puts_after (codes "status") (serial ++ (number ++ (log ++ layers))) c.args.out.now c.put_slice.new.out new result c.in_ok-put_slice.ensures.puts
    (puts_after serial (number ++ (log ++ layers)) c.put_slice.new.out c.put_hex_word.new.out new result c.in_ok-put_hex_word.ensures
    (puts_after number (log ++ layers) c.put_hex_word.new.out c.put_number_word.new.out new result c.in_ok-put_number_word.ensures
    (puts_after log layers c.put_number_word.new.out c.put_number_word-2.new.out new result c.in_ok-put_number_word-2.ensures c.put_layers.ensures)))
