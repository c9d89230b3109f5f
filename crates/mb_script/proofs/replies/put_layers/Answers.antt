use Rattle.std.proofs.Common.{◌∷◌, ◌++◌}
use Rattle.std.proofs.lemmas.Result.{err_from_is_err_and}
use Rattle.mb_model.specs.chains.Replies.{standing_word}
use Rattle.mb_bytes.proofs.Putting.{puts_stop, puts_stop_later}
use Rattle.mb_script.proofs.Written.{puts_after}
use Rattle.mb_script.proofs.replies.put_layers.Goals as goal

pub returns-in_err-put_standing-2 : goal.returns-in_err-put_standing-2
returns-in_err-put_standing-2 c =
    let p = err_from_is_err_and c.from_residual-in_err-put_standing-2.result c.from_residual-in_err-put_standing-2.ensures.1 in
    rw p.1 (puts_stop_later c.in_ok-put_standing.ensures (puts_stop (32 ∷ standing_word c.args.layers.2) c.in_err-put_standing-2.ensures))

pub returns : goal.returns
returns c =
    let one = 32 ∷ standing_word c.args.layers.0 in
    let two = 32 ∷ standing_word c.args.layers.1 in
    let three = 32 ∷ standing_word c.args.layers.2 in
    puts_after one (two ++ three) c.args.out.now c.put_standing.new.out c.put_standing-3.new.out c.put_standing-3.result c.in_ok-put_standing.ensures
    (puts_after two three c.put_standing.new.out c.put_standing-2.new.out c.put_standing-3.new.out c.put_standing-3.result c.in_ok-put_standing-2.ensures c.put_standing-3.ensures)
