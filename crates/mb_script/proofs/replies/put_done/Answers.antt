use Rattle.std.proofs.Common.{◌∷◌, ◌++◌}
use Rattle.std.specs.Prelude.{codes}
use Rattle.std.specs.Fmt.{decimal}
use Rattle.mb_script.proofs.Written.{puts_after}
use Rattle.mb_script.proofs.replies.put_done.Goals as goal

pub returns : goal.returns
returns c =
    let last = 32 ∷ decimal c.args.length in
    puts_after (codes "done") ((32 ∷ decimal c.args.number) ++ last) c.args.out.now c.put_slice.new.out c.put_number_word-2.new.out c.put_number_word-2.result c.in_ok-put_slice.ensures.puts
    (puts_after (32 ∷ decimal c.args.number) last c.put_slice.new.out c.put_number_word.new.out c.put_number_word-2.new.out c.put_number_word-2.result c.in_ok-put_number_word.ensures c.put_number_word-2.ensures)
