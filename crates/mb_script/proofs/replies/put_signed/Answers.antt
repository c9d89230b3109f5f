use Rattle.std.proofs.Common.{◌∷◌, ◌++◌}
use Rattle.std.specs.Prelude.{codes}
use Rattle.std.specs.Fmt.{decimal}
use Rattle.mb_model.specs.chains.Lines.{hex_word}
use Rattle.mb_script.proofs.Written.{puts_after}
use Rattle.mb_script.proofs.replies.put_signed.Goals as goal

pub returns : goal.returns
returns c =
    let key = 32 ∷ decimal c.args.key in
    let index = 32 ∷ decimal c.args.index in
    let last = 32 ∷ hex_word c.args.statement.now in
    puts_after (codes "signed") (key ++ (index ++ last)) c.args.out.now c.put_slice.new.out c.put_hex_word.new.out c.put_hex_word.result c.in_ok-put_slice.ensures.puts
    (puts_after key (index ++ last) c.put_slice.new.out c.put_number_word.new.out c.put_hex_word.new.out c.put_hex_word.result c.in_ok-put_number_word.ensures
    (puts_after index last c.put_number_word.new.out c.put_number_word-2.new.out c.put_hex_word.new.out c.put_hex_word.result c.in_ok-put_number_word-2.ensures c.put_hex_word.ensures))
