use Rattle.std.proofs.Common.{arith, refl}
use Rattle.mb_officer.proofs.Wording.{layer_front, layer_space_none}
use Rattle.mb_officer.proofs.words.split_layer.Goals as goal

pub returns-in-Some : goal.returns-in-Some
returns-in-Some c = (refl, layer_front c.args.text.now c.in-Some.rest.now 1 (omega arith) c.in-Some.ensures)

pub returns-in-Some-after_word : goal.returns-in-Some-after_word
returns-in-Some-after_word c = (refl, layer_front c.args.text.now c.in-Some-after_word.rest.now 2 (omega arith) c.in-Some-after_word.ensures)

pub returns-in-Some-after_word-2 : goal.returns-in-Some-after_word-2
returns-in-Some-after_word-2 c = (refl, layer_front c.args.text.now c.in-Some-after_word-2.rest.now 3 (omega arith) c.in-Some-after_word-2.ensures)

pub returns-in-None : goal.returns-in-None
returns-in-None c = λ n rest is e.
    layer_space_none c.args.text.now rest n c.in_default.ensures c.in_default-after_word.ensures c.in-None.ensures is e
