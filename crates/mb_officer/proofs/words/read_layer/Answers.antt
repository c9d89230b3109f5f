use Rattle.std.proofs.Common.{arith, refl}
use Rattle.std.specs.Prelude.{codes}
use Rattle.mb_words.proofs.Parts.{same, differs}
use Rattle.mb_officer.proofs.Wording.{digit_of, layer_word_none}
use Rattle.mb_officer.proofs.words.read_layer.Goals as goal

pub returns-then-eq : goal.returns-then-eq
returns-then-eq c = (refl, digit_of 1 c.args.word.now (omega arith) (same c.args.word.now (codes "1") _ _ c.eq.ensures c.as_slice.ensures c.if-eq.true))

pub returns-then-eq-2 : goal.returns-then-eq-2
returns-then-eq-2 c =
    (refl, digit_of 2 c.args.word.now (omega arith) (same c.args.word.now (codes "2") _ _ c.eq-else-eq.ensures c.as_slice-else-eq.ensures c.if-eq-2.true))

pub returns-then-eq-3 : goal.returns-then-eq-3
returns-then-eq-3 c =
    (refl, digit_of 3 c.args.word.now (omega arith) (same c.args.word.now (codes "3") _ _ c.eq-else-eq-2.ensures c.as_slice-else-eq-2.ensures c.if-eq-3.true))

pub returns-else-eq-3 : goal.returns-else-eq-3
returns-else-eq-3 c = λ n is.
    layer_word_none c.args.word.now n
    (differs c.args.word.now (codes "1") _ _ c.eq.ensures c.as_slice.ensures c.if-eq.false)
    (differs c.args.word.now (codes "2") _ _ c.eq-else-eq.ensures c.as_slice-else-eq.ensures c.if-eq-2.false)
    (differs c.args.word.now (codes "3") _ _ c.eq-else-eq-2.ensures c.as_slice-else-eq-2.ensures c.if-eq-3.false) is.0 is.1
