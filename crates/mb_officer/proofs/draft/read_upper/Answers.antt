use Rattle.std.proofs.Common.{arith, lit≤}
use Rattle.std.specs.Prelude.{codes}
use Rattle.mb_words.proofs.Parts.{same, differs}
use Rattle.mb_officer.proofs.Wording.{digit_of, upper_word_none}
use Rattle.mb_officer.proofs.draft.read_upper.Goals as goal

pub returns-then-eq : goal.returns-then-eq
returns-then-eq c = ((lit≤ tt, lit≤ tt), digit_of 2 c.args.word.now (omega arith) (same c.args.word.now (codes "2") _ _ c.eq.ensures c.as_slice.ensures c.if-eq.true))

pub returns-then-eq-2 : goal.returns-then-eq-2
returns-then-eq-2 c =
    ((lit≤ tt, lit≤ tt), digit_of 3 c.args.word.now (omega arith) (same c.args.word.now (codes "3") _ _ c.eq-else-eq.ensures c.as_slice-else-eq.ensures c.if-eq-2.true))

pub returns-else-eq-2 : goal.returns-else-eq-2
returns-else-eq-2 c = λ n is.
    upper_word_none c.args.word.now n
    (differs c.args.word.now (codes "2") _ _ c.eq.ensures c.as_slice.ensures c.if-eq.false)
    (differs c.args.word.now (codes "3") _ _ c.eq-else-eq.ensures c.as_slice-else-eq.ensures c.if-eq-2.false) is.0 is.1
