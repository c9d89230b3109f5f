use Rattle.std.proofs.Common.{arith}
use Rattle.std.proofs.lemmas.List.{nil_from_length}
use Rattle.std.proofs.lemmas.Bool.{eqb-true, eqb-false}
use Rattle.std.proofs.Common.{sym, ◌∙◌}
use Rattle.mb_words.proofs.Digits.{too_long, empty_none, last_digit, one_digit, added, leading_zero, front_none}
use Rattle.mb_words.proofs.numbers.+read_digits.Goals as goal
use Rattle.mb_words.proofs.numbers.+read_digits.Goals.{then-last-lt48-via-then-last-lt48, then-last-lt48-via-else-last-lt48+then-last-gt57}

pub returns-then-word-gt-MOST_DIGITS : goal.returns-then-word-gt-MOST_DIGITS
returns-then-word-gt-MOST_DIGITS t c = λ n is. too_long c.args.word.now n c.if-word-gt-MOST_DIGITS.true is

pub returns-in_default : goal.returns-in_default
returns-in_default t c = λ n is. empty_none c.args.word.now n c.in_default.ensures.cases is

pub returns-then-last-lt48 : goal.returns-then-last-lt48
returns-then-last-lt48 t c = λ n is.
    let digit = last_digit c.args.word.now c.in-Some.front.now c.in-Some.last.now n c.in-Some.ensures.cases.0 is in
    elim c.then-last-lt48.branch [
      | then-last-lt48-via-then-last-lt48 w ↦ omega (arith, digit.0, w.if-last-lt48.true)
      | then-last-lt48-via-else-last-lt48+then-last-gt57 w ↦ omega (arith, digit.1, w.if-last-gt57.true)
    ]

pub returns-then-is_empty : goal.returns-then-is_empty
returns-then-is_empty t c =
    let none = nil_from_length c.in-Some.front.now (eqb-true _ _ (sym c.is_empty.ensures ∙ c.if-is_empty.true)) in
    one_digit c.args.word.now c.in-Some.front.now c.in-Some.last.now c.from-digit.result c.in-Some.ensures.cases.0 none (omega arith) (omega arith)

pub returns-in_default-read_digits : goal.returns-in_default-read_digits
returns-in_default-read_digits t c = λ n is.
    let some = eqb-false _ _ (sym c.is_empty.ensures ∙ c.if-is_empty.false) in
    front_none c.args.word.now c.in-Some.front.now c.in-Some.last.now n c.in-Some.ensures.cases.0 (omega (arith, some)) c.in_default-read_digits.ensures is

pub returns-then-begins_with_zero : goal.returns-then-begins_with_zero
returns-then-begins_with_zero t c = λ n is.
    let some = eqb-false _ _ (sym c.is_empty.ensures ∙ c.if-is_empty.false) in
    leading_zero c.args.word.now c.in-Some.front.now c.in-Some.last.now c.in-Some-read_digits.tens c.from-digit.result n c.in-Some.ensures.cases.0
    (omega arith) (omega arith) (omega (arith, some)) c.in-Some-read_digits.ensures c.if-begins_with_zero.true is

pub returns : goal.returns
returns t c =
    let some = eqb-false _ _ (sym c.is_empty.ensures ∙ c.if-is_empty.false) in
    let positive = c.if-begins_with_zero.false in
    added c.args.word.now c.in-Some.front.now c.in-Some.last.now c.in-Some-read_digits.tens c.from-digit.result _ c.in-Some.ensures.cases.0
    (omega arith) (omega arith) (omega (arith, some)) c.in-Some-read_digits.ensures (omega (arith, positive)) c.add_digit.ensures
