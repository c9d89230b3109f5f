use Rattle.std.proofs.Common.{sym, ◌∙◌, arith}
use Rattle.std.proofs.lemmas.Fmt.{decimal_injective}
use Rattle.mb_words.proofs.numbers.read_number.Goals as goal

pub returns-in_default : goal.returns-in_default
returns-in_default c = λ n is.
    let found = c.in-Some.ensures in
    let same = decimal_injective n c.in-Some.number (omega (arith, is.1)) (omega (arith, found.1)) (sym is.0 ∙ found.0) in
    omega (arith, same, is.1, c.if-number-most.false)
