use Rattle.std.proofs.Common.{◌≡◌, ◌≤◌, subst}
use Rattle.std.specs.Fmt.{decimal}
use Rattle.mb_console.proofs.WordLemmas.{too_small}
use Rattle.mb_console.proofs.words.number_of.Goals as goal

pub returns-then-number-least : goal.returns-then-number-least
returns-then-number-least c =
    let n = c.in-Some.number in
    let is = subst (λ word. (word ≡ decimal n) × (n ≤ c.args.most)) c.as_bytes.ensures.value c.in-Some.ensures in
    too_small c.args.least c.args.most c.args.word.now n c.ranges.most.fits is c.if-number-least.true
