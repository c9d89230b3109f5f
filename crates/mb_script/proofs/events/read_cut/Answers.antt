use Rattle.std.proofs.Common.{List, ℕ, sym, subst, arith}
use Rattle.mb_script.specs.Reading.{SaysTail, IsFill}
use Rattle.mb_script.proofs.Parts.{number_same, tail_same}
use Rattle.mb_script.proofs.LineKinds.{cut_says, cut_makes}
use Rattle.mb_script.proofs.events.read_cut.Goals as goal

pub returns-then-count-eq0 : goal.returns-then-count-eq0
returns-then-count-eq0 c = λ e says.
    let is = cut_says c.args.words.now e says in
    let same = (number_same 100000 c.args.words.now c.in-Some.count is.count c.in-Some.tail.now is.tail (omega arith) c.in-Some.ensures is.first).0 in
    omega (arith, same, is.least, c.if-count-eq0.true)

pub returns-in_default-split_kept : goal.returns-in_default-split_kept
returns-in_default-split_kept c = λ e says.
    let is = cut_says c.args.words.now e says in
    let same = (number_same 100000 c.args.words.now c.in-Some.count is.count c.in-Some.tail.now is.tail (omega arith) c.in-Some.ensures is.first).1 in
    c.in_default-split_kept.ensures is.keep is.word (subst (λ (x : List ℕ). SaysTail x is.keep is.word) (sym same) is.says)

pub returns-in-Some-read_tear : goal.returns-in-Some-read_tear
returns-in-Some-read_tear c =
    let tear = c.in-Some-read_tear.ensures in
    cut_makes c.args.words.now c.in-Some.tail.now c.in-Some-split_kept.word.now tear.0 c.in-Some.count c.in-Some-split_kept.keep c.in-Some-read_tear.tear
    c.in-Some.ensures (omega (arith, c.if-count-eq0.false)) c.in-Some-split_kept.ensures tear.1 tear.2

pub returns-in-None : goal.returns-in-None
returns-in-None c = λ e says.
    let is = cut_says c.args.words.now e says in
    let same = (number_same 100000 c.args.words.now c.in-Some.count is.count c.in-Some.tail.now is.tail (omega arith) c.in-Some.ensures is.first).1 in
    let word = (tail_same is.tail is.word c.in-Some-split_kept.word.now is.keep c.in-Some-split_kept.keep is.says (subst (λ (x : List ℕ). SaysTail x c.in-Some-split_kept.keep c.in-Some-split_kept.word.now) same c.in-Some-split_kept.ensures)).1 in
    c.in-None.ensures is.fill (subst (λ (x : List ℕ). IsFill x is.fill) word is.fills)
