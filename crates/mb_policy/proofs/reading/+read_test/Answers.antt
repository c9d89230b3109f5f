use Rattle.std.proofs.Common.{◌-◌, Some, None, ap, ◌∙◌}
use Rattle.mb_policy.specs.declared.keyword.Keyword.TheVariants as keyword
use Rattle.mb_policy.specs.Reading.{first_of_test, reads, reads_leaf}
use Rattle.mb_policy.specs.Meanings.{items_of, test_meant}
use Rattle.mb_policy.proofs.Steps.{step, nothing_at, nothing_left, fails, first_none, second_none, pair_given, not_none, not_given, leaf_given}
use Rattle.mb_policy.proofs.reading.+read_test.Goals as goal

pub returns-then-depth-eq0 : goal.returns-then-depth-eq0
returns-then-depth-eq0 t c = nothing_at (items_of c.args.before.now) c.args.depth c.args.words.now c.if-depth-eq0.true

pub returns-in_default : goal.returns-in_default
returns-in_default t c = nothing_left (items_of c.args.before.now) c.args.depth c.args.words.now c.in_default.ensures.0

pub returns-in-Ok-read_test : goal.returns-in-Ok-read_test
returns-in-Ok-read_test t c =
    let after = step (items_of c.args.before.now) c.args.depth c.args.words.now c.in-Some.word.now c.take.new.self (Some (keyword.Pair c.in-Some-Pair.pairing)) c.if-depth-eq0.false c.in-Some.ensures (c.in-Some-Pair.ensures ∙ ap first_of_test c.in-Some-Pair.field-0-is) in
    pair_given (items_of c.args.before.now) c.args.depth c.in-Some-Pair.pairing c.args.words.now c.take.new.self c.read_test.new.words c.read_test-in-Ok.new.words c.in-Ok.first c.in-Ok-read_test.second c.join.result after
    c.in-Ok.ensures c.in-Ok-read_test.ensures c.join.ensures

pub returns-in-Err-read_test : goal.returns-in-Err-read_test
returns-in-Err-read_test t c =
    let after = step (items_of c.args.before.now) c.args.depth c.args.words.now c.in-Some.word.now c.take.new.self (Some (keyword.Pair c.in-Some-Pair.pairing)) c.if-depth-eq0.false c.in-Some.ensures (c.in-Some-Pair.ensures ∙ ap first_of_test c.in-Some-Pair.field-0-is) in
    fails (items_of c.args.before.now) (reads (items_of c.args.before.now) (c.args.depth - 1) c.read_test.new.words) (reads (items_of c.args.before.now) c.args.depth c.args.words.now) c.in-Err-read_test.why c.read_test-in-Ok.new.words c.read_test-in-Ok.new.words
    (λ none. after ∙ second_none (items_of c.args.before.now) (reads (items_of c.args.before.now) (c.args.depth - 1)) c.in-Some-Pair.pairing c.take.new.self c.read_test.new.words (test_meant (items_of c.args.before.now) c.in-Ok.first) c.in-Ok.ensures none) c.in-Err-read_test.ensures

pub returns-in-Err : goal.returns-in-Err
returns-in-Err t c =
    let after = step (items_of c.args.before.now) c.args.depth c.args.words.now c.in-Some.word.now c.take.new.self (Some (keyword.Pair c.in-Some-Pair.pairing)) c.if-depth-eq0.false c.in-Some.ensures (c.in-Some-Pair.ensures ∙ ap first_of_test c.in-Some-Pair.field-0-is) in
    fails (items_of c.args.before.now) (reads (items_of c.args.before.now) (c.args.depth - 1) c.take.new.self) (reads (items_of c.args.before.now) c.args.depth c.args.words.now) c.in-Err.why c.read_test.new.words c.read_test.new.words
    (λ none. after ∙ first_none (items_of c.args.before.now) (reads (items_of c.args.before.now) (c.args.depth - 1)) c.in-Some-Pair.pairing c.take.new.self none) c.in-Err.ensures

pub returns-in-Ok-read_test-2 : goal.returns-in-Ok-read_test-2
returns-in-Ok-read_test-2 t c =
    let after = step (items_of c.args.before.now) c.args.depth c.args.words.now c.in-Some.word.now c.take.new.self (Some keyword.Not) c.if-depth-eq0.false c.in-Some.ensures (c.in-Some-Not.ensures ∙ ap first_of_test c.in-Some-Not.field-0-is) in
    not_given (items_of c.args.before.now) c.args.depth c.args.words.now c.take.new.self c.read_test-in-Some-Not.new.words c.in-Ok-read_test-2.test c.negate.result after c.in-Ok-read_test-2.ensures c.negate.ensures

pub returns-in-Err-read_test-2 : goal.returns-in-Err-read_test-2
returns-in-Err-read_test-2 t c =
    let after = step (items_of c.args.before.now) c.args.depth c.args.words.now c.in-Some.word.now c.take.new.self (Some keyword.Not) c.if-depth-eq0.false c.in-Some.ensures (c.in-Some-Not.ensures ∙ ap first_of_test c.in-Some-Not.field-0-is) in
    fails (items_of c.args.before.now) (reads (items_of c.args.before.now) (c.args.depth - 1) c.take.new.self) (reads (items_of c.args.before.now) c.args.depth c.args.words.now) c.in-Err-read_test-2.why c.read_test-in-Some-Not.new.words c.read_test-in-Some-Not.new.words
    (λ none. after ∙ not_none (items_of c.args.before.now) (reads (items_of c.args.before.now) (c.args.depth - 1)) c.take.new.self none) c.in-Err-read_test-2.ensures

pub returns-in-Some-Leaf : goal.returns-in-Some-Leaf
returns-in-Some-Leaf t c =
    leaf_given (items_of c.args.before.now) (reads (items_of c.args.before.now) c.args.depth c.args.words.now) (reads_leaf (items_of c.args.before.now) c.in-Some-Leaf.leaf c.take.new.self) c.read_leaf.result c.read_leaf.new.words c.ok_or.result
    (step (items_of c.args.before.now) c.args.depth c.args.words.now c.in-Some.word.now c.take.new.self (Some (keyword.Leaf c.in-Some-Leaf.leaf)) c.if-depth-eq0.false c.in-Some.ensures (c.in-Some-Leaf.ensures ∙ ap first_of_test c.in-Some-Leaf.field-0-is)) c.read_leaf.ensures c.ok_or.ensures.value

pub returns-in-None : goal.returns-in-None
returns-in-None t c = step (items_of c.args.before.now) c.args.depth c.args.words.now c.in-Some.word.now c.take.new.self None c.if-depth-eq0.false c.in-Some.ensures c.in-None.ensures
