use Rattle.std.proofs.Common.{List, ℕ, ap, sym, subst, ◌∙◌, length}
use Rattle.std.proofs.lemmas.Bool.{eqb-true, eqb-false}
use Rattle.mb_policy.proofs.Hashes.{IsHashing, hashing_begins, one_more_hash, too_many_hashes, wrong_hash, no_hashes, all_hashes}
use Rattle.mb_policy.proofs.lines.read_hashes.Goals as goal

pub loop-word-init : goal.loop-word-init
loop-word-init c = subst (λ (x : List (List ℕ)). IsHashing c.args.words.now c.args.words.now x) (sym c.new-hashes.ensures) (hashing_begins c.args.words.now)

pub returns-then-is_full : goal.returns-then-is_full
returns-then-is_full c =
    too_many_hashes c.args.words.now c.loop-word.words c.take.new.self c.loop-word.hashes c.in-Some.word.now c.loop-word.invariant c.in-Some.ensures
    (sym (ap length c.as_slice.ensures) ∙ c.if-is_full.true)

pub loop-word-preserved : goal.loop-word-preserved
loop-word-preserved c =
    one_more_hash c.args.words.now c.loop-word.words c.take.new.self c.loop-word.hashes c.push.new.self c.in-Some.word.now c.in-Some-read_array.hash c.loop-word.invariant c.in-Some.ensures
    c.in-Some-read_array.ensures (λ full. c.if-is_full.false (ap length c.as_slice.ensures ∙ full)) c.in_ok-push-in-Some-read_array.ensures.ok

pub returns-in-None : goal.returns-in-None
returns-in-None c =
    wrong_hash c.args.words.now c.loop-word.words c.take.new.self c.loop-word.hashes c.in-Some.word.now c.loop-word.invariant c.in-Some.ensures c.in-None.ensures

pub returns-then-is_empty : goal.returns-then-is_empty
returns-then-is_empty c =
    no_hashes c.args.words.now c.loop-word.words c.loop-word.hashes c.loop-word.invariant c.in_default.ensures.0
    (sym (ap length c.as_slice-2.ensures) ∙ eqb-true _ _ (sym c.is_empty.ensures ∙ c.if-is_empty.true))

pub returns : goal.returns
returns c =
    all_hashes c.args.words.now c.loop-word.words c.loop-word.hashes c.loop-word.invariant c.in_default.ensures.0
    (λ none. eqb-false _ _ (sym c.is_empty.ensures ∙ c.if-is_empty.false) (ap length c.as_slice-2.ensures ∙ none))
