use Rattle.std.proofs.Common.{◌≤◌, ℕ, List, ◌++◌, length, sym, ap, subst, ◌∙◌}
use Rattle.std.specs.Int.{div_ceil}
use Rattle.mb_model_commands.specs.Workload.{DrawnBytes}
use Rattle.mb_generate.specs.Drawing.{IsDrawn}
use Rattle.mb_generate.proofs.Drawings.{AreBytes, no_bytes, four_more, bytes_drawn, bytes_taken}
use Rattle.mb_generate.proofs.draws.draw_bytes.Goals as goal

pub loop-word-init : goal.loop-word-init
loop-word-init c = subst (λ (bytes : List ℕ). AreBytes c.args.rng.now 0 bytes c.args.rng.now) (sym c.new-bytes.ensures.items) (no_bytes c.args.rng.now)

pub loop-word-preserved : goal.loop-word-preserved
loop-word-preserved c =
    four_more c.args.rng.now c.loop-word._word c.loop-word.bytes.items c.extend_from_slice.new.self.items c.loop-word.rng c.next_word.new.self c.next_word.result
    c.loop-word.invariant c.next_word.ensures (c.in_ok-extend_from_slice.ensures.items ∙ ap (λ (bs : List ℕ). c.loop-word.bytes.items ++ bs) c.to_be_bytes.ensures)

pub returns-clause-drawn : goal.returns-clause-drawn
returns-clause-drawn c =
    let least : div_ceil c.args.count 4 ≤ c.loop-word._word = subst (λ (n : ℕ). n ≤ c.loop-word._word) c.div_ceil-word-end.ensures c.loop-word-test.false in
    let most : c.loop-word._word ≤ div_ceil c.args.count 4 = subst (λ (n : ℕ). c.loop-word._word ≤ n) c.div_ceil-word-end.ensures c.loop-word.auto._word-end in
    subst (λ (bytes : List ℕ). IsDrawn (DrawnBytes c.args.count) c.args.rng.now bytes c.loop-word.rng) (sym (c.from_vec.ensures ∙ c.truncate.ensures.items))
    (bytes_drawn c.args.rng.now c.args.count c.loop-word._word c.loop-word.bytes.items c.loop-word.rng least most c.loop-word.invariant)

pub returns-clause-length : goal.returns-clause-length
returns-clause-length c =
    let least : div_ceil c.args.count 4 ≤ c.loop-word._word = subst (λ (n : ℕ). n ≤ c.loop-word._word) c.div_ceil-word-end.ensures c.loop-word-test.false in
    let most : c.loop-word._word ≤ div_ceil c.args.count 4 = subst (λ (n : ℕ). c.loop-word._word ≤ n) c.div_ceil-word-end.ensures c.loop-word.auto._word-end in
    ap length (c.from_vec.ensures ∙ c.truncate.ensures.items)
    ∙ bytes_taken c.args.rng.now c.args.count c.loop-word._word c.loop-word.bytes.items c.loop-word.rng least most c.loop-word.invariant
