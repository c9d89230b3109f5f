use Rattle.std.proofs.Common.{◌≡◌, ℕ, ◌+◌, ◌-◌, List, length, length-drop, take, drop, ap, ◌∙◌, arith}
use Rattle.std.proofs.KnownBytes.{Appends-trans}
use Rattle.std.proofs.Math.Seq.{take-add}
use Rattle.std.proofs.lemmas.List.{drop-drop, take_rest}
use Rattle.mb_files.proofs.whole.write_whole.Goals as goal

-- what is left of the rest is what is left of all
left : (bytes rest : List ℕ) (n count : ℕ) → rest ≡ drop n bytes → take (length rest - count) (drop count rest) ≡ drop (n + count) bytes
left bytes rest n count h = take_rest rest count ∙ ap (drop count) h ∙ drop-drop count n bytes

pub loop-rest-preserved : goal.loop-rest-preserved
loop-rest-preserved g c =
    let (n, within, rest, appended) = c.loop-rest.invariant.written in
    let count = c.in-Some.count in
    record {
      written = (
        n + count,
        omega (arith, c.in-Some.ensures.bound, ap length rest, length-drop n c.args.bytes.now),
        left _ _ n count rest,
        rw (take-add, ← rest) (Appends-trans _ _ _ _ _ appended c.in-Some.ensures.bytes),
      );
      fine = c.in-Some.ensures.counted ∙ c.loop-rest.invariant.fine;
    }
