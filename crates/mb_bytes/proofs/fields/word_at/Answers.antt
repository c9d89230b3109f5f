use Rattle.std.proofs.Common.{◌≡◌, Bool, true, false, not, refl, arith}
use Rattle.std.proofs.lemmas.Slice.Eq.{bytes_eq-Decides}
use Rattle.mb_bytes.proofs.Exactly.{mark_found, mark_differs}
use Rattle.mb_bytes.proofs.fields.word_at.Goals as goal

unequal : (differ same : Bool) → differ ≡ not same → differ ≡ true → same ≡ true → ⊥
unequal differ true e t s = absurd (grind (arith, e, t))
unequal differ false e t s = absurd (grind (arith, s))

equal : (differ same : Bool) → differ ≡ not same → differ ≡ false → same ≡ true
equal differ true e f = refl
equal differ false e f = absurd (grind (arith, e, f))

pub returns-then-ne : goal.returns-then-ne
returns-then-ne c =
    let same = bytes_eq-Decides c.in_ok-found.found c.args.word.now in
    rw c.offset-at.ensures (mark_differs c.args.word.now c.in_ok-found.found c.told-word c.in_ok-found.ensures.reads
    (λ e. unequal c.ne.result _ c.ne.ensures c.if-ne.true (same.1 e)))

pub returns : goal.returns
returns c =
    let same = bytes_eq-Decides c.in_ok-found.found c.args.word.now in
    mark_found c.args.word.now c.in_ok-found.found c.told-word c.in_ok-found.ensures.reads
    (same.0 (equal c.ne.result _ c.ne.ensures c.if-ne.false))
