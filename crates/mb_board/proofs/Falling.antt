-- When a power loss that is armed falls.
use Rattle.std.proofs.Common.{◌≡◌, ℕ, zero, suc, ◌-◌, ◌<◌, ◌==◌, ◌&&◌, nat_lt, true, false, Some, Ok, Err, if◌then◌else◌, refl, ap, ◌∙◌, arith, eq-eqb, lt-ltb, ne_eqb}
use Rattle.mb_board.specs.declared.fuse.Cut.{Cut}
use Rattle.mb_board.specs.Cuts.{passes_by, cut_in, last_count, FallsInItsCall}

cut_in-is : (n : ℕ) (cut : Cut) → cut_in n (Some cut) ≡ Some (record cut { count = cut.count - n })
cut_in-is zero cut =
    let same : cut.count ≡ cut.count - 0 = omega arith in
    ap (λ count. Some (record cut { count = count })) same
cut_in-is (suc n) cut =
    let same : cut.count - 1 - n ≡ cut.count - suc n = omega arith in
    cut_in-is n (record cut { count = cut.count - 1 }) ∙ ap (λ count. Some (record cut { count = count })) same

-- a call fails where the count is 1, unless the count of stops is at its last value
fails : (cut : Cut) (count stops : ℕ) → count ≡ 1 → stops < last_count → passes_by (Some (record cut { count = count })) stops ≡ Err cut.tear
fails cut count stops due less = rw (eq-eqb count 1 due, lt-ltb stops last_count less) refl

passes-early : (cut : Cut) (count stops : ℕ) → 1 < count → passes_by (Some (record cut { count = count })) stops ≡ Ok tt
passes-early cut count stops early = rw (ne_eqb count 1 (λ is. omega arith)) refl

passes-last : (cut : Cut) → passes_by (Some cut) last_count ≡ Ok tt
passes-last cut = elim (cut.count == 1) as (λ due. (if due && nat_lt last_count last_count then Err cut.tear else Ok (tt {0})) ≡ Ok (tt {0})) [ true ↦ refl | false ↦ refl ]

pub falls_in_its_call : (cut : Cut) → FallsInItsCall cut
falls_in_its_call cut = record {
  before = λ n stops early. rw (cut_in-is n cut) (passes-early cut (cut.count - n) stops (omega arith));
  there = λ n stops due less. rw (cut_in-is n cut) (fails cut (cut.count - n) stops (omega arith) less);
  never = λ n. rw (cut_in-is n cut) (passes-last (record cut { count = cut.count - n }));
}
