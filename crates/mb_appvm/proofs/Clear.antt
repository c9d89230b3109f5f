-- A text is assembled in one way, or wrong at one line.
use Rattle.std.proofs.Common.{◌≡◌, ℕ, zero, suc, ◌<◌, inl, inr, List, [], ◌∷◌, ◌++◌, length, take, Bool, true, false, refl, sym, ap, subst, ◌∙◌, arith, append_assoc}
use Rattle.std.specs.Prelude.{sum_by, flat_map, ◌||◌}
use Rattle.std.specs.List.{AllZip, list_any}
use Rattle.std.proofs.lemmas.Bool.{false≢true, cases_order}
use Rattle.std.proofs.lemmas.List.{take_at}
use Rattle.std.proofs.lemmas.List.Elements.{All-take}
use Rattle.std.proofs.lemmas.List.Sums.{sum_by-take-le}
use Rattle.mb_format.proofs.Fields.{same_bytes-refl}
use Rattle.mb_model_lemmas.proofs.LineLemmas.{HasLines-same, front_in}
use Rattle.mb_appvm.specs.declared.lines.Said.{Said}
use Rattle.mb_appvm.specs.declared.lines.Said.TheVariants as says
use Rattle.mb_model.specs.application.Instructions.{instruction_format}
use Rattle.mb_appvm.specs.Assembly.{SaysAssemblyLine, jump_to, size_of, is_label, IsNew, LabelsDiffer, HasTarget, AreRight, FailsAssembly, IsPlaced, Makes, piece, IsAssembly}
use Rattle.mb_appvm.specs.Listing.{AssembliesAreClear, ListingsAssemble}
use Rattle.mb_appvm.proofs.Soundness.{or_parts}
use Rattle.mb_appvm.proofs.Assemblies.{said_unique, zip_take}
use Rattle.mb_appvm.proofs.Listings.{assembles_again}

heads : (x y : Said) (xs ys : List Said) → x ∷ xs ≡ y ∷ ys → (x ≡ y) × (xs ≡ ys)
heads x y xs ys e = (cc, cc)

-- ---- one code

any_in : (name : List ℕ) (before after : List Said) → list_any (is_label name) (before ++ says.Label name ∷ after) ≡ true
any_in name [] after = rw (same_bytes-refl name) refl
any_in name (x ∷ before) after = by (is_label name x) (list_any (is_label name) (before ++ says.Label name ∷ after)) (any_in name before after)
  where
    by : (a b : Bool) → b ≡ true → (a || b) ≡ true
    by true b e = refl
    by false b e = e

before_same : (name : List ℕ) (b1 b2 a1 a2 : List Said) → LabelsDiffer (b1 ++ says.Label name ∷ a1) → b1 ++ says.Label name ∷ a1 ≡ b2 ++ says.Label name ∷ a2 → b1 ≡ b2
before_same name [] [] a1 a2 differ e = refl
before_same name [] (x ∷ b2) a1 a2 differ e =
    let parts = heads (says.Label name) x a1 (b2 ++ says.Label name ∷ a2) e in
    absurd (false≢true (sym differ.0 ∙ ap (list_any (is_label name)) parts.1 ∙ any_in name b2 a2))
before_same name (x ∷ b1) [] a1 a2 differ e =
    let parts = heads x (says.Label name) (b1 ++ says.Label name ∷ a1) a2 e in
    let new = subst (λ (s : Said). IsNew s (b1 ++ says.Label name ∷ a1)) parts.0 differ.0 in
    absurd (false≢true (sym new ∙ any_in name b1 a1))
before_same name (x ∷ b1) (y ∷ b2) a1 a2 differ e =
    let parts = heads x y (b1 ++ says.Label name ∷ a1) (b2 ++ says.Label name ∷ a2) e in
    let head = parts.0 in
    let tail = before_same name b1 b2 a1 a2 differ.1 parts.1 in
    cc

placed_same : (all : List Said) (name : List ℕ) (m n : ℕ) → LabelsDiffer all → IsPlaced all name m → IsPlaced all name n → m ≡ n
placed_same all name m n differ p q =
    let same = before_same name p.before q.before p.after q.after (subst LabelsDiffer p.split differ) (sym p.split ∙ q.split) in
    p.size ∙ ap (sum_by size_of) same ∙ sym q.size

makes_same : (all : List Said) (s : Said) (p q : List ℕ) → LabelsDiffer all → Makes all s p → Makes all s q → p ≡ q
makes_same all (says.Label name) p q differ mp mq = mp ∙ sym mq
makes_same all (says.Whole i) p q differ mp mq = mp ∙ sym mq
makes_same all (says.JumpTo kind name) p q differ mp mq =
    mp.2 ∙ ap (λ (n : ℕ). instruction_format.spelling (jump_to kind n)) (placed_same all name mp.0 mq.0 differ mp.1 mq.1) ∙ sym mq.2

pieces_same : (all said : List Said) (ps qs : List (List ℕ)) → LabelsDiffer all → AllZip (Makes all) said ps → AllZip (Makes all) said qs → ps ≡ qs
pieces_same all [] [] [] differ zp zq = refl
pieces_same all [] (p ∷ ps) qs differ zp zq = absurd zp
pieces_same all [] [] (q ∷ qs) differ zp zq = absurd zq
pieces_same all (s ∷ said) [] qs differ zp zq = absurd zp
pieces_same all (s ∷ said) (p ∷ ps) [] differ zp zq = absurd zq
pieces_same all (s ∷ said) (p ∷ ps) (q ∷ qs) differ zp zq =
    let head = makes_same all s p q differ zp.0 zq.0 in
    let tail = pieces_same all said ps qs differ zp.1 zq.1 in
    cc

pub one_assembly : (lines : List (List ℕ)) (a b : List ℕ) → IsAssembly lines a → IsAssembly lines b → a ≡ b
one_assembly lines a b ia ib =
    let same = said_unique lines ib.said ia.said ib.right.worded ia.right.worded in
    let made = subst (λ (x : List Said). AllZip (Makes x) x ib.pieces) same ib.made in
    ia.whole ∙ ap (flat_map piece) (pieces_same ia.said ia.said ia.pieces ib.pieces ia.right.labels ia.made made) ∙ sym ib.whole

-- ---- one line

none_take : (p : Said → Bool) (n : ℕ) (xs : List Said) → list_any p xs ≡ false → list_any p (take n xs) ≡ false
none_take p zero xs e = refl
none_take p (suc n) [] e = refl
none_take p (suc n) (x ∷ xs) e =
    let parts = or_parts (p x) (list_any p xs) e in
    rw (parts.0, none_take p n xs parts.1) refl

new_take : (s : Said) (n : ℕ) (xs : List Said) → IsNew s xs → IsNew s (take n xs)
new_take (says.Label name) n xs new = none_take (is_label name) n xs new
new_take (says.Whole i) n xs new = tt
new_take (says.JumpTo kind name) n xs new = tt

differ_take : (n : ℕ) (xs : List Said) → LabelsDiffer xs → LabelsDiffer (take n xs)
differ_take zero xs differ = tt
differ_take (suc n) [] differ = tt
differ_take (suc n) (x ∷ xs) differ = (new_take x n xs differ.0, differ_take n xs differ.1)

-- what stands at the front of right lines is right
right_front : (lines front later : List (List ℕ)) (said : List Said) → AreRight lines (front ++ later) said → AreRight lines front (take (length front) said)
right_front lines front later said right = record {
  worded = subst (λ (x : List (List ℕ)). AllZip SaysAssemblyLine x (take (length front) said)) (take_at front later (length front) refl)
      (zip_take SaysAssemblyLine (length front) (front ++ later) said right.worded);
  labels = differ_take (length front) said right.labels;
  targets = All-take (HasTarget lines) (length front) said right.targets;
  short = omega (arith, right.short, sum_by-take-le size_of said (length front));
}

not_shorter : (lines : List (List ℕ)) (m n : ℕ) (p : FailsAssembly lines m) (q : FailsAssembly lines n) → length p.before < length q.before → ⊥
not_shorter lines m n p q less =
    let front = front_in p.before q.before p.line q.line p.later q.later (sym p.split ∙ q.split) less in
    p.wrong (take (length (p.before ++ p.line ∷ [])) q.said)
    (right_front lines (p.before ++ p.line ∷ []) front.0 q.said (subst (λ (x : List (List ℕ)). AreRight lines x q.said) front.1 q.right))

pub one_failure : (lines : List (List ℕ)) (m n : ℕ) → FailsAssembly lines m → FailsAssembly lines n → m ≡ n
one_failure lines m n p q =
    elim (cases_order (length p.before) (length q.before)) [
      | inr (inl less) ↦ absurd (not_shorter lines m n p q less)
      | inl is ↦ omega (arith, is, p.number, q.number)
      | inr (inr less) ↦ absurd (not_shorter lines n m q p less)
    ]

pub never_wrong : (lines : List (List ℕ)) (code : List ℕ) (n : ℕ) → IsAssembly lines code → FailsAssembly lines n → ⊥
never_wrong lines code n is p =
    let split = p.split ∙ sym (append_assoc p.before (p.line ∷ []) p.later) in
    p.wrong (take (length (p.before ++ p.line ∷ [])) is.said)
    (right_front lines (p.before ++ p.line ∷ []) p.later is.said (subst (λ (x : List (List ℕ)). AreRight lines x is.said) split is.right))

-- ---- texts

pub assemblies_are_clear : AssembliesAreClear
assemblies_are_clear = record {
  one_code = λ text a b pa pb.
      one_assembly pa.lines a b pa.stands (subst (λ (x : List (List ℕ)). IsAssembly x b) (HasLines-same text pb.lines pa.lines pb.has pa.has) pb.stands);
  one_line = λ text m n pm pn.
      one_failure pm.lines m n pm.fails (subst (λ (x : List (List ℕ)). FailsAssembly x n) (HasLines-same text pn.lines pm.lines pn.has pm.has) pn.fails);
  never_both = λ text code n pa pn.
      never_wrong pa.lines code n pa.stands (subst (λ (x : List (List ℕ)). FailsAssembly x n) (HasLines-same text pn.lines pa.lines pn.has pa.has) pn.fails);
}

pub listings_assemble : ListingsAssemble
listings_assemble = record {
  again = assembles_again;
  alone = λ code text other short is stands. assemblies_are_clear.one_code text other code stands (assembles_again code text short is);
  never_wrong = λ code text n short is fails. assemblies_are_clear.never_both text code n (assembles_again code text short is) fails;
}
