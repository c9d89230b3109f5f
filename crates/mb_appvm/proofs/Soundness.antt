-- How many of the lines are right.
use Rattle.std.proofs.Common.{◌≡◌, ℕ, ◌+◌, ◌<◌, ◌≤◌, List, [], ◌∷◌, ◌++◌, length, take, get_or, Bool, true, false, refl, sym, ap, subst, ◌∙◌, arith}
use Rattle.std.specs.Prelude.{sum_by, ◌||◌, Some}
use Rattle.std.specs.List.{list_any}
use Rattle.std.proofs.lemmas.Bool.{false≢true}
use Rattle.std.proofs.lemmas.List.{take_more}
use Rattle.std.proofs.lemmas.List.Elements.{All-nil, All-push, All-pop}
use Rattle.std.proofs.lemmas.List.Sums.{sum_by_push}
use Rattle.mb_format.specs.Combinators.{same_bytes}
use Rattle.mb_format.proofs.Fields.{same_bytes-true, same_bytes-refl}
use Rattle.mb_appvm.specs.declared.lines.Said.{Said}
use Rattle.mb_appvm.specs.declared.lines.Said.TheVariants as says
use Rattle.mb_appvm.specs.Assembly.{size_of, is_label, IsNew, LabelsDiffer}
use Rattle.mb_appvm.specs.Checking.{IsTarget, AreSoundLines, CountsSound}

-- ---- one line more

pub or_parts : (a b : Bool) → (a || b) ≡ false → (a ≡ false) × (b ≡ false)
or_parts true b e = absurd cc
or_parts false b e = (refl, e)

pub or_false : (a b : Bool) → a ≡ false → b ≡ false → (a || b) ≡ false
or_false a b ea eb = rw (ea, eb) refl

any_push : (p : Said → Bool) (xs : List Said) (s : Said) → list_any p (xs ++ s ∷ []) ≡ (list_any p xs || p s)
any_push p [] s = last (p s)
  where
    last : (b : Bool) → (b || false) ≡ (false || b)
    last true = refl
    last false = refl
any_push p (x ∷ xs) s = ap (λ (b : Bool). p x || b) (any_push p xs s) ∙ swap (p x) (list_any p xs) (p s)
  where
    swap : (a b d : Bool) → (a || (b || d)) ≡ ((a || b) || d)
    swap true b d = refl
    swap false b d = refl

same_bytes-other : (xs ys : List ℕ) → same_bytes xs ys ≡ false → same_bytes ys xs ≡ false
same_bytes-other xs ys e = by (same_bytes ys xs) refl
  where
    by : (b : Bool) → same_bytes ys xs ≡ b → same_bytes ys xs ≡ false
    by false is = is
    by true is =
        let same = same_bytes-true ys xs is in
        absurd (false≢true (sym e ∙ ap (λ (z : List ℕ). same_bytes xs z) same ∙ same_bytes-refl xs))

-- two labels differ in either order
other_label : (x s : Said) (xs : List Said) → IsNew x xs → IsNew s (x ∷ xs) → IsNew x (xs ++ s ∷ [])
other_label (says.Whole i) s xs new other = tt
other_label (says.JumpTo kind name) s xs new other = tt
other_label (says.Label name) (says.Label last) xs new other =
    let apart = or_parts (same_bytes name last) (list_any (is_label last) xs) other in
    any_push (is_label name) xs (says.Label last) ∙ or_false _ _ new (same_bytes-other name last apart.0)
other_label (says.Label name) (says.Whole i) xs new other = any_push (is_label name) xs (says.Whole i) ∙ or_false _ _ new refl
other_label (says.Label name) (says.JumpTo kind to) xs new other = any_push (is_label name) xs (says.JumpTo kind to) ∙ or_false _ _ new refl

new_tail : (s x : Said) (xs : List Said) → IsNew s (x ∷ xs) → IsNew s xs
new_tail (says.Whole i) x xs new = tt
new_tail (says.JumpTo kind name) x xs new = tt
new_tail (says.Label name) x xs new = (or_parts (is_label name x) (list_any (is_label name) xs) new).1

new_nil : (s : Said) → IsNew s []
new_nil (says.Label name) = refl
new_nil (says.Whole i) = tt
new_nil (says.JumpTo kind name) = tt

pub differ_push : (xs : List Said) (s : Said) → LabelsDiffer xs → IsNew s xs → LabelsDiffer (xs ++ s ∷ [])
differ_push [] s differ new = (new_nil s, tt)
differ_push (x ∷ xs) s differ new = (other_label x s xs differ.0 new, differ_push xs s differ.1 (new_tail s x xs new))

-- what is new before one more is new before
new_front : (x s : Said) (xs : List Said) → IsNew x (xs ++ s ∷ []) → IsNew x xs
new_front (says.Whole i) s xs new = tt
new_front (says.JumpTo kind name) s xs new = tt
new_front (says.Label name) s xs new = (or_parts _ _ (sym (any_push (is_label name) xs s) ∙ new)).0

new_later : (x s : Said) (xs : List Said) → IsNew x (xs ++ s ∷ []) → IsNew s xs → IsNew s (x ∷ xs)
new_later x (says.Whole i) xs new last = tt
new_later x (says.JumpTo kind name) xs new last = tt
new_later (says.Whole i) (says.Label name) xs new last = last
new_later (says.JumpTo kind to) (says.Label name) xs new last = last
new_later (says.Label other) (says.Label name) xs new last =
    let apart = (or_parts _ _ (sym (any_push (is_label other) xs (says.Label name)) ∙ new)).1 in
    or_false _ _ (same_bytes-other name other apart) last

pub differ_front : (xs : List Said) (s : Said) → LabelsDiffer (xs ++ s ∷ []) → LabelsDiffer xs × IsNew s xs
differ_front [] s differ = (tt, new_nil s)
differ_front (x ∷ xs) s differ =
    let more = differ_front xs s differ.1 in
    ((new_front x s xs differ.0, more.0), new_later x s xs differ.0 more.1)

-- ---- counting

pub one_more : (all : List Said) (rest : List ℕ) (at : ℕ) (s d : Said) → at < length all → s ≡ get_or all at d → AreSoundLines all rest (take at all)
    → IsNew s (take at all) × IsTarget all rest s → sum_by size_of (take at all) + size_of s ≤ 32768 → AreSoundLines all rest (take (at + 1) all)
one_more all rest at s d within is sound right short =
    let more : take (at + 1) all ≡ take at all ++ s ∷ [] = take_more all at d within ∙ ap (λ (x : Said). take at all ++ x ∷ []) (sym is) in
    subst (λ (xs : List Said). AreSoundLines all rest xs) (sym more)
    (record {
      labels = differ_push (take at all) s sound.labels right.0;
      targets = All-push (IsTarget all rest) (take at all) s sound.targets right.1;
      short = omega (arith, short, sum_by_push size_of (take at all) s);
    })

pub last_sound : (all : List Said) (rest : List ℕ) (at : ℕ) (s d : Said) → at < length all → s ≡ get_or all at d → AreSoundLines all rest (take (at + 1) all)
    → (IsNew s (take at all) × IsTarget all rest s) × (sum_by size_of (take at all) + size_of s ≤ 32768)
last_sound all rest at s d within is sound =
    let more : take (at + 1) all ≡ take at all ++ s ∷ [] = take_more all at d within ∙ ap (λ (x : Said). take at all ++ x ∷ []) (sym is) in
    let whole = subst (λ (xs : List Said). AreSoundLines all rest xs) more sound in
    let parts = differ_front (take at all) s whole.labels in
    let short = whole.short in
    ((parts.1, (All-pop (IsTarget all rest) (take at all ++ s ∷ []) (take at all) (Some s) refl whole.targets).1), omega (arith, short, sum_by_push size_of (take at all) s))

pub sound_here : (all : List Said) (rest : List ℕ) (at size : ℕ) (s d : Said) → at < length all → s ≡ get_or all at d → AreSoundLines all rest (take at all)
    → size ≡ sum_by size_of (take at all) → 32768 < size + size_of s → CountsSound all rest at
sound_here all rest at size s d within is sound same long = record {
  within = omega (arith, within);
  right = sound;
  wrong = λ less more. (let short = (last_sound all rest at s d within is more).1 in omega (arith, short, same, long));
}

pub sound_stop : (all : List Said) (rest : List ℕ) (at : ℕ) (s d : Said) → at < length all → s ≡ get_or all at d → AreSoundLines all rest (take at all)
    → (IsNew s (take at all) × IsTarget all rest s → ⊥) → CountsSound all rest at
sound_stop all rest at s d within is sound wrong = record {
  within = omega (arith, within);
  right = sound;
  wrong = λ less more. wrong (last_sound all rest at s d within is more).0;
}

pub sound_all : (all : List Said) (rest : List ℕ) (at : ℕ) → at ≡ length all → AreSoundLines all rest (take at all) → CountsSound all rest (length all)
sound_all all rest at is sound = record {
  within = omega arith;
  right = subst (λ (n : ℕ). AreSoundLines all rest (take n all)) is sound;
  wrong = λ less more. omega (arith, less);
}

pub sound_none : (all : List Said) (rest : List ℕ) → AreSoundLines all rest (take 0 all)
sound_none all rest = record { labels = tt; targets = All-nil (IsTarget all rest); short = omega arith }

-- of lines and a rest that are the same
pub counts_as : (all said : List Said) (later rest : List ℕ) (count : ℕ) → all ≡ said → later ≡ rest → CountsSound all later count → CountsSound said rest count
counts_as all said later rest count same rests counts =
    subst (λ (x : List Said). CountsSound x rest count) same (subst (λ (x : List ℕ). CountsSound all x count) rests counts)

pub sizes : (all : List Said) (at size more : ℕ) (s d : Said) → at < length all → s ≡ get_or all at d → size ≡ sum_by size_of (take at all) → more ≡ size_of s
    → size + more ≡ sum_by size_of (take (at + 1) all)
sizes all at size more s d within is sum here =
    let front : take (at + 1) all ≡ take at all ++ s ∷ [] = take_more all at d within ∙ ap (λ (x : Said). take at all ++ x ∷ []) (sym is) in
    omega (arith, sum, here, ap (sum_by size_of) front, sum_by_push size_of (take at all) s)
