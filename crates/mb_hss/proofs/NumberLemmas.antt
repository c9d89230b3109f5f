-- The numbers of a maker's signatures: they count up, and their digits tell keys and indices apart.
use Rattle.std.proofs.Common.{◌≡◌, ℕ, zero, suc, ◌+◌, ◌-◌, ◌/◌, ◌%◌, ◌^◌, ◌<◌, List, [], ◌∷◌, ◌++◌, length, refl, sym, ap, subst, ◌∙◌, length-append, append_assoc, inl, inr, arith}
use Rattle.std.proofs.Math.Nat.{div-div-eq-div-mul, div-one, pow-suc}
use Rattle.std.proofs.lemmas.Bool.{cases_lt}
use Rattle.std.specs.Int.{w32, to_be_bytes}
use Rattle.mb_model.specs.signatures.Key.{key_bytes}
use Rattle.mb_model.specs.signatures.Signing.{public_of}
use Rattle.mb_hss.specs.declared.maker.Maker.{Maker}
use Rattle.mb_hss.specs.MakerKeys.{level_key, prefix_at, public_at}
use Rattle.mb_hss.specs.MakerSignatures.{text_at, signature_at, upper_levels, maker_signature, Signs}
use Rattle.mb_hss.specs.MakerLaws.{SignCall, SignsAll, UseOneIndex}
use Rattle.mb_hss.proofs.MakerLemmas.{text_above}

-- ---- numbers count up

-- a maker after calls: the same, with numbers used
record IsLater (maker later : Maker) (count : ℕ) : Type 0 where
  levels : later.levels ≡ maker.levels
  seed : later.seed ≡ maker.seed
  next : later.next ≡ maker.next + count

-- the calls before, and those from there on
record IsCut (maker : Maker) (before calls : List SignCall) (after : Maker) : Type 0 where
  middle : Maker
  later : IsLater maker middle (length before)
  rest : SignsAll middle calls after

later_by : (maker next middle : Maker) (count : ℕ) → next ≡ record maker { next = maker.next + 1 } → IsLater next middle count →
    IsLater maker middle (suc count)
later_by maker next middle count e is = record {
  levels = is.levels ∙ ap (λ (m : Maker). m.levels) e;
  seed = is.seed ∙ ap (λ (m : Maker). m.seed) e;
  next = let raised : next.next ≡ maker.next + 1 = ap (λ (m : Maker). m.next) e in omega (arith, is.next);
}

cut_at : (maker : Maker) (before calls : List SignCall) (after : Maker) → SignsAll maker (before ++ calls) after → IsCut maker before calls after
cut_at maker [] calls after signs = record {
  middle = maker;
  later = record { levels = refl; seed = refl; next = omega arith };
  rest = signs;
}
cut_at maker (call ∷ before) calls after (next, number, one, signs) =
    let cut : IsCut next before calls after = cut_at next before calls after signs in
    record {
      middle = cut.middle;
      later = later_by maker next cut.middle (length before) one.counted cut.later;
      rest = cut.rest;
    }

-- what is signed does not depend on how many numbers are used
upper_same : (levels : ℕ) (seed : List ℕ) (a b number : ℕ) (text : List ℕ) (n : ℕ) →
    upper_levels (record { levels = levels; seed = seed; next = a }) number text n
    ≡ upper_levels (record { levels = levels; seed = seed; next = b }) number text n
unfolding upper_levels
upper_same levels seed a b number text zero = refl
upper_same levels seed a b number text (suc n) =
    let maker : Maker = record { levels = levels; seed = seed; next = a } in
    ap (λ (x : List ℕ). x ++ signature_at maker number text n ++ public_at maker number (n + 1)) (upper_same levels seed a b number text n)

signature_same : (levels : ℕ) (seed : List ℕ) (a b number : ℕ) (text : List ℕ) →
    maker_signature (record { levels = levels; seed = seed; next = a }) number text
    ≡ maker_signature (record { levels = levels; seed = seed; next = b }) number text
unfolding maker_signature
signature_same levels seed a b number text =
    let maker : Maker = record { levels = levels; seed = seed; next = a } in
    ap (λ (x : List ℕ). to_be_bytes w32 (levels - 1) ++ x ++ signature_at maker number text (levels - 1)) (upper_same levels seed a b number text (levels - 1))

later_signature : (maker later : Maker) (count number : ℕ) (text : List ℕ) → IsLater maker later count →
    maker_signature later number text ≡ maker_signature maker number text
later_signature maker later count number text is =
    ap (λ (x : ℕ). maker_signature (record { levels = x; seed = later.seed; next = later.next }) number text) is.levels
    ∙ ap (λ (x : List ℕ). maker_signature (record { levels = maker.levels; seed = x; next = later.next }) number text) is.seed
    ∙ signature_same maker.levels maker.seed later.next maker.next number text

pub count_up : (maker after : Maker) (before later : List SignCall) (call : SignCall) → SignsAll maker (before ++ call ∷ later) after →
    (call.number ≡ maker.next + length before) × (call.number < 32 ^ maker.levels) × (call.signature ≡ maker_signature maker call.number call.text)
count_up maker after before later call signs =
    let cut : IsCut maker before (call ∷ later) after = cut_at maker before (call ∷ later) after signs in
    let number : call.number ≡ cut.middle.next = cut.rest.1 in
    let one : Signs cut.middle call.text call.signature cut.rest.0 = cut.rest.2 in (
      number ∙ cut.later.next,
      subst (λ (x : ℕ). x < 32 ^ maker.levels) (sym number) (subst (λ (x : ℕ). cut.middle.next < 32 ^ x) cut.later.levels one.left),
      one.signature ∙ later_signature maker cut.middle (length before) cut.middle.next call.text cut.later
          ∙ ap (λ (x : ℕ). maker_signature maker x call.text) (sym number),
    )

-- ---- digits

-- one digit more is taken off
next_quotient : (n k : ℕ) → n / 32 ^ suc k ≡ n / 32 ^ k / 32
next_quotient n k = ap (λ (x : ℕ). n / x) (pow-suc 32 k) ∙ sym (div-div-eq-div-mul n (32 ^ k) 32)

-- a number is its quotient and its digit
quotient_same : (a b : ℕ) → a / 32 ≡ b / 32 → a % 32 ≡ b % 32 → a ≡ b
quotient_same a b quotients digits = omega arith

-- the prefix at the next level is the prefix and the digit
same_quotient : (first second levels level : ℕ) → level < levels → UseOneIndex levels first second level →
    first / 32 ^ (levels - level - 1) ≡ second / 32 ^ (levels - level - 1)
same_quotient first second levels level within one =
    let k : ℕ = levels - level - 1 in
    let above : levels - level ≡ suc k = omega arith in
    let front : (n : ℕ) → prefix_at levels n level ≡ n / 32 ^ k / 32 =
    λ n. ap (λ (x : ℕ). n / 32 ^ x) above ∙ next_quotient n k in
    let prefixes : first / 32 ^ k / 32 ≡ second / 32 ^ k / 32 = sym (front first) ∙ one.prefix ∙ front second in
    let digits : first / 32 ^ k % 32 ≡ second / 32 ^ k % 32 = one.index in
    quotient_same (first / 32 ^ k) (second / 32 ^ k) prefixes digits

-- at the last level the index is the last digit, and the number is the prefix and the index
same_number : (first second levels level : ℕ) → level + 1 ≡ levels → UseOneIndex levels first second level → first ≡ second
same_number first second levels level last one =
    let none : levels - level - 1 ≡ 0 = omega arith in
    let quotient = same_quotient first second levels level (omega arith) one in
    let bare : (n : ℕ) → n / 32 ^ (levels - level - 1) ≡ n = λ n. ap (λ (x : ℕ). n / 32 ^ x) none ∙ div-one n in
    sym (bare first) ∙ quotient ∙ bare second

-- above the last level the next level's key is the same
same_text : (maker : Maker) (first second level : ℕ) (text other : List ℕ) → level + 1 < maker.levels → UseOneIndex maker.levels first second level →
    text_at maker first text level ≡ text_at maker second other level
same_text maker first second level text other within one =
    let k : maker.levels - level - 1 ≡ maker.levels - (level + 1) = omega arith in
    let quotient : first / 32 ^ (maker.levels - level - 1) ≡ second / 32 ^ (maker.levels - level - 1) =
    same_quotient first second maker.levels level (omega arith) one in
    let prefix : prefix_at maker.levels first (level + 1) ≡ prefix_at maker.levels second (level + 1) =
    subst (λ (x : ℕ). first / 32 ^ x ≡ second / 32 ^ x) k quotient in
    text_above maker first text level within
    ∙ ap (λ (x : ℕ). key_bytes (public_of (level_key maker.seed (level + 1) x))) prefix
    ∙ sym (text_above maker second other level within)

-- ---- two calls

pub one_text : (maker after : Maker) (before between later : List SignCall) (first second : SignCall) (level : ℕ) →
    SignsAll maker (before ++ first ∷ between ++ second ∷ later) after → level < maker.levels →
    UseOneIndex maker.levels first.number second.number level →
    (level + 1 < maker.levels) × (text_at maker first.number first.text level ≡ text_at maker second.number second.text level)
one_text maker after before between later first second level signs within one =
    let flat : SignsAll maker (before ++ (first ∷ (between ++ (second ∷ later)))) after =
    subst (λ (calls : List SignCall). SignsAll maker calls after) (append_assoc before (first ∷ between) (second ∷ later)) signs in
    let earlier : first.number ≡ maker.next + length before = (count_up maker after before (between ++ (second ∷ later)) first flat).0 in
    let next : second.number ≡ maker.next + length (before ++ first ∷ between) = (count_up maker after (before ++ first ∷ between) later second signs).0 in
    let long : length (before ++ first ∷ between) ≡ length before + suc (length between) = length-append before (first ∷ between) in
    let differ : first.number < second.number = omega arith in
    elim (cases_lt (level + 1) maker.levels) as (λ _. (level + 1 < maker.levels)
    × (text_at maker first.number first.text level ≡ text_at maker second.number second.text level)) [
      | inl below ↦ (below, same_text maker first.number second.number level first.text second.text below one)
      | inr last ↦
          let same : first.number ≡ second.number = same_number first.number second.number maker.levels level (omega arith) one in
          absurd (omega arith)
    ]
