-- Signatures of several levels, taken apart.
use Rattle.std.proofs.Common.{◌≡◌, ℕ, zero, suc, ◌+◌, ◌-◌, Bool, false, List, [], ◌++◌, length, take, drop, refl, sym, ap, subst, ◌∙◌, length-append, append_assoc, append-nil, arith}
use Rattle.std.proofs.lemmas.List.{take_at, drop_at, take-append-drop}
use Rattle.mb_model.specs.declared.key.PublicKey.{PublicKey}
use Rattle.mb_model.specs.signatures.Key.{IsSized, key_bytes}
use Rattle.std.specs.Prelude.{IsTrue, ◌↔◌}
use Rattle.mb_model.specs.signatures.Merkle.{Verifies}
use Rattle.mb_model.proofs.KeyLemmas.{same_parts, length-key_bytes, key_bytes-same}
use Rattle.mb_hss.specs.HssVerification.{SignsNext, VerifiesUnder}
use Rattle.mb_hss.specs.SignatureParts.{signature_length, ArePartsOf, HasNoParts}

-- a signature with a key after its first part is no shorter than these two
pub parts_long : (own rest sig : List ℕ) (next : PublicKey) → IsSized next → sig ≡ own ++ key_bytes next ++ rest →
    length sig ≡ length own + 56 + length rest
parts_long own rest sig next sized e =
    ap length e ∙ simp length-append (omega (arith, length-key_bytes next sized))

-- the key and the rest stand after the first part
pub after_own : (own rest sig : List ℕ) (next : PublicKey) (n : ℕ) → length own ≡ n → sig ≡ own ++ key_bytes next ++ rest →
    drop n sig ≡ key_bytes next ++ rest
after_own own rest sig next n is e =
    ap (drop n) (e ∙ append_assoc own (key_bytes next) rest) ∙ drop_at own (key_bytes next ++ rest) n is

pub key_after_own : (own rest sig : List ℕ) (next : PublicKey) (n : ℕ) → length own ≡ n → IsSized next →
    sig ≡ own ++ key_bytes next ++ rest → take 56 (drop n sig) ≡ key_bytes next
key_after_own own rest sig next n is sized e =
    ap (take 56) (after_own own rest sig next n is e) ∙ take_at (key_bytes next) rest 56 (length-key_bytes next sized)

-- two pieces and the third in a row are the whole
pub joined_parts : (sig own after bytes rest : List ℕ) (next : PublicKey) (n : ℕ) → own ≡ take n sig → after ≡ drop n sig →
    bytes ≡ take 56 after → rest ≡ drop 56 after → key_bytes next ≡ bytes → sig ≡ own ++ key_bytes next ++ rest
joined_parts sig own after bytes rest next n front back first last is =
    let split : bytes ++ rest ≡ after = ap (λ (x : List ℕ). x ++ rest) first ∙ ap (λ (x : List ℕ). take 56 after ++ x) last ∙ take-append-drop 56 after in
    let whole : own ++ after ≡ sig = ap (λ (x : List ℕ). x ++ after) front ∙ ap (λ (x : List ℕ). take n sig ++ x) back ∙ take-append-drop n sig in
    sym (append_assoc own (key_bytes next) rest ∙ ap (λ (x : List ℕ). own ++ (x ++ rest)) is ∙ ap (λ (x : List ℕ). own ++ x) split ∙ whole)

-- what is taken apart is taken apart in one way
pub one_way : (key next other : PublicKey) (sig own rest first last : List ℕ) → length own ≡ signature_length key → IsSized next →
    sig ≡ own ++ key_bytes next ++ rest → SignsNext key sig first other last → (first ≡ own) × (other ≡ next) × (last ≡ rest)
one_way key next other sig own rest first last long sized e signs =
    let flat : first ++ (key_bytes other ++ last) ≡ own ++ (key_bytes next ++ rest) =
    sym (append_assoc first (key_bytes other) last) ∙ sym signs.parts ∙ e ∙ append_assoc own (key_bytes next) rest in
    let front = same_parts first own (key_bytes other ++ last) (key_bytes next ++ rest) (signs.signed.form.sized ∙ sym long) flat in
    let back = same_parts (key_bytes other) (key_bytes next) last rest (length-key_bytes other signs.sized ∙ sym (length-key_bytes next sized)) front.1 in
    (front.0, key_bytes-same other next signs.sized sized back.0, back.1)

-- the last level
pub under_last : (key : PublicKey) (n : ℕ) (text sig : List ℕ) (r : Bool) → n ≡ 0 → (IsTrue r ↔ Verifies key text sig) →
    IsTrue r ↔ VerifiesUnder key n text sig
unfolding VerifiesUnder
under_last key zero text sig r none is = is
under_last key (suc n) text sig r none is = absurd (omega arith)

-- a level above the last, whose signature can't be taken apart
pub under_none : (key : PublicKey) (n : ℕ) (text sig : List ℕ) → (n ≡ 0 → ⊥) → HasNoParts key sig → VerifiesUnder key n text sig → ⊥
unfolding VerifiesUnder
under_none key zero text sig some none under = some refl
under_none key (suc n) text sig some none (own, rest, next, signs, below) =
    none own rest next (record { long = signs.signed.form.sized; sized = signs.sized; parts = signs.parts })

-- one whose signature can
pub under_apart : (key next : PublicKey) (n : ℕ) (text sig own rest : List ℕ) → (n ≡ 0 → ⊥) → ArePartsOf key sig own next rest →
    VerifiesUnder key n text sig → Verifies key (key_bytes next) own × VerifiesUnder next (n - 1) text rest
unfolding VerifiesUnder
under_apart key next zero text sig own rest some apart under = absurd (some refl)
under_apart key next (suc n) text sig own rest some apart (first, last, other, signs, below) =
    let same = one_way key next other sig own rest first last apart.long apart.sized apart.parts signs in
    let P : List ℕ → PublicKey → Type 0 = λ x y. Verifies key (key_bytes y) x in
    let one : n ≡ suc n - 1 = omega arith in
    let Q : ℕ → PublicKey → List ℕ → Type 0 = λ m y z. VerifiesUnder y m text z in (
      subst (λ x. P x next) same.0 (subst (P first) same.1 signs.signed),
      subst (λ m. Q m next rest) one (subst (λ y. Q n y rest) same.1 (subst (Q n other) same.2 below)),
    )

pub under_from : (key next : PublicKey) (n : ℕ) (text sig own rest : List ℕ) → (n ≡ 0 → ⊥) → ArePartsOf key sig own next rest →
    Verifies key (key_bytes next) own → VerifiesUnder next (n - 1) text rest → VerifiesUnder key n text sig
unfolding VerifiesUnder
under_from key next zero text sig own rest some apart signed below = absurd (some refl)
under_from key next (suc n) text sig own rest some apart signed below =
    let one : suc n - 1 ≡ n = omega arith in
    let Q : ℕ → Type 0 = λ m. VerifiesUnder next m text rest in
    (own, rest, next, record { parts = apart.parts; sized = apart.sized; signed = signed }, subst Q one below)

-- the text of an upper level is handed over as the key's bytes and nothing
pub whole_text : (bytes text : List ℕ) → bytes ≡ text → bytes ++ [] ≡ text
whole_text bytes text e = append-nil bytes ∙ e

-- a test that is false, of what can't be
pub never : (P : Type 0) → (P → ⊥) → IsTrue false ↔ P
never P hopeless = (λ h. cc, λ p. absurd (hopeless p))
