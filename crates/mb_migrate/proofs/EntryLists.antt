-- Stored entries that are signed, and those that are not.
use Rattle.std.proofs.Common.{◌≡◌, ◌<◌, ℕ, zero, suc, List, [], ◌∷◌, length, map, get_or, None, arith, refl, sym, ap, subst, ◌∙◌, true, true≢false}
use Rattle.std.specs.Prelude.{is_some}
use Rattle.mb_model.specs.declared.entry.Entry.{Entry}
use Rattle.mb_model.specs.declared.entry.SignedEntry.{SignedEntry}
use Rattle.mb_model.specs.declared.entry.PublicEntry.{PublicEntry}
use Rattle.mb_model.specs.memories.OldFlash.{with_signature, without_signature}

signed_there : (signed : List SignedEntry) (i : ℕ) (d : PublicEntry) → i < length (map with_signature signed) → (get_or (map with_signature signed) i d).signature ≡ None → ⊥
signed_there [] i d within none = absurd (omega (arith, within))
signed_there (s ∷ ss) zero d within none = absurd (grind (arith, none))
signed_there (s ∷ ss) (suc i) d within none = signed_there ss i d (omega (arith, within)) none

-- where one has no signature, not all are signed
pub one_unsigned : (entries : List PublicEntry) (i : ℕ) (d : PublicEntry) → i < length entries → (get_or entries i d).signature ≡ None
    → (signed : List SignedEntry) → entries ≡ map with_signature signed → ⊥
one_unsigned entries i d within none signed are =
    signed_there signed i d (subst (λ (es : List PublicEntry). i < length es) are within) (ap (λ (es : List PublicEntry). (get_or es i d).signature) (sym are) ∙ none)

unsigned_there : (unsigned : List Entry) (i : ℕ) (d : PublicEntry) → i < length (map without_signature unsigned) → (get_or (map without_signature unsigned) i d).signature ≡ None
unsigned_there [] i d within = absurd (omega (arith, within))
unsigned_there (s ∷ ss) zero d within = refl
unsigned_there (s ∷ ss) (suc i) d within = unsigned_there ss i d (omega (arith, within))

-- where one has a signature, some are signed
pub one_signed : (entries : List PublicEntry) (i : ℕ) (d : PublicEntry) → i < length entries → is_some (get_or entries i d).signature ≡ true
    → (unsigned : List Entry) → entries ≡ map without_signature unsigned → ⊥
one_signed entries i d within some unsigned are =
    let none : (get_or entries i d).signature ≡ None =
    ap (λ (es : List PublicEntry). (get_or es i d).signature) are ∙ unsigned_there unsigned i d (subst (λ (es : List PublicEntry). i < length es) are within) in
    true≢false (sym some ∙ ap is_some none)
