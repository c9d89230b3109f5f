-- What a flash of the form before holds: one list of codes and one log, which a device has room for.
use Rattle.std.proofs.Common.{◌≡◌, ◌≤◌, ◌+◌, ℕ, List, [], ◌∷◌, ◌++◌, length, map}
use Rattle.std.proofs.Common.{Option, None, Some, refl, ap, sym, ◌∙◌, subst, arith, length-append}
use Rattle.std.specs.Prelude.{IfSome, unwrap_or}
use Rattle.std.proofs.lemmas.List.{length-map}
use Rattle.mb_model.specs.declared.entry.Entry.{Entry}
use Rattle.mb_model.specs.declared.entry.PublicEntry.{PublicEntry}
use Rattle.mb_model.specs.declared.entry.SignedEntry.{SignedEntry}
use Rattle.mb_model.specs.declared.state.Codes.{Codes}
use Rattle.mb_model.specs.declared.stored.Public.{Public}
use Rattle.mb_model.specs.memories.PublicRecord.{code_format, codes_format, public_format}
use Rattle.mb_model.specs.memories.OldFlash.{flash_area, with_signature, without_signature, public_of_parts, HeldPublic}
use Rattle.mb_model.specs.memories.WrittenFlash.{CodesFitSlots}
use Rattle.mb_model.proofs.RecordFormatLaws.{public_exact}
use Rattle.mb_model.proofs.AllowedFields.{codes_fields, public_fields}
use Rattle.mb_model_lemmas.specs.FormLaws.{HoldsOnePublic, HoldsFittingParts}
use Rattle.mb_model_lemmas.proofs.MeaningLemmas.{one_begun, IsBytes-flash_area}
use Rattle.mb_model_lemmas.proofs.PublicLemmas.{public_entries, signed_front, unsigned_rest}

-- ---- stored entries are signed ones and unsigned ones in one way

signed_same : (a b : SignedEntry) → with_signature a ≡ with_signature b → a ≡ b
signed_same a b e =
    let make : Entry → List ℕ → SignedEntry = λ entry signature. record { entry = entry; signature = signature } in
    let entries : a.entry ≡ b.entry = ap (λ (p : PublicEntry). p.entry) e in
    let signatures : a.signature ≡ b.signature = ap (λ (p : PublicEntry). unwrap_or p.signature a.signature) e in
    ap (λ (x : Entry). make x a.signature) entries ∙ ap (make b.entry) signatures

unsigned_same : (a b : Entry) → without_signature a ≡ without_signature b → a ≡ b
unsigned_same a b e = ap (λ (p : PublicEntry). p.entry) e

apart : (a : SignedEntry) (b : Entry) → with_signature a ≡ without_signature b → ⊥
apart a b e = grind (arith, e)

unsigned_only : (us vs : List Entry) → ◌≡◌ {A = List PublicEntry} (map without_signature us) (map without_signature vs) → us ≡ vs
unsigned_only [] [] e = refl
unsigned_only [] (v ∷ vs) e = absurd (omega (arith, ap length e))
unsigned_only (u ∷ us) [] e = absurd (omega (arith, ap length e))
unsigned_only (u ∷ us) (v ∷ vs) e =
    let heads : without_signature u ≡ without_signature v = cc in
    let tails : ◌≡◌ {A = List PublicEntry} (map without_signature us) (map without_signature vs) = cc in
    ap (λ (x : Entry). x ∷ us) (unsigned_same u v heads) ∙ ap (λ (t : List Entry). v ∷ t) (unsigned_only us vs tails)

one_split : (ss ts : List SignedEntry) (us vs : List Entry) → map with_signature ss ++ map without_signature us ≡ map with_signature ts ++ map without_signature vs → (ss ≡ ts) × (us ≡ vs)
one_split [] [] us vs e = (refl, unsigned_only us vs e)
one_split [] (t ∷ ts) [] vs e = absurd (omega (arith, ap length e))
one_split [] (t ∷ ts) (u ∷ us) vs e =
    let heads : without_signature u ≡ with_signature t = cc in
    absurd (apart t u (sym heads))
one_split (s ∷ ss) [] us [] e = absurd (omega (arith, ap length e))
one_split (s ∷ ss) [] us (v ∷ vs) e =
    let heads : with_signature s ≡ without_signature v = cc in
    absurd (apart s v heads)
one_split (s ∷ ss) (t ∷ ts) us vs e =
    let heads : with_signature s ≡ with_signature t = cc in
    let tails : map with_signature ss ++ map without_signature us ≡ map with_signature ts ++ map without_signature vs = cc in
    let rest = one_split ss ts us vs tails in
    (ap (λ (x : SignedEntry). x ∷ ss) (signed_same s t heads) ∙ ap (λ (x : List SignedEntry). t ∷ x) rest.0, rest.1)

pub old_holds_one : HoldsOnePublic HeldPublic
old_holds_one flash root cs ds ss ts us vs are one other =
    let same : public_of_parts cs ss us ≡ public_of_parts ds ts vs =
    one_begun public_format public_exact (flash_area flash root.area) _ _ (IsBytes-flash_area flash root.area are) one.begins other.begins
    in
    let split = one_split ss ts us vs (ap (λ (p : Public). p.entries) same) in
    (ap (λ (p : Public). p.codes) same, split.0, split.1)

-- ---- what is held fits

code_short : (code : Option (List ℕ)) → code_format.Allowed code → IfSome code (λ bytes. length bytes ≤ 32768)
unfolding code_format
code_short None is = tt
code_short (Some code) (_, (size, _)) = size.1

pub codes_short : (codes : Codes) → codes_format.Allowed codes → CodesFitSlots codes
codes_short codes is =
    let its = codes_fields codes is in
    record { one = code_short codes.one its.one; two = code_short codes.two its.two; three = code_short codes.three its.three }

pub old_parts_fit : HoldsFittingParts HeldPublic
old_parts_fit flash root codes signed unsigned held =
    let public : Public = public_of_parts codes signed unsigned in
    let allowed : public_format.Allowed public = held.begins.spelled.allowed in
    let its = public_fields public allowed in
    let count : length public.entries ≡ length signed + length unsigned =
    length-append (map with_signature signed) (map without_signature unsigned)
    ∙ ap (λ (n : ℕ). n + length (map without_signature unsigned)) (length-map signed with_signature)
    ∙ ap (λ (n : ℕ). length signed + n) (length-map unsigned without_signature)
    in
    record {
      codes_fit = codes_short codes its.codes;
      signed_allowed = signed_front signed (map without_signature unsigned) (public_entries public allowed);
      unsigned_allowed = unsigned_rest signed unsigned (public_entries public allowed);
      together = subst (λ (n : ℕ). n ≤ 128) count its.few;
    }
