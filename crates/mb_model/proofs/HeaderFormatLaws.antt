-- Headers of the flash and sectors of the log are read exactly.
use Rattle.std.proofs.Common.{◌≡◌, ℕ, ◌≤◌, ◌<◌, ◌-◌, List, [], ◌∷◌, length, Option, None, Some, Bool, true, false, refl, arith, lit≤, lit<}
use Rattle.std.specs.Prelude.{◌+◌, ◌==◌, nat_le, if◌then◌else◌}
use Rattle.std.specs.Int.{w8}
use Rattle.std.proofs.lemmas.Bool.{leb-false}
use Rattle.mb_format.specs.Reading.{IsExact}
use Rattle.mb_format.specs.Combinators.{limit}
use Rattle.mb_format.proofs.Rules.{exactly}
use Rattle.mb_format.proofs.Fields.{wide8, between_exact}
use Rattle.mb_format.proofs.Compositions.{either_exact, as_value_exact, counted_exact}
use Rattle.mb_model.specs.records.HeaderFormat.{code_length_format, slot_format, entry_bytes_format, unsigned_limit, first_text, second_text, texts_in, unsigned_format, header_format, log_format}

pub code_length_exact : (which : ℕ) → IsExact (code_length_format which)
unfolding code_length_format
code_length_exact which = either_exact (which == 0) (search exactly depth 20) (search exactly depth 20)

pub slot_exact : IsExact slot_format
unfolding slot_format
slot_exact = search (exactly, code_length_exact) depth 20

pub entry_bytes_exact : IsExact entry_bytes_format
unfolding entry_bytes_format
entry_bytes_exact = search exactly depth 20

-- ---- unsigned entries

most_by : (b : Bool) (signed : ℕ) → nat_le (signed + 2) 128 ≡ b → (if b then 2 else 128 - signed) ≤ 2
most_by true signed e = lit≤ tt
most_by false signed e = omega (arith, leb-false (signed + 2) 128 e)

pub few_unsigned : (signed : ℕ) → unsigned_limit signed ≤ 2
few_unsigned signed = most_by (nat_le (signed + 2) 128) signed refl

most_small : (signed : ℕ) → unsigned_limit signed < limit w8
most_small signed =
    let most : 2 < limit w8 = lit< tt in
    omega (arith, few_unsigned signed, most)

-- the first and the second of at most two are all of them
texts_again : (signed : ℕ) (texts : List (List ℕ)) → length texts ≤ unsigned_limit signed → texts_in (first_text texts) (second_text texts) ≡ Some texts
texts_again signed [] few = refl
texts_again signed (a ∷ []) few = refl
texts_again signed (a ∷ b ∷ []) few = refl
texts_again signed (a ∷ b ∷ c ∷ rest) few = absurd (omega (arith, few, few_unsigned signed))

texts_only : (first second : Option (List ℕ)) (texts : List (List ℕ)) → texts_in first second ≡ Some texts → ◌≡◌ {A = Option (List ℕ) × Option (List ℕ)} (first_text texts, second_text texts) (first, second)
texts_only None None texts e =
    let same : ◌≡◌ {A = List (List ℕ)} [] texts = cc in
    rw (← same) refl
texts_only None (Some second) texts e = absurd (grind (arith, e))
texts_only (Some first) None texts e =
    let same : ◌≡◌ {A = List (List ℕ)} (first ∷ []) texts = cc in
    rw (← same) refl
texts_only (Some first) (Some second) texts e =
    let same : ◌≡◌ {A = List (List ℕ)} (first ∷ second ∷ []) texts = cc in
    rw (← same) refl

pub unsigned_exact : (signed : ℕ) → IsExact (unsigned_format signed)
unfolding unsigned_format
unsigned_exact signed =
    as_value_exact (counted_exact (between_exact wide8 (most_small signed)) entry_bytes_exact)
    (λ texts h. texts_again signed texts h.0.1) (λ p texts e. texts_only p.0 p.1 texts e)

-- ---- headers and sectors of the log

pub header_exact : IsExact header_format
unfolding header_format
header_exact = search (exactly, slot_exact, unsigned_exact) depth 20

pub log_exact : IsExact log_format
unfolding log_format
log_exact = search (exactly, entry_bytes_exact) depth 20
