-- How parts of a header are spelled in each case: the length of a layer's code, and the unsigned entries.
use Rattle.std.proofs.Common.{◌≡◌, ℕ, Bool, true, false, List, ◌++◌, Some, None, refl, append-nil}
use Rattle.std.specs.Prelude.{◌==◌}
use Rattle.std.specs.Int.{w8, w32}
use Rattle.mb_format.specs.Combinators.{number, between, either, items}
use Rattle.mb_model.specs.records.HeaderFormat.{code_length_format, entry_bytes_format, unsigned_format}

-- whether a slot is named or not
pub code_length_spelling : (which length : ℕ) → (code_length_format which).spelling length ≡ (number w32).spelling length
unfolding code_length_format
code_length_spelling which length =
    elim (which == 0) as (λ (none : Bool). (either none (between w32 0 0) (between w32 0 32768)).spelling length ≡ (number w32).spelling length) [ true ↦ refl | false ↦ refl ]

pub one_text_spelling : (signed : ℕ) (first : List ℕ) → (unsigned_format signed).spelling (Some first, None) ≡ (number w8).spelling 1 ++ entry_bytes_format.spelling first
unfolding unsigned_format items
one_text_spelling signed first = rw (append-nil (entry_bytes_format.spelling first)) refl

pub two_texts_spelling : (signed : ℕ) (first second : List ℕ) → (unsigned_format signed).spelling (Some first, Some second) ≡ (number w8).spelling 2 ++ (entry_bytes_format.spelling first ++ entry_bytes_format.spelling second)
unfolding unsigned_format items
two_texts_spelling signed first second = rw (append-nil (entry_bytes_format.spelling second)) refl
