-- The example is read exactly, is short, and is read of a few bytes; and how values are worked out.
use Rattle.std.proofs.Common.{◌≡◌, ℕ, zero, suc, true, ltb, List, [], ◌∷◌, ◌++◌, Some, Err, refl, arith, lit<, lit≤, rules}
use Rattle.std.proofs.lemmas.Bool.{ltb-true}
use Rattle.std.specs.Int.{w8, w16, w32}
use Rattle.std.specs.List.{AllByRecursion}
use Rattle.mb_format.specs.Format.{IsBytes, IsOffset, SpelledAt, Format, IsShort, FailsWhole}
use Rattle.mb_format.specs.Combinators.{items}
use Rattle.mb_format.specs.Reading.{IsExact, IsLocal, reads_whole, raw_at, number_at}
use Rattle.mb_format.specs.Examples.{Choice, Word, Text, Tag, word_tag, text_tag, tag_rows, tag_byte, tag_of, word_in, text_in, choice_body, choice, sample, sample_into, sample_parts, short_bytes, short_sample, mistagged_bytes}
use Rattle.mb_format.proofs.Rules.{exactly}
use Rattle.mb_format.proofs.Fields.{IsTable, wide8, wide16, wide32, number_exact}
use Rattle.mb_format.proofs.Bounds as bounds
use Rattle.mb_format.proofs.Whole.{IsExactWhole-from_exact}

tag_table : IsTable w8 tag_rows tag_byte
tag_table = record { rows_are = search rules; back = elim [ word_tag ↦ refl | text_tag ↦ refl ] }

word_only : (b : Choice) (n : ℕ) → word_in b ≡ Some n → Word n ≡ b
word_only b n e = grind arith

text_only : (b : Choice) (xs : List ℕ) → text_in b ≡ Some xs → Text xs ≡ b
text_only b xs e = grind arith

body_exact : (t : Tag) → IsExact (choice_body t)
body_exact word_tag = search (exactly, word_only) depth 20
body_exact text_tag = search (exactly, text_only) depth 20

tagged : (t : Tag) (b : Choice) → (choice_body t).Allowed b → tag_of b ≡ t
tagged t b h = grind arith

pub choice_exact : IsExact choice
unfolding choice
choice_exact = search (exactly, tag_table, body_exact, tagged) depth 20

pub sample_exact : IsExact sample
unfolding sample
sample_exact = search (exactly, choice_exact) depth 20

-- ---- how long, and how far

body_short : (t : Tag) → IsShort (choice_body t) 33
body_short word_tag = bounds.short_more (bounds.as_value_short Word word_in (bounds.number_short wide32)) (lit≤ tt)
body_short text_tag = bounds.as_value_short Text text_in (bounds.sized_short 0 32 wide8)

choice_short : IsShort choice 34
unfolding choice
choice_short = bounds.led_short tag_of (bounds.table_short tag_rows tag_byte wide8) (λ t h. body_short t)

pub sample_short : IsShort sample 345
unfolding sample
sample_short = bounds.as_record_short sample_into sample_parts
    (bounds.pair_short (bounds.number_short wide16) (bounds.pair_short choice_short
    (bounds.pair_short (bounds.counted_short 0 3 wide8 (bounds.number_short wide16)) (bounds.sized_short 0 300 wide16))))

body_local : (t : Tag) → IsLocal (choice_body t) 33
body_local word_tag = bounds.local_more (bounds.as_value_local Word word_in (bounds.number_local w32)) (lit≤ tt)
body_local text_tag = bounds.as_value_local Text text_in (bounds.sized_local 0 32 wide8 (lit< tt))

choice_local : IsLocal choice 34
unfolding choice
choice_local = bounds.led_local tag_of (search (exactly, tag_table) depth 20) (bounds.table_local w8 tag_rows tag_byte) (λ t h. body_local t)

pub sample_local : IsLocal sample 345
unfolding sample
sample_local = bounds.as_record_local sample_into sample_parts
    (bounds.pair_local (search exactly depth 20) (bounds.number_local w16) (bounds.pair_local choice_exact choice_local
    (bounds.pair_local (search exactly depth 20) (bounds.counted_local 0 3 wide8 (lit< tt) (number_exact wide16) (bounds.number_local w16)) (bounds.sized_local 0 300 wide16 (lit< tt)))))

-- ---- values

pub are_bytes : (bytes : List ℕ) → AllByRecursion (λ b. ltb b 256 ≡ true) bytes → IsBytes bytes
are_bytes [] h i = omega arith
are_bytes (b ∷ bytes) h zero = ltb-true _ _ h.0
are_bytes (b ∷ bytes) h (suc i) = are_bytes bytes h.1 i

-- bytes fail where reading them fails
pub fails_at : {A : Type 0} {f : Format A} → IsExact f → (bytes : List ℕ) (place : ℕ) → AllByRecursion (λ b. ltb b 256 ≡ true) bytes → reads_whole f bytes ≡ Err place → FailsWhole f bytes place
fails_at exact bytes place small e = (IsExactWhole-from_exact exact).fails bytes place (are_bytes bytes small) e

start_of : (bytes : List ℕ) → AllByRecursion (λ b. ltb b 256 ≡ true) bytes → IsOffset bytes 0
start_of bytes h = record { are_bytes = are_bytes bytes h; within = omega arith }

pub short_spelled : SpelledAt sample.spelling sample.Allowed short_bytes 0 short_sample 15
unfolding sample choice items number_at raw_at
short_spelled = sample_exact.found short_bytes 0 short_sample 15 (start_of short_bytes (search rules depth 20)) refl

pub spelled_after_two : SpelledAt sample.spelling sample.Allowed (9 ∷ 9 ∷ short_bytes) 2 short_sample 17
unfolding sample choice items number_at raw_at
spelled_after_two = sample_exact.found (9 ∷ 9 ∷ short_bytes) 2 short_sample 17 (record { are_bytes = are_bytes (9 ∷ 9 ∷ short_bytes) (search rules depth 20); within = lit≤ tt }) refl

pub mistagged : sample.FailsAt mistagged_bytes 0 2
unfolding sample choice items number_at raw_at
mistagged = sample_exact.fails mistagged_bytes 0 2 (start_of mistagged_bytes (search rules depth 20)) refl

pub cut_off : sample.FailsAt (0 ∷ 7 ∷ 2 ∷ 5 ∷ 1 ∷ 2 ∷ []) 0 4
unfolding sample choice items number_at raw_at
cut_off = sample_exact.fails (0 ∷ 7 ∷ 2 ∷ 5 ∷ 1 ∷ 2 ∷ []) 0 4 (start_of (0 ∷ 7 ∷ 2 ∷ 5 ∷ 1 ∷ 2 ∷ []) (search rules depth 20)) refl

pub left_over : FailsWhole sample (short_bytes ++ 0 ∷ []) 15
unfolding sample choice items number_at raw_at
left_over = (IsExactWhole-from_exact sample_exact).fails (short_bytes ++ 0 ∷ []) 15 (are_bytes (short_bytes ++ 0 ∷ []) (search rules depth 20)) refl
