-- The text of `devices` tells all but the hashes of entries.
use Rattle.std.proofs.Common.{◌≡◌, ◌≢◌, ℕ, zero, suc, ◌+◌, ◌%◌, ◌<◌, ◌^◌, List, [], ◌∷◌, ◌++◌, length, map, Option, Some, None, true, false, true≢false, inl, inr, refl, sym, ap, subst, ◌∙◌, arith, rules, append_assoc}
use Rattle.std.specs.Prelude.{codes}
use Rattle.std.specs.Fmt.{decimal}
use Rattle.std.specs.List.{AllByRecursion}
use Rattle.std.proofs.lemmas.List.{append_cancel_left, drop_at, length-map}
use Rattle.std.proofs.lemmas.Fmt.{decimal_by_steps}
use Rattle.std.proofs.lemmas.List.Concat.{flat_map-cons}
use Rattle.std.proofs.lemmas.List.Elements.{All-nil, All-cons, All-append, All-same, All-weaker}
use Rattle.hex.specs.Hex.{is_hex_digit}
use Rattle.hex.proofs.HexLemmas.{decode_of-ok}
use Rattle.mb_format.specs.Format.{IsBytes, Spells}
use Rattle.mb_format.specs.Combinators.{raw, optional, items}
use Rattle.mb_format.proofs.Exact.{IsBytes-drop, IsBytes-spelled}
use Rattle.mb_model.specs.outside.Texts.{IsHex, line_with_lf}
use Rattle.mb_model.specs.chains.Lines.{spaced_words, hex_word, text_of}
use Rattle.mb_model_lemmas.proofs.LineLemmas.{Without, isnt, first_same, cons_none}
use Rattle.mb_model_lemmas.proofs.WordLemmas.{number_front, IsHex-same, hex_word-read}
use Rattle.mb_fleet.specs.declared.row.Row.{Row}
use Rattle.mb_fleet.specs.declared.row.CodeHashes.{CodeHashes}
use Rattle.mb_fleet.specs.RegisterFormat.{code_hashes_format, hashes_format, row_format, last_serial, rows_format, register_word, register_format}
use Rattle.mb_tools_fleet.specs.RegisterCommands.{hash_word, row_line, devices_lines}
use Rattle.mb_tools_fleet.specs.FleetLaws.{ShownRow, shown_of, DevicesShowAllRows, RegistersBeginEmpty}

-- ---- words

-- bytes that a hexadecimal word has not
abbrev IsApart : ℕ → Type 0
IsApart byte = (is_hex_digit byte ≡ false) × (byte ≢ 45)

hex_without : (s : ℕ) → IsApart s → (word bytes : List ℕ) → IsHex word bytes → Without s word
hex_without s apart word bytes (inl dash) =
    All-same (isnt s) word (codes "-") dash.0 (All-cons (isnt s) 45 [] (λ e. apart.1 (sym e)) (All-nil (isnt s)))
hex_without s apart word bytes (inr digits) =
    All-weaker (λ (byte : ℕ). is_hex_digit byte ≡ true) (isnt s)
    (λ byte digit e. true≢false (sym digit ∙ ap is_hex_digit e ∙ apart.0)) word (decode_of-ok word bytes digits.1).1

word_without : (s : ℕ) → IsApart s → (bytes : List ℕ) → IsBytes bytes → Without s (hex_word bytes)
word_without s apart bytes are = hex_without s apart (hex_word bytes) bytes (hex_word-read bytes are)

word_same : (a b : List ℕ) → IsBytes a → IsBytes b → hex_word a ≡ hex_word b → a ≡ b
word_same a b first second e = IsHex-same (hex_word a) (hex_word b) a b e (hex_word-read a first) (hex_word-read b second)

-- the hash of a code, if there is one, has 32 bytes
abbrev IsCodeHash : Option (List ℕ) → Type 0
IsCodeHash None = Unit {0}
IsCodeHash (Some hash) = IsBytes hash × (length hash ≡ 32)

hash_without : (s : ℕ) → IsApart s → (hash : Option (List ℕ)) → IsCodeHash hash → Without s (hash_word hash)
hash_without s apart None is = All-cons (isnt s) 45 [] (λ e. apart.1 (sym e)) (All-nil (isnt s))
hash_without s apart (Some hash) is = word_without s apart hash is.0

no_hash : (hash : List ℕ) → length hash ≡ 32 → IsBytes hash → codes "-" ≡ hex_word hash → ⊥
no_hash hash long are e = omega (arith, long, ap length (word_same [] hash (λ i. omega arith) are e))

hash_same : (a b : Option (List ℕ)) → IsCodeHash a → IsCodeHash b → hash_word a ≡ hash_word b → a ≡ b
hash_same None None first second e = refl
hash_same None (Some hash) first second e = absurd (no_hash hash second.1 second.0 e)
hash_same (Some hash) None first second e = absurd (no_hash hash first.1 first.0 (sym e))
hash_same (Some a) (Some b) first second e = ap (λ (h : List ℕ). Some h) (word_same a b first.0 second.0 e)

-- ---- lines

-- what a line tells from others
record IsTellable (row : Row) : Type 0 where
  serial : IsBytes row.serial
  number : row.number < 2 ^ 64
  entries : length row.hashes < 2 ^ 64
  one : IsCodeHash row.code.one
  two : IsCodeHash row.code.two
  three : IsCodeHash row.code.three

-- words, and a text after them
spaced_then : (word other : List ℕ) (words : List (List ℕ)) (text : List ℕ) → spaced_words (word ∷ other ∷ words) ++ text ≡ word ++ 32 ∷ (spaced_words (other ∷ words) ++ text)
spaced_then word other words text = append_assoc word (32 ∷ spaced_words (other ∷ words)) text

-- the line of a device before the rest of a text, word by word
laid : Row → List ℕ → List ℕ
laid row rest =
    codes "device" ++ 32 ∷ (hex_word row.serial ++ 32 ∷ (decimal (length row.hashes) ++ 32 ∷ (decimal row.number
    ++ 32 ∷ (hash_word row.code.one ++ 32 ∷ (hash_word row.code.two ++ 32 ∷ (hash_word row.code.three ++ 10 ∷ rest))))))

laid_is : (row : Row) (rest : List ℕ) → row_line row ++ 10 ∷ rest ≡ laid row rest
unfolding laid
laid_is row rest =
    let three = hash_word row.code.three in
    let two = hash_word row.code.two in
    let one = hash_word row.code.one in
    let number = decimal row.number in
    let entries = decimal (length row.hashes) in
    let serial = hex_word row.serial in
    let text : List ℕ = 10 ∷ rest in
    spaced_then (codes "device") serial (entries ∷ number ∷ one ∷ two ∷ three ∷ []) text
    ∙ ap (λ (t : List ℕ). codes "device" ++ 32 ∷ t) (spaced_then serial entries (number ∷ one ∷ two ∷ three ∷ []) text
    ∙ ap (λ (t : List ℕ). serial ++ 32 ∷ t) (spaced_then entries number (one ∷ two ∷ three ∷ []) text
    ∙ ap (λ (t : List ℕ). entries ++ 32 ∷ t) (spaced_then number one (two ∷ three ∷ []) text
    ∙ ap (λ (t : List ℕ). number ++ 32 ∷ t) (spaced_then one two (three ∷ []) text
    ∙ ap (λ (t : List ℕ). one ++ 32 ∷ t) (spaced_then two three [] text)))))

space_apart : IsApart 32
space_apart = (refl, λ e. omega (arith, e))

lf_apart : IsApart 10
lf_apart = (refl, λ e. omega (arith, e))

same_code : (a b : CodeHashes) → a.one ≡ b.one → a.two ≡ b.two → a.three ≡ b.three → a ≡ b
same_code a b one two three = search (rules, one, two, three)

same_shown : (row other : Row) → row.serial ≡ other.serial → length row.hashes ≡ length other.hashes → row.number ≡ other.number → row.code ≡ other.code
    → shown_of row ≡ shown_of other
same_shown row other serial entries number code = cc

-- one line before a text tells its device
laid_same : (row other : Row) (rest more : List ℕ) → IsTellable row → IsTellable other → laid row rest ≡ laid other more → (shown_of row ≡ shown_of other) × (rest ≡ more)
unfolding laid
laid_same row other rest more is that e =
    let begun = append_cancel_left (codes "device ") _ _ e in
    let serials = first_same 32 (hex_word row.serial) (hex_word other.serial) _ _ (word_without 32 space_apart row.serial is.serial) (word_without 32 space_apart other.serial that.serial) begun in
    let entries = number_front (length row.hashes) (length other.hashes) _ _ is.entries that.entries serials.1 in
    let numbers = number_front row.number other.number _ _ is.number that.number entries.1 in
    let ones = first_same 32 (hash_word row.code.one) (hash_word other.code.one) _ _ (hash_without 32 space_apart row.code.one is.one) (hash_without 32 space_apart other.code.one that.one) numbers.1 in
    let twos = first_same 32 (hash_word row.code.two) (hash_word other.code.two) _ _ (hash_without 32 space_apart row.code.two is.two) (hash_without 32 space_apart other.code.two that.two) ones.1 in
    let threes = first_same 10 (hash_word row.code.three) (hash_word other.code.three) rest more (hash_without 10 lf_apart row.code.three is.three) (hash_without 10 lf_apart other.code.three that.three) twos.1 in
    let code = same_code row.code other.code (hash_same row.code.one other.code.one is.one that.one ones.0) (hash_same row.code.two other.code.two is.two that.two twos.0)
    (hash_same row.code.three other.code.three is.three that.three threes.0) in
    (same_shown row other (word_same row.serial other.serial is.serial that.serial serials.0) entries.0 numbers.0 code, threes.1)

-- ---- texts

line_then : (line : List ℕ) (lines : List (List ℕ)) → text_of (line ∷ lines) ≡ line ++ 10 ∷ text_of lines
line_then line lines = flat_map-cons line_with_lf line lines ∙ append_assoc line (10 ∷ []) (text_of lines)

rows_text : (row : Row) (rows : List Row) → text_of (map row_line (row ∷ rows)) ≡ laid row (text_of (map row_line rows))
rows_text row rows = line_then (row_line row) (map row_line rows) ∙ laid_is row (text_of (map row_line rows))

none_laid : (row : Row) (rest : List ℕ) → [] ≡ laid row rest → ⊥
unfolding laid
none_laid row rest e = cons_none _ _ e

rows_same : (rows others : List Row) → AllByRecursion IsTellable rows → AllByRecursion IsTellable others → text_of (map row_line rows) ≡ text_of (map row_line others)
    → map shown_of rows ≡ map shown_of others
rows_same [] [] all that e = refl
rows_same [] (other ∷ others) all that e = absurd (none_laid other _ (e ∙ rows_text other others))
rows_same (row ∷ rows) [] all that e = absurd (none_laid row _ (sym e ∙ rows_text row rows))
rows_same (row ∷ rows) (other ∷ others) all that e =
    let parts = laid_same row other _ _ all.0 that.0 (sym (rows_text row rows) ∙ e ∙ rows_text other others) in
    let first = parts.0 in
    let later = rows_same rows others all.1 that.1 parts.1 in
    cc

-- ---- what a file spells can be told

bytes_front : (xs ys : List ℕ) → IsBytes (xs ++ ys) → IsBytes xs
bytes_front xs ys are = IsBytes-spelled (xs ++ ys) xs ys are refl

bytes_back : (xs ys : List ℕ) → IsBytes (xs ++ ys) → IsBytes ys
bytes_back xs ys are = subst IsBytes (drop_at xs ys (length xs) refl) (IsBytes-drop (length xs) (xs ++ ys) are)

hash_told : (hash : Option (List ℕ)) → (optional (raw 32)).Allowed hash → IsBytes ((optional (raw 32)).spelling hash) → IsCodeHash hash
hash_told None allowed are = tt
hash_told (Some hash) allowed are = (bytes_back _ hash are, allowed.1)

row_told : (last : Option (List ℕ)) (row : Row) → (row_format last).Allowed row → IsBytes ((row_format last).spelling row) → IsTellable row
unfolding row_format code_hashes_format hashes_format
row_told last row allowed are =
    let after_serial = bytes_back row.serial _ are in
    let after_number = bytes_back _ _ after_serial in
    let code = bytes_front _ _ after_number in
    let after_one = bytes_back _ _ code in
    record {
      serial = bytes_front row.serial _ are;
      number = omega (arith, allowed.1.0);
      entries = omega (arith, allowed.1.1.1.0.1);
      one = hash_told row.code.one allowed.1.1.0.0 (bytes_front _ _ code);
      two = hash_told row.code.two allowed.1.1.0.1.0 (bytes_front _ _ after_one);
      three = hash_told row.code.three allowed.1.1.0.1.1 (bytes_back _ _ after_one);
    }

rows_told : (n : ℕ) (last : Option (List ℕ)) (rows : List Row) → (items row_format last_serial n last).Allowed rows → IsBytes ((items row_format last_serial n last).spelling rows)
    → AllByRecursion IsTellable rows
unfolding items
rows_told zero last [] allowed are = tt
rows_told zero last (row ∷ rows) allowed are = absurd (omega (arith, ap length allowed))
rows_told (suc n) last [] allowed are = tt
rows_told (suc n) last (row ∷ rows) allowed are = (
  row_told last row allowed.0 (bytes_front ((row_format last).spelling row) _ are),
  rows_told n (Some row.serial) rows allowed.1 (bytes_back ((row_format last).spelling row) _ are),
)

register_told : (bytes : List ℕ) (rows : List Row) → IsBytes bytes → Spells register_format bytes rows → AllByRecursion IsTellable rows
unfolding register_format rows_format
register_told bytes rows are spells =
    rows_told (length rows) None rows spells.allowed.1.1 (bytes_back _ _ (bytes_back register_word _ (subst IsBytes spells.whole are)))

few_rows : (bytes : List ℕ) (rows : List Row) → Spells register_format bytes rows → length rows < 2 ^ 64
unfolding register_format rows_format
few_rows bytes rows spells = omega (arith, spells.allowed.1.0.1)

-- ---- the law

-- a number has no LF
decimal_without : (n : ℕ) → n < 2 ^ 64 → Without 10 (decimal n)
decimal_without n fits =
    decimal_by_steps (λ m ds. Without 10 ds)
    (λ m less. All-cons (isnt 10) (48 + m) [] (λ e. omega (arith, e)) (All-nil (isnt 10)))
    (λ m ds least more. All-append (isnt 10) ds ((48 + m % 10) ∷ []) more (All-cons (isnt 10) (48 + m % 10) [] (λ e. omega (arith, e)) (All-nil (isnt 10))))
    n fits

count_then : (n : ℕ) (text : List ℕ) → spaced_words (codes "devices" ∷ decimal n ∷ []) ++ 10 ∷ text ≡ codes "devices " ++ (decimal n ++ 10 ∷ text)
count_then n text = refl

told : (first second : List ℕ) (rows others : List Row) → IsBytes first → IsBytes second → Spells register_format first rows → Spells register_format second others
    → text_of (devices_lines rows) ≡ text_of (devices_lines others) → map shown_of rows ≡ map shown_of others
told first second rows others are that spelled other e =
    let begun = append_cancel_left (codes "devices ") _ _ (sym (count_then (length rows) (text_of (map row_line rows))) ∙ sym (line_then (spaced_words (codes "devices" ∷ decimal (length rows) ∷ [])) (map row_line rows)) ∙ e
    ∙ line_then (spaced_words (codes "devices" ∷ decimal (length others) ∷ [])) (map row_line others) ∙ count_then (length others) (text_of (map row_line others))) in
    let parts = first_same 10 (decimal (length rows)) (decimal (length others)) _ _ (decimal_without (length rows) (few_rows first rows spelled)) (decimal_without (length others) (few_rows second others other)) begun in
    rows_same rows others (register_told first rows are spelled) (register_told second others that other) parts.1

-- the line of a device by what is shown of it
shown_line : ShownRow → List ℕ
shown_line shown = spaced_words (
    codes "device" ∷ hex_word shown.serial ∷ decimal shown.entries ∷ decimal shown.number
    ∷ hash_word shown.code.one ∷ hash_word shown.code.two ∷ hash_word shown.code.three ∷ [])

shown_lines : (rows : List Row) → map row_line rows ≡ map shown_line (map shown_of rows)
unfolding shown_line
shown_lines [] = refl
shown_lines (row ∷ rows) = ap (λ (lines : List (List ℕ)). row_line row ∷ lines) (shown_lines rows)

hidden : (rows others : List Row) → map shown_of rows ≡ map shown_of others → devices_lines rows ≡ devices_lines others
hidden rows others same =
    let count : length rows ≡ length others = sym (length-map rows shown_of) ∙ ap length same ∙ length-map others shown_of in
    let lines : map row_line rows ≡ map row_line others = shown_lines rows ∙ ap (map shown_line) same ∙ sym (shown_lines others) in
    ap (λ (n : ℕ). spaced_words (codes "devices" ∷ decimal n ∷ []) ∷ map row_line rows) count
    ∙ ap (λ (ls : List (List ℕ)). spaced_words (codes "devices" ∷ decimal (length others) ∷ []) ∷ ls) lines

pub devices_show_all_rows : DevicesShowAllRows
devices_show_all_rows = record { told = told; hidden = hidden }

-- ---- a new register

pub registers_begin_empty : RegistersBeginEmpty
unfolding register_format rows_format items
registers_begin_empty name = record { allowed = (tt, ((omega arith, omega arith), refl)); whole = refl }
