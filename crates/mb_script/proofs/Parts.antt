-- Parts of a line: each is what stands there in one way only.
use Rattle.std.proofs.Common.{◌≡◌, ◌≢◌, ℕ, ◌-◌, ◌*◌, ◌/◌, ◌≤◌, inl, inr, List, [], ◌∷◌, ◌++◌, length, take, drop, replicate, refl, sym, ap, ◌∙◌, ◌↔◌, arith, Bool, true, not, ◌&&◌, eq-eqb}
use Rattle.std.specs.Prelude.{◌==◌, nat_le, All, codes, IsTrue, IfSome, Option, None, Some, Result, Ok, Err}
use Rattle.std.specs.Fmt.{decimal}
use Rattle.std.proofs.lemmas.Bool.{and_parts, le-leb, leb-true}
use Rattle.std.specs.Result.{MatchResult}
use Rattle.std.proofs.lemmas.List.{append_cancel_left, length-take, length-replicate, drop-replicate}
use Rattle.std.proofs.lemmas.List.Elements.{All-nil, All-cons, All-head, All-tail}
use Rattle.hex.specs.Hex.{decode_of, decode_sized}
use Rattle.hex.specs.declared.error.FromHexError.{FromHexError}
use Rattle.hex.proofs.HexLemmas.{decode_of-ok, decode_sized-ok, decode_sized-twice}
use Rattle.mb_model.specs.declared.limits.TheConstants.{NAME_LIMIT}
use Rattle.mb_model.specs.records.RegionFormat.{is_name, is_name_byte}
use Rattle.mb_model.specs.chains.Lines.{IsNumber, number_limit}
use Rattle.mb_model.specs.declared.event.Tear.{Tear}
use Rattle.mb_model.specs.chains.Script.{IsName, called_word, tear_of}
use Rattle.mb_model_lemmas.proofs.LineLemmas.{Without, isnt, cons_same, first_same, first_none}
use Rattle.mb_model_lemmas.proofs.WordLemmas.{no_dash, number_front, limited_fits, decimal_spaceless, upper_fits, name_spaceless, upper_within}
use Rattle.mb_words.specs.Words.{IsSplit}
use Rattle.mb_script.specs.Reading.{HasNumberFirst, HasRegionFirst, HasKeyFirst, HasNameFirst, SaysSecret, SaysTail, kept_some, none, IsFill}

-- ---- bytes without a byte

abbrev without_test : ℕ → List ℕ → Bool
without_test s [] = true
without_test s (byte ∷ bytes) = not (byte == s) && without_test s bytes

pub Without-from_test : (s : ℕ) (bytes : List ℕ) → without_test s bytes ≡ true → Without s bytes
Without-from_test s [] h = All-nil (isnt s)
Without-from_test s (byte ∷ bytes) h =
    let parts = and_parts (not (byte == s)) (without_test s bytes) h in
    let here = parts.0 in
    All-cons (isnt s) byte bytes (λ is. let same : (byte == s) ≡ true = eq-eqb byte s is in cc) (Without-from_test s bytes parts.1)

-- ---- words with a space after them

-- the word before the first space, and a number before a space
pub number_word : (most : ℕ) (text word remaining : List ℕ) (number : ℕ) (rest : List ℕ) → most ≤ number_limit → IsSplit 32 text word remaining
    → HasNumberFirst most text number rest → IsNumber most word number × (remaining ≡ rest)
number_word most text word remaining number rest small split has =
    let parts = first_same 32 word (decimal number) remaining rest split.first (decimal_spaceless number (omega (arith, has.within, small))) (sym split.whole ∙ has.whole) in
    ((parts.0, has.within), parts.1)

pub number_none : (most : ℕ) (text : List ℕ) (number : ℕ) (rest : List ℕ) → Without 32 text → HasNumberFirst most text number rest → ⊥
number_none most text number rest without has = first_none 32 text (decimal number) rest without has.whole

pub number_same : (most : ℕ) (text : List ℕ) (m n : ℕ) (a b : List ℕ) → most ≤ number_limit → HasNumberFirst most text m a → HasNumberFirst most text n b → (m ≡ n) × (a ≡ b)
number_same most text m n a b small ha hb =
    number_front m n a b (omega (arith, ha.within, small)) (omega (arith, hb.within, small)) (sym ha.whole ∙ hb.whole)

pub region_same : (text : List ℕ) (m n : ℕ) (a b : List ℕ) → HasRegionFirst text m a → HasRegionFirst text n b → (m ≡ n) × (a ≡ b)
region_same text m n a b ha hb = number_front m n a b (upper_fits m ha.upper) (upper_fits n hb.upper) (sym ha.whole ∙ hb.whole)

-- a region is a number of at most 3, and at least 2
pub region_number : (text : List ℕ) (region : ℕ) (rest : List ℕ) → HasRegionFirst text region rest → HasNumberFirst 3 text region rest × (2 ≤ region)
region_number text region rest has =
    let within = upper_within region has.upper in
    (record { within = within.1; whole = has.whole }, within.0)

-- a key before a space: a number begins with a digit, and is no dash
pub key_same : (text : List ℕ) (j k : Option ℕ) (a b : List ℕ) → HasKeyFirst text j a → HasKeyFirst text k b → a ≡ b
key_same text None None a b ha hb = append_cancel_left (codes "- ") a b (sym ha.whole ∙ hb.whole)
key_same text None (Some k) a b ha hb = absurd (no_dash k (limited_fits k hb.within) (32 ∷ a) (32 ∷ b) (sym ha.whole ∙ hb.whole))
key_same text (Some j) None a b ha hb = absurd (no_dash j (limited_fits j ha.within) (32 ∷ b) (32 ∷ a) (sym hb.whole ∙ ha.whole))
key_same text (Some j) (Some k) a b ha hb =
    (number_front j k a b (limited_fits j ha.within) (limited_fits k hb.within) (sym ha.whole ∙ hb.whole)).1

pub name_word : (text word remaining name rest : List ℕ) → IsSplit 32 text word remaining → HasNameFirst text name rest → (word ≡ name) × (remaining ≡ rest)
name_word text word remaining name rest split has =
    first_same 32 word name remaining rest split.first (name_spaceless name has.named) (sym split.whole ∙ has.whole)

pub name_none : (text name rest : List ℕ) → Without 32 text → HasNameFirst text name rest → ⊥
name_none text name rest without has = first_none 32 text name rest without has.whole

pub name_same : (text m n a b : List ℕ) → HasNameFirst text m a → HasNameFirst text n b → (m ≡ n) × (a ≡ b)
name_same text m n a b ha hb =
    first_same 32 m n a b (name_spaceless m ha.named) (name_spaceless n hb.named) (sym ha.whole ∙ hb.whole)

-- ---- what stands after the count of a cut

pub tail_same : (tail a b : List ℕ) (j k : ℕ) → SaysTail tail j a → SaysTail tail k b → (j ≡ k) × (a ≡ b)
tail_same tail a b j k (kept_some mj ea) (kept_some mk eb) =
    let remaining = append_cancel_left (codes "keep ") _ _ (sym ea ∙ eb) in
    let parts = number_front j k (codes "fill " ++ a) (codes "fill " ++ b) (omega (arith, mj)) (omega (arith, mk)) remaining in
    (parts.0, append_cancel_left (codes "fill ") a b parts.1)
tail_same tail a b j k (kept_some mj ea) (none zb eb) = absurd (omega (arith, (cons_same 107 102 _ _ (sym ea ∙ eb)).0))
tail_same tail a b j k (none za ea) (kept_some mk eb) = absurd (omega (arith, (cons_same 102 107 _ _ (sym ea ∙ eb)).0))
tail_same tail a b j k (none za ea) (none zb eb) = (za ∙ sym zb, append_cancel_left (codes "fill ") a b (sym ea ∙ eb))

-- ---- bytes that fill

dash_one : (word fill : List ℕ) → IsFill word fill → (word ≢ []) × (decode_of word ≡ Ok fill)
dash_one word fill is =
    elim is.spelled [
      | inl dash ↦ absurd (omega (arith, ap length dash.1, is.some))
      | inr digits ↦ digits
    ]

-- a word that fills is digits, two for each byte
pub fill_digits : (word fill : List ℕ) → IsFill word fill → (decode_of word ≡ Ok fill) × (length word ≡ 2 * length fill)
fill_digits word fill is =
    let digits = (dash_one word fill is).1 in
    (digits, (decode_of-ok word fill digits).2)

-- no byte, or more than 16
pub fill_sized : (word fill : List ℕ) → IsFill word fill → (1 ≤ length word / 2) × (length word / 2 ≤ 16)
fill_sized word fill is =
    let twice = (fill_digits word fill is).1 in
    let some = is.some in
    let most = is.most in
    (omega arith, omega arith)

decoded : (out : List ℕ) (u : Unit {0}) (r : Result (Unit {0}) FromHexError) (d : Result (List ℕ) FromHexError) → r ≡ Ok u
    → MatchResult d (λ bytes. (r ≡ Ok tt) × (out ≡ bytes)) (λ e. r ≡ Err e) → d ≡ Ok out
decoded out u r (Ok bytes) is h = ap (λ (x : List ℕ). Ok x) (sym h.1)
decoded out u r (Err e) is h = absurd (cc (sym is ∙ h))

-- what is decoded into the first part of a field fills, and zeros stand after it
pub tear_read : (word out zeros : List ℕ) (keep k : ℕ) (u : Unit {0}) (r : Result (Unit {0}) FromHexError) → r ≡ Ok u → k ≡ length word / 2 → k ≢ 0 → k ≤ 16 → zeros ≡ replicate 16 0
    → MatchResult (decode_sized word (length (take k zeros))) (λ bytes. (r ≡ Ok tt) × (out ≡ bytes)) (λ e. r ≡ Err e)
    → (fill : List ℕ) × IsFill word fill × (let tear : Tear = record { keep = keep; fill = out ++ drop k zeros; fill_length = k } in tear ≡ tear_of keep fill)
tear_read word out zeros keep k u r is half some most blank h =
    let n = length (take k zeros) in
    let sized = decoded out u r (decode_sized word n) is h in
    let n_is : n ≡ k = omega (arith, length-take k zeros, ap length blank, length-replicate {A = ℕ} 16 0) in
    let twice = decode_sized-ok word n out sized in
    let digits = sym (decode_sized-twice word n twice) ∙ sized in
    let long = (decode_of-ok word out digits).2 in
    let count : length out ≡ k = omega arith in
    let remaining : drop k zeros ≡ replicate (16 - length out) 0 =
    ap (λ (x : List ℕ). drop k x) blank ∙ drop-replicate k 16 0 ∙ ap (λ (m : ℕ). replicate (16 - m) 0) (sym count) in (
      out,
      record {
        spelled = inr (λ none. omega (arith, ap length none, twice, n_is, some), digits);
        some = omega (arith, some, count);
        most = omega (arith, most, count);
      },
      λ i. record { keep = keep; fill = out ++ remaining i; fill_length = sym count i },
    )

-- ---- a line's words, one after another

pub secret_name : (text : List ℕ) (m n : ℕ) (a name : List ℕ) → HasRegionFirst text m a → SaysSecret text n name → a ≡ name
secret_name text m n a name has says =
    (region_same text m n a name has (record { upper = says.upper; whole = says.whole })).1

pub put_name : (text : List ℕ) (m n : ℕ) (rest name word : List ℕ) → HasRegionFirst text m rest → HasRegionFirst text n (name ++ 32 ∷ word) → IsName name → HasNameFirst rest name word
put_name text m n rest name word has first named = record { named = named; whole = (region_same text m n rest (name ++ 32 ∷ word) has first).1 }

pub put_word : (text : List ℕ) (m n : ℕ) (rest a b v w : List ℕ) → HasRegionFirst text m rest → HasNameFirst rest a v → HasRegionFirst text n (b ++ 32 ∷ w) → IsName b → v ≡ w
put_word text m n rest a b v w has name first named = (name_same rest a b v w name (put_name text m n rest b w has first named)).1

pub sign_key : (text : List ℕ) (m n key : ℕ) (rest word : List ℕ) → HasRegionFirst text m rest → HasRegionFirst text n (decimal key ++ 32 ∷ word) → key ≤ number_limit → HasNumberFirst number_limit rest key word
sign_key text m n key rest word has first within = record { within = within; whole = (region_same text m n rest (decimal key ++ 32 ∷ word) has first).1 }

pub sign_word : (text : List ℕ) (m n j k : ℕ) (rest v w : List ℕ) → HasRegionFirst text m rest → HasNumberFirst number_limit rest j v → HasRegionFirst text n (decimal k ++ 32 ∷ w) → k ≤ number_limit → v ≡ w
sign_word text m n j k rest v w has number first within =
    (number_same number_limit rest j k v w (omega arith) number (sign_key text m n k rest w has first within)).1

pub call_key : (text : List ℕ) (m n : ℕ) (key : Option ℕ) (rest word : List ℕ) → HasRegionFirst text m rest → HasRegionFirst text n (called_word key ++ 32 ∷ word) → IfSome key (λ number. number ≤ number_limit) → HasKeyFirst rest key word
call_key text m n key rest word has first within = record { within = within; whole = (region_same text m n rest (called_word key ++ 32 ∷ word) has first).1 }

pub call_input : (text : List ℕ) (m n : ℕ) (j k : Option ℕ) (rest v w : List ℕ) → HasRegionFirst text m rest → HasKeyFirst rest j v → HasRegionFirst text n (called_word k ++ 32 ∷ w) → IfSome k (λ number. number ≤ number_limit) → v ≡ w
call_input text m n j k rest v w has key first within = key_same rest j k v w key (call_key text m n k rest w has first within)

-- a tail that begins with a count of kept bytes, and does not go on with the word for what fills
pub tail_none : (text remaining rest : List ℕ) (keep : ℕ) → ((word : List ℕ) → text ≢ codes "fill " ++ word) → text ≡ codes "keep " ++ remaining
    → HasNumberFirst 1048576 remaining keep rest → ((word : List ℕ) → rest ≢ codes "fill " ++ word) → (n : ℕ) (word : List ℕ) → SaysTail text n word → ⊥
tail_none text remaining rest keep first second number third n word (kept_some most whole) =
    let same = append_cancel_left (codes "keep ") remaining (decimal n ++ 32 ∷ (codes "fill " ++ word)) (sym second ∙ whole) in
    third word (number_same 1048576 remaining keep n rest (codes "fill " ++ word) (omega arith) number (record { within = most; whole = same })).1
tail_none text remaining rest keep first second number third n word (none zero whole) = first word whole

-- ---- names

name_bytes : (name : List ℕ) → All (λ byte. (0x21 ≤ byte) × (byte ≤ 0x7E)) name → is_name name ≡ true
name_bytes [] all = refl
name_bytes (x ∷ xs) all =
    let P : ℕ → Type 0 = λ byte. (0x21 ≤ byte) × (byte ≤ 0x7E) in
    let here = All-head P x xs all in
    let low : nat_le 0x21 x ≡ true = le-leb 0x21 x here.0 in
    let high : nat_le x 0x7E ≡ true = le-leb x 0x7E here.1 in
    rw (low, high) (name_bytes xs (All-tail P x xs all))

bytes_name : (name : List ℕ) → is_name name ≡ true → All (λ byte. (0x21 ≤ byte) × (byte ≤ 0x7E)) name
bytes_name [] e = All-nil (λ byte. (0x21 ≤ byte) × (byte ≤ 0x7E))
bytes_name (x ∷ xs) e =
    let parts = and_parts (is_name_byte x) (is_name xs) e in
    let ends = and_parts (nat_le 0x21 x) (nat_le x 0x7E) parts.0 in
    All-cons (λ byte. (0x21 ≤ byte) × (byte ≤ 0x7E)) x xs (leb-true 0x21 x ends.0, leb-true x 0x7E ends.1) (bytes_name xs parts.1)

-- a word that is no longer than a name is one exactly if all its bytes print
pub name_exactly : (word : List ℕ) (is : Bool) → 1 ≤ length word → length word ≤ NAME_LIMIT → is ≡ is_name word → IsTrue is ↔ IsName word
name_exactly word is some most same = (
  (λ true_is. record { some = some; most = most; printed = bytes_name word (sym same ∙ true_is) }),
  (λ name. same ∙ name_bytes word name.printed),
)
