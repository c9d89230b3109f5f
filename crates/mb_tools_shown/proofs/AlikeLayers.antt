-- Lines that tell the same layer: a layer is read back, or two owners' keys have one hash.
use Rattle.std.proofs.Common.{◌≡◌, ◌≢◌, ◌⊎◌, ℕ, zero, suc, ◌+◌, ◌*◌, ◌/◌, ◌%◌, ◌<◌, ◌≤◌, ◌^◌, List, [], ◌∷◌, ◌++◌, length, get_or, drop, Bool, true, false, Option, None, Some, inl, inr, refl, sym, ap, ◌∙◌, arith, rules, append_assoc}
use Rattle.std.specs.Prelude.{◌==◌, All, codes, map, slice_index, if◌then◌else◌}
use Rattle.std.specs.Fmt.{decimal}
use Rattle.std.specs.Int.{w32, to_be_bytes}
use Rattle.std.proofs.lemmas.Fmt.{decimal_by_steps, decimal_injective}
use Rattle.std.proofs.lemmas.List.{append_cancel_left, append-nil}
use Rattle.std.proofs.lemmas.List.Elements.{All-nil, All-cons, All-append, All-same, All-weaker}
use Rattle.hex.specs.Hex.{is_hex_digit}
use Rattle.hex.proofs.HexLemmas.{decode_of-ok}
use Rattle.sha2.specs.Sha256.{sha256, digest_bytes}
use Rattle.sha2.proofs.Facts256.{length-sha256}
use Rattle.mb_format.specs.Format.{IsBytes}
use Rattle.mb_format.proofs.Exact.{IsBytes-none, IsBytes-append, IsBytes-cons}
use Rattle.mb_model.specs.contracts.key.PublicKeyPartialEq.TheImpl as key_test
use Rattle.mb_model.specs.declared.key.PublicKey.{PublicKey}
use Rattle.mb_model.specs.declared.key.Trust.{Trust}
use Rattle.mb_model.specs.declared.key.Trust.TheVariants.{Always, Never, Countersigned}
use Rattle.mb_model.specs.declared.layer.CodeName.{CodeName}
use Rattle.mb_model.specs.declared.layer.Layer.{Layer}
use Rattle.mb_model.specs.declared.layer.Layers.{Layers}
use Rattle.mb_model.specs.declared.layer.Trusts.{Trusts}
use Rattle.mb_model.specs.signatures.Key.{key_bytes}
use Rattle.mb_model.specs.owners.Layers.{layer_of}
use Rattle.mb_model.specs.outside.Texts.{IsHex, line_with_lf}
use Rattle.mb_model.specs.chains.Lines.{hex_word, spaced_words, text_of}
use Rattle.mb_model.specs.chains.Listing.{owner_word, code_words, reliable_word, trust_words, layer_line}
use Rattle.mb_model_lemmas.proofs.LineLemmas.{Without, isnt, first_same, cons_same}
use Rattle.mb_model_lemmas.proofs.SameLayers.{keys_decide}
use Rattle.mb_model_lemmas.proofs.WordLemmas.{IsHex-same, hex_word-read}
use Rattle.mb_verifier.proofs.Listed.{layer_text}
use Rattle.mb_tools_shown.specs.LayersShown.{layers_shown}
use Rattle.mb_tools_shown.proofs.FittingEntries.{CodeFits, LayersFit}

-- ---- words

-- a byte that ends a word: a space or an LF
pub data EndsWord : ℕ → Type 0 where
  space : EndsWord 32
  lf : EndsWord 10

-- the first three letters of a word or a line
abbrev pub letters : List ℕ → ℕ
letters text = 65536 * get_or text 0 0 + 256 * get_or text 1 0 + get_or text 2 0

end_small : (s : ℕ) → EndsWord s → s < 45
end_small _ space = omega arith
end_small _ lf = omega arith

end_no_digit : (s : ℕ) → EndsWord s → is_hex_digit s ≡ false
end_no_digit _ space = refl
end_no_digit _ lf = refl

abbrev is_digit : ℕ → Type 0
is_digit byte = 48 ≤ byte

decimal_digits : (n : ℕ) → n < 2 ^ 64 → All is_digit (decimal n)
decimal_digits n fits =
    decimal_by_steps (λ m ds. All is_digit ds)
    (λ m less. All-cons is_digit (48 + m) [] (omega arith) (All-nil is_digit))
    (λ m ds least more. All-append is_digit ds ((48 + m % 10) ∷ []) more (All-cons is_digit (48 + m % 10) [] (omega arith) (All-nil is_digit)))
    n fits

decimal_without : (s n : ℕ) → EndsWord s → n < 2 ^ 64 → Without s (decimal n)
decimal_without s n ends fits = All-weaker is_digit (isnt s) (λ byte least is. omega (arith, least, is, end_small s ends)) (decimal n) (decimal_digits n fits)

-- a number and what stands after it are read back
pub number_read : (s m n : ℕ) (xs ys : List ℕ) → EndsWord s → m < 2 ^ 64 → n < 2 ^ 64 → decimal m ++ s ∷ xs ≡ decimal n ++ s ∷ ys → (m ≡ n) × (xs ≡ ys)
number_read s m n xs ys ends fm fn e =
    let parts = first_same s (decimal m) (decimal n) xs ys (decimal_without s m ends fm) (decimal_without s n ends fn) e in
    (decimal_injective m n fm fn parts.0, parts.1)

digit_apart : (s byte : ℕ) → is_hex_digit s ≡ false → is_hex_digit byte ≡ true → byte ≢ s
digit_apart s byte none digit same = let no : false ≡ true = sym none ∙ ap is_hex_digit (sym same) ∙ digit in cc

hex_without : (s : ℕ) (word bytes : List ℕ) → EndsWord s → IsHex word bytes → Without s word
hex_without s word bytes ends (inl dash) =
    All-same (isnt s) word (codes "-") dash.0 (All-cons (isnt s) 45 [] (λ e. omega (arith, e, end_small s ends)) (All-nil (isnt s)))
hex_without s word bytes ends (inr digits) =
    All-weaker (λ (byte : ℕ). is_hex_digit byte ≡ true) (isnt s) (λ byte digit. digit_apart s byte (end_no_digit s ends) digit) word (decode_of-ok word bytes digits.1).1

-- so are bytes in hexadecimal
pub bytes_read : (s : ℕ) (a b xs ys : List ℕ) → EndsWord s → IsBytes a → IsBytes b → hex_word a ++ s ∷ xs ≡ hex_word b ++ s ∷ ys → (a ≡ b) × (xs ≡ ys)
bytes_read s a b xs ys ends aa ab e =
    let of_a = hex_word-read a aa in
    let of_b = hex_word-read b ab in
    let parts = first_same s (hex_word a) (hex_word b) xs ys (hex_without s (hex_word a) a ends of_a) (hex_without s (hex_word b) b ends of_b) e in
    (IsHex-same (hex_word a) (hex_word b) a b parts.0 of_a of_b, parts.1)

-- ---- hashes

byte_of : (n : ℕ) → n % 256 < 256
byte_of n = omega arith

all_bytes : (numbers : List ℕ) → IsBytes (map (λ n. n % 256) numbers)
all_bytes [] = IsBytes-none
all_bytes (n ∷ numbers) = IsBytes-cons (n % 256) (map (λ n. n % 256) numbers) (byte_of n) (all_bytes numbers)

word_is_bytes : (n : ℕ) → IsBytes (to_be_bytes w32 n)
word_is_bytes n = all_bytes (n / 16777216 ∷ n / 65536 ∷ n / 256 ∷ n ∷ [])

digest_is_bytes : (h : List ℕ) (n : ℕ) → IsBytes (digest_bytes h n)
unfolding digest_bytes
digest_is_bytes h zero = IsBytes-none
digest_is_bytes h (suc n) = IsBytes-append (digest_bytes h n) (to_be_bytes w32 (slice_index h n)) (digest_is_bytes h n) (word_is_bytes (slice_index h n))

hash_is_bytes : (text : List ℕ) → IsBytes (sha256 text)
unfolding sha256
hash_is_bytes text = digest_is_bytes _ 8

-- ---- owners

-- what is told of an owner: the hash of its key, or no bytes
abbrev owner_hash : Option PublicKey → List ℕ
owner_hash None = []
owner_hash (Some owner) = sha256 (key_bytes owner)

owner_written : (owner : Option PublicKey) → owner_word owner ≡ hex_word (owner_hash owner)
owner_written None = refl
owner_written (Some owner) = refl

owner_bytes : (owner : Option PublicKey) → IsBytes (owner_hash owner)
owner_bytes None = IsBytes-none
owner_bytes (Some owner) = hash_is_bytes (key_bytes owner)

-- two owners have different keys with one hash
pub record Collide (one other : Option PublicKey) : Type 0 where
  pub first : PublicKey
  pub second : PublicKey
  pub differ : first ≢ second
  pub hash : sha256 (key_bytes first) ≡ sha256 (key_bytes second)
  pub is_first : one ≡ Some first
  pub is_second : other ≡ Some second

owner_read : (one other : Option PublicKey) → owner_hash one ≡ owner_hash other → (one ≡ other) ⊎ Collide one other
owner_read None None same = inl refl
owner_read None (Some other) same = absurd (omega (arith, ap length same, length-sha256 (key_bytes other)))
owner_read (Some one) None same = absurd (omega (arith, ap length same, length-sha256 (key_bytes one)))
owner_read (Some one) (Some other) same = by (key_test.ghosts.eq one other) refl
  where
    by : (b : Bool) → key_test.ghosts.eq one other ≡ b → (Some one ≡ Some other) ⊎ Collide (Some one) (Some other)
    by true is = inl (ap Some ((keys_decide one other).0 is))
    by false is = inr (record {
      first = one;
      second = other;
      differ = λ equal. let no : false ≡ true = sym is ∙ (keys_decide one other).1 equal in cc;
      hash = same;
      is_first = refl;
      is_second = refl;
    })

-- ---- codes

abbrev code_hash : Option CodeName → List ℕ
code_hash None = []
code_hash (Some code) = code.hash

-- the second word of a code, before what follows
abbrev code_rest : Option CodeName → List ℕ → List ℕ
code_rest None more = codes "-" ++ 32 ∷ more
code_rest (Some code) more = decimal code.version ++ 32 ∷ more

code_written : (code : Option CodeName) (more : List ℕ) → spaced_words (code_words code) ++ 32 ∷ more ≡ hex_word (code_hash code) ++ 32 ∷ code_rest code more
code_written None more = refl
code_written (Some code) more = append_assoc (hex_word code.hash) (32 ∷ decimal code.version) (32 ∷ more)

code_bytes : (code : Option CodeName) → CodeFits code → IsBytes (code_hash code)
code_bytes None fits = IsBytes-none
code_bytes (Some code) fits = fits.0

same_code : (one other : CodeName) → (one.hash ≡ other.hash) × (one.version ≡ other.version) → one ≡ other
same_code one other parts = search (rules, parts)

code_read : (one other : Option CodeName) (xs ys : List ℕ) → CodeFits one → CodeFits other → code_hash one ≡ code_hash other → code_rest one xs ≡ code_rest other ys → (one ≡ other) × (xs ≡ ys)
code_read None None xs ys fits also same e = (refl, append_cancel_left (codes "- ") xs ys e)
code_read None (Some other) xs ys fits also same e = absurd (omega (arith, ap length same, also.1))
code_read (Some one) None xs ys fits also same e = absurd (omega (arith, ap length same, fits.1))
code_read (Some one) (Some other) xs ys fits also same e =
    let parts = number_read 32 one.version other.version xs ys space fits.2 also.2 e in
    (ap Some (same_code one other (same, parts.0)), parts.1)

-- ---- whether a layer is reliable, and its trusts

reliable_read : (one other : Bool) (xs ys : List ℕ) → reliable_word one ++ 32 ∷ xs ≡ reliable_word other ++ 32 ∷ ys → (one ≡ other) × (xs ≡ ys)
reliable_read true true xs ys e = (refl, append_cancel_left (codes "reliable ") xs ys e)
reliable_read false false xs ys e = (refl, append_cancel_left (codes "unreliable ") xs ys e)
reliable_read true false xs ys e = absurd (omega (arith, ap letters e))
reliable_read false true xs ys e = absurd (omega (arith, ap letters e))

abbrev two_trusts : Trust → Trust → Trusts
two_trusts one two = record { one = one; two = two }

-- the words of two trusts at the end of a line, and what follows
abbrev trust_text : Trust → Trust → List ℕ → List ℕ
trust_text one two more = spaced_words (trust_words (two_trusts one two)) ++ 10 ∷ more

-- the trust whose word stands first
abbrev trust_at : List ℕ → Trust
trust_at text = if get_or text 0 0 == 97 then Always else if get_or text 0 0 == 110 then Never else Countersigned

-- the length of the word that stands first
abbrev word_at : List ℕ → ℕ
word_at text = if get_or text 0 0 == 97 then 6 else if get_or text 0 0 == 110 then 5 else 13

-- the trust whose word stands second, or first if the line ends after it
abbrev second_at : List ℕ → Trust
second_at text = if get_or text (word_at text) 0 == 10 then trust_at text else trust_at (drop (word_at text + 1) text)

first_told : (one two : Trust) (more : List ℕ) → trust_at (trust_text one two more) ≡ one
first_told Always Always more = refl
first_told Always Never more = refl
first_told Always Countersigned more = refl
first_told Never Always more = refl
first_told Never Never more = refl
first_told Never Countersigned more = refl
first_told Countersigned Always more = refl
first_told Countersigned Never more = refl
first_told Countersigned Countersigned more = refl

second_told : (one two : Trust) (more : List ℕ) → second_at (trust_text one two more) ≡ two
second_told Always Always more = refl
second_told Always Never more = refl
second_told Always Countersigned more = refl
second_told Never Always more = refl
second_told Never Never more = refl
second_told Never Countersigned more = refl
second_told Countersigned Always more = refl
second_told Countersigned Never more = refl
second_told Countersigned Countersigned more = refl

same_trusts : (one other : Trusts) → (one.one ≡ other.one) × (one.two ≡ other.two) → one ≡ other
same_trusts one other parts = search (rules, parts)

trusts_read : (one other : Trusts) (xs ys : List ℕ) → spaced_words (trust_words one) ++ 10 ∷ xs ≡ spaced_words (trust_words other) ++ 10 ∷ ys → (one ≡ other) × (xs ≡ ys)
trusts_read one other xs ys e =
    let first : one.one ≡ other.one = sym (first_told one.one one.two xs) ∙ ap trust_at e ∙ first_told other.one other.two ys in
    let second : one.two ≡ other.two = sym (second_told one.one one.two xs) ∙ ap second_at e ∙ second_told other.one other.two ys in
    let same : one ≡ other = same_trusts one other (first, second) in
    let rest = append_cancel_left (spaced_words (trust_words other)) (10 ∷ xs) (10 ∷ ys)
    (ap (λ (t : Trusts). spaced_words (trust_words t) ++ 10 ∷ xs) (sym same) ∙ e) in
    (same, (cons_same 10 10 xs ys rest).1)

-- ---- a layer

layer_written : (m : ℕ) (layer : Layer) (more : List ℕ)
    → line_with_lf (layer_line m layer) ++ more
    ≡ codes "layer " ++ (decimal m ++ 32 ∷ (hex_word (owner_hash layer.owner) ++ 32 ∷ (hex_word (code_hash layer.code) ++ 32 ∷ code_rest layer.code (reliable_word layer.reliable ++ 32 ∷ (spaced_words (trust_words layer.trust) ++ 10 ∷ more)))))
layer_written m layer more =
    let owner = owner_word layer.owner in
    let code = spaced_words (code_words layer.code) in
    let reliable = reliable_word layer.reliable in
    let trust = spaced_words (trust_words layer.trust) in
    let line = codes "layer " ++ (decimal m ++ 32 ∷ (owner ++ 32 ∷ (code ++ 32 ∷ (reliable ++ 32 ∷ (trust ++ 10 ∷ []))))) in
    let whole : line_with_lf (layer_line m layer) ≡ line = sym (layer_text m layer line owner code reliable trust refl refl refl refl refl) in
    let placed : line ++ more ≡ codes "layer " ++ (decimal m ++ 32 ∷ (owner ++ 32 ∷ (code ++ 32 ∷ (reliable ++ 32 ∷ (trust ++ 10 ∷ more))))) = simp append_assoc in
    ap (λ (t : List ℕ). t ++ more) whole ∙ placed
    ∙ ap (λ (t : List ℕ). codes "layer " ++ (decimal m ++ 32 ∷ (owner ++ 32 ∷ t))) (code_written layer.code (reliable ++ 32 ∷ (trust ++ 10 ∷ more)))
    ∙ ap (λ (t : List ℕ). codes "layer " ++ (decimal m ++ 32 ∷ (t ++ 32 ∷ (hex_word (code_hash layer.code) ++ 32 ∷ code_rest layer.code (reliable ++ 32 ∷ (trust ++ 10 ∷ more)))))) (owner_written layer.owner)

same_layer : (one other : Layer) → (one.owner ≡ other.owner) × ((one.code ≡ other.code) × ((one.reliable ≡ other.reliable) × (one.trust ≡ other.trust))) → one ≡ other
same_layer one other parts = search (rules, parts)

layer_read : (m : ℕ) (one other : Layer) (xs ys : List ℕ) → m < 2 ^ 64 → CodeFits one.code → CodeFits other.code → line_with_lf (layer_line m one) ++ xs ≡ line_with_lf (layer_line m other) ++ ys
    → ((one ≡ other) × (xs ≡ ys)) ⊎ Collide one.owner other.owner
layer_read m one other xs ys small fits also e =
    let text = append_cancel_left (codes "layer ") _ _ (sym (layer_written m one xs) ∙ e ∙ layer_written m other ys) in
    let numbered = number_read 32 m m _ _ space small small text in
    let owned = bytes_read 32 (owner_hash one.owner) (owner_hash other.owner) _ _ space (owner_bytes one.owner) (owner_bytes other.owner) numbered.1 in
    let coded = bytes_read 32 (code_hash one.code) (code_hash other.code) _ _ space (code_bytes one.code fits) (code_bytes other.code also) owned.1 in
    let named = code_read one.code other.code _ _ fits also coded.0 coded.1 in
    let reliable = reliable_read one.reliable other.reliable _ _ named.1 in
    let trusted = trusts_read one.trust other.trust xs ys reliable.1 in
    elim (owner_read one.owner other.owner owned.0) [
      | inl owner ↦ inl (same_layer one other (owner, (named.0, (reliable.0, trusted.0))), trusted.1)
      | inr collide ↦ inr collide
    ]

-- ---- three layers

-- of one of the layers the owners have different keys with one hash
pub record LayersCollide (one other : Layers) : Type 0 where
  pub layer : ℕ
  pub collide : Collide (layer_of one layer).owner (layer_of other layer).owner

same_layers : (one other : Layers) → (one.one ≡ other.one) × ((one.two ≡ other.two) × (one.three ≡ other.three)) → one ≡ other
same_layers one other parts = search (rules, parts)

layers_written : (layers : Layers) (more : List ℕ)
    → text_of (layers_shown layers) ++ more ≡ line_with_lf (layer_line 1 layers.one) ++ (line_with_lf (layer_line 2 layers.two) ++ (line_with_lf (layer_line 3 layers.three) ++ more))
layers_written layers more = regroup (line_with_lf (layer_line 1 layers.one)) (line_with_lf (layer_line 2 layers.two)) (line_with_lf (layer_line 3 layers.three)) more
  where
    regroup : (a b c d : List ℕ) → (a ++ (b ++ (c ++ []))) ++ d ≡ a ++ (b ++ (c ++ d))
    regroup a b c d = ap (λ (t : List ℕ). (a ++ (b ++ t)) ++ d) (append-nil c) ∙ simp append_assoc

pub layers_read : (one other : Layers) (xs ys : List ℕ) → LayersFit one → LayersFit other → text_of (layers_shown one) ++ xs ≡ text_of (layers_shown other) ++ ys
    → ((one ≡ other) × (xs ≡ ys)) ⊎ LayersCollide one other
layers_read one other xs ys fits also e =
    elim (layer_read 1 one.one other.one _ _ (omega arith) fits.one also.one (sym (layers_written one xs) ∙ e ∙ layers_written other ys)) [
      | inr collide ↦ inr (record { layer = 1; collide = collide })
      | inl first ↦ elim (layer_read 2 one.two other.two _ _ (omega arith) fits.two also.two first.1) [
        | inr collide ↦ inr (record { layer = 2; collide = collide })
        | inl second ↦ elim (layer_read 3 one.three other.three xs ys (omega arith) fits.three also.three second.1) [
          | inr collide ↦ inr (record { layer = 3; collide = collide })
          | inl third ↦ inl (same_layers one other (first.0, (second.0, third.0)), third.1)
        ]
      ]
    ]
