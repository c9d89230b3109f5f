-- Orders that are shown alike.
use Rattle.std.proofs.Common.{◌≡◌, ◌⊎◌, ℕ, zero, suc, ◌<◌, ◌≤◌, ◌/◌, ◌%◌, List, [], ◌∷◌, ◌++◌, get_or, Bool, true, false, true≢false, inl, inr, refl, sym, ap, ◌∙◌, arith}
use Rattle.std.specs.Prelude.{◌==◌, ◌≢◌, codes, map, slice_index, IsTrue, if◌then◌else◌}
use Rattle.std.specs.Int.{w32, to_be_bytes}
use Rattle.std.proofs.lemmas.List.{append_cancel_left}
use Rattle.sha2.specs.Sha256.{sha256, digest_bytes}
use Rattle.mb_format.specs.Format.{IsBytes}
use Rattle.mb_format.specs.Combinators.{number_bytes, same_bytes}
use Rattle.mb_format.proofs.Exact.{IsBytes-none, IsBytes-append, IsBytes-cons}
use Rattle.mb_format.proofs.Fields.{same_bytes-refl, same_bytes-true}
use Rattle.mb_format.proofs.Whole.{IsClearWhole-from_exact}
use Rattle.mb_model.specs.declared.layer.Trusts.{Trusts}
use Rattle.mb_model.specs.declared.order.Act.{Act}
use Rattle.mb_model.specs.declared.order.Act.TheVariants as act
use Rattle.mb_model.specs.declared.order.Target.{Target}
use Rattle.mb_model.specs.declared.order.Target.TheVariants as target
use Rattle.mb_model.specs.declared.order.Order.{Order}
use Rattle.mb_model.specs.owners.Layers.{are_equal, is_layer_number}
use Rattle.mb_model.specs.records.OrderFormat.{target_format, body_of, order_body, order_format}
use Rattle.mb_model.specs.chains.Lines.{hex_word, spaced_words}
use Rattle.mb_model.specs.chains.Drafts.{trust_word, order_words}
use Rattle.mb_model.proofs.OrderFormatLaws.{body_exact}
use Rattle.mb_model_lemmas.proofs.WordLemmas.{hex_word-read, IsHex-same}
use Rattle.mb_tools_orders.specs.ShowOrder.{target_line, given_trusts_line, act_lines, body_line, signature_lines, order_shown}
use Rattle.mb_tools_orders.specs.OrderLaws.{OrdersShownAlikeHaveOneBody, OneBodyIsOneOrder, TargetsAreShownAsDrafted}

-- ---- where the hash of the body stands

-- a line begins with the letter b
abbrev begins_body : List ℕ → Bool
begins_body line = get_or line 0 0 == 98

-- the first line that does
body_among : List (List ℕ) → List ℕ
body_among [] = []
body_among (line ∷ lines) = if begins_body line then line else body_among lines

-- none of the lines does
abbrev NoneBegins : List (List ℕ) → Type 0
NoneBegins [] = Unit {0}
NoneBegins (line ∷ lines) = (begins_body line ≡ false) × NoneBegins lines

none_append : (front back : List (List ℕ)) → NoneBegins front → NoneBegins back → NoneBegins (front ++ back)
none_append [] back none also = also
none_append (line ∷ front) back none also = (none.0, none_append front back none.1 also)

body_after : (front back : List (List ℕ)) → NoneBegins front → body_among (front ++ back) ≡ body_among back
unfolding body_among
body_after [] back none = refl
body_after (line ∷ front) back none =
    ap (λ (b : Bool). if b then line else body_among (front ++ back)) none.0 ∙ body_after front back none.1

target_begins : (t : Target) → begins_body (target_line t) ≡ false
target_begins (target.Serial serial) = refl
target_begins (target.Length entries) = refl
target_begins (target.Owner layer hash) = refl
target_begins (target.Code layer hash) = refl

targets_begin : (targets : List Target) → NoneBegins (map target_line targets)
targets_begin [] = tt
targets_begin (t ∷ targets) = (target_begins t, targets_begin targets)

trusts_begin : (trusts : Trusts) → begins_body (given_trusts_line trusts) ≡ false
trusts_begin trusts = by (are_equal trusts)
  where
    by : (equal : Bool)
        → begins_body (spaced_words (codes "trust" ∷ (if equal then trust_word trusts.one ∷ [] else trust_word trusts.one ∷ trust_word trusts.two ∷ []))) ≡ false
    by true = refl
    by false = refl

act_begins : (a : Act) → NoneBegins (act_lines a)
act_begins (act.Establish owner trust) = (refl, (trusts_begin trust, tt))
act_begins act.Surrender = tt
act_begins (act.Load payload) = (refl, (trusts_begin payload.trust, (refl, tt)))
act_begins (act.Emergency payload) = (refl, (trusts_begin payload.trust, (refl, tt)))
act_begins (act.NewKey kind) = tt

first_begins : (a : Act) (layer : ℕ) → begins_body (spaced_words (order_words a layer)) ≡ false
first_begins (act.Establish owner trust) layer = refl
first_begins act.Surrender layer = refl
first_begins (act.Load payload) layer = refl
first_begins (act.Emergency payload) layer = refl
first_begins (act.NewKey kind) layer = refl

body_shown : (order : Order) → body_among (order_shown order) ≡ body_line order
unfolding order_shown body_among
body_shown order =
    body_after (spaced_words (order_words order.act order.layer) ∷ (map target_line order.targets ++ act_lines order.act)) (body_line order ∷ signature_lines order)
    (first_begins order.act order.layer, none_append (map target_line order.targets) (act_lines order.act) (targets_begin order.targets) (act_begins order.act))

-- ---- hashes

byte_of : (n : ℕ) → n % 256 < 256
byte_of n = omega arith

all_bytes : (numbers : List ℕ) → IsBytes (map (λ n. n % 256) numbers)
all_bytes [] = IsBytes-none
all_bytes (n ∷ numbers) = IsBytes-cons (n % 256) (map (λ n. n % 256) numbers) (byte_of n) (all_bytes numbers)

word_is_bytes : (n : ℕ) → IsBytes (to_be_bytes w32 n)
word_is_bytes n = all_bytes (n / 16777216 ∷ n / 65536 ∷ n / 256 ∷ n ∷ [])

digest_is_bytes : (h : List ℕ) (n : ℕ) → IsBytes (digest_bytes h n)
unfolding digest_bytes
digest_is_bytes h zero = IsBytes-none
digest_is_bytes h (suc n) = IsBytes-append (digest_bytes h n) (to_be_bytes w32 (slice_index h n)) (digest_is_bytes h n) (word_is_bytes (slice_index h n))

hash_is_bytes : (text : List ℕ) → IsBytes (sha256 text)
unfolding sha256
hash_is_bytes text = digest_is_bytes _ 8

same_or_not : (one other : List ℕ) → sha256 one ≡ sha256 other → (one ≡ other) ⊎ ((one ≢ other) × (sha256 one ≡ sha256 other))
same_or_not one other hashed = by (same_bytes one other) refl
  where
    by : (b : Bool) → same_bytes one other ≡ b → (one ≡ other) ⊎ ((one ≢ other) × (sha256 one ≡ sha256 other))
    by true is = inl (same_bytes-true one other is)
    by false is = inr (λ equal. true≢false (sym (ap (λ (x : List ℕ). same_bytes x other) equal ∙ same_bytes-refl other) ∙ is), hashed)

pub orders_shown_alike : OrdersShownAlikeHaveOneBody
orders_shown_alike one other alike =
    let a = sha256 (order_body one) in
    let b = sha256 (order_body other) in
    let lines : body_line one ≡ body_line other = sym (body_shown one) ∙ ap body_among alike ∙ body_shown other in
    let words : hex_word a ≡ hex_word b = append_cancel_left (codes "body ") (hex_word a) (hex_word b) lines in
    let hashed : a ≡ b = IsHex-same (hex_word a) (hex_word b) a b words (hex_word-read a (hash_is_bytes (order_body one))) (hex_word-read b (hash_is_bytes (order_body other))) in
    same_or_not (order_body one) (order_body other) hashed

pub one_body_is_one_order : OneBodyIsOneOrder
unfolding order_format
one_body_is_one_order one other allowed also bytes same =
    (IsClearWhole-from_exact body_exact).one_value (order_body one) (body_of one) (body_of other) bytes (record { allowed = allowed.0; whole = refl }) (record { allowed = also.0; whole = same })

-- ---- targets

layer_numbered : (layer : ℕ) → 1 ≤ layer → layer ≤ 3 → IsTrue (is_layer_number layer)
layer_numbered layer least most = grind (arith, least, most)

pub targets_are_drafted : TargetsAreShownAsDrafted
unfolding target_format number_bytes
targets_are_drafted (target.Serial serial) allowed bytes =
    let own : IsBytes serial = λ i. bytes (suc i) in
    (allowed.1, (hex_word serial, hex_word-read serial own, refl))
targets_are_drafted (target.Length entries) allowed bytes = (omega (arith, allowed.1), refl)
targets_are_drafted (target.Owner layer hash) allowed bytes =
    let own : IsBytes hash = λ i. bytes (suc (suc i)) in
    (layer_numbered layer allowed.1.0.0 allowed.1.0.1, allowed.1.1, (hex_word hash, hex_word-read hash own, refl))
targets_are_drafted (target.Code layer hash) allowed bytes =
    let own : IsBytes hash = λ i. bytes (suc (suc i)) in
    (layer_numbered layer allowed.1.0.0 allowed.1.0.1, allowed.1.1, (hex_word hash, hex_word-read hash own, refl))
