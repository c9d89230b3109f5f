-- Each text that is signed tells all that it was made of.
use Rattle.std.proofs.Common.{◌≡◌, ◌≢◌, ℕ, ◌<◌, List, [], ◌∷◌, ◌++◌, length, get_or, refl, sym, ap, ◌∙◌, lit<, arith, length-append, append-nil}
use Rattle.std.specs.Int.{w32, to_be_bytes}
use Rattle.mb_format.specs.Format.{IsBytes}
use Rattle.mb_format.proofs.Whole.{IsClearWhole-from_exact}
use Rattle.mb_model.specs.declared.key.PublicKey.{PublicKey}
use Rattle.mb_model.specs.declared.key.Tree.{Tree}
use Rattle.mb_model.specs.declared.key.Tree.TheVariants.{H5, H10, H15, H20, H25}
use Rattle.mb_model.specs.declared.entry.Entry.{Entry}
use Rattle.mb_model.specs.signatures.Key.{tree_type, key_bytes}
use Rattle.mb_model.specs.records.EntryFormat.{entry_format}
use Rattle.mb_model.specs.records.OrderFormat.{Body, body_format}
use Rattle.mb_model.specs.machine.SignedTexts.{order_text, countersigned_text, entry_text, statement_text, call_text}
use Rattle.mb_model.proofs.EntryFormatLaws.{entry_exact}
use Rattle.mb_model.proofs.KeyLemmas.{same_parts, word_same}
use Rattle.mb_model.proofs.OrderFormatLaws.{body_exact}
use Rattle.mb_model_lemmas.proofs.LineLemmas.{cons_same}
use Rattle.mb_model_histories.specs.SignedTextLaws.{Signable, of_order, of_countersignature, of_entry, of_statement, of_call, signed_text, IsSpelled, separator_of, SerialsHaveToBeSized, HashesHaveToBeSized, NumbersHaveToBeInRange}

-- two bodies of orders, or two entries, that are spelled alike are one
one_body : (a b : Body) → body_format.Allowed a → body_format.Allowed b → IsBytes (body_format.spelling a) → body_format.spelling a ≡ body_format.spelling b → a ≡ b
one_body a b may_a may_b are same =
    (IsClearWhole-from_exact body_exact).one_value (body_format.spelling a) a b are (record { allowed = may_a; whole = refl }) (record { allowed = may_b; whole = same })

one_entry : (a b : Entry) → entry_format.Allowed a → entry_format.Allowed b → IsBytes (entry_format.spelling a) → entry_format.spelling a ≡ entry_format.spelling b → a ≡ b
one_entry a b may_a may_b are same =
    (IsClearWhole-from_exact entry_exact).one_value (entry_format.spelling a) a b are (record { allowed = may_a; whole = refl }) (record { allowed = may_b; whole = same })

-- The parts of a statement's text have lengths that are fixed, but for the last.
one_statement : (s t : List ℕ) (k l m n : ℕ) (x y : List ℕ) → IsSpelled (of_statement s k m x) → IsSpelled (of_statement t l n y)
    → s ++ to_be_bytes w32 k ++ to_be_bytes w32 m ++ x ≡ t ++ to_be_bytes w32 l ++ to_be_bytes w32 n ++ y → of_statement s k m x ≡ of_statement t l n y
one_statement s t k l m n x y may_s may_t e =
    let is_long : length s ≡ length t = may_s.0 ∙ sym may_t.0 in
    let heads = same_parts (s ++ to_be_bytes w32 k ++ to_be_bytes w32 m) (t ++ to_be_bytes w32 l ++ to_be_bytes w32 n) x y (simp length-append (omega (arith, is_long))) e in
    let numbers = same_parts (s ++ to_be_bytes w32 k) (t ++ to_be_bytes w32 l) (to_be_bytes w32 m) (to_be_bytes w32 n) (simp length-append (omega (arith, is_long))) heads.0 in
    let serials = same_parts s t (to_be_bytes w32 k) (to_be_bytes w32 l) is_long numbers.0 in
    let serial : s ≡ t = serials.0 in
    let key : k ≡ l = word_same k l may_s.1 may_t.1 serials.1 in
    let number : m ≡ n = word_same m n may_s.2 may_t.2 numbers.1 in
    let message : x ≡ y = heads.1 in
    cc

-- so have those of a call's text
one_call : (s t : List ℕ) (k l m n : ℕ) (h i a b : List ℕ) → IsSpelled (of_call s k m h a) → IsSpelled (of_call t l n i b)
    → s ++ to_be_bytes w32 k ++ to_be_bytes w32 m ++ h ++ a ≡ t ++ to_be_bytes w32 l ++ to_be_bytes w32 n ++ i ++ b → of_call s k m h a ≡ of_call t l n i b
one_call s t k l m n h i a b may_s may_t e =
    let is_long : length s ≡ length t = may_s.0 ∙ sym may_t.0 in
    let hash_long : length h ≡ length i = may_s.3 ∙ sym may_t.3 in
    let answers = same_parts (s ++ to_be_bytes w32 k ++ to_be_bytes w32 m ++ h) (t ++ to_be_bytes w32 l ++ to_be_bytes w32 n ++ i) a b (simp length-append (omega (arith, is_long, hash_long))) e in
    let heads = same_parts (s ++ to_be_bytes w32 k ++ to_be_bytes w32 m) (t ++ to_be_bytes w32 l ++ to_be_bytes w32 n) h i (simp length-append (omega (arith, is_long))) answers.0 in
    let numbers = same_parts (s ++ to_be_bytes w32 k) (t ++ to_be_bytes w32 l) (to_be_bytes w32 m) (to_be_bytes w32 n) (simp length-append (omega (arith, is_long))) heads.0 in
    let serials = same_parts s t (to_be_bytes w32 k) (to_be_bytes w32 l) is_long numbers.0 in
    let serial : s ≡ t = serials.0 in
    let key : k ≡ l = word_same k l may_s.1 may_t.1 serials.1 in
    let number : m ≡ n = word_same m n may_s.2 may_t.2 numbers.1 in
    let hash : h ≡ i = heads.1 in
    let answer : a ≡ b = answers.1 in
    cc

first_byte : List ℕ → ℕ
first_byte text = get_or text 0 0

pub texts_are_apart : (this that : Signable) → IsSpelled this → IsSpelled that → signed_text this ≡ signed_text that → this ≡ that
unfolding order_text countersigned_text entry_text statement_text call_text first_byte
texts_are_apart (of_order a) (of_order b) is_a is_b e =
    ap of_order (one_body a b is_a.0 is_b.0 is_a.1 (cons_same 1 1 (body_format.spelling a) (body_format.spelling b) e).1)
texts_are_apart (of_countersignature m a) (of_countersignature n b) is_a is_b e =
    let x : List ℕ = body_format.spelling a in
    let y : List ℕ = body_format.spelling b in
    let rests : (m ≡ n) × (x ≡ y) = cons_same m n x y (cons_same 2 2 (m ∷ x) (n ∷ y) e).1 in
    let layers : m ≡ n = rests.0 in
    let bodies : a ≡ b = one_body a b is_a.0 is_b.0 is_a.1 rests.1 in
    cc
texts_are_apart (of_entry a) (of_entry b) is_a is_b e =
    ap of_entry (one_entry a b is_a.0 is_b.0 is_a.1 (cons_same 3 3 (entry_format.spelling a) (entry_format.spelling b) e).1)
texts_are_apart (of_statement s k m x) (of_statement t l n y) is_a is_b e =
    one_statement s t k l m n x y is_a is_b (cons_same 4 4 (s ++ to_be_bytes w32 k ++ to_be_bytes w32 m ++ x) (t ++ to_be_bytes w32 l ++ to_be_bytes w32 n ++ y) e).1
texts_are_apart (of_call s k m h a) (of_call t l n i b) is_a is_b e =
    one_call s t k l m n h i a b is_a is_b
    (cons_same 6 6 (s ++ to_be_bytes w32 k ++ to_be_bytes w32 m ++ h ++ a) (t ++ to_be_bytes w32 l ++ to_be_bytes w32 n ++ i ++ b) e).1
texts_are_apart this that is_a is_b e = absurd (omega (arith, ap first_byte e))

pub texts_begin : (this : Signable) → (0 < separator_of this) × ((rest : List ℕ) × (signed_text this ≡ separator_of this ∷ rest))
unfolding order_text countersigned_text entry_text statement_text call_text
texts_begin (of_order body) = (lit< tt, (_, refl))
texts_begin (of_countersignature layer body) = (lit< tt, (_, refl))
texts_begin (of_entry its) = (lit< tt, (_, refl))
texts_begin (of_statement serial key_number number message) = (lit< tt, (_, refl))
texts_begin (of_call serial key_number number input answer) = (lit< tt, (_, refl))

-- ---- keys

-- the number of a tree's type is less than 256, so that the first of its four bytes is 0
key_begins : (key : PublicKey) → first_byte (key_bytes key) ≡ 0
unfolding key_bytes first_byte
key_begins key = of_tree key.tree
  where
    of_tree : (tree : Tree) → get_or (to_be_bytes w32 (tree_type tree)) 0 0 ≡ 0
    of_tree H5 = refl
    of_tree H10 = refl
    of_tree H15 = refl
    of_tree H20 = refl
    of_tree H25 = refl

pub keys_are_no_texts : (this : Signable) (key : PublicKey) → signed_text this ≢ key_bytes key
unfolding first_byte
keys_are_no_texts this key e =
    let begins = texts_begin this in
    let first : separator_of this ≡ 0 = sym (ap first_byte begins.1.1) ∙ ap first_byte e ∙ key_begins key in
    let more : 0 < separator_of this = begins.0 in
    omega (arith, first, more)

-- ---- serials of any length

message_in : Signable → List ℕ
message_in (of_statement serial key_number number message) = message
message_in _ = []

pub serials_have_to_be_sized : SerialsHaveToBeSized
unfolding statement_text message_in
serials_have_to_be_sized = (refl, λ e. absurd (omega (arith, ap (λ this. length (message_in this)) e)))

answer_in : Signable → List ℕ
answer_in (of_call serial key_number number input answer) = answer
answer_in _ = []

pub hashes_have_to_be_sized : HashesHaveToBeSized
unfolding call_text answer_in
hashes_have_to_be_sized serial =
    let zeros : List ℕ = serial ++ to_be_bytes w32 0 ++ to_be_bytes w32 0 in (
      ap (λ (text : List ℕ). 6 ∷ text) (append-nil (zeros ++ 0 ∷ []) ∙ ap (λ (front : List ℕ). front ++ 0 ∷ []) (sym (append-nil zeros))),
      λ e. absurd (omega (arith, ap (λ this. length (answer_in this)) e)),
    )

key_number_in : Signable → ℕ
key_number_in (of_statement serial key_number number message) = key_number
key_number_in _ = 0

pub numbers_have_to_be_in_range : NumbersHaveToBeInRange
unfolding statement_text key_number_in
numbers_have_to_be_in_range serial message = (refl, λ e. absurd (omega (arith, ap key_number_in e)))
