-- The line of a reply tells it from every other.
use Rattle.std.proofs.Common.{◌≡◌, ◌≢◌, ℕ, ◌+◌, ◌*◌, ◌<◌, ◌^◌, inl, inr, List, [], ◌∷◌, ◌++◌, get_or, refl, ap, arith, true, false}
use Rattle.std.specs.Prelude.{codes, unwrap_or}
use Rattle.std.specs.Fmt.{decimal}
use Rattle.std.proofs.lemmas.Fmt.{decimal_injective}
use Rattle.std.proofs.lemmas.List.{append_cancel_left}
use Rattle.std.proofs.lemmas.List.Elements.{All-nil, All-cons, All-same, All-weaker}
use Rattle.hex.specs.Hex.{IsBytes, is_hex_digit}
use Rattle.hex.proofs.HexLemmas.{decode_of-ok}
use Rattle.mb_model.specs.declared.reply.Reply.{Reply}
use Rattle.mb_model.specs.declared.reply.Reply.TheVariants as reply
use Rattle.mb_model.specs.declared.reply.Standing.{Standing}
use Rattle.mb_model.specs.declared.reply.Standing.TheVariants as stands
use Rattle.mb_model.specs.outside.Texts.{IsHex}
use Rattle.mb_model.specs.chains.Lines.{hex_word}
use Rattle.mb_model.specs.declared.reply.Refusal.{Refusal}
use Rattle.mb_model.specs.machine.Refusals.{refusal_words, refusal_reply}
use Rattle.mb_model.specs.chains.Replies.{HasLine, standing_word, reply_line}
use Rattle.mb_model_laws.specs.TextLaws.{IsReplyInRange}
use Rattle.mb_model_lemmas.proofs.LineLemmas.{Without, isnt, first_same}
use Rattle.mb_model_lemmas.proofs.WordLemmas.{number_front, limited_fits, IsHex-same, hex_word-read}

-- ---- words

-- a hexadecimal word has no space
digit_spaceless : (byte : ℕ) → is_hex_digit byte ≡ true → byte ≢ 32
digit_spaceless byte digit space = let none : is_hex_digit 32 ≡ false = refl in cc

IsHex-spaceless : (word bytes : List ℕ) → IsHex word bytes → Without 32 word
IsHex-spaceless word bytes (inl dash) =
    All-same (isnt 32) word (codes "-") dash.0 (All-cons (isnt 32) 45 [] (λ e. omega (arith, e)) (All-nil (isnt 32)))
IsHex-spaceless word bytes (inr digits) =
    All-weaker (λ (byte : ℕ). is_hex_digit byte ≡ true) (isnt 32) digit_spaceless word (decode_of-ok word bytes digits.1).1

written_spaceless : (bytes : List ℕ) → IsBytes bytes → Without 32 (hex_word bytes)
written_spaceless bytes are = IsHex-spaceless (hex_word bytes) bytes (hex_word-read bytes are)

written_same : (a b : List ℕ) → IsBytes a → IsBytes b → hex_word a ≡ hex_word b → a ≡ b
written_same a b aa ab e = IsHex-same (hex_word a) (hex_word b) a b e (hex_word-read a aa) (hex_word-read b ab)

-- the first three letters of a word or a line
abbrev letters : List ℕ → ℕ
letters line = 65536 * get_or line 0 0 + 256 * get_or line 1 0 + get_or line 2 0

-- the words for how layers stand, each with what stands after it
standing_front : (a b : Standing) (xs ys : List ℕ) → standing_word a ++ xs ≡ standing_word b ++ ys → (a ≡ b) × (xs ≡ ys)
standing_front stands.Unowned stands.Unowned xs ys e = (refl, append_cancel_left (codes "unowned") xs ys e)
standing_front stands.Unreliable stands.Unreliable xs ys e = (refl, append_cancel_left (codes "unreliable") xs ys e)
standing_front stands.Reliable stands.Reliable xs ys e = (refl, append_cancel_left (codes "reliable") xs ys e)
standing_front stands.Runnable stands.Runnable xs ys e = (refl, append_cancel_left (codes "runnable") xs ys e)
standing_front a b xs ys e = absurd (omega (arith, ap letters e))

spaces_off : (xs ys : List ℕ) → 32 ∷ xs ≡ 32 ∷ ys → xs ≡ ys
spaces_off xs ys e = cc

last_standing : (a b : Standing) → standing_word a ≡ standing_word b → a ≡ b
last_standing stands.Unowned stands.Unowned e = refl
last_standing stands.Unreliable stands.Unreliable e = refl
last_standing stands.Reliable stands.Reliable e = refl
last_standing stands.Runnable stands.Runnable e = refl
last_standing a b e = absurd (omega (arith, ap letters e))

-- ---- lines

two_replies : (a b : Reply) → (letters (reply_line a) ≡ letters (reply_line b) → ⊥) → reply_line a ≡ reply_line b → a ≡ b
two_replies a b apart e = absurd (apart (ap letters e))

two_numbers : (k l m n : ℕ) → k < 2 ^ 64 → l < 2 ^ 64 → m < 2 ^ 64 → n < 2 ^ 64 → decimal k ++ 32 ∷ decimal m ≡ decimal l ++ 32 ∷ decimal n
    → (k ≡ l) × (m ≡ n)
two_numbers k l m n fk fl fm fn e =
    let parts = number_front k l (decimal m) (decimal n) fk fl e in
    (parts.0, decimal_injective m n fm fn parts.1)

pub reply_line-same : (a b : Reply) → IsReplyInRange a → IsReplyInRange b → reply_line a ≡ reply_line b → a ≡ b
reply_line-same reply.Booted reply.Booted ra rb e = refl
reply_line-same reply.Off reply.Off ra rb e = refl
reply_line-same reply.Tampered reply.Tampered ra rb e = refl
reply_line-same reply.Armed reply.Armed ra rb e = refl
reply_line-same (reply.At k) (reply.At l) ra rb e =
    ap (λ (x : ℕ). reply.At x) (decimal_injective k l (limited_fits k ra) (limited_fits l rb) (append_cancel_left (codes "at ") (decimal k) (decimal l) e))
reply_line-same (reply.Done k m) (reply.Done l n) ra rb e =
    let parts = two_numbers k l m n (limited_fits k ra.0) (limited_fits l rb.0) (limited_fits m ra.1) (limited_fits n rb.1)
    (append_cancel_left (codes "done ") (decimal k ++ 32 ∷ decimal m) (decimal l ++ 32 ∷ decimal n) e) in
    let number = parts.0 in
    let log = parts.1 in
    cc
reply_line-same reply.Kept reply.Kept ra rb e = refl
reply_line-same reply.Dropped reply.Dropped ra rb e = refl
reply_line-same (reply.Value a) (reply.Value b) ra rb e =
    ap (λ (x : List ℕ). reply.Value x) (written_same a b ra rb (append_cancel_left (codes "value ") (hex_word a) (hex_word b) e))
reply_line-same reply.Absent reply.Absent ra rb e = refl
reply_line-same (reply.Signed k i a) (reply.Signed l j b) ra rb e =
    let whole = append_cancel_left (codes "signed ") (decimal k ++ 32 ∷ (decimal i ++ 32 ∷ hex_word a)) (decimal l ++ 32 ∷ (decimal j ++ 32 ∷ hex_word b)) e in
    let keys = number_front k l (decimal i ++ 32 ∷ hex_word a) (decimal j ++ 32 ∷ hex_word b) (limited_fits k ra.0) (limited_fits l rb.0) whole in
    let indices = number_front i j (hex_word a) (hex_word b) (limited_fits i ra.1) (limited_fits j rb.1) keys.1 in
    let statement = written_same a b ra.2 rb.2 indices.1 in
    let key = keys.0 in
    let index = indices.0 in
    cc
reply_line-same (reply.Called a) (reply.Called b) ra rb e =
    ap (λ (x : List ℕ). reply.Called x) (written_same a b ra rb (append_cancel_left (codes "called ") (hex_word a) (hex_word b) e))
reply_line-same (reply.Status s k m a b c) (reply.Status t l n d f g) ra rb e =
    let serials = first_same 32 (hex_word s) (hex_word t) _ _ (written_spaceless s ra.0) (written_spaceless t rb.0) (append_cancel_left (codes "status ") _ _ e) in
    let numbers = number_front k l _ _ (limited_fits k ra.1) (limited_fits l rb.1) serials.1 in
    let lengths = number_front m n _ _ (limited_fits m ra.2) (limited_fits n rb.2) numbers.1 in
    let ones = standing_front a d (32 ∷ (standing_word b ++ 32 ∷ standing_word c)) (32 ∷ (standing_word f ++ 32 ∷ standing_word g)) lengths.1 in
    let twos = standing_front b f (32 ∷ standing_word c) (32 ∷ standing_word g) (spaces_off _ _ ones.1) in
    let three = last_standing c g (spaces_off _ _ twos.1) in
    let serial = written_same s t ra.0 rb.0 serials.0 in
    let number = numbers.0 in
    let log = lengths.0 in
    let one = ones.0 in
    let two = twos.0 in
    cc
reply_line-same (reply.Refused k) (reply.Refused l) ra rb e =
    let whole = append_cancel_left (codes "refused ") (decimal k ++ 32 ∷ unwrap_or (refusal_words k) []) (decimal l ++ 32 ∷ unwrap_or (refusal_words l) []) e in
    ap (λ (x : ℕ). reply.Refused x) (number_front k l (unwrap_or (refusal_words k) []) (unwrap_or (refusal_words l) []) (limited_fits k ra.0) (limited_fits l rb.0) whole).0
reply_line-same reply.Stopped reply.Stopped ra rb e = refl
reply_line-same reply.NoMemory reply.NoMemory ra rb e = refl
reply_line-same a b ra rb e = two_replies a b (λ same. omega (arith, same)) e

-- ---- refusals

pub has_words : (refusal : Refusal) → HasLine (refusal_reply refusal)
has_words refusal = grind arith
