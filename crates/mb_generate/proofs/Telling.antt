-- The lines of a workload's script tell events, each line one.
use Rattle.std.proofs.Common.{◌≡◌, ◌≢◌, ℕ, ◌+◌, ◌*◌, ◌≤◌, inl, inr, Bool, true, false, cond, List, [], ◌∷◌, ◌++◌, length, map, take, drop, replicate, refl, sym, ap, subst, ◌∙◌, arith, length-append}
use Rattle.std.specs.Prelude.{All, codes, flat_map, filter, zip, ◌==◌}
use Rattle.std.specs.List.{AllZip}
use Rattle.std.specs.Fmt.{decimal}
use Rattle.std.proofs.lemmas.Bool.{cases_lt, eqb-false}
use Rattle.std.proofs.lemmas.Fmt.{decimal_digit}
use Rattle.std.proofs.lemmas.Grind.{flat_map-append}
use Rattle.std.proofs.lemmas.List.{get_or_past, length-take}
use Rattle.std.proofs.lemmas.List.Concat.{flat_map_single}
use Rattle.std.proofs.lemmas.List.Elements.{All-nil, All-cons, All-head, All-tail, All-append, All-take, All-drop, All-same, All-weaker, All-from_recursion, filter-append}
use Rattle.hex.specs.Hex.{is_hex_digit}
use Rattle.hex.proofs.HexLemmas.{decode_of-ok, length-encode_with}
use Rattle.mb_format.specs.Format.{IsBytes}
use Rattle.mb_model.specs.declared.event.Event.{Event}
use Rattle.mb_model.specs.declared.event.Event.TheVariants as event
use Rattle.mb_model.specs.declared.order.Order.{Order}
use Rattle.mb_model.specs.outside.Texts.{line_with_lf, IsHex}
use Rattle.mb_model.specs.chains.Lines.{IsLine, text_of, spaced_words, hex_word}
use Rattle.mb_model.specs.records.OrderFormat.{order_format}
use Rattle.mb_model.specs.chains.OrderLines.{order_line}
use Rattle.mb_model.specs.chains.Script.{IsName, SaysEvent, is_skipped, with_before, commands_in}
use Rattle.mb_model_commands.specs.declared.workload.Workload.{Workload}
use Rattle.mb_model_commands.specs.Workload.{RoundDraws, Draws, secret_name, put_line, round_lines, signed_orders, workload_lines}
use Rattle.mb_model_lemmas.proofs.LineLemmas.{isnt}
use Rattle.mb_model_lemmas.proofs.DrawLemmas.{length-with_before, commands_in-append}
use Rattle.mb_model_lemmas.proofs.EventLemmas.{counts}
use Rattle.mb_model_lemmas.proofs.WordLemmas.{hex_word-read}
use Rattle.mb_generate.specs.Drawing.{AreDraws}
use Rattle.mb_generate.specs.Scripts.{sign_line}
use Rattle.mb_generate.specs.Serving.{CanBeServed}
use Rattle.mb_generate.proofs.Drawings.{drawn_long}
use Rattle.mb_generate.proofs.Spellings.{is_byte, BytesUpTo, IsSpelled, RoundBytes, DrawsBytes, draws_bytes, all_before, orders_spelled}

-- ---- lines that tell events

-- Each line says an event: at most so many events, so many of them commands, and so many bytes of text.
record Tells (lines : List (List ℕ)) (count commands most : ℕ) : Type 0 where
  events : List Event
  plain : All IsLine lines
  kept : filter counts lines ≡ lines
  said : AllZip SaysEvent lines events
  few : length events ≤ count
  few_commands : commands_in events ≤ commands
  short : length (text_of lines) ≤ most

tells_none : Tells [] 0 0 0
unfolding commands_in
tells_none = record {
  events = [];
  plain = All-nil IsLine;
  kept = refl;
  said = tt;
  few = omega arith;
  few_commands = omega arith;
  short = omega arith;
}

-- a line that says an event
tells : (line : List ℕ) (e : Event) (most : ℕ) → IsLine line → is_skipped line ≡ false → SaysEvent line e → length line ≤ most
    → Tells (line ∷ []) 1 (commands_in (e ∷ [])) (most + 1)
tells line e most plain counted says few = record {
  events = e ∷ [];
  plain = All-cons IsLine line [] plain (All-nil IsLine);
  kept = rw counted refl;
  said = (says, tt);
  few = omega arith;
  few_commands = omega arith;
  short = omega (arith, few, length-append (line_with_lf line) [], length-append line (10 ∷ []));
}

said_both : (a b : List (List ℕ)) (es fs : List Event) → AllZip SaysEvent a es → AllZip SaysEvent b fs → AllZip SaysEvent (a ++ b) (es ++ fs)
said_both [] b [] fs first second = second
said_both [] b (e ∷ es) fs first second = absurd first
said_both (line ∷ a) b [] fs first second = absurd first
said_both (line ∷ a) b (e ∷ es) fs first second = (first.0, said_both a b es fs first.1 second)

tells_both : {a b : List (List ℕ)} {m n c d s t : ℕ} → Tells a m c s → Tells b n d t → Tells (a ++ b) (m + n) (c + d) (s + t)
tells_both {a} {b} first second = record {
  events = first.events ++ second.events;
  plain = All-append IsLine a b first.plain second.plain;
  kept = filter-append counts a b ∙ (λ i. first.kept i ++ second.kept i);
  said = said_both a b first.events second.events first.said second.said;
  few = omega (arith, length-append first.events second.events, first.few, second.few);
  few_commands = omega (arith, commands_in-append first.events second.events, first.few_commands, second.few_commands);
  short = omega (arith, ap length (flat_map-append line_with_lf a b), length-append (text_of a) (text_of b), first.short, second.short);
}

tells_more : {lines : List (List ℕ)} {m n c d s t : ℕ} → Tells lines m c s → m ≤ n → c ≤ d → s ≤ t → Tells lines n d t
tells_more is le_count le_commands le_bytes = record {
  events = is.events;
  plain = is.plain;
  kept = is.kept;
  said = is.said;
  few = omega (arith, is.few, le_count);
  few_commands = omega (arith, is.few_commands, le_commands);
  short = omega (arith, is.short, le_bytes);
}

-- what each item gives, one after another
tells_each : {A : Type 0} (f : A → List (List ℕ)) (m c s : ℕ) (xs : List A) → All (λ x. Tells (f x) m c s) xs
    → Tells (flat_map f xs) (m * length xs) (c * length xs) (s * length xs)
tells_each f m c s [] all = tells_more tells_none (omega arith) (omega arith) (omega arith)
tells_each {A} f m c s (x ∷ xs) all =
    let Each : A → Type 0 = λ y. Tells (f y) m c s in
    tells_more (tells_both (All-head Each x xs all) (tells_each f m c s xs (All-tail Each x xs all))) (omega arith) (omega arith) (omega arith)

tells_lines : {A : Type 0} (f : A → List ℕ) (c s : ℕ) (xs : List A) → All (λ x. Tells (f x ∷ []) 1 c s) xs
    → Tells (map f xs) (1 * length xs) (c * length xs) (s * length xs)
tells_lines f c s xs all =
    subst (λ (lines : List (List ℕ)). Tells lines (1 * length xs) (c * length xs) (s * length xs)) (flat_map_single f xs) (tells_each (λ x. f x ∷ []) 1 c s xs all)

-- ---- words

bytes_at : (bytes : List ℕ) → All is_byte bytes → IsBytes bytes
bytes_at bytes all i =
    elim (cases_lt i (length bytes)) [
      | inl less ↦ all i 0 less
      | inr past ↦ omega (arith, get_or_past bytes i 0 past)
    ]

digit_stays : (byte : ℕ) → is_hex_digit byte ≡ true → byte ≢ 10
digit_stays byte digit lf = let none : is_hex_digit 10 ≡ false = refl in cc

hex_plain : (word bytes : List ℕ) → IsHex word bytes → IsLine word
hex_plain word bytes (inl dash) =
    All-same (isnt 10) word (codes "-") dash.0 (All-cons (isnt 10) 45 [] (λ e. omega (arith, e)) (All-nil (isnt 10)))
hex_plain word bytes (inr digits) =
    All-weaker (λ (byte : ℕ). is_hex_digit byte ≡ true) (isnt 10) digit_stays word (decode_of-ok word bytes digits.1).1

hex_long : (bytes : List ℕ) → length (hex_word bytes) ≤ 1 + 2 * length bytes
hex_long [] = omega arith
hex_long (byte ∷ bytes) = omega (arith, length-encode_with (codes "0123456789abcdef") (byte ∷ bytes))

-- whether a text has no LF
abbrev has_no_lf : List ℕ → Bool
has_no_lf [] = true
has_no_lf (byte ∷ bytes) = cond (byte == 10) false (has_no_lf bytes)

has_none : (first after : Bool) → cond first false after ≡ true → (first ≡ false) × (after ≡ true)
has_none true after h = absurd cc
has_none false after h = (refl, h)

tested : (text : List ℕ) → has_no_lf text ≡ true → IsLine text
tested [] h = All-nil (isnt 10)
tested (byte ∷ bytes) h =
    let parts = has_none (byte == 10) (has_no_lf bytes) h in
    All-cons (isnt 10) byte bytes (eqb-false byte 10 parts.0) (tested bytes parts.1)

-- ---- single lines

-- the line of an order
tells_order : (order : Order) → IsSpelled order → Tells (order_line order ∷ []) 1 1 131080
unfolding commands_in
tells_order order is =
    let bytes : List ℕ = order_format.spelling order in
    let word = hex_word-read bytes (bytes_at bytes is.each) in
    tells (order_line order) (event.Order bytes (replicate 32 0)) 131079
    (All-append (isnt 10) (codes "command ") (hex_word bytes) (tested (codes "command ") refl) (hex_plain (hex_word bytes) bytes word))
    refl
    ((hex_word bytes, word, refl), refl)
    (omega (arith, length-append (codes "command ") (hex_word bytes), hex_long bytes, is.few))

three : codes "3" ≡ decimal 3
three = sym (decimal_digit 3 (omega arith))

one : codes "1" ≡ decimal 1
one = sym (decimal_digit 1 (omega arith))

-- the name of a secret
named : (n : ℕ) → IsName (secret_name n)
named n = record {
  some = omega arith;
  most = omega arith;
  printed = All-from_recursion (λ (byte : ℕ). (0x21 ≤ byte) × (byte ≤ 0x7E)) (secret_name n)
      ((omega arith, omega arith), ((omega arith, omega arith), ((omega arith, omega arith), tt)));
}

name_plain : (n : ℕ) → IsLine (secret_name n)
name_plain n = All-weaker (λ (byte : ℕ). (0x21 ≤ byte) × (byte ≤ 0x7E)) (isnt 10) (λ byte printed lf. omega (arith, printed.0, lf)) (secret_name n) (named n).printed

tells_put : (n : ℕ) (value : List ℕ) → BytesUpTo 128 value → Tells (put_line n value ∷ []) 1 0 268
unfolding commands_in
tells_put n value is =
    let word = hex_word-read value (bytes_at value is.each) in
    tells (put_line n value) (event.Put 3 (secret_name n) value) 267
    (All-append (isnt 10) (codes "put 3 ") (secret_name n ++ 32 ∷ hex_word value) (tested (codes "put 3 ") refl)
    (All-append (isnt 10) (secret_name n) (32 ∷ hex_word value) (name_plain n)
    (All-cons (isnt 10) 32 (hex_word value) (λ lf. omega (arith, lf)) (hex_plain (hex_word value) value word))))
    refl
    (refl, named n, is.few, (hex_word value, word, λ i. spaced_words (codes "put" ∷ three i ∷ secret_name n ∷ hex_word value ∷ [])))
    (omega (arith, length-append (codes "put 3 ") (secret_name n ++ 32 ∷ hex_word value), hex_long value, is.few))

tells_sign : (message : List ℕ) → BytesUpTo 32 message → Tells (sign_line message ∷ []) 1 0 75
unfolding commands_in
tells_sign message is =
    let word = hex_word-read message (bytes_at message is.each) in
    tells (sign_line message) (event.Sign 3 1 message) 74
    (All-append (isnt 10) (codes "sign 3 1 ") (hex_word message) (tested (codes "sign 3 1 ") refl) (hex_plain (hex_word message) message word))
    refl
    (refl, omega arith, omega (arith, is.few), (hex_word message, word, λ i. spaced_words (codes "sign" ∷ three i ∷ one i ∷ hex_word message ∷ [])))
    (omega (arith, length-append (codes "sign 3 1 ") (hex_word message), hex_long message, is.few))

tells_boot : Tells (codes "boot" ∷ []) 1 0 5
unfolding commands_in
tells_boot = tells (codes "boot") event.Boot 4 (tested (codes "boot") refl) refl refl (omega arith)

tells_off : Tells (codes "off" ∷ []) 1 0 4
unfolding commands_in
tells_off = tells (codes "off") event.Off 3 (tested (codes "off") refl) refl refl (omega arith)

tells_go : Tells (codes "go" ∷ []) 1 0 3
unfolding commands_in
tells_go = tells (codes "go") event.Go 2 (tested (codes "go") refl) refl refl (omega arith)

-- ---- rounds

tells_puts : (n : ℕ) (values : List (List ℕ)) → All (BytesUpTo 128) values → length values ≡ 4
    → Tells (map (λ at. put_line (n + length at.0) at.1) (with_before values)) 4 0 1072
tells_puts n values all four =
    let put : List (List ℕ) × List ℕ → List ℕ = λ at. put_line (n + length at.0) at.1 in
    let count = length-with_before values in
    tells_more
    (tells_lines put 0 268 (with_before values)
    (All-weaker (λ (at : List (List ℕ) × List ℕ). BytesUpTo 128 at.1) (λ at. Tells (put at ∷ []) 1 0 268) (λ at is. tells_put (n + length at.0) at.1 is)
    (with_before values) (all_before (BytesUpTo 128) values all)))
    (omega (arith, count, four)) (omega arith) (omega (arith, count, four))

-- off, boot, an order, go, go, four puts and a statement
tells_round : (n : ℕ) (order : Order) (round : RoundDraws) → IsSpelled order → RoundBytes round → Tells (round_lines n order round) 10 1 132242
tells_round n order round is are =
    tells_both tells_off (tells_both tells_boot (tells_both (tells_order order is) (tells_both tells_go (tells_both tells_go
    (tells_both (tells_puts (4 * n) round.values are.values are.four) (tells_sign round.message are.message))))))

all_zipped : {A B : Type 0} (P : A → Type 0) (Q : B → Type 0) (xs : List A) (ys : List B) → All P xs → All Q ys → All (λ p. P p.0 × Q p.1) (zip xs ys)
all_zipped {A} {B} P Q [] ys ps qs = All-nil (λ (p : A × B). P p.0 × Q p.1)
all_zipped {A} {B} P Q (x ∷ xs) [] ps qs = All-nil (λ (p : A × B). P p.0 × Q p.1)
all_zipped {A} {B} P Q (x ∷ xs) (y ∷ ys) ps qs =
    All-cons (λ (p : A × B). P p.0 × Q p.1) (x, y) (zip xs ys) (All-head P x xs ps, All-head Q y ys qs)
    (all_zipped P Q xs ys (All-tail P x xs ps) (All-tail Q y ys qs))

zip_few : {A B : Type 0} (xs : List A) (ys : List B) → length (zip xs ys) ≤ length ys
zip_few [] ys = omega arith
zip_few (x ∷ xs) [] = omega arith
zip_few (x ∷ xs) (y ∷ ys) = omega (arith, zip_few xs ys)

-- ---- the script

tells_workload : (draws : Draws) → DrawsBytes draws → length draws.rounds ≤ 24 → Tells (workload_lines draws) 247 (5 + length draws.rounds) 3829217
unfolding workload_lines
tells_workload draws are most =
    let orders = orders_spelled draws are in
    let first : List Order = take 5 (signed_orders draws) in
    let pairs : List (Order × RoundDraws) = zip (drop 5 (signed_orders draws)) draws.rounds in
    let Both : Order × RoundDraws → Type 0 = λ p. IsSpelled p.0 × RoundBytes p.1 in
    let both : All Both pairs = all_zipped IsSpelled RoundBytes (drop 5 (signed_orders draws)) draws.rounds (All-drop IsSpelled 5 (signed_orders draws) orders) are.rounds in
    let before = tells_lines order_line 1 131080 first
    (All-weaker IsSpelled (λ order. Tells (order_line order ∷ []) 1 1 131080) tells_order first (All-take IsSpelled 5 (signed_orders draws) orders)) in
    let rounds = tells_each (λ (at : List (Order × RoundDraws) × (Order × RoundDraws)). round_lines (length at.0) at.1.0 at.1.1) 10 1 132242 (with_before pairs)
    (All-weaker (λ (at : List (Order × RoundDraws) × (Order × RoundDraws)). Both at.1) (λ at. Tells (round_lines (length at.0) at.1.0 at.1.1) 10 1 132242)
    (λ at is. tells_round (length at.0) at.1.0 at.1.1 is.0 is.1) (with_before pairs) (all_before Both pairs both)) in
    let five = length-take 5 (signed_orders draws) in
    let count = length-with_before pairs in
    let few = zip_few (drop 5 (signed_orders draws)) draws.rounds in
    tells_more (tells_both (tells_both (tells_both tells_boot before) rounds) tells_off)
    (omega (arith, five, count, few, most)) (omega (arith, five, count, few, most)) (omega (arith, five, count, few, most))

-- the script of a workload is one, and its noise is enough
pub served : (number rounds : ℕ) (draws : Draws) (made : Workload) → AreDraws number rounds draws → rounds ≤ 24
    → made.script ≡ text_of (workload_lines draws) → made.noise ≡ draws.noise → CanBeServed made
served number rounds draws made are most script noise =
    let tell = tells_workload draws (draws_bytes number rounds draws are) (omega (arith, are.drawn.all_rounds, most)) in
    let long = drawn_long (32 * (5 + rounds)) are.drawn.for_noise draws.noise are.drawn.noise in
    let same = ap length noise in
    let text = ap length script in
    record {
      undrawn = tell.events;
      script = record {
        lines = workload_lines draws;
        has = record { plain = tell.plain; whole = inl script };
        stands = record {
          said = subst (λ (lines : List (List ℕ)). AllZip SaysEvent lines tell.events) (sym tell.kept) tell.said;
          most = omega (arith, tell.few);
        };
      };
      noise = omega (arith, tell.few_commands, are.drawn.all_rounds, long, same);
      script_fits = omega (arith, tell.short, text);
      noise_fits = omega (arith, long, same, most);
    }
