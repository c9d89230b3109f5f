-- Words that a generator gives, one after another, and what they are drawn for.
use Rattle.std.proofs.Common.{◌≡◌, ℕ, ◌+◌, ◌*◌, ◌/◌, ◌%◌, ◌≤◌, List, [], ◌∷◌, ◌++◌, length, take, refl, sym, ap, subst, ◌∙◌, arith, append_assoc, length-append}
use Rattle.std.specs.Prelude.{flat_map, replicate, Result, Ok, Err, IfOk}
use Rattle.std.proofs.lemmas.List.{append-nil, length-take}
use Rattle.std.proofs.lemmas.Grind.{flat_map-append}
use Rattle.mb_model.proofs.KeyLemmas.{length-word}
use Rattle.std.specs.List.{AllZip, concat}
use Rattle.std.specs.Int.{w32, to_be_bytes, div_ceil}
use Rattle.rand_core.specs.Steps.{first_words}
use Rattle.rand_chacha.specs.ChaCha.{ChaCha, next_word, of_seed}
use Rattle.std.specs.Prelude.{All}
use Rattle.std.proofs.lemmas.List.Elements.{All-nil, All-cons}
use Rattle.mb_model_commands.specs.Workload.{generator_words, DrawnBytes, DrawnSized, DrawnCode, DrawnRound, RoundDraws}
use Rattle.mb_model_commands.specs.Workload.{Draws}
use Rattle.mb_generate.specs.Orders.{RoundFits, DrawsFit}
use Rattle.mb_generate.specs.Drawing.{Gives, IsDrawn, DrawnEach, DrawnValues, DrawnRounds, AreDraws}

-- ---- words

-- words, and more words after them
pub gives_more : (old : ChaCha) (words more : List ℕ) (middle new : ChaCha) → Gives old words middle → Gives middle more new → Gives old (words ++ more) new
gives_more old [] more middle new first second = subst (λ (g : ChaCha). Gives g more new) first second
gives_more old (word ∷ words) more middle new first second = (first.0, gives_more (next_word 10 old).1 words more middle new first.1 second)

-- one word
pub gives_one : (old : ChaCha) (word : ℕ) (new : ChaCha) → ◌≡◌ {A = ℕ × ChaCha} (word, new) (next_word 10 old) → Gives old (word ∷ []) new
gives_one old word new is = (ap (λ (p : ℕ × ChaCha). p.0) is, ap (λ (p : ℕ × ChaCha). p.1) is)

-- they are the first of the stream
pub given_words : (old : ChaCha) (words : List ℕ) (new : ChaCha) → Gives old words new → words ≡ first_words (next_word 10) (length words) old
unfolding first_words
given_words old [] new given = refl
given_words old (word ∷ words) new given =
    let others = given_words (next_word 10 old).1 words new given.1 in
    λ i. given.0 i ∷ others i

-- ---- bytes

-- i words were given, and these are their bytes
pub record AreBytes (old : ChaCha) (i : ℕ) (bytes : List ℕ) (now : ChaCha) : Type 0 where
  pub words : List ℕ
  pub given : Gives old words now
  pub count : length words ≡ i
  pub bytes_are : bytes ≡ flat_map (to_be_bytes w32) words

pub no_bytes : (old : ChaCha) → AreBytes old 0 [] old
no_bytes old = record { words = []; given = refl; count = refl; bytes_are = refl }

pub four_more : (old : ChaCha) (i : ℕ) (bytes after : List ℕ) (now next : ChaCha) (word : ℕ) → AreBytes old i bytes now → ◌≡◌ {A = ℕ × ChaCha} (word, next) (next_word 10 now)
    → after ≡ bytes ++ to_be_bytes w32 word → AreBytes old (i + 1) after next
four_more old i bytes after now next word are is longer = record {
  words = are.words ++ word ∷ [];
  given = gives_more old are.words (word ∷ []) now next are.given (gives_one now word next is);
  count = length-append are.words (word ∷ []) ∙ ap (λ n. n + 1) are.count;
  bytes_are =
      longer ∙ ap (λ (bs : List ℕ). bs ++ to_be_bytes w32 word) are.bytes_are
      ∙ sym (flat_map-append (to_be_bytes w32) are.words (word ∷ []) ∙ ap (λ (bs : List ℕ). flat_map (to_be_bytes w32) are.words ++ bs) (append-nil (to_be_bytes w32 word)));
}

bytes_long : (words : List ℕ) → length (flat_map (to_be_bytes w32) words) ≡ 4 * length words
bytes_long [] = refl
bytes_long (word ∷ words) =
    let rest = bytes_long words in
    let first = length-word word in
    let both = length-append (to_be_bytes w32 word) (flat_map (to_be_bytes w32) words) in
    omega (arith, rest, first, both)

-- so many words are needed
needed : (n i : ℕ) → div_ceil n 4 ≤ i → i ≤ div_ceil n 4 → i ≡ (n + 3) / 4
needed n i least most = omega (arith, least, most)

pub bytes_drawn : (old : ChaCha) (n i : ℕ) (bytes : List ℕ) (now : ChaCha) → div_ceil n 4 ≤ i → i ≤ div_ceil n 4 → AreBytes old i bytes now → IsDrawn (DrawnBytes n) old (take n bytes) now
bytes_drawn old n i bytes now least most are = record {
  words = are.words;
  given = are.given;
  drawn = record { count = are.count ∙ needed n i least most; given = ap (take n) are.bytes_are };
}

pub bytes_taken : (old : ChaCha) (n i : ℕ) (bytes : List ℕ) (now : ChaCha) → div_ceil n 4 ≤ i → i ≤ div_ceil n 4 → AreBytes old i bytes now → length (take n bytes) ≡ n
bytes_taken old n i bytes now least most are =
    let all = ap length are.bytes_are ∙ bytes_long are.words in
    let taken = length-take n bytes in
    omega (arith, all, taken, are.count, needed n i least most)

-- bytes of which a word says how many
pub sized_drawn : (size : ℕ → ℕ) (old : ChaCha) (word : ℕ) (middle : ChaCha) (bytes : List ℕ) (new : ChaCha) → ◌≡◌ {A = ℕ × ChaCha} (word, middle) (next_word 10 old)
    → IsDrawn (DrawnBytes (size word)) middle bytes new → IsDrawn (DrawnSized size) old bytes new
sized_drawn size old word middle bytes new is drawn = record {
  words = word ∷ drawn.words;
  given = gives_more old (word ∷ []) drawn.words middle new (gives_one old word middle is) drawn.given;
  drawn = record { first = word; others = drawn.words; split = refl; drawn = drawn.drawn };
}

pub sized_result : {E : Type 0} (size : ℕ → ℕ) (old : ChaCha) (word : ℕ) (middle : ChaCha) (r : Result (List ℕ) E) (new : ChaCha) → ◌≡◌ {A = ℕ × ChaCha} (word, middle) (next_word 10 old)
    → IfOk r (λ bytes. IsDrawn (DrawnBytes (size word)) middle bytes new) → IfOk r (λ bytes. IsDrawn (DrawnSized size) old bytes new)
sized_result size old word middle (Ok bytes) new is drawn = sized_drawn size old word middle bytes new is drawn
sized_result size old word middle (Err e) new is drawn = tt

-- ---- lists of values

concat-push : (lists : List (List ℕ)) (list : List ℕ) → concat (lists ++ list ∷ []) ≡ concat lists ++ list
concat-push [] list = append-nil list
concat-push (first ∷ lists) list = ap (λ (ws : List ℕ). first ++ ws) (concat-push lists list) ∙ sym (append_assoc first (concat lists) list)

pub one_more_drawn : {A : Type 0} (Draws : List ℕ → A → Type 0) (old : ChaCha) (i : ℕ) (values : List A) (now : ChaCha) (value : A) (next : ChaCha)
    → IsDrawn (DrawnEach Draws i) old values now → IsDrawn Draws now value next → IsDrawn (DrawnEach Draws (i + 1)) old (values ++ value ∷ []) next
one_more_drawn {A} Draws old i values now value next all one = record {
  words = all.words ++ one.words;
  given = gives_more old all.words one.words now next all.given one.given;
  drawn = record {
    for_each = all.drawn.for_each ++ one.words ∷ [];
    in_order = ap (λ (ws : List ℕ). ws ++ one.words) all.drawn.in_order ∙ sym (concat-push all.drawn.for_each one.words);
    count_is = length-append values (value ∷ []) ∙ ap (λ n. n + 1) all.drawn.count_is;
    each = zip_push all.drawn.for_each values one.words value all.drawn.each one.drawn;
  };
}
  where
    zip_push : (lists : List (List ℕ)) (xs : List A) (list : List ℕ) (x : A) → AllZip Draws lists xs → Draws list x → AllZip Draws (lists ++ list ∷ []) (xs ++ x ∷ [])
    zip_push [] [] list x each own = (own, tt)
    zip_push [] (y ∷ xs) list x each own = absurd each
    zip_push (first ∷ lists) [] list x each own = absurd each
    zip_push (first ∷ lists) (y ∷ xs) list x each own = (each.0, zip_push lists xs list x each.1 own)

-- ---- a round

pub round_drawn : (old : ChaCha) (code : List ℕ) (a : ChaCha) (values : List (List ℕ)) (b : ChaCha) (message : List ℕ) (new : ChaCha)
    → IsDrawn DrawnCode old code a → IsDrawn (DrawnValues 4) a values b → IsDrawn (DrawnBytes 32) b message new
    → IsDrawn DrawnRound old (record { code = code; values = values; message = message }) new
round_drawn old code a values b message new coded valued stated = record {
  words = coded.words ++ valued.words ++ stated.words;
  given = gives_more old (coded.words ++ valued.words) stated.words b new (gives_more old coded.words valued.words a b coded.given valued.given) stated.given;
  drawn = record {
    for_code = coded.words;
    for_values = valued.drawn.for_each;
    for_message = stated.words;
    in_order = ap (λ (ws : List ℕ). coded.words ++ ws ++ stated.words) valued.drawn.in_order;
    code = coded.drawn;
    four = valued.drawn.count_is;
    values = valued.drawn.each;
    message = stated.drawn;
  };
}

-- ---- all

pub all_drawn : (number rounds : ℕ) {g a b c d e f h i j k : ChaCha} (draws : Draws) → g ≡ of_seed (to_be_bytes w32 number ++ replicate 28 0)
    → IsDrawn (DrawnBytes 32) g draws.root a → IsDrawn (DrawnBytes 32) a draws.officer_one b → IsDrawn (DrawnBytes 32) b draws.officer_two c
    → IsDrawn (DrawnBytes 32) c draws.officer_three d → IsDrawn (DrawnBytes 48) d draws.factory e
    → IsDrawn DrawnCode e draws.code_one f → IsDrawn DrawnCode f draws.code_two h → IsDrawn DrawnCode h draws.code_three i
    → IsDrawn (DrawnRounds rounds) i draws.rounds j → IsDrawn (DrawnBytes (32 * (5 + rounds))) j draws.noise k
    → AreDraws number rounds draws
unfolding generator_words
all_drawn number rounds {g} {a} {b} {c} {d} {e} {f} {h} {i} {j} {k} draws start root one two three device code_one code_two code_three each noise =
    let keys : List ℕ = root.words ++ one.words ++ two.words ++ three.words in
    let given_keys : Gives g keys d =
    gives_more g (root.words ++ one.words ++ two.words) three.words c d
    (gives_more g (root.words ++ one.words) two.words b c (gives_more g root.words one.words a b root.given one.given) two.given) three.given in
    let codes : List ℕ = keys ++ device.words ++ code_one.words ++ code_two.words ++ code_three.words in
    let given_codes : Gives g codes i =
    gives_more g (keys ++ device.words ++ code_one.words ++ code_two.words) code_three.words h i
    (gives_more g (keys ++ device.words ++ code_one.words) code_two.words f h
    (gives_more g (keys ++ device.words) code_one.words e f (gives_more g keys device.words d e given_keys device.given) code_one.given) code_two.given) code_three.given in
    let words : List ℕ = codes ++ each.words ++ noise.words in
    let given : Gives g words k = gives_more g (codes ++ each.words) noise.words j k (gives_more g codes each.words i j given_codes each.given) noise.given in
    record {
      words = words;
      first = given_words g words k given ∙ ap (first_words (next_word 10) (length words)) start;
      drawn = record {
        for_root = root.words;
        for_one = one.words;
        for_two = two.words;
        for_three = three.words;
        for_factory = device.words;
        for_code_one = code_one.words;
        for_code_two = code_two.words;
        for_code_three = code_three.words;
        for_rounds = each.drawn.for_each;
        for_noise = noise.words;
        in_order = ap (λ (ws : List ℕ). root.words ++ one.words ++ two.words ++ three.words ++ device.words ++ code_one.words ++ code_two.words ++ code_three.words ++ ws ++ noise.words) each.drawn.in_order;
        root = root.drawn;
        officer_one = one.drawn;
        officer_two = two.drawn;
        officer_three = three.drawn;
        factory = device.drawn;
        code_one = code_one.drawn;
        code_two = code_two.drawn;
        code_three = code_three.drawn;
        all_rounds = each.drawn.count_is;
        each_round = each.drawn.each;
        noise = noise.drawn;
      };
    }

-- ---- how long they are

pub drawn_long : (n : ℕ) (words bytes : List ℕ) → DrawnBytes n words bytes → length bytes ≡ n
drawn_long n words bytes drawn =
    let all = bytes_long words in
    let taken = length-take n (flat_map (to_be_bytes w32) words) in
    ap length drawn.given ∙ omega (arith, all, taken, drawn.count)

code_short : (words code : List ℕ) → DrawnCode words code → length code ≤ 32768
code_short words code drawn =
    let long = drawn_long (1024 + drawn.first % 31745) drawn.others code drawn.drawn in
    omega (arith, long)

-- each of some values, where each was drawn
pub each_drawn : {A : Type 0} (Drawn : List ℕ → A → Type 0) (Is : A → Type 0) → ((words : List ℕ) (x : A) → Drawn words x → Is x)
    → (lists : List (List ℕ)) (xs : List A) → AllZip Drawn lists xs → All Is xs
each_drawn Drawn Is one [] [] each = All-nil Is
each_drawn Drawn Is one [] (x ∷ xs) each = absurd each
each_drawn Drawn Is one (words ∷ lists) [] each = absurd each
each_drawn Drawn Is one (words ∷ lists) (x ∷ xs) each = All-cons Is x xs (one words x each.0) (each_drawn Drawn Is one lists xs each.1)

drawn_fits : (words : List ℕ) (round : RoundDraws) → DrawnRound words round → RoundFits round
drawn_fits words round is = record { code = code_short is.for_code round.code is.code; values = omega (arith, is.four) }

pub draws_fit : (number rounds : ℕ) (draws : Draws) → AreDraws number rounds draws → DrawsFit draws
draws_fit number rounds draws are = record {
  one = code_short are.drawn.for_code_one draws.code_one are.drawn.code_one;
  two = code_short are.drawn.for_code_two draws.code_two are.drawn.code_two;
  three = code_short are.drawn.for_code_three draws.code_three are.drawn.code_three;
  rounds = each_drawn DrawnRound RoundFits drawn_fits are.drawn.for_rounds draws.rounds are.drawn.each_round;
}
