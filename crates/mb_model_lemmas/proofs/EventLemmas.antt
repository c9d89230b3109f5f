-- A script's lines stand for at most one list of events.
use Rattle.std.proofs.Common.{◌≡◌, ℕ, ◌+◌, ◌*◌, ◌<◌, ◌^◌, inl, inr, List, [], ◌∷◌, ◌++◌, refl, sym, ap, subst, ◌∙◌, arith, suc, ◌≤◌, length, length-append, Bool, false}
use Rattle.std.specs.Prelude.{codes, IsTrue, IfSome, Option, None, Some, not, filter}
use Rattle.std.specs.List.{AllZip}
use Rattle.std.specs.Fmt.{decimal}
use Rattle.std.proofs.lemmas.List.{append_cancel_left}
use Rattle.std.proofs.lemmas.List.Elements.{filter-append}
use Rattle.mb_model.specs.declared.event.Event.{Event}
use Rattle.mb_model.specs.declared.event.Event.TheVariants as event
use Rattle.mb_model.specs.declared.event.Tear.{Tear}
use Rattle.mb_model.specs.chains.Lines.{number_limit, spaced_words, FailsAtLine}
use Rattle.mb_model.specs.owners.Layers.{is_upper}
use Rattle.mb_model.specs.chains.Script.{called_word, tear_of, IsName, IsCutLine, EndsInHex, SaysEvent, is_skipped, IsScript}
use Rattle.mb_model_lemmas.proofs.LineLemmas.{cons_same, first_same, IsBeginning-all, bad_after}
use Rattle.mb_model_lemmas.proofs.WordLemmas.{no_dash, number_front, upper_fits, limited_fits, name_spaceless, IsHex-same}

-- ---- the first two letters of a line tell the kind of its event

abbrev pub letters : List ℕ → ℕ
letters [] = 0
letters (a ∷ []) = 0
letters (a ∷ b ∷ rest) = 256 * a + b

abbrev pub letters_of : Event → ℕ
letters_of event.Boot = letters (codes "boot")
letters_of event.Off = letters (codes "off")
letters_of event.Tamper = letters (codes "tamper")
letters_of event.Status = letters (codes "status")
letters_of event.Go = letters (codes "go")
letters_of (event.Cut count tear) = letters (codes "cut")
letters_of (event.Order text draw) = letters (codes "command")
letters_of (event.Put region name value) = letters (codes "put")
letters_of (event.Get region name) = letters (codes "get")
letters_of (event.Drop region name) = letters (codes "drop")
letters_of (event.Sign region key message) = letters (codes "sign")
letters_of (event.Call region key input) = letters (codes "call")

pub says_letters : (line : List ℕ) (e : Event) → SaysEvent line e → letters line ≡ letters_of e
says_letters line event.Boot says = ap letters says
says_letters line event.Off says = ap letters says
says_letters line event.Tamper says = ap letters says
says_letters line event.Status says = ap letters says
says_letters line event.Go says = ap letters says
says_letters line (event.Cut count tear) says = ap letters says.spelled
says_letters line (event.Order text draw) says = ap letters says.0.2
says_letters line (event.Put region name value) says = ap letters says.3.2
says_letters line (event.Get region name) says = ap letters says.2
says_letters line (event.Drop region name) says = ap letters says.2
says_letters line (event.Sign region key message) says = ap letters says.3.2
says_letters line (event.Call region key input) says = ap letters says.3.2

-- ---- cuts

-- what stands after the count of a cut
data CutTail (tail word : List ℕ) (keep : ℕ) : Type 0 where
  kept : tail ≡ codes "keep " ++ decimal keep ++ 32 ∷ (codes "fill " ++ word) → CutTail tail word keep
  none : keep ≡ 0 → tail ≡ codes "fill " ++ word → CutTail tail word keep

cut_tail : (line : List ℕ) (count : ℕ) (tear : Tear) (says : IsCutLine line count tear)
    → (tail : List ℕ) × (line ≡ codes "cut " ++ decimal count ++ 32 ∷ tail) × CutTail tail says.fill_word tear.keep
cut_tail line count tear says =
    elim says.kept [
      | inl words ↦ (
        codes "keep " ++ decimal tear.keep ++ 32 ∷ (codes "fill " ++ says.fill_word),
        subst (λ (x : List (List ℕ)). line ≡ spaced_words (codes "cut" ∷ decimal count ∷ x ++ codes "fill" ∷ says.fill_word ∷ [])) words says.spelled,
        kept refl,
      )
      | inr left_out ↦ (
        codes "fill " ++ says.fill_word,
        subst (λ (x : List (List ℕ)). line ≡ spaced_words (codes "cut" ∷ decimal count ∷ x ++ codes "fill" ∷ says.fill_word ∷ [])) left_out.0 says.spelled,
        none left_out.1 refl,
      )
    ]

tail_same : (tail a b : List ℕ) (j k : ℕ) → j < 2 ^ 64 → k < 2 ^ 64 → CutTail tail a j → CutTail tail b k → (j ≡ k) × (a ≡ b)
tail_same tail a b j k fj fk (kept ea) (kept eb) =
    let remaining = append_cancel_left (codes "keep ") _ _ (sym ea ∙ eb) in
    let parts = number_front j k (codes "fill " ++ a) (codes "fill " ++ b) fj fk remaining in
    (parts.0, append_cancel_left (codes "fill ") a b parts.1)
tail_same tail a b j k fj fk (kept ea) (none zb eb) = absurd (omega (arith, (cons_same 107 102 _ _ (sym ea ∙ eb)).0))
tail_same tail a b j k fj fk (none za ea) (kept eb) = absurd (omega (arith, (cons_same 102 107 _ _ (sym ea ∙ eb)).0))
tail_same tail a b j k fj fk (none za ea) (none zb eb) = (za ∙ sym zb, append_cancel_left (codes "fill ") a b (sym ea ∙ eb))

cut_same : (line : List ℕ) (m n : ℕ) (s t : Tear) → IsCutLine line m s → IsCutLine line n t → event.Cut m s ≡ event.Cut n t
cut_same line m n s t hs ht =
    let ts = cut_tail line m s hs in
    let tt_ = cut_tail line n t ht in
    let whole = append_cancel_left (codes "cut ") _ _ (sym ts.1 ∙ tt_.1) in
    let parts = number_front m n ts.0 tt_.0 (omega (arith, hs.allowed.most)) (omega (arith, ht.allowed.most)) whole in
    let rest = tail_same tt_.0 hs.fill_word ht.fill_word s.keep t.keep (omega (arith, hs.allowed.torn.keep)) (omega (arith, ht.allowed.torn.keep))
    (subst (λ (x : List ℕ). CutTail x hs.fill_word s.keep) parts.1 ts.2) tt_.2 in
    let keep = rest.0 in
    let fill = IsHex-same hs.fill_word ht.fill_word hs.fill ht.fill rest.1 hs.filled ht.filled in
    let tears = hs.allowed.torn.made ∙ ap (λ (x : ℕ). tear_of x hs.fill) keep ∙ ap (λ (x : List ℕ). tear_of t.keep x) fill ∙ sym ht.allowed.torn.made in
    let count = parts.0 in
    cc

-- ---- the other events with words

command_same : (line a b d f : List ℕ) → EndsInHex line (codes "command" ∷ []) a → EndsInHex line (codes "command" ∷ []) b → d ≡ f
    → event.Order a d ≡ event.Order b f
command_same line a b d f ha hb draws =
    let words = append_cancel_left (codes "command ") ha.0 hb.0 (sym ha.2 ∙ hb.2) in
    let text = IsHex-same ha.0 hb.0 a b words ha.1 hb.1 in
    cc

-- a region, and the name or the number after it, before a hexadecimal word
put_same : (line n m a b : List ℕ) (k l : ℕ) → IsTrue (is_upper k) → IsTrue (is_upper l) → IsName n → IsName m
    → EndsInHex line (codes "put" ∷ decimal k ∷ n ∷ []) a → EndsInHex line (codes "put" ∷ decimal l ∷ m ∷ []) b
    → event.Put k n a ≡ event.Put l m b
put_same line n m a b k l uk ul nn nm ha hb =
    let whole = append_cancel_left (codes "put ") _ _ (sym ha.2 ∙ hb.2) in
    let regions = number_front k l (n ++ 32 ∷ ha.0) (m ++ 32 ∷ hb.0) (upper_fits k uk) (upper_fits l ul) whole in
    let names = first_same 32 n m ha.0 hb.0 (name_spaceless n nn) (name_spaceless m nm) regions.1 in
    let value = IsHex-same ha.0 hb.0 a b names.1 ha.1 hb.1 in
    let region = regions.0 in
    let name = names.0 in
    cc

sign_same : (line a b : List ℕ) (k l i j : ℕ) → IsTrue (is_upper k) → IsTrue (is_upper l) → i < 2 ^ 64 → j < 2 ^ 64
    → EndsInHex line (codes "sign" ∷ decimal k ∷ decimal i ∷ []) a → EndsInHex line (codes "sign" ∷ decimal l ∷ decimal j ∷ []) b
    → event.Sign k i a ≡ event.Sign l j b
sign_same line a b k l i j uk ul fi fj ha hb =
    let whole = append_cancel_left (codes "sign ") _ _ (sym ha.2 ∙ hb.2) in
    let regions = number_front k l (decimal i ++ 32 ∷ ha.0) (decimal j ++ 32 ∷ hb.0) (upper_fits k uk) (upper_fits l ul) whole in
    let keys = number_front i j ha.0 hb.0 fi fj regions.1 in
    let message = IsHex-same ha.0 hb.0 a b keys.1 ha.1 hb.1 in
    let region = regions.0 in
    let key = keys.0 in
    cc

-- the word for a key, before a space: a number begins with a digit, and is no dash
keys_same : (i j : Option ℕ) (xs ys : List ℕ) → IfSome i (λ n. n ≤ number_limit) → IfSome j (λ n. n ≤ number_limit) → called_word i ++ 32 ∷ xs ≡ called_word j ++ 32 ∷ ys → (i ≡ j) × (xs ≡ ys)
keys_same None None xs ys fi fj e = (refl, (cons_same 32 32 xs ys (cons_same 45 45 (32 ∷ xs) (32 ∷ ys) e).1).1)
keys_same None (Some j) xs ys fi fj e = absurd (no_dash j (limited_fits j fj) (32 ∷ xs) (32 ∷ ys) e)
keys_same (Some i) None xs ys fi fj e = absurd (no_dash i (limited_fits i fi) (32 ∷ ys) (32 ∷ xs) (sym e))
keys_same (Some i) (Some j) xs ys fi fj e =
    let parts = number_front i j xs ys (limited_fits i fi) (limited_fits j fj) e in
    (ap Some parts.0, parts.1)

call_same : (line a b : List ℕ) (k l : ℕ) (i j : Option ℕ) → IsTrue (is_upper k) → IsTrue (is_upper l) → IfSome i (λ n. n ≤ number_limit) → IfSome j (λ n. n ≤ number_limit)
    → EndsInHex line (codes "call" ∷ decimal k ∷ called_word i ∷ []) a → EndsInHex line (codes "call" ∷ decimal l ∷ called_word j ∷ []) b
    → event.Call k i a ≡ event.Call l j b
call_same line a b k l i j uk ul fi fj ha hb =
    let whole = append_cancel_left (codes "call ") _ _ (sym ha.2 ∙ hb.2) in
    let regions = number_front k l (called_word i ++ 32 ∷ ha.0) (called_word j ++ 32 ∷ hb.0) (upper_fits k uk) (upper_fits l ul) whole in
    let keys = keys_same i j ha.0 hb.0 fi fj regions.1 in
    let input = IsHex-same ha.0 hb.0 a b keys.1 ha.1 hb.1 in
    let region = regions.0 in
    let key = keys.0 in
    cc

get_same : (n m : List ℕ) (k l : ℕ) → IsTrue (is_upper k) → IsTrue (is_upper l) → decimal k ++ 32 ∷ n ≡ decimal l ++ 32 ∷ m → (k ≡ l) × (n ≡ m)
get_same n m k l uk ul e = number_front k l n m (upper_fits k uk) (upper_fits l ul) e

-- ---- one line, one event

-- lines that say events of two kinds differ
two_kinds : (line : List ℕ) (a b : Event) → (letters_of a ≡ letters_of b → ⊥) → SaysEvent line a → SaysEvent line b → a ≡ b
two_kinds line a b apart ha hb = absurd (apart (sym (says_letters line a ha) ∙ says_letters line b hb))

pub SaysEvent-same : (line : List ℕ) (a b : Event) → SaysEvent line a → SaysEvent line b → a ≡ b
SaysEvent-same line event.Boot event.Boot ha hb = refl
SaysEvent-same line event.Off event.Off ha hb = refl
SaysEvent-same line event.Tamper event.Tamper ha hb = refl
SaysEvent-same line event.Status event.Status ha hb = refl
SaysEvent-same line event.Go event.Go ha hb = refl
SaysEvent-same line (event.Cut m s) (event.Cut n t) ha hb = cut_same line m n s t ha hb
SaysEvent-same line (event.Order a d) (event.Order b f) ha hb = command_same line a b d f ha.0 hb.0 (ha.1 ∙ sym hb.1)
SaysEvent-same line (event.Put k n a) (event.Put l m b) ha hb = put_same line n m a b k l ha.0 hb.0 ha.1 hb.1 ha.3 hb.3
SaysEvent-same line (event.Get k n) (event.Get l m) ha hb =
    let parts = get_same n m k l ha.0 hb.0 (append_cancel_left (codes "get ") _ _ (sym ha.2 ∙ hb.2)) in
    let region = parts.0 in
    let name = parts.1 in
    cc
SaysEvent-same line (event.Drop k n) (event.Drop l m) ha hb =
    let parts = get_same n m k l ha.0 hb.0 (append_cancel_left (codes "drop ") _ _ (sym ha.2 ∙ hb.2)) in
    let region = parts.0 in
    let name = parts.1 in
    cc
SaysEvent-same line (event.Sign k i a) (event.Sign l j b) ha hb =
    sign_same line a b k l i j ha.0 hb.0 (limited_fits i ha.1) (limited_fits j hb.1) ha.3 hb.3
SaysEvent-same line (event.Call k i a) (event.Call l j b) ha hb =
    call_same line a b k l i j ha.0 hb.0 ha.1 hb.1 ha.3 hb.3
SaysEvent-same line a b ha hb = two_kinds line a b (λ e. omega (arith, e)) ha hb

-- lines, each of which says an event, say one list of events
AllZip-same : (lines : List (List ℕ)) (a b : List Event) → AllZip SaysEvent lines a → AllZip SaysEvent lines b → a ≡ b
AllZip-same [] [] [] ha hb = refl
AllZip-same [] [] (b ∷ bs) ha hb = absurd hb
AllZip-same [] (a ∷ as_) bs ha hb = absurd ha
AllZip-same (line ∷ lines) [] bs ha hb = absurd ha
AllZip-same (line ∷ lines) (a ∷ as_) [] ha hb = absurd hb
AllZip-same (line ∷ lines) (a ∷ as_) (b ∷ bs) ha hb =
    let here = SaysEvent-same line a b ha.0 hb.0 in
    let rest = AllZip-same lines as_ bs ha.1 hb.1 in
    cc

-- a script's lines stand for at most one list of events
pub IsScript-same : (lines : List (List ℕ)) (a b : List Event) → IsScript lines a → IsScript lines b → a ≡ b
IsScript-same lines a b ha hb = AllZip-same (filter (λ line. not (is_skipped line)) lines) a b ha.said hb.said

-- ---- too many events

pub says_count : (lines : List (List ℕ)) (events : List Event) → AllZip SaysEvent lines events → length lines ≡ length events
says_count [] [] says = refl
says_count [] (e ∷ events) says = absurd says
says_count (line ∷ lines) [] says = absurd says
says_count (line ∷ lines) (e ∷ events) says = ap (λ (n : ℕ). suc n) (says_count lines events says.1)

-- the line tells an event
abbrev pub counts : List ℕ → Bool
counts line = not (is_skipped line)

one_counts : (line : List ℕ) → is_skipped line ≡ false → length (filter counts (line ∷ [])) ≡ 1
one_counts line said = rw said refl

too_many : (lines more : List (List ℕ)) (line : List ℕ) → is_skipped line ≡ false
    → length (filter counts lines) + 1 ≤ length (filter counts ((lines ++ line ∷ []) ++ more))
too_many lines more line said =
    let whole = ap length (filter-append counts (lines ++ line ∷ []) more) ∙ length-append (filter counts (lines ++ line ∷ [])) (filter counts more) in
    let front = ap length (filter-append counts lines (line ∷ [])) ∙ length-append (filter counts lines) (filter counts (line ∷ [])) in
    omega (arith, whole, front, one_counts line said)

pub too_many_events : (lines later : List (List ℕ)) (line : List ℕ) (events : List Event) → IsScript lines events → length events ≡ 65536
    → is_skipped line ≡ false → FailsAtLine IsScript (lines ++ line ∷ later) (length lines + 1)
too_many_events lines later line events is full said =
    bad_after IsScript lines line later (IsBeginning-all IsScript lines events is)
    (λ begins.
    let all = says_count (filter counts ((lines ++ line ∷ []) ++ begins.more)) begins.value begins.stands.said in
    let these = says_count (filter counts lines) events is.said in
    omega (arith, all, these, full, too_many lines begins.more line said, begins.stands.most))
