-- Lemmas on lines and words: a text has one list of lines, and one first line that is wrong.
use Rattle.std.proofs.Common.{◌+◌, ◌≡◌, ◌≢◌, ℕ, ◌<◌, inl, inr, List, [], ◌∷◌, ◌++◌, length, refl, sym, ap, subst, ◌∙◌, arith, append_assoc, length-append, Bool, true, false}
use Rattle.std.specs.Prelude.{◌==◌, All, flat_map}
use Rattle.std.proofs.lemmas.Bool.{eqb-true, eqb-false, cases_order}
use Rattle.std.proofs.lemmas.List.{append-nil}
use Rattle.std.proofs.lemmas.List.Elements.{All-nil, All-cons, All-head, All-tail}
use Rattle.mb_model.specs.outside.Texts.{line_with_lf}
use Rattle.mb_model.specs.chains.Lines.{IsLine, HasLines, IsBeginning, FailsAtLine, bad_line, ends_early}

-- a list's first item and its rest are equal where the lists are
pub cons_same : {X : Type 0} (x y : X) (xs ys : List X) → x ∷ xs ≡ y ∷ ys → (x ≡ y) × (xs ≡ ys)
cons_same x y xs ys e = (cc, cc)

pub cons_none : {X : Type 0} (x : X) (xs : List X) → [] ≡ x ∷ xs → ⊥
cons_none x xs e = omega (arith, ap length e)

-- ---- the first of a byte

-- bytes without the byte s
abbrev pub Without : ℕ → List ℕ → Type 0
Without s bytes = All (λ byte. byte ≢ s) bytes

abbrev pub isnt : ℕ → ℕ → Type 0
isnt s byte = byte ≢ s

-- where s comes first is one place
pub first_same : (s : ℕ) (a b xs ys : List ℕ) → Without s a → Without s b → a ++ s ∷ xs ≡ b ++ s ∷ ys → (a ≡ b) × (xs ≡ ys)
first_same s [] [] xs ys pa pb e = (refl, (cons_same s s xs ys e).1)
first_same s [] (b ∷ bs) xs ys pa pb e = absurd (All-head (isnt s) b bs pb (sym (cons_same s b xs (bs ++ s ∷ ys) e).0))
first_same s (a ∷ as_) [] xs ys pa pb e = absurd (All-head (isnt s) a as_ pa (cons_same a s (as_ ++ s ∷ xs) ys e).0)
first_same s (a ∷ as_) (b ∷ bs) xs ys pa pb e =
    let parts = cons_same a b (as_ ++ s ∷ xs) (bs ++ s ∷ ys) e in
    let rest = first_same s as_ bs xs ys (All-tail (isnt s) a as_ pa) (All-tail (isnt s) b bs pb) parts.1 in
    let head = parts.0 in
    let tail = rest.0 in
    (cc, rest.1)

-- bytes without s are not some with it
pub first_none : (s : ℕ) (a b ys : List ℕ) → Without s a → a ≡ b ++ s ∷ ys → ⊥
first_none s [] [] ys pa e = cons_none s ys e
first_none s [] (b ∷ bs) ys pa e = cons_none b (bs ++ s ∷ ys) e
first_none s (a ∷ as_) [] ys pa e = All-head (isnt s) a as_ pa (cons_same a s as_ ys e).0
first_none s (a ∷ as_) (b ∷ bs) ys pa e =
    first_none s as_ bs ys (All-tail (isnt s) a as_ pa) (cons_same a b as_ (bs ++ s ∷ ys) e).1

-- ---- lines of a text

-- a text without lines is empty
pub HasLines-none : (text : List ℕ) → HasLines text [] → text ≡ []
HasLines-none text has =
    elim has.whole [
      | inl whole ↦ whole
      | inr lacks ↦
          let len = ap length lacks.split ∙ length-append lacks.before (lacks.last ∷ []) in
          absurd (omega (arith, len))
    ]

-- how a text with a first line goes on: after the LF of the line, or not at all
pub data Goes (text line : List ℕ) (lines : List (List ℕ)) : Type 0 where
  on : (rest : List ℕ) → text ≡ line ++ 10 ∷ rest → HasLines rest lines → Goes text line lines
  over : text ≡ line → line ≢ [] → lines ≡ [] → Goes text line lines

goes_lacking : (text line : List ℕ) (lines before : List (List ℕ)) (last : List ℕ) → All IsLine (line ∷ lines) → line ∷ lines ≡ before ++ last ∷ []
    → last ≢ [] → text ≡ flat_map line_with_lf before ++ last → Goes text line lines
goes_lacking text line lines [] last plain split filled whole =
    let parts = cons_same line last lines [] split in
    over (whole ∙ sym parts.0) (λ none. filled (sym parts.0 ∙ none)) parts.1
goes_lacking text line lines (first ∷ before) last plain split filled whole =
    let parts = cons_same line first lines (before ++ last ∷ []) split in
    let remaining = flat_map line_with_lf before ++ last in
    on remaining
    (whole ∙ append_assoc (line_with_lf first) (flat_map line_with_lf before) last ∙ append_assoc first (10 ∷ []) remaining
    ∙ ap (λ (x : List ℕ). x ++ 10 ∷ remaining) (sym parts.0))
    (record {
      plain = All-tail IsLine line lines plain;
      whole = inr (record { before = before; last = last; split = parts.1; filled = filled; whole = refl });
    })

pub HasLines-goes : (text line : List ℕ) (lines : List (List ℕ)) → HasLines text (line ∷ lines) → Goes text line lines
HasLines-goes text line lines has =
    elim has.whole [
      | inl whole ↦
          on (flat_map line_with_lf lines) (whole ∙ append_assoc line (10 ∷ []) (flat_map line_with_lf lines))
          (record { plain = All-tail IsLine line lines has.plain; whole = inl refl })
      | inr lacks ↦ goes_lacking text line lines lacks.before lacks.last has.plain lacks.split lacks.filled lacks.whole
    ]

-- a line with its LF before a text
pub HasLines-on : (text line rest : List ℕ) (lines : List (List ℕ)) → IsLine line → text ≡ line ++ 10 ∷ rest → HasLines rest lines → HasLines text (line ∷ lines)
HasLines-on text line rest lines plain e has = record {
  plain = All-cons IsLine line lines plain has.plain;
  whole = elim has.whole [
    | inl whole ↦ inl (e ∙ ap (λ (x : List ℕ). line ++ 10 ∷ x) whole ∙ sym (append_assoc line (10 ∷ []) (flat_map line_with_lf lines)))
    | inr lacks ↦ inr (record {
      before = line ∷ lacks.before;
      last = lacks.last;
      split = ap (λ (x : List (List ℕ)). line ∷ x) lacks.split;
      filled = lacks.filled;
      whole = e ∙ ap (λ (x : List ℕ). line ++ 10 ∷ x) lacks.whole ∙ sym (append_assoc line (10 ∷ []) (flat_map line_with_lf lacks.before ++ lacks.last))
          ∙ sym (append_assoc (line_with_lf line) (flat_map line_with_lf lacks.before) lacks.last);
    })
  ];
}

-- a last line without its LF
pub HasLines-over : (line : List ℕ) → IsLine line → line ≢ [] → HasLines line (line ∷ [])
HasLines-over line plain filled = record {
  plain = All-cons IsLine line [] plain (All-nil IsLine);
  whole = inr (record { before = []; last = line; split = refl; filled = filled; whole = refl });
}

pub HasLines-nil : HasLines [] []
HasLines-nil = record { plain = All-nil IsLine; whole = inl refl }

-- a text with a line is not the empty one
goes_some : (line : List ℕ) (lines : List (List ℕ)) → Goes [] line lines → ⊥
goes_some line lines (on rest e has) = omega (arith, ap length e ∙ length-append line (10 ∷ rest))
goes_some line lines (over e filled none) = filled (sym e)

-- two first lines of a text are one, and so are the lines after them
same_on : (text line other : List ℕ) (lines others : List (List ℕ)) → IsLine line → IsLine other
    → ((rest : List ℕ) → HasLines rest lines → HasLines rest others → lines ≡ others)
    → Goes text line lines → Goes text other others → (line ∷ lines) ≡ (other ∷ others)
same_on text line other lines others pa pb remaining (on rest e has) (on back f more) =
    let parts = first_same 10 line other rest back pa pb (sym e ∙ f) in
    let same = remaining back (subst (λ (x : List ℕ). HasLines x lines) parts.1 has) more in
    let head = parts.0 in
    cc
same_on text line other lines others pa pb remaining (on rest e has) (over f filled none) =
    absurd (first_none 10 other line rest pb (sym f ∙ e))
same_on text line other lines others pa pb remaining (over e filled none) (on back f more) =
    absurd (first_none 10 line other back pa (sym e ∙ f))
same_on text line other lines others pa pb remaining (over e filled none) (over f full all) =
    let head = sym e ∙ f in
    cc

-- a text has one list of lines
pub HasLines-same : (text : List ℕ) (a b : List (List ℕ)) → HasLines text a → HasLines text b → a ≡ b
HasLines-same text [] [] ha hb = refl
HasLines-same text [] (other ∷ others) ha hb =
    absurd (goes_some other others (subst (λ (x : List ℕ). Goes x other others) (HasLines-none text ha) (HasLines-goes text other others hb)))
HasLines-same text (line ∷ lines) [] ha hb =
    absurd (goes_some line lines (subst (λ (x : List ℕ). Goes x line lines) (HasLines-none text hb) (HasLines-goes text line lines ha)))
HasLines-same text (line ∷ lines) (other ∷ others) ha hb =
    same_on text line other lines others (All-head IsLine line lines ha.plain) (All-head IsLine other others hb.plain)
    (λ rest da db. HasLines-same rest lines others da db)
    (HasLines-goes text line lines ha) (HasLines-goes text other others hb)

-- a byte that is no LF before the first line of a text
wider : (byte : ℕ) (bytes line : List ℕ) (lines : List (List ℕ)) → byte ≢ 10 → IsLine line → Goes bytes line lines
    → HasLines (byte ∷ bytes) ((byte ∷ line) ∷ lines)
wider byte bytes line lines apart plain (on rest e has) =
    HasLines-on (byte ∷ bytes) (byte ∷ line) rest lines (All-cons (isnt 10) byte line apart plain) (ap (λ (x : List ℕ). byte ∷ x) e) has
wider byte bytes line lines apart plain (over e filled none) =
    let alone = HasLines-over (byte ∷ line) (All-cons (isnt 10) byte line apart plain) (λ empty. cons_none byte line (sym empty)) in
    let text = ap (λ (x : List ℕ). byte ∷ x) (sym e) in
    let all = ap (λ (x : List (List ℕ)). (byte ∷ line) ∷ x) (sym none) in
    subst (λ (x : List (List ℕ)). HasLines (byte ∷ bytes) x) all (subst (λ (x : List ℕ). HasLines x ((byte ∷ line) ∷ [])) text alone)

-- a byte before a text with lines
longer : (byte : ℕ) (bytes : List ℕ) (lines : List (List ℕ)) → HasLines bytes lines → (lf : Bool) → (byte == 10) ≡ lf
    → (more : List (List ℕ)) × HasLines (byte ∷ bytes) more
longer byte bytes lines has true is =
    ([] ∷ lines, HasLines-on (byte ∷ bytes) [] bytes lines (All-nil (isnt 10)) (ap (λ (x : ℕ). x ∷ bytes) (eqb-true byte 10 is)) has)
longer byte bytes [] has false isnt_lf =
    let text = ap (λ (x : List ℕ). byte ∷ x) (HasLines-none bytes has) in
    let alone = HasLines-over (byte ∷ []) (All-cons (isnt 10) byte [] (eqb-false byte 10 isnt_lf) (All-nil (isnt 10))) (λ empty. cons_none byte [] (sym empty)) in
    ((byte ∷ []) ∷ [], subst (λ (x : List ℕ). HasLines x ((byte ∷ []) ∷ [])) (sym text) alone)
longer byte bytes (line ∷ lines) has false isnt_lf =
    ((byte ∷ line) ∷ lines, wider byte bytes line lines (eqb-false byte 10 isnt_lf) (All-head IsLine line lines has.plain) (HasLines-goes bytes line lines has))

-- each text has lines
pub HasLines-always : (text : List ℕ) → (lines : List (List ℕ)) × HasLines text lines
HasLines-always [] = ([], HasLines-nil)
HasLines-always (byte ∷ bytes) =
    let rest = HasLines-always bytes in
    longer byte bytes rest.0 rest.1 (byte == 10) refl

-- ---- the first line that is wrong

-- where a text of the grammar begins with lines, one begins with the first of them
pub IsBeginning-front : {A : Type 0} (Grammar : List (List ℕ) → A → Type 0) (front back : List (List ℕ)) → IsBeginning Grammar (front ++ back) → IsBeginning Grammar front
IsBeginning-front {A} Grammar front back begins = record {
  more = back ++ begins.more;
  value = begins.value;
  stands = subst (λ (x : List (List ℕ)). Grammar x begins.value) (append_assoc front back begins.more) begins.stands;
}

-- lines that stand for a value begin a text
pub IsBeginning-all : {A : Type 0} (Grammar : List (List ℕ) → A → Type 0) (lines : List (List ℕ)) (value : A) → Grammar lines value → IsBeginning Grammar lines
IsBeginning-all {A} Grammar lines value stands = record {
  more = [];
  value = value;
  stands = subst (λ (x : List (List ℕ)). Grammar x value) (sym (append-nil lines)) stands;
}

-- a line is bad, and no text begins with it; then none begins with all lines
bad_begins : {A : Type 0} (Grammar : List (List ℕ) → A → Type 0) (lines before : List (List ℕ)) (line : List ℕ) (later : List (List ℕ))
    → lines ≡ before ++ line ∷ later → (IsBeginning Grammar (before ++ line ∷ []) → ⊥) → IsBeginning Grammar lines → ⊥
bad_begins {A} Grammar lines before line later split none begins =
    let whole = split ∙ sym (append_assoc before (line ∷ []) later) in
    none (IsBeginning-front Grammar (before ++ line ∷ []) later (subst (λ (x : List (List ℕ)). IsBeginning Grammar x) whole begins))

-- of two splits of one list, the shorter front and its line begin the longer front
pub front_in : (a b : List (List ℕ)) (x y : List ℕ) (xs ys : List (List ℕ)) → a ++ x ∷ xs ≡ b ++ y ∷ ys → length a < length b
    → (rest : List (List ℕ)) × (b ≡ (a ++ x ∷ []) ++ rest)
front_in [] [] x y xs ys e less = absurd (omega (arith, less))
front_in [] (b ∷ bs) x y xs ys e less = (bs, ap (λ (z : List ℕ). z ∷ bs) (sym (cons_same x b xs (bs ++ y ∷ ys) e).0))
front_in (a ∷ as_) [] x y xs ys e less = absurd (omega (arith, less))
front_in (a ∷ as_) (b ∷ bs) x y xs ys e less =
    let parts = cons_same a b (as_ ++ x ∷ xs) (bs ++ y ∷ ys) e in
    let rest = front_in as_ bs x y xs ys parts.1 (omega (arith, less)) in
    let head = parts.0 in
    let tail = rest.1 in
    (rest.0, cc)

not_shorter : {A : Type 0} (Grammar : List (List ℕ) → A → Type 0) (lines a b : List (List ℕ)) (x y : List ℕ) (xs ys : List (List ℕ))
    → lines ≡ a ++ x ∷ xs → (IsBeginning Grammar (a ++ x ∷ []) → ⊥) → lines ≡ b ++ y ∷ ys → IsBeginning Grammar b → length a < length b → ⊥
not_shorter {A} Grammar lines a b x y xs ys split none other begins less =
    let front = front_in a b x y xs ys (sym split ∙ other) less in
    none (IsBeginning-front Grammar (a ++ x ∷ []) front.0 (subst (λ (z : List (List ℕ)). IsBeginning Grammar z) front.1 begins))

-- one line is the first that is wrong
pub FailsAtLine-same : {A : Type 0} (Grammar : List (List ℕ) → A → Type 0) (lines : List (List ℕ)) (m n : ℕ)
    → FailsAtLine Grammar lines m → FailsAtLine Grammar lines n → m ≡ n
FailsAtLine-same {A} Grammar lines m n (bad_line p) (bad_line q) =
    elim (cases_order (length p.before) (length q.before)) [
      | inr (inl less) ↦ absurd (not_shorter Grammar lines p.before q.before p.line q.line p.later q.later p.split p.bad q.split q.good less)
      | inl is ↦ omega (arith, is, p.number, q.number)
      | inr (inr less) ↦ absurd (not_shorter Grammar lines q.before p.before q.line p.line q.later p.later q.split q.bad p.split p.good less)
    ]
FailsAtLine-same {A} Grammar lines m n (bad_line p) (ends_early q) =
    absurd (bad_begins Grammar lines p.before p.line p.later p.split p.bad q.good)
FailsAtLine-same {A} Grammar lines m n (ends_early p) (bad_line q) =
    absurd (bad_begins Grammar lines q.before q.line q.later q.split q.bad p.good)
FailsAtLine-same {A} Grammar lines m n (ends_early p) (ends_early q) = p.number ∙ sym q.number

-- no line of lines that stand for a value is wrong
pub FailsAtLine-none : {A : Type 0} (Grammar : List (List ℕ) → A → Type 0) (lines : List (List ℕ)) (value : A) (n : ℕ)
    → Grammar lines value → FailsAtLine Grammar lines n → ⊥
FailsAtLine-none {A} Grammar lines value n stands (bad_line p) =
    bad_begins Grammar lines p.before p.line p.later p.split p.bad (IsBeginning-all Grammar lines value stands)
FailsAtLine-none {A} Grammar lines value n stands (ends_early p) = p.unfinished value stands

-- a line is wrong after those with which a text of the grammar begins
pub bad_after : {A : Type 0} (Grammar : List (List ℕ) → A → Type 0) (before : List (List ℕ)) (line : List ℕ) (later : List (List ℕ))
    → IsBeginning Grammar before → (IsBeginning Grammar (before ++ line ∷ []) → ⊥)
    → FailsAtLine Grammar (before ++ line ∷ later) (length before + 1)
bad_after {A} Grammar before line later good bad = bad_line (record {
  before = before;
  line = line;
  later = later;
  split = refl;
  good = good;
  bad = bad;
  number = refl;
})
