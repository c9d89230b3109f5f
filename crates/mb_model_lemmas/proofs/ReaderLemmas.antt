-- What a log says of one key, with one more entry.
use Rattle.std.proofs.Common.{◌≡◌, ℕ, List, [], ◌∷◌, ◌++◌, Bool, true, false, true≢false, refl, sym, ap, subst, ◌∙◌, arith, append_assoc, Option, None, Some, eq-eqb, eqb-true, append-nil}
use Rattle.std.specs.Prelude.{◌&&◌, ◌||◌, ◌==◌, not, All, if◌then◌else◌}
use Rattle.std.specs.Option.{option_or}
use Rattle.std.specs.List.{list_all, list_any}
use Rattle.std.proofs.Math.Seq.{append_snoc}
use Rattle.std.proofs.lemmas.List.Folds.{list_all-append, list_any-append, list_any_at}
use Rattle.std.proofs.lemmas.List.Sums.{AllPass-from_list_all}
use Rattle.std.proofs.lemmas.List.Elements.{All-nil, All-cons, All-head, All-tail, All-weaker, All-contains, Contains-push}
use Rattle.std.proofs.lemmas.Option.{same_Some}
use Rattle.mb_model.specs.declared.key.PublicKey.{PublicKey}
use Rattle.mb_model.specs.declared.order.KeyKind.{KeyKind}
use Rattle.mb_model.specs.declared.entry.Entry.{Entry}
use Rattle.mb_model.specs.declared.entry.Entry.TheVariants.{Birth, Change, NewKey, Succession}
use Rattle.mb_model.specs.owners.Log.{last_of, keys_made_by, RuledLog}
use Rattle.mb_model.specs.owners.Lives.{ends_keys, Alive, splits, configurations_opened_by, lives_from, lives_of, MadeKey, lasting_keys_of, alive_keys}
use Rattle.mb_model.specs.chains.Acceptance.{KeyEntry, key_in, key_of, is_alive}
use Rattle.mb_model_lemmas.specs.AliveLaws.{makes, IsUnmade}
use Rattle.mb_model_lemmas.specs.ReaderLaws.{first_life}
use Rattle.mb_model_lemmas.proofs.LogLemmas.{last_of-push, RuledLog-front, made-push}
use Rattle.mb_model_lemmas.proofs.AliveLemmas.{alive_keys-nil, alive_keys-cons, alive_is_listed, high_is_unmade, later_is_unmade, one_listed, lives_from-other, unmade_has_no_lives, lives_of-push}

-- ---- what is named last

pub none_of_two : {X : Type 0} (a b : Option X) → option_or a b ≡ None → (a ≡ None) × (b ≡ None)
none_of_two None b e = (refl, e)
none_of_two (Some x) b e = absurd (grind (arith, e))

last_is_none : {X : Type 0} (named : Entry → Option X) (log : List Entry) → last_of named log ≡ None → All (λ e. named e ≡ None) log
unfolding last_of
last_is_none named [] none = All-nil (λ e. named e ≡ None)
last_is_none named (first ∷ rest) none =
    let parts = none_of_two (last_of named rest) (named first) none in
    All-cons (λ e. named e ≡ None) first rest parts.1 (last_is_none named rest parts.0)

-- an entry of the log names it
abbrev IsNamed : {X : Type 0} → (Entry → Option X) → List Entry → X → Type 0
IsNamed named log x = (before : List Entry) × (entry : Entry) × (later : List Entry) × (log ≡ before ++ entry ∷ later) × (named entry ≡ Some x)

last_is_named : {X : Type 0} (named : Entry → Option X) (log : List Entry) (x : X) → last_of named log ≡ Some x → IsNamed named log x
unfolding last_of
last_is_named named [] x is = absurd (grind (arith, is))
last_is_named {X} named (first ∷ rest) x is = by (last_of named rest) refl is (last_is_named named rest x)
  where
    by : (o : Option X) → last_of named rest ≡ o → option_or o (named first) ≡ Some x → (last_of named rest ≡ Some x → IsNamed named rest x) → IsNamed named (first ∷ rest) x
    by None rest_is is within = ([], first, rest, refl, is)
    by (Some y) rest_is is within =
        let found = within (rest_is ∙ is) in
        (first ∷ found.0, found.1, found.2, ap (λ es. first ∷ es) found.3, found.4)

-- ---- the entry of the key

names_none : (n : ℕ) (entry : Entry) → key_in n entry ≡ None → makes n entry ≡ false
names_none n (Birth version serial key layers) none = refl
names_none n (Change version position number kind layer cosigned layers kept next) none = refl
names_none n (NewKey position number key_number layer kind key) none = by (key_number == n) (record { layer = layer; kind = kind; key = key }) none
  where
    by : (b : Bool) (own : KeyEntry) → (if b then Some own else None) ≡ None → b ≡ false
    by true own e = absurd (grind (arith, e))
    by false own e = refl
names_none n (Succession position key) none = refl

pub makes_none : (n : ℕ) (entry : Entry) → makes n entry ≡ false → key_in n entry ≡ None
makes_none n (Birth version serial key layers) other = refl
makes_none n (Change version position number kind layer cosigned layers kept next) other = refl
makes_none n (NewKey position number key_number layer kind key) other =
    let own : KeyEntry = record { layer = layer; kind = kind; key = key } in
    ap (λ b. if b then Some own else None) other
makes_none n (Succession position key) other = refl

-- a key of which no entry says something is not made
unnamed_is_unmade : (log : List Entry) (n : ℕ) → key_of log n ≡ None → IsUnmade log n
unfolding key_of
unnamed_is_unmade log n none = All-weaker (λ e. key_in n e ≡ None) (λ e. makes n e ≡ false) (names_none n) log (last_is_none (key_in n) log none)

-- the entry is the one that makes this key
abbrev IsEntryOf : ℕ → KeyEntry → Entry → Type 0
IsEntryOf n made entry = (position : ℕ) × (number : ℕ) × (entry ≡ NewKey position number n made.layer made.kind made.key)

names_this : (n : ℕ) (entry : Entry) (made : KeyEntry) → key_in n entry ≡ Some made → IsEntryOf n made entry
names_this n (Birth version serial key layers) made is = absurd (grind (arith, is))
names_this n (Change version position number kind layer cosigned layers kept next) made is = absurd (grind (arith, is))
names_this n (NewKey position number key_number layer kind key) made is = by (key_number == n) refl (record { layer = layer; kind = kind; key = key }) refl is
  where
    by : (b : Bool) → (key_number == n) ≡ b → (own : KeyEntry) → own ≡ record { layer = layer; kind = kind; key = key } → (if b then Some own else None) ≡ Some made
        → IsEntryOf n made (NewKey position number key_number layer kind key)
    by false at own own_is e = absurd (grind (arith, e))
    by true at own own_is e =
        let same : record { layer = layer; kind = kind; key = key } ≡ made = sym own_is ∙ same_Some own made e in (
          position,
          number,
          ap (λ (x : ℕ). NewKey position number x layer kind key) (eqb-true key_number n at)
              ∙ ap (λ (m : KeyEntry). NewKey position number n m.layer m.kind m.key) same,
        )
names_this n (Succession position key) made is = absurd (grind (arith, is))

-- the log holds the entry of a key that is made
pub made_stands : (log : List Entry) (n : ℕ) (made : KeyEntry) → key_of log n ≡ Some made
    → (before : List Entry) × (position : ℕ) × (number : ℕ) × (later : List Entry) × (log ≡ before ++ NewKey position number n made.layer made.kind made.key ∷ later)
unfolding key_of
made_stands log n made is =
    let found = last_is_named (key_in n) log made is in
    let own = names_this n found.1 made found.4 in
    (found.0, own.0, own.1, found.2, found.3 ∙ ap (λ (e : Entry). found.0 ++ e ∷ found.2) own.2)

-- ---- where the key is not made yet

pub no_lives_unmade : (log : List Entry) (n : ℕ) → key_of log n ≡ None → lives_of log n ≡ []
no_lives_unmade log n none = unmade_has_no_lives log n (unnamed_is_unmade log n none)

option_or-none : {X : Type 0} (a : Option X) → option_or a None ≡ a
option_or-none None = refl
option_or-none (Some x) = refl

pub first_sight : (log : List Entry) (entry : Entry) (n : ℕ) → key_of log n ≡ None → key_of (log ++ entry ∷ []) n ≡ key_in n entry
unfolding key_of
first_sight log entry n none = last_of-push (key_in n) log entry ∙ ap (option_or (key_in n entry)) none ∙ option_or-none (key_in n entry)

first_from : (n : ℕ) (log : List Entry) (entry : Entry) → lives_from n log entry [] ≡ first_life n log entry
unfolding splits
first_from n log (Birth version serial key layers) = refl
first_from n log (Change version position number kind layer cosigned layers kept next) = refl
first_from n log (NewKey position number key_number layer kind key) = refl
first_from n log (Succession position key) = refl

pub first_lives : (log : List Entry) (entry : Entry) (n : ℕ) → key_of log n ≡ None → lives_of (log ++ entry ∷ []) n ≡ first_life n log entry
unfolding lives_of
first_lives log entry n none =
    one_listed n (λ s. lives_from n s.before s.entry s.later) log entry [] (λ s other. lives_from-other n s.before s.entry s.later other) (unnamed_is_unmade log n none) (All-nil (λ e. makes n e ≡ false))
    ∙ first_from n log entry

-- ---- the flag

abbrev has_made : ℕ → MadeKey → Bool
has_made n made = made.number == n

other_lasts : (n L : ℕ) (entry : Entry) (later : List Entry) → makes n entry ≡ false → list_any (has_made n) (lasting_keys_of L entry later) ≡ false
other_lasts n L (Birth version serial key layers) later other = refl
other_lasts n L (Change version position number kind layer cosigned layers kept next) later other = refl
other_lasts n L (NewKey position number key_number layer kind key) later other =
    by ((layer == L) && list_all (λ e. not (ends_keys kind L e)) later) (record { number = key_number; kind = kind; key = key }) other
  where
    by : (b : Bool) (own : MadeKey) → has_made n own ≡ false → list_any (has_made n) (if b then own ∷ [] else []) ≡ false
    by true own e = ap (λ b. b || false) e
    by false own e = refl
other_lasts n L (Succession position key) later other = refl

none_alive : (log : List Entry) (n L : ℕ) → IsUnmade log n → is_alive log n L ≡ false
unfolding is_alive
none_alive [] n L unmade = ap (list_any (has_made n)) (alive_keys-nil L)
none_alive (first ∷ rest) n L unmade =
    ap (list_any (has_made n)) (alive_keys-cons first rest L)
    ∙ list_any-append (has_made n) (lasting_keys_of L first rest) (alive_keys rest L)
    ∙ ap (λ b. b || list_any (has_made n) (alive_keys rest L)) (other_lasts n L first rest (All-head (λ e. makes n e ≡ false) first rest unmade))
    ∙ none_alive rest n L (All-tail (λ e. makes n e ≡ false) first rest unmade)

own_lasts : (n L : ℕ) (position number : ℕ) (kind : KeyKind) (key : PublicKey) (later : List Entry)
    → list_any (has_made n) (lasting_keys_of L (NewKey position number n L kind key) later) ≡ list_all (λ e. not (ends_keys kind L e)) later
own_lasts n L position number kind key later =
    let own : MadeKey = record { number = n; kind = kind; key = key } in
    let lasts : Bool = list_all (λ e. not (ends_keys kind L e)) later in
    ap (λ b. list_any (has_made n) (if b && lasts then own ∷ [] else [])) (eq-eqb L L refl)
    ∙ by lasts own (eq-eqb n n refl)
  where
    by : (b : Bool) (own : MadeKey) → has_made n own ≡ true → list_any (has_made n) (if b then own ∷ [] else []) ≡ b
    by true own e = ap (λ b. b || false) e
    by false own e = refl

-- the key is alive exactly where no later entry ended it
alive_is_lasting : (before : List Entry) (position number n L : ℕ) (kind : KeyKind) (key : PublicKey) (later : List Entry) → IsUnmade before n → IsUnmade later n
    → is_alive (before ++ NewKey position number n L kind key ∷ later) n L ≡ list_all (λ e. not (ends_keys kind L e)) later
unfolding is_alive
alive_is_lasting [] position number n L kind key later unmade unmade_later =
    let own : Entry = NewKey position number n L kind key in
    ap (list_any (has_made n)) (alive_keys-cons own later L)
    ∙ list_any-append (has_made n) (lasting_keys_of L own later) (alive_keys later L)
    ∙ ap (λ b. list_any (has_made n) (lasting_keys_of L own later) || b) (none_alive later n L unmade_later)
    ∙ or_false (list_any (has_made n) (lasting_keys_of L own later))
    ∙ own_lasts n L position number kind key later
  where
    or_false : (b : Bool) → (b || false) ≡ b
    or_false true = refl
    or_false false = refl
alive_is_lasting (first ∷ before) position number n L kind key later unmade unmade_later =
    let rest : List Entry = before ++ NewKey position number n L kind key ∷ later in
    ap (list_any (has_made n)) (alive_keys-cons first rest L)
    ∙ list_any-append (has_made n) (lasting_keys_of L first rest) (alive_keys rest L)
    ∙ ap (λ b. b || list_any (has_made n) (alive_keys rest L)) (other_lasts n L first rest (All-head (λ e. makes n e ≡ false) first before unmade))
    ∙ alive_is_lasting before position number n L kind key later (All-tail (λ e. makes n e ≡ false) first before unmade) unmade_later

pub first_alive : (log : List Entry) (entry : Entry) (n : ℕ) (made : KeyEntry) → key_of log n ≡ None → key_in n entry ≡ Some made
    → is_alive (log ++ entry ∷ []) n made.layer ≡ true
first_alive log entry n made none is =
    let own = names_this n entry made is in
    ap (λ (e : Entry). is_alive (log ++ e ∷ []) n made.layer) own.2
    ∙ alive_is_lasting log own.0 own.1 n made.layer made.kind made.key [] (unnamed_is_unmade log n none) (All-nil (λ e. makes n e ≡ false))

-- ---- where the key is made

-- no entry before the key's own, and none after it, makes a key with its number
unmade_before : (before : List Entry) (position number n L : ℕ) (kind : KeyKind) (key : PublicKey) (later : List Entry)
    → RuledLog (before ++ NewKey position number n L kind key ∷ later) → IsUnmade before n
unmade_before before position number n L kind key later ruled =
    let own : Entry = NewKey position number n L kind key in
    let counted : n ≡ keys_made_by before = (ruled before own later refl).1.key_counted in
    high_is_unmade before n (RuledLog-front before (own ∷ later) ruled) (omega (arith, counted))

unmade_after : (before : List Entry) (position number n L : ℕ) (kind : KeyKind) (key : PublicKey) (later : List Entry)
    → RuledLog (before ++ NewKey position number n L kind key ∷ later) → IsUnmade later n
unmade_after before position number n L kind key later ruled =
    let own : Entry = NewKey position number n L kind key in
    let counted : n ≡ keys_made_by before = (ruled before own later refl).1.key_counted in
    later_is_unmade (before ++ own ∷ []) later n (omega (arith, counted, made-push before own)) (subst RuledLog (sym (append_snoc before own later)) ruled)

alive_of_ruled : (log before : List Entry) (position number n L : ℕ) (kind : KeyKind) (key : PublicKey) (later : List Entry)
    → log ≡ before ++ NewKey position number n L kind key ∷ later → RuledLog log → is_alive log n L ≡ list_all (λ e. not (ends_keys kind L e)) later
alive_of_ruled log before position number n L kind key later split ruled =
    let here : RuledLog (before ++ NewKey position number n L kind key ∷ later) = subst RuledLog split ruled in
    ap (λ es. is_alive es n L) split
    ∙ alive_is_lasting before position number n L kind key later (unmade_before before position number n L kind key later here) (unmade_after before position number n L kind key later here)

longer : (log before : List Entry) (own entry : Entry) (later : List Entry) → log ≡ before ++ own ∷ later → log ++ entry ∷ [] ≡ before ++ own ∷ (later ++ entry ∷ [])
longer log before own entry later split = ap (λ es. es ++ entry ∷ []) split ∙ append_assoc before (own ∷ later) (entry ∷ [])

pub stays_made : (log : List Entry) (entry : Entry) (n : ℕ) (made : KeyEntry) → RuledLog (log ++ entry ∷ []) → key_of log n ≡ Some made
    → key_of (log ++ entry ∷ []) n ≡ Some made
unfolding key_of
stays_made log entry n made ruled is =
    let at = made_stands log n made is in
    let own : Entry = NewKey at.1 at.2 n made.layer made.kind made.key in
    let whole : RuledLog (at.0 ++ own ∷ (at.3 ++ entry ∷ [])) = subst RuledLog (longer log at.0 own entry at.3 at.4) ruled in
    let remaining : IsUnmade (at.3 ++ entry ∷ []) n = unmade_after at.0 at.1 at.2 n made.layer made.kind made.key (at.3 ++ entry ∷ []) whole in
    let other : makes n entry ≡ false = All-contains (λ e. makes n e ≡ false) (at.3 ++ entry ∷ []) entry remaining (Contains-push at.3 entry) in
    last_of-push (key_in n) log entry ∙ ap (λ o. option_or o (last_of (key_in n) log)) (makes_none n entry other) ∙ is

-- what the log says of a key, it says with more entries too
pub made_on : (rest front : List Entry) (n : ℕ) (made : KeyEntry) → RuledLog (front ++ rest) → key_of front n ≡ Some made → key_of (front ++ rest) n ≡ Some made
made_on [] front n made ruled is = ap (λ log. key_of log n) (append-nil front) ∙ is
made_on (entry ∷ rest) front n made ruled is =
    let more : List Entry = front ++ entry ∷ [] in
    let whole : more ++ rest ≡ front ++ entry ∷ rest = append_assoc front (entry ∷ []) rest in
    let longer : RuledLog (more ++ rest) = subst RuledLog (sym whole) ruled in
    let now : key_of more n ≡ Some made = stays_made front entry n made (RuledLog-front more rest longer) is in
    ap (λ log. key_of log n) (sym whole) ∙ made_on rest more n made longer now

and_one_more : (kind : KeyKind) (L : ℕ) (later : List Entry) (entry : Entry)
    → list_all (λ e. not (ends_keys kind L e)) (later ++ entry ∷ []) ≡ (list_all (λ e. not (ends_keys kind L e)) later && not (ends_keys kind L entry))
and_one_more kind L later entry =
    list_all-append (λ e. not (ends_keys kind L e)) later (entry ∷ []) ∙ ap (λ b. list_all (λ e. not (ends_keys kind L e)) later && b) (and_true (not (ends_keys kind L entry)))
  where
    and_true : (b : Bool) → (b && true) ≡ b
    and_true true = refl
    and_true false = refl

pub stays_alive : (log : List Entry) (entry : Entry) (n : ℕ) (made : KeyEntry) → RuledLog (log ++ entry ∷ []) → key_of log n ≡ Some made
    → is_alive (log ++ entry ∷ []) n made.layer ≡ (is_alive log n made.layer && not (ends_keys made.kind made.layer entry))
stays_alive log entry n made ruled is =
    let at = made_stands log n made is in
    let own : Entry = NewKey at.1 at.2 n made.layer made.kind made.key in
    alive_of_ruled (log ++ entry ∷ []) at.0 at.1 at.2 n made.layer made.kind made.key (at.3 ++ entry ∷ []) (longer log at.0 own entry at.3 at.4) ruled
    ∙ and_one_more made.kind made.layer at.3 entry
    ∙ ap (λ b. b && not (ends_keys made.kind made.layer entry)) (sym (alive_of_ruled log at.0 at.1 at.2 n made.layer made.kind made.key at.3 at.4 (RuledLog-front log (entry ∷ []) ruled)))

pub lives_on : (log : List Entry) (entry : Entry) (n : ℕ) (made : KeyEntry) → RuledLog (log ++ entry ∷ []) → key_of log n ≡ Some made
    → lives_of (log ++ entry ∷ []) n
    ≡ lives_of log n ++ (if is_alive log n made.layer && not (ends_keys made.kind made.layer entry) then configurations_opened_by made.layer entry else [])
lives_on log entry n made ruled is =
    let at = made_stands log n made is in
    lives_of-push log at.0 at.3 at.1 at.2 n made.layer made.kind made.key entry at.4 ruled
    ∙ ap (λ b. lives_of log n ++ (if b then configurations_opened_by made.layer entry else []))
    (and_one_more made.kind made.layer at.3 entry
    ∙ ap (λ b. b && not (ends_keys made.kind made.layer entry)) (sym (alive_of_ruled log at.0 at.1 at.2 n made.layer made.kind made.key at.3 at.4 (RuledLog-front log (entry ∷ []) ruled))))

-- ---- what the flag says

pub not_true : (b : Bool) → not b ≡ true → b ≡ false
not_true false e = refl
not_true true e = absurd (true≢false (sym e))

pub flagged_lives : (log : List Entry) (n : ℕ) (made : KeyEntry) → RuledLog log → key_of log n ≡ Some made → is_alive log n made.layer ≡ true
    → Alive log n made.layer made.kind made.key
flagged_lives log n made ruled is flag =
    let at = made_stands log n made is in
    let on : list_all (λ e. not (ends_keys made.kind made.layer e)) at.3 ≡ true = sym (alive_of_ruled log at.0 at.1 at.2 n made.layer made.kind made.key at.3 at.4 ruled) ∙ flag in
    record {
      before = at.0;
      position = at.1;
      number = at.2;
      later = at.3;
      split = at.4;
      lasts = All-weaker (λ e. not (ends_keys made.kind made.layer e) ≡ true) (λ e. ends_keys made.kind made.layer e ≡ false) (λ e off. not_true (ends_keys made.kind made.layer e) off) at.3 (AllPass-from_list_all (λ e. not (ends_keys made.kind made.layer e)) at.3 on);
    }

pub living_is_flagged : (log : List Entry) (n : ℕ) (made : KeyEntry) → Alive log n made.layer made.kind made.key → is_alive log n made.layer ≡ true
unfolding is_alive
living_is_flagged log n made alive =
    let own : MadeKey = record { number = n; kind = made.kind; key = made.key } in
    let within = alive_is_listed log n made.layer made.kind made.key alive in
    list_any_at (has_made n) (alive_keys log made.layer) within.0 own within.1 (ap (has_made n) within.2 ∙ eq-eqb n n refl)
