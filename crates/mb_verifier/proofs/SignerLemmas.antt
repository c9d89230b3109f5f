-- The key that signed a statement is found among the entries of a log, one after another.
use Rattle.std.proofs.Common.{◌≡◌, ◌<◌, ◌≤◌, ◌+◌, ℕ, List, [], ◌∷◌, ◌++◌, length, take, drop, get_or, None, Some, Bool, true, false, refl, sym, ap, subst, ◌∙◌, arith, append_assoc, eq-eqb, eqb-true}
use Rattle.std.specs.Prelude.{All, ◌==◌, if◌then◌else◌}
use Rattle.std.proofs.Math.Seq.{append_snoc}
use Rattle.std.proofs.lemmas.List.{take_more, take_all, take-append-drop, map-append}
use Rattle.std.proofs.lemmas.List.Elements.{All-nil, All-head, All-push, All-weaker}
use Rattle.std.proofs.lemmas.Option.{same_Some}
use Rattle.mb_model.specs.declared.key.PublicKey.{PublicKey}
use Rattle.mb_model.specs.declared.order.KeyKind.{KeyKind}
use Rattle.mb_model.specs.declared.entry.Entry.{Entry}
use Rattle.mb_model.specs.declared.entry.Entry.TheVariants.{Birth, Change, NewKey, Succession}
use Rattle.mb_model.specs.declared.entry.SignedEntry.{SignedEntry}
use Rattle.mb_model.specs.declared.entry.Statement.{Statement}
use Rattle.mb_model.specs.owners.Log.{entries_of, figures_of, keys_in, keys_made_by, Ruled, RuledLog}
use Rattle.mb_model.specs.chains.Acceptance.{KeyEntry, key_in, key_of, IsStated}
use Rattle.mb_model_lemmas.specs.AliveLaws.{makes, IsUnmade}
use Rattle.mb_model_lemmas.proofs.ListLemmas.{All-back}
use Rattle.mb_model_lemmas.proofs.LogLemmas.{entries_more, last_of-more, last_of-split, made-push}
use Rattle.mb_model_lemmas.proofs.AliveLemmas.{later_is_unmade}
use Rattle.mb_model_lemmas.proofs.ReaderLemmas.{makes_none, made_stands}
use Rattle.mb_verifier.specs.SignerEntries.{MakesSigner}
use Rattle.mb_verifier.specs.Signers.{IsSigner, HasNoSigner}

-- ---- what an entry says of the key that it makes

-- its number is that of the keys before it
counted : (before : List Entry) (entry : Entry) (n : ℕ) (made : KeyEntry) → Ruled (figures_of before) entry → key_in n entry ≡ Some made → (n ≡ keys_made_by before) × (keys_in entry ≡ 1)
counted before (Birth version serial key layers) n made ruled is = absurd (grind (arith, is))
counted before (Change version position number kind layer cosigned layers kept next) n made ruled is = absurd (grind (arith, is))
counted before (NewKey position number key_number layer kind key) n made ruled is = by (key_number == n) refl (record { layer = layer; kind = kind; key = key }) is
  where
    by : (b : Bool) → (key_number == n) ≡ b → (own : KeyEntry) → (if b then Some own else None) ≡ Some made → (n ≡ keys_made_by before) × (keys_in (NewKey position number key_number layer kind key) ≡ 1)
    by false at own e = absurd (grind (arith, e))
    by true at own e = (sym (eqb-true key_number n at) ∙ ruled.1.key_counted, refl)
counted before (Succession position key) n made ruled is = absurd (grind (arith, is))

-- no later entry makes a key with that number
unmade_later : (before : List Entry) (entry : Entry) (later : List Entry) (n : ℕ) (made : KeyEntry) → RuledLog (before ++ entry ∷ later) → key_in n entry ≡ Some made → IsUnmade later n
unmade_later before entry later n made ruled is =
    let own = counted before entry n made (ruled before entry later refl) is in
    later_is_unmade (before ++ entry ∷ []) later n (omega (arith, own.0, own.1, made-push before entry)) (subst RuledLog (sym (append_snoc before entry later)) ruled)

names_nothing : (n : ℕ) (log : List Entry) → IsUnmade log n → All (λ e. key_in n e ≡ None) log
names_nothing n log unmade = All-weaker (λ e. makes n e ≡ false) (λ e. key_in n e ≡ None) (makes_none n) log unmade

-- so the log says of the key what the entry says
named_here : (before : List Entry) (entry : Entry) (later : List Entry) (n : ℕ) (made : KeyEntry) → RuledLog (before ++ entry ∷ later) → key_in n entry ≡ Some made
    → key_of (before ++ entry ∷ later) n ≡ Some made
unfolding key_of
named_here before entry later n made ruled is =
    last_of-split (key_in n) before entry later made is (names_nothing n later (unmade_later before entry later n made ruled is))

-- a key with a lower number is made before it
lower_before : (before : List Entry) (entry : Entry) (later : List Entry) (n lower : ℕ) (made other : KeyEntry) → RuledLog (before ++ entry ∷ later) → key_in n entry ≡ Some made
    → lower < n → key_of (before ++ entry ∷ later) lower ≡ Some other → key_of before lower ≡ Some other
unfolding key_of
lower_before before entry later n lower made other ruled is less named =
    let own = counted before entry n made (ruled before entry later refl) is in
    let unmade : IsUnmade (entry ∷ later) lower = later_is_unmade before (entry ∷ later) lower (omega (arith, own.0, less)) ruled in
    sym (last_of-more (key_in lower) before (entry ∷ later) (names_nothing lower (entry ∷ later) unmade)) ∙ named

-- ---- entries whose keys did not sign

-- none of the entries makes a key that signed the statement
abbrev pub NoneSigned : List Entry → Statement → List Entry → Type 0
NoneSigned log statement entries = All (λ entry. (n : ℕ) → MakesSigner log statement entry n → ⊥) entries

pub none_at_first : (log : List Entry) (statement : Statement) → NoneSigned log statement []
none_at_first log statement = All-nil (λ entry. (n : ℕ) → MakesSigner log statement entry n → ⊥)

pub none_more : (signed : List SignedEntry) (statement : Statement) (i : ℕ) (d : SignedEntry) → i < length signed → NoneSigned (entries_of signed) statement (entries_of (take i signed))
    → ((n : ℕ) → MakesSigner (entries_of signed) statement (get_or signed i d).entry n → ⊥)
    → NoneSigned (entries_of signed) statement (entries_of (take (i + 1) signed))
none_more signed statement i d within none other =
    subst (NoneSigned (entries_of signed) statement) (sym (entries_more signed i d within))
    (All-push (λ entry. (n : ℕ) → MakesSigner (entries_of signed) statement entry n → ⊥) (entries_of (take i signed)) (get_or signed i d).entry none other)

-- so no key that they make did
unsigned_by : (log : List Entry) (statement : Statement) (entries : List Entry) (n : ℕ) (made : KeyEntry) → NoneSigned log statement entries → key_of entries n ≡ Some made
    → IsStated log n made.key statement → ⊥
unsigned_by log statement entries n made none named stated =
    let at = made_stands entries n made named in
    let own : Entry = NewKey at.1 at.2 n made.layer made.kind made.key in
    let here : NoneSigned log statement (own ∷ at.3) =
    All-back (λ entry. (m : ℕ) → MakesSigner log statement entry m → ⊥) at.0 (own ∷ at.3) (subst (NoneSigned log statement) at.4 none) in
    let says : key_in n own ≡ Some made = ap (λ b. if b then Some made else None) (eq-eqb n n refl) in
    All-head (λ entry. (m : ℕ) → MakesSigner log statement entry m → ⊥) own at.3 here n (record { made = made; named = says; signed = stated })

pub all_unsigned : (signed : List SignedEntry) (statement : Statement) (i : ℕ) → length signed ≤ i → NoneSigned (entries_of signed) statement (entries_of (take i signed))
    → HasNoSigner (entries_of signed) statement
all_unsigned signed statement i all none = λ n made named stated.
    unsigned_by (entries_of signed) statement (entries_of signed) n made
    (subst (λ (front : List SignedEntry). NoneSigned (entries_of signed) statement (entries_of front)) (take_all i signed all) none) named stated

-- an entry that makes a key which signed
pub makes_signer : (log : List Entry) (statement : Statement) (entry : Entry) (position number n layer : ℕ) (kind : KeyKind) (key : PublicKey) → entry ≡ NewKey position number n layer kind key
    → IsStated log n key statement → MakesSigner log statement entry n
makes_signer log statement entry position number n layer kind key is stated =
    let own : KeyEntry = record { layer = layer; kind = kind; key = key } in
    record { made = own; named = ap (key_in n) is ∙ ap (λ b. if b then Some own else None) (eq-eqb n n refl); signed = stated }

-- an entry that makes no key makes none that signed
pub makes_no_signer : (log : List Entry) (statement : Statement) (entry : Entry) (n : ℕ) → key_in n entry ≡ None → MakesSigner log statement entry n → ⊥
makes_no_signer log statement entry n none makes = let no : None ≡ Some makes.made = sym none ∙ makes.named in cc

-- nor does one whose key did not sign
pub makes_unsigned : (log : List Entry) (statement : Statement) (entry : Entry) (position number own layer : ℕ) (kind : KeyKind) (key : PublicKey) (n : ℕ) → entry ≡ NewKey position number own layer kind key
    → (IsStated log own key statement → ⊥) → MakesSigner log statement entry n → ⊥
makes_unsigned log statement entry position number own layer kind key n is unsigned makes = by (own == n) refl (ap (key_in n) (sym is) ∙ makes.named)
  where
    made : KeyEntry
    made = record { layer = layer; kind = kind; key = key }

    by : (b : Bool) → (own == n) ≡ b → (if b then Some made else None) ≡ Some makes.made → ⊥
    by false at e = cc
    by true at e =
        let same : n ≡ own = sym (eqb-true own n at) in
        let one : makes.made.key ≡ key = ap (λ (k : KeyEntry). k.key) (sym (same_Some made makes.made e)) in
        unsigned (subst (λ (k : PublicKey). IsStated log own k statement) one (subst (λ (m : ℕ). IsStated log m makes.made.key statement) same makes.signed))

-- ---- the first that did

split_at : (signed : List SignedEntry) (i : ℕ) (d : SignedEntry) → i < length signed
    → entries_of signed ≡ entries_of (take i signed) ++ (get_or signed i d).entry ∷ entries_of (drop (i + 1) signed)
split_at signed i d within =
    let whole : signed ≡ take i signed ++ get_or signed i d ∷ drop (i + 1) signed =
    sym (take-append-drop (i + 1) signed) ∙ ap (λ front. front ++ drop (i + 1) signed) (take_more signed i d within) ∙ append_assoc (take i signed) (get_or signed i d ∷ []) (drop (i + 1) signed) in
    ap entries_of whole ∙ map-append (λ (s : SignedEntry). s.entry) (take i signed) (get_or signed i d ∷ drop (i + 1) signed)

pub first_signed : (signed : List SignedEntry) (statement : Statement) (i : ℕ) (d : SignedEntry) (n : ℕ) → i < length signed → RuledLog (entries_of signed)
    → NoneSigned (entries_of signed) statement (entries_of (take i signed)) → MakesSigner (entries_of signed) statement (get_or signed i d).entry n
    → (made : KeyEntry) × IsSigner (entries_of signed) statement n made
first_signed signed statement i d n within ruled none makes =
    let before = entries_of (take i signed) in
    let entry = (get_or signed i d).entry in
    let later = entries_of (drop (i + 1) signed) in
    let split = split_at signed i d within in
    let here : RuledLog (before ++ entry ∷ later) = subst RuledLog split ruled in (
      makes.made,
      record {
        named = ap (λ (log : List Entry). key_of log n) split ∙ named_here before entry later n makes.made here makes.named;
        signed = makes.signed;
        lowest = λ lower other less named stated.
            let sooner : key_of before lower ≡ Some other =
            lower_before before entry later n lower makes.made other here makes.named less (ap (λ (log : List Entry). key_of log lower) (sym split) ∙ named) in
            unsigned_by (entries_of signed) statement before lower other none sooner stated;
      },
    )

-- ---- the key of an entry

-- the log says of the key what the entry says that makes it
pub named_at : (signed : List SignedEntry) (i : ℕ) (d : SignedEntry) (position number n layer : ℕ) (kind : KeyKind) (key : PublicKey) → i < length signed → RuledLog (entries_of signed)
    → (get_or signed i d).entry ≡ NewKey position number n layer kind key → key_of (entries_of signed) n ≡ Some (record { layer = layer; kind = kind; key = key })
named_at signed i d position number n layer kind key within ruled is =
    let before = entries_of (take i signed) in
    let later = entries_of (drop (i + 1) signed) in
    let own : Entry = NewKey position number n layer kind key in
    let made : KeyEntry = record { layer = layer; kind = kind; key = key } in
    let split : entries_of signed ≡ before ++ own ∷ later = split_at signed i d within ∙ ap (λ (e : Entry). before ++ e ∷ later) is in
    let says : key_in n own ≡ Some made = ap (λ b. if b then Some made else None) (eq-eqb n n refl) in
    ap (λ (log : List Entry). key_of log n) split ∙ named_here before own later n made (subst RuledLog split ruled) says
