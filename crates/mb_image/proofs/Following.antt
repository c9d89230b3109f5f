-- Whether each entry follows from those before it.
use Rattle.std.proofs.Common.{◌≡◌, ◌≢◌, ◌<◌, ◌+◌, ℕ, List, [], ◌∷◌, ◌++◌, length, take, drop, get_or, Option, None, Some, Bool, true, false, true≢false, refl, sym, ap, subst, ◌∙◌, arith, append_assoc, length-append}
use Rattle.std.specs.Prelude.{◌↔◌, IsTrue, IfOk, Result, Ok, Err}
use Rattle.std.proofs.lemmas.List.{take_more, take-append-drop, length-map, length-take-le}
use Rattle.mb_model.specs.declared.key.PublicKey.{PublicKey}
use Rattle.mb_model.specs.declared.entry.Entry.{Entry}
use Rattle.mb_model.specs.declared.entry.SignedEntry.{SignedEntry}
use Rattle.mb_model.specs.signatures.Merkle.{Verifies, leaf_number}
use Rattle.mb_model.specs.machine.SignedTexts.{entry_text, IsSignedBy}
use Rattle.mb_model.specs.owners.Log.{figures_of, entries_of, Ruled}
use Rattle.mb_model.specs.memories.Valid.{Follows, EachFollows}
use Rattle.mb_model_lemmas.proofs.ValidLogs.{EachFollows-push}
use Rattle.mb_model.specs.declared.state.Figures.{Figures}
use Rattle.mb_log.specs.Following.{InOrder}
use Rattle.mb_image.specs.Verified.{IsVerified}
use Rattle.mb_model_lemmas.proofs.LogLemmas.{entries_more}

-- ---- one entry

-- the first entry is not tried
pub first_is_verified : (before : Figures) (signed : SignedEntry) → before.length ≡ 0 → (IsTrue true ↔ IsVerified before signed)
first_is_verified before signed none = ((λ on. λ some. absurd (some none)), (λ verified. refl))

unnamed : (key : Option PublicKey) (text signature : List ℕ) → key ≡ None → IsSignedBy key text signature → ⊥
unnamed key text signature is signed = subst (λ (k : Option PublicKey). IsSignedBy k text signature) is signed

-- where no key is named, no entry after others verifies
pub none_verifies : (before : Figures) (signed : SignedEntry) → before.length ≢ 0 → before.device ≡ None → (IsTrue false ↔ IsVerified before signed)
none_verifies before signed some no_key = (
  (λ on. absurd (true≢false (sym on))),
  (λ verified. absurd (unnamed before.device (entry_text signed.entry) signed.signature no_key (verified some))),
)

-- else it is the key that is named last by which it verifies
pub verified_by : (before : Figures) (signed : SignedEntry) (key : PublicKey) → before.length ≢ 0 → before.device ≡ Some key
    → (result : Bool) → (IsTrue result ↔ Verifies key (entry_text signed.entry) signed.signature) → (IsTrue result ↔ IsVerified before signed)
verified_by before signed key some named result verifies = (
  (λ on. λ others. subst (λ (k : Option PublicKey). IsSignedBy k (entry_text signed.entry) signed.signature) (sym named) (verifies.0 on)),
  (λ verified. verifies.1 (subst (λ (k : Option PublicKey). IsSignedBy k (entry_text signed.entry) signed.signature) named (verified some))),
)

-- an entry that the rules allow in its place follows exactly where it verifies
pub follows_where : (before : Figures) (signed : SignedEntry) (index : ℕ) → index ≡ leaf_number signed.signature → InOrder before signed.entry index → Ruled before signed.entry
    → (yes : Bool) → (IsTrue yes ↔ IsVerified before signed) → (IsTrue yes ↔ Follows before signed)
follows_where before signed index is order ruled passes verified = (
  (λ true_ones. record { ruled = ruled; in_order = subst (λ (i : ℕ). InOrder before signed.entry i) is order; verifies = verified.0 true_ones }),
  (λ follows. verified.1 follows.verifies),
)

pub IfOk-weaker : {T E : Type 0} (P Q : T → Type 0) → ((x : T) → P x → Q x) → (result : Result T E) → IfOk result P → IfOk result Q
IfOk-weaker P Q weaker (Ok x) holds = weaker x holds
IfOk-weaker P Q weaker (Err e) holds = holds

-- ---- a log

-- what is said by figures is said by the entries that have them
pub follows_by : (figures : Figures) (before : List Entry) (signed : SignedEntry) (told : Bool) → figures ≡ figures_of before
    → (IsTrue told ↔ Follows figures signed) → (IsTrue told ↔ Follows (figures_of before) signed)
follows_by figures before signed told is says = subst (λ (f : Figures). IsTrue told ↔ Follows f signed) is says

pub EachFollows-none : EachFollows []
EachFollows-none = λ before signed rest split. absurd (omega (arith, ap length split, length-append before (signed ∷ rest)))

pub EachFollows-more : (log : List SignedEntry) (i : ℕ) (d : SignedEntry) → i < length log → EachFollows (take i log) → Follows (figures_of (entries_of (take i log))) (get_or log i d)
    → EachFollows (take (i + 1) log)
EachFollows-more log i d within each next =
    subst EachFollows (sym (take_more log i d within)) (EachFollows-push (take i log) (get_or log i d) each next)

-- an entry that does not follow
pub one_fails : (log : List SignedEntry) (i : ℕ) (d : SignedEntry) → i < length log → (Follows (figures_of (entries_of (take i log))) (get_or log i d) → ⊥) → EachFollows log → ⊥
one_fails log i d within fails each =
    fails (each (take i log) (get_or log i d) (drop (i + 1) log)
    (sym (take-append-drop (i + 1) log) ∙ ap (λ front. front ++ drop (i + 1) log) (take_more log i d within) ∙ append_assoc (take i log) (get_or log i d ∷ []) (drop (i + 1) log)))

-- the figures of the entries up to one more
pub figures_next : (log : List SignedEntry) (i : ℕ) (d : SignedEntry) (before after : Figures) → i < length log
    → before ≡ figures_of (entries_of (take i log)) → (before ≡ figures_of (entries_of (take i log)) → after ≡ figures_of (entries_of (take i log) ++ (get_or log i d).entry ∷ []))
    → after ≡ figures_of (entries_of (take (i + 1) log))
figures_next log i d before after within was next = next was ∙ ap figures_of (sym (entries_more log i d within))

-- how many entries stand before one
pub short_front : (log : List SignedEntry) (i : ℕ) → i < length log → length (entries_of (take i log)) ≡ i
short_front log i within = length-map (take i log) (λ (s : SignedEntry). s.entry) ∙ length-take-le i log (omega (arith, within))

pub figures_nothing : figures_of [] ≡ figures_of (entries_of [])
figures_nothing = refl
