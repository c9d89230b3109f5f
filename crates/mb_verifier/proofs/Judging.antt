-- Whether each entry of a log is good, one entry after another.
use Rattle.std.proofs.Common.{◌≡◌, ◌≢◌, ◌<◌, ◌≤◌, ◌+◌, ℕ, List, [], ◌∷◌, ◌++◌, length, map, take, drop, get_or, Option, None, Some, Bool, false, true≢false, refl, sym, ap, subst, ◌∙◌, append_assoc, arith}
use Rattle.std.specs.Prelude.{◌↔◌, IsTrue, IfSome, is_some}
use Rattle.std.specs.Option.{option_or}
use Rattle.std.proofs.lemmas.List.{map-append, take_more, take-append-drop}
use Rattle.mb_model.specs.declared.key.PublicKey.{PublicKey}
use Rattle.mb_model.specs.declared.entry.Entry.{Entry}
use Rattle.mb_model.specs.declared.entry.SignedEntry.{SignedEntry}
use Rattle.mb_model.specs.declared.entry.Entry.TheVariants.{Birth, Change, NewKey, Succession}
use Rattle.mb_model.specs.owners.Log.{figures_of, entries_of, last_of, serial_in, serial_of, Ordered, Ruled, RuledLog}
use Rattle.mb_model.specs.signatures.Merkle.{leaf_number}
use Rattle.mb_model.specs.records.EntryFormat.{entry_hash}
use Rattle.mb_model.specs.chains.Acceptance.{ChainRefusal, IsInPlace, IsGood, AreGood}
use Rattle.mb_model_lemmas.proofs.LogLemmas.{entries_more}
use Rattle.mb_model_lemmas.proofs.ChainLemmas.{AreGood-push, good_is_ruled}
use Rattle.mb_model.specs.declared.state.Figures.{Figures}
use Rattle.mb_log.specs.declared.life.Life.{Life}
use Rattle.mb_log.specs.KeyLife.{IsLifeOf}
use Rattle.mb_log.specs.Following.{InOrder}
use Rattle.mb_verifier.specs.Checked.{IsBadEntry, HasBadEntry}

-- ---- one entry

pub uncertified : (told : Bool) (P : Type 0) → told ≡ false → (IsTrue told ↔ P) → P → ⊥
uncertified told P off tells holds = true≢false (sym (tells.1 holds) ∙ off)

-- the place of an entry, by the index that is read of its signature
pub in_place : (before : Figures) (signed : SignedEntry) (index : ℕ) → index ≡ leaf_number signed.signature → InOrder before signed.entry index → IsInPlace before signed
in_place before signed index is order some = subst (λ (i : ℕ). Ordered before signed.entry i) is (order some)

pub out_of_place : (before : Figures) (signed : SignedEntry) (index : ℕ) → index ≡ leaf_number signed.signature → before.length ≢ 0 → (Ordered before signed.entry index → ⊥) → IsInPlace before signed → ⊥
out_of_place before signed index is some wrong place = wrong (subst (λ (i : ℕ). Ordered before signed.entry i) (sym is) (place some))

-- ---- a list of entries

pub AreGood-more : (maker : PublicKey) (log : List SignedEntry) (i : ℕ) (d : SignedEntry) (figures : Figures) → i < length log → figures ≡ figures_of (entries_of (take i log))
    → AreGood maker (take i log) → IsGood maker figures (get_or log i d)
    → AreGood maker (take (i + 1) log)
AreGood-more maker log i d figures within is good next =
    subst (AreGood maker) (sym (take_more log i d within))
    (AreGood-push maker (take i log) (get_or log i d) good (subst (λ (f : Figures). IsGood maker f (get_or log i d)) is next))

-- the first that is not good
pub bad_entry : (maker : PublicKey) (log : List SignedEntry) (i : ℕ) (d : SignedEntry) (figures : Figures) (why : ChainRefusal) → i < length log
    → figures ≡ figures_of (entries_of (take i log)) → AreGood maker (take i log) → IsBadEntry maker figures (get_or log i d) why → HasBadEntry maker log why
bad_entry maker log i d figures why within is good bad = record {
  before = take i log;
  signed = get_or log i d;
  rest = drop (i + 1) log;
  split = sym (take-append-drop (i + 1) log) ∙ ap (λ front. front ++ drop (i + 1) log) (take_more log i d within) ∙ append_assoc (take i log) (get_or log i d ∷ []) (drop (i + 1) log);
  good = good;
  bad = subst (λ (f : Figures). IsBadEntry maker f (get_or log i d) why) is bad;
}

-- ---- what they say

-- the life of a key by the entries up to one more
pub life_next : (maker : PublicKey) (log : List SignedEntry) (i : ℕ) (d : SignedEntry) (n : ℕ) (figures : Figures) (before after : Life) → i < length log
    → AreGood maker (take (i + 1) log) → figures ≡ figures_of (entries_of (take i log)) → IsLifeOf (entries_of (take i log)) n before
    → ((front : List Entry) (m : ℕ) → figures ≡ figures_of front → RuledLog (front ++ (get_or log i d).entry ∷ []) → IsLifeOf front m before → IsLifeOf (front ++ (get_or log i d).entry ∷ []) m after)
    → IsLifeOf (entries_of (take (i + 1) log)) n after
life_next maker log i d n figures before after within good is was next =
    let more = entries_more log i d within in
    let ruled : RuledLog (entries_of (take i log) ++ (get_or log i d).entry ∷ []) = subst RuledLog more (good_is_ruled maker (take (i + 1) log) good) in
    subst (λ (es : List Entry). IsLifeOf es n after) (sym more) (next (entries_of (take i log)) n is ruled was)

-- the hashes of the entries up to one more
pub hashes_go_on : (log : List SignedEntry) (i : ℕ) (d : SignedEntry) (before after : List (List ℕ)) (next : List ℕ) → i < length log
    → before ≡ map entry_hash (entries_of (take i log)) → after ≡ before ++ next ∷ [] → next ≡ entry_hash (get_or log i d).entry
    → after ≡ map entry_hash (entries_of (take (i + 1) log))
hashes_go_on log i d before after next within was more is =
    more ∙ ap (λ (hashes : List (List ℕ)). hashes ++ next ∷ []) was
    ∙ ap (λ (hash : List ℕ). map entry_hash (entries_of (take i log)) ++ hash ∷ []) is
    ∙ sym (ap (map entry_hash) (entries_more log i d within) ∙ map-append entry_hash (entries_of (take i log)) ((get_or log i d).entry ∷ []))

-- ---- the serial

or_some : (o : Option (List ℕ)) (x : List ℕ) → option_or o (Some x) ≡ None → ⊥
or_some None x e = true≢false (ap is_some e)
or_some (Some y) x e = true≢false (ap is_some e)

first_is_birth : (entry : Entry) (rest : List Entry) → Ruled (figures_of []) entry → serial_of (entry ∷ rest) ≡ None → ⊥
unfolding serial_of last_of
first_is_birth (Birth version serial key layers) rest ruled e = or_some (last_of serial_in rest) serial e
first_is_birth (Change version position number kind layer cosigned layers kept next) rest ruled e = ruled.0 refl
first_is_birth (NewKey position number key_number layer kind key) rest ruled e = ruled.0 refl
first_is_birth (Succession position key) rest ruled e = ruled.0 refl

-- some good entries begin with a birth, which names a serial
pub some_serial : (maker : PublicKey) (log : List SignedEntry) → 1 ≤ length log → AreGood maker log → serial_of (entries_of log) ≡ None → ⊥
some_serial maker [] some good e = absurd (omega (arith, some))
some_serial maker (signed ∷ rest) some good e = first_is_birth signed.entry (entries_of rest) (good [] signed rest refl).ruled e

-- ---- answers

-- what holds of the refusal that an answer names
pub if_some_weaker : {X : Type 0} (P Q : X → Type 0) (o : Option X) → ((x : X) → P x → Q x) → IfSome o P → IfSome o Q
if_some_weaker P Q None weaker holds = holds
if_some_weaker P Q (Some x) weaker holds = weaker x holds
