-- The indices of device keys in a log count entries.
use Rattle.std.proofs.Common.{◌≡◌, ◌≢◌, ◌<◌, ℕ, List, [], ◌∷◌, ◌++◌, length, Option, None, Some, refl, sym, ap, subst, ◌∙◌, arith}
use Rattle.std.specs.Prelude.{All, IsSome}
use Rattle.std.specs.Option.{option_or}
use Rattle.std.proofs.lemmas.List.{map-append, length-map, nil_from_length}
use Rattle.std.proofs.lemmas.List.Elements.{All-nil, All-cons, All-map}
use Rattle.mb_model.specs.declared.key.PublicKey.{PublicKey}
use Rattle.mb_model.specs.declared.entry.Entry.{Entry}
use Rattle.mb_model.specs.declared.entry.SignedEntry.{SignedEntry}
use Rattle.mb_model.specs.declared.state.State.{State}
use Rattle.mb_model.specs.signatures.Merkle.{leaf_number}
use Rattle.mb_model.specs.owners.Log.{entries_of, device_in, last_of, device_of, uses_of_device_key}
use Rattle.mb_model.specs.machine.SignedTexts.{entry_text, IsSignedBy}
use Rattle.mb_model.specs.memories.Valid.{IsValidState}
use Rattle.mb_model_lemmas.proofs.LogLemmas.{used-split}
use Rattle.mb_model_lemmas.proofs.ReaderLemmas.{none_of_two}
use Rattle.mb_model_lemmas.proofs.ListLemmas.{not_first}
use Rattle.mb_model.specs.machine.Runs.{NamesDevice, HasInCharge, SignsEntriesOnce}

-- the entry of a signed one
abbrev entry_in : SignedEntry → Entry
entry_in signed = signed.entry

some_is : {X : Type 0} (o : Option X) → IsSome o → (x : X) × (o ≡ Some x)
some_is None is = absurd (grind (arith, is))
some_is (Some x) is = (x, refl)

pub indices_count : (state : State) (front : List SignedEntry) (namer : SignedEntry) (between : List SignedEntry) (signed : SignedEntry) → IsValidState state
    → HasInCharge state.log front namer between signed → leaf_number signed.signature ≡ length between
indices_count state front namer between signed valid has =
    let before : List SignedEntry = front ++ namer ∷ between in
    let follows = valid.log before signed has.rest has.split in
    let whole : entries_of before ≡ entries_of front ++ namer.entry ∷ entries_of between = map-append entry_in front (namer ∷ between) in
    let some : length (entries_of before) ≢ 0 = λ none. not_first (entries_of front) namer.entry (entries_of between) (sym whole ∙ nil_from_length (entries_of before) none) in
    let key = some_is (device_in namer.entry) has.names in
    let none : All (λ e. device_in e ≡ None) (entries_of between) = All-map (λ e. device_in e ≡ None) entry_in between has.none in
    (follows.in_order some).next
    ∙ ap uses_of_device_key whole
    ∙ used-split (entries_of front) namer.entry (entries_of between) key.0 key.1 none
    ∙ length-map between entry_in

pub no_index_twice : (state : State) (front : List SignedEntry) (namer : SignedEntry) (sooner later : List SignedEntry) (a b : SignedEntry) → IsValidState state
    → HasInCharge state.log front namer sooner a → HasInCharge state.log front namer later b
    → length sooner < length later → leaf_number a.signature < leaf_number b.signature
no_index_twice state front namer sooner later a b valid of_a of_b less =
    let first : leaf_number a.signature ≡ length sooner = indices_count state front namer sooner a valid of_a in
    let second : leaf_number b.signature ≡ length later = indices_count state front namer later b valid of_b in
    omega (arith, first, second, less)

-- ---- the entry that names the key in charge

all_name_none : (log : List SignedEntry) → last_of device_in (entries_of log) ≡ None → All (λ other. device_in other.entry ≡ None) log
unfolding last_of
all_name_none [] none = All-nil (λ (other : SignedEntry). device_in other.entry ≡ None)
all_name_none (first ∷ rest) none =
    let parts = none_of_two (last_of device_in (entries_of rest)) (device_in first.entry) none in
    All-cons (λ (other : SignedEntry). device_in other.entry ≡ None) first rest parts.1 (all_name_none rest parts.0)

-- entries of which the last that names a device key is this one
record EndsAfter (log : List SignedEntry) : Type 0 where
  front : List SignedEntry
  namer : SignedEntry
  between : List SignedEntry
  split : log ≡ front ++ namer ∷ between
  names : NamesDevice namer
  none : All (λ other. device_in other.entry ≡ None) between

namer_of : (log : List SignedEntry) (key : PublicKey) → last_of device_in (entries_of log) ≡ Some key → EndsAfter log
unfolding last_of
namer_of [] key is = absurd (grind (arith, is))
namer_of (first ∷ rest) key is = by (last_of device_in (entries_of rest)) refl is (namer_of rest key)
  where
    by : (o : Option PublicKey) → last_of device_in (entries_of rest) ≡ o → option_or o (device_in first.entry) ≡ Some key
        → (last_of device_in (entries_of rest) ≡ Some key → EndsAfter rest) → EndsAfter (first ∷ rest)
    by None none is within = record {
      front = [];
      namer = first;
      between = rest;
      split = refl;
      names = subst (λ (o : Option PublicKey). IsSome o) (sym is) refl;
      none = all_name_none rest none;
    }
    by (Some y) at is within =
        let found = within (at ∙ is) in
        record {
          front = first ∷ found.front;
          namer = found.namer;
          between = found.between;
          split = ap (λ log. first ∷ log) found.split;
          names = found.names;
          none = found.none;
        }

key_named : (key : Option PublicKey) (text signature : List ℕ) → IsSignedBy key text signature → (k : PublicKey) × (key ≡ Some k)
key_named None text signature signed = absurd signed
key_named (Some k) text signature signed = (k, refl)

some_entries : (log : List SignedEntry) → log ≢ [] → length (entries_of log) ≢ 0
some_entries [] some = absurd (some refl)
some_entries (first ∷ rest) some = λ none. absurd (omega (arith, none))

device_namer : (log : List SignedEntry) (key : PublicKey) → device_of (entries_of log) ≡ Some key → EndsAfter log
unfolding device_of
device_namer log key is = namer_of log key is

pub each_has_in_charge : (state : State) (before : List SignedEntry) (signed : SignedEntry) (rest : List SignedEntry) → IsValidState state
    → state.log ≡ before ++ signed ∷ rest → before ≢ []
    → (front : List SignedEntry) × (namer : SignedEntry) × (between : List SignedEntry)
    × (before ≡ front ++ namer ∷ between) × HasInCharge state.log front namer between signed
each_has_in_charge state before signed rest valid split some =
    let follows = valid.log before signed rest split in
    let key = key_named (device_of (entries_of before)) (entry_text signed.entry) signed.signature (follows.verifies (some_entries before some)) in
    let found = device_namer before key.0 key.1 in (
      found.front,
      found.namer,
      found.between,
      found.split,
      record {
        rest = rest;
        split = split ∙ ap (λ log. log ++ signed ∷ rest) found.split;
        names = found.names;
        none = found.none;
      },
    )

pub signs_entries_once : (state : State) → IsValidState state → SignsEntriesOnce state.log
signs_entries_once state valid front namer sooner later a b of_a of_b less = no_index_twice state front namer sooner later a b valid of_a of_b less
