-- The keys that are alive by a log, and the configurations in which they lived, with one more entry.
use Rattle.std.proofs.Common.{◌≡◌, inl, inr, ◌≤◌, ◌<◌, ◌+◌, ℕ, List, [], ◌∷◌, ◌++◌, Bool, true, false, cond, true≢false, refl, sym, ap, subst, ◌∙◌, arith, append_assoc, append-nil, map, eq-eqb, eqb-true}
use Rattle.std.specs.Prelude.{◌&&◌, ◌==◌, not, filter, flat_map, All, AllPairs, Contains, if◌then◌else◌}
use Rattle.std.specs.List.{list_all}
use Rattle.std.proofs.Math.Seq.{append_snoc}
use Rattle.std.proofs.lemmas.List.{map-append}
use Rattle.std.proofs.lemmas.List.Concat.{flat_map-append}
use Rattle.std.proofs.lemmas.List.Folds.{flat_map-map, list_all-append}
use Rattle.std.proofs.lemmas.List.Sums.{AllPass-from_list_all, list_all-from_AllPass}
use Rattle.std.proofs.lemmas.List.Elements.{All-nil, All-cons, All-head, All-tail, All-push, All-append, All-filter, All-weaker, filter-append, Contains-append_right, Contains-append_cases, All-contains}
use Rattle.std.proofs.lemmas.List.Kept.{AllPairs-filter}
use Rattle.std.proofs.lemmas.List.Quantifiers.{all_pairs_push}
use Rattle.mb_model.specs.declared.key.PublicKey.{PublicKey}
use Rattle.mb_model.specs.declared.order.KeyKind.{KeyKind}
use Rattle.mb_model.specs.declared.entry.Entry.{Entry}
use Rattle.mb_model.specs.declared.entry.Entry.TheVariants.{Birth, Change, NewKey, Succession}
use Rattle.mb_model.specs.declared.state.Configuration.{Configuration}
use Rattle.mb_model.specs.owners.Log.{figures_of, keys_in, layers_of, keys_made_by, Ruled, RuledLog}
use Rattle.mb_model.specs.owners.Lives.{ends_keys, Alive, configuration, Split, with_front, splits, configurations_opened_by, configurations_outlived_by, lives_from, lives_of, MadeKey, lasting_keys_of, alive_keys}
use Rattle.mb_model_lemmas.specs.AliveLaws.{goes_on, made_by, makes, IsUnmade}
use Rattle.mb_model_lemmas.proofs.LogLemmas.{made-push, by_entries, RuledLog-front}
use Rattle.mb_model_lemmas.proofs.ListLemmas.{contains_none}

-- ---- the keys that are alive

pub alive_keys-nil : (L : ℕ) → alive_keys [] L ≡ []
unfolding alive_keys splits
alive_keys-nil L = refl

pub alive_keys-cons : (entry : Entry) (rest : List Entry) (L : ℕ) → alive_keys (entry ∷ rest) L ≡ lasting_keys_of L entry rest ++ alive_keys rest L
unfolding alive_keys splits
alive_keys-cons entry rest L =
    ap (λ more. lasting_keys_of L entry rest ++ more) (flat_map-map (λ (s : Split). lasting_keys_of L s.entry s.later) (with_front entry) (splits rest))

by_flags : (here alive on : Bool) (p : MadeKey → Bool) (key : MadeKey) → p key ≡ on
    → (if here && (alive && (on && true)) then key ∷ [] else []) ≡ filter p (if here && alive then key ∷ [] else [])
by_flags false alive on p key e = refl
by_flags true false on p key e = refl
by_flags true true false p key e = sym (ap (λ b. cond b (key ∷ []) []) e)
by_flags true true true p key e = sym (ap (λ b. cond b (key ∷ []) []) e)

-- one more entry leaves a key that it does not end
lasting-push : (L : ℕ) (entry : Entry) (later : List Entry) (last : Entry) → lasting_keys_of L entry (later ++ last ∷ []) ≡ filter (goes_on L last) (lasting_keys_of L entry later)
lasting-push L (Birth version serial key layers) later last = refl
lasting-push L (Change version position number kind layer cosigned layers kept next) later last = refl
lasting-push L (NewKey position number key_number layer kind key) later last =
    let mine : MadeKey = record { number = key_number; kind = kind; key = key } in
    ap (λ b. if (layer == L) && b then mine ∷ [] else []) (list_all-append (λ e. not (ends_keys kind L e)) later (last ∷ []))
    ∙ by_flags (layer == L) (list_all (λ e. not (ends_keys kind L e)) later) (not (ends_keys kind L last)) (goes_on L last) mine refl
lasting-push L (Succession position key) later last = refl

lasting-nil : (L : ℕ) (entry : Entry) → lasting_keys_of L entry [] ≡ made_by L entry
lasting-nil L (Birth version serial key layers) = refl
lasting-nil L (Change version position number kind layer cosigned layers kept next) = refl
lasting-nil L (NewKey position number key_number layer kind key) =
    let mine : MadeKey = record { number = key_number; kind = kind; key = key } in
    elim (layer == L) as (λ b. (if b && true then mine ∷ [] else []) ≡ (if b then mine ∷ [] else [])) [ false ↦ refl | true ↦ refl ]
lasting-nil L (Succession position key) = refl

-- one more entry leaves the keys that it does not end, and after them stands the one that it makes
pub alive_keys-push : (log : List Entry) (entry : Entry) (L : ℕ) → alive_keys (log ++ entry ∷ []) L ≡ filter (goes_on L entry) (alive_keys log L) ++ made_by L entry
alive_keys-push [] entry L =
    alive_keys-cons entry [] L
    ∙ ap (λ more. lasting_keys_of L entry [] ++ more) (alive_keys-nil L)
    ∙ append-nil (lasting_keys_of L entry [])
    ∙ lasting-nil L entry
    ∙ sym (ap (λ keys. filter (goes_on L entry) keys ++ made_by L entry) (alive_keys-nil L))
alive_keys-push (first ∷ rest) entry L =
    let on : MadeKey → Bool = goes_on L entry in
    alive_keys-cons first (rest ++ entry ∷ []) L
    ∙ ap (λ mine. mine ++ alive_keys (rest ++ entry ∷ []) L) (lasting-push L first rest entry)
    ∙ ap (λ more. filter on (lasting_keys_of L first rest) ++ more) (alive_keys-push rest entry L)
    ∙ sym (append_assoc (filter on (lasting_keys_of L first rest)) (filter on (alive_keys rest L)) (made_by L entry))
    ∙ ap (λ keys. keys ++ made_by L entry) (sym (filter-append on (lasting_keys_of L first rest) (alive_keys rest L)))
    ∙ ap (λ keys. filter on keys ++ made_by L entry) (sym (alive_keys-cons first rest L))

-- an entry's own key is listed, where none ends it
lasting_one : (position number n L : ℕ) (kind : KeyKind) (key : PublicKey) (later : List Entry) → All (λ entry. ends_keys kind L entry ≡ false) later
    → lasting_keys_of L (NewKey position number n L kind key) later ≡ record { number = n; kind = kind; key = key } ∷ []
lasting_one position number n L kind key later lasts =
    let mine : MadeKey = record { number = n; kind = kind; key = key } in
    let here : (L == L) ≡ true = eq-eqb L L refl in
    let on : list_all (λ e. not (ends_keys kind L e)) later ≡ true = list_all-from_AllPass (λ e. not (ends_keys kind L e)) later (All-weaker (λ e. ends_keys kind L e ≡ false) (λ e. not (ends_keys kind L e) ≡ true) (λ e off. ap not off) later lasts) in
    ap (λ b. if b && list_all (λ e. not (ends_keys kind L e)) later then mine ∷ [] else []) here
    ∙ ap (λ b. if b then mine ∷ [] else []) on

listed_at : (before : List Entry) (position number n L : ℕ) (kind : KeyKind) (key : PublicKey) (later : List Entry) → All (λ entry. ends_keys kind L entry ≡ false) later
    → Contains (alive_keys (before ++ NewKey position number n L kind key ∷ later) L) (record { number = n; kind = kind; key = key })
listed_at [] position number n L kind key later lasts =
    let mine : MadeKey = record { number = n; kind = kind; key = key } in
    let whole : alive_keys (NewKey position number n L kind key ∷ later) L ≡ mine ∷ alive_keys later L =
    alive_keys-cons (NewKey position number n L kind key) later L ∙ ap (λ keys. keys ++ alive_keys later L) (lasting_one position number n L kind key later lasts)
    in
    subst (λ keys. Contains keys mine) (sym whole) (0, omega arith, refl)
listed_at (first ∷ before) position number n L kind key later lasts =
    let mine : MadeKey = record { number = n; kind = kind; key = key } in
    let rest : List Entry = before ++ NewKey position number n L kind key ∷ later in
    subst (λ keys. Contains keys mine) (sym (alive_keys-cons first rest L))
    (Contains-append_right (lasting_keys_of L first rest) (alive_keys rest L) mine (listed_at before position number n L kind key later lasts))

-- each key that lives is listed
pub alive_is_listed : (log : List Entry) (n L : ℕ) (kind : KeyKind) (key : PublicKey) → Alive log n L kind key
    → Contains (alive_keys log L) (record { number = n; kind = kind; key = key })
alive_is_listed log n L kind key alive =
    let mine : MadeKey = record { number = n; kind = kind; key = key } in
    subst (λ es. Contains (alive_keys es L) mine) (sym alive.split) (listed_at alive.before alive.position alive.number n L kind key alive.later alive.lasts)

own_is_alive : (layer L : ℕ) (here alive : Bool) (position number key_number n : ℕ) (kind' kind : KeyKind) (key' key : PublicKey) (later : List Entry)
    → (layer == L) ≡ here → list_all (λ e. not (ends_keys kind' L e)) later ≡ alive
    → Contains {X = MadeKey} (if here && alive then record { number = key_number; kind = kind'; key = key' } ∷ [] else []) (record { number = n; kind = kind; key = key })
    → Alive (NewKey position number key_number layer kind' key' ∷ later) n L kind key
own_is_alive layer L false alive position number key_number n kind' kind key' key later at on within = absurd (contains_none _ within)
own_is_alive layer L true false position number key_number n kind' kind key' key later at on within = absurd (contains_none _ within)
own_is_alive layer L true true position number key_number n kind' kind key' key later at on within =
    let mine : MadeKey = record { number = n; kind = kind; key = key } in
    let made_here : MadeKey = record { number = key_number; kind = kind'; key = key' } in
    let P : MadeKey → Type 0 = λ k. made_here ≡ k in
    let same : made_here ≡ mine = All-contains P (made_here ∷ []) mine (All-cons P made_here [] refl (All-nil P)) within in
    let number_is : key_number ≡ n = ap (λ (k : MadeKey). k.number) same in
    let kind_is : kind' ≡ kind = ap (λ (k : MadeKey). k.kind) same in
    let key_is : key' ≡ key = ap (λ (k : MadeKey). k.key) same in
    let layer_is : layer ≡ L = eqb-true layer L at in
    let passes = AllPass-from_list_all (λ e. not (ends_keys kind' L e)) later on in
    let lasts : All (λ e. ends_keys kind' L e ≡ false) later = All-weaker (λ e. not (ends_keys kind' L e) ≡ true) (λ e. ends_keys kind' L e ≡ false) (λ e off. not_true (ends_keys kind' L e) off) later passes in
    record {
      before = [];
      position = position;
      number = number;
      later = later;
      split =
          ap (λ (x : ℕ). NewKey position number x layer kind' key' ∷ later) number_is
          ∙ ap (λ (x : ℕ). NewKey position number n x kind' key' ∷ later) layer_is
          ∙ ap (λ (x : KeyKind). NewKey position number n L x key' ∷ later) kind_is
          ∙ ap (λ (x : PublicKey). NewKey position number n L kind x ∷ later) key_is;
      lasts = subst (λ (x : KeyKind). All (λ e. ends_keys x L e ≡ false) later) kind_is lasts;
    }
  where
    not_true : (b : Bool) → not b ≡ true → b ≡ false
    not_true false e = refl
    not_true true e = absurd (true≢false (sym e))

lasting_is_alive : (L n : ℕ) (kind : KeyKind) (key : PublicKey) (entry : Entry) (later : List Entry) → Contains (lasting_keys_of L entry later) (record { number = n; kind = kind; key = key })
    → Alive (entry ∷ later) n L kind key
lasting_is_alive L n kind key (Birth version serial device layers) later within = absurd (contains_none _ within)
lasting_is_alive L n kind key (Change version position number change layer cosigned layers kept next) later within = absurd (contains_none _ within)
lasting_is_alive L n kind key (NewKey position number key_number layer kind' key') later within =
    own_is_alive layer L (layer == L) (list_all (λ e. not (ends_keys kind' L e)) later) position number key_number n kind' kind key' key later refl refl within
lasting_is_alive L n kind key (Succession position device) later within = absurd (contains_none _ within)

-- each key that is listed lives
pub listed_is_alive : (log : List Entry) (n L : ℕ) (kind : KeyKind) (key : PublicKey) → Contains (alive_keys log L) (record { number = n; kind = kind; key = key })
    → Alive log n L kind key
listed_is_alive [] n L kind key within =
    let mine : MadeKey = record { number = n; kind = kind; key = key } in
    absurd (contains_none mine (subst (λ keys. Contains keys mine) (alive_keys-nil L) within))
listed_is_alive (first ∷ rest) n L kind key within =
    let mine : MadeKey = record { number = n; kind = kind; key = key } in
    elim (Contains-append_cases (lasting_keys_of L first rest) (alive_keys rest L) mine (subst (λ keys. Contains keys mine) (alive_keys-cons first rest L) within)) [
      | inl own ↦ lasting_is_alive L n kind key first rest own
      | inr later ↦
          let alive = listed_is_alive rest n L kind key later in
          record {
            before = first ∷ alive.before;
            position = alive.position;
            number = alive.number;
            later = alive.later;
            split = ap (λ es. first ∷ es) alive.split;
            lasts = alive.lasts;
          }
    ]

-- ---- their numbers

abbrev IsBelow : ℕ → MadeKey → Type 0
IsBelow n key = key.number < n

abbrev Increase : MadeKey → MadeKey → Type 0
Increase a b = a.number < b.number

one_above : (b : Bool) (key : MadeKey) (keys : List MadeKey) → AllPairs Increase keys → All (IsBelow key.number) keys → AllPairs Increase (keys ++ (if b then key ∷ [] else []))
one_above false key keys up below = subst (AllPairs Increase) (sym (append-nil keys)) up
one_above true key keys up below = all_pairs_push Increase keys key up below

none_or_one : (P : MadeKey → Type 0) (b : Bool) (key : MadeKey) → P key → All P (if b then key ∷ [] else [])
none_or_one P false key holds = All-nil P
none_or_one P true key holds = All-cons P key [] holds (All-nil P)

-- numbers below n, which increase
record AreNumbered (n : ℕ) (keys : List MadeKey) : Type 0 where
  below : All (IsBelow n) keys
  up : AllPairs Increase keys

numbered_more : (before : List Entry) (entry : Entry) → Ruled (figures_of before) entry → (L : ℕ) (keys : List MadeKey) → AreNumbered (keys_made_by before) keys
    → AreNumbered (keys_made_by before + keys_in entry) (keys ++ made_by L entry)
numbered_more before (Birth version serial key layers) ruled L keys are = record {
  below = All-append (IsBelow (keys_made_by before + 1)) keys [] (All-weaker (IsBelow (keys_made_by before)) (IsBelow (keys_made_by before + 1)) (λ k less. omega (arith, less)) keys are.below) (All-nil (IsBelow (keys_made_by before + 1)));
  up = subst (AllPairs Increase) (sym (append-nil keys)) are.up;
}
numbered_more before (Change version position number kind layer cosigned layers kept next) ruled L keys are =
    let n : ℕ = keys_made_by before + keys_in (Change version position number kind layer cosigned layers kept next) in
    record {
      below = All-append (IsBelow n) keys [] (All-weaker (IsBelow (keys_made_by before)) (IsBelow n) (λ k less. omega (arith, less)) keys are.below) (All-nil (IsBelow n));
      up = subst (AllPairs Increase) (sym (append-nil keys)) are.up;
    }
numbered_more before (NewKey position number key_number layer kind key) ruled L keys are =
    let mine : MadeKey = record { number = key_number; kind = kind; key = key } in
    let counted : key_number ≡ keys_made_by before = ruled.1.key_counted in
    record {
      below = All-append (IsBelow (keys_made_by before + 1)) keys _ (All-weaker (IsBelow (keys_made_by before)) (IsBelow (keys_made_by before + 1)) (λ k less. omega (arith, less)) keys are.below) (none_or_one (IsBelow (keys_made_by before + 1)) (layer == L) mine (omega (arith, counted)));
      up = one_above (layer == L) mine keys are.up (subst (λ (n : ℕ). All (IsBelow n) keys) (sym counted) are.below);
    }
numbered_more before (Succession position key) ruled L keys are = record {
  below = All-append (IsBelow (keys_made_by before + 1)) keys [] (All-weaker (IsBelow (keys_made_by before)) (IsBelow (keys_made_by before + 1)) (λ k less. omega (arith, less)) keys are.below) (All-nil (IsBelow (keys_made_by before + 1)));
  up = subst (AllPairs Increase) (sym (append-nil keys)) are.up;
}

alive_are_numbered : (L : ℕ) (log : List Entry) → RuledLog log → AreNumbered (keys_made_by log) (alive_keys log L)
alive_are_numbered L log ruled =
    by_entries (λ es. AreNumbered (keys_made_by es) (alive_keys es L)) step nothing log ruled
  where
    step : (before : List Entry) (entry : Entry) → RuledLog before → AreNumbered (keys_made_by before) (alive_keys before L) → Ruled (figures_of before) entry → AreNumbered (keys_made_by (before ++ entry ∷ [])) (alive_keys (before ++ entry ∷ []) L)
    step before entry so_far are next =
        let keys : List MadeKey = filter (goes_on L entry) (alive_keys before L) in
        let fewer : AreNumbered (keys_made_by before) keys = record {
          below = All-filter (goes_on L entry) (IsBelow (keys_made_by before)) (alive_keys before L) are.below;
          up = AllPairs-filter Increase (goes_on L entry) (alive_keys before L) are.up;
        } in
        let more = numbered_more before entry next L keys fewer in
        subst (λ n. AreNumbered n (alive_keys (before ++ entry ∷ []) L)) (sym (made-push before entry))
        (subst (AreNumbered (keys_made_by before + keys_in entry)) (sym (alive_keys-push before entry L)) more)

    nothing : AreNumbered (keys_made_by []) (alive_keys [] L)
    nothing = subst (AreNumbered (keys_made_by [])) (sym (alive_keys-nil L)) (record { below = All-nil (IsBelow (keys_made_by [])); up = λ i j d less within. absurd (omega (arith, within)) })

-- the keys alive are listed by increasing numbers
pub alive_increase : (log : List Entry) (L : ℕ) → RuledLog log → AllPairs (λ a b. a.number < b.number) (alive_keys log L)
alive_increase log L ruled = (alive_are_numbered L log ruled).up

-- and the next key's number is above them all
pub alive_below : (log : List Entry) (L : ℕ) → RuledLog log → All (λ key. key.number < keys_made_by log) (alive_keys log L)
alive_below log L ruled = (alive_are_numbered L log ruled).below

-- ---- the entries that make a key

-- no entry has made a key with a number that is not below the next key's
pub high_is_unmade : (log : List Entry) (n : ℕ) → RuledLog log → keys_made_by log ≤ n → IsUnmade log n
high_is_unmade log n ruled high = by_entries (λ es. keys_made_by es ≤ n → IsUnmade es n) step (λ some. All-nil (λ e. makes n e ≡ false)) log ruled high
  where
    other : (before : List Entry) (entry : Entry) → Ruled (figures_of before) entry → keys_made_by before + keys_in entry ≤ n → makes n entry ≡ false
    other before (Birth version serial key layers) next high = refl
    other before (Change version position number kind layer cosigned layers kept device) next high = refl
    other before (NewKey position number key_number layer kind key) next high = let counted = next.1.key_counted in grind (arith, high, counted)
    other before (Succession position key) next high = refl

    step : (before : List Entry) (entry : Entry) → RuledLog before → (keys_made_by before ≤ n → IsUnmade before n) → Ruled (figures_of before) entry → keys_made_by (before ++ entry ∷ []) ≤ n → IsUnmade (before ++ entry ∷ []) n
    step before entry so_far unmade next high =
        let sum = made-push before entry in
        All-push (λ e. makes n e ≡ false) before entry (unmade (omega (arith, sum, high))) (other before entry next (omega (arith, sum, high)))

-- entries after one that makes a key make others
pub later_is_unmade : (front rest : List Entry) (n : ℕ) → n < keys_made_by front → RuledLog (front ++ rest) → IsUnmade rest n
later_is_unmade front [] n less ruled = All-nil (λ e. makes n e ≡ false)
later_is_unmade front (entry ∷ rest) n less ruled =
    let seam = append_snoc front entry rest in
    let more : n < keys_made_by (front ++ entry ∷ []) = omega (arith, less, made-push front entry) in
    All-cons (λ e. makes n e ≡ false) entry rest (other entry (ruled front entry rest refl)) (later_is_unmade (front ++ entry ∷ []) rest n more (subst RuledLog (sym seam) ruled))
  where
    other : (e : Entry) → Ruled (figures_of front) e → makes n e ≡ false
    other (Birth version serial key layers) next = refl
    other (Change version position number kind layer cosigned layers kept device) next = refl
    other (NewKey position number key_number layer kind key) next = let counted = next.1.key_counted in grind (arith, less, counted)
    other (Succession position key) next = refl

-- ---- the configurations

abbrev pub Listing : Type 0
Listing = Split → List Configuration

-- it lists nothing for an entry that does not make the key
abbrev pub IsOfKey : ℕ → Listing → Type 0
IsOfKey n lists = (s : Split) → makes n s.entry ≡ false → lists s ≡ []

none_listed : (n : ℕ) (lists : Listing) (log : List Entry) → IsOfKey n lists → IsUnmade log n → flat_map lists (splits log) ≡ []
unfolding splits
none_listed n lists [] of_key unmade = refl
none_listed n lists (entry ∷ rest) of_key unmade =
    ap (λ mine. mine ++ flat_map lists (map (with_front entry) (splits rest))) (of_key (record { before = []; entry = entry; later = rest }) (All-head (λ e. makes n e ≡ false) entry rest unmade))
    ∙ flat_map-map lists (with_front entry) (splits rest)
    ∙ none_listed n (λ s. lists (with_front entry s)) rest (λ s other. of_key (with_front entry s) other) (All-tail (λ e. makes n e ≡ false) entry rest unmade)

pub one_listed : (n : ℕ) (lists : Listing) (before : List Entry) (entry : Entry) (later : List Entry) → IsOfKey n lists → IsUnmade before n → IsUnmade later n
    → flat_map lists (splits (before ++ entry ∷ later)) ≡ lists (record { before = before; entry = entry; later = later })
unfolding splits
one_listed n lists [] entry later of_key unmade unmade_later =
    let own : Split = record { before = []; entry = entry; later = later } in
    ap (λ more. lists own ++ more) (flat_map-map lists (with_front entry) (splits later) ∙ none_listed n (λ s. lists (with_front entry s)) later (λ s other. of_key (with_front entry s) other) unmade_later)
    ∙ append-nil (lists own)
one_listed n lists (first ∷ before) entry later of_key unmade unmade_later =
    let rest : List Entry = before ++ entry ∷ later in
    ap (λ mine. mine ++ flat_map lists (map (with_front first) (splits rest))) (of_key (record { before = []; entry = first; later = rest }) (All-head (λ e. makes n e ≡ false) first before unmade))
    ∙ flat_map-map lists (with_front first) (splits rest)
    ∙ one_listed n (λ s. lists (with_front first s)) before entry later (λ s other. of_key (with_front first s) other) (All-tail (λ e. makes n e ≡ false) first before unmade) unmade_later

pub lives_from-other : (n : ℕ) (before : List Entry) (entry : Entry) (later : List Entry) → makes n entry ≡ false → lives_from n before entry later ≡ []
lives_from-other n before (Birth version serial key layers) later other = refl
lives_from-other n before (Change version position number kind layer cosigned layers kept next) later other = refl
lives_from-other n before (NewKey position number key_number layer kind key) later other =
    ap (λ b. if b then configuration layer number (layers_of before) ∷ flat_map (configurations_outlived_by kind layer) (splits later) else []) other
lives_from-other n before (Succession position key) later other = refl

-- a key that no entry makes has lived in no configuration
pub unmade_has_no_lives : (log : List Entry) (n : ℕ) → IsUnmade log n → lives_of log n ≡ []
unfolding lives_of
unmade_has_no_lives log n unmade =
    none_listed n (λ s. lives_from n s.before s.entry s.later) log (λ s other. lives_from-other n s.before s.entry s.later other) unmade

-- the configurations of a key are that of its own entry, and those that later entries open while it lives
pub lives_of-split : (before : List Entry) (position number n L : ℕ) (kind : KeyKind) (key : PublicKey) (later : List Entry)
    → RuledLog (before ++ NewKey position number n L kind key ∷ later)
    → lives_of (before ++ NewKey position number n L kind key ∷ later) n ≡ configuration L number (layers_of before) ∷ flat_map (configurations_outlived_by kind L) (splits later)
unfolding lives_of
lives_of-split before position number n L kind key later ruled =
    let entry : Entry = NewKey position number n L kind key in
    let counted : n ≡ keys_made_by before = (ruled before entry later refl).1.key_counted in
    let front : IsUnmade before n = high_is_unmade before n (RuledLog-front before (entry ∷ later) ruled) (omega (arith, counted)) in
    let ruled_after : RuledLog (before ++ entry ∷ [] ++ later) = subst RuledLog (sym (append_snoc before entry later)) ruled in
    let back : IsUnmade later n = later_is_unmade (before ++ entry ∷ []) later n (omega (arith, counted, made-push before entry)) ruled_after in
    one_listed n (λ s. lives_from n s.before s.entry s.later) before entry later (λ s other. lives_from-other n s.before s.entry s.later other) front back
    ∙ ap (λ b. if b then configuration L number (layers_of before) ∷ flat_map (configurations_outlived_by kind L) (splits later) else []) (eq-eqb n n refl)

-- Where an entry makes a key, that entry's number and the layers that stand are its first configuration.
pub lives_of_new_key : (log : List Entry) (position number n L : ℕ) (kind : KeyKind) (key : PublicKey)
    → RuledLog (log ++ NewKey position number n L kind key ∷ [])
    → lives_of (log ++ NewKey position number n L kind key ∷ []) n ≡ configuration L number (layers_of log) ∷ []
unfolding splits
lives_of_new_key log position number n L kind key ruled = lives_of-split log position number n L kind key [] ruled

-- a place with one more entry at the end
abbrev with_last : Entry → Split → Split
with_last entry split = record split { later = split.later ++ entry ∷ [] }

splits-push : (log : List Entry) (entry : Entry) → splits (log ++ entry ∷ []) ≡ map (with_last entry) (splits log) ++ record { before = log; entry = entry; later = [] } ∷ []
unfolding splits
splits-push [] entry = refl
splits-push (first ∷ rest) entry =
    let own : Split = record { before = []; entry = first; later = rest ++ entry ∷ [] } in
    let last : Split = record { before = rest; entry = entry; later = [] } in
    ap (λ more. own ∷ map (with_front first) more) (splits-push rest entry)
    ∙ ap (λ more. own ∷ more) (map-append (with_front first) (map (with_last entry) (splits rest)) (last ∷ []))
    ∙ ap (λ more. own ∷ more ++ with_front first last ∷ []) (swapped (splits rest))
  where
    swapped : (xs : List Split) → map (with_front first) (map (with_last entry) xs) ≡ map (with_last entry) (map (with_front first) xs)
    swapped [] = refl
    swapped (x ∷ xs) = ap (λ more. with_front first (with_last entry x) ∷ more) (swapped xs)

-- what later entries open, with one more
pub outlived-push : (kind : KeyKind) (L : ℕ) (later : List Entry) (entry : Entry)
    → flat_map (configurations_outlived_by kind L) (splits (later ++ entry ∷ []))
    ≡ flat_map (configurations_outlived_by kind L) (splits later) ++ (if list_all (λ e. not (ends_keys kind L e)) (later ++ entry ∷ []) then configurations_opened_by L entry else [])
outlived-push kind L later entry =
    let last : Split = record { before = later; entry = entry; later = [] } in
    let on : Entry → Bool = λ e. not (ends_keys kind L e) in
    ap (flat_map (configurations_outlived_by kind L)) (splits-push later entry)
    ∙ flat_map-append (configurations_outlived_by kind L) (map (with_last entry) (splits later)) (last ∷ [])
    ∙ ap (λ more. more ++ (configurations_outlived_by kind L last ++ [])) (flat_map-map (configurations_outlived_by kind L) (with_last entry) (splits later))
    ∙ ap (λ more. flat_map (configurations_outlived_by kind L) (splits later) ++ more) (append-nil (configurations_outlived_by kind L last))
    ∙ ap (λ b. flat_map (configurations_outlived_by kind L) (splits later) ++ (if b then configurations_opened_by L entry else [])) (same_flag (list_all on later) (on entry) ∙ sym (list_all-append on later (entry ∷ [])))
  where
    same_flag : (a b : Bool) → (a && b) ≡ (a && (b && true))
    same_flag false b = refl
    same_flag true false = refl
    same_flag true true = refl

-- A later entry adds the configuration that it opens, where neither it nor one since the key's own ended the key.
pub lives_of-push : (log before later : List Entry) (position number n L : ℕ) (kind : KeyKind) (key : PublicKey) (entry : Entry)
    → log ≡ before ++ NewKey position number n L kind key ∷ later → RuledLog (log ++ entry ∷ [])
    → lives_of (log ++ entry ∷ []) n
    ≡ lives_of log n ++ (if list_all (λ e. not (ends_keys kind L e)) (later ++ entry ∷ []) then configurations_opened_by L entry else [])
lives_of-push log before later position number n L kind key entry split ruled =
    let own : Entry = NewKey position number n L kind key in
    let first : Configuration = configuration L number (layers_of before) in
    let more : List Configuration = if list_all (λ e. not (ends_keys kind L e)) (later ++ entry ∷ []) then configurations_opened_by L entry else [] in
    let longer_split : log ++ entry ∷ [] ≡ before ++ own ∷ (later ++ entry ∷ []) = ap (λ es. es ++ entry ∷ []) split ∙ append_assoc before (own ∷ later) (entry ∷ []) in
    let longer : RuledLog (before ++ own ∷ (later ++ entry ∷ [])) = subst RuledLog longer_split ruled in
    let shorter : RuledLog (before ++ own ∷ later) = subst RuledLog split (RuledLog-front log (entry ∷ []) ruled) in
    ap (λ es. lives_of es n) longer_split
    ∙ lives_of-split before position number n L kind key (later ++ entry ∷ []) longer
    ∙ ap (λ rest. first ∷ rest) (outlived-push kind L later entry)
    ∙ ap (λ rest. rest ++ more) (sym (lives_of-split before position number n L kind key later shorter))
    ∙ ap (λ es. lives_of es n ++ more) (sym split)
