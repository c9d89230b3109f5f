-- No two keys of a valid state have one number.
use Rattle.std.proofs.Common.{◌≡◌, ◌<◌, ℕ, List, ◌∷◌, ◌++◌, inl, inr, Bool, true, false, refl, sym, ap, subst, ◌∙◌, arith}
use Rattle.std.specs.Prelude.{◌||◌, ◌==◌, AllPairs, Contains, IsTrue, get_or, if◌then◌else◌}
use Rattle.std.proofs.lemmas.Bool.{cases_lt}
use Rattle.std.proofs.lemmas.List.{get_or_default}
use Rattle.std.proofs.lemmas.List.Sums.{sum_by-append, sum_by-cons}
use Rattle.mb_model.specs.declared.key.PublicKey.{PublicKey}
use Rattle.mb_model.specs.declared.order.KeyKind.{KeyKind}
use Rattle.mb_model.specs.declared.entry.Entry.{Entry}
use Rattle.mb_model.specs.declared.entry.Entry.TheVariants.{NewKey}
use Rattle.mb_model.specs.declared.region.Region.{Region}
use Rattle.mb_model.specs.declared.region.RegionKey.{RegionKey}
use Rattle.mb_model.specs.declared.state.State.{State}
use Rattle.mb_model.specs.owners.Layers.{is_upper}
use Rattle.mb_model.specs.owners.Log.{entries_of, keys_in, keys_made_by, RuledLog}
use Rattle.mb_model.specs.owners.Lives.{Alive}
use Rattle.mb_model.specs.owners.Regions.{empty_region}
use Rattle.mb_model.specs.signatures.Signing.{public_of}
use Rattle.mb_model.specs.owners.Regions.{region_of}
use Rattle.mb_model.specs.memories.Valid.{IsValidState}
use Rattle.mb_model_lemmas.proofs.Splits.{two_splits}
use Rattle.mb_model_lemmas.proofs.FateLemmas.{keys_increase}
use Rattle.mb_model_lemmas.proofs.FatedStates.{region_key_lives}
use Rattle.mb_model_lemmas.proofs.ValidStates.{valid_is_ruled, region_is_valid}

-- ---- keys of the log

-- the keys made before an entry that makes one are fewer
pub made_past : (before : List Entry) (own : Entry) (more : List Entry) → keys_in own ≡ 1 → keys_made_by before < keys_made_by (before ++ own ∷ more)
unfolding keys_made_by
made_past before own more one =
    let whole = sum_by-append keys_in before (own ∷ more) in
    let rest = sum_by-cons keys_in own more in
    omega (arith, whole, rest, one)

-- an entry that makes a key says of which layer
one_entry : (p q a b m n L M : ℕ) (kind other : KeyKind) (key public : PublicKey) → NewKey p a m L kind key ≡ NewKey q b n M other public → L ≡ M
one_entry p q a b m n L M kind other key public e = cc

-- no entry that makes a key with its number stands before another
not_after : (log : List Entry) (m n L M : ℕ) (kind other : KeyKind) (key public : PublicKey) → RuledLog log → (a : Alive log m L kind key) (b : Alive log n M other public) → m ≡ n
    → (more : List Entry) → b.before ≡ a.before ++ NewKey a.position a.number m L kind key ∷ more → ⊥
not_after log m n L M kind other key public ruled a b same more is =
    let first : m ≡ keys_made_by a.before = (ruled a.before (NewKey a.position a.number m L kind key) a.later a.split).1.key_counted in
    let second : n ≡ keys_made_by b.before = (ruled b.before (NewKey b.position b.number n M other public) b.later b.split).1.key_counted in
    let past : keys_made_by a.before < keys_made_by (a.before ++ NewKey a.position a.number m L kind key ∷ more) = made_past a.before (NewKey a.position a.number m L kind key) more refl in
    let whole : keys_made_by b.before ≡ keys_made_by (a.before ++ NewKey a.position a.number m L kind key ∷ more) = ap keys_made_by is in
    omega (arith, first, second, past, whole, same)

-- keys with one number are of one layer
pub one_layer : (log : List Entry) (m n L M : ℕ) (kind other : KeyKind) (key public : PublicKey) → RuledLog log → Alive log m L kind key → Alive log n M other public → m ≡ n → L ≡ M
one_layer log m n L M kind other key public ruled a b same =
    elim (two_splits a.before b.before (NewKey a.position a.number m L kind key) (NewKey b.position b.number n M other public) a.later b.later (sym a.split ∙ b.split)) [
      | inl one ↦ one_entry a.position b.position a.number b.number m n L M kind other key public one.1
      | inr (inl first) ↦ absurd (not_after log m n L M kind other key public ruled a b same first.0 first.1)
      | inr (inr second) ↦ absurd (not_after log n m M L other kind public key ruled b a (sym same) second.0 second.1)
    ]

-- ---- keys of a region

apart : (keys : List RegionKey) → AllPairs (λ a b. a.number < b.number) keys → (a b : RegionKey) (x : Contains keys a) (y : Contains keys b) → x.0 < y.0 → a.number < b.number
apart keys up a b x y less =
    let low : get_or keys x.0 a ≡ a = x.2 in
    let high : get_or keys y.0 a ≡ b = get_or_default keys y.0 a b y.1 ∙ y.2 in
    subst (λ (k : RegionKey). k.number < b.number) low (subst (λ (k : RegionKey). (get_or keys x.0 a).number < k.number) high (up x.0 y.0 a less y.1))

-- where numbers increase, keys with one number are one
pub one_in : (keys : List RegionKey) → AllPairs (λ a b. a.number < b.number) keys → (a b : RegionKey) → Contains keys a → Contains keys b → a.number ≡ b.number → a ≡ b
one_in keys up a b x y same =
    elim (cases_lt x.0 y.0) [
      | inl less ↦ absurd (omega (arith, apart keys up a b x y less, same))
      | inr more ↦ elim (cases_lt y.0 x.0) [
        | inl less ↦ absurd (omega (arith, apart keys up b a y x less, same))
        | inr most ↦
            let index : x.0 ≡ y.0 = omega (arith, more, most) in
            sym x.2 ∙ ap (λ (i : ℕ). get_or keys i a) index ∙ get_or_default keys y.0 a b y.1 ∙ y.2
      ]
    ]

-- ---- keys of a state

upper_by : (b c : Bool) (two three : Region) (key : RegionKey) → Contains (if b then two else if c then three else empty_region).keys key → (b || c) ≡ true
upper_by true c two three key within = refl
upper_by false true two three key within = refl
upper_by false false two three key within = absurd (omega (arith, within.1))

-- a layer whose region has a key is 2 or 3
pub upper_of : (state : State) (L : ℕ) (key : RegionKey) → Contains (region_of state L).keys key → IsTrue (is_upper L)
upper_of state L key within = upper_by (L == 2) (L == 3) state.two state.three key within

pub key_lives : (state : State) (L : ℕ) (key : RegionKey) → IsValidState state → Contains (region_of state L).keys key
    → Alive (entries_of state.log) key.number L key.kind (public_of key.seed)
key_lives state L key valid within =
    region_key_lives (entries_of state.log) state.layers L (region_of state L) key (region_is_valid state L (upper_of state L key within) valid) within

-- a key's number is below the next key's
pub key_born : (state : State) (L : ℕ) (key : RegionKey) → IsValidState state → Contains (region_of state L).keys key → key.number < keys_made_by (entries_of state.log)
key_born state L key valid within =
    let alive = key_lives state L key valid within in
    let own : Entry = NewKey alive.position alive.number key.number L key.kind (public_of key.seed) in
    let counted : key.number ≡ keys_made_by alive.before = (valid_is_ruled state valid alive.before own alive.later alive.split).1.key_counted in
    let past : keys_made_by alive.before < keys_made_by (alive.before ++ own ∷ alive.later) = made_past alive.before own alive.later refl in
    let whole : keys_made_by (entries_of state.log) ≡ keys_made_by (alive.before ++ own ∷ alive.later) = ap keys_made_by alive.split in
    omega (arith, counted, past, whole)

pub one_region : (state : State) (L M : ℕ) (a b : RegionKey) → IsValidState state → Contains (region_of state L).keys a → Contains (region_of state M).keys b → a.number ≡ b.number → L ≡ M
one_region state L M a b valid x y same =
    one_layer (entries_of state.log) a.number b.number L M a.kind b.kind (public_of a.seed) (public_of b.seed) (valid_is_ruled state valid)
    (key_lives state L a valid x) (key_lives state M b valid y) same

pub numbers_increase : (state : State) (L : ℕ) → IsTrue (is_upper L) → IsValidState state → AllPairs (λ a b. a.number < b.number) (region_of state L).keys
numbers_increase state L upper valid =
    keys_increase (entries_of state.log) L (region_of state L).keys (valid_is_ruled state valid) (region_is_valid state L upper valid).keys
