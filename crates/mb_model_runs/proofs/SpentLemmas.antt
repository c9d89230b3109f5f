-- Indices of a key that are used stay used: whatever happens, no statement has one of them.
use Rattle.std.proofs.Common.{◌≡◌, ◌<◌, ◌≤◌, ℕ, ◌+◌, List, [], ◌∷◌, ◌++◌, length, Option, None, Some, Bool, true, false, refl, sym, ap, subst, arith}
use Rattle.std.specs.Prelude.{◌==◌, nat_lt, All, AllPairs, Contains, if◌then◌else◌}
use Rattle.std.proofs.lemmas.List.Elements.{All-nil, All-cons, All-push, All-map, All-weaker, All-filter, All-contains, All-contains_itself}
use Rattle.std.proofs.lemmas.List.Kept.{AllPairs-cons}
use Rattle.mb_model.specs.declared.entry.Entry.{Entry}
use Rattle.mb_model.specs.declared.entry.Entry.TheVariants.{Succession}
use Rattle.mb_model.specs.declared.entry.Said.{Said}
use Rattle.mb_model.specs.declared.event.Answered.{Answered}
use Rattle.mb_model.specs.declared.layer.Layers.{Layers}
use Rattle.mb_model.specs.declared.layer.Pair.{Pair}
use Rattle.mb_model.specs.declared.order.Act.{Act}
use Rattle.mb_model.specs.declared.order.Act.TheVariants as act
use Rattle.mb_model.specs.declared.order.ChangeKind.{ChangeKind}
use Rattle.mb_model.specs.declared.order.ChangeKind.TheVariants.{Establish, Surrender, Load, Emergency}
use Rattle.mb_model.specs.declared.order.KeyKind.{KeyKind}
use Rattle.mb_model.specs.declared.order.Order.{Order}
use Rattle.mb_model.specs.declared.region.Region.{Region}
use Rattle.mb_model.specs.declared.region.RegionKey.{RegionKey}
use Rattle.mb_model.specs.declared.region.Secret.{Secret}
use Rattle.mb_model.specs.declared.reply.Reply.{Reply}
use Rattle.mb_model.specs.declared.state.State.{State}
use Rattle.mb_model.specs.owners.Rules.{admits}
use Rattle.mb_model.specs.owners.Log.{entries_of, keys_made_by}
use Rattle.mb_model.specs.owners.Regions.{empty_region, is_epoch, without_configuration_keys, region_after, with_key}
use Rattle.mb_model.specs.signatures.Signing.{public_of}
use Rattle.mb_model.specs.owners.Regions.{region_of}
use Rattle.mb_model.specs.machine.OrderChecks.{needs_succession, view_of}
use Rattle.mb_model.specs.machine.OrderEffects.{log_with, next_key, cosigners_of, state_after_succession, key_made, state_after_change, state_after_new_key, state_after_act, state_after_order, entry_of, change_fact}
use Rattle.mb_model.specs.declared.state.Fact.TheVariants as fact
use Rattle.mb_model.specs.machine.LayerEvents.{has_number, with_use}
use Rattle.mb_model.specs.machine.Machine.{World, Step, Run}
use Rattle.mb_model.specs.memories.Valid.{IsValidState, Valid}
use Rattle.mb_model_lemmas.proofs.LogLemmas.{made-push}
use Rattle.mb_model_lemmas.proofs.RegionLemmas.{at_upper}
use Rattle.mb_model_lemmas.proofs.ValidLogs.{entries_of-signed}
use Rattle.mb_model_lemmas.proofs.ValidSteps.{step_valid}
use Rattle.mb_model_lemmas.proofs.ValidRegions.{used_if}
use Rattle.mb_model.specs.machine.Runs.{IsSignedAt}
use Rattle.mb_model_lemmas.proofs.DemandLemmas.{with_secrets}
use Rattle.mb_model_runs.proofs.KeptByRuns.{with_one_use, IsKept, step_kept}
use Rattle.mb_model_runs.proofs.KeyLemmas.{one_in, upper_of, key_born, one_region, numbers_increase}
use Rattle.mb_model_runs.proofs.SignedSteps.{SignsIn, StepSigns, step_signs}

-- ---- indices that are used

-- the key, if it has the number n, has used the first u of its indices
abbrev IsUsed : ℕ → ℕ → RegionKey → Type 0
IsUsed n u key = key.number ≡ n → u ≤ key.uses

-- the key with the number n was made, and has used the first u of its indices, where it is there
record IsSpent (n u : ℕ) (state : State) : Type 0 where
  born : n < keys_made_by (entries_of state.log)
  two : All (IsUsed n u) state.two.keys
  three : All (IsUsed n u) state.three.keys

abbrev IsSpentIn : ℕ → ℕ → Option State → Type 0
IsSpentIn n u None = Unit {0}
IsSpentIn n u (Some state) = IsSpent n u state

-- ---- both regions, where one is another

kept_two : (P : RegionKey → Type 0) (f : Region → Region) → ((r : Region) → All P r.keys → All P (f r).keys) → (b c : Bool) (two three : Region)
    → All P two.keys → All P three.keys → All P (if b then f (if b then two else if c then three else empty_region) else two).keys
kept_two P f keeps true c two three x y = keeps two x
kept_two P f keeps false c two three x y = x

kept_three : (P : RegionKey → Type 0) (f : Region → Region) → ((r : Region) → All P r.keys → All P (f r).keys) → (b c : Bool) (two three : Region)
    → All P two.keys → All P three.keys → All P (if c then f (if b then two else if c then three else empty_region) else three).keys
kept_three P f keeps true true two three x y = keeps two x
kept_three P f keeps true false two three x y = y
kept_three P f keeps false true two three x y = keeps three y
kept_three P f keeps false false two three x y = y

-- ---- what layers do

use_stays : (number n u : ℕ) (key : RegionKey) → IsUsed n u key → IsUsed n u (used_if number key)
use_stays number n u key holds = by (has_number number key)
  where
    by : (b : Bool) → IsUsed n u (if b then record key { uses = key.uses + 1 } else key)
    by true = λ is. omega (arith, holds is)
    by false = holds

uses_stay : (number n u : ℕ) (keys : List RegionKey) → All (IsUsed n u) keys → All (IsUsed n u) (with_use number keys)
unfolding with_use
uses_stay number n u keys all =
    All-map (IsUsed n u) (used_if number) keys (All-weaker (IsUsed n u) (λ key. IsUsed n u (used_if number key)) (use_stays number n u) keys all)

-- ---- orders

born_more : (n : ℕ) (state : State) (entry : Entry) → n < keys_made_by (entries_of state.log) → n < keys_made_by (entries_of (log_with state entry))
born_more n state entry less =
    let whole : keys_made_by (entries_of (log_with state entry)) ≡ keys_made_by (entries_of state.log ++ entry ∷ []) = ap keys_made_by (entries_of-signed state entry) in
    omega (arith, less, whole, made-push (entries_of state.log) entry)

after_stays : (P : RegionKey → Type 0) (layers : Layers) (kind : ChangeKind) (k : ℕ) (by : Pair) (L : ℕ) (region : Region)
    → All P region.keys → All P (region_after layers kind k by L region).keys
after_stays P layers kind k by L region all = each (nat_lt L k) (admits layers kind k by L)
  where
    each : (above admitted : Bool) → All P (if above then region else if admitted then without_configuration_keys region else empty_region).keys
    each true admitted = all
    each false true = All-filter (λ (key : RegionKey). is_epoch key.kind) P region.keys all
    each false false = All-nil P

changed_spent : (n u : ℕ) (state : State) (kind : ChangeKind) (order : Order) (draw : List ℕ) → IsSpent n u state → IsSpent n u (state_after_change state kind order draw)
unfolding state_after_change
changed_spent n u state kind order draw spent = record {
  born = born_more n state (entry_of (view_of state) (change_fact state.layers kind order) draw) spent.born;
  two = after_stays (IsUsed n u) state.layers kind order.layer (cosigners_of order) 2 state.two spent.two;
  three = after_stays (IsUsed n u) state.layers kind order.layer (cosigners_of order) 3 state.three spent.three;
}

keyed_spent : (n u : ℕ) (state : State) (L : ℕ) (kind : KeyKind) (draw : List ℕ) → IsSpent n u state → IsSpent n u (state_after_new_key state L kind draw)
unfolding state_after_new_key
keyed_spent n u state L kind draw spent =
    let born : n < keys_made_by (entries_of state.log) = spent.born in
    let new : RegionKey = key_made (view_of state) kind draw in
    let other : IsUsed n u new = λ is. absurd (omega (arith, is, born)) in
    let keeps : (r : Region) → All (IsUsed n u) r.keys → All (IsUsed n u) (with_key new r).keys = λ r all. All-push (IsUsed n u) r.keys new all other in
    record {
      born = born_more n state (entry_of (view_of state) (fact.NewKey L kind) draw) born;
      two = kept_two (IsUsed n u) (with_key new) keeps (L == 2) (L == 3) state.two state.three spent.two spent.three;
      three = kept_three (IsUsed n u) (with_key new) keeps (L == 2) (L == 3) state.two state.three spent.two spent.three;
    }

ready_spent : (n u : ℕ) (b : Bool) (state : State) (draw : List ℕ) → IsSpent n u state → IsSpent n u (if b then state_after_succession state draw else state)
unfolding state_after_succession
ready_spent n u true state draw spent = record {
  born = born_more n state (Succession (length state.log) (public_of (next_key (view_of state) draw))) spent.born;
  two = spent.two;
  three = spent.three;
}
ready_spent n u false state draw spent = spent

carried_spent : (n u : ℕ) (ready : State) (order : Order) (a : Act) (draw : List ℕ) → IsSpent n u ready → IsSpent n u (state_after_act ready order a draw)
carried_spent n u ready order (act.Establish owner trust) draw spent = changed_spent n u ready Establish order draw spent
carried_spent n u ready order act.Surrender draw spent = changed_spent n u ready Surrender order draw spent
carried_spent n u ready order (act.Load payload) draw spent = changed_spent n u ready Load order draw spent
carried_spent n u ready order (act.Emergency payload) draw spent = changed_spent n u ready Emergency order draw spent
carried_spent n u ready order (act.NewKey kind) draw spent = keyed_spent n u ready order.layer kind draw spent

obeyed_spent : (n u : ℕ) (state : State) (order : Order) (draw : List ℕ) → IsSpent n u state → IsSpent n u (state_after_order state order draw)
unfolding state_after_order
obeyed_spent n u state order draw spent =
    let b : Bool = needs_succession (view_of state) order in
    carried_spent n u (if b then state_after_succession state draw else state) order order.act draw (ready_spent n u b state draw spent)

-- ---- steps

-- what is used stays used
abbrev StaysSpent : ℕ → ℕ → Option State → Option State → Type 0
StaysSpent n u before after = IsSpentIn n u before → IsSpentIn n u after

secrets_spent : (n u : ℕ) (state : State) (L : ℕ) (secrets : List Secret) → StaysSpent n u (Some state) (Some (with_secrets state L secrets))
secrets_spent n u state L secrets spent =
    let f : Region → Region = λ r. record r { secrets = secrets } in
    record {
      born = spent.born;
      two = kept_two (IsUsed n u) f (λ r all. all) (L == 2) (L == 3) state.two state.three spent.two spent.three;
      three = kept_three (IsUsed n u) f (λ r all. all) (L == 2) (L == 3) state.two state.three spent.two spent.three;
    }

used_spent : (n u : ℕ) (state : State) (L number : ℕ) → StaysSpent n u (Some state) (Some (with_one_use state L number))
used_spent n u state L number spent =
    let f : Region → Region = λ r. record r { keys = with_use number r.keys } in
    let keeps : (r : Region) → All (IsUsed n u) r.keys → All (IsUsed n u) (f r).keys = λ r all. uses_stay number n u r.keys all in
    record {
      born = spent.born;
      two = kept_two (IsUsed n u) f keeps (L == 2) (L == 3) state.two state.three spent.two spent.three;
      three = kept_three (IsUsed n u) f keeps (L == 2) (L == 3) state.two state.three spent.two spent.three;
    }

spent_kept : (n u : ℕ) → IsKept (StaysSpent n u)
spent_kept n u = record {
  same = λ o spent. spent;
  dies = λ o spent. tt;
  secrets = secrets_spent n u;
  used = used_spent n u;
  called = λ state L secrets number spent. used_spent n u (with_secrets state L secrets) L number (secrets_spent n u state L secrets spent);
  order = obeyed_spent n u;
}

-- ---- keys that are there

-- where a key is there, no other has its number: each that has is this one
each_same : (state : State) (L M : ℕ) (key : RegionKey) → IsValidState state → Contains (region_of state L).keys key → All (λ other. other.number ≡ key.number → other ≡ key) (region_of state M).keys
each_same state L M key valid within =
    let keys : List RegionKey = (region_of state M).keys in
    All-weaker (Contains keys) (λ (other : RegionKey). other.number ≡ key.number → other ≡ key)
    (λ other there same.
    let layer : L ≡ M = one_region state L M key other valid within there (sym same) in
    let here : Contains keys key = subst (λ (m : ℕ). Contains (region_of state m).keys key) layer within in
    one_in keys (numbers_increase state M (upper_of state M other there) valid) other key there here same)
    keys (All-contains_itself keys)

uses_of : (key : RegionKey) (keys : List RegionKey) → All (λ other. other.number ≡ key.number → other ≡ key) keys → All (IsUsed key.number key.uses) keys
uses_of key keys same =
    All-weaker (λ (other : RegionKey). other.number ≡ key.number → other ≡ key) (IsUsed key.number key.uses)
    (λ other is number. let uses : other.uses ≡ key.uses = ap (λ (k : RegionKey). k.uses) (is number) in omega (arith, uses)) keys same

-- the uses of a key that is there are used
key_spent_in : (state : State) (L : ℕ) (key : RegionKey) → IsValidState state → Contains (region_of state L).keys key → IsSpent key.number key.uses state
key_spent_in state L key valid within = record {
  born = key_born state L key valid within;
  two = uses_of key state.two.keys (each_same state L 2 key valid within);
  three = uses_of key state.three.keys (each_same state L 3 key valid within);
}

-- ---- the key that signs

used_anew : (key : RegionKey) (keys : List RegionKey) → All (λ other. other.number ≡ key.number → other ≡ key) keys → All (IsUsed key.number (key.uses + 1)) (with_use key.number keys)
unfolding with_use
used_anew key keys same =
    All-map (IsUsed key.number (key.uses + 1)) (used_if key.number) keys
    (All-weaker (λ (other : RegionKey). other.number ≡ key.number → other ≡ key) (λ other. IsUsed key.number (key.uses + 1) (used_if key.number other)) each keys same)
  where
    by : (other : RegionKey) → (other.number ≡ key.number → other ≡ key) → (b : Bool) → (other.number == key.number) ≡ b
        → IsUsed key.number (key.uses + 1) (if b then record other { uses = other.uses + 1 } else other)
    by other same true at = λ is.
        let uses : other.uses ≡ key.uses = ap (λ (k : RegionKey). k.uses) (same is) in
        omega (arith, uses)
    by other same false at = λ is. absurd (grind (arith, at, is))

    each : (other : RegionKey) → (other.number ≡ key.number → other ≡ key) → IsUsed key.number (key.uses + 1) (used_if key.number other)
    each other same = by other same (has_number key.number other) refl

none_there : (state : State) (L M u : ℕ) (key : RegionKey) → IsValidState state → Contains (region_of state L).keys key → (L ≡ M → ⊥) → All (IsUsed key.number u) (region_of state M).keys
none_there state L M u key valid within apart =
    let keys : List RegionKey = (region_of state M).keys in
    All-weaker (Contains keys) (IsUsed key.number u) (λ other there same. absurd (apart (one_region state L M key other valid within there (sym same)))) keys (All-contains_itself keys)

-- one more index of the key is used
signer_spent : (state : State) (L : ℕ) (key : RegionKey) → IsValidState state → Contains (region_of state L).keys key → IsSpent key.number (key.uses + 1) (with_one_use state L key.number)
signer_spent state L key valid within =
    at_upper (λ m. Contains (region_of state m).keys key → IsSpent key.number (key.uses + 1) (with_one_use state m key.number)) L (upper_of state L key within)
    (λ here. record {
      born = key_born state 2 key valid here;
      two = used_anew key state.two.keys (each_same state 2 2 key valid here);
      three = none_there state 2 3 (key.uses + 1) key valid here (λ e. omega (arith, e));
    })
    (λ here. record {
      born = key_born state 3 key valid here;
      two = none_there state 3 2 (key.uses + 1) key valid here (λ e. omega (arith, e));
      three = used_anew key state.three.keys (each_same state 3 3 key valid here);
    })
    within

signing_spends : (state : State) (L : ℕ) (said : Said) (n index : ℕ) (statement : List ℕ) (after : State) → IsValidState state → SignsIn state L said n index statement after → IsSpent n (index + 1) after
signing_spends state L said n index statement after valid signs =
    let between : State = signs.between in
    let there : Contains (region_of between L).keys signs.key = subst (λ (keys : List RegionKey). Contains keys signs.key) (sym signs.spares.keys) signs.within in
    let next : State = with_one_use between L signs.key.number in
    let spent : IsSpent signs.key.number (signs.key.uses + 1) next = signer_spent between L signs.key (signs.keeps_valid valid) there in
    subst (IsSpent n (index + 1)) (sym signs.after_is)
    (subst (λ (m : ℕ). IsSpent m (index + 1) next) signs.number_is
    (subst (λ (i : ℕ). IsSpent signs.key.number (i + 1) next) signs.index_is spent))

region_by : (P : RegionKey → Type 0) (b c : Bool) (two three : Region) → All P two.keys → All P three.keys → All P (if b then two else if c then three else empty_region).keys
region_by P true c two three x y = x
region_by P false true two three x y = y
region_by P false false two three x y = All-nil P

signed_past : (n u L index : ℕ) (said : Said) (statement : List ℕ) (state after : State) → IsSpent n u state → SignsIn state L said n index statement after → u ≤ index
signed_past n u L index said statement state after spent signs =
    let keys : List RegionKey = (region_of state L).keys in
    let all : All (IsUsed n u) keys = region_by (IsUsed n u) (L == 2) (L == 3) state.two state.three spent.two spent.three in
    let used : IsUsed n u signs.key = All-contains (IsUsed n u) keys signs.key all signs.within in
    let less : u ≤ signs.key.uses = used signs.number_is in
    let at : signs.key.uses ≡ index = signs.index_is in
    omega (arith, less, at)

-- ---- steps that are answered by a statement

-- the step, where its answer is this statement
step_by : (world : World) (this : Answered) (next : World) (n index : ℕ) → Step world this.event this.reply next → (at : IsSignedAt n index this) → StepSigns world this.event n index at.0 next
step_by world this next n index step at = step_signs world this.event n index at.0 next (subst (λ (r : Reply). Step world this.event r next) at.1 step)

at_least : (n u : ℕ) (world : World) (this : Answered) (next : World) → IsSpentIn n u world.state → Step world this.event this.reply next
    → (index : ℕ) → IsSignedAt n index this → u ≤ index
at_least n u world this next spent step index at =
    let signs = step_by world this next n index step at in
    signed_past n u signs.L index signs.said at.0 signs.state signs.after (subst (IsSpentIn n u) signs.was spent) signs.signs

spent_after : (n : ℕ) (world : World) (this : Answered) (next : World) → Valid world.state → Step world this.event this.reply next
    → (index : ℕ) → IsSignedAt n index this → IsSpentIn n (index + 1) next.state
spent_after n world this next valid step index at =
    let signs = step_by world this next n index step at in
    let here : IsValidState signs.state = subst Valid signs.was valid in
    subst (IsSpentIn n (index + 1)) (sym signs.is) (signing_spends signs.state signs.L signs.said n index at.0 signs.after here signs.signs)

-- ---- runs

-- where indices of a key are used, no statement of a run has one of them
signed_above : (n u : ℕ) (world : World) (answered : List Answered) (next : World) → IsSpentIn n u world.state → Run world answered next
    → All (λ a. (i : ℕ) → IsSignedAt n i a → u ≤ i) answered
signed_above n u world [] next spent run = All-nil (λ (a : Answered). (i : ℕ) → IsSignedAt n i a → u ≤ i)
signed_above n u world (this ∷ rest) next spent run =
    All-cons (λ (a : Answered). (i : ℕ) → IsSignedAt n i a → u ≤ i) this rest
    (at_least n u world this run.0 spent run.1)
    (signed_above n u run.0 rest next (step_kept (StaysSpent n u) (spent_kept n u) world this.event this.reply run.0 run.1 spent) run.2)

abbrev pub Goes : Answered → Answered → Type 0
Goes a b = (n i j : ℕ) → IsSignedAt n i a → IsSignedAt n j b → i < j

pub indices_increase : (world : World) (answered : List Answered) (next : World) → Valid world.state → Run world answered next → AllPairs Goes answered
indices_increase world [] next valid run = λ i j d less within. absurd (omega (arith, within))
indices_increase world (this ∷ rest) next valid run =
    AllPairs-cons Goes this rest
    (λ k d within n i j of_this of_that.
    let less : i + 1 ≤ j = signed_above n (i + 1) run.0 rest next (spent_after n world this run.0 valid run.1 i of_this) run.2 k d within j of_that in
    omega (arith, less))
    (indices_increase run.0 rest next (step_valid world this.event this.reply run.0 valid run.1) run.2)

pub indices_start : (world : World) (answered : List Answered) (next : World) (state : State) (L : ℕ) (key : RegionKey) → Valid world.state → Run world answered next
    → world.state ≡ Some state → Contains (region_of state L).keys key
    → All (λ a. (i : ℕ) → IsSignedAt key.number i a → key.uses ≤ i) answered
indices_start world answered next state L key valid run is within =
    let here : IsValidState state = subst Valid is valid in
    let spent : IsSpent key.number key.uses state = key_spent_in state L key here within in
    signed_above key.number key.uses world answered next (subst (IsSpentIn key.number key.uses) (sym is) spent) run
