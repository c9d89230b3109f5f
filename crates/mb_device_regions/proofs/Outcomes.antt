-- What the events of a layer come to in a memory.
use Rattle.std.proofs.Common.{◌≡◌, ◌<◌, ℕ, ◌⊎◌, List, Bool, true, false, Err, refl, sym, ap, subst, ◌∙◌}
use Rattle.std.specs.Prelude.{find, if◌then◌else◌}
use Rattle.std.specs.List.{list_any}
use Rattle.mb_model.specs.declared.region.Region.{Region}
use Rattle.mb_model.specs.declared.region.Secret.{Secret}
use Rattle.mb_model.specs.declared.reply.Reply.{Reply}
use Rattle.mb_model.specs.declared.reply.Reply.TheVariants as reply
use Rattle.mb_model.specs.declared.state.State.{State}
use Rattle.mb_model.specs.outside.Board.{Memory}
use Rattle.mb_model.specs.owners.Layers.{Runnable}
use Rattle.mb_model.specs.machine.LayerEvents.{Outcome, has_name, value_reply, put_event, get_event, drop_event, is_full_for}
use Rattle.mb_model.specs.owners.Log.{entries_of, number_of}
use Rattle.mb_model.specs.owners.Regions.{region_of, with_region}
use Rattle.mb_model.specs.declared.reply.Refusal.TheVariants.{RegionFull}
use Rattle.mb_model.specs.machine.Refusals.{refusal_reply}
use Rattle.mb_model.specs.records.RegionFormat.{secret_format, CanBeWritten}
use Rattle.mb_model.specs.chains.Script.{IsName, FitsMessage}
use Rattle.mb_model.specs.memories.Valid.{IsValidState}
use Rattle.mb_model_lemmas.proofs.ValidStates.{valid_is_ruled, region_is_valid, valid_with}
use Rattle.mb_model_lemmas.proofs.ValidRegions.{valid_over_put, valid_over_drop}
use Rattle.mb_model_lemmas.specs.RegionLaws.{without_secret}
use Rattle.mb_model_memory.specs.Holding.{Means, IsReady}
use Rattle.mb_model_memory.specs.Answering.{IsAnswered, tells, IsCutShort}
use Rattle.mb_model_memory.proofs.StorableFormats.{secret_allowed}
use Rattle.mb_model_memory.proofs.StorableRecords.{region_written}
use Rattle.mb_model_memory.proofs.StorableSteps.{named, put_region, drop_region}
use Rattle.mb_format.specs.Combinators.{limit}
use Rattle.std.specs.Int.{w32}
use Rattle.mb_device_regions.specs.declared.end.NotPut.{NotPut}
use Rattle.mb_device_regions.specs.declared.end.NotPut.TheVariants.{Full, NoMemory}
use Rattle.mb_device_regions.specs.Secrets.{IsKeptRegion, region_with_secret, IsPut, IsDropped, PutOf, PutsInto, secret_of, IsSecretOf}

-- an answer is to the outcome that an event has
pub answered_as : {outcome known : Outcome} {answer : Reply} {before after : Memory} → outcome ≡ known → IsAnswered known answer before after → IsAnswered outcome answer before after
answered_as {outcome} {known} {answer} {before} {after} same is = subst (λ (o : Outcome). IsAnswered o answer before after) (sym same) is

pub cut_as : {state : State} {outcome known : Outcome} {after : Memory} → outcome ≡ known → IsCutShort state known after → IsCutShort state outcome after
cut_as {state} {outcome} {known} {after} same is = subst (λ (o : Outcome). IsCutShort state o after) (sym same) is

-- ---- a region that has a record

pub put_record : (secret : Secret) (old new : Region) → secret_format.Allowed secret → IsKeptRegion old → IsPut old secret new → CanBeWritten new
put_record secret old new allowed kept is = subst CanBeWritten (sym is.is) (region_written (region_with_secret secret old) (put_region secret old allowed kept.storable is.room))

pub drop_record : (name : List ℕ) (old new : Region) → IsKeptRegion old → IsDropped old name new → CanBeWritten new
drop_record name old new kept is = subst CanBeWritten (sym is.is) (region_written (without_secret name old) (drop_region name old kept.storable))

-- ---- what the stored region comes to

pub full_for : (end : NotPut) (old known new : Region) (secret : Secret) → old ≡ known → PutOf old secret (Err end) new → PutsInto known secret (Err end)
full_for Full old known new secret same is = subst (λ (r : Region). is_full_for secret.name r ≡ true) same is
full_for NoMemory old known new secret same is = tt

secret_copied : {name read_name value read_value from_name from_value : List ℕ} (number : ℕ) → read_name ≡ from_name → from_name ≡ name → read_value ≡ from_value → from_value ≡ value
    → secret_of read_name read_value number ≡ secret_of name value number
secret_copied {name} {read_name} {value} {read_value} number read_first first read_second second =
    ap (λ (n : List ℕ). secret_of n read_value number) (read_first ∙ first) ∙ ap (λ (v : List ℕ). secret_of name v number) (read_second ∙ second)

-- the secret of what was copied
pub secret_is : {name read_name value read_value from_name from_value : List ℕ} (number : ℕ) → IsName name → FitsMessage value → number < limit w32 → read_name ≡ from_name → from_name ≡ name → read_value ≡ from_value → from_value ≡ value
    → IsSecretOf name value number (secret_of read_name read_value number)
secret_is {name} {read_name} {value} {read_value} number is_name fits small read_first first read_second second =
    let is : secret_of read_name read_value number ≡ secret_of name value number = secret_copied number read_first first read_second second in
    record { is = is; allowed = subst secret_format.Allowed (sym is) (secret_allowed (secret_of name value number) is_name.some is_name.most (named name is_name) fits small) }

pub dropped_as : (old new : Region) (read name : List ℕ) → read ≡ name → IsDropped old read new → IsDropped old name new
dropped_as old new read name same is = subst (λ (n : List ℕ). IsDropped old n new) same is

-- ---- a put

put_full : (L : ℕ) (name value : List ℕ) (state : State) → is_full_for name (region_of state L) ≡ true → put_event L name value state ≡ (refusal_reply RegionFull, state)
unfolding put_event
put_full L name value state full =
    ap (λ (b : Bool). let o : Outcome = if b then (refusal_reply RegionFull, state) else (reply.Kept, with_region state L (region_with_secret (secret_of name value (number_of (entries_of state.log))) (region_of state L))) in o) full

put_kept : (L : ℕ) (name value : List ℕ) (state : State) → is_full_for name (region_of state L) ≡ false
    → put_event L name value state ≡ (reply.Kept, with_region state L (region_with_secret (secret_of name value (number_of (entries_of state.log))) (region_of state L)))
unfolding put_event
put_kept L name value state room =
    ap (λ (b : Bool). let o : Outcome = if b then (refusal_reply RegionFull, state) else (reply.Kept, with_region state L (region_with_secret (secret_of name value (number_of (entries_of state.log))) (region_of state L))) in o) room

put_outcome : (L : ℕ) (name value : List ℕ) (number : ℕ) (state : State) (new : Region) → IsPut (region_of state L) (secret_of name value number) new → number ≡ number_of (entries_of state.log)
    → put_event L name value state ≡ (reply.Kept, with_region state L new)
put_outcome L name value number state new is same =
    let next : Region → Outcome = λ (r : Region). (reply.Kept, with_region state L r) in
    put_kept L name value state is.room
    ∙ ap (λ (n : ℕ). next (region_with_secret (secret_of name value n) (region_of state L))) (sym same) ∙ ap next (sym is.is)

put_valid : (L : ℕ) (name value : List ℕ) (number : ℕ) (state : State) (new : Region) → IsPut (region_of state L) (secret_of name value number) new → number ≡ number_of (entries_of state.log)
    → Runnable state.layers L → IsValidState state → IsValidState (with_region state L new)
put_valid L name value number state new is same runs valid =
    let now : Region = region_with_secret (secret_of name value (number_of (entries_of state.log))) (region_of state L) in
    let next : IsValidState (with_region state L now) =
    valid_with state L now valid (λ upper. valid_over_put (entries_of state.log) state.layers L name value (region_of state L) (valid_is_ruled state valid) upper runs (region_is_valid state L upper valid)) in
    subst (λ (r : Region). IsValidState (with_region state L r)) (ap (λ (n : ℕ). region_with_secret (secret_of name value n) (region_of state L)) (sym same) ∙ sym is.is) next

pub put_refused : (L : ℕ) (name value : List ℕ) (state : State) (answer : Reply) (memory : Memory) → answer ≡ refusal_reply RegionFull → is_full_for name (region_of state L) ≡ true → IsReady memory state
    → IsAnswered (put_event L name value state) answer memory memory
put_refused L name value state answer memory told full ready = answered_as (put_full L name value state full) (tells told ready)

pub put_told : (L : ℕ) (name value : List ℕ) (number : ℕ) (state : State) (new : Region) (before after : Memory) → IsPut (region_of state L) (secret_of name value number) new → number ≡ number_of (entries_of state.log)
    → Runnable state.layers L → IsReady before state → (IsValidState (with_region state L new) → IsReady after (with_region state L new))
    → IsAnswered (put_event L name value state) reply.Kept before after
put_told L name value number state new before after is same runs ready done =
    answered_as (put_outcome L name value number state new is same) (tells refl (done (put_valid L name value number state new is same runs ready.valid)))

pub put_cut : (L : ℕ) (name value : List ℕ) (number : ℕ) (state : State) (new : Region) (after : Memory) → IsPut (region_of state L) (secret_of name value number) new → number ≡ number_of (entries_of state.log)
    → Means after state ⊎ Means after (with_region state L new) → IsCutShort state (put_event L name value state) after
put_cut L name value number state new after is same either = cut_as (put_outcome L name value number state new is same) (record { writes = refl; counts = either })

-- ---- a get

pub get_told : (L : ℕ) (read name : List ℕ) (state : State) (old : Region) (answer : Reply) (memory : Memory) → read ≡ name → old ≡ region_of state L → answer ≡ value_reply (find (has_name read) old.secrets) → IsReady memory state
    → IsAnswered (get_event L name state) answer memory memory
unfolding get_event
get_told L read name state old answer memory named same is ready =
    tells (is ∙ ap (λ (n : List ℕ). value_reply (find (has_name n) old.secrets)) named ∙ ap (λ (r : Region). value_reply (find (has_name name) r.secrets)) same) ready

-- ---- a drop

drop_none : (L : ℕ) (name : List ℕ) (state : State) → list_any (has_name name) (region_of state L).secrets ≡ false → drop_event L name state ≡ (reply.Absent, state)
unfolding drop_event
drop_none L name state none =
    ap (λ (b : Bool). let o : Outcome = if b then (reply.Dropped, with_region state L (without_secret name (region_of state L))) else (reply.Absent, state) in o) none

drop_outcome : (L : ℕ) (name : List ℕ) (state : State) (new : Region) → IsDropped (region_of state L) name new → drop_event L name state ≡ (reply.Dropped, with_region state L new)
unfolding drop_event
drop_outcome L name state new is =
    ap (λ (b : Bool). let o : Outcome = if b then (reply.Dropped, with_region state L (without_secret name (region_of state L))) else (reply.Absent, state) in o) is.there
    ∙ ap (λ (r : Region). let o : Outcome = (reply.Dropped, with_region state L r) in o) (sym is.is)

drop_valid : (L : ℕ) (name : List ℕ) (state : State) (new : Region) → IsDropped (region_of state L) name new → Runnable state.layers L → IsValidState state → IsValidState (with_region state L new)
drop_valid L name state new is runs valid =
    let next : IsValidState (with_region state L (without_secret name (region_of state L))) =
    valid_with state L (without_secret name (region_of state L)) valid (λ upper. valid_over_drop (entries_of state.log) state.layers L name (region_of state L) upper runs (region_is_valid state L upper valid)) in
    subst (λ (r : Region). IsValidState (with_region state L r)) (sym is.is) next

pub drop_absent : (L : ℕ) (name : List ℕ) (state : State) (memory : Memory) → list_any (has_name name) (region_of state L).secrets ≡ false → IsReady memory state
    → IsAnswered (drop_event L name state) reply.Absent memory memory
drop_absent L name state memory none ready = answered_as (drop_none L name state none) (tells refl ready)

pub drop_told : (L : ℕ) (name : List ℕ) (state : State) (new : Region) (before after : Memory) → IsDropped (region_of state L) name new → Runnable state.layers L → IsReady before state
    → (IsValidState (with_region state L new) → IsReady after (with_region state L new)) → IsAnswered (drop_event L name state) reply.Dropped before after
drop_told L name state new before after is runs ready done = answered_as (drop_outcome L name state new is) (tells refl (done (drop_valid L name state new is runs ready.valid)))

pub drop_cut : (L : ℕ) (name : List ℕ) (state : State) (new : Region) (after : Memory) → IsDropped (region_of state L) name new
    → Means after state ⊎ Means after (with_region state L new) → IsCutShort state (drop_event L name state) after
drop_cut L name state new after is either = cut_as (drop_outcome L name state new is) (record { writes = refl; counts = either })
