-- What can be stored has its records, and these have room.
use Rattle.std.proofs.Common.{sym, ◌≡◌, ◌≢◌, ◌≤◌, ℕ, ◌+◌, List, [], ◌∷◌, ◌++◌, inl, inr, length, map, Bool, true, false, refl, subst, arith, lit≤, length-append}
use Rattle.std.specs.Prelude.{◌==◌, nat_lt, All, if◌then◌else◌}
use Rattle.std.specs.List.{AllByRecursion}
use Rattle.std.proofs.lemmas.List.{length-map}
use Rattle.std.proofs.lemmas.List.Elements.{All-nil, All-cons, All-head, All-tail, recursion_from_All}
use Rattle.mb_format.specs.Combinators.{optional}
use Rattle.mb_format.proofs.Compositions.{all_items}
use Rattle.mb_model.specs.declared.layer.Layers.{Layers}
use Rattle.mb_model.specs.declared.layer.Pair.{Pair}
use Rattle.mb_model.specs.declared.order.Act.{Act}
use Rattle.mb_model.specs.declared.order.Act.TheVariants as act
use Rattle.mb_model.specs.declared.order.ChangeKind.{ChangeKind}
use Rattle.mb_model.specs.declared.order.ChangeKind.TheVariants.{Establish, Surrender, Load, Emergency}
use Rattle.mb_model.specs.declared.order.Order.{Order}
use Rattle.mb_model.specs.declared.entry.Entry.{Entry}
use Rattle.mb_model.specs.declared.entry.PublicEntry.{PublicEntry}
use Rattle.mb_model.specs.declared.entry.SignedEntry.{SignedEntry}
use Rattle.mb_model.specs.declared.region.Region.{Region}
use Rattle.mb_model.specs.declared.region.RegionKey.{RegionKey}
use Rattle.mb_model.specs.declared.region.Secret.{Secret}
use Rattle.mb_model.specs.declared.state.Codes.{Codes}
use Rattle.mb_model.specs.declared.state.State.{State}
use Rattle.mb_model.specs.declared.stored.Fate.{Fate}
use Rattle.mb_model.specs.declared.stored.Fate.TheVariants.{Keep, Empty, DropConfiguration, AddKey}
use Rattle.mb_model.specs.declared.stored.Public.{Public}
use Rattle.mb_model.specs.declared.stored.Root.{Root}
use Rattle.mb_model.specs.owners.Rules.{admits}
use Rattle.mb_model.specs.owners.Log.{entries_of, uses_of_device_key, keys_made_by}
use Rattle.mb_model.specs.signatures.Signing.{public_of}
use Rattle.mb_model.specs.records.EntryFormat.{entry_format, signed_entry_format}
use Rattle.mb_model.specs.records.RootFormat.{region_key_format, outgoing_format, fate_format, pending_format}
use Rattle.mb_model.specs.records.RootFormat.{root_format}
use Rattle.mb_model.specs.records.RegionFormat.{secret_format, secrets_format, keys_format, region_by, region_format, CanBeWritten}
use Rattle.mb_model.specs.records.OrderFormat.{order_format}
use Rattle.mb_model.specs.memories.PublicRecord.{codes_format, public_entry_format, public_format}
use Rattle.mb_model.specs.memories.WrittenImage.{FitsImage}
use Rattle.mb_model.specs.memories.OldFlash.{with_signature, without_signature, public_of_parts}
use Rattle.mb_model.specs.machine.OrderChecks.{needs_succession, Passes, view_of}
use Rattle.mb_model.specs.machine.OrderEffects.{entry_signed_by, log_with, cosigners_of, key_made, ready_for, state_after_order, succession_entry, entry_of, fact_of}
use Rattle.mb_model.specs.machine.Work.{pending_for}
use Rattle.mb_model_memory.specs.Commits.{new_entries}
use Rattle.mb_model_memory.proofs.Additions.{own_fate, gives_way, outgoing_with, outgoing_is, fate_is, new_entries_are}
use Rattle.mb_model.specs.machine.Fates.{change_fate}
use Rattle.mb_model.specs.memories.Clean.{root_of}
use Rattle.mb_model.specs.memories.Valid.{IsValidState}
use Rattle.mb_model.proofs.Passed.{passed}
use Rattle.mb_model.proofs.FormatBounds.{root_short, public_short}
use Rattle.mb_model.proofs.AllowedFields.{root_allowed_by}
use Rattle.mb_model_lemmas.proofs.LogLemmas.{used-bound}
use Rattle.mb_model_lemmas.proofs.Splits.{All-split}
use Rattle.mb_model_lemmas.proofs.OwnEntries.{appends_own}
use Rattle.mb_model_lemmas.proofs.ValidStates.{valid_is_ruled}
use Rattle.mb_model_lemmas.proofs.ValidLogs.{named_is_some}
use Rattle.mb_model_lemmas.proofs.ValidSteps.{obeyed_valid}
use Rattle.mb_model_lemmas.proofs.PublicLemmas.{entry_from_signed}
use Rattle.mb_model_lemmas.proofs.OldFlashLemmas.{codes_short}
use Rattle.mb_model_memory.specs.Commits.{root_for}
use Rattle.mb_model_memory.specs.Storable.{IsStorableRegion, IsStorableState}
use Rattle.mb_model_memory.proofs.StorableFormats.{keep_allowed, some_allowed, none_allowed, born_public_allowed, succession_allowed}
use Rattle.mb_model_memory.proofs.StorableOrders.{small_length, key_made_allowed, ready_by_storable, obeyed_storable}
use Rattle.mb_model_memory.proofs.FlashWrites.{one_or_two}

-- ---- the root

used_few : (state : State) → IsValidState state → uses_of_device_key (entries_of state.log) ≤ 31
used_few state valid = used-bound (entries_of state.log) (valid_is_ruled state valid)

uses_few : (state : State) → IsValidState state → state.uses ≤ 32
uses_few state valid = omega (arith, valid.uses, used_few state valid)

pub resting_root : (state : State) (area : ℕ) → area ≤ 1 → IsValidState state → IsStorableState state → root_format.Allowed (root_of state area)
resting_root state area small valid is = root_allowed_by (root_of state area) (record {
  area = small;
  serial = is.serial;
  device = is.device;
  uses = uses_few state valid;
  pending = none_allowed pending_format;
})

-- ---- the pending work

empty_allowed : fate_format.Allowed Empty
unfolding fate_format
empty_allowed = (tt, refl)

drop_allowed : fate_format.Allowed DropConfiguration
unfolding fate_format
drop_allowed = (tt, refl)

add_allowed : (key : RegionKey) → region_key_format.Allowed key → fate_format.Allowed (AddKey key)
unfolding fate_format
add_allowed key is = (tt, is)

either_fate : (b : Bool) (one other : Fate) → fate_format.Allowed one → fate_format.Allowed other → fate_format.Allowed (if b then one else other)
either_fate true one other first second = first
either_fate false one other first second = second

change_fate_allowed : (layers : Layers) (kind : ChangeKind) (k : ℕ) (cosigned : Pair) (L : ℕ) → fate_format.Allowed (change_fate layers kind k cosigned L)
change_fate_allowed layers kind k cosigned L =
    either_fate (nat_lt L k) Keep _ keep_allowed (either_fate (admits layers kind k cosigned L) DropConfiguration Empty drop_allowed empty_allowed)

own_fate_allowed : (ready : State) (order : Order) (a : Act) (draw : List ℕ) (m : ℕ) → IsStorableState ready → fate_format.Allowed (own_fate ready order a draw m)
own_fate_allowed ready order (act.Establish owner trust) draw m is = change_fate_allowed ready.layers Establish order.layer (cosigners_of order) m
own_fate_allowed ready order act.Surrender draw m is = change_fate_allowed ready.layers Surrender order.layer (cosigners_of order) m
own_fate_allowed ready order (act.Load payload) draw m is = change_fate_allowed ready.layers Load order.layer (cosigners_of order) m
own_fate_allowed ready order (act.Emergency payload) draw m is = change_fate_allowed ready.layers Emergency order.layer (cosigners_of order) m
own_fate_allowed ready order (act.NewKey kind) draw m is =
    either_fate (m == order.layer) (AddKey (key_made (view_of ready) kind draw)) Keep (add_allowed (key_made (view_of ready) kind draw) (key_made_allowed ready kind draw is)) keep_allowed

outgoing_allowed : (next : Bool) (state : State) → IsValidState state → IsStorableState state → (optional outgoing_format).Allowed (outgoing_with next state)
unfolding outgoing_format
outgoing_allowed true state valid is = (tt, (is.device, (omega arith, omega (arith, used_few state valid))))
outgoing_allowed false state valid is = (tt, refl)

ready_storable : (state : State) (order : Order) (draw : List ℕ) → IsStorableState state → Passes (view_of state) order → IsStorableState (ready_for state order draw)
ready_storable state order draw is passes = ready_by_storable state draw (needs_succession (view_of state) order) is (passed passes).log

pending_allowed : (state : State) (order : Order) (draw : List ℕ) → IsValidState state → IsStorableState state → Passes (view_of state) order → pending_format.Allowed (pending_for state order draw)
unfolding pending_format pending_for
pending_allowed state order draw valid is passes =
    let ready = ready_storable state order draw is passes in (
      one_or_two (needs_succession (view_of state) order),
      (
        subst (λ o. (optional outgoing_format).Allowed o) (sym (outgoing_is state order draw)) (outgoing_allowed (gives_way state order) state valid is),
        (subst fate_format.Allowed (sym (fate_is state order draw 2)) (own_fate_allowed (ready_for state order draw) order order.act draw 2 ready), subst fate_format.Allowed (sym (fate_is state order draw 3)) (own_fate_allowed (ready_for state order draw) order order.act draw 3 ready)),
      ),
    )

pub committed_root : (state : State) (order : Order) (draw : List ℕ) (area : ℕ) → area ≤ 1 → IsValidState state → IsStorableState state → order_format.Allowed order → Passes (view_of state) order
    → root_format.Allowed (root_for state order draw area)
unfolding root_for
committed_root state order draw area small valid is allowed passes =
    let after : IsStorableState (state_after_order state order draw) = obeyed_storable state order draw allowed passes is in
    root_allowed_by (root_for state order draw area) (record {
      area = small;
      serial = is.serial;
      device = after.device;
      uses = uses_few (state_after_order state order draw) (obeyed_valid state order draw valid allowed passes);
      pending = some_allowed pending_format (pending_for state order draw) (pending_allowed state order draw valid is passes);
    })

pub root_room : (root : Root) → root_format.Allowed root → length (root_format.spelling root) ≤ 4094
root_room root is = omega (arith, root_short.short root is)

-- ---- the public record

public_from_signed : (signed : SignedEntry) → signed_entry_format.Allowed signed → public_entry_format.Allowed (with_signature signed)
unfolding public_entry_format signed_entry_format
public_from_signed signed is = (is.0, (tt, is.1))

public_from_entry : (entry : Entry) → entry_format.Allowed entry → public_entry_format.Allowed (without_signature entry)
unfolding public_entry_format
public_from_entry entry is = (is, (tt, refl))

all_without : (unsigned : List Entry) → All entry_format.Allowed unsigned → AllByRecursion public_entry_format.Allowed (map without_signature unsigned)
all_without [] are = tt
all_without (entry ∷ rest) are = (public_from_entry entry (All-head entry_format.Allowed entry rest are), all_without rest (All-tail entry_format.Allowed entry rest are))

all_with : (signed : List SignedEntry) (more : List PublicEntry) → All signed_entry_format.Allowed signed → AllByRecursion public_entry_format.Allowed more
    → AllByRecursion public_entry_format.Allowed (map with_signature signed ++ more)
all_with [] more are rest = rest
all_with (signed ∷ others) more are rest =
    (public_from_signed signed (All-head signed_entry_format.Allowed signed others are), all_with others more (All-tail signed_entry_format.Allowed signed others are) rest)

public_allowed : (codes : Codes) (signed : List SignedEntry) (unsigned : List Entry) → codes_format.Allowed codes → All signed_entry_format.Allowed signed → All entry_format.Allowed unsigned
    → 1 ≤ length signed + length unsigned → length signed + length unsigned ≤ 128 → public_format.Allowed (public_of_parts codes signed unsigned)
unfolding public_format
public_allowed codes signed unsigned is are others some few =
    let entries : List PublicEntry = map with_signature signed ++ map without_signature unsigned in
    let size : length entries ≡ length signed + length unsigned =
    omega (arith, length-append (map with_signature signed) (map without_signature unsigned), length-map signed with_signature, length-map unsigned without_signature)
    in
    let all : AllByRecursion public_entry_format.Allowed entries = all_with signed (map without_signature unsigned) are (all_without unsigned others) in
    (tt, (is, ((omega (arith, some, size), omega (arith, few, size)), all_items public_entry_format (length entries) entries refl all)))

not_empty : (log : List SignedEntry) → length (entries_of log) ≢ 0 → 1 ≤ length log
not_empty [] some = absurd (some refl)
not_empty (signed ∷ rest) some = omega arith

pub resting_public : (state : State) → IsValidState state → IsStorableState state → public_format.Allowed (public_of_parts state.codes state.log [])
resting_public state valid is =
    let some : 1 ≤ length state.log = not_empty state.log (named_is_some (entries_of state.log) (public_of state.device) valid.device) in
    public_allowed state.codes state.log [] is.codes is.log (All-nil entry_format.Allowed) (omega (arith, some)) (omega (arith, is.few))

own_allowed : (state : State) (order : Order) (draw : List ℕ) → order_format.Allowed order → Passes (view_of state) order → IsStorableState state
    → entry_format.Allowed (entry_of (view_of (ready_for state order draw)) (fact_of (ready_for state order draw).layers order order.act) draw)
unfolding entry_signed_by
own_allowed state order draw allowed passes is =
    let ready : State = ready_for state order draw in
    let own : Entry = entry_of (view_of ready) (fact_of ready.layers order order.act) draw in
    let are : All signed_entry_format.Allowed (log_with ready own) = subst (All signed_entry_format.Allowed) (appends_own state order draw) (obeyed_storable state order draw allowed passes is).log in
    entry_from_signed (entry_signed_by ready.device (uses_of_device_key (entries_of ready.log)) own) (All-split signed_entry_format.Allowed ready.log (entry_signed_by ready.device (uses_of_device_key (entries_of ready.log)) own) [] are)

new_allowed : (needed : Bool) (first own : Entry) → entry_format.Allowed first → entry_format.Allowed own → All entry_format.Allowed (if needed then first ∷ own ∷ [] else own ∷ [])
new_allowed true first own is is_own =
    All-cons entry_format.Allowed first (own ∷ []) is (All-cons entry_format.Allowed own [] is_own (All-nil entry_format.Allowed))
new_allowed false first own is is_own = All-cons entry_format.Allowed own [] is_own (All-nil entry_format.Allowed)

new_few : (log : List SignedEntry) (needed : Bool) (first own : Entry) → length log + (if needed then 2 else 1) ≤ 128
    → (1 ≤ length log + length (if needed then first ∷ own ∷ [] else own ∷ [])) × (length log + length (if needed then first ∷ own ∷ [] else own ∷ []) ≤ 128)
new_few log true first own room = (omega arith, omega (arith, room))
new_few log false first own room = (omega arith, omega (arith, room))

pub committed_public : (state : State) (order : Order) (draw : List ℕ) → IsStorableState state → order_format.Allowed order → Passes (view_of state) order
    → public_format.Allowed (public_of_parts (state_after_order state order draw).codes state.log (new_entries state order draw))
committed_public state order draw is allowed passes =
    let needed : Bool = needs_succession (view_of state) order in
    let first : Entry = succession_entry (view_of state) draw in
    let own : Entry = entry_of (view_of (ready_for state order draw)) (fact_of (ready_for state order draw).layers order order.act) draw in
    let first_is : entry_format.Allowed first = succession_allowed (length state.log) _ (small_length state is) (born_public_allowed draw state.serial (keys_made_by (entries_of state.log))) in
    let are : All entry_format.Allowed (if needed then first ∷ own ∷ [] else own ∷ []) = new_allowed needed first own first_is (own_allowed state order draw allowed passes is) in
    let few = new_few state.log needed first own (passed passes).log in
    subst (λ (es : List Entry). public_format.Allowed (public_of_parts (state_after_order state order draw).codes state.log es)) (sym (new_entries_are state order draw))
    (public_allowed (state_after_order state order draw).codes state.log (if needed then first ∷ own ∷ [] else own ∷ []) (obeyed_storable state order draw allowed passes is).codes is.log are few.0 few.1)

pub public_room : (public : Public) → public_format.Allowed public → length (public_format.spelling public) ≤ 470000
public_room public is = omega (arith, public_short.short public is)

-- ---- regions

secrets_allowed : (most : ℕ) (secrets : List Secret) → All secret_format.Allowed secrets → length secrets ≤ most → (secrets_format most).Allowed secrets
unfolding secrets_format
secrets_allowed most secrets are few = ((omega arith, few), all_items secret_format (length secrets) secrets refl (recursion_from_All secret_format.Allowed secrets are))

keys_allowed : (least : ℕ) (keys : List RegionKey) → All region_key_format.Allowed keys → least ≤ length keys → length keys ≤ 8 → (keys_format least).Allowed keys
unfolding keys_format
keys_allowed least keys are some few = ((some, few), all_items region_key_format (length keys) keys refl (recursion_from_All region_key_format.Allowed keys are))

abbrev region_with : List Secret → List RegionKey → Region
region_with secrets keys = record { secrets = secrets; keys = keys }

written_by : (secrets : List Secret) (keys : List RegionKey) → IsStorableRegion (region_with secrets keys) → CanBeWritten (region_with secrets keys)
unfolding region_format region_by
written_by [] [] is = inl refl
written_by [] (key ∷ keys) is = inr ((lit≤ tt, lit≤ tt), (secrets_allowed 22 [] is.secrets is.few_secrets, keys_allowed 1 (key ∷ keys) is.keys (omega arith) is.few_keys))
written_by (secret ∷ secrets) keys is =
    inr ((lit≤ tt, lit≤ tt), (secrets_allowed 22 (secret ∷ secrets) is.secrets is.few_secrets, keys_allowed 0 keys is.keys (omega arith) is.few_keys))

pub region_written : (region : Region) → IsStorableRegion region → CanBeWritten region
region_written region is = written_by region.secrets region.keys is

-- ---- images

pub image_fits : (state : State) → IsValidState state → IsStorableState state → FitsImage state
image_fits state valid is = record {
  codes = codes_short state.codes is.codes;
  log = record {
    some = not_empty state.log (named_is_some (entries_of state.log) (public_of state.device) valid.device);
    few = is.few;
    allowed = is.log;
  };
  root = resting_root state 0 (lit≤ tt) valid is;
  two = region_written state.two is.two;
  three = region_written state.three is.three;
}
