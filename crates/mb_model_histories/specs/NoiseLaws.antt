-- Laws of the noise that orders are given. Of what does a draw decide: of keys alone, and of what they sign?
use Rattle.std.specs.Prelude.{◌≡◌, ◌-◌, ◌<◌, ◌≤◌, ◌⊎◌, ℕ, Bool, true, false, ◌||◌, List, [], length, take, map, All}
use Rattle.std.specs.Prelude.{Contains, Some, option_map}
use Rattle.std.specs.Int.{w32}
use Rattle.mb_format.specs.Combinators.{limit}
use Rattle.mb_format.specs.Format.{Spells}
use Rattle.mb_model.specs.declared.entry.Entry.{Entry}
use Rattle.mb_model.specs.declared.entry.Entry.TheVariants.{Birth, Change, NewKey, Succession}
use Rattle.mb_model.specs.declared.entry.SignedEntry.{SignedEntry}
use Rattle.mb_model.specs.declared.event.Answered.{Answered}
use Rattle.mb_model.specs.declared.event.Event.{Event}
use Rattle.mb_model.specs.declared.event.Event.TheVariants as event
use Rattle.mb_model.specs.declared.key.Chains.TheVariants.{W4}
use Rattle.mb_model.specs.declared.key.KeySeed.{KeySeed}
use Rattle.mb_model.specs.declared.key.PublicKey.{PublicKey}
use Rattle.mb_model.specs.declared.key.Tree.TheVariants.{H5}
use Rattle.mb_model.specs.declared.limits.TheConstants.{SIGNATURE_LENGTH}
use Rattle.mb_model.specs.declared.order.Act.{Act}
use Rattle.mb_model.specs.declared.order.Act.TheVariants as act
use Rattle.mb_model.specs.declared.order.Order.{Order}
use Rattle.mb_model.specs.declared.region.Region.{Region}
use Rattle.mb_model.specs.declared.region.RegionKey.{RegionKey}
use Rattle.mb_model.specs.declared.reply.Reply.{Reply}
use Rattle.mb_model.specs.declared.reply.Reply.TheVariants as reply
use Rattle.mb_model.specs.declared.state.State.{State}
use Rattle.mb_model.specs.declared.state.View.{View}
use Rattle.mb_model.specs.owners.Log.{entries_of, keys_made_by}
use Rattle.mb_model.specs.machine.Machine.{World, Run}
use Rattle.mb_model.specs.machine.OrderChecks.{view_of, change_by, needs_succession}
use Rattle.mb_model.specs.machine.OrderEffects.{state_after_order}
use Rattle.mb_model.specs.records.OrderFormat.{order_format}
use Rattle.mb_model.specs.machine.OrderStep.{OrderStep}
use Rattle.mb_model.specs.owners.Rules.{renews}
use Rattle.mb_model_lemmas.specs.RefusalLaws.{BringsBytes}
use Rattle.mb_model_histories.specs.Histories.{ComesAfter}
use Rattle.mb_model_histories.specs.KeyLaws.{Collide, device_key_text}
use Rattle.mb_model_histories.specs.PowerLaws.{HasOwnAnswer}
use Rattle.mb_model_histories.specs.SightLaws.{with_changed_state}

-- ---- all but keys, and what keys sign

-- what stands in place of each key
abbrev pub no_key : KeySeed
no_key = record { identifier = []; seed = [] }

-- what stands in place of each public key that an entry names
abbrev pub no_public_key : PublicKey
no_public_key = record { tree = H5; chains = W4; identifier = []; root = [] }

-- the entry, without the key that it names
abbrev pub keyless_entry : Entry → Entry
keyless_entry (Birth version serial key layers) = Birth version serial no_public_key layers
keyless_entry (Change version position number kind layer cosigned layers kept next) =
    Change version position number kind layer cosigned layers kept (option_map (λ key. no_public_key) next)
keyless_entry (NewKey position number key_number layer kind key) =
    NewKey position number key_number layer kind no_public_key
keyless_entry (Succession position key) = Succession position no_public_key

-- the entry without its key, and of its signature the index, which is the first four bytes
abbrev pub keyless_signed : SignedEntry → SignedEntry
keyless_signed signed = record { entry = keyless_entry signed.entry; signature = take 4 signed.signature }

-- the number, kind and uses of a region's key, without the key
abbrev pub keyless_key : RegionKey → RegionKey
keyless_key key = record key { seed = no_key }

abbrev pub keyless_region : Region → Region
keyless_region region = record region { keys = map keyless_key region.keys }

-- All of a state but its keys and what they sign: the serial, the layers, the codes and the secrets stay, and of each
-- key its number, kind and uses. Of each entry all stays but the key that it names, and of its signature the index.
-- Keys of regions are not compared here, and that they stay is a law of its own (`OldKeysStay`): a device key has no
-- number in a state, and an old key signs other bytes if the entry names another new key.
abbrev pub keyless_state : State → State
keyless_state state = record state {
  log = map keyless_signed state.log;
  device = no_key;
  two = keyless_region state.two;
  three = keyless_region state.three;
}

abbrev pub keyless_world : World → World
keyless_world world = with_changed_state keyless_state world

-- the reply; of a statement, which ends with its signature, all that stands before it
abbrev pub keyless_reply : Reply → Reply
keyless_reply (reply.Signed key index statement) =
    reply.Signed key index (take (length statement - SIGNATURE_LENGTH) statement)
keyless_reply other = other

-- the event without its draw
abbrev pub undrawn_event : Event → Event
undrawn_event (event.Order text draw) = event.Order text []
undrawn_event other = other

-- ---- what a draw decides

-- To each run from a world, and each list of events that differ from the run's in their draws alone, there is a run of
-- these events whose replies are the same but for the signatures of statements, and which leads to a world that is the
-- same but for keys and what they sign. The worlds before the two may differ in this way too. It speaks of power losses
-- and want of memory too, where two runs need not have the same answers; that two runs have such ends is a clause of
-- its own.
abbrev pub NoiseMattersToKeysAlone : Type 0
NoiseMattersToKeysAlone =
    (world other next : World) (answered : List Answered) (events : List Event)
    → keyless_world world ≡ keyless_world other
    → map (λ this. undrawn_event this.event) answered ≡ map undrawn_event events → Run world answered next
    → (told : List Answered) × (other_next : World) × (map (λ this. this.event) told ≡ events)
    × Run other told other_next
    × (map (λ this. keyless_reply this.reply) answered ≡ map (λ this. keyless_reply this.reply) told)
    × (keyless_world next ≡ keyless_world other_next)

-- Two runs of events that differ in draws alone have the same replies but for the signatures of statements, and lead to
-- worlds that are the same but for keys and what they sign, as long as memory is found and power holds. Orders come in
-- bytes.
abbrev pub DrawsChangeSignaturesAlone : Type 0
DrawsChangeSignaturesAlone =
    (world other end other_end : World) (answered told : List Answered) → keyless_world world ≡ keyless_world other
    → map (λ this. undrawn_event this.event) answered ≡ map (λ this. undrawn_event this.event) told
    → All (λ this. BringsBytes this.event) told → All HasOwnAnswer answered → All HasOwnAnswer told
    → Run world answered end → Run other told other_end
    → (map (λ this. keyless_reply this.reply) answered ≡ map (λ this. keyless_reply this.reply) told)
    × (keyless_world end ≡ keyless_world other_end)

-- ---- orders that make no key

abbrev pub is_new_key : Act → Bool
is_new_key (act.NewKey key_kind) = true
is_new_key _ = false

-- the order makes a key: one of a region, or the next device key, by itself or by a succession before it
abbrev pub makes_key : View → Order → Bool
makes_key view order = is_new_key order.act || renews (change_by order) order.layer || needs_succession view order

-- An order that makes no key has the same answer and leads to the same state, whatever its draw.
abbrev pub DrawsMatterToNewKeysAlone : Type 0
DrawsMatterToNewKeysAlone =
    (state next : State) (text draw other : List ℕ) (answer : Reply)
    → ((order : Order) → Spells order_format text order → makes_key (view_of state) order ≡ false)
    → OrderStep state text draw answer next → OrderStep state text other answer next

-- Of an order that makes a key that does not hold: by two draws an ordinary load of layer 1 leads to two states, unless
-- the two texts that are hashed for the next device key have one hash.
abbrev pub DrawsMakeTheDeviceKey : Type 0
DrawsMakeTheDeviceKey =
    (state : State) (order : Order) (draw other : List ℕ) → renews (change_by order) order.layer ≡ true
    → let made : ℕ = keys_made_by (entries_of state.log) in
    made < limit w32 → state_after_order state order draw ≡ state_after_order state order other
    → (draw ≡ other) ⊎ Collide (device_key_text draw state.serial made) (device_key_text other state.serial made)

-- ---- keys of before

-- the key was among these, with the same number, kind and seed, and some count of uses
abbrev pub WasThere : List RegionKey → RegionKey → Type 0
WasThere keys key = (uses : ℕ) × Contains keys (record key { uses = uses })

-- Each key of the later region was in the sooner one, or its number is not below this count of keys.
abbrev pub KeepsOldKeys : ℕ → Region → Region → Type 0
KeepsOldKeys made sooner later = All (λ key. WasThere sooner.keys key ⊎ (made ≤ key.number)) later.keys

-- No draw changes a key that was made before: in a history, each key of a region is one that was there sooner, with the
-- same seed, or its number is not below the count of the keys that were made by then.
abbrev pub OldKeysStay : Type 0
OldKeysStay =
    (first last : World) (sooner later : State) → ComesAfter last first → first.state ≡ Some sooner
    → last.state ≡ Some later
    → KeepsOldKeys (keys_made_by (entries_of sooner.log)) sooner.two later.two
    × KeepsOldKeys (keys_made_by (entries_of sooner.log)) sooner.three later.three
