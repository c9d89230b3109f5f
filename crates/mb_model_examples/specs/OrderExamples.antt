-- Orders on a small device; the checker computes each line. For which check is an order refused, and what does one that
-- passes do?
use Rattle.std.specs.Prelude.{◌≡◌, ℕ, zero, suc, ◌+◌, true, false, List, [], ◌∷◌, ◌++◌, length, replicate, codes}
use Rattle.std.specs.Prelude.{None, Some}
use Rattle.mb_format.specs.Format.{Spells}
use Rattle.mb_model.specs.declared.key.Trust.TheVariants.{Always, Never}
use Rattle.mb_model.specs.declared.layer.Layers.{Layers}
use Rattle.mb_model.specs.declared.layer.Pair.{Pair}
use Rattle.mb_model.specs.declared.region.Region.{Region}
use Rattle.mb_model.specs.declared.region.RegionKey.{RegionKey}
use Rattle.mb_model.specs.declared.order.Order.{Order}
use Rattle.mb_model.specs.declared.order.Act.{Act}
use Rattle.mb_model.specs.declared.order.Act.TheVariants as act
use Rattle.mb_model.specs.declared.order.ChangeKind.TheVariants as changes
use Rattle.mb_model.specs.declared.order.KeyKind.TheVariants as kinds
use Rattle.mb_model.specs.declared.order.Target.TheVariants as target
use Rattle.mb_model.specs.declared.order.Countersignature.{Countersignature}
use Rattle.mb_model.specs.declared.entry.Entry.{Entry}
use Rattle.mb_model.specs.declared.entry.Entry.TheVariants.{Birth, Change}
use Rattle.mb_model.specs.declared.reply.Reply.TheVariants as reply
use Rattle.mb_model.specs.declared.state.State.{State}
use Rattle.mb_model.specs.owners.Layers.{equal_trusts, layer_without_owner}
use Rattle.mb_model.specs.declared.reply.OrderRefusal.TheVariants.{WrongTarget, WrongCountersignature}
use Rattle.mb_model.specs.declared.reply.OrderRefusal.TheVariants.{LogFull, KeysFull}
use Rattle.mb_model.specs.owners.Regions.{empty_region}
use Rattle.mb_model.specs.records.OrderFormat.{order_format}
use Rattle.mb_model.specs.machine.OrderChecks.{view_of, IsSigned, IsCountersigned, Fails, Passes}
use Rattle.mb_model.specs.machine.OrderStep.{OrderStep}
use Rattle.mb_model.specs.machine.OrderChecks.{needs_succession, entries_needed}
use Rattle.mb_model.specs.machine.OrderEffects.{next_key, state_after_order}
use Rattle.mb_model_examples.specs.RuleExamples.{officer, bare, running, nobody, by_two}
use Rattle.mb_model_examples.specs.RuleExamples.{by_both, layers_with, at_birth, seven}
use Rattle.mb_model_examples.specs.Device.{signed_with, seed_of, key_one, with_keys, secrets_of_two, key_of_three}
use Rattle.mb_model_examples.specs.Device.{eight_keys, with_regions, alive}

-- an order without targets and countersignatures, with this signature
abbrev pub plain : ℕ → Act → List ℕ → Order
plain layer does signature =
    record { layer = layer; targets = []; act = does; signature = signature; countersignatures = [] }

abbrev pub surrender_two : Order
surrender_two = plain 2 act.Surrender []

-- an establish of layer 2, which has an owner already
abbrev pub establish_two : Order
establish_two = plain 2 (act.Establish (officer 4) (equal_trusts Never)) []

-- the order with two targets: the first holds of the device, and the second does not
abbrev pub elsewhere : Order → Order
elsewhere order = record order { targets = target.Length 6 ∷ target.Serial (replicate 16 8) ∷ [] }

-- an ordinary load
abbrev pub load_of : ℕ → List ℕ → Order
load_of layer signature = plain layer (act.Load (seven Always (codes "abc"))) signature

abbrev pub key_for_three : List ℕ → Order
key_for_three signature = plain 3 (act.NewKey kinds.Epoch) signature

-- a countersignature of no bytes, which is nobody's
abbrev pub empty_by : ℕ → Countersignature
empty_by layer = record { layer = layer; signature = [] }

-- ---- refusals

-- the bytes are refused with this number, and nothing changes
abbrev pub RefusesOrder : State → List ℕ → ℕ → Type 0
RefusesOrder state text n = (draw : List ℕ) → OrderStep state text draw (reply.Refused n) state

-- Which check is the first that fails? A signature of no bytes is nobody's.
pub record RefusedOrders (signature : List ℕ) : Type 0 where
  -- bytes that spell no order
  pub nothing : RefusesOrder (alive signature) [] 10
  pub no_order : RefusesOrder (alive signature) (0 ∷ []) 10
  pub longer : RefusesOrder (alive signature) (order_format.spelling surrender_two ++ 0 ∷ []) 10
  -- the second target does not hold, nor does what would be tried after it
  pub target : RefusesOrder (alive signature) (order_format.spelling (elsewhere surrender_two)) 11
  pub second_target : Fails (view_of (alive signature)) (elsewhere surrender_two) (WrongTarget 1)
  pub target_before_state : RefusesOrder (alive signature) (order_format.spelling (elsewhere establish_two)) 11
  -- layer 2 has an owner, and the signature is wrong too
  pub state_before_signature : RefusesOrder (alive signature) (order_format.spelling establish_two) 12
  pub not_signed : IsSigned (view_of (alive signature)) establish_two → ⊥
  pub signature_wrong : RefusesOrder (alive signature) (order_format.spelling surrender_two) 13

-- region 3 has as many keys as there may be
abbrev pub with_eight_keys : List ℕ → State
with_eight_keys signature = with_regions empty_region eight_keys signature

-- refusals of an order that the owner in charge signed
pub record LaterRefusals (signature by_owner : List ℕ) : Type 0 where
  -- neither layer countersigned: the lower is named
  pub countersignature : IsSigned (view_of (alive signature)) (load_of 1 by_owner)
      → Fails
      (view_of (alive signature))
      (record (load_of 1 by_owner) { countersignatures = empty_by 2 ∷ empty_by 3 ∷ [] })
      (WrongCountersignature 2)
  -- layer 2 countersigned, and layer 3 did not
  pub second_countersignature : (by : Countersignature) → by.layer ≡ 2
      → IsSigned (view_of (alive signature)) (load_of 1 by_owner)
      → IsCountersigned (view_of (alive signature)) (load_of 1 by_owner) by
      → Fails (view_of (alive signature)) (record (load_of 1 by_owner) { countersignatures = by ∷ empty_by 3 ∷ [] })
      (WrongCountersignature 3)
  pub keys : IsSigned (view_of (with_eight_keys signature)) (key_for_three by_owner)
      → Fails (view_of (with_eight_keys signature)) (key_for_three by_owner) KeysFull

-- ---- orders that pass

-- if the owner in charge signed the order, it passes, and the answer gives this number and this length
pub record ObeysOrder (state : State) (order : Order) (number size : ℕ) : Type 0 where
  pub passes : IsSigned (view_of state) order → Passes (view_of state) order
  pub done : (text draw : List ℕ) → Spells order_format text order → Passes (view_of state) order
      → OrderStep state text draw (reply.Done number size) (state_after_order state order draw)

pub record ObeyedOrders (signature by_owner : List ℕ) : Type 0 where
  pub load_three : ObeysOrder (alive signature) (load_of 3 by_owner) 5 7
  pub load_one : ObeysOrder (alive signature) (load_of 1 by_owner) 5 7
  pub surrender : ObeysOrder (alive signature) (plain 2 act.Surrender by_owner) 5 7
  -- a key is no change: the number stays
  pub key : ObeysOrder (alive signature) (key_for_three by_owner) 4 7

-- What an order leaves: the regions, whether layers 2 and 3 are reliable, and how many indices of the device key are
-- used.
pub record LeavesRegions (after : State) (two three : Region) (reliable : Pair) (uses : ℕ) : Type 0 where
  pub region_two : after.two ≡ two
  pub region_three : after.three ≡ three
  pub layer_two : after.layers.two.reliable ≡ reliable.two
  pub layer_three : after.layers.three.reliable ≡ reliable.three
  pub device : after.uses ≡ uses

-- region 3 with one more key, which ends with the configuration
abbrev pub with_short_lived : List ℕ → State
with_short_lived signature =
    let short_lived : RegionKey = record { number = 2; kind = kinds.Configuration; seed = seed_of 12; uses = 0 } in
    with_regions secrets_of_two (with_keys (key_one 0 ∷ short_lived ∷ [])) signature

pub record LeavingExamples (signature by_owner draw : List ℕ) : Type 0 where
  -- a load of layer 3 leaves region 2, and drops the configuration keys of region 3
  pub load_three : LeavesRegions (state_after_order (with_short_lived signature) (load_of 3 by_owner) draw)
      secrets_of_two (key_of_three 0) by_both 6
  -- a load of layer 2 empties region 3, as layer 3 trusts what its owner countersigns, and leaves layer 3 unreliable
  pub load_two : LeavesRegions
      (state_after_order (alive signature) (load_of 2 by_owner) draw) secrets_of_two empty_region by_two 6
  -- a load of layer 1 that nobody countersigned empties both; the next device key has used no index
  pub load_one : LeavesRegions
      (state_after_order (alive signature) (load_of 1 by_owner) draw) empty_region empty_region nobody 0
  pub load_one_countersigned : LeavesRegions
      (state_after_order
      (alive signature)
      (record (load_of 1 by_owner) { countersignatures = empty_by 2 ∷ empty_by 3 ∷ [] })
      draw)
      secrets_of_two (key_of_three 0) by_both 0
  pub surrender : LeavesRegions (state_after_order (alive signature) (plain 2 act.Surrender by_owner) draw)
      empty_region empty_region nobody 6
  -- a new key goes last, with the number of keys that were made
  pub key : (state_after_order (alive signature) (key_for_three by_owner) draw).three ≡ with_keys (key_one 0
      ∷ record { number = 2; kind = kinds.Epoch; seed = next_key (view_of (alive signature)) draw; uses = 0 }
      ∷ [])

-- ---- logs that are long

-- this many entries, from this position on
abbrev pub in_turn : (ℕ → Entry) → ℕ → ℕ → List Entry
in_turn entry position zero = []
in_turn entry position (suc n) = entry position ∷ in_turn entry (position + 1) n

abbrev pub two_run : Layers
two_run = layers_with (running 1 Always) (running 2 Always) layer_without_owner

-- a birth, and entries that give layer 2 an owner and code
abbrev pub beginning : List Entry
beginning =
    Birth 2 (replicate 16 9) (officer 10) at_birth
    ∷ Change 2 1 1 changes.Establish 2 nobody
    (layers_with (running 1 Always) (bare 2 Always) layer_without_owner) nobody None
    ∷ Change 2 2 2 changes.Emergency 2 nobody two_run nobody None
    ∷ []

-- loads of layer 2
abbrev pub loads_of_two : ℕ → ℕ → List Entry
loads_of_two position n = in_turn (λ at. Change 2 at at changes.Load 2 nobody two_run by_two None) position n

-- loads of layer 1, each of which makes a device key
abbrev pub loads_of_one : ℕ → ℕ → List Entry
loads_of_one position n =
    in_turn (λ at. Change 2 at at changes.Load 1 nobody two_run by_two (Some (officer 12))) position n

-- a birth and 31 entries: the device key has one index left
abbrev pub key_nearly_used : List Entry
key_nearly_used = beginning ++ loads_of_two 3 29

-- a birth and 30 entries: the device key has two indices left
abbrev pub key_less_used : List Entry
key_less_used = beginning ++ loads_of_two 3 28

-- 127 entries; the device key signed the last 31
abbrev pub nearly_full : List Entry
nearly_full = beginning ++ loads_of_one 3 93 ++ loads_of_two 96 31

-- the device with this log
abbrev pub grown : List Entry → List ℕ → State
grown log signature = record {
  serial = replicate 16 9;
  layers = two_run;
  codes = record { one = None; two = None; three = None };
  log = signed_with signature log;
  device = seed_of 10;
  uses = 31;
  two = empty_region;
  three = empty_region;
}

pub record SuccessionExamples (signature by_owner : List ℕ) : Type 0 where
  -- the last index signs a succession, and no other entry but that of a load of layer 1, which makes the next key
  pub load_two : needs_succession (view_of (grown key_nearly_used signature)) (load_of 2 by_owner) ≡ true
  pub load_one : needs_succession (view_of (grown key_nearly_used signature)) (load_of 1 by_owner) ≡ false
  pub earlier : needs_succession (view_of (grown key_less_used signature)) (load_of 2 by_owner) ≡ false
  pub needed_two : entries_needed (view_of (grown key_nearly_used signature)) (load_of 2 by_owner) ≡ 2
  pub needed_one : entries_needed (view_of (grown key_nearly_used signature)) (load_of 1 by_owner) ≡ 1
  pub done_two : ObeysOrder (grown key_nearly_used signature) (load_of 2 by_owner) 32 34
  pub done_one : ObeysOrder (grown key_nearly_used signature) (load_of 1 by_owner) 32 33
  -- 127 entries leave room for one more
  pub size : length nearly_full ≡ 127
  pub no_room : IsSigned (view_of (grown nearly_full signature)) (load_of 2 by_owner)
      → Fails (view_of (grown nearly_full signature)) (load_of 2 by_owner) LogFull
  pub room : ObeysOrder (grown nearly_full signature) (load_of 1 by_owner) 127 128
