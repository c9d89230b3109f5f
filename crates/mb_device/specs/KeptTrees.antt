-- The trees that a device keeps to sign with again. Is a tree built anew where it could have been kept?
use Rattle.std.specs.Prelude.{◌≡◌, ℕ, ◌+◌, ◌*◌, ◌≤◌, List, Bool, true, false, Option, None, Some, IsSome}
use Rattle.mb_model.specs.declared.event.Event.{Event}
use Rattle.mb_model.specs.declared.event.Event.TheVariants as event
use Rattle.mb_model.specs.declared.reply.Reply.{Reply}
use Rattle.mb_model.specs.declared.reply.Reply.TheVariants as reply
use Rattle.mb_model.specs.declared.state.State.{State}
use Rattle.mb_model.specs.chains.Listing.{is_done}
use Rattle.mb_model.specs.machine.Machine.{World}
use Rattle.mb_lms.specs.declared.hash_count.TheConstants.{LEAF_HASHES, TREE_HASHES}
use Rattle.mb_outbound.specs.declared.kept.RegionTree.{RegionTree}
use Rattle.mb_outbound.specs.KeptTrees.{IsKeptFor}
use Rattle.mb_device_orders.specs.declared.remembering.Trees.{Trees}
use Rattle.mb_device_orders.specs.Obeying.{MakesKeys}
use Rattle.mb_device.specs.declared.device.Device.{Device}
use Rattle.mb_device.specs.declared.device.Device.TheVariants as device
use Rattle.mb_device.specs.Regions.{region_named}

-- ---- the trees that are kept

-- the tree of a region's key among these, if there is one
abbrev pub region_tree_in : Option Trees → Option RegionTree
region_tree_in None = None
region_tree_in (Some trees) = trees.region

-- the tree of the device key is among these
abbrev pub HasDeviceTree : Option Trees → Type 0
HasDeviceTree None = ⊥
HasDeviceTree (Some trees) = IsSome trees.device

-- a tree is kept for the key that the event asks to sign, in the region of layer L
abbrev pub IsKeptToSign : Option Trees → ℕ → Event → Type 0
IsKeptToSign kept L (event.Sign M key message) = IsKeptFor (region_tree_in kept) L key
IsKeptToSign kept L (event.Call M (Some key) input) = IsKeptFor (region_tree_in kept) L key
IsKeptToSign kept L other = ⊥

-- once the key that the event asks to sign has signed, its tree is kept
abbrev pub IsKeptOnceSigned : Option Trees → ℕ → Event → Reply → Type 0
IsKeptOnceSigned kept L (event.Sign M key message) answer =
    (index : ℕ) (statement : List ℕ) → answer ≡ reply.Signed key index statement
    → IsKeptFor (region_tree_in kept) L key
IsKeptOnceSigned kept L (event.Call M (Some key) input) answer =
    (index : ℕ) (statement : List ℕ) → answer ≡ reply.Signed key index statement
    → IsKeptFor (region_tree_in kept) L key
IsKeptOnceSigned kept L other answer = Unit {0}

-- the answer leaves the tree of the device key: power has not gone, and no order is done
abbrev pub leaves_device_tree : Reply → Bool
leaves_device_tree reply.Off = false
leaves_device_tree reply.Tampered = false
leaves_device_tree reply.Stopped = false
leaves_device_tree (reply.Done number size) = false
leaves_device_tree other = true

-- the answer leaves the tree of a region's key: power has not gone, no order is done and no key has signed
abbrev pub leaves_tree : Reply → Bool
leaves_tree (reply.Signed key index statement) = false
leaves_tree other = leaves_device_tree other

-- What becomes of the trees at an event in the region of layer L with this answer.
pub record TreesAreKept (L : ℕ) (event : Event) (answer : Reply) (before after : Option Trees) : Type 0 where
  pub signed : IsKeptOnceSigned after L event answer
  pub region : leaves_tree answer ≡ true → (place number : ℕ) → IsKeptFor (region_tree_in before) place number
      → IsKeptFor (region_tree_in after) place number
  pub device : leaves_device_tree answer ≡ true → HasDeviceTree before → HasDeviceTree after

-- ---- the trees of a device

-- the trees that a device keeps; none unless a layer runs
abbrev pub trees_of : Device → Option Trees
trees_of (device.Off state) = None
trees_of (device.Dead state) = None
trees_of (device.One state running) = Some running.known.trees.value
trees_of (device.Two state running) = Some running.known.trees.value
trees_of (device.Three state running) = Some running.known.trees.value

-- the device keeps the tree of the key that the event asks to sign
abbrev pub HasTreeFor : Device → Event → Type 0
HasTreeFor device event = IsKeptToSign (trees_of device) (region_named event) event

-- Once a key of a region has signed, the device keeps its tree, until power goes, an order is done, or another such key
-- signs. The tree of the device key stays until power goes or an order is done.
abbrev pub KeepsItsTrees : Device → Event → Reply → Device → Type 0
KeepsItsTrees before event answer after =
    TreesAreKept (region_named event) event answer (trees_of before) (trees_of after)

-- once an order is done, the device keeps the tree of its key, be it a new one or not
abbrev pub KeepsTreeOnceDone : Event → Reply → Device → Type 0
KeepsTreeOnceDone (event.Order text draw) answer after = is_done answer ≡ true → HasDeviceTree (trees_of after)
KeepsTreeOnceDone other answer after = Unit {0}

-- the event is an order that makes this many keys in this world
abbrev pub MakesKeysOf : World → Event → ℕ → Type 0
MakesKeysOf world (event.Order text draw) keys =
    (state : State) → world.state ≡ Some state → MakesKeys state text draw keys
MakesKeysOf world other keys = ⊥

-- What an order costs that makes this many keys, where `counted` hashes were counted before it and `after_it` are then:
-- if the tree of the device key was kept before, only those of the new keys are built, and at most two signatures made.
abbrev pub SignsByDeviceTree : Device → ℕ → ℕ → ℕ → Type 0
SignsByDeviceTree before keys counted after_it =
    HasDeviceTree (trees_of before) → after_it ≤ counted + keys * TREE_HASHES + 2 * LEAF_HASHES
