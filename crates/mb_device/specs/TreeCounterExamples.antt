-- Trees that are forgotten, or built anew; the checker refutes each line. May a device build each tree anew?
use Rattle.std.specs.Prelude.{◌≡◌, ◌≢◌, ℕ, ◌+◌, ◌*◌, List, Option, None, Some, IsSome, Ok}
use Rattle.mb_format.specs.Format.{Spells}
use Rattle.mb_ratchet.specs.declared.state.Off.{Off}
use Rattle.mb_ratchet.specs.declared.state.R1.{R1}
use Rattle.mb_ratchet.specs.declared.state.Up.{Up}
use Rattle.mb_model.specs.declared.event.Event.{Event}
use Rattle.mb_model.specs.declared.event.Event.TheVariants as event
use Rattle.mb_model.specs.declared.order.Act.TheVariants as act
use Rattle.mb_model.specs.declared.order.KeyKind.{KeyKind}
use Rattle.mb_model.specs.declared.order.Order.{Order}
use Rattle.mb_model.specs.declared.reply.Reply.TheVariants as reply
use Rattle.mb_model.specs.declared.reply.Standing.{Standing}
use Rattle.mb_model.specs.declared.state.State.{State}
use Rattle.mb_model.specs.records.OrderFormat.{order_format}
use Rattle.mb_lms.specs.declared.hash_count.TheConstants.{TREE_HASHES}
use Rattle.mb_outbound.specs.declared.kept.RegionTree.{RegionTree}
use Rattle.mb_device_orders.specs.declared.remembering.Known.{Known}
use Rattle.mb_device_orders.specs.declared.remembering.Trees.{Trees}
use Rattle.mb_device_orders.specs.Obeying.{LeavesKnown, MakesKeys}
use Rattle.mb_device_regions.specs.Statements.{LeavesTree}
use Rattle.mb_device.specs.declared.device.Device.{Device}
use Rattle.mb_device.specs.declared.device.Device.TheVariants as device
use Rattle.mb_device_orders.specs.declared.remembering.Running.{Running}
use Rattle.mb_device.specs.KeptTrees.{HasDeviceTree, IsKeptToSign, TreesAreKept, trees_of, HasTreeFor, KeepsItsTrees}
use Rattle.mb_device.specs.KeptTrees.{KeepsTreeOnceDone, SignsByDeviceTree}

-- Events after which a tree is gone, and trees that are no use.
pub record TreeCounterExamples : Type 0 where
  -- a key has signed, and its tree is not kept
  pub signed : (L key index : ℕ) (message statement : List ℕ) (before : Option Trees)
      → TreesAreKept L (event.Sign L key message) (reply.Signed key index statement) before None → ⊥
  -- a secret was read, and the tree of a region's key is gone
  pub read : (trees : Trees) (own : RegionTree) (name value : List ℕ) → trees.region ≡ Some own
      → TreesAreKept own.place (event.Get own.place name) (reply.Value value) (Some trees) None → ⊥
  -- a key of a region has signed, and the tree of the device key is gone
  pub device_tree : (trees : Trees) (L key index : ℕ) (message statement : List ℕ) → IsSome trees.device
      → TreesAreKept L (event.Sign L key message) (reply.Signed key index statement)
      (Some trees) (Some (record trees { device = None })) → ⊥
  -- the status was asked for, and the device has forgotten the tree of its key
  pub between : (up : Up R1) (running after : Running) (serial : List ℕ) (number size : ℕ) (one two three : Standing)
      → IsSome running.known.trees.value.device → after.known.trees.value.device ≡ None
      → KeepsItsTrees (device.One up running) event.Status (reply.Status serial number size one two three)
      (device.One up after) → ⊥
  -- an order is done, and the device has no tree of its key
  pub done : (up : Up R1) (after : Running) (text draw : List ℕ) (number size : ℕ)
      → after.known.trees.value.device ≡ None
      → KeepsTreeOnceDone (event.Order text draw) (reply.Done number size) (device.One up after) → ⊥
  -- an order makes no key, the tree of the device key is kept, and a tree is built
  pub built : (before : Device) (counted : ℕ) → HasDeviceTree (trees_of before)
      → SignsByDeviceTree before 0 counted (counted + TREE_HASHES) → ⊥
  -- an order makes one key, the tree of the device key is kept, and two trees are built
  pub built_two : (before : Device) (counted : ℕ) → HasDeviceTree (trees_of before)
      → SignsByDeviceTree before 1 counted (counted + 2 * TREE_HASHES) → ⊥
  -- an order for a key of a region counts as one that makes none
  pub no_key : (state : State) (order : Order) (kind : KeyKind) (text draw : List ℕ)
      → Spells order_format text order → order.act ≡ act.NewKey kind → MakesKeys state text draw 0 → ⊥
  -- a request was refused, and the tree that was kept is gone
  pub refused : (own : RegionTree) (number : ℕ)
      → LeavesTree {S = Unit {0}} {E = Unit {0}} (Ok (tt, reply.Refused number)) (Some own) None → ⊥
  -- an order was refused, and what is remembered is something else
  pub ordered : (before after : Known) (number : ℕ) → after ≢ before
      → LeavesKnown {S = Unit {0}} {E = Unit {0}} (Ok (tt, reply.Refused number)) before after → ⊥
  -- the tree of one key serves another
  pub other : (trees : Trees) (own : RegionTree) (key : ℕ) (message : List ℕ) → trees.region ≡ Some own
      → own.number ≢ key → IsKeptToSign (Some trees) own.place (event.Sign own.place key message) → ⊥
  -- a tree is kept while power is off
  pub off : (state : Off) (e : Event) → HasTreeFor (device.Off state) e → ⊥
