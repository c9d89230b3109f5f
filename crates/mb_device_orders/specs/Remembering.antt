-- What a device remembers of its state while power is on. Does it agree with the memory?
use Rattle.std.specs.Prelude.{◌≡◌, ℕ, ◌≤◌, ◌==◌, List, Option, IfSome, if◌then◌else◌}
use Rattle.mb_format.specs.Format.{IsBytes}
use Rattle.mb_board.specs.Calls.{Seen, IsUp}
use Rattle.mb_area.specs.Flashes.{CanBeNamed}
use Rattle.mb_model.specs.declared.state.State.{State}
use Rattle.mb_model.specs.declared.limits.TheConstants.{ENTRY_LIMIT}
use Rattle.mb_model.specs.declared.stored.Header.{Header}
use Rattle.mb_model.specs.declared.stored.Slot.{Slot}
use Rattle.mb_model.specs.memories.Flash.{HoldsCode}
use Rattle.mb_model.specs.outside.Board.{Memory}
use Rattle.mb_model.specs.owners.Log.{figures_of, entries_of}
use Rattle.mb_model_memory.specs.Holding.{IsReady}
use Rattle.mb_outbound.specs.KeptTrees.{IsKeptIn}
use Rattle.mb_signer.specs.declared.tree.KeptTree.{KeptTree}
use Rattle.mb_signer.specs.Tree.{IsTreeOf}
use Rattle.mb_device_orders.specs.declared.remembering.Known.{Known}
use Rattle.mb_device_orders.specs.declared.remembering.Noted.{Noted}
use Rattle.mb_device_orders.specs.declared.remembering.Trees.{Trees}

-- in this state, the tree is that of the device key, if one is kept
abbrev pub IsDeviceTree : Option KeptTree → State → Type 0
IsDeviceTree kept state = IfSome kept (IsTreeOf state.device)

-- in this state, each tree that is kept is that of the key for which it is kept
pub record AreTreesOf (trees : Trees) (state : State) : Type 0 where
  pub device : IsDeviceTree trees.device state
  pub region : IsKeptIn trees.region state

-- what a device remembers is true of this state
pub record Knows (known : Known) (state : State) : Type 0 where
  pub serial : known.serial ≡ state.serial
  pub figures : known.figures ≡ figures_of (entries_of state.log)
  pub trees : AreTreesOf known.trees.value state

-- where the code of layer 2 or 3 stands, as the device remembers it
abbrev pub slot_known : Known → ℕ → Slot
slot_known known layer = if layer == 2 then known.two else known.three

-- where the device remembers the codes of layers 2 and 3 to stand, the flash holds those of this state
pub record KnowsCode (known : Known) (flash : List ℕ) (state : State) : Type 0 where
  pub two : HoldsCode flash 2 known.two state.codes.two
  pub three : HoldsCode flash 3 known.three state.codes.three
  pub two_named : CanBeNamed known.two
  pub three_named : CanBeNamed known.three

-- what is noted is what the header says
pub record IsNoted (noted : Noted) (header : Header) : Type 0 where
  pub signed : noted.signed ≡ header.signed
  pub two : noted.two ≡ header.two
  pub three : noted.three ≡ header.three

-- what is noted is within the bounds of a header
pub record FitsNoted (noted : Noted) : Type 0 where
  pub signed : noted.signed ≤ ENTRY_LIMIT
  pub two : CanBeNamed noted.two
  pub three : CanBeNamed noted.three

-- where the codes of layers 2 and 3 stand by what is noted, the flash holds those of this state
pub record NotesCode (noted : Noted) (flash : List ℕ) (state : State) : Type 0 where
  pub two : HoldsCode flash 2 noted.two state.codes.two
  pub three : HoldsCode flash 3 noted.three state.codes.three
  pub fits : FitsNoted noted

-- the device is ready, and remembers its state, and where its codes stand
pub record IsRemembered (known : Known) (memory : Memory) : Type 0 where
  pub state : State
  pub ready : IsReady memory state
  pub knows : Knows known state
  pub codes : KnowsCode known memory.flash state

-- A board that shows this can be used at the level, and its battery-backed memory holds bytes. The device is ready for
-- an event, and remembers its state.
pub record CanAnswer (level : ℕ) (known : Known) (seen : Seen) : Type 0 where
  pub up : IsUp level seen
  pub bytes : IsBytes seen.memory.bbram
  pub remembered : IsRemembered known seen.memory
