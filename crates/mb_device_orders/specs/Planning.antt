-- How the bytes of an order are judged, and how its commit is planned. Is all that is written fixed before any write?
use Rattle.std.specs.Prelude.{◌≡◌, ℕ, ◌+◌, ◌-◌, ◌≤◌, ◌⊎◌, List, [], length, All}
use Rattle.std.specs.Prelude.{IfSome, Option, None, Some, Result, Ok, Err}
use Rattle.mb_format.specs.Format.{Spells}
use Rattle.mb_model.specs.declared.limits.TheConstants.{CODE_LIMIT, ENTRY_LIMIT}
use Rattle.mb_model.specs.declared.entry.Entry.{Entry}
use Rattle.mb_model.specs.declared.order.Act.{Act}
use Rattle.mb_model.specs.declared.order.Order.{Order}
use Rattle.mb_model.specs.declared.reply.Reply.{Reply}
use Rattle.mb_model.specs.declared.reply.Reply.TheVariants as reply
use Rattle.mb_model.specs.declared.state.State.{State}
use Rattle.mb_model.specs.declared.state.View.{View}
use Rattle.mb_model.specs.declared.stored.Header.{Header}
use Rattle.mb_model.specs.declared.stored.Root.{Root}
use Rattle.mb_model.specs.outside.Board.{Memory}
use Rattle.mb_model.specs.memories.Clean.{root_of}
use Rattle.mb_model.specs.records.EntryFormat.{entry_format}
use Rattle.mb_model.specs.memories.Flash.{AreBytesOf}
use Rattle.mb_model.specs.records.HeaderFormat.{header_format}
use Rattle.mb_model.specs.records.OrderFormat.{order_format}
use Rattle.mb_model.specs.memories.Sectors.{BeginsAs}
use Rattle.mb_model.specs.declared.reply.OrderRefusal.{OrderRefusal}
use Rattle.mb_model.specs.declared.reply.Refusal.TheVariants as refused
use Rattle.mb_model.specs.machine.Refusals.{refusal_reply}
use Rattle.mb_model.specs.machine.OrderChecks.{view_of, Passes, Fails}
use Rattle.mb_model.specs.machine.OrderStep.{OrderStep}
use Rattle.mb_orders.specs.Judging.{plan_by}
use Rattle.mb_model_lemmas.specs.SegmentLaws.{IsOnlyHeader}
use Rattle.mb_model_memory.specs.Commits.{root_for, new_entries, at_rest}
use Rattle.mb_model_memory.specs.Holding.{Holds, IsReady}
use Rattle.mb_model_memory.specs.NextHeaders.{code_brought, header_after}
use Rattle.mb_layout.specs.declared.room.Room.{Room}
use Rattle.mb_area.specs.Roots.{IsOnlyRoot}
use Rattle.mb_device_orders.specs.declared.judging.Judged.{Judged}

-- ---- judging

-- the order that the bytes spell; else they spell none and are refused for that, or an allocation failed
abbrev pub ReadsText : List ℕ → Result Order Reply → Type 0
ReadsText text (Ok order) = Spells order_format text order
ReadsText text (Err answer) =
    (answer ≡ reply.NoMemory)
    ⊎ ((answer ≡ refusal_reply refused.BadText) × ((order : Order) → Spells order_format text order → ⊥))

-- the order fails this check, and is answered so
pub record FailsWith (view : View) (order : Order) (answer : Reply) : Type 0 where
  pub refusal : OrderRefusal
  pub fails : Fails view order refusal
  pub answered : answer ≡ refusal_reply (refused.Order refusal)

-- the result of the checks: the order passes, or is answered by the first that it fails
abbrev pub ChecksText : View → Order → Result (Unit {0}) Reply → Type 0
ChecksText view order (Ok passed) = Passes view order
ChecksText view order (Err answer) = FailsWith view order answer

-- the bytes spell an order that passes in this state, and this is its effect
pub record PassesAs (state : State) (text draw : List ℕ) (judged : Judged) : Type 0 where
  pub spelled : Spells order_format text judged.order
  pub passes : Passes (view_of state) judged.order
  pub plan : judged.plan ≡ plan_by (view_of state) judged.order draw

-- the result of judging bytes in this state: an order that passes, or an answer that changes nothing
abbrev pub JudgesText : State → List ℕ → List ℕ → Result Judged Reply → Type 0
JudgesText state text draw (Ok judged) = PassesAs state text draw judged
JudgesText state text draw (Err answer) = (answer ≡ reply.NoMemory) ⊎ OrderStep state text draw answer state

-- the memory is ready with a state in which this order passes, some bytes spell it, and the root is the current one
pub record HasPassed (memory : Memory) (judged : Judged) : Type 0 where
  pub state : State
  pub text : List ℕ
  pub draw : List ℕ
  pub ready : IsReady memory state
  pub passed : PassesAs state text draw judged
  pub root : IsOnlyRoot memory.bbram judged.root

-- ---- planning

-- the code that an order brings fits a slot
abbrev pub BringsShortCode : Act → Type 0
BringsShortCode act = IfSome (code_brought act) (λ code. length code ≤ CODE_LIMIT)

-- bytes begin with a header, and the header after the order has a spelling
pub record CanTake (layer : ℕ) (act : Act) (entries : List Entry) (bytes : List ℕ) : Type 0 where
  pub header : Header
  pub begins : BeginsAs header_format bytes header
  pub few : length entries ≤ 2
  pub together : header.signed + length entries ≤ ENTRY_LIMIT
  pub entries_allowed : All entry_format.Allowed entries
  pub short : BringsShortCode act

-- the code that the room has to write is this code of the layer, or none
abbrev pub IsToWrite : Room → ℕ → Option (List ℕ) → Type 0
IsToWrite room layer None = (room.code_layer ≡ 0) × (room.code.items ≡ [])
IsToWrite room layer (Some code) = (room.code_layer ≡ layer) × (room.code.items ≡ code)

-- The memory is ready with this state, in which the order passes. The root record commits the order, and names the
-- header area that the current one does not name. The room holds what is written to the flash before it: the header
-- after the order, whose texts spell the new entries, and the code that the order brings.
pub record IsCommit
    (memory : Memory) (root : Root) (room : Room) (state : State) (order : Order) (draw : List ℕ) : Type 0 where
  pub ready : IsReady memory state
  pub allowed : order_format.Allowed order
  pub passes : Passes (view_of state) order
  pub area : ℕ
  pub holds : Holds memory (at_rest state area)
  pub only_root : IsOnlyRoot memory.bbram (root_of state area)
  pub only_header : IsOnlyHeader memory.flash area holds.public.header
  pub root_is : root ≡ root_for state order draw (1 - area)
  pub first : Option (List ℕ)
  pub second : Option (List ℕ)
  pub texts : AreBytesOf first second (new_entries state order draw)
  pub header : Spells
      header_format
      room.header.items
      (header_after holds.public.header order.layer order.act first second)
  pub code : IsToWrite room order.layer (code_brought order.act)

-- the root record and what the room holds are the commit of some order
pub record HasCommit (memory : Memory) (root : Root) (room : Room) : Type 0 where
  pub state : State
  pub order : Order
  pub draw : List ℕ
  pub commit : IsCommit memory root room state order draw
