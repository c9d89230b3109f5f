-- What the calls of this crate promise, where that is longer than a line.
use Rattle.std.specs.Prelude.{◌≡◌, ℕ, ◌+◌, ◌≤◌, ◌⊎◌, List, Bool, true, false, Option, None, Some, Result, Ok, Err, OnOk}
use Rattle.mb_board.specs.Calls.{Seen, RanOnBbram}
use Rattle.mb_device_orders.specs.declared.remembering.Running.{Running}
use Rattle.mb_device_orders.specs.declared.remembering.Trees.{Trees}
use Rattle.mb_device_orders.specs.Remembering.{Knows, KnowsCode}
use Rattle.mb_layout.specs.declared.room.Room.{Room}
use Rattle.mb_layout.specs.Plans.{SamePlans}
use Rattle.mb_lms.specs.declared.hash_count.TheConstants.{LEAF_HASHES, SIGNING_HASHES}
use Rattle.mb_model.specs.declared.region.Region.{Region}
use Rattle.mb_model.specs.declared.region.RegionKey.{RegionKey}
use Rattle.mb_model.specs.declared.reply.Reply.{Reply}
use Rattle.mb_model.specs.declared.reply.Reply.TheVariants as reply
use Rattle.mb_model.specs.declared.state.State.{State}
use Rattle.mb_model.specs.machine.Calls.{Call, key_for, answer_by, WithCode}
use Rattle.mb_model.specs.machine.LayerEvents.{Outcome, code_in}
use Rattle.mb_model.specs.memories.Valid.{IsValidState}
use Rattle.mb_model.specs.outside.Board.{Memory}
use Rattle.mb_model.specs.owners.Layers.{Runnable}
use Rattle.mb_model.specs.owners.Regions.{region_of, with_region}
use Rattle.mb_model_memory.specs.Answering.{ComesTo, IsCutShort, TellsOfWrites}
use Rattle.mb_model_memory.specs.Holding.{Means, IsReady}
use Rattle.mb_outbound.specs.declared.kept.RegionTree.{RegionTree}
use Rattle.mb_outbound.specs.Binding.{AreKeysInOrder, HasUnspentKey}
use Rattle.mb_outbound.specs.KeptTrees.{IsKeptFor}
use Rattle.mb_region.specs.Regions.{writes_over}
use Rattle.mb_slot.specs.Slots.{counted_writes, MakesWrites}
use Rattle.mb_device_regions.specs.declared.acting.Acted.{Acted}
use Rattle.mb_device_regions.specs.Statements.{KeepsTree, LeavesTree}

-- A region was put in the place of that of layer L. If power failed, the memory means the state with the region before
-- or with this one. How many write calls there were is decided by the region before alone.
pub record Replaces
    (L : ℕ) (region : Region) (room room_after : Room) {A E : Type 0} (result : Result A E) (before after : Seen)
    : Type 0 where
  pub done : (state : State) → IsReady before.memory state → IsValidState (with_region state L region)
      → OnOk result (IsReady after.memory (with_region state L region))
  pub either : (state : State) → IsReady before.memory state
      → Means after.memory state ⊎ Means after.memory (with_region state L region)
  pub writes : (state : State) → IsReady before.memory state
      → MakesWrites (writes_over (region_of state L)) result before after
  pub ran : RanOnBbram 3 result before after
  pub plans : SamePlans room room_after

-- Layer L, which may run, uses its region: this is the outcome in each state that the device remembers.
pub record AnswersIn
    (L : ℕ) (outcome : State → Outcome) (running running_after : Running) {S E : Type 0} (result : Result (S × Reply) E)
    (before after : Seen) : Type 0 where
  pub told : (state : State) → IsReady before.memory state → Runnable state.layers L → Knows running.known state
      → ComesTo state (outcome state) before.memory after.memory result
  pub writes : TellsOfWrites result before.memory after.memory before.meter after.meter
  pub known : (state : State) → IsReady before.memory state → Knows running.known state
      → Knows running_after.known state
  pub codes : (state : State) → KnowsCode running.known before.memory.flash state
      → KnowsCode running_after.known after.memory.flash state
  pub ran : RanOnBbram 3 result before after
  pub plans : SamePlans running.room running_after.room

-- The key signs with its tree, which is kept from then on.
pub record SignsByTree
    (L key : ℕ) (trees trees_after : Trees) {S E : Type 0} (result : Result (S × Reply) E) (hashes hashes_after : ℕ)
    : Type 0 where
  pub keeps : KeepsTree result trees_after.region L key
  pub stays : LeavesTree result trees.region trees_after.region
  pub device : trees_after.device ≡ trees.device
  pub cost : hashes_after ≤ hashes + SIGNING_HASHES
  pub again : IsKeptFor trees.region L key → hashes_after ≤ hashes + LEAF_HASHES

-- ---- calls

-- The call has an outcome in this state, and this result is the outcome's; or an allocation failed, and nothing has
-- changed.
abbrev pub CallComesTo : {S E : Type 0} → State → Call → Memory → Memory → Result (S × Reply) E → Type 0
CallComesTo state call before after (Ok told) =
    ((told.1 ≡ reply.NoMemory) × (after ≡ before))
    ⊎ ((outcome : Outcome) × WithCode state call (code_in state.codes call.layer) outcome
    × (told.1 ≡ outcome.0) × IsReady after outcome.1)
CallComesTo state call before after (Err stop) =
    (outcome : Outcome) × WithCode state call (code_in state.codes call.layer) outcome
    × IsCutShort state outcome after

-- a reply to a call that is answered
abbrev pub answers_call : Reply → Bool
answers_call (reply.Called answer) = true
answers_call (reply.Signed key index statement) = true
answers_call other = false

-- an answered call has made exactly n write calls, whatever its code asked for
abbrev pub WritesEvenly : ℕ → {S E : Type 0} → Result (S × Reply) E → Seen → Seen → Type 0
WritesEvenly n (Ok told) before after =
    answers_call told.1 ≡ true → after.meter.writes ≡ counted_writes n before.meter.writes
WritesEvenly n (Err stop) before after = Unit {0}

-- The code of layer L, which may run, is called: this is what the call comes to in each state that the device
-- remembers. How many write calls an answered call makes is decided by the region before alone.
pub record CallsIn
    (L : ℕ) (key : Option ℕ) (input : List ℕ) (running running_after : Running) {S E : Type 0}
    (result : Result (S × Reply) E) (before after : Seen) : Type 0 where
  pub told : (state : State) → IsReady before.memory state → Runnable state.layers L → Knows running.known state
      → KnowsCode running.known before.memory.flash state
      → CallComesTo state (record { layer = L; key = key; input = input }) before.memory after.memory result
  pub even : (state : State) → IsReady before.memory state
      → WritesEvenly (writes_over (region_of state L)) result before after
  pub writes : TellsOfWrites result before.memory after.memory before.meter after.meter
  pub known : (state : State) → IsReady before.memory state → Knows running.known state
      → Knows running_after.known state
  pub codes : (state : State) → KnowsCode running.known before.memory.flash state
      → KnowsCode running_after.known after.memory.flash state
  pub ran : RanOnBbram 3 result before after
  pub plans : SamePlans running.room running_after.room

-- once a key that was asked for has signed, its tree is kept
abbrev pub KeepsTreeOf : {S E : Type 0} → Result (S × Reply) E → Option RegionTree → ℕ → Option ℕ → Type 0
KeepsTreeOf result kept L None = Unit {0}
KeepsTreeOf result kept L (Some key) = KeepsTree result kept L key

-- the tree of the key that is asked for is kept, if one is asked for
abbrev pub IsKeptForAny : Option RegionTree → ℕ → Option ℕ → Type 0
IsKeptForAny kept L None = Unit {0}
IsKeptForAny kept L (Some key) = IsKeptFor kept L key

-- The key that is asked for signs with its tree, which is kept from then on.
pub record CallSigns
    (L : ℕ) (key : Option ℕ) (trees trees_after : Trees) {S E : Type 0} (result : Result (S × Reply) E)
    (hashes hashes_after : ℕ) : Type 0 where
  pub keeps : KeepsTreeOf result trees_after.region L key
  pub stays : LeavesTree result trees.region trees_after.region
  pub device : trees_after.device ≡ trees.device
  pub cost : hashes_after ≤ hashes + SIGNING_HASHES
  pub again : IsKeptForAny trees.region L key → hashes_after ≤ hashes + LEAF_HASHES

-- What code asked for has this region of the state come to, which a device can have: the keys are the same.
pub record IsActedIn (L : ℕ) (acted : Acted) (state : State) : Type 0 where
  pub keys : acted.region.keys ≡ (region_of state L).keys
  pub valid : IsValidState (with_region state L acted.region)

-- What code asked for is done, and its answer is given: signed by the key that was asked for and found, if one was.
pub record FinishesCall
    (L : ℕ) (key : Option ℕ) (input : List ℕ) (acted : Acted) (running running_after : Running) {S E : Type 0}
    (result : Result (S × Reply) E) (before after : Seen) : Type 0 where
  pub told : (state : State) (signer : Option RegionKey) → IsReady before.memory state → Runnable state.layers L
      → Knows running.known state → IsActedIn L acted state → key_for key (region_of state L) ≡ Ok signer
      → ComesTo state (answer_by L signer input acted.answer state (with_region state L acted.region))
      before.memory after.memory result
  pub even : (state : State) → IsReady before.memory state
      → WritesEvenly (writes_over (region_of state L)) result before after
  pub writes : TellsOfWrites result before.memory after.memory before.meter after.meter
  pub known : (state : State) → IsReady before.memory state → Knows running.known state
      → acted.region.keys ≡ (region_of state L).keys → Knows running_after.known state
  pub codes : (state : State) → KnowsCode running.known before.memory.flash state
      → KnowsCode running_after.known after.memory.flash state
  pub ran : RanOnBbram 3 result before after
  pub plans : SamePlans running.room running_after.room

-- The region that code asked for has the keys of the stored one, and the key of this number can sign.
pub record HasCallSigner (L key : ℕ) (acted : Acted) (memory : Memory) : Type 0 where
  pub keys : (state : State) → IsReady memory state → acted.region.keys ≡ (region_of state L).keys
  pub ordered : AreKeysInOrder acted.region
  pub can_sign : HasUnspentKey acted.region key

abbrev pub HasCallSignerOf : ℕ → Option ℕ → Acted → Memory → Type 0
HasCallSignerOf L None acted memory = Unit {0}
HasCallSignerOf L (Some key) acted memory = HasCallSigner L key acted memory
