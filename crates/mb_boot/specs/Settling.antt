-- A memory while the work of an order is done. Does it mean one state wherever power fails?
use Rattle.std.specs.Prelude.{ℕ, ◌+◌, ◌-◌, List, [], ◌++◌, take}
use Rattle.mb_model.specs.declared.entry.SignedEntry.{SignedEntry}
use Rattle.mb_model.specs.declared.state.State.{State}
use Rattle.mb_model.specs.declared.stored.Root.{Root}
use Rattle.mb_model.specs.outside.Board.{Memory}
use Rattle.mb_model.specs.memories.Flash.{HoldsLog, HoldsPublic}
use Rattle.mb_model.specs.memories.StoredLog.{entries_signed_for, outgoing_of}
use Rattle.mb_model.specs.memories.Meaning.{Contents, state_of_contents}
use Rattle.mb_model.specs.memories.Clean.{root_of}
use Rattle.mb_model.specs.memories.Valid.{IsValidState}
use Rattle.mb_board.specs.Calls.{Seen, IsUp}
use Rattle.mb_model_memory.specs.Commits.{both_done, at_rest}
use Rattle.mb_model_memory.specs.Holding.{Holds, Means}
use Rattle.mb_area.specs.Roots.{IsOnlyRoot}

-- the memory means a state that a device can have
pub record IsLive (memory : Memory) : Type 0 where
  pub state : State
  pub means : Means memory state
  pub valid : IsValidState state

-- the board is up with layer 1, and its memory means a state that a device can have
pub record IsLiveBoard (seen : Seen) : Type 0 where
  pub up : IsUp 1 seen
  pub live : IsLive seen.memory

-- the board is up with layer 1, and its memory means such a state with this root record and no other
pub record IsLiveWith (seen : Seen) (current : Root) : Type 0 where
  pub up : IsUp 1 seen
  pub live : IsLive seen.memory
  pub root : IsOnlyRoot seen.memory.bbram current

-- the memory holds what it held, changed by the fates of both regions
pub record AppliesBoth (before after : Memory) : Type 0 where
  pub applied : (contents : Contents) → Holds before contents → Holds after (both_done contents)

-- the entries of these contents that are not signed yet, with the signatures that they will have
abbrev pub signed_anew : Contents → List SignedEntry
signed_anew contents =
    entries_signed_for contents.root.device contents.root.uses (outgoing_of contents.root.pending) contents.unsigned

-- the signed entries of these contents, and the first `place` of the unsigned ones, with their signatures
abbrev pub log_until : ℕ → Contents → List SignedEntry
log_until place contents = contents.signed ++ take place (signed_anew contents)

-- If the flash held the log up to a place of the unsigned entries, it holds one entry more, if there is one.
pub record AddsToLog (place : ℕ) (before after : Memory) : Type 0 where
  pub added : (contents : Contents) → Holds before contents → HoldsLog before.flash (log_until place contents)
      → HoldsLog after.flash (log_until (place + 1) contents)

-- the flash holds the log of whatever the memory held, with every entry signed
pub record CompletesLog (before after : Memory) : Type 0 where
  pub whole : (contents : Contents) → Holds before contents → HoldsLog after.flash (state_of_contents contents).log

-- If the flash held the log with every entry signed, the inactive header area counts all of it, and names the codes of
-- whatever the memory held.
pub record CountsLog (before after : Memory) : Type 0 where
  pub counted : (contents : Contents) → Holds before contents → HoldsLog before.flash (state_of_contents contents).log
      → HoldsPublic
      after.flash
      (root_of (state_of_contents contents) (1 - contents.root.area))
      contents.codes
      (state_of_contents contents).log
      []

-- for whatever the memory held, the inactive header area of the flash names the codes and counts every entry as signed
pub record SignsRecord (before after : Memory) : Type 0 where
  pub signed : (contents : Contents) → Holds before contents
      → HoldsPublic
      after.flash
      (root_of (state_of_contents contents) (1 - contents.root.area))
      contents.codes
      (state_of_contents contents).log
      []

-- the memory holds this state with nothing pending
pub record IsAtRest (memory : Memory) (state : State) : Type 0 where
  pub area : ℕ
  pub holds : Holds memory (at_rest state area)

-- the memory holds whatever state it meant, with nothing pending
pub record Settles (before after : Memory) : Type 0 where
  pub settled : (state : State) → Means before state → IsAtRest after state
