-- How an event with a given outcome is answered, and what a power loss leaves of it. Is an answer given only once its
-- outcome is stored?
use Rattle.std.specs.Prelude.{◌≡◌, ◌⊎◌, false, Result, Ok, Err, IsTrue}
use Rattle.mb_model.specs.declared.reply.Reply.{Reply}
use Rattle.mb_model.specs.declared.reply.Reply.TheVariants as reply
use Rattle.mb_model.specs.declared.state.State.{State}
use Rattle.mb_model.specs.outside.Board.{Memory, Meter}
use Rattle.mb_model.specs.machine.LayerEvents.{Outcome}
use Rattle.mb_model.specs.machine.Machine.{may_be_cut}
use Rattle.mb_model_memory.specs.Holding.{Means, IsReady}

-- The answer to an event with this outcome, and the memory before and after it.
pub data IsAnswered (outcome : Outcome) (answer : Reply) (before after : Memory) : Type 0 where
  -- an allocation failed, and nothing has changed
  lacks : answer ≡ reply.NoMemory → after ≡ before → IsAnswered outcome answer before after
  -- the answer is the outcome's, and the memory is ready with the outcome's state
  tells : answer ≡ outcome.0 → IsReady after outcome.1 → IsAnswered outcome answer before after

-- Power failed while an event with this outcome was done: it counts wholly or not at all.
pub record IsCutShort (state : State) (outcome : Outcome) (after : Memory) : Type 0 where
  pub writes : IsTrue (may_be_cut outcome.0)
  pub counts : Means after state ⊎ Means after outcome.1

-- what comes of an event that has this outcome in this state
abbrev pub ComesTo : {S E : Type 0} → State → Outcome → Memory → Memory → Result (S × Reply) E → Type 0
ComesTo state outcome before after (Ok told) = IsAnswered outcome told.1 before after
ComesTo state outcome before after (Err stop) = IsCutShort state outcome after

-- if the answer is none of those to events that write, nothing was written
abbrev pub TellsOfWrites : {S E : Type 0} → Result (S × Reply) E → Memory → Memory → Meter → Meter → Type 0
TellsOfWrites (Ok told) before after old new = may_be_cut told.1 ≡ false → (after ≡ before) × (new ≡ old)
TellsOfWrites (Err stop) before after old new = Unit {0}
