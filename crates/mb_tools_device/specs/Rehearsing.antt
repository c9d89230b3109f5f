-- How a rehearsal ends in which an event was not obeyed. Is the first such event told?
use Rattle.std.specs.Prelude.{◌≡◌, ◌⊎◌, ℕ, true, List, ◌∷◌, ◌++◌, length}
use Rattle.mb_model.specs.declared.event.Answered.{Answered}
use Rattle.mb_console.specs.declared.end.End.{End}
use Rattle.mb_console.specs.declared.end.End.TheVariants as end
use Rattle.mb_console.specs.Ending.{RefusesWith}
use Rattle.mb_tools_device.specs.RehearseCommand.{is_unobeyed, AllObeyed, Unobeyed, IsFirstUnobeyed, first_line}

-- the answer with this index, from 0, is the first to an event that was not obeyed
pub record IsUnobeyedAt (answered : List Answered) (index : ℕ) : Type 0 where
  pub before : List Answered
  pub this : Answered
  pub later : List Answered
  pub split : answered ≡ before ++ this ∷ later
  pub index_is : index ≡ length before
  pub obeyed : AllObeyed before
  pub unobeyed : is_unobeyed this.reply ≡ true

-- The command is refused with these lines and the line of the first event that was not obeyed, unless an allocation
-- failed.
abbrev pub TellsUnobeyed : List ℕ → List ℕ → List Answered → End → Type 0
TellsUnobeyed script lines answered why =
    ((first : Unobeyed) × IsFirstUnobeyed script answered first × RefusesWith (lines ++ first_line first) why)
    ⊎ (why ≡ end.NoMemory)
