-- The two runs of `cutat` as they are served, and what each leaves. Is it said from which image a state was read?
use Rattle.std.specs.Prelude.{◌≡◌, ℕ, ◌≤◌, false, List, length, All, Option}
use Rattle.mb_model.specs.declared.event.Event.{Event}
use Rattle.mb_model.specs.declared.limits.TheConstants.{EVENT_LIMIT}
use Rattle.mb_model.specs.declared.state.State.{State}
use Rattle.mb_model.specs.outside.Board.{Held, AreBytes, IsLoaded, image_of}
use Rattle.mb_model.specs.chains.Script.{IsScriptEvent}
use Rattle.mb_tools_device.specs.MachineRuns.{is_cut}
use Rattle.mb_tools_device.specs.CutCommand.{CutRun, ShowsState, cut_events}

-- The events of both runs can be served: none of the script's is a cut, a line can give each, and they are not too
-- many.
pub record CanBeCut (count : ℕ) (cut : CutRun) : Type 0 where
  pub uncut : All (λ e. is_cut e ≡ false) cut.first
  pub last : is_cut cut.last ≡ false
  pub first : All IsScriptEvent cut.first
  pub first_most : length cut.first ≤ EVENT_LIMIT
  pub second : All IsScriptEvent (cut_events count cut)
  pub most : length (cut_events count cut) ≤ EVENT_LIMIT

-- These are the events of both runs.
pub record AreRuns (count : ℕ) (first second : List Event) (cut : CutRun) : Type 0 where
  pub first_is : first ≡ cut.first
  pub second_is : second ≡ cut_events count cut
  pub can : CanBeCut count cut

-- What a board holds shows a state, and this is its image.
pub record IsImageLeft (held : Held) (image : List ℕ) : Type 0 where
  pub state : Option State
  pub shows : ShowsState held state
  pub bytes : AreBytes held.memory
  pub loaded : IsLoaded held.memory
  pub image_is : image ≡ image_of held.memory
