-- What the command `showimage` does. Is a device shown by its image alone, which stays as it is?
use Rattle.std.specs.Prelude.{◌≡◌, ℕ, Bool, List, codes, is_some, Option, None, Some}
use Rattle.mb_model.specs.declared.state.State.{State}
use Rattle.mb_model.specs.declared.stored.Root.{Root}
use Rattle.mb_model.specs.memories.Memory.{IsImage}
use Rattle.mb_model.specs.memories.Meaning.{RootIn}
use Rattle.mb_model.specs.chains.Lines.{text_of}
use Rattle.mb_model_commands.specs.Commands.{Command, read, find, print, refuse}
use Rattle.mb_model_commands.specs.Inputs.{image_input}
use Rattle.mb_tools_shown.specs.StateShown.{state_shown}

-- the name of the file
pub record ShowimageNames : Type 0 where
  pub image : List ℕ

-- the root record of the image says whether work is pending, which the next boot does
pub record TellsOfWork (image : List ℕ) (pending : Bool) : Type 0 where
  pub flash : List ℕ
  pub bbram : List ℕ
  pub image_is : IsImage image flash bbram
  pub root : Root
  pub holds : RootIn bbram root
  pub pending_is : pending ≡ is_some root.pending

-- a live device is shown; a dead one keeps nothing
abbrev pub show_device : List ℕ → Option State → Command
show_device bytes None = refuse (codes "zeroised")
show_device bytes (Some state) = find (TellsOfWork bytes) (λ pending. print (text_of (state_shown pending state)))

-- the image is read, and its device is shown
unfoldable pub showimage : ShowimageNames → Command
showimage names = read (image_input names.image) (λ image. show_device image.bytes image.state)
