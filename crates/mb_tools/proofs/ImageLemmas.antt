-- How a command ends at an image, and what is known of the state of one.
use Rattle.std.proofs.Common.{◌≡◌, ℕ, List, Option, None, Some, refl, sym, subst}
use Rattle.std.specs.Prelude.{IfSome}
use Rattle.mb_model.specs.declared.state.State.{State}
use Rattle.mb_model.specs.memories.Meaning.{IsWellFormed}
use Rattle.mb_model.specs.memories.Faults.{Fault, HasFault as IsAtFault}
use Rattle.mb_model_commands.specs.Outside.{Outside, read_once}
use Rattle.mb_model_commands.specs.Commands.{HasRead}
use Rattle.mb_model_commands.specs.Inputs.{image_input}
use Rattle.mb_model_memory.specs.Storable.{Storable}
use Rattle.mb_model_memory.proofs.StorableMemories.{stands_storable}
use Rattle.mb_console.specs.declared.end.End.{End}
use Rattle.mb_console.specs.Ending.{StopsAt}
use Rattle.mb_tools.specs.Images.{TellsFault}

pub image_stops : (name bytes : List ℕ) (before now : Outside) (found : Option Fault) (why : End) → HasRead before name bytes → now ≡ read_once before
    → IfSome found (λ fault. IsAtFault bytes fault) → TellsFault found why → StopsAt (image_input name) before now why
image_stops name bytes before now (Some faulty) why read now_is has tells =
    subst (λ w. StopsAt (image_input name) before now w) (sym tells)
    (record { role_is = refl; bytes = bytes; read = read; fault = (faulty, refl, has); now_is = now_is })
image_stops name bytes before now None why read now_is none tells =
    subst (λ w. StopsAt (image_input name) before now w) (sym tells) now_is

-- the state of an image can be stored
pub image_stored : (image : List ℕ) (state : Option State) → IsWellFormed image state → Storable state
image_stored image None held = tt
image_stored image (Some state) held = stands_storable held.flash held.bbram state held.stands held.valid
