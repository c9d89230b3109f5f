-- Laws of `app` from the bytes of two images. Does it tell of an image more than the application may see?
use Rattle.std.specs.Prelude.{◌≡◌, ◌≢◌, ◌≤◌, ℕ, List, [], ◌∷◌, length, codes, find, None, Some}
use Rattle.mb_format.specs.Format.{IsBytes}
use Rattle.mb_model.specs.declared.region.Secret.{Secret}
use Rattle.mb_model.specs.declared.state.State.{State}
use Rattle.mb_model.specs.machine.LayerEvents.{has_name}
use Rattle.mb_model.specs.owners.Layers.{Runnable}
use Rattle.mb_model.specs.memories.Meaning.{IsWellFormed}
use Rattle.mb_model_commands.specs.Commands.{Past, Ended, CommandEnds}
use Rattle.mb_model_commands.specs.Outside.{Outside}
use Rattle.mb_model_histories.specs.KeyFileLaws.{Files}
use Rattle.mb_tools_app.specs.AppCommand.{AppNames, app}
use Rattle.mb_tools_app.specs.Seeing.{AgreeFor, ShowsPrinted}

-- Two images agree on what a layer sees: both are of dead devices, or of live ones whose states agree on it.
pub data AreAlikeFor (layer : ℕ) (image other : List ℕ) : Type 0 where
  dead_alike : IsWellFormed image None → IsWellFormed other None → AreAlikeFor layer image other
  live_alike : (state twin : State) → IsWellFormed image (Some state) → IsWellFormed other (Some twin)
      → AgreeFor layer state twin → AreAlikeFor layer image other

-- IMAGE holds this image among the one files, and that one among the others. INPUT is the same.
pub record HoldImages
    (names : AppNames)
    (files now : Files)
    (image other : List ℕ) : Type 0 where
  pub image_held : files names.image ≡ Some image
  pub other_held : now names.image ≡ Some other
  pub input : now names.input ≡ files names.input
  pub are_bytes : IsBytes other

-- the world outside, with these files
abbrev pub with_files : Files → Outside → Outside
with_files files outside = record outside { files = Some files }

-- the end, with these files before and after it
abbrev pub over_files : Files → Ended → Ended
over_files files ending =
    record ending { before = with_files files ending.before; after = with_files files ending.after }

-- Each end of `app` over an image is one over each other image that agrees on what the layer sees, with the same status
-- and the same printed bytes. It leaves all files as they were.
abbrev pub ImagesAlikeHaveEqualEnds : Type 0
ImagesAlikeHaveEqualEnds =
    (names : AppNames) (past : Past) (ending : Ended) (files now : Files) (image other : List ℕ)
    → ending.before.files ≡ Some files → HoldImages names files now image other → AreAlikeFor names.layer image other
    → CommandEnds (app names) past ending
    → CommandEnds (app names) past (over_files now ending) × (ending.after.files ≡ Some files)

-- Two ends of `app` over two images that agree on what the layer sees, if both show what they print, print the same,
-- with the same status.
abbrev pub ImagesAlikeHaveEqualLines : Type 0
ImagesAlikeHaveEqualLines =
    (names : AppNames) (past other_past : Past) (ending other_ending : Ended) (files now : Files)
    (image other text line : List ℕ) → ending.before.files ≡ Some files → other_ending.before.files ≡ Some now
    → HoldImages names files now image other → AreAlikeFor names.layer image other
    → CommandEnds (app names) past ending → ShowsPrinted ending text
    → CommandEnds (app names) other_past other_ending → ShowsPrinted other_ending line
    → (text ≡ line) × (ending.status ≡ other_ending.status)

-- The layers are seen: over an image in whose state the layer may run, and one in whose state it may not, the command
-- prints different lines, even if nothing else differs.
abbrev pub LayersAreSeen : Type 0
LayersAreSeen =
    (names : AppNames) (past other_past : Past) (ending other_ending : Ended) (files now : Files)
    (image other text line : List ℕ) (state twin : State)
    → ending.before.files ≡ Some files → other_ending.before.files ≡ Some now
    → HoldImages names files now image other
    → IsWellFormed image (Some state) → Runnable state.layers names.layer
    → IsWellFormed other (Some twin) → (Runnable twin.layers names.layer → ⊥)
    → CommandEnds (app names) past ending → ShowsPrinted ending text
    → CommandEnds (app names) other_past other_ending → ShowsPrinted other_ending line → text ≢ line

-- A code that copies the secret `a` of region 2 to the end of the memory, where only an empty value has room, and
-- halts: `push 1024`, `push 2`, `get a`, `halt`.
abbrev pub copying_code : List ℕ
copying_code =
    0x01 ∷ 0x00 ∷ 0x00 ∷ 0x04 ∷ 0x00 ∷ 0x01 ∷ 0x00 ∷ 0x00 ∷ 0x00 ∷ 0x02 ∷ 0x43 ∷ 0x01 ∷ 0x61 ∷ 0x00 ∷ []

-- The image means a state in which layer 2 may run and has that code, and the secret `a` of region 2 has this value.
pub record HasCopyingCode (image value : List ℕ) (state : State) : Type 0 where
  pub formed : IsWellFormed image (Some state)
  pub runs : Runnable state.layers 2
  pub code : state.codes.two ≡ Some copying_code
  pub secret : Secret
  pub found : find (has_name (codes "a")) state.two.secrets ≡ Some secret
  pub value_is : secret.value ≡ value

-- Secrets of a region that the layer may read are seen: over an image where the value is empty, and one where it is
-- not, the command prints different lines, even if nothing else differs.
abbrev pub SecretsAreSeen : Type 0
SecretsAreSeen =
    (image_name input_name : List ℕ)
    → let names : AppNames = record { image = image_name; layer = 2; input = input_name; steps = 4 } in
    (past other_past : Past) (ending other_ending : Ended) (files now : Files)
    (image other text line value : List ℕ) (state twin : State) → ending.before.files ≡ Some files
    → other_ending.before.files ≡ Some now → HoldImages names files now image other
    → HasCopyingCode image [] state → HasCopyingCode other value twin → 1 ≤ length value
    → CommandEnds (app names) past ending → ShowsPrinted ending text
    → CommandEnds (app names) other_past other_ending → ShowsPrinted other_ending line → text ≢ line
