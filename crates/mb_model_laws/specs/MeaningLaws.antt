-- Laws of images: what a memory means and what is wrong with it exclude each other. Can one image be taken for two?
use Rattle.std.specs.Prelude.{◌≡◌, ℕ, List, [], length, Option, None, Some}
use Rattle.mb_format.specs.Format.{IsBytes}
use Rattle.mb_model.specs.declared.key.KeySeed.{KeySeed}
use Rattle.mb_model.specs.declared.key.PublicKey.{PublicKey}
use Rattle.mb_model.specs.declared.state.State.{State}
use Rattle.mb_model.specs.owners.Log.{entries_of, layers_of}
use Rattle.mb_model.specs.memories.Memory.{IsBlank}
use Rattle.mb_model.specs.memories.Flash.{HoldsPublic}
use Rattle.mb_model.specs.memories.Meaning.{Contents, FlashForm, HoldsContents, StandsFor, IsWellFormedBy, IsWellFormed}
use Rattle.mb_model.specs.memories.Faults.{Fault, HasFaultBy}
use Rattle.mb_model.specs.memories.Clean.{root_of, IsCleanFor, Clean}
use Rattle.mb_model.specs.memories.Factory.{state_at_birth, IsFactoryImage}

-- ---- memories

-- the bytes of a memory hold at most one `Contents`
abbrev pub HoldsOneContents : Type 0
HoldsOneContents =
    (flash bbram : List ℕ) (a b : Contents) → IsBytes flash → IsBytes bbram
    → HoldsContents flash bbram a → HoldsContents flash bbram b → a ≡ b

-- the bytes of a memory mean one state at most
abbrev pub StandsForOne : Type 0
StandsForOne =
    (flash bbram : List ℕ) (a b : Option State) → IsBytes flash → IsBytes bbram
    → StandsFor flash bbram a → StandsFor flash bbram b → a ≡ b

-- ---- images, by a form of the flash

-- an image of bytes has one fault at most
abbrev pub OneFaultBy : FlashForm → Type 0
OneFaultBy Form =
    (image : List ℕ) (a b : Fault) → IsBytes image → HasFaultBy Form image a → HasFaultBy Form image b → a ≡ b

-- a well-formed image has no fault
abbrev pub WellFormedHasNoFaultBy : FlashForm → Type 0
WellFormedHasNoFaultBy Form =
    (image : List ℕ) (state : Option State) (fault : Fault) → IsBytes image
    → IsWellFormedBy Form image state → HasFaultBy Form image fault → ⊥

-- no image is neither well formed nor faulty
abbrev pub WellFormedOrFaultyBy : FlashForm → Type 0
WellFormedOrFaultyBy Form =
    (image : List ℕ) → ((state : Option State) → IsWellFormedBy Form image state → ⊥)
    → ((fault : Fault) → HasFaultBy Form image fault → ⊥) → ⊥

-- a well-formed image means one state
abbrev pub WellFormedStandsForOneBy : FlashForm → Type 0
WellFormedStandsForOneBy Form =
    (image : List ℕ) (a b : Option State) → IsBytes image
    → IsWellFormedBy Form image a → IsWellFormedBy Form image b → a ≡ b

-- an image of bytes in the current form of the flash has one fault at most
abbrev pub OneFault : Type 0
OneFault = OneFaultBy HoldsPublic

abbrev pub WellFormedHasNoFault : Type 0
WellFormedHasNoFault = WellFormedHasNoFaultBy HoldsPublic

abbrev pub WellFormedOrFaulty : Type 0
WellFormedOrFaulty = WellFormedOrFaultyBy HoldsPublic

abbrev pub WellFormedStandsForOne : Type 0
WellFormedStandsForOne = WellFormedStandsForOneBy HoldsPublic

-- ---- memories that are clean or written

-- a memory that is clean for a state means it, if the flash holds its codes and its log as the root names them
abbrev pub CleanStandsForIt : Type 0
CleanStandsForIt =
    (flash bbram : List ℕ) (state : State) (clean : IsCleanFor bbram state) → length flash ≡ 1048576
    → HoldsPublic flash (root_of state clean.area) state.codes state.log []
    → state.layers ≡ layers_of (entries_of state.log) → StandsFor flash bbram (Some state)

-- a memory that is all zero is clean for the dead device, and for no other
abbrev pub BlankIsDead : Type 0
BlankIsDead = (bbram : List ℕ) (state : Option State) → IsBlank bbram → Clean bbram state → state ≡ None

-- the image of a new device is well formed
abbrev pub FactoryImageIsWellFormed : Type 0
FactoryImageIsWellFormed =
    (maker : KeySeed) (index : ℕ) (owner : PublicKey) (code noise image : List ℕ)
    → IsFactoryImage maker index owner code noise image
    → IsWellFormed image (Some (state_at_birth maker index owner code noise))
