-- Laws of the indices of device keys in a log. Does a device key ever sign two entries with one index?
use Rattle.std.specs.Prelude.{◌≡◌, ◌≢◌, List, [], ◌∷◌, ◌++◌, length}
use Rattle.mb_model.specs.declared.entry.SignedEntry.{SignedEntry}
use Rattle.mb_model.specs.declared.state.State.{State}
use Rattle.mb_model.specs.signatures.Merkle.{leaf_number}
use Rattle.mb_model.specs.memories.Valid.{IsValidState}
use Rattle.mb_model.specs.machine.Runs.{HasInCharge, SignsEntriesOnce}

-- each entry but the birth has a device key in charge, which an entry before it names
abbrev pub EachHasInCharge : Type 0
EachHasInCharge =
    (state : State) (before : List SignedEntry) (signed : SignedEntry) (rest : List SignedEntry) → IsValidState state
    → state.log ≡ before ++ signed ∷ rest → before ≢ []
    → (front : List SignedEntry) × (namer : SignedEntry) × (between : List SignedEntry)
    × (before ≡ front ++ namer ∷ between) × HasInCharge state.log front namer between signed

-- The index of an entry's signature is the number of entries between it and the one that names its key.
abbrev pub IndicesCountEntries : Type 0
IndicesCountEntries =
    (state : State) (front : List SignedEntry) (namer : SignedEntry) (between : List SignedEntry)
    (signed : SignedEntry) → IsValidState state → HasInCharge state.log front namer between signed
    → leaf_number signed.signature ≡ length between

-- No device key signs two entries with one index.
abbrev pub NoIndexSignsTwice : Type 0
NoIndexSignsTwice = (state : State) → IsValidState state → SignsEntriesOnce state.log
