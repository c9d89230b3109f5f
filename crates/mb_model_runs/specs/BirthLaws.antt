-- Laws of the chain that a device hands out. Is each key that was born in a device accepted?
use Rattle.std.specs.Prelude.{◌≡◌, ℕ, List, ◌∷◌, ◌++◌}
use Rattle.mb_format.specs.Format.{Spells}
use Rattle.mb_model.specs.declared.key.PublicKey.{PublicKey}
use Rattle.mb_model.specs.declared.order.KeyKind.{KeyKind}
use Rattle.mb_model.specs.declared.entry.Entry.{Entry}
use Rattle.mb_model.specs.declared.entry.Entry.TheVariants.{NewKey}
use Rattle.mb_model.specs.declared.state.State.{State}
use Rattle.mb_model.specs.owners.Log.{entries_of}
use Rattle.mb_model.specs.records.ChainFormat.{chain_format}
use Rattle.mb_model.specs.memories.Valid.{IsValidState}
use Rattle.mb_model.specs.chains.Attach.{bare_chain}
use Rattle.mb_model.specs.chains.Acceptance.{IsBornOf, AreGood, report_of, Accepts}
use Rattle.mb_model.specs.chains.DeviceChains.{IsChainOf}

-- If the maker signed the birth, each entry of a valid state's log follows from those before it, as a verifier checks.
abbrev pub LogsAreGood : Type 0
LogsAreGood =
    (maker : PublicKey) (state : State) → IsValidState state → IsBornOf maker state.log → AreGood maker state.log

-- If the maker signed the birth, the chain of a valid state's log is accepted for each region key that was born in it.
abbrev pub BornKeysAreAccepted : Type 0
BornKeysAreAccepted =
    (maker : PublicKey) (state : State) (bytes : List ℕ) (before : List Entry) (position number n L : ℕ)
    (kind : KeyKind) (key : PublicKey) (later : List Entry)
    → IsValidState state → IsBornOf maker state.log → Spells chain_format bytes (bare_chain state.log)
    → entries_of state.log ≡ before ++ NewKey position number n L kind key ∷ later
    → Accepts maker bytes n (report_of (bare_chain state.log) n (record { layer = L; kind = kind; key = key }))

-- the chain of a valid state's log is what a device hands out
abbrev pub DeviceChainsAreWhole : Type 0
DeviceChainsAreWhole = (state : State) → IsValidState state → IsChainOf state (bare_chain state.log)
