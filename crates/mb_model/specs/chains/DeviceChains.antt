-- What holds of the chain of a device, and of a chain that is held against it. Is what a device hands out accepted
-- wherever its maker is trusted, and does an accepted chain list what the device's own log lists?
use Rattle.std.specs.Prelude.{◌≡◌, ℕ, List, ◌++◌, take, Some}
use Rattle.mb_format.specs.Format.{Spells}
use Rattle.mb_model.specs.declared.key.PublicKey.{PublicKey}
use Rattle.mb_model.specs.declared.entry.Chain.{Chain}
use Rattle.mb_model.specs.declared.entry.Entry.{Entry}
use Rattle.mb_model.specs.declared.state.Configuration.{Configuration}
use Rattle.mb_model.specs.declared.state.Report.{Report}
use Rattle.mb_model.specs.declared.state.State.{State}
use Rattle.mb_model.specs.owners.Log.{entries_of}
use Rattle.mb_model.specs.owners.Lives.{lives_of}
use Rattle.mb_model.specs.records.ChainFormat.{chain_format}
use Rattle.mb_model.specs.chains.Attach.{bare_chain}
use Rattle.mb_model.specs.chains.Acceptance.{IsBornOf, AreGood, KeyEntry, key_of, report_of, Accepts}
use Rattle.mb_model.specs.chains.Acceptance.{Verdict, chain_acceptance, IsVerdict, Honest}

-- The chain is the whole log of a device, without a statement. Under each key that signed the device's birth, no entry
-- is refused, and the chain is accepted for each key that was born in a region.
pub record IsChainOf (state : State) (chain : Chain) : Type 0 where
  pub is : chain ≡ bare_chain state.log
  pub good : (maker : PublicKey) → IsBornOf maker state.log → AreGood maker chain.entries
  pub accepted : (maker : PublicKey) (bytes : List ℕ) (key_number : ℕ) (made : KeyEntry)
      → IsBornOf maker state.log → Spells chain_format bytes chain
      → key_of (entries_of state.log) key_number ≡ Some made
      → Accepts maker bytes key_number (report_of chain key_number made)

-- the configurations in which the device held the key with this number, by the first `count` entries of its own log
abbrev pub own_lives : State → ℕ → ℕ → List Configuration
own_lives state count key_number = lives_of (take count (entries_of state.log)) key_number

-- The chain describes this device: its entries are a prefix of the device's log, and the verifier's list of
-- configurations is the device's own list up to there.
pub record TellsOfDevice (state : State) (key_number : ℕ) (chain : Chain) (report : Report) : Type 0 where
  pub later : List Entry
  pub begins : entries_of state.log ≡ entries_of chain.entries ++ later
  pub lists : report.lives ≡ own_lives state report.entries key_number

-- What an audit finds: the verdict on the chain. If the chain is accepted and has no forged entry, it describes the
-- device.
pub record IsAudited
    (state : State)
    (maker : PublicKey)
    (bytes : List ℕ)
    (key_number : ℕ)
    (verdict : Verdict) : Type 0 where
  pub is : IsVerdict maker bytes key_number verdict
  pub honest : (report : Report) (chain : Chain)
      → verdict ≡ chain_acceptance report → Spells chain_format bytes chain
      → Honest chain.entries maker (entries_of state.log) → TellsOfDevice state key_number chain report
