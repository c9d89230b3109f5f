-- A device in use, from its birth to a statement that is accepted. Can what the other laws ask for be met?
use Rattle.std.specs.Prelude.{◌≡◌, ℕ, ◌+◌, ◌<◌, ◌≤◌, List, false, length, All, Contains, Option, Some}
use Rattle.mb_model.specs.declared.entry.Said.{Said}
use Rattle.mb_model.specs.declared.entry.Said.TheVariants.{Message}
use Rattle.mb_model.specs.declared.entry.Statement.{Statement}
use Rattle.mb_model.specs.declared.event.Answered.{Answered}
use Rattle.mb_model.specs.declared.key.KeySeed.{KeySeed}
use Rattle.mb_model.specs.declared.key.PublicKey.{PublicKey}
use Rattle.mb_model.specs.declared.limits.TheConstants.{DRAW_LENGTH, ENTRY_LIMIT}
use Rattle.mb_model.specs.declared.order.Payload.{Payload}
use Rattle.mb_model.specs.declared.region.RegionKey.{RegionKey}
use Rattle.mb_model.specs.declared.state.Report.{Report}
use Rattle.mb_model.specs.declared.state.State.{State}
use Rattle.mb_model.specs.declared.tools.Keyfile.{Keyfile}
use Rattle.mb_model.specs.chains.Acceptance.{Accepts, Honest}
use Rattle.mb_model.specs.machine.Actions.{begins_with_call_word}
use Rattle.mb_model.specs.memories.Factory.{state_at_birth, IsFactoryImage}
use Rattle.mb_model.specs.owners.Layers.{Runnable}
use Rattle.mb_model.specs.owners.Log.{entries_of}
use Rattle.mb_model.specs.machine.Machine.{World, opening_world}
use Rattle.mb_model.specs.owners.Regions.{region_of}
use Rattle.mb_model.specs.chains.Script.{IsScriptEvent, FitsMessage}
use Rattle.mb_model.specs.signatures.Signing.{public_of}
use Rattle.mb_model_histories.specs.AcceptanceLaws.{HonestStatement}
use Rattle.mb_model_histories.specs.Histories.{History, all_answered, ComesAfter}
use Rattle.mb_model_histories.specs.RepairLaws.{CanBeLoaded}

-- What a device begins with: the maker's key and an index of it, the keys of the owners of layers 1 and 2, the code of
-- layer 1, the noise of the birth, what is loaded into layer 2, and the noise of an order.
pub record Beginning : Type 0 where
  pub maker : KeySeed
  pub index : ℕ
  pub first : Keyfile
  pub second : Keyfile
  pub code : List ℕ
  pub noise : List ℕ
  pub payload : Payload
  pub draw : List ℕ

-- The maker's key has this index, the first owner's two left, and the second owner's one. Key, load and noise have
-- their lengths.
pub record CanBegin (its : Beginning) : Type 0 where
  pub index : its.index < 32
  pub first : its.first.next + 1 < 32
  pub second : its.second.next < 32
  pub sized : length its.second.seed.identifier ≡ 16
  pub payload : CanBeLoaded its.payload
  pub draw : length its.draw ≡ DRAW_LENGTH

-- the state of the device at its birth
abbrev pub state_begun : Beginning → State
state_begun its = state_at_birth its.maker its.index (public_of its.first.seed) its.code its.noise

-- ---- a key

-- By events of scripts, a history leads from this state to one in which layer 2 may run, has this code, and has this
-- key, which has signed nothing.
pub record ComesToKey (first : Option State) (code : List ℕ) (state : State) (key : RegionKey) : Type 0 where
  pub runs : List (List Answered)
  pub history : History first runs (Some state)
  pub scripts : All (λ this. IsScriptEvent this.event) (all_answered runs)
  pub within : Contains (region_of state 2).keys key
  pub unused : key.uses ≡ 0
  pub may_run : Runnable state.layers 2
  pub stored : state.codes.two ≡ Some code

-- With three orders a device comes from its birth to a key: layer 2 gets an owner, then code, and its owner makes the
-- key.
abbrev pub KeysCanBeMade : Type 0
KeysCanBeMade =
    (its : Beginning) → CanBegin its
    → (state : State) × (key : RegionKey) × ComesToKey (Some (state_begun its)) its.payload.code state key

-- ---- a statement

-- After this world the device made a statement that says this, and its chain is accepted with it. No entry was forged,
-- and neither was the statement. With a first state that a device can have, which a factory image means, this is all
-- that `AcceptedStatementsWereMade` asks for.
pub record ShowsStatement (maker : PublicKey) (first : World) (said : Said) : Type 0 where
  pub last : World
  pub live : State
  pub bytes : List ℕ
  pub key_number : ℕ
  pub report : Report
  pub statement : Statement
  pub accepts : Accepts maker bytes key_number report
  pub comes : ComesAfter last first
  pub is : last.state ≡ Some live
  pub few : length live.log ≤ ENTRY_LIMIT
  pub honest : Honest accepts.chain.entries maker (entries_of live.log)
  pub stated : accepts.chain.statement ≡ Some statement
  pub said_is : statement.said ≡ said
  pub not_forged : HonestStatement first last (entries_of live.log) key_number statement

-- From each image of a factory a device comes to a statement of whatever message, if what is loaded takes no calls.
abbrev pub StatementsCanBeMade : Type 0
StatementsCanBeMade =
    (its : Beginning) (image message : List ℕ) → CanBegin its
    → IsFactoryImage its.maker its.index (public_of its.first.seed) its.code its.noise image → FitsMessage message
    → begins_with_call_word its.payload.code ≡ false
    → ShowsStatement (public_of its.maker) (opening_world (Some (state_begun its))) (Message message)
