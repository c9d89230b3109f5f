-- What `showimage` does not tell. Can one learn a seed or a secret from what is printed?
use Rattle.std.specs.Prelude.{◌≡◌, ◌≢◌, ℕ, ◌<◌, ◌^◌, Bool, List, length, Some}
use Rattle.std.specs.List.{AllZip}
use Rattle.mb_format.specs.Format.{IsBytes}
use Rattle.mb_model.specs.declared.region.Region.{Region}
use Rattle.mb_model.specs.declared.region.RegionKey.{RegionKey}
use Rattle.mb_model.specs.declared.region.Secret.{Secret}
use Rattle.mb_model.specs.declared.state.State.{State}
use Rattle.mb_model.specs.memories.Meaning.{IsWellFormed}
use Rattle.mb_model.specs.chains.Lines.{text_of}
use Rattle.mb_tools_shown.specs.ShowimageCommand.{TellsOfWork}
use Rattle.mb_tools_shown.specs.StateShown.{state_shown, secret_shown}

-- two secrets have one name, and values of one length
pub record DifferInValue (one other : Secret) : Type 0 where
  pub name : one.name ≡ other.name
  pub count : length one.value ≡ length other.value

-- two keys have one number and one kind, and have signed as often
pub record DifferInSeed (one other : RegionKey) : Type 0 where
  pub number : one.number ≡ other.number
  pub kind : one.kind ≡ other.kind
  pub uses : one.uses ≡ other.uses

-- two regions have the same secrets and keys, in the same order, but for values of secrets and seeds of keys
pub record HoldAlikeSecrets (one other : Region) : Type 0 where
  pub secrets : AllZip DifferInValue one.secrets other.secrets
  pub keys : AllZip DifferInSeed one.keys other.keys

-- Two states are the same but for seeds and for the bytes of secrets, and for what is not shown at all: the codes, and
-- when each secret was put.
pub record DifferInSecrets (one other : State) : Type 0 where
  pub serial : one.serial ≡ other.serial
  pub layers : one.layers ≡ other.layers
  pub log : one.log ≡ other.log
  pub uses : one.uses ≡ other.uses
  pub two : HoldAlikeSecrets one.two other.two
  pub three : HoldAlikeSecrets one.three other.three

-- this text shows the device of the image
pub record ShowsImage (image text : List ℕ) (state : State) : Type 0 where
  pub formed : IsWellFormed image (Some state)
  pub pending : Bool
  pub tells : TellsOfWork image pending
  pub shown : text ≡ text_of (state_shown pending state)

-- Images of two such states, in both of which work is pending or in neither, are shown by one text.
abbrev pub SecretsAreNotShown : Type 0
SecretsAreNotShown =
    (image changed text line : List ℕ) (one other : State) (pending : Bool)
    → IsBytes image → IsBytes changed → ShowsImage image text one → ShowsImage changed line other
    → DifferInSecrets one other → TellsOfWork image pending → TellsOfWork changed pending → text ≡ line

-- The length of a value is shown: two secrets whose values differ in it have two lines.
abbrev pub LengthsAreShown : Type 0
LengthsAreShown =
    (region : ℕ) (one other : Secret) → length one.value < 2 ^ 64 → length other.value < 2 ^ 64
    → one.name ≡ other.name → length one.value ≢ length other.value
    → secret_shown region one ≢ secret_shown region other
