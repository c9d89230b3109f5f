-- The rules at work on small layers; the checker computes each line. Do the definitions say what their words say?
use Rattle.std.specs.Prelude.{◌≡◌, ℕ, ◌∷◌, ◌++◌, [], List, map, true, false, replicate, None, Some}
use Rattle.sha2.specs.Sha256.{sha256}
use Rattle.mb_model.specs.declared.key.PublicKey.{PublicKey}
use Rattle.mb_model.specs.declared.key.Tree.TheVariants.{H5}
use Rattle.mb_model.specs.declared.key.Chains.TheVariants.{W4}
use Rattle.mb_model.specs.declared.key.Trust.{Trust}
use Rattle.mb_model.specs.declared.key.Trust.TheVariants.{Always, Never, Countersigned}
use Rattle.mb_model.specs.declared.layer.Layer.{Layer}
use Rattle.mb_model.specs.declared.layer.Layers.{Layers}
use Rattle.mb_model.specs.declared.layer.Pair.{Pair}
use Rattle.mb_model.specs.declared.order.Payload.{Payload}
use Rattle.mb_model.specs.declared.order.Act.TheVariants as act
use Rattle.mb_model.specs.declared.order.ChangeKind.TheVariants.{Establish, Surrender, Load, Emergency}
use Rattle.mb_model.specs.declared.order.KeyKind.TheVariants as kinds
use Rattle.mb_model.specs.declared.entry.Entry.{Entry}
use Rattle.mb_model.specs.declared.entry.Entry.TheVariants.{Birth, Change, NewKey}
use Rattle.mb_model.specs.declared.order.Target.TheVariants as target
use Rattle.mb_model.specs.declared.reply.Standing.TheVariants as stands
use Rattle.mb_model.specs.signatures.Key.{key_bytes}
use Rattle.mb_model.specs.owners.Layers.{equal_trusts, layer_without_owner, layer_standing}
use Rattle.mb_model.specs.owners.Log.{number_of, layers_of, device_of, uses_of_device_key, keys_made_by}
use Rattle.mb_model.specs.owners.Lives.{lives_of}
use Rattle.mb_model.specs.owners.Rules.{authority, stands_for_order, TargetHolds, admits, after, layer_from_order}

abbrev pub officer : ℕ → PublicKey
officer n = record { tree = H5; chains = W4; identifier = replicate 16 n; root = replicate 32 n }

-- a layer with an owner and no code
abbrev pub bare : ℕ → Trust → Layer
bare n trust = record { owner = Some (officer n); code = None; reliable = false; trust = equal_trusts trust }

-- a layer with an owner and reliable code
abbrev pub running : ℕ → Trust → Layer
running n trust =
    record {
      owner = Some (officer n);
      code = Some (record { hash = replicate 32 n; version = 1 });
      reliable = true;
      trust = equal_trusts trust;
    }

-- layer n after a load of this code by its owner, or from beneath
abbrev loaded_with : ℕ → Trust → List ℕ → Layer
loaded_with n trust code =
    record {
      owner = Some (officer n);
      code = Some (record { hash = sha256 code; version = 7 });
      reliable = true;
      trust = equal_trusts trust;
    }

-- layer n with an owner and code, no longer reliable
abbrev doubted : ℕ → Trust → Layer
doubted n trust = record (running n trust) { reliable = false }

abbrev newborn_layers : Layers
newborn_layers = record { one = running 1 Always; two = layer_without_owner; three = layer_without_owner }

abbrev established : Layers
established = record { one = running 1 Always; two = bare 2 Never; three = layer_without_owner }

-- all layers run; layer 2 has this trust, and layer 3 trusts what its owner countersigns
abbrev all_run : Trust → Layers
all_run trust = record { one = running 1 Always; two = running 2 trust; three = running 3 Countersigned }

abbrev pub nobody : Pair
nobody = record { two = false; three = false }

abbrev pub by_two : Pair
by_two = record { two = true; three = false }

abbrev pub by_three : Pair
by_three = record { two = false; three = true }

-- all layers run, and layer 3 has these trusts in layers 1 and 2
abbrev trusts_apart : Trust → Trust → Layers
trusts_apart one two = record (all_run Always) {
  three = record (running 3 Always) { trust = record { one = one; two = two } };
}

-- which changes layers 2 and 3 admit, by their trusts and by who countersigned
pub record AdmissionExamples : Type 0 where
  pub always : admits (all_run Always) Load 1 nobody 2 ≡ true
  pub never : admits (all_run Never) Load 1 by_two 2 ≡ false
  pub countersigned : admits (all_run Countersigned) Load 1 by_two 2 ≡ true
  pub not_countersigned : admits (all_run Countersigned) Load 1 nobody 2 ≡ false
  pub countersigned_by_another : admits (all_run Countersigned) Load 1 by_three 2 ≡ false
  -- the emergency load of layer 2, as layer 3 sees it
  pub emergency_beneath : admits (all_run Never) Emergency 2 by_three 3 ≡ true
  -- layer 3 trusts loads of layer 1 always and loads of layer 2 never
  pub trusts_one : admits (trusts_apart Always Never) Load 1 nobody 3 ≡ true
  pub distrusts_two : admits (trusts_apart Always Never) Load 2 by_three 3 ≡ false
  -- layer 3 trusts loads of layer 1 never and loads of layer 2 always
  pub distrusts_one : admits (trusts_apart Never Always) Load 1 by_three 3 ≡ false
  pub trusts_two : admits (trusts_apart Never Always) Emergency 2 nobody 3 ≡ true
  -- a layer admits its own ordinary load and not its own emergency load, whatever it trusts
  pub own_load : admits (all_run Never) Load 2 nobody 2 ≡ true
  pub own_emergency : admits (all_run Always) Emergency 2 by_two 2 ≡ false
  -- no layer admits a surrender or an establish beneath it
  pub surrender_beneath : admits (all_run Always) Surrender 2 by_three 3 ≡ false
  pub establish_beneath : admits (all_run Always) Establish 2 by_three 3 ≡ false

-- when an order may be given
pub record ConditionExamples : Type 0 where
  pub establish : stands_for_order newborn_layers (Some Establish) 2 ≡ true
  pub establish_owned : stands_for_order established (Some Establish) 2 ≡ false
  pub establish_over_unowned : stands_for_order newborn_layers (Some Establish) 3 ≡ false
  pub establish_one : stands_for_order newborn_layers (Some Establish) 1 ≡ false
  pub surrender : stands_for_order established (Some Surrender) 2 ≡ true
  pub surrender_unowned : stands_for_order newborn_layers (Some Surrender) 2 ≡ false
  pub surrender_one : stands_for_order newborn_layers (Some Surrender) 1 ≡ false
  pub load_one : stands_for_order newborn_layers (Some Load) 1 ≡ true
  pub load_unreliable : stands_for_order established (Some Load) 2 ≡ false
  pub emergency : stands_for_order established (Some Emergency) 2 ≡ true
  pub emergency_unowned : stands_for_order newborn_layers (Some Emergency) 2 ≡ false
  pub emergency_one : stands_for_order newborn_layers (Some Emergency) 1 ≡ false
  pub new_key : stands_for_order (all_run Never) None 3 ≡ true
  pub new_key_unreliable : stands_for_order established None 2 ≡ false
  pub new_key_one : stands_for_order newborn_layers None 1 ≡ false
  -- layer 3 is reliable, and may not run over layer 2, which is not
  pub new_key_not_runnable : stands_for_order (record (all_run Never) { two = doubted 2 Never }) None 3 ≡ false

-- who has to sign
pub record AuthorityExamples : Type 0 where
  pub establish : authority newborn_layers (Some Establish) 2 ≡ Some (officer 1)
  pub surrender : authority established (Some Surrender) 2 ≡ Some (officer 2)
  pub load : authority (all_run Never) (Some Load) 3 ≡ Some (officer 3)
  pub emergency : authority (all_run Never) (Some Emergency) 3 ≡ Some (officer 2)
  pub new_key : authority (all_run Never) None 3 ≡ Some (officer 3)
  -- nobody may give an order over an unowned layer
  pub over_unowned : authority newborn_layers (Some Emergency) 3 ≡ None

-- which targets hold of a device with this serial, whose log is its birth
pub record TargetExamples (serial : List ℕ) : Type 0 where
  pub same_serial : TargetHolds serial newborn_layers 1 (target.Serial serial)
  pub length : TargetHolds serial newborn_layers 1 (target.Length 1)
  pub other_length : TargetHolds serial newborn_layers 1 (target.Length 7) → ⊥
  pub owner : TargetHolds serial newborn_layers 1 (target.Owner 1 (sha256 (key_bytes (officer 1))))
  pub unowned_layer : (hash : List ℕ) → TargetHolds serial newborn_layers 1 (target.Owner 2 hash) → ⊥
  pub code : TargetHolds serial newborn_layers 1 (target.Code 1 (replicate 32 1))
  pub no_code : (hash : List ℕ) → TargetHolds serial newborn_layers 1 (target.Code 2 hash) → ⊥

-- how layers stand, as a device reports it
pub record StandingExamples : Type 0 where
  pub one : layer_standing (record (all_run Never) { two = doubted 2 Never }) 1 ≡ stands.Runnable
  pub two : layer_standing (record (all_run Never) { two = doubted 2 Never }) 2 ≡ stands.Unreliable
  pub three : layer_standing (record (all_run Never) { two = doubted 2 Never }) 3 ≡ stands.Reliable
  pub unowned_layer : layer_standing newborn_layers 2 ≡ stands.Unowned

-- a load of version 7
abbrev pub seven : Trust → List ℕ → Payload
seven trust code = record { version = 7; trust = equal_trusts trust; code = code }

-- what each kind of change leaves of the layers
pub record AfterExamples : Type 0 where
  pub establish : after newborn_layers Establish 2 nobody
      (layer_from_order layer_without_owner (act.Establish (officer 2) (equal_trusts Never)))
      ≡ established
  -- layer 3 keeps its owner and its code, and is reliable no more
  pub surrender : after (all_run Always) Surrender 2 nobody (layer_from_order (running 2 Always) act.Surrender)
      ≡ record { one = running 1 Always; two = layer_without_owner; three = doubted 3 Countersigned }
  -- layer 2 trusts the load of layer 1, and layer 3 would have had to countersign it
  pub load : (code : List ℕ)
      → after (all_run Always) Load 1 nobody (layer_from_order (running 1 Always) (act.Load (seven Never code)))
      ≡ record { one = loaded_with 1 Never code; two = running 2 Always; three = doubted 3 Countersigned }
  -- layer 3 countersigned, and layer 2 trusts never
  pub load_countersigned : (code : List ℕ)
      → after (all_run Never) Load 1 by_three (layer_from_order (running 1 Always) (act.Load (seven Always code)))
      ≡ record { one = loaded_with 1 Always code; two = doubted 2 Never; three = running 3 Countersigned }
  -- layer 2 is reliable again; layer 3 countersigned and stays reliable, and layer 1 stays as it is
  pub emergency : (code : List ℕ)
      → after (all_run Never) Emergency 2 by_three
      (layer_from_order (doubted 2 Never) (act.Emergency (seven Always code)))
      ≡ record { one = running 1 Always; two = loaded_with 2 Always code; three = running 3 Countersigned }

abbrev pub by_both : Pair
by_both = record { two = true; three = true }

abbrev pub layers_with : Layer → Layer → Layer → Layers
layers_with one two three = record { one = one; two = two; three = three }

-- layer n after its second load
abbrev pub renewed : ℕ → Trust → Layer
renewed n trust =
    record {
      owner = Some (officer n);
      code = Some (record { hash = replicate 32 n; version = 2 });
      reliable = true;
      trust = equal_trusts trust;
    }

-- the layers of a device's history, in turn
abbrev pub at_birth : Layers
at_birth = layers_with (running 1 Always) layer_without_owner layer_without_owner

abbrev pub with_two : Layers
with_two = layers_with (running 1 Always) (bare 2 Countersigned) layer_without_owner

abbrev pub with_three : Layers
with_three = layers_with (running 1 Always) (bare 2 Countersigned) (bare 3 Countersigned)

abbrev pub two_runs : Layers
two_runs = layers_with (running 1 Always) (running 2 Countersigned) (bare 3 Countersigned)

abbrev pub three_runs : Layers
three_runs = layers_with (running 1 Always) (running 2 Countersigned) (running 3 Countersigned)

abbrev pub one_renewed : Layers
one_renewed = layers_with (renewed 1 Always) (running 2 Countersigned) (running 3 Countersigned)

abbrev pub three_renewed : Layers
three_renewed = layers_with (renewed 1 Always) (running 2 Countersigned) (renewed 3 Countersigned)

-- A history that began in version 1 and goes on in version 2: layers 2 and 3 get owners and code, layer 3 gets a key,
-- layer 1 is loaded as 2 and 3 countersign, and layer 3 is loaded. The keys are numbered 0 (the first device key), 1
-- (the key of layer 3) and 2 (the next device key).
abbrev pub life : List Entry
life =
    Birth 1 (replicate 16 9) (officer 10) at_birth
    ∷ Change 2 1 1 Establish 2 nobody with_two nobody None
    ∷ Change 2 2 2 Establish 3 nobody with_three by_two None
    ∷ Change 2 3 3 Emergency 2 nobody two_runs nobody None
    ∷ Change 2 4 4 Emergency 3 nobody three_runs by_two None
    ∷ NewKey 5 4 1 3 kinds.Epoch (officer 11)
    ∷ Change 2 6 5 Load 1 by_both one_renewed by_both (Some (officer 12))
    ∷ Change 2 7 6 Load 3 nobody three_renewed by_both None
    ∷ []

-- what the entries of `life` say together
pub record LogExamples : Type 0 where
  pub number : number_of life ≡ 6
  pub layers : layers_of life ≡ three_renewed
  pub device : device_of life ≡ Some (officer 12)
  -- the second device key signed the last entry alone
  pub used : uses_of_device_key life ≡ 1
  pub made : keys_made_by life ≡ 3

-- `life` with two more entries: a configuration key of layer 2, and a load of layer 3
abbrev pub longer_life : List Entry
longer_life =
    life ++ NewKey 8 6 3 2 kinds.Configuration (officer 13)
    ∷ Change 2 9 7 Load 3 nobody three_renewed by_both None
    ∷ []

-- the numbers of the configurations in which a key lived
abbrev numbers_of : List Entry → ℕ → List ℕ
numbers_of log key_number = map (λ item. item.number) (lives_of log key_number)

-- in which configurations the keys of `life` and `longer_life` lived
pub record LifeExamples : Type 0 where
  pub epoch_key : lives_of life 1 ≡
      record { number = 4; upto = 3; layers = three_runs }
      ∷ record { number = 5; upto = 3; layers = one_renewed }
      ∷ record { number = 6; upto = 3; layers = three_renewed }
      ∷ []
  pub unknown_key : lives_of life 9 ≡ []
  pub device_key : lives_of life 2 ≡ []
  -- the load of layer 3 opens no configuration for a key of layer 2, and layer 3 is left out of its configurations
  pub configuration_key : lives_of longer_life 3 ≡
      record {
        number = 6;
        upto = 2;
        layers = layers_with (renewed 1 Always) (running 2 Countersigned) layer_without_owner;
      } ∷ []
  -- a load of layer 2 ends the configuration key; the epoch key of layer 3, which did not trust it, ends too
  pub configuration_key_ended : numbers_of (longer_life ++ Change 2 10 8 Load 2 nobody three_renewed by_two None ∷ []) 3
      ≡ 6 ∷ []
  pub epoch_key_ended : numbers_of (longer_life ++ Change 2 10 8 Load 2 nobody three_renewed by_two None ∷ []) 1
      ≡ 4 ∷ 5 ∷ 6 ∷ 7 ∷ []
