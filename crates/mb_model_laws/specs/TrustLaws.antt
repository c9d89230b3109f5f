-- Laws of the two trusts of a layer. What does an owner decide by each of them?
use Rattle.std.specs.Prelude.{◌≡◌, ℕ, Bool, not, List, ◌∷◌, ◌++◌, Option, None, Some, IsTrue}
use Rattle.mb_format.specs.Format.{Spells}
use Rattle.mb_model.specs.declared.key.Trust.{Trust}
use Rattle.mb_model.specs.declared.layer.Layer.{Layer}
use Rattle.mb_model.specs.declared.layer.Layers.{Layers}
use Rattle.mb_model.specs.declared.layer.Pair.{Pair}
use Rattle.mb_model.specs.declared.layer.Trusts.{Trusts}
use Rattle.mb_model.specs.declared.order.ChangeKind.{ChangeKind}
use Rattle.mb_model.specs.declared.entry.Entry.{Entry}
use Rattle.mb_model.specs.declared.entry.Entry.TheVariants.{Birth, Change, NewKey, Succession}
use Rattle.mb_model.specs.owners.Layers.{are_equal}
use Rattle.mb_model.specs.owners.Rules.{admits}
use Rattle.mb_model.specs.owners.Log.{is_version_two, RuledLog}
use Rattle.mb_model.specs.records.LayerFormat.{layer_format}
use Rattle.mb_model.specs.records.OrderFormat.{given_trusts}

-- with equal trusts layer 3 admits a change of layer 1 exactly if it would admit the same change of layer 2
abbrev pub EqualTrustsAreOneTrust : Type 0
EqualTrustsAreOneTrust =
    (layers : Layers) (kind : ChangeKind) (cosigned : Pair) → layers.three.trust.one ≡ layers.three.trust.two
    → admits layers kind 1 cosigned 3 ≡ admits layers kind 2 cosigned 3

-- the layers with other trusts for layer 3
abbrev pub with_trusts : Layers → Trusts → Layers
with_trusts layers trusts = record layers { three = record layers.three { trust = trusts } }

-- what layer 3 trusts in changes of layer 2 decides nothing about a change of layer 1
abbrev pub TrustInTwoLeavesOne : Type 0
TrustInTwoLeavesOne =
    (layers : Layers) (kind : ChangeKind) (cosigned : Pair) (one two other : Trust)
    → admits (with_trusts layers (record { one = one; two = two })) kind 1 cosigned 3
    ≡ admits (with_trusts layers (record { one = one; two = other })) kind 1 cosigned 3

-- what layer 3 trusts in changes of layer 1 decides nothing about a change of layer 2
abbrev pub TrustInOneLeavesTwo : Type 0
TrustInOneLeavesTwo =
    (layers : Layers) (kind : ChangeKind) (cosigned : Pair) (one two other : Trust)
    → admits (with_trusts layers (record { one = one; two = two })) kind 2 cosigned 3
    ≡ admits (with_trusts layers (record { one = other; two = two })) kind 2 cosigned 3

-- the version of a birth or change; the other entries have none
abbrev pub version_in : Entry → Option ℕ
version_in (Birth version serial key layers) = Some version
version_in (Change version position number kind layer cosigned layers kept next) = Some version
version_in (NewKey position number key_number layer kind key) = None
version_in (Succession position key) = None

-- in a log that obeys the rules, each birth or change after an entry of version 2 has version 2
abbrev pub VersionsOnlyRise : Type 0
VersionsOnlyRise =
    (before between after : List Entry) (entry later : Entry) (version : ℕ)
    → RuledLog (before ++ entry ∷ (between ++ later ∷ after)) → IsTrue (is_version_two entry)
    → version_in later ≡ Some version → version ≡ 2

-- a layer that bytes spell in version 1 has equal trusts
abbrev pub VersionOneHasEqualTrusts : Type 0
VersionOneHasEqualTrusts =
    (bytes : List ℕ) (layer : Layer) → Spells (layer_format 1) bytes layer → layer.trust.one ≡ layer.trust.two

-- two trusts can be given in the form of an order that fits them
abbrev pub TrustsCanBeGiven : Type 0
TrustsCanBeGiven = (trusts : Trusts) → (given_trusts (not (are_equal trusts))).Allowed trusts

-- two trusts can be given in no form of an order but the one that fits them
abbrev pub TrustsHaveOneForm : Type 0
TrustsHaveOneForm =
    (differs : Bool) (trusts : Trusts) → (given_trusts differs).Allowed trusts → not (are_equal trusts) ≡ differs
