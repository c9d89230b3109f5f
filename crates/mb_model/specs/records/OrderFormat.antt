-- How an order is spelled: its body, which is what is signed, and after it the signatures. What exactly did the owner
-- sign?
use Rattle.std.specs.Prelude.{ℕ, ◌+◌, ◌-◌, Bool, true, false, not, List, [], ◌∷◌, length, Option, Some, None}
use Rattle.std.specs.Prelude.{if◌then◌else◌}
use Rattle.std.specs.Int.{w8, w16, w32}
use Rattle.mb_format.specs.Format.{Format}
use Rattle.mb_format.specs.Combinators.{raw, number, between, table, listed, nothing, sized, items, counted}
use Rattle.mb_format.specs.Combinators.{both, pair, as_value, as_record, led}
use Rattle.mb_model.specs.declared.limits.TheConstants.{CODE_LIMIT, TARGET_LIMIT, SIGNATURE_LIMIT}
use Rattle.mb_model.specs.declared.key.PublicKey.{PublicKey}
use Rattle.mb_model.specs.declared.key.Trust.{Trust}
use Rattle.mb_model.specs.declared.key.Trust.TheVariants.{Always, Never, Countersigned}
use Rattle.mb_model.specs.declared.layer.Trusts.{Trusts}
use Rattle.mb_model.specs.declared.order.KeyKind.{KeyKind}
use Rattle.mb_model.specs.declared.order.Target.{Target}
use Rattle.mb_model.specs.declared.order.Target.TheVariants.{Serial, Length, Owner, Code}
use Rattle.mb_model.specs.declared.order.OrderKind.{OrderKind}
use Rattle.mb_model.specs.declared.order.OrderKind.TheVariants as kind
use Rattle.mb_model.specs.declared.order.OrderForm.{OrderForm}
use Rattle.mb_model.specs.declared.order.Payload.{Payload}
use Rattle.mb_model.specs.declared.order.Act.{Act}
use Rattle.mb_model.specs.declared.order.Act.TheVariants.{Establish, Surrender, Load, Emergency, NewKey}
use Rattle.mb_model.specs.declared.order.Countersignature.{Countersignature}
use Rattle.mb_model.specs.declared.order.Order.{Order}
use Rattle.mb_model.specs.records.KeyFormat.{public_key_format}
use Rattle.mb_model.specs.owners.Layers.{are_equal}
use Rattle.mb_model.specs.records.LayerFormat.{trust_byte, trust_format, one_trust}
use Rattle.mb_model.specs.records.EntryFormat.{key_kind_format}
use Rattle.mb_model.specs.owners.Rules.{kind_of, change_of, least_layer, is_load}

-- ---- targets

pub data TargetTag : Type 0 where
  serial_tag length_tag owner_tag code_tag : TargetTag

abbrev pub target_byte : TargetTag → ℕ
target_byte serial_tag = 1
target_byte length_tag = 2
target_byte owner_tag = 3
target_byte code_tag = 4

abbrev pub target_rows : List (ℕ × TargetTag)
target_rows = (1, serial_tag) ∷ (2, length_tag) ∷ (3, owner_tag) ∷ (4, code_tag) ∷ []

abbrev pub target_tag : Target → TargetTag
target_tag (Serial serial) = serial_tag
target_tag (Length layer) = length_tag
target_tag (Owner layer hash) = owner_tag
target_tag (Code layer hash) = code_tag

abbrev pub demanded_serial : Target → Option (List ℕ)
demanded_serial (Serial serial) = Some serial
demanded_serial _ = None

abbrev pub demanded_length : Target → Option ℕ
demanded_length (Length layer) = Some layer
demanded_length _ = None

abbrev pub demanded_owner : Target → Option (ℕ × List ℕ)
demanded_owner (Owner layer hash) = Some (layer, hash)
demanded_owner _ = None

abbrev pub demanded_code : Target → Option (ℕ × List ℕ)
demanded_code (Code layer hash) = Some (layer, hash)
demanded_code _ = None

-- what follows a target's tag: the serial, the length, or a layer and a hash
abbrev pub target_by : TargetTag → Format Target
target_by serial_tag = as_value (raw 16) Serial demanded_serial
target_by length_tag = as_value (number w32) Length demanded_length
target_by owner_tag = as_value (pair (between w8 1 3) (raw 32)) (λ (layer, hash). Owner layer hash) demanded_owner
target_by code_tag = as_value (pair (between w8 1 3) (raw 32)) (λ (layer, hash). Code layer hash) demanded_code

unfoldable pub target_format : Format Target
target_format = led (table w8 target_rows target_byte) target_tag target_by

-- ---- what an order does

abbrev pub order_byte : OrderKind → ℕ
order_byte kind.Establish = 1
order_byte kind.Surrender = 2
order_byte kind.Load = 3
order_byte kind.Emergency = 4
order_byte kind.NewKey = 5

abbrev pub form_byte : OrderForm → ℕ
form_byte form = if form.differs then 16 + order_byte form.kind else order_byte form.kind

abbrev pub form : OrderKind → Bool → OrderForm
form order differs = record { kind = order; differs = differs }

-- Surrender and new key give no trusts, so they have no row with two. Two trusts that differ have a kind of their own,
-- so that the bytes of an order with one trust stay, with all signatures over them, and each order has one spelling.
abbrev pub form_rows : List (ℕ × OrderForm)
form_rows =
    (1, form kind.Establish false)
    ∷ (2, form kind.Surrender false)
    ∷ (3, form kind.Load false)
    ∷ (4, form kind.Emergency false)
    ∷ (5, form kind.NewKey false)
    ∷ (17, form kind.Establish true)
    ∷ (19, form kind.Load true)
    ∷ (20, form kind.Emergency true)
    ∷ []

-- whether the act gives its layer two trusts that differ
abbrev pub differs_in : Act → Bool
differs_in (Establish owner trust) = not (are_equal trust)
differs_in Surrender = false
differs_in (Load payload) = not (are_equal payload.trust)
differs_in (Emergency payload) = not (are_equal payload.trust)
differs_in (NewKey key_kind) = false

abbrev pub form_of : Act → OrderForm
form_of act = form (kind_of act) (differs_in act)

-- The trusts other than this one. A second trust that equals the first fails at its own offset, like one above 2.
abbrev pub other_rows : Trust → List (ℕ × Trust)
other_rows Always = (1, Never) ∷ (2, Countersigned) ∷ []
other_rows Never = (0, Always) ∷ (2, Countersigned) ∷ []
other_rows Countersigned = (0, Always) ∷ (1, Never) ∷ []

-- two trusts that differ
abbrev pub differing_trusts : Format Trusts
differing_trusts = as_record (both trust_format (λ one. listed w8 (other_rows one) trust_byte))
    (λ (one, two). record { one = one; two = two })
    (λ trusts. (trusts.one, trusts.two))

-- the trusts that an act gives its layer: one trust if they are equal, else both
abbrev pub given_trusts : Bool → Format Trusts
given_trusts false = one_trust trust_format
given_trusts true = differing_trusts

abbrev pub establish_in : Act → Option (PublicKey × Trusts)
establish_in (Establish owner trust) = Some (owner, trust)
establish_in _ = None

abbrev pub load_in : Act → Option Payload
load_in (Load payload) = Some payload
load_in _ = None

abbrev pub emergency_in : Act → Option Payload
emergency_in (Emergency payload) = Some payload
emergency_in _ = None

abbrev pub made_in : Act → Option KeyKind
made_in (NewKey key_kind) = Some key_kind
made_in _ = None

-- what a load carries: the version, the trusts, and the code after its length
unfoldable pub payload_format : Bool → Format Payload
payload_format differs = as_record (pair (number w32) (pair (given_trusts differs) (sized (between w32 0 CODE_LIMIT))))
    (λ (version, (trust, code)). record { version = version; trust = trust; code = code })
    (λ payload. (payload.version, (payload.trust, payload.code)))

abbrev pub act_by : OrderKind → Bool → Format Act
act_by kind.Establish differs = as_value (pair public_key_format (given_trusts differs))
    (λ (owner, trust). Establish owner trust)
    establish_in
act_by kind.Surrender differs = nothing Surrender
act_by kind.Load differs = as_value (payload_format differs) Load load_in
act_by kind.Emergency differs = as_value (payload_format differs) Emergency emergency_in
act_by kind.NewKey differs = as_value key_kind_format NewKey made_in

-- ---- the signed part

pub record Body : Type 0 where
  pub layer : ℕ
  pub targets : List Target
  pub act : Act

abbrev pub body_of : Order → Body
body_of order = record { layer = order.layer; targets = order.targets; act = order.act }

-- what follows the form's byte: the layer, the targets, and what the order does
abbrev pub body_by : OrderForm → Format Body
body_by form = as_record
    (pair (between w8 (least_layer form.kind) 3)
    (pair (counted (between w8 0 TARGET_LIMIT) target_format) (act_by form.kind form.differs)))
    (λ (layer, (targets, act)). record { layer = layer; targets = targets; act = act })
    (λ body. (body.layer, (body.targets, body.act)))

unfoldable pub body_format : Format Body
body_format = led (listed w8 form_rows form_byte) (λ body. form_of body.act) body_by

-- the body of an order as bytes, which each of its signatures covers
abbrev pub order_body : Order → List ℕ
order_body order = body_format.spelling (body_of order)

-- ---- the signatures

-- a signature after its length
unfoldable pub sized_signature_format : Format (List ℕ)
sized_signature_format = sized (between w16 0 SIGNATURE_LIMIT)

-- the layer that the next countersignature stands above, and how many are still to come
pub record Climb : Type 0 where
  pub below : ℕ
  pub left : ℕ

-- A countersignature: its layer, which leaves a higher one for each that follows, and its signature. If two are
-- announced for layer 1, a first layer of 3 fails there, since no second could follow it.
abbrev pub countersignature_format : Climb → Format Countersignature
countersignature_format climb = as_record (pair (between w8 (climb.below + 1) (4 - climb.left)) sized_signature_format)
    (λ (layer, signature). record { layer = layer; signature = signature })
    (λ by. (by.layer, by.signature))

abbrev pub climb_after : Climb → Countersignature → Climb
climb_after climb by = record { below = by.layer; left = climb.left - 1 }

-- the most countersignatures of an order: one for each layer above its own if it is a load, else none
abbrev pub countersignature_limit : OrderKind → ℕ → ℕ
countersignature_limit order layer = if is_load (change_of order) then 3 - layer else 0

-- the number of countersignatures, and then these, their layers ascending
unfoldable pub countersignatures_format : Body → Format (List Countersignature)
countersignatures_format body = led (between w8 0 (countersignature_limit (kind_of body.act) body.layer)) length
    (λ count. items countersignature_format climb_after count (record { below = body.layer; left = count }))

-- an order: its body, its signature, the countersignatures
unfoldable pub order_format : Format Order
order_format = as_record (both body_format (λ body. pair sized_signature_format (countersignatures_format body)))
    (λ (body, (signature, countersignatures)). record {
      layer = body.layer;
      targets = body.targets;
      act = body.act;
      signature = signature;
      countersignatures = countersignatures;
    })
    (λ order. (body_of order, (order.signature, order.countersignatures)))
