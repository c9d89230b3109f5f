-- Laws of `showorder` and `ordered`. Is what is read what is signed, and is who is named who signed?
use Rattle.std.specs.Prelude.{◌≡◌, ◌≢◌, ◌⊎◌, ◌↔◌, ℕ, List, Contains, codes, Some}
use Rattle.sha2.specs.Sha256.{sha256}
use Rattle.mb_format.specs.Format.{IsBytes}
use Rattle.mb_model.specs.declared.key.PublicKey.{PublicKey}
use Rattle.mb_model.specs.declared.order.Target.{Target}
use Rattle.mb_model.specs.declared.order.Order.{Order}
use Rattle.mb_model.specs.declared.state.View.{View}
use Rattle.mb_model.specs.owners.Rules.{authority}
use Rattle.mb_model.specs.records.OrderFormat.{target_format, body_of, order_body, order_format}
use Rattle.mb_model.specs.machine.OrderChecks.{change_by, IsSigned}
use Rattle.mb_model.specs.machine.SignedTexts.{IsSignedBy}
use Rattle.mb_model.specs.chains.Drafts.{SaysTarget}
use Rattle.mb_tools_orders.specs.ShowOrder.{target_line, order_shown}
use Rattle.mb_tools_orders.specs.Ordered.{OrderSignature, signatures_of, AreVerified}

-- ---- what is shown

-- Two orders that are shown alike have one body, or their two bodies have one hash. That some two bodies have one
-- follows from counting; of two bodies that are given, nobody knows how to make it so.
abbrev pub OrdersShownAlikeHaveOneBody : Type 0
OrdersShownAlikeHaveOneBody =
    (one other : Order) → order_shown one ≡ order_shown other
    → (order_body one ≡ order_body other)
    ⊎ ((order_body one ≢ order_body other) × (sha256 (order_body one) ≡ sha256 (order_body other)))

-- Two orders with one body are for the same layer, with the same targets, and do the same, with the same owner's key or
-- code.
abbrev pub OneBodyIsOneOrder : Type 0
OneBodyIsOneOrder =
    (one other : Order) → order_format.Allowed one → order_format.Allowed other → IsBytes (order_body one)
    → order_body one ≡ order_body other → body_of one ≡ body_of other

-- The line that shows a target says that target in a draft.
abbrev pub TargetsAreShownAsDrafted : Type 0
TargetsAreShownAsDrafted =
    (target : Target) → target_format.Allowed target → IsBytes (target_format.spelling target)
    → SaysTarget (target_line target) target

-- ---- who is named

-- The signature stands under these, and verifies under the key.
pub record VerifiesAmong (key : PublicKey) (signatures : List OrderSignature) (signed : OrderSignature) : Type 0 where
  pub stands : Contains signatures signed
  pub verifies : IsSignedBy (Some key) signed.text signed.signature

-- Each signature that verifies is named, and each line names one that verifies.
abbrev pub ExactlyWhatVerifiesIsNamed : Type 0
ExactlyWhatVerifiesIsNamed =
    (key : PublicKey) (signatures : List OrderSignature) (lines : List (List ℕ)) → AreVerified key signatures lines
    → ((signed : OrderSignature) → VerifiesAmong key signatures signed → Contains lines signed.line)
    × ((line : List ℕ) → Contains lines line
    → (signed : OrderSignature) × (signed.line ≡ line) × VerifiesAmong key signatures signed)

-- Where the key is that of the owner in charge, `in charge` is told exactly if a device finds that this owner has
-- signed the order.
abbrev pub DevicesFindTheOwnerInCharge : Type 0
DevicesFindTheOwnerInCharge =
    (view : View) (key : PublicKey) (order : Order) (lines : List (List ℕ))
    → AreVerified key (signatures_of order) lines
    → authority view.layers (change_by order) order.layer ≡ Some key
    → (Contains lines (codes "in charge") ↔ IsSigned view order)
