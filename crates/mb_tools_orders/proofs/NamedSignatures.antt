-- Which signatures the lines of `ordered` name.
use Rattle.std.proofs.Common.{◌≡◌, ◌⊎◌, ℕ, List, [], ◌∷◌, get_or, Option, Some, inl, inr, sym, ap, subst, arith}
use Rattle.std.specs.Prelude.{All, Contains, codes, map}
use Rattle.std.proofs.lemmas.List.Elements.{All-nil, All-cons, All-contains, Contains-append_left, Contains-append_right, Contains-append_cases, Contains-push, Contains-push_cases}
use Rattle.mb_model.specs.declared.key.PublicKey.{PublicKey}
use Rattle.mb_model.specs.declared.order.Countersignature.{Countersignature}
use Rattle.mb_model.specs.records.OrderFormat.{order_body}
use Rattle.mb_model.specs.machine.OrderChecks.{IsSigned}
use Rattle.mb_model.specs.machine.SignedTexts.{order_text, IsSignedBy}
use Rattle.mb_tools_orders.specs.Ordered.{OrderSignature, signed_in_charge, signed_above, signatures_of, TellsIfVerified, AreVerified}
use Rattle.mb_tools_orders.specs.OrderLaws.{VerifiesAmong, ExactlyWhatVerifiesIsNamed, DevicesFindTheOwnerInCharge}

-- ---- in a list of one item, and in one with an item in front

contains_none : {X : Type 0} (x : X) → Contains [] x → ⊥
contains_none x holds = omega (arith, holds.1)

contains_one : {X : Type 0} (y x : X) → Contains (y ∷ []) x → y ≡ x
contains_one {X} y x holds = elim (Contains-push_cases {X = X} [] y x holds) [ inl none ↦ absurd (contains_none x none) | inr same ↦ same ]

contains_first : {X : Type 0} (y : X) (ys : List X) → Contains (y ∷ ys) y
contains_first {X} y ys = Contains-append_left (y ∷ []) ys y (Contains-push {X = X} [] y)

contains_later : {X : Type 0} (y : X) (ys : List X) (x : X) → Contains ys x → Contains (y ∷ ys) x
contains_later y ys x holds = Contains-append_right (y ∷ []) ys x holds

contains_cases : {X : Type 0} (y : X) (ys : List X) (x : X) → Contains (y ∷ ys) x → (y ≡ x) ⊎ Contains ys x
contains_cases y ys x holds = elim (Contains-append_cases (y ∷ []) ys x holds) [ inl one ↦ inl (contains_one y x one) | inr later ↦ inr later ]

-- ---- exactly what verifies is named

named_of : (key : PublicKey) (signed : OrderSignature) (first : List (List ℕ)) → TellsIfVerified key signed first → IsSignedBy (Some key) signed.text signed.signature → Contains first signed.line
named_of key signed first (inl named) verifies = subst (λ (l : List (List ℕ)). Contains l signed.line) (sym named.1) (contains_first signed.line [])
named_of key signed first (inr never) verifies = absurd (never.0 verifies)

pub verified_is_named : (key : PublicKey) (signatures : List OrderSignature) (lines : List (List ℕ)) → AreVerified key signatures lines
    → (signed : OrderSignature) → Contains signatures signed → IsSignedBy (Some key) signed.text signed.signature → Contains lines signed.line
verified_is_named key [] lines are signed stands verifies = absurd (contains_none signed stands)
verified_is_named key (s ∷ others) lines (first, later, split, named, are) signed stands verifies =
    subst (λ (l : List (List ℕ)). Contains l signed.line) (sym split) (elim (contains_cases s others signed stands) [
      | inl same ↦ Contains-append_left first later signed.line
          (subst (λ (x : OrderSignature). Contains first x.line) same
          (named_of key s first named (subst (λ (x : OrderSignature). IsSignedBy (Some key) x.text x.signature) (sym same) verifies)))
      | inr among ↦ Contains-append_right first later signed.line (verified_is_named key others later are signed among verifies)
    ])

-- the signature that a line names
abbrev NamedBy : PublicKey → List OrderSignature → List ℕ → Type 0
NamedBy key signatures line = (signed : OrderSignature) × (signed.line ≡ line) × VerifiesAmong key signatures signed

first_names : (key : PublicKey) (s : OrderSignature) (others : List OrderSignature) (first : List (List ℕ)) (line : List ℕ) → TellsIfVerified key s first → Contains first line
    → NamedBy key (s ∷ others) line
first_names key s others first line (inl named) holds =
    let one : s.line ≡ line = contains_one s.line line (subst (λ (l : List (List ℕ)). Contains l line) named.1 holds) in
    (s, one, record { stands = contains_first s others; verifies = named.0 })
first_names key s others first line (inr never) holds = absurd (contains_none line (subst (λ (l : List (List ℕ)). Contains l line) never.1 holds))

pub named_is_verified : (key : PublicKey) (signatures : List OrderSignature) (lines : List (List ℕ)) → AreVerified key signatures lines
    → (line : List ℕ) → Contains lines line → NamedBy key signatures line
named_is_verified key [] lines are line holds = absurd (contains_none line (subst (λ (l : List (List ℕ)). Contains l line) are holds))
named_is_verified key (s ∷ others) lines (first, later, split, named, are) line holds =
    elim (Contains-append_cases first later line (subst (λ (l : List (List ℕ)). Contains l line) split holds)) [
      | inl front ↦ first_names key s others first line named front
      | inr back ↦
          let found = named_is_verified key others later are line back in
          (found.0, found.1, record { stands = contains_later s others found.0 found.2.stands; verifies = found.2.verifies })
    ]

pub exactly_named : ExactlyWhatVerifiesIsNamed
exactly_named key signatures lines are =
    (λ signed among. verified_is_named key signatures lines are signed among.stands among.verifies, named_is_verified key signatures lines are)

-- ---- what a device finds

-- no countersignature is named as the owner in charge is
abbrev IsAbove : OrderSignature → Type 0
IsAbove signed = signed.line ≡ codes "in charge" → ⊥

above_named : (body : List ℕ) (list : List Countersignature) → All IsAbove (map (signed_above body) list)
above_named body [] = All-nil IsAbove
above_named body (by ∷ list) =
    All-cons IsAbove (signed_above body by) (map (signed_above body) list)
    (λ same. let letters : 108 ≡ 105 = ap (λ (line : List ℕ). get_or line 0 0) same in omega (arith, letters)) (above_named body list)

pub device_finds : DevicesFindTheOwnerInCharge
device_finds view key order lines are is_key = (there, back)
  where
    Signed : Option PublicKey → Type 0
    Signed owner = IsSignedBy owner (order_text (order_body order)) order.signature

    in_charge : OrderSignature
    in_charge = signed_in_charge (order_body order) order.signature

    above : List OrderSignature
    above = map (signed_above (order_body order)) order.countersignatures

    there : Contains lines (codes "in charge") → IsSigned view order
    there named =
        let found = named_is_verified key (signatures_of order) lines are (codes "in charge") named in
        subst Signed (sym is_key) (elim (contains_cases in_charge above found.0 found.2.stands) [
          | inl same ↦ subst (λ (x : OrderSignature). IsSignedBy (Some key) x.text x.signature) (sym same) found.2.verifies
          | inr among ↦ absurd (All-contains IsAbove above found.0 (above_named (order_body order) order.countersignatures) among found.1)
        ])

    back : IsSigned view order → Contains lines (codes "in charge")
    back signed = verified_is_named key (signatures_of order) lines are in_charge (contains_first in_charge above) (subst Signed is_key signed)
