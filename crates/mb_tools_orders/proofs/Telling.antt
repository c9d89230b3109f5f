-- The names of signatures, appended one after another.
use Rattle.std.proofs.Common.{◌≡◌, ℕ, List, [], ◌∷◌, ◌++◌, length, length-append, Result, Ok, Err, OnOk, inl, inr, refl, sym, ap, ◌∙◌, subst, append_assoc, arith}
use Rattle.std.specs.Prelude.{◌==◌, Bool, true, false, codes, map}
use Rattle.std.proofs.lemmas.List.{append-nil, nil_from_length}
use Rattle.std.proofs.lemmas.Bool.{eqb-true, eqb-false}
use Rattle.mb_model.specs.declared.key.PublicKey.{PublicKey}
use Rattle.mb_model.specs.declared.order.Countersignature.{Countersignature}
use Rattle.mb_model.specs.declared.order.Order.{Order}
use Rattle.mb_model.specs.records.OrderFormat.{order_body}
use Rattle.mb_model.specs.machine.SignedTexts.{order_text, countersigned_text}
use Rattle.mb_model.specs.outside.Texts.{line_with_lf}
use Rattle.mb_model.specs.chains.Lines.{text_of}
use Rattle.mb_model.specs.chains.Listing.{number_line}
use Rattle.mb_verifier.proofs.Listed.{text_of-append}
use Rattle.mb_tools_orders.specs.Ordered.{OrderSignature, signed_in_charge, signed_above, signatures_of, TellsIfVerified}
use Rattle.mb_tools_orders.specs.Telling.{AppendsIfVerified, AppendsNames}

-- no signature has no names
pub no_names : (key : PublicKey) (old : List ℕ) → AppendsNames key [] old old
no_names key old = ([], refl, sym (append-nil old))

-- a signature that verifies has its line, and any other has none
named_one : (key : PublicKey) (signed : OrderSignature) (line old new : List ℕ) → line ≡ line_with_lf signed.line
    → AppendsIfVerified key signed.text signed.signature line old new → (first : List (List ℕ)) × TellsIfVerified key signed first × (new ≡ old ++ text_of first)
named_one key signed line old new line_is (inl (verifies, is)) =
    (signed.line ∷ [], inl (verifies, refl), is ∙ ap (λ t. old ++ t) (line_is ∙ sym (append-nil (line_with_lf signed.line))))
named_one key signed line old new line_is (inr (never, is)) = ([], inr (never, refl), is ∙ sym (append-nil old))

-- one signature, and then the others
pub named_then : (key : PublicKey) (signed : OrderSignature) (others : List OrderSignature) (line old mid new : List ℕ) → line ≡ line_with_lf signed.line
    → AppendsIfVerified key signed.text signed.signature line old mid → AppendsNames key others mid new → AppendsNames key (signed ∷ others) old new
named_then key signed others line old mid new line_is appends (later, are, new_is) =
    let first = named_one key signed line old mid line_is appends in (
      first.0 ++ later,
      (first.0, later, refl, first.1, are),
      new_is ∙ ap (λ t. t ++ text_of later) first.2 ∙ append_assoc old (text_of first.0) (text_of later) ∙ ap (λ t. old ++ t) (sym (text_of-append first.0 later)),
    )

-- the first countersignature, and then the others
pub above_then : {E : Type 0} (result : Result (Unit {0}) E) (key : PublicKey) (body : List ℕ) (by : Countersignature) (list others : List Countersignature) (signature line old mid new : List ℕ)
    → list ≡ by ∷ others → signature ≡ by.signature → line ≡ line_with_lf (number_line (codes "layer") by.layer)
    → AppendsIfVerified key (countersigned_text by.layer body) signature line old mid → OnOk result (AppendsNames key (map (signed_above body) others) mid new)
    → OnOk result (AppendsNames key (map (signed_above body) list) old new)
above_then (Ok done) key body by list others signature line old mid new list_is signature_is line_is appends later =
    let own = subst (λ (s : List ℕ). AppendsIfVerified key (countersigned_text by.layer body) s line old mid) signature_is appends in
    subst (λ (l : List Countersignature). AppendsNames key (map (signed_above body) l) old new) (sym list_is)
    (named_then key (signed_above body by) (map (signed_above body) others) line old mid new line_is own later)
above_then (Err why) key body by list others signature line old mid new list_is signature_is line_is appends later = tt

-- the signature of the owner in charge, and then the countersignatures
pub all_named : (key : PublicKey) (order : Order) (body again signature : List ℕ) (above : List Countersignature) (line old mid new : List ℕ)
    → body ≡ order_body order → again ≡ order_body order → signature ≡ order.signature → above ≡ order.countersignatures → line ≡ line_with_lf (codes "in charge")
    → AppendsIfVerified key (order_text body) signature line old mid → AppendsNames key (map (signed_above again) above) mid new → AppendsNames key (signatures_of order) old new
all_named key order body again signature above line old mid new body_is again_is signature_is above_is line_is appends names =
    let over = subst (λ (b : List ℕ). AppendsIfVerified key (order_text b) signature line old mid) body_is appends in
    let own = subst (λ (s : List ℕ). AppendsIfVerified key (order_text (order_body order)) s line old mid) signature_is over in
    let later = subst (λ (b : List ℕ). AppendsNames key (map (signed_above b) above) mid new) again_is names in
    let others = subst (λ (l : List Countersignature). AppendsNames key (map (signed_above (order_body order)) l) mid new) above_is later in
    named_then key (signed_in_charge (order_body order) order.signature) (map (signed_above (order_body order)) order.countersignatures) line old mid new line_is own others

-- lines are none exactly if their text is empty
pub none_told : (lines : List (List ℕ)) → text_of lines ≡ [] → lines ≡ []
none_told [] empty = refl
none_told (line ∷ lines) empty =
    absurd (omega (arith, ap length empty, length-append (line_with_lf line) (text_of lines), length-append line (10 ∷ [])))

-- a text is told to be empty if it has no lines, and else not
pub told_none : (lines : List (List ℕ)) (text : List ℕ) (count : ℕ) (empty : Bool) → text ≡ text_of lines → count ≡ length text → empty ≡ (count == 0) → empty ≡ true → lines ≡ []
told_none lines text count empty is counted tested holds =
    none_told lines (sym is ∙ nil_from_length text (sym counted ∙ eqb-true count 0 (sym tested ∙ holds)))

pub told_some : (lines : List (List ℕ)) (text : List ℕ) (count : ℕ) (empty : Bool) → text ≡ text_of lines → count ≡ length text → empty ≡ (count == 0) → empty ≡ false → lines ≡ [] → ⊥
told_some lines text count empty is counted tested fails none =
    eqb-false count 0 (sym tested ∙ fails) (counted ∙ ap length (is ∙ ap text_of none))
