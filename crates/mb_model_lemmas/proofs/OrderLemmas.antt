-- An order fails one check at most, and none where it passes.
use Rattle.std.proofs.Common.{◌≡◌, ℕ, List, [], ◌∷◌, inl, inr, length, refl, sym, ap, subst, ◌∙◌, arith, rules}
use Rattle.mb_format.specs.Format.{IsBytes, IsClearWhole}
use Rattle.mb_format.proofs.Whole.{IsClearWhole-from_exact}
use Rattle.mb_model.specs.declared.order.Order.{Order}
use Rattle.mb_model.specs.declared.reply.Reply.{Reply}
use Rattle.mb_model.specs.declared.reply.Reply.TheVariants as reply
use Rattle.mb_model.specs.declared.state.State.{State}
use Rattle.mb_model.specs.declared.state.View.{View}
use Rattle.mb_model.specs.owners.Log.{entries_of, number_of}
use Rattle.mb_model.specs.records.OrderFormat.{order_format}
use Rattle.mb_model.specs.declared.reply.OrderRefusal.{OrderRefusal}
use Rattle.mb_model.specs.declared.reply.Refusal.TheVariants as refused
use Rattle.mb_model.specs.machine.Refusals.{refusal_reply}
use Rattle.mb_model.specs.machine.OrderChecks.{Check, one_check, each_check, checks_of, EachHolds, IsFirstRefusal, Passes, Fails, view_of}
use Rattle.mb_model.specs.machine.OrderEffects.{state_after_order}
use Rattle.mb_model.specs.machine.OrderStep.{OrderStep, spells_none, fails_check, is_obeyed}
use Rattle.mb_model.proofs.OrderFormatLaws.{order_exact}
use Rattle.mb_model_lemmas.proofs.Splits.{not_all, first_fails_or_all, one_first, IsOne, one_more}

-- ---- a check

-- a check holds or is refused in one way, and never both
record IsDecided (check : Check) : Type 0 where
  one : IsOne check.IsRefusal
  apart : (why : OrderRefusal) → check.IsRefusal why → check.Holds → ⊥
  either : (check.Holds → ⊥) → ((why : OrderRefusal) → check.IsRefusal why → ⊥) → ⊥

one_decided : (Holds : Type 0) (refusal : OrderRefusal) → IsDecided (one_check Holds refusal)
one_decided Holds refusal = record {
  one = λ r s x y. x.0 ∙ sym y.0;
  apart = λ why x holds. x.1 holds;
  either = λ fails none. none refusal (refl, fails);
}

each_decided : {A : Type 0} (items : List A) (Holds : A → Type 0) (refusal : ℕ → A → OrderRefusal) → IsDecided (each_check items Holds refusal)
each_decided {A} items Holds refusal = record {
  one = λ r s x y.
      let first = one_first Holds items x.0 y.0 x.1 y.1 x.3 y.3 in
      x.2 ∙ ap (λ (index : ℕ). refusal index x.1) first.0 ∙ ap (refusal y.0) first.1 ∙ sym y.2;
  apart = λ why x all. not_all Holds items x.0 x.1 x.3 all;
  either = λ fails none. first_fails_or_all Holds items (λ place item first. none (refusal place item) (place, item, refl, first)) fails;
}

-- ---- checks, one after another

abbrev AreDecided : List Check → Type 0
AreDecided [] = Unit {0}
AreDecided (check ∷ later) = IsDecided check × AreDecided later

one_refusal : (checks : List Check) → AreDecided checks → IsOne (IsFirstRefusal checks)
one_refusal [] decided r s x y = absurd x
one_refusal (check ∷ later) decided r s x y =
    one_more check.IsRefusal check.Holds (IsFirstRefusal later) decided.0.apart decided.0.one (one_refusal later decided.1) r s x y

none_refused : (checks : List Check) → AreDecided checks → EachHolds checks → (why : OrderRefusal) → IsFirstRefusal checks why → ⊥
none_refused [] decided each why x = x
none_refused (check ∷ later) decided each why (inl x) = decided.0.apart why x each.0
none_refused (check ∷ later) decided each why (inr x) = none_refused later decided.1 each.1 why x.1

hold_or_refused : (checks : List Check) → AreDecided checks → (EachHolds checks → ⊥) → ((why : OrderRefusal) → IsFirstRefusal checks why → ⊥) → ⊥
hold_or_refused [] decided fails none = fails tt
hold_or_refused (check ∷ later) decided fails none =
    decided.0.either
    (λ holds. hold_or_refused later decided.1 (λ each. fails (holds, each)) (λ why x. none why (inr (holds, x))))
    (λ why x. none why (inl x))

-- ---- the checks of an order

order_decided : (view : View) (order : Order) → AreDecided (checks_of view order)
order_decided view order = search (rules, one_decided, each_decided) depth 20

-- an order fails one check at most
pub one_failure : (view : View) (order : Order) (a b : OrderRefusal) → Fails view order a → Fails view order b → a ≡ b
one_failure view order = one_refusal (checks_of view order) (order_decided view order)

pub passes_fail_nothing : (view : View) (order : Order) (refusal : OrderRefusal) → Passes view order → Fails view order refusal → ⊥
passes_fail_nothing view order refusal passes = none_refused (checks_of view order) (order_decided view order) passes.each refusal

pub passes_or_fails : (view : View) (order : Order) → (Passes view order → ⊥) → ((refusal : OrderRefusal) → Fails view order refusal → ⊥) → ⊥
passes_or_fails view order fails none =
    hold_or_refused (checks_of view order) (order_decided view order) (λ each. fails (record { each = each })) none

-- ---- the step

order_clear : IsClearWhole order_format
order_clear = IsClearWhole-from_exact order_exact

-- bytes that are given as an order have one answer, and lead to one state
pub one_order_step : (state : State) (text draw : List ℕ) (a b : Reply) (m n : State) → IsBytes text → OrderStep state text draw a m → OrderStep state text draw b n → (a ≡ b) × (m ≡ n)
one_order_step state text draw a b m n are (spells_none p) (spells_none q) = (p.answered ∙ sym q.answered, p.stays ∙ sym q.stays)
one_order_step state text draw a b m n are (spells_none p) (fails_check q) = absurd (p.none q.order q.spelled)
one_order_step state text draw a b m n are (spells_none p) (is_obeyed q) = absurd (p.none q.order q.spelled)
one_order_step state text draw a b m n are (fails_check p) (spells_none q) = absurd (q.none p.order p.spelled)
one_order_step state text draw a b m n are (fails_check p) (fails_check q) =
    let same : p.order ≡ q.order = order_clear.one_value text p.order q.order are p.spelled q.spelled in
    let refusals : p.refusal ≡ q.refusal = one_failure (view_of state) q.order p.refusal q.refusal (subst (λ (o : Order). Fails (view_of state) o p.refusal) same p.fails) q.fails in
    (p.answered ∙ ap (λ (r : OrderRefusal). refusal_reply (refused.Order r)) refusals ∙ sym q.answered, p.stays ∙ sym q.stays)
one_order_step state text draw a b m n are (fails_check p) (is_obeyed q) =
    let same : p.order ≡ q.order = order_clear.one_value text p.order q.order are p.spelled q.spelled in
    absurd (passes_fail_nothing (view_of state) q.order p.refusal q.passes (subst (λ (o : Order). Fails (view_of state) o p.refusal) same p.fails))
one_order_step state text draw a b m n are (is_obeyed p) (spells_none q) = absurd (q.none p.order p.spelled)
one_order_step state text draw a b m n are (is_obeyed p) (fails_check q) =
    let same : q.order ≡ p.order = order_clear.one_value text q.order p.order are q.spelled p.spelled in
    absurd (passes_fail_nothing (view_of state) p.order q.refusal p.passes (subst (λ (o : Order). Fails (view_of state) o q.refusal) same q.fails))
one_order_step state text draw a b m n are (is_obeyed p) (is_obeyed q) =
    let same : p.order ≡ q.order = order_clear.one_value text p.order q.order are p.spelled q.spelled in
    let states : m ≡ n = p.follows ∙ ap (λ (o : Order). state_after_order state o draw) same ∙ sym q.follows in
    (p.answered ∙ ap (λ (s : State). reply.Done (number_of (entries_of s.log)) (length s.log)) states ∙ sym q.answered, states)

-- a refused order leaves the state
pub refused_order_leaves : (state : State) (text draw : List ℕ) (refusal : ℕ) (next : State) → OrderStep state text draw (reply.Refused refusal) next → next ≡ state
refused_order_leaves state text draw n next (spells_none p) = p.stays
refused_order_leaves state text draw n next (fails_check p) = p.stays
refused_order_leaves state text draw n next (is_obeyed p) = absurd (grind (arith, p.answered))

-- no bytes are without an answer
pub some_order_step : (state : State) (text draw : List ℕ) → IsBytes text → ((answer : Reply) (next : State) → OrderStep state text draw answer next → ⊥) → ⊥
some_order_step state text draw are none =
    elim (order_clear.always text are) [
      | inl some ↦ passes_or_fails (view_of state) some.value
          (λ passes. none (reply.Done (number_of (entries_of (state_after_order state some.value draw).log)) (length (state_after_order state some.value draw).log)) (state_after_order state some.value draw)
          (is_obeyed (record { order = some.value; spelled = some.spelled; passes = passes; follows = refl; answered = refl })))
          (λ refusal fails. none (refusal_reply (refused.Order refusal)) state
          (fails_check (record { order = some.value; spelled = some.spelled; refusal = refusal; fails = fails; answered = refl; stays = refl })))
      | inr failing ↦ none (refusal_reply refused.BadText) state (spells_none (record {
        none = λ order spelled. order_clear.never_both text order failing.offset are spelled failing.fails;
        answered = refl;
        stays = refl;
      }))
    ]
