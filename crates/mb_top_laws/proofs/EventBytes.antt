-- The orders among the events of a script are bytes.
use Rattle.std.proofs.Common.{◌≡◌, ℕ, List, [], ◌∷◌, length, sym, ap, subst, arith}
use Rattle.std.specs.Prelude.{All, map, not, filter}
use Rattle.std.specs.List.{AllZip}
use Rattle.std.proofs.lemmas.List.Elements.{All-nil, All-cons, All-head, All-tail, All-map, All-weaker}
use Rattle.mb_model.specs.declared.event.Event.{Event}
use Rattle.mb_model.specs.declared.event.Event.TheVariants as event
use Rattle.mb_model.specs.declared.event.Answered.{Answered}
use Rattle.mb_model.specs.chains.Script.{SaysEvent, is_skipped, IsScript, with_before, drawn_event, drawn_events, Drawn}
use Rattle.mb_model_lemmas.specs.RefusalLaws.{BringsBytes}
use Rattle.mb_model_lemmas.proofs.LineLemmas.{cons_same}
use Rattle.mb_model_lemmas.proofs.OrderLineLemmas.{IsHex-bytes}

says_bytes : (line : List ℕ) (this : Event) → SaysEvent line this → BringsBytes this
says_bytes line event.Boot says = tt
says_bytes line event.Off says = tt
says_bytes line event.Tamper says = tt
says_bytes line event.Status says = tt
says_bytes line event.Go says = tt
says_bytes line (event.Cut count tear) says = tt
says_bytes line (event.Order text draw) says = IsHex-bytes says.0.0 text says.0.1
says_bytes line (event.Put region name value) says = tt
says_bytes line (event.Get region name) says = tt
says_bytes line (event.Drop region name) says = tt
says_bytes line (event.Sign region key message) says = tt
says_bytes line (event.Call region key input) says = tt

all_bytes : (lines : List (List ℕ)) (events : List Event) → AllZip SaysEvent lines events → All BringsBytes events
all_bytes [] [] says = All-nil BringsBytes
all_bytes [] (e ∷ events) says = absurd says
all_bytes (line ∷ lines) [] says = absurd says
all_bytes (line ∷ lines) (e ∷ events) says = All-cons BringsBytes e events (says_bytes line e says.0) (all_bytes lines events says.1)

script_bytes : (lines : List (List ℕ)) (events : List Event) → IsScript lines events → All BringsBytes events
script_bytes lines events is = all_bytes (filter (λ line. not (is_skipped line)) lines) events is.said

-- ---- with their draws

drawn_one : (noise : List ℕ) (before : List Event) (this : Event) → BringsBytes this → BringsBytes (drawn_event noise before this)
drawn_one noise before event.Boot are = are
drawn_one noise before event.Off are = are
drawn_one noise before event.Tamper are = are
drawn_one noise before event.Status are = are
drawn_one noise before event.Go are = are
drawn_one noise before (event.Cut count tear) are = are
drawn_one noise before (event.Order text draw) are = are
drawn_one noise before (event.Put region name value) are = are
drawn_one noise before (event.Get region name) are = are
drawn_one noise before (event.Drop region name) are = are
drawn_one noise before (event.Sign region key message) are = are
drawn_one noise before (event.Call region key input) are = are

abbrev At : Type 0
At = List Event × Event

with_bytes : (events : List Event) → All BringsBytes events → All (λ (at : At). BringsBytes at.1) (with_before events)
unfolding with_before
with_bytes [] are = All-nil (λ (at : At). BringsBytes at.1)
with_bytes (e ∷ events) are =
    All-cons (λ (at : At). BringsBytes at.1) ([], e) (map (λ (at : At). (e ∷ at.0, at.1)) (with_before events)) (All-head BringsBytes e events are)
    (All-map (λ (at : At). BringsBytes at.1) (λ (at : At). (e ∷ at.0, at.1)) (with_before events) (with_bytes events (All-tail BringsBytes e events are)))

pub drawn_bytes : (lines : List (List ℕ)) (events drawn : List Event) (noise : List ℕ) → IsScript lines events → Drawn events noise drawn → All BringsBytes drawn
unfolding drawn_events
drawn_bytes lines events drawn noise script is =
    subst (λ (list : List Event). All BringsBytes list) (sym is.given)
    (All-map BringsBytes (λ (at : At). drawn_event noise at.0 at.1) (with_before events)
    (All-weaker (λ (at : At). BringsBytes at.1) (λ (at : At). BringsBytes (drawn_event noise at.0 at.1)) (λ at are. drawn_one noise at.0 at.1 are)
    (with_before events) (with_bytes events (script_bytes lines events script))))

-- and so where they are answered
pub answered_bytes : (answered : List Answered) (events : List Event) → map (λ this. this.event) answered ≡ events → All BringsBytes events → All (λ (this : Answered). BringsBytes this.event) answered
answered_bytes [] events same are = All-nil (λ (this : Answered). BringsBytes this.event)
answered_bytes (this ∷ rest) [] same are = absurd (omega (arith, ap length same))
answered_bytes (this ∷ rest) (e ∷ events) same are =
    let parts = cons_same this.event e (map (λ a. a.event) rest) events same in
    All-cons (λ (a : Answered). BringsBytes a.event) this rest (subst BringsBytes (sym parts.0) (All-head BringsBytes e events are))
    (answered_bytes rest events parts.1 (All-tail BringsBytes e events are))
