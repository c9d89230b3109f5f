-- Lemmas on draws: each event gets its own, in turn, and stays what a line can give.
use Rattle.std.proofs.Common.{◌≡◌, ℕ, ◌+◌, ◌*◌, ◌≤◌, suc, List, [], ◌∷◌, ◌++◌, length, map, refl, sym, ap, subst, ◌∙◌, arith, append_assoc}
use Rattle.std.specs.Prelude.{All, cond}
use Rattle.std.proofs.lemmas.List.{append-nil, map_push, map-append, length-map}
use Rattle.std.proofs.lemmas.List.Elements.{All-nil, All-cons, All-head, All-tail, All-same}
use Rattle.std.proofs.lemmas.List.Sums.{sum_by-append}
use Rattle.std.proofs.lemmas.Simd.{map-map}
use Rattle.mb_model.specs.declared.event.Event.{Event}
use Rattle.mb_model.specs.declared.event.Event.TheVariants as event
use Rattle.mb_model.specs.chains.Script.{IsScriptEvent, with_before, is_command, commands_in, drawn_event, drawn_events}
use Rattle.mb_model.specs.chains.Script.{Drawn}
use Rattle.mb_model.proofs.Places.{length-part}

-- the same with one item more at the front
abbrev remaining : {A : Type 0} → A → List A × A → List A × A
remaining x at = (x ∷ at.0, at.1)

-- one item more
pub with_before-push : {A : Type 0} (xs : List A) (x : A) → with_before (xs ++ x ∷ []) ≡ with_before xs ++ (xs, x) ∷ []
unfolding with_before
with_before-push [] x = refl
with_before-push {A} (y ∷ xs) x =
    ap (λ (ats : List (List A × A)). ([], y) ∷ map (remaining y) ats) (with_before-push xs x)
    ∙ ap (λ (ats : List (List A × A)). ([], y) ∷ ats) (map-append (remaining y) (with_before xs) ((xs, x) ∷ []))

-- as many items
pub length-with_before : {A : Type 0} (xs : List A) → length (with_before xs) ≡ length xs
unfolding with_before
length-with_before [] = refl
length-with_before {A} (x ∷ xs) =
    ap (λ (n : ℕ). suc n) (length-map (with_before xs) (remaining x) ∙ length-with_before xs)

pub drawn-push : (noise : List ℕ) (events : List Event) (e : Event) → drawn_events noise (events ++ e ∷ []) ≡ drawn_events noise events ++ drawn_event noise events e ∷ []
unfolding drawn_events
drawn-push noise events e =
    let each = λ (at : List Event × Event). drawn_event noise at.0 at.1 in
    ap (map each) (with_before-push events e) ∙ map_push each (with_before events) (events, e)

pub drawn-length : (noise : List ℕ) (events : List Event) → length (drawn_events noise events) ≡ length events
unfolding drawn_events
drawn-length noise events = length-map (with_before events) (λ (at : List Event × Event). drawn_event noise at.0 at.1) ∙ length-with_before events

-- the events with their draws, after some others
abbrev drawn_after : List ℕ → List Event → List Event → List Event
drawn_after noise before [] = []
drawn_after noise before (e ∷ events) = drawn_event noise before e ∷ drawn_after noise (before ++ e ∷ []) events

drawn-after : (noise : List ℕ) (before events : List Event)
    → map (λ at. drawn_event noise (before ++ at.0) at.1) (with_before events) ≡ drawn_after noise before events
unfolding with_before
drawn-after noise before [] = refl
drawn-after noise before (e ∷ events) =
    let each = λ (at : List Event × Event). drawn_event noise (before ++ at.0) at.1 in
    let first = ap (λ (b : List Event). drawn_event noise b e) (append-nil before) in
    let moved : (at : List Event × Event) → before ++ (e ∷ at.0) ≡ (before ++ e ∷ []) ++ at.0 = λ at. sym (append_assoc before (e ∷ []) at.0) in
    let others = map-map each (remaining e) (with_before events)
    ∙ (λ i. map (λ (at : List Event × Event). drawn_event noise (moved at i) at.1) (with_before events))
    ∙ drawn-after noise (before ++ e ∷ []) events in
    λ i. first i ∷ others i

-- ---- what a line can give, with a draw

pub commands_in-append : (a b : List Event) → commands_in (a ++ b) ≡ commands_in a + commands_in b
unfolding commands_in
commands_in-append a b = sum_by-append (λ e. cond (is_command e) 1 0) a b

-- what is needed for the first of some events
room : (noise : List ℕ) (before : List Event) (text draw : List ℕ) (events : List Event)
    → 32 * commands_in (before ++ event.Order text draw ∷ events) ≤ length noise → 32 * commands_in before + 32 ≤ length noise
unfolding commands_in
room noise before text draw events enough =
    let all = commands_in-append before (event.Order text draw ∷ events) in
    let one : commands_in (event.Order text draw ∷ events) ≡ 1 + commands_in events = commands_in-append (event.Order text draw ∷ []) events in
    omega (arith, enough, all, one)

drawn_one : (noise : List ℕ) (before : List Event) (e : Event) (events : List Event) → 32 * commands_in (before ++ e ∷ events) ≤ length noise
    → IsScriptEvent e → IsScriptEvent (drawn_event noise before e)
drawn_one noise before event.Boot events enough is = is
drawn_one noise before event.Off events enough is = is
drawn_one noise before event.Tamper events enough is = is
drawn_one noise before event.Status events enough is = is
drawn_one noise before event.Go events enough is = is
drawn_one noise before (event.Cut count tear) events enough is = is
drawn_one noise before (event.Order text draw) events enough is = length-part (32 * commands_in before) 32 noise (room noise before text draw events enough)
drawn_one noise before (event.Put region name value) events enough is = is
drawn_one noise before (event.Get region name) events enough is = is
drawn_one noise before (event.Drop region name) events enough is = is
drawn_one noise before (event.Sign region key message) events enough is = is
drawn_one noise before (event.Call region key input) events enough is = is

drawn_all : (noise : List ℕ) (before events : List Event) → 32 * commands_in (before ++ events) ≤ length noise
    → All IsScriptEvent events → All IsScriptEvent (drawn_after noise before events)
drawn_all noise before [] enough all = All-nil IsScriptEvent
drawn_all noise before (e ∷ events) enough all =
    let split = append_assoc before (e ∷ []) events in
    All-cons IsScriptEvent (drawn_event noise before e) (drawn_after noise (before ++ e ∷ []) events)
    (drawn_one noise before e events enough (All-head IsScriptEvent e events all))
    (drawn_all noise (before ++ e ∷ []) events (subst (λ (x : List Event). 32 * commands_in x ≤ length noise) (sym split) enough) (All-tail IsScriptEvent e events all))

pub drawn-script : (events : List Event) (noise : List ℕ) (drawn : List Event) → All IsScriptEvent events → Drawn events noise drawn → All IsScriptEvent drawn
unfolding drawn_events
drawn-script events noise drawn all is =
    All-same IsScriptEvent drawn (drawn_after noise [] events) (is.given ∙ drawn-after noise [] events) (drawn_all noise [] events is.enough all)
