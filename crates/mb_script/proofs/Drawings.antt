-- How far the draws of a script have been placed.
use Rattle.std.proofs.Common.{◌≡◌, ℕ, ◌+◌, ◌-◌, ◌*◌, ◌<◌, ◌≤◌, zero, suc, true, List, [], ◌∷◌, ◌++◌, length, length-append, take, drop, refl, sym, ap, ◌∙◌, arith, append_assoc}
use Rattle.std.specs.Prelude.{IsTrue, Some, slice_get, slice_set}
use Rattle.std.proofs.lemmas.List.{length-take-le, length-drop, take-append-drop, take_at, drop-drop, set-append_right}
use Rattle.mb_model.specs.declared.event.Event.{Event}
use Rattle.mb_model.specs.declared.event.Event.TheVariants as event
use Rattle.mb_model.specs.chains.Script.{with_before, is_command, commands_in, drawn_event, drawn_events}
use Rattle.mb_model_lemmas.proofs.DrawLemmas.{drawn-push, drawn-length, commands_in-append}

-- The events before a place have their draws, and the noise after these is left.
pub record IsDrawing (noise : List ℕ) (old now : List Event) (left : List ℕ) (at : ℕ) : Type 0 where
  pub drawn : now ≡ drawn_events noise (take at old) ++ drop at old
  pub rest : left ≡ drop (32 * commands_in (take at old)) noise

pub draws_begin : (noise : List ℕ) (old : List Event) → IsDrawing noise old old noise 0
unfolding drawn_events commands_in with_before
draws_begin noise old = record { drawn = refl; rest = refl }

front_length : (noise : List ℕ) (old : List Event) (at : ℕ) → at ≤ length old → length (drawn_events noise (take at old)) ≡ at
front_length noise old at within = drawn-length noise (take at old) ∙ length-take-le at old within

pub drawn_count : (noise : List ℕ) (old now : List Event) (left : List ℕ) (at : ℕ) → IsDrawing noise old now left at → at ≤ length old → length now ≡ length old
drawn_count noise old now left at is within =
    omega (arith, ap length is.drawn, length-append (drawn_events noise (take at old)) (drop at old), front_length noise old at within, length-drop at old)

-- ---- the event at a place

get_after : (front back : List Event) (i : ℕ) → length front ≡ i → slice_get (front ++ back) i ≡ slice_get back 0
get_after [] back zero e = refl
get_after [] back (suc i) e = absurd (omega (arith, e))
get_after (x ∷ front) back zero e = absurd (omega (arith, e))
get_after (x ∷ front) back (suc i) e = get_after front back i (omega (arith, e))

first_got : (back : List Event) (e : Event) → slice_get back 0 ≡ Some e → back ≡ e ∷ drop 1 back
first_got [] e got = absurd (cc got)
first_got (x ∷ back) e got = let same : x ≡ e = cc in ap (λ (y : Event). y ∷ back) same

-- the event that is found in a place not reached yet is the old one
old_event : (noise : List ℕ) (old now : List Event) (left : List ℕ) (at : ℕ) (e : Event) → IsDrawing noise old now left at → at ≤ length old → slice_get now at ≡ Some e
    → drop at old ≡ e ∷ drop (at + 1) old
old_event noise old now left at e is within got =
    let here = sym (get_after (drawn_events noise (take at old)) (drop at old) at (front_length noise old at within)) ∙ ap (λ (x : List Event). slice_get x at) (sym is.drawn) ∙ got in
    first_got (drop at old) e here ∙ ap (λ (x : List Event). e ∷ x) (drop-drop 1 at old)

old_split : (old : List Event) (at : ℕ) (e : Event) → drop at old ≡ e ∷ drop (at + 1) old → old ≡ take at old ++ e ∷ drop (at + 1) old
old_split old at e here = sym (take-append-drop at old) ∙ ap (λ (x : List Event). take at old ++ x) here

take_one : (old : List Event) (at : ℕ) (e : Event) → at < length old → drop at old ≡ e ∷ drop (at + 1) old → take (at + 1) old ≡ take at old ++ e ∷ []
take_one old at e within here =
    let split = old_split old at e here ∙ sym (append_assoc (take at old) (e ∷ []) (drop (at + 1) old)) in
    ap (take (at + 1)) split ∙ take_at (take at old ++ e ∷ []) (drop (at + 1) old) (at + 1) (omega (arith, length-append (take at old) (e ∷ []), length-take-le at old (omega (arith, within))))

-- ---- the noise

one_command : (e : Event) → is_command e ≡ true → commands_in (e ∷ []) ≡ 1
unfolding commands_in
one_command e is = rw is refl

pub draw_left : (noise : List ℕ) (old now : List Event) (left : List ℕ) (at : ℕ) (e : Event) → IsDrawing noise old now left at → at ≤ length old → slice_get now at ≡ Some e
    → 32 * commands_in old ≤ length noise → IsTrue (is_command e) → 32 ≤ length left
draw_left noise old now left at e is within got enough command =
    let here = old_event noise old now left at e is within got in
    let all = ap commands_in (old_split old at e here) ∙ commands_in-append (take at old) (e ∷ drop (at + 1) old) in
    let remaining : commands_in (e ∷ drop (at + 1) old) ≡ commands_in (e ∷ []) + commands_in (drop (at + 1) old) = commands_in-append (e ∷ []) (drop (at + 1) old) in
    omega (arith, enough, all, remaining, one_command e command, ap length is.rest, length-drop (32 * commands_in (take at old)) noise)

same_draw : (noise left : List ℕ) (before : List Event) (e : Event) → left ≡ drop (32 * commands_in before) noise → drawn_event left [] e ≡ drawn_event noise before e
unfolding commands_in
same_draw noise left before event.Boot e = refl
same_draw noise left before event.Off e = refl
same_draw noise left before event.Tamper e = refl
same_draw noise left before event.Status e = refl
same_draw noise left before event.Go e = refl
same_draw noise left before (event.Cut count tear) e = refl
same_draw noise left before (event.Order text draw) e = ap (λ (x : List ℕ). event.Order text (take 32 x)) e
same_draw noise left before (event.Put region name value) e = refl
same_draw noise left before (event.Get region name) e = refl
same_draw noise left before (event.Drop region name) e = refl
same_draw noise left before (event.Sign region key message) e = refl
same_draw noise left before (event.Call region key input) e = refl

-- ---- one place more

set_after : (front back : List Event) (at : ℕ) (x y : Event) → length front ≡ at → slice_set (front ++ x ∷ back) at y ≡ front ++ y ∷ back
set_after front back at x y long =
    let none : at - at ≡ 0 = omega arith in
    set-append_right front (x ∷ back) at at y long (omega arith) ∙ ap (λ (n : ℕ). front ++ slice_set (x ∷ back) n y) none

pub place_one : (noise : List ℕ) (old now mid new : List Event) (left remaining : List ℕ) (at : ℕ) (e placeholder drawn : Event) → IsDrawing noise old now left at → at < length old → slice_get now at ≡ Some e
    → mid ≡ slice_set now at placeholder → new ≡ slice_set mid at drawn → drawn ≡ drawn_event left [] e → remaining ≡ drop (32 * commands_in (e ∷ [])) left
    → IsDrawing noise old new remaining (at + 1)
place_one noise old now mid new left remaining at e placeholder drawn is within got taken put made rest =
    let before = take at old in
    let front = drawn_events noise before in
    let back = drop (at + 1) old in
    let long = front_length noise old at (omega (arith, within)) in
    let here = old_event noise old now left at e is (omega (arith, within)) got in
    let one = take_one old at e within here in
    let now_is : now ≡ front ++ e ∷ back = is.drawn ∙ ap (λ (x : List Event). front ++ x) here in
    let mid_is : mid ≡ front ++ placeholder ∷ back = taken ∙ ap (λ (x : List Event). slice_set x at placeholder) now_is ∙ set_after front back at e placeholder long in
    let new_is : new ≡ front ++ drawn ∷ back = put ∙ ap (λ (x : List Event). slice_set x at drawn) mid_is ∙ set_after front back at placeholder drawn long in
    let event_is : drawn ≡ drawn_event noise before e = made ∙ same_draw noise left before e is.rest in
    let fronts : drawn_events noise (take (at + 1) old) ≡ front ++ drawn ∷ [] =
    ap (drawn_events noise) one ∙ drawn-push noise before e ∙ ap (λ (x : Event). front ++ x ∷ []) (sym event_is) in
    let counted = ap commands_in one ∙ commands_in-append before (e ∷ []) in
    let places : 32 * commands_in before + 32 * commands_in (e ∷ []) ≡ 32 * commands_in (take (at + 1) old) = omega (arith, counted) in
    record {
      drawn = new_is ∙ sym (append_assoc front (drawn ∷ []) back) ∙ ap (λ (x : List Event). x ++ back) (sym fronts);
      rest =
          rest ∙ ap (λ (x : List ℕ). drop (32 * commands_in (e ∷ [])) x) is.rest ∙ drop-drop (32 * commands_in (e ∷ [])) (32 * commands_in before) noise
          ∙ ap (λ (n : ℕ). drop n noise) places;
    }
