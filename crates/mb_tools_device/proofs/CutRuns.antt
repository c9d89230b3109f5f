-- What the two runs of `cutat` leave.
use Rattle.std.proofs.Common.{◌≡◌, ℕ, inl, inr, false, List, [], ◌∷◌, length, map, Option, refl, sym, ap, subst, ◌∙◌, arith}
use Rattle.std.specs.Prelude.{All, suc, zero}
use Rattle.std.proofs.lemmas.Simd.{map-map}
use Rattle.std.proofs.lemmas.List.Elements.{All-nil, All-cons, All-head, All-tail}
use Rattle.mb_model.specs.declared.event.Event.{Event}
use Rattle.mb_model.specs.declared.event.Event.TheVariants as event
use Rattle.mb_model.specs.declared.event.Answered.{Answered}
use Rattle.mb_model.specs.declared.state.State.{State}
use Rattle.mb_model.specs.outside.Board.{Held, IsLoaded, image_of}
use Rattle.mb_model.specs.machine.Machine.{opening_world}
use Rattle.mb_model.specs.chains.Script.{with_before, drawn_event, drawn_events, Drawn}
use Rattle.mb_model_commands.specs.Inputs.{Image}
use Rattle.mb_model_commands.specs.RunCommand.{IsServed}
use Rattle.mb_model_lemmas.proofs.DrawLemmas.{drawn-length}
use Rattle.mb_model_lemmas.proofs.LineLemmas.{cons_same}
use Rattle.mb_tools_device.specs.MachineRuns.{is_cut, IsPlain, MachineRun}
use Rattle.mb_tools_device.specs.CutCommand.{AreUncut, CutRun, AnyLacksMemory, IsRehearsed, IsCutServed, cut_events}
use Rattle.mb_tools_device.specs.TwoRuns.{CanBeCut, AreRuns, IsImageLeft}
use Rattle.mb_tools_device.proofs.MachineLemmas.{IsUncut, IsFound, run_is_machine, one_more, cut_short, third_same}

-- ---- draws make no cut of an event

drawn_uncut : (noise : List ℕ) (before : List Event) (e : Event) → is_cut e ≡ false → is_cut (drawn_event noise before e) ≡ false
drawn_uncut noise before event.Boot uncut = refl
drawn_uncut noise before event.Off uncut = refl
drawn_uncut noise before event.Tamper uncut = refl
drawn_uncut noise before event.Status uncut = refl
drawn_uncut noise before event.Go uncut = refl
drawn_uncut noise before (event.Cut count tear) uncut = uncut
drawn_uncut noise before (event.Order text draw) uncut = refl
drawn_uncut noise before (event.Put region name value) uncut = refl
drawn_uncut noise before (event.Get region name) uncut = refl
drawn_uncut noise before (event.Drop region name) uncut = refl
drawn_uncut noise before (event.Sign region key message) uncut = refl
drawn_uncut noise before (event.Call region key input) uncut = refl

-- where each event with those before it is made one that is no cut
all_made : (f : List Event × Event → Event) (events : List Event) → ((at : List Event × Event) → is_cut at.1 ≡ false → is_cut (f at) ≡ false) → All IsUncut events → All IsUncut (map f (with_before events))
unfolding with_before
all_made f [] keeps all = All-nil IsUncut
all_made f (e ∷ events) keeps all =
    let more : List Event × Event → List Event × Event = λ at. (e ∷ at.0, at.1) in
    All-cons IsUncut (f ([], e)) (map f (map more (with_before events))) (keeps ([], e) (All-head IsUncut e events all))
    (subst (All IsUncut) (sym (map-map f more (with_before events))) (all_made (λ at. f (more at)) events (λ at. keeps (more at)) (All-tail IsUncut e events all)))

pub draws_uncut : (events : List Event) (noise : List ℕ) (drawn : List Event) → AreUncut events → Drawn events noise drawn → AreUncut drawn
unfolding drawn_events
draws_uncut events noise drawn uncut is =
    let size : length drawn ≡ length events = ap length is.given ∙ drawn-length noise events in
    record {
      some = λ none. uncut.some (none_left events (sym size ∙ ap length none));
      can = record {
        uncut = subst (All IsUncut) (sym is.given) (all_made (λ at. drawn_event noise at.0 at.1) events (λ at. drawn_uncut noise at.0 at.1) uncut.can.uncut);
        most = omega (arith, uncut.can.most, size);
      };
    }
  where
    none_left : (list : List Event) → length list ≡ 0 → list ≡ []
    none_left [] none = refl
    none_left (e ∷ list) none = absurd (omega (arith, none))

-- ---- the answers

all_found : (list : List Answered) → (AnyLacksMemory list → ⊥) → All IsFound list
all_found [] none = All-nil IsFound
all_found (a ∷ rest) none =
    All-cons IsFound a rest (λ lacks. none (zero, a, omega arith, refl, lacks)) (all_found rest (λ some. none (suc some.0, some.1, omega (arith, some.2), some.3, some.4)))

all_plain : (list : List Answered) (events : List Event) → map (λ a. a.event) list ≡ events → All IsUncut events → All IsFound list → All IsPlain list
all_plain [] events same uncut found = All-nil IsPlain
all_plain (a ∷ rest) [] same uncut found = absurd (omega (arith, ap length same))
all_plain (a ∷ rest) (e ∷ events) same uncut found =
    let parts = cons_same a.event e _ _ same in
    All-cons IsPlain a rest (record { uncut = ap is_cut parts.0 ∙ All-head IsUncut e events uncut; found = All-head IsFound a rest found })
    (all_plain rest events parts.1 (All-tail IsUncut e events uncut) (All-tail IsFound a rest found))

is_rehearsed : (image : Image) (count : ℕ) (cut : CutRun) (list : List Answered) (held : Held) → CanBeCut count cut → IsServed image cut.first list held → IsRehearsed image cut list held
is_rehearsed image count cut list held can served = record {
  served = served;
  whole = λ found.
      let run = run_is_machine (opening_world image.state) list served.last refl (all_plain list cut.first served.all can.uncut (all_found list found)) served.run in (
        served.last.state,
        record { world = served.last; shown = served.shown; is = refl },
        record { last = served.last; run = subst (λ events. MachineRun (opening_world image.state) events served.last) served.all run; state = refl },
      );
}

-- the events of the first run are those before the last
pub rehearsed : (count : ℕ) (image : Image) (first second : List Event) (cut : CutRun) (list : List Answered) (held : Held) → AreRuns count first second cut → IsServed image first list held
    → IsRehearsed image cut list held
rehearsed count image first second cut list held are served = is_rehearsed image count cut list held are.can (subst (λ (l : List Event). IsServed image l list held) are.first_is served)

pub is_cut_served : (image : Image) (count : ℕ) (cut : CutRun) (list : List Answered) (final : Held) → CanBeCut count cut → IsServed image (cut_events count cut) list final
    → IsCutServed image count cut list final
is_cut_served image count cut list final can served = record {
  served = served;
  counts = λ found stopped.
      let short = cut_short (opening_world image.state) cut.first count cut.tear cut.last list served.last refl can.uncut can.last served.all (all_found list found) served.run in
      let same = third_same short.front stopped.before short.that short.boot short.off stopped.last stopped.boot stopped.off (sym short.split ∙ stopped.split) in
      let counted = short.counts (ap (λ (a : Answered). a.reply) same ∙ stopped.stopped) in (
        short.mid.state,
        counted.1.state,
        record { last = short.mid; run = short.run; state = refl },
        record { last = counted.1; run = one_more (opening_world image.state) short.mid counted.1 cut.first cut.last counted.0 short.run counted.2; state = refl },
        elim counted.3 [
          | inl before ↦ inl (record { world = served.last; shown = served.shown; is = before })
          | inr after ↦ inr (record { world = served.last; shown = served.shown; is = after })
        ],
      );
}

-- the image that a board holds once it has served events
pub served_left : (image : Image) (events : List Event) (list : List Answered) (final : Held) (left : List ℕ) → IsServed image events list final → IsLoaded final.memory → left ≡ image_of final.memory → IsImageLeft final left
served_left image events list final left served loaded is = record {
  state = served.last.state;
  shows = record { world = served.last; shown = served.shown; is = refl };
  bytes = served.bytes;
  loaded = loaded;
  image_is = is;
}
