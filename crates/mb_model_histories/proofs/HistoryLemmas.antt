-- Runs one after another: what holds over each run holds over the history.
use Rattle.std.proofs.Common.{◌≡◌, ◌≤◌, ℕ, List, [], ◌∷◌, ◌++◌, inl, inr, Option, None, Some, Bool, true, false, refl, sym, ap, ◌∙◌, subst, append_assoc, append-nil}
use Rattle.std.specs.Prelude.{All, AllPairs}
use Rattle.std.proofs.lemmas.List.Elements.{All-nil, All-cons, All-tail, All-append, All-weaker}
use Rattle.std.proofs.lemmas.List.Kept.{AllPairs-cons}
use Rattle.mb_model.specs.declared.event.Answered.{Answered}
use Rattle.mb_model.specs.declared.event.Event.TheVariants as event
use Rattle.mb_model.specs.declared.region.RegionKey.{RegionKey}
use Rattle.mb_model.specs.declared.reply.Reply.{Reply}
use Rattle.mb_model.specs.declared.reply.Reply.TheVariants as reply
use Rattle.mb_model.specs.declared.state.State.{State}
use Rattle.mb_model.specs.machine.Machine.{Phase, off, ratchet, World, opening_world, Step, machine_step, loses_power}
use Rattle.mb_model.specs.machine.Machine.{Run}
use Rattle.mb_model.specs.machine.Runs.{BeginsWith, IsSignedAt, SignsStatementsOnce, SignsAfterUses}
use Rattle.mb_model.specs.memories.Valid.{Valid}
use Rattle.mb_model_lemmas.proofs.Splits.{none_is_some}
use Rattle.mb_model_lemmas.proofs.ValidSteps.{run_valid}
use Rattle.mb_model_lemmas.proofs.ListLemmas.{pairs_head, pairs_tail, All-front, All-back, All-without, pairs_without}
use Rattle.mb_model_runs.proofs.GrowthLemmas.{begins_same, begins_on, logs_grow}
use Rattle.mb_model_runs.proofs.SignedSteps.{step_signs}
use Rattle.mb_model_runs.proofs.SpentLemmas.{Goes, indices_increase, indices_start}
use Rattle.mb_model_histories.specs.Histories.{History, all_answered, ComesAfter, in_this_run, in_a_later_run, IsPause, IsJoined}
use Rattle.mb_model_histories.proofs.StepLemmas.{Keeps, keeps, obeys, step_comes}

-- ---- validity and growth

pub histories_stay_valid : (first last : Option State) (runs : List (List Answered)) → Valid first → History first runs last → Valid last
histories_stay_valid first last [] valid history = subst Valid (sym history) valid
histories_stay_valid first last (run ∷ runs) valid history =
    histories_stay_valid history.0.state last runs (run_valid (opening_world first) run history.0 valid history.1) history.2

grown_to : (first last : Option State) (runs : List (List Answered)) (live : State) → History first runs last → last ≡ Some live → (born : State) × (first ≡ Some born) × BeginsWith live.log born.log
grown_to first last [] live history is = (live, sym history ∙ is, begins_same live.log)
grown_to first last (run ∷ runs) live history is =
    let later = grown_to history.0.state last runs live history.2 is in
    let sooner = logs_grow (opening_world first) run history.0 history.1 later.0 later.1 in
    (sooner.0, sooner.1, begins_on sooner.0.log later.0.log live.log sooner.2 later.2)

pub logs_grow_over_histories : (first : Option State) (runs : List (List Answered)) (live : State) → History first runs (Some live) → (born : State) × (first ≡ Some born) × BeginsWith live.log born.log
logs_grow_over_histories first runs live history = grown_to first (Some live) runs live history refl

-- ---- between two runs

pub run_on : (a b c : World) (xs ys : List Answered) → Run a xs b → Run b ys c → Run a (xs ++ ys) c
run_on a b c [] ys first second = subst (λ (w : World). Run w ys c) first second
run_on a b c (x ∷ xs) ys first second = (first.0, first.1, run_on first.0 b c xs ys first.2 second)

-- power goes off, and an armed power loss comes at the next boot: the device is as at the start of a run
pub record Pauses (live : State) (phase : Phase) (armed : Bool) : Type 0 where
  pub pause : List Answered
  pub is : All IsPause pause
  pub run : Run (record { state = Some live; phase = phase; armed = armed }) pause (opening_world (Some live))

went_off : Answered
went_off = record { event = event.Off; reply = reply.Off }

failed : Answered
failed = record { event = event.Boot; reply = reply.Stopped }

pauses : (live : State) (phase : Phase) (armed : Bool) → Pauses live phase armed
unfolding went_off failed
pauses live phase false = record {
  pause = went_off ∷ [];
  is = All-cons IsPause went_off [] (inl refl) (All-nil IsPause);
  run = (record { state = Some live; phase = off; armed = false }, machine_step (refl, refl), refl);
}
pauses live phase true =
    let dark : World = record { state = Some live; phase = off; armed = true } in
    let lost : Step dark event.Boot reply.Stopped (opening_world (Some live)) = loses_power (record {
      told = reply.Booted;
      whole = record dark { phase = ratchet 1 };
      machine = refl;
      armed = refl;
      writes = refl;
      state = Some live;
      counts = inl refl;
      answered = refl;
      follows = refl;
    }) in
    record {
      pause = went_off ∷ failed ∷ [];
      is = All-cons IsPause went_off (failed ∷ []) (inl refl) (All-cons IsPause failed [] (inr refl) (All-nil IsPause));
      run = (dark, machine_step (refl, refl), (opening_world (Some live), lost, refl));
    }

-- ---- dead devices

-- no statement answers the event
abbrev Unsigned : Answered → Type 0
Unsigned this = (n index : ℕ) → IsSignedAt n index this → ⊥

dead_signs_nothing : (here next : World) (this : Answered) → here.state ≡ None → Step here this.event this.reply next → Unsigned this
dead_signs_nothing here next this dead step n index at =
    let signs = step_signs here this.event n index at.0 next (subst (λ (r : Reply). Step here this.event r next) at.1 step) in
    none_is_some here.state signs.state dead signs.was

kept_dead : (o p : Option State) → o ≡ None → Keeps o p → p ≡ None
kept_dead o None dead kept = refl
kept_dead o (Some live) dead kept = absurd (subst (λ q. Keeps q (Some live)) dead kept)

stays_dead : (here next : World) (this : Answered) → here.state ≡ None → Step here this.event this.reply next → next.state ≡ None
stays_dead here next this dead step =
    elim (step_comes here this.event this.reply next step) [
      | keeps kept undone ↦ kept_dead here.state next.state dead kept
      | obeys order by ↦ absurd (none_is_some here.state by.before dead by.was)
    ]

dead_run : (here last : World) (answered : List Answered) → here.state ≡ None → Run here answered last → All Unsigned answered × (last.state ≡ None)
dead_run here last [] dead run = (All-nil Unsigned, ap (λ (w : World). w.state) run ∙ dead)
dead_run here last (this ∷ rest) dead run =
    let later = dead_run run.0 last rest (stays_dead here run.0 this dead run.1) run.2 in
    (All-cons Unsigned this rest (dead_signs_nothing here run.0 this dead run.1) later.0, later.1)

dead_history : (first last : Option State) (runs : List (List Answered)) → first ≡ None → History first runs last → All Unsigned (all_answered runs)
dead_history first last [] dead history = All-nil Unsigned
dead_history first last (run ∷ runs) dead history =
    let now = dead_run (opening_world first) history.0 run dead history.1 in
    All-append Unsigned run (all_answered runs) now.0 (dead_history history.0.state last runs now.1 history.2)

-- ---- what holds of the answered events of runs holds of those of lives

module _ (start : World) (P : List Answered → Type 0)
    (of_run : (answered : List Answered) (last : World) → Run start answered last → P answered)
    (without : (sooner pause later : List Answered) → P (sooner ++ pause ++ later) → P (sooner ++ later))
    (silent : (sooner later : List Answered) → P sooner → All Unsigned later → P (sooner ++ later)) where
  of_history : (before : List Answered) (state last : Option State) (phase : Phase) (armed : Bool) (runs : List (List Answered))
      → Run start before (record { state = state; phase = phase; armed = armed }) → History state runs last → P (before ++ all_answered runs)
  of_history before state last phase armed [] run history = subst P (sym (append-nil before)) (of_run before _ run)
  of_history before None last phase armed (next ∷ runs) run history = silent before (all_answered (next ∷ runs)) (of_run before _ run) (dead_history None last (next ∷ runs) refl history)
  of_history before (Some live) last phase armed (next ∷ runs) run history =
      let gap : Pauses live phase armed = pauses live phase armed in
      let dark : Run start (before ++ gap.pause) (opening_world (Some live)) = run_on start _ (opening_world (Some live)) before gap.pause run gap.run in
      let whole : Run start (before ++ gap.pause ++ next) history.0 = run_on start (opening_world (Some live)) history.0 (before ++ gap.pause) next dark history.1 in
      let later : P (before ++ gap.pause ++ next ++ all_answered runs) = of_history (before ++ gap.pause ++ next) history.0.state last history.0.phase history.0.armed runs whole history.2 in
      without before gap.pause (next ++ all_answered runs) (subst P (append_assoc (before ++ gap.pause) next (all_answered runs)) later)

-- ---- indices

pairs_silent : (xs ys : List Answered) → AllPairs Goes xs → All Unsigned ys → AllPairs Goes (xs ++ ys)
pairs_silent [] [] all none = all
pairs_silent [] (y ∷ ys) all none =
    AllPairs-cons Goes y ys (All-weaker Unsigned (Goes y) (λ z is n i j of_this of_that. absurd (is n j of_that)) ys (All-tail Unsigned y ys none)) (pairs_silent [] ys all (All-tail Unsigned y ys none))
pairs_silent (x ∷ xs) ys all none =
    AllPairs-cons Goes x (xs ++ ys)
    (All-append (Goes x) xs ys (pairs_head Goes x xs all) (All-weaker Unsigned (Goes x) (λ z is n i j of_this of_that. absurd (is n j of_that)) ys none))
    (pairs_silent xs ys (pairs_tail Goes x xs all) none)

sign_once : (first last : Option State) (runs : List (List Answered)) → Valid first → History first runs last → AllPairs Goes (all_answered runs)
sign_once first last runs valid history =
    of_history (opening_world first) (AllPairs Goes) (λ answered next run. indices_increase (opening_world first) answered next valid run) (pairs_without Goes) pairs_silent
    [] first last off false runs refl history

-- the statement has no index that the key has used
abbrev IsFresh : RegionKey → Answered → Type 0
IsFresh key this = (index : ℕ) → IsSignedAt key.number index this → key.uses ≤ index

fresh_silent : (key : RegionKey) (xs ys : List Answered) → All (IsFresh key) xs → All Unsigned ys → All (IsFresh key) (xs ++ ys)
fresh_silent key xs ys all none = All-append (IsFresh key) xs ys all (All-weaker Unsigned (IsFresh key) (λ this is index at. absurd (is key.number index at)) ys none)

sign_after_uses : (first last : Option State) (runs : List (List Answered)) → Valid first → History first runs last → SignsAfterUses first (all_answered runs)
sign_after_uses first last runs valid history live layer key is within =
    of_history (opening_world first) (All (IsFresh key)) (λ answered next run. indices_start (opening_world first) answered next live layer key valid run is within) (All-without (IsFresh key)) (fresh_silent key)
    [] first last off false runs refl history

pub histories_sign_once : (first last : Option State) (runs : List (List Answered)) → Valid first → History first runs last → SignsStatementsOnce (all_answered runs) × SignsAfterUses first (all_answered runs)
histories_sign_once first last runs valid history = (sign_once first last runs valid history, sign_after_uses first last runs valid history)

-- ---- the worlds of a history

pub histories_have_worlds : (first last : Option State) (runs : List (List Answered)) → History first runs last → (end : World) × ComesAfter end (opening_world first) × (end.state ≡ last)
histories_have_worlds first last [] history = (opening_world first, in_this_run [] refl, sym history)
histories_have_worlds first last (run ∷ runs) history =
    let later = histories_have_worlds history.0.state last runs history.2 in
    (later.0, in_a_later_run run history.0 history.1 later.1, later.2)

history_to : (there here : World) (first : Option State) → ComesAfter there here → here ≡ opening_world first → (runs : List (List Answered)) × History first runs there.state
history_to there here first (in_this_run answered run) is = (answered ∷ [], (there, subst (λ (w : World). Run w answered there) is run, refl))
history_to there here first (in_a_later_run answered end run after) is =
    let later = history_to there (opening_world end.state) end.state after refl in
    (answered ∷ later.0, (end, subst (λ (w : World). Run w answered end) is run, later.1))

pub worlds_have_histories : (first : Option State) (there : World) → ComesAfter there (opening_world first) → (runs : List (List Answered)) × History first runs there.state
worlds_have_histories first there after = history_to there (opening_world first) first after refl

-- ---- one run

-- one run from a world with this state, with what happened in it
record IsOneRun (from : World) (runs : List (List Answered)) (live : State) : Type 0 where
  joined : List Answered
  last : World
  is : IsJoined runs joined
  run : Run from joined last
  lives : last.state ≡ Some live

joined_from : (state : Option State) (phase : Phase) (armed : Bool) (runs : List (List Answered)) (live : State) → History state runs (Some live)
    → IsOneRun (record { state = state; phase = phase; armed = armed }) runs live
joined_from state phase armed [] live history = record { joined = []; last = record { state = state; phase = phase; armed = armed }; is = refl; run = refl; lives = sym history }
joined_from None phase armed (next ∷ runs) live history = absurd (none_is_some None (logs_grow_over_histories None (next ∷ runs) live history).0 refl (logs_grow_over_histories None (next ∷ runs) live history).1)
joined_from (Some born) phase armed (next ∷ runs) live history =
    let gap : Pauses born phase armed = pauses born phase armed in
    let later : IsOneRun history.0 runs live = joined_from history.0.state history.0.phase history.0.armed runs live history.2 in
    let begun : Run (record { state = Some born; phase = phase; armed = armed }) (gap.pause ++ next) history.0 = run_on _ (opening_world (Some born)) history.0 gap.pause next gap.run history.1 in
    record {
      joined = gap.pause ++ next ++ later.joined;
      last = later.last;
      is = (gap.pause, later.joined, gap.is, later.is, refl);
      run = run_on _ history.0 later.last (gap.pause ++ next) later.joined begun later.run;
      lives = later.lives;
    }

-- a device that lives at the end of a run lives at its start
pub lives_before : (first last : World) (answered : List Answered) (live : State) → Run first answered last → last.state ≡ Some live → (born : State) × (first.state ≡ Some born)
lives_before first last answered live run is =
    let grown = logs_grow first answered last run live is in
    (grown.0, grown.1)

-- the pause after a world of a live device
pause_after : (state : Option State) (phase : Phase) (armed : Bool) (live : State) → state ≡ Some live → (pause : List Answered) × Run (record { state = state; phase = phase; armed = armed }) pause (opening_world state)
pause_after state phase armed live is =
    let gap : Pauses live phase armed = pauses live phase armed in
    (gap.pause, subst (λ (o : Option State). Run (record { state = o; phase = phase; armed = armed }) gap.pause (opening_world o)) (sym is) gap.run)

runs_lead_to : (there here : World) (live : State) → ComesAfter there here → there.state ≡ Some live → (answered : List Answered) × Run here answered there
runs_lead_to there here live (in_this_run answered run) is = (answered, run)
runs_lead_to there here live (in_a_later_run answered end run after) is =
    let later = runs_lead_to there (opening_world end.state) live after is in
    let born = lives_before (opening_world end.state) there later.0 live later.1 is in
    let gap = pause_after end.state end.phase end.armed born.0 born.1 in
    let dark : Run here (answered ++ gap.0) (opening_world end.state) = run_on here end (opening_world end.state) answered gap.0 run gap.1 in
    (answered ++ gap.0 ++ later.0, run_on here (opening_world end.state) there (answered ++ gap.0) later.0 dark later.1)

pub runs_lead : (here there : World) (live : State) → ComesAfter there here → there.state ≡ Some live → (answered : List Answered) × Run here answered there
runs_lead here there live after is = runs_lead_to there here live after is

pub histories_are_runs : (first : Option State) (runs : List (List Answered)) (live : State) → History first runs (Some live)
    → (joined : List Answered) × (last : World) × IsJoined runs joined × Run (opening_world first) joined last × (last.state ≡ Some live)
histories_are_runs first runs live history =
    let one : IsOneRun (opening_world first) runs live = joined_from first off false runs live history in
    (one.joined, one.last, one.is, one.run, one.lives)

-- what holds of each event of the one run holds of each of the history
pub of_joined : (P : Answered → Type 0) (runs : List (List Answered)) (joined : List Answered) → IsJoined runs joined → All P joined → All P (all_answered runs)
of_joined P [] joined is all = All-nil P
of_joined P (next ∷ runs) joined is all =
    let whole : All P (is.0 ++ next ++ is.1) = subst (All P) is.4 all in
    All-append P next (all_answered runs) (All-back P is.0 next (All-front P (is.0 ++ next) is.1 whole)) (of_joined P runs is.1 is.3 (All-back P (is.0 ++ next) is.1 whole))

-- and the other way round, if it holds of each pause
pub to_joined : (P : Answered → Type 0) (runs : List (List Answered)) (joined : List Answered) → ((this : Answered) → IsPause this → P this) → IsJoined runs joined → All P (all_answered runs) → All P joined
to_joined P [] joined pause is all = subst (All P) (sym is) (All-nil P)
to_joined P (next ∷ runs) joined pause is all =
    let own : All P next = All-front P next (all_answered runs) all in
    let later : All P is.1 = to_joined P runs is.1 pause is.3 (All-back P next (all_answered runs) all) in
    subst (All P) (sym is.4) (All-append P (is.0 ++ next) is.1 (All-append P is.0 next (All-weaker IsPause P pause is.0 is.2) own) later)
