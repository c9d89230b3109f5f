-- A log only grows.
use Rattle.std.proofs.Common.{◌≡◌, ℕ, List, [], ◌∷◌, ◌++◌, length, Option, None, Some, Bool, true, false, refl, sym, ap, ◌∙◌, append_assoc, append-nil, arith}
use Rattle.std.specs.Prelude.{if◌then◌else◌, AllPairs}
use Rattle.std.proofs.lemmas.List.Elements.{All-nil, All-weaker}
use Rattle.std.proofs.lemmas.List.Kept.{AllPairs-cons}
use Rattle.mb_model.specs.declared.entry.Entry.{Entry}
use Rattle.mb_model.specs.declared.entry.Entry.TheVariants.{Succession}
use Rattle.mb_model.specs.declared.entry.SignedEntry.{SignedEntry}
use Rattle.mb_model.specs.declared.event.Answered.{Answered}
use Rattle.mb_model.specs.declared.order.Order.{Order}
use Rattle.mb_model.specs.declared.state.State.{State}
use Rattle.mb_model.specs.owners.Log.{entries_of, uses_of_device_key}
use Rattle.mb_model.specs.signatures.Signing.{public_of}
use Rattle.mb_model.specs.machine.OrderChecks.{needs_succession, view_of}
use Rattle.mb_model.specs.machine.OrderEffects.{entry_signed_by, log_with, next_key, state_after_succession, ready_for, state_after_order, entry_of, fact_of}
use Rattle.mb_model.specs.machine.Machine.{World, Run}
use Rattle.mb_model_lemmas.proofs.OwnEntries.{appends_own}
use Rattle.mb_model.specs.machine.Runs.{BeginsWith, LogGoesOn, worlds_of}
use Rattle.mb_model_runs.proofs.KeptByRuns.{IsKept, run_kept, runs_lead_there}

pub begins_same : (log : List SignedEntry) → BeginsWith log log
begins_same log = ([], sym (append-nil log))

pub begins_on : (a b c : List SignedEntry) → BeginsWith b a → BeginsWith c b → BeginsWith c a
begins_on a b c x y = (x.0 ++ y.0, y.1 ∙ ap (λ log. log ++ y.0) x.1 ∙ append_assoc a x.0 y.0)

begins_more : (state : State) (entry : Entry) → BeginsWith (log_with state entry) state.log
begins_more state entry = (entry_signed_by state.device (uses_of_device_key (entries_of state.log)) entry ∷ [], refl)

ready_begins : (b : Bool) (state : State) (draw : List ℕ) → BeginsWith (if b then state_after_succession state draw else state).log state.log
unfolding state_after_succession
ready_begins true state draw = begins_more state (Succession (length state.log) (public_of (next_key (view_of state) draw)))
ready_begins false state draw = begins_same state.log

-- an order only adds to the log
pub obeyed_begins : (state : State) (order : Order) (draw : List ℕ) → BeginsWith (state_after_order state order draw).log state.log
obeyed_begins state order draw =
    let ready : State = ready_for state order draw in
    let own : Entry = entry_of (view_of ready) (fact_of ready.layers order order.act) draw in
    let more = begins_more ready own in
    begins_on state.log ready.log (state_after_order state order draw).log (ready_begins (needs_succession (view_of state) order) state draw)
    (more.0, appends_own state order draw ∙ more.1)

-- a live state comes of a live one, whose log is the beginning of its own
abbrev pub Grows : Option State → Option State → Type 0
Grows before None = Unit {0}
Grows None (Some after) = ⊥
Grows (Some before) (Some after) = BeginsWith after.log before.log

grows_same : (o : Option State) → Grows o o
grows_same None = tt
grows_same (Some state) = begins_same state.log

grows_on : (a b c : Option State) → Grows a b → Grows b c → Grows a c
grows_on a b None x y = tt
grows_on a None (Some later) x y = absurd y
grows_on None (Some between) (Some later) x y = absurd x
grows_on (Some earlier) (Some between) (Some later) x y = begins_on earlier.log between.log later.log x y

growth_kept : IsKept Grows
growth_kept = record {
  same = grows_same;
  dies = λ o. tt;
  secrets = λ state L secrets. begins_same state.log;
  used = λ state L number. begins_same state.log;
  called = λ state L secrets number. begins_same state.log;
  order = obeyed_begins;
}

pub run_grows : (world : World) (answered : List Answered) (next : World) → Run world answered next → Grows world.state next.state
run_grows world answered next run = run_kept Grows growth_kept grows_on world answered next run

grown_from : (before after : Option State) (later : State) → Grows before after → after ≡ Some later
    → (earlier : State) × (before ≡ Some earlier) × BeginsWith later.log earlier.log
grown_from before None later grows is = absurd (grind (arith, is))
grown_from None (Some after) later grows is = absurd grows
grown_from (Some before) (Some after) later grows is =
    let same : after ≡ later = cc in
    (before, refl, (grows.0, ap (λ (s : State). s.log) (sym same) ∙ grows.1))

pub logs_grow : (world : World) (answered : List Answered) (next : World) → Run world answered next → LogGoesOn world next
logs_grow world answered next run later is = grown_from world.state next.state later (run_grows world answered next run) is

pub each_log_grows : (world : World) (answered : List Answered) (next : World) (run : Run world answered next) → AllPairs LogGoesOn (worlds_of world answered next run)
each_log_grows world [] next run = AllPairs-cons LogGoesOn world [] (All-nil (LogGoesOn world)) (λ i j d less within. absurd (omega (arith, within)))
each_log_grows world (this ∷ rest) next run =
    let Q : World → Type 0 = λ w. (part : List Answered) × Run run.0 part w in
    let worlds : List World = worlds_of run.0 rest next run.2 in
    AllPairs-cons LogGoesOn world worlds
    (All-weaker Q (LogGoesOn world) (λ w part. logs_grow world (this ∷ part.0) w (run.0, run.1, part.1)) worlds (runs_lead_there run.0 rest next run.2))
    (each_log_grows run.0 rest next run.2)
