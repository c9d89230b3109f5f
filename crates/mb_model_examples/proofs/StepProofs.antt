-- The examples of the machine, computed.
use Rattle.std.proofs.Common.{◌≡◌, ℕ, ◌+◌, List, inl, inr, Option, None, Some, Bool, true, false, refl, sym, ap, subst, ◌∙◌, arith, lit<}
use Rattle.std.specs.Prelude.{◌⊎◌, Result, Ok, Err, IsTrue, nat_lt, not, ◌||◌, find, if◌then◌else◌}
use Rattle.std.proofs.lemmas.Bool.{false≢true}
use Rattle.mb_model.specs.declared.event.Event.{Event}
use Rattle.mb_model.specs.declared.event.Event.TheVariants as event
use Rattle.mb_model.specs.declared.region.Secret.{Secret}
use Rattle.mb_model.specs.declared.reply.Reply.{Reply}
use Rattle.mb_model.specs.declared.reply.Reply.TheVariants as reply
use Rattle.mb_model.specs.declared.state.State.{State}
use Rattle.mb_model.specs.owners.Layers.{is_runnable}
use Rattle.mb_model.specs.owners.Log.{number_of}
use Rattle.mb_model.specs.declared.reply.Refusal.{Refusal}
use Rattle.mb_model.specs.declared.reply.Refusal.TheVariants.{PoweredOff, Zeroised, WrongLayer, WrongCode}
use Rattle.mb_model.specs.machine.Refusals.{refusal_number, refusal_reply}
use Rattle.mb_model.specs.owners.Regions.{region_of}
use Rattle.mb_model.specs.machine.LayerEvents.{Outcome, has_name, value_reply, put_event, get_event, drop_event}
use Rattle.mb_model.specs.machine.LayerEvents.{sign_event, code_in, takes_calls}
use Rattle.mb_model.specs.machine.Machine.{off, dead, World, Told, running_state_in, status_of, status_event, go_event, region_event, CommandStep, CallTold, Machine, may_want_memory, may_be_cut, Step, machine_step, lacks_memory, loses_power}
use Rattle.mb_model_lemmas.specs.RefusalLaws.{BringsBytes}
use Rattle.mb_model_lemmas.proofs.RefusalLemmas.{machine_is_whole, machine_is_function}
use Rattle.mb_model_examples.specs.Device.{world_at, dead_world}
use Rattle.mb_model_examples.specs.StepExamples.{BootExamples, AlwaysExamples, RefusesOthers, SleepingExamples, AwakeExamples, GoExamples, NeverStops, StopExamples, StopsBetween, NeverWantsMemory, MemoryExamples}

-- ---- the table of phases

pub boots : (state : State) → BootExamples state
boots state = record {
  at_off = refl;
  at_off_without_state = refl;
  at_dead = refl;
  at_one = refl;
  at_two = refl;
  at_three = refl;
}

pub always : (world : World) → AlwaysExamples world
always world = record { off_event = (refl, refl); tamper = (refl, refl); cut = λ count tear. (refl, refl) }

-- a device that is not awake
refuses_others : (world : World) (refusal : Refusal) → running_state_in world ≡ Err refusal → RefusesOthers world (refusal_number refusal)
refuses_others world refusal e = record {
  status = ap (status_event world) (sym e);
  command = λ text draw. subst (λ (on : Result (ℕ × State) Refusal). CommandStep world text draw on (refusal_reply refusal) world) (sym e) (refl, refl);
  go = ap (go_event world) (sym e);
  put = λ L name value. ap (region_event world L (put_event L name value)) (sym e);
  get = λ L name. ap (region_event world L (get_event L name)) (sym e);
  drop = λ L name. ap (region_event world L (drop_event L name)) (sym e);
  sign = λ L key message. ap (region_event world L (sign_event L key message)) (sym e);
  call = λ L key input.
      subst (λ (on : Result (ℕ × State) Refusal). CallTold world (record { layer = L; key = key; input = input }) on (refusal_reply refusal) world) (sym e) (refl, refl);
}

pub sleeping : (state : State) → SleepingExamples state
sleeping state = record {
  at_off = refuses_others (world_at off state) PoweredOff refl;
  at_off_without_state = refuses_others (dead_world off) PoweredOff refl;
  at_dead = refuses_others (dead_world dead) Zeroised refl;
}

pub awake_ones : (state : State) → AwakeExamples state
awake_ones state = record {
  status = λ r. refl;
  command_at_one = λ text draw answer next step. inl (refl, (next, step, refl));
  command_at_two = λ text draw. inr (lit< tt, refl, refl);
  command_at_three = λ text draw. inr (lit< tt, refl, refl);
  go_at_three = refl;
}

pub goes : (signature : List ℕ) → GoExamples signature
unfolding status_of number_of
goes signature = record {
  at_one = refl;
  at_two = refl;
  two_is_doubted = refl;
  three_is_doubted = refl;
  told = refl;
  told_doubted = refl;
}

-- ---- power that fails

never_stops : (world : World) (given : Event) → ((answer : Reply) (next : World) → Machine world given answer next → may_be_cut answer ≡ false) → NeverStops world given
never_stops world given none next (machine_step x) = (machine_is_whole world given reply.Stopped next x).1 refl
never_stops world given none next (lacks_memory p) = absurd (grind (arith, p.answered))
never_stops world given none next (loses_power p) = false≢true (sym (none p.told p.whole p.machine) ∙ p.writes)

pub never_unarmed : (world : World) (given : Event) → world.armed ≡ false → NeverStops world given
never_unarmed world given e next (machine_step x) = (machine_is_whole world given reply.Stopped next x).1 refl
never_unarmed world given e next (lacks_memory p) = absurd (grind (arith, p.answered))
never_unarmed world given e next (loses_power p) = false≢true (sym e ∙ p.armed)

-- no write can be cut in what is told
told_uncut : (answer : Reply) (next : World) (told : Told) → ◌≡◌ {A = Told} (answer, next) told → may_be_cut told.0 ≡ false → may_be_cut answer ≡ false
told_uncut answer next told e uncut = ap (λ (t : Told). may_be_cut t.0) e ∙ uncut

status_uncut : (world : World) (on : Result (ℕ × State) Refusal) → may_be_cut (status_event world on).0 ≡ false
unfolding status_of
status_uncut world (Err refusal) = refl
status_uncut world (Ok on) = refl

either_uncut : (b : Bool) (x y : Told) → may_be_cut x.0 ≡ false → may_be_cut y.0 ≡ false → may_be_cut (if b then x else y).0 ≡ false
either_uncut true x y first second = first
either_uncut false x y first second = second

go_uncut : (world : World) (on : Result (ℕ × State) Refusal) → may_be_cut (go_event world on).0 ≡ false
go_uncut world (Err refusal) = refl
go_uncut world (Ok on) =
    either_uncut (nat_lt 2 on.0) _ _ refl (either_uncut (is_runnable on.1.layers (on.0 + 1)) _ _ refl refl)

value_uncut : (secret : Option Secret) → may_be_cut (value_reply secret) ≡ false
value_uncut None = refl
value_uncut (Some secret) = refl

either_outcome_uncut : (b : Bool) (x y : Outcome) → may_be_cut x.0 ≡ false → may_be_cut y.0 ≡ false → may_be_cut (if b then x else y).0 ≡ false
either_outcome_uncut true x y first second = first
either_outcome_uncut false x y first second = second

get_uncut : (world : World) (L : ℕ) (name : List ℕ) (on : Result (ℕ × State) Refusal) → may_be_cut (region_event world L (get_event L name) on).0 ≡ false
unfolding get_event
get_uncut world L name (Err refusal) = refl
get_uncut world L name (Ok on) =
    either_outcome_uncut (nat_lt L on.0 || not (is_runnable on.1.layers L)) (refusal_reply WrongLayer, on.1) _ refl
    (either_outcome_uncut (takes_calls (code_in on.1.codes L)) (refusal_reply WrongCode, on.1) (get_event L name on.1) refl
    (value_uncut (find (has_name name) (region_of on.1 L).secrets)))

pub stops : (world : World) → StopExamples world
stops world = record {
  unarmed = λ e given. never_unarmed world given e;
  off_event = never_stops world event.Off (λ answer next x. ap may_be_cut x.0);
  tamper = never_stops world event.Tamper (λ answer next x. ap may_be_cut x.0);
  cut = λ count tear. never_stops world (event.Cut count tear) (λ answer next x. ap may_be_cut x.0);
  status = never_stops world event.Status (λ answer next x. told_uncut answer next (status_event world (running_state_in world)) x (status_uncut world (running_state_in world)));
  go = never_stops world event.Go (λ answer next x. told_uncut answer next (go_event world (running_state_in world)) x (go_uncut world (running_state_in world)));
  get = λ L name. never_stops world (event.Get L name) (λ answer next x.
      told_uncut answer next (region_event world L (get_event L name) (running_state_in world)) x (get_uncut world L name (running_state_in world)));
  refused = λ given n brings refuses. never_stops world given (λ answer next x.
      ap may_be_cut (machine_is_function world given answer (reply.Refused n) next world brings x refuses).0);
}

-- an event that writes, whose answer and world are these, stops before it or after it
pub stops_between : (world : World) (given : Event) (told : Reply) (whole : World) (before after : State) → BringsBytes given → Machine world given told whole
    → IsTrue world.armed → IsTrue (may_be_cut told) → world.state ≡ Some before → whole.state ≡ Some after → StopsBetween world given before after
stops_between world given told whole before after brings machine armed writes was is = record {
  undone = loses_power (record {
    told = told;
    whole = whole;
    machine = machine;
    armed = armed;
    writes = writes;
    state = Some before;
    counts = inl (sym was);
    answered = refl;
    follows = refl;
  });
  done = loses_power (record {
    told = told;
    whole = whole;
    machine = machine;
    armed = armed;
    writes = writes;
    state = Some after;
    counts = inr (sym is);
    answered = refl;
    follows = refl;
  });
  no_other = no_other;
}
  where
    with_state : Option State → World
    with_state state = record { state = state; phase = off; armed = false }

    same : (next : World) (state : Option State) → next ≡ with_state state → (state ≡ Some before) ⊎ (state ≡ Some after) → (next ≡ world_at off before) ⊎ (next ≡ world_at off after)
    same next state follows (inl e) = inl (follows ∙ ap with_state e)
    same next state follows (inr e) = inr (follows ∙ ap with_state e)

    counted : (state : Option State) (other : World) → other ≡ whole → (state ≡ world.state) ⊎ (state ≡ other.state) → (state ≡ Some before) ⊎ (state ≡ Some after)
    counted state other only (inl e) = inl (e ∙ was)
    counted state other only (inr e) = inr (e ∙ ap (λ (w : World). w.state) only ∙ is)

    no_other : (next : World) → Step world given reply.Stopped next → (next ≡ world_at off before) ⊎ (next ≡ world_at off after)
    no_other next (machine_step x) = absurd ((machine_is_whole world given reply.Stopped next x).1 refl)
    no_other next (lacks_memory p) = absurd (grind (arith, p.answered))
    no_other next (loses_power p) =
        same next p.state p.follows
        (counted p.state p.whole (machine_is_function world given p.told told p.whole whole brings p.machine machine).1 p.counts)

-- ---- an allocation that fails

never_wants : (world : World) (given : Event) → may_want_memory given ≡ false → NeverWantsMemory world given
never_wants world given e next (machine_step x) = (machine_is_whole world given reply.NoMemory next x).0 refl
never_wants world given e next (lacks_memory p) = false≢true (sym e ∙ p.wanted)
never_wants world given e next (loses_power p) = absurd (grind (arith, p.answered))

pub memory : (world : World) → MemoryExamples world
memory world = record {
  boot = lacks_memory (record { answered = refl; wanted = refl; stays = refl });
  status = lacks_memory (record { answered = refl; wanted = refl; stays = refl });
  command = λ text draw. lacks_memory (record { answered = refl; wanted = refl; stays = refl });
  put = λ L name value. lacks_memory (record { answered = refl; wanted = refl; stays = refl });
  get = λ L name. lacks_memory (record { answered = refl; wanted = refl; stays = refl });
  drop = λ L name. lacks_memory (record { answered = refl; wanted = refl; stays = refl });
  sign = λ L key message. lacks_memory (record { answered = refl; wanted = refl; stays = refl });
  call = λ L key input. lacks_memory (record { answered = refl; wanted = refl; stays = refl });
  go = never_wants world event.Go refl;
  off_event = never_wants world event.Off refl;
  tamper = never_wants world event.Tamper refl;
  cut = λ count tear. never_wants world (event.Cut count tear) refl;
}
