-- Runs of the machine by itself, and what a power loss in one event of a run leaves.
use Rattle.std.proofs.Common.{◌≡◌, ◌≢◌, ℕ, ◌+◌, ◌⊎◌, inl, inr, Bool, true, false, List, [], ◌∷◌, ◌++◌, length, map, Option, Some, None, Result, Ok, Err, refl, sym, ap, ◌∙◌, subst, arith, length-append}
use Rattle.std.specs.Prelude.{All, IsTrue, nat_lt, if◌then◌else◌}
use Rattle.std.proofs.lemmas.List.Elements.{All-head, All-tail}
use Rattle.mb_model.specs.declared.event.Event.{Event}
use Rattle.mb_model.specs.declared.event.Event.TheVariants as event
use Rattle.mb_model.specs.declared.event.Tear.{Tear}
use Rattle.mb_model.specs.declared.event.Answered.{Answered}
use Rattle.mb_model.specs.declared.reply.Reply.{Reply}
use Rattle.mb_model.specs.declared.reply.Reply.TheVariants as reply
use Rattle.mb_model.specs.declared.reply.Refusal.{Refusal}
use Rattle.mb_model.specs.declared.reply.Refusal.TheVariants.{WrongPhase, WrongLayer}
use Rattle.mb_model.specs.declared.state.State.{State}
use Rattle.mb_model.specs.owners.Layers.{is_runnable}
use Rattle.mb_model.specs.machine.Refusals.{refusal_reply}
use Rattle.mb_model.specs.machine.Machine.{Phase, off, dead, ratchet, World, Told, Machine, Step, machine_step, lacks_memory, loses_power, Run, boot_event, running_state_in, status_event, go_event, region_event, CommandStep, CallTold}
use Rattle.mb_model.specs.machine.Calls.{Call}
use Rattle.mb_model.specs.machine.LayerEvents.{Outcome, put_event, get_event, drop_event, sign_event}
use Rattle.mb_model_lemmas.proofs.LineLemmas.{cons_same}
use Rattle.mb_model_lemmas.proofs.RefusalLemmas.{machine_is_whole}
use Rattle.mb_model_memory.proofs.StorableSteps.{booted_state}
use Rattle.mb_tools_device.specs.MachineRuns.{MachineRun, is_cut, IsPlain}

-- ---- the machine does not look at whether a power loss is armed

abbrev pub disarmed : World → World
disarmed world = record world { armed = false }

abbrev told_disarmed : Told → Told
told_disarmed told = (told.0, disarmed told.1)

chosen : (b : Bool) (x y p q : Told) → told_disarmed x ≡ p → told_disarmed y ≡ q → told_disarmed (if b then x else y) ≡ (if b then p else q)
chosen true x y p q first other = first
chosen false x y p q first other = other

boot_disarmed : (world : World) (phase : Phase) (state : Option State) → told_disarmed (boot_event world phase state) ≡ boot_event (disarmed world) phase state
boot_disarmed world off (Some state) = refl
boot_disarmed world off None = refl
boot_disarmed world dead state = refl
boot_disarmed world (ratchet r) state = refl

status_disarmed : (world : World) (on : Result (ℕ × State) Refusal) → told_disarmed (status_event world on) ≡ status_event (disarmed world) on
status_disarmed world (Ok on) = refl
status_disarmed world (Err refusal) = refl

go_disarmed : (world : World) (on : Result (ℕ × State) Refusal) → told_disarmed (go_event world on) ≡ go_event (disarmed world) on
go_disarmed world (Ok on) =
    chosen (nat_lt 2 on.0) (refusal_reply WrongPhase, world)
    (if is_runnable on.1.layers (on.0 + 1) then (reply.At (on.0 + 1), record world { phase = ratchet (on.0 + 1) }) else (refusal_reply WrongLayer, world))
    (refusal_reply WrongPhase, disarmed world)
    (if is_runnable on.1.layers (on.0 + 1) then (reply.At (on.0 + 1), record (disarmed world) { phase = ratchet (on.0 + 1) }) else (refusal_reply WrongLayer, disarmed world)) refl
    (chosen (is_runnable on.1.layers (on.0 + 1)) (reply.At (on.0 + 1), record world { phase = ratchet (on.0 + 1) }) (refusal_reply WrongLayer, world)
    (reply.At (on.0 + 1), record (disarmed world) { phase = ratchet (on.0 + 1) }) (refusal_reply WrongLayer, disarmed world) refl refl)
go_disarmed world (Err refusal) = refl

region_disarmed : (world : World) (L : ℕ) (does : State → Outcome) (on : Result (ℕ × State) Refusal) → told_disarmed (region_event world L does on) ≡ region_event (disarmed world) L does on
region_disarmed world L does (Ok on) = refl
region_disarmed world L does (Err refusal) = refl

command_disarmed : (world : World) (text draw : List ℕ) (on : Result (ℕ × State) Refusal) (answer : Reply) (next : World) → CommandStep world text draw on answer next
    → CommandStep (disarmed world) text draw on answer (disarmed next)
command_disarmed world text draw (Err refusal) answer next step = (step.0, ap disarmed step.1)
command_disarmed world text draw (Ok on) answer next (inl step) = inl (step.0, (step.1.0, step.1.1, ap disarmed step.1.2))
command_disarmed world text draw (Ok on) answer next (inr step) = inr (step.0, step.1, ap disarmed step.2)

call_disarmed : (world : World) (call : Call) (on : Result (ℕ × State) Refusal) (answer : Reply) (next : World) → CallTold world call on answer next
    → CallTold (disarmed world) call on answer (disarmed next)
call_disarmed world call (Err refusal) answer next told = (told.0, ap disarmed told.1)
call_disarmed world call (Ok on) answer next told = (told.0, told.1, told.2, ap disarmed told.3)

pub machine_disarmed : (world : World) (e : Event) (answer : Reply) (next : World) → is_cut e ≡ false → Machine world e answer next → Machine (disarmed world) e answer (disarmed next)
machine_disarmed world event.Boot answer next uncut m = ap told_disarmed m ∙ boot_disarmed world world.phase world.state
machine_disarmed world event.Off answer next uncut m = (m.0, ap disarmed m.1)
machine_disarmed world event.Tamper answer next uncut m = (m.0, ap disarmed m.1)
machine_disarmed world event.Status answer next uncut m = ap told_disarmed m ∙ status_disarmed world (running_state_in world)
machine_disarmed world event.Go answer next uncut m = ap told_disarmed m ∙ go_disarmed world (running_state_in world)
machine_disarmed world (event.Cut count tear) answer next uncut m = absurd (let no : true ≡ false = uncut in cc)
machine_disarmed world (event.Order text draw) answer next uncut m = command_disarmed world text draw (running_state_in world) answer next m
machine_disarmed world (event.Put L name value) answer next uncut m = ap told_disarmed m ∙ region_disarmed world L (put_event L name value) (running_state_in world)
machine_disarmed world (event.Get L name) answer next uncut m = ap told_disarmed m ∙ region_disarmed world L (get_event L name) (running_state_in world)
machine_disarmed world (event.Drop L name) answer next uncut m = ap told_disarmed m ∙ region_disarmed world L (drop_event L name) (running_state_in world)
machine_disarmed world (event.Sign L key message) answer next uncut m = ap told_disarmed m ∙ region_disarmed world L (sign_event L key message) (running_state_in world)
machine_disarmed world (event.Call L key input) answer next uncut m = call_disarmed world (record { layer = L; key = key; input = input }) (running_state_in world) answer next m

-- ---- an event that is no cut leaves whether a power loss is armed

armed_in : Told → Bool
armed_in told = told.1.armed

chosen_armed : (b : Bool) (x y : Told) (armed : Bool) → x.1.armed ≡ armed → y.1.armed ≡ armed → (if b then x else y).1.armed ≡ armed
chosen_armed true x y armed first other = first
chosen_armed false x y armed first other = other

boot_armed : (world : World) (phase : Phase) (state : Option State) → (boot_event world phase state).1.armed ≡ world.armed
boot_armed world off (Some state) = refl
boot_armed world off None = refl
boot_armed world dead state = refl
boot_armed world (ratchet r) state = refl

status_armed : (world : World) (on : Result (ℕ × State) Refusal) → (status_event world on).1.armed ≡ world.armed
status_armed world (Ok on) = refl
status_armed world (Err refusal) = refl

go_armed : (world : World) (on : Result (ℕ × State) Refusal) → (go_event world on).1.armed ≡ world.armed
go_armed world (Ok on) =
    chosen_armed (nat_lt 2 on.0) (refusal_reply WrongPhase, world)
    (if is_runnable on.1.layers (on.0 + 1) then (reply.At (on.0 + 1), record world { phase = ratchet (on.0 + 1) }) else (refusal_reply WrongLayer, world)) world.armed refl
    (chosen_armed (is_runnable on.1.layers (on.0 + 1)) (reply.At (on.0 + 1), record world { phase = ratchet (on.0 + 1) }) (refusal_reply WrongLayer, world) world.armed refl refl)
go_armed world (Err refusal) = refl

region_armed : (world : World) (L : ℕ) (does : State → Outcome) (on : Result (ℕ × State) Refusal) → (region_event world L does on).1.armed ≡ world.armed
region_armed world L does (Ok on) = refl
region_armed world L does (Err refusal) = refl

command_armed : (world : World) (text draw : List ℕ) (on : Result (ℕ × State) Refusal) (answer : Reply) (next : World) → CommandStep world text draw on answer next → next.armed ≡ world.armed
command_armed world text draw (Err refusal) answer next step = ap (λ (w : World). w.armed) step.1
command_armed world text draw (Ok on) answer next (inl step) = ap (λ (w : World). w.armed) step.1.2
command_armed world text draw (Ok on) answer next (inr step) = ap (λ (w : World). w.armed) step.2

call_armed : (world : World) (call : Call) (on : Result (ℕ × State) Refusal) (answer : Reply) (next : World) → CallTold world call on answer next → next.armed ≡ world.armed
call_armed world call (Err refusal) answer next told = ap (λ (w : World). w.armed) told.1
call_armed world call (Ok on) answer next told = ap (λ (w : World). w.armed) told.3

pub armed_stays : (world : World) (e : Event) (answer : Reply) (next : World) → is_cut e ≡ false → Machine world e answer next → next.armed ≡ world.armed
unfolding armed_in
armed_stays world event.Boot answer next uncut m = ap armed_in m ∙ boot_armed world world.phase world.state
armed_stays world event.Off answer next uncut m = ap (λ (w : World). w.armed) m.1
armed_stays world event.Tamper answer next uncut m = ap (λ (w : World). w.armed) m.1
armed_stays world event.Status answer next uncut m = ap armed_in m ∙ status_armed world (running_state_in world)
armed_stays world event.Go answer next uncut m = ap armed_in m ∙ go_armed world (running_state_in world)
armed_stays world (event.Cut count tear) answer next uncut m = absurd (let no : true ≡ false = uncut in cc)
armed_stays world (event.Order text draw) answer next uncut m = command_armed world text draw (running_state_in world) answer next m
armed_stays world (event.Put L name value) answer next uncut m = ap armed_in m ∙ region_armed world L (put_event L name value) (running_state_in world)
armed_stays world (event.Get L name) answer next uncut m = ap armed_in m ∙ region_armed world L (get_event L name) (running_state_in world)
armed_stays world (event.Drop L name) answer next uncut m = ap armed_in m ∙ region_armed world L (drop_event L name) (running_state_in world)
armed_stays world (event.Sign L key message) answer next uncut m = ap armed_in m ∙ region_armed world L (sign_event L key message) (running_state_in world)
armed_stays world (event.Call L key input) answer next uncut m = call_armed world (record { layer = L; key = key; input = input }) (running_state_in world) answer next m

-- ---- a run without cuts in which memory is found is the machine's

unarmed : (b : Bool) → b ≡ false → IsTrue b → ⊥
unarmed true e t = absurd (let no : true ≡ false = e in cc)
unarmed false e t = let no : false ≡ true = t in cc

-- a step that no failed allocation and no power loss can be is the machine's own
pub own_step : (world : World) (e : Event) (answer : Reply) (next : World) → world.armed ≡ false → answer ≢ reply.NoMemory → Step world e answer next → Machine world e answer next
own_step world e answer next none found (machine_step m) = m
own_step world e answer next none found (lacks_memory l) = absurd (found l.answered)
own_step world e answer next none found (loses_power p) = absurd (unarmed world.armed none p.armed)

pub run_is_machine : (world : World) (list : List Answered) (next : World) → world.armed ≡ false → All IsPlain list → Run world list next → MachineRun world (map (λ a. a.event) list) next
run_is_machine world [] next none plain run = run
run_is_machine world (this ∷ rest) next none plain (mid, step, run) =
    let head = All-head IsPlain this rest plain in
    let m = own_step world this.event this.reply mid none head.found step in
    (this.reply, mid, m, run_is_machine mid rest next (armed_stays world this.event this.reply mid head.uncut m ∙ none) (All-tail IsPlain this rest plain) run)

-- ---- power fails in the last event

-- one event more
pub one_more : (world mid next : World) (events : List Event) (e : Event) (answer : Reply) → MachineRun world events mid → Machine mid e answer next → MachineRun world (events ++ e ∷ []) next
one_more world mid next [] e answer run m = (answer, next, subst (λ w. Machine w e answer next) run m, refl)
one_more world mid next (this ∷ events) e answer run m = (run.0, run.1, run.2, one_more run.1 mid next events e answer run.3 m)

abbrev pub IsFound : Answered → Type 0
IsFound a = a.reply ≢ reply.NoMemory

-- Events were answered, then one that arms a power loss, one in which power failed, a boot and an off. The first led to a
-- world, from which the machine's step at the event before the boot leads to another. The state is that of the one or
-- the other.
pub record IsCutShort (world : World) (first : List Event) (last : Event) (list : List Answered) (next : World) : Type 0 where
  pub mid : World
  pub run : MachineRun world first mid
  pub front : List Answered
  pub that : Answered
  pub boot : Answered
  pub off : Answered
  pub split : list ≡ front ++ that ∷ boot ∷ off ∷ []
  pub counts : that.reply ≡ reply.Stopped
      → (told : Reply) × (whole : World) × Machine mid last told whole × ((next.state ≡ mid.state) ⊎ (next.state ≡ whole.state))

-- the answers to the last events of the second run, of which one arms a power loss
record IsEnd (count : ℕ) (tear : Tear) (last : Event) (cut that boot off_ : Answered) : Type 0 where
  cut_is : cut.event ≡ event.Cut count tear
  that_is : that.event ≡ last
  boot_is : boot.event ≡ event.Boot
  off_is : off_.event ≡ event.Off
  boot_found : IsFound boot
  off_found : IsFound off_

armed_by_cut : (world : World) (count : ℕ) (tear : Tear) (answer : Reply) (next : World) → world.armed ≡ false → Step world (event.Cut count tear) answer next → next ≡ record world { armed = true }
armed_by_cut world count tear answer next none (machine_step m) = m.1
armed_by_cut world count tear answer next none (lacks_memory l) = absurd (unarmed false refl l.wanted)
armed_by_cut world count tear answer next none (loses_power p) = absurd (unarmed world.armed none p.armed)

-- where a device stands with its power off and no loss armed, a boot and an off leave its state
after_boot : (stopped up next : World) (boot off_ : Reply) → stopped.armed ≡ false → boot ≢ reply.NoMemory → off_ ≢ reply.NoMemory → Step stopped event.Boot boot up → Step up event.Off off_ next → next.state ≡ stopped.state
after_boot stopped up next boot off_ none boot_found off_found booted offed =
    let m = own_step stopped event.Boot boot up none boot_found booted in
    let n = own_step up event.Off off_ next (armed_stays stopped event.Boot boot up refl m ∙ none) off_found offed in
    ap (λ (w : World). w.state) n.1 ∙ ap (λ (t : Told). t.1.state) m ∙ booted_state stopped stopped.phase stopped.state

stopped_counts : (world armed : World) (last : Event) (answer : Reply) (stopped : World) → world.armed ≡ false → armed ≡ record world { armed = true } → is_cut last ≡ false
    → answer ≡ reply.Stopped → Step armed last answer stopped
    → (stopped.armed ≡ false) × ((told : Reply) × (whole : World) × Machine world last told whole × ((stopped.state ≡ world.state) ⊎ (stopped.state ≡ whole.state)))
stopped_counts world armed last answer stopped none is uncut stops (machine_step m) = absurd ((machine_is_whole armed last answer stopped m).1 stops)
stopped_counts world armed last answer stopped none is uncut stops (lacks_memory l) = absurd (let no : reply.NoMemory ≡ reply.Stopped = sym l.answered ∙ stops in cc)
stopped_counts world armed last answer stopped none is uncut stops (loses_power p) =
    let back : disarmed armed ≡ world = ap disarmed is ∙ ap (λ (b : Bool). record world { armed = b }) (sym none) in
    let m = subst (λ w. Machine w last p.told (disarmed p.whole)) back (machine_disarmed armed last p.told p.whole uncut p.machine) in
    let same : armed.state ≡ world.state = ap (λ (w : World). w.state) is in
    let left : stopped.state ≡ p.state = ap (λ (w : World). w.state) p.follows in
    (ap (λ (w : World). w.armed) p.follows, (p.told, disarmed p.whole, m, elim p.counts [ inl before ↦ inl (left ∙ before ∙ same) | inr after ↦ inr (left ∙ after) ]))

end_cut_short : (world : World) (count : ℕ) (tear : Tear) (last : Event) (cut that boot off_ : Answered) (next : World) → world.armed ≡ false → is_cut last ≡ false
    → IsEnd count tear last cut that boot off_ → Run world (cut ∷ that ∷ boot ∷ off_ ∷ []) next → IsCutShort world [] last (cut ∷ that ∷ boot ∷ off_ ∷ []) next
end_cut_short world count tear last cut that boot off_ next none uncut is (armed, cut_step, (stopped, last_step, (up, boot_step, (down, off_step, done)))) = record {
  mid = world;
  run = refl;
  front = cut ∷ [];
  that = that;
  boot = boot;
  off = off_;
  split = refl;
  counts = λ stops.
      let is_armed = armed_by_cut world count tear cut.reply armed none (subst (λ e. Step world e cut.reply armed) is.cut_is cut_step) in
      let counted = stopped_counts world armed last that.reply stopped none is_armed uncut stops (subst (λ e. Step armed e that.reply stopped) is.that_is last_step) in
      let left : next.state ≡ stopped.state = ap (λ (w : World). w.state) done
      ∙ after_boot stopped up down boot.reply off_.reply counted.0 is.boot_found is.off_found (subst (λ e. Step stopped e boot.reply up) is.boot_is boot_step) (subst (λ e. Step up e off_.reply down) is.off_is off_step) in
      (counted.1.0, counted.1.1, counted.1.2, elim counted.1.3 [ inl before ↦ inl (left ∙ before) | inr after ↦ inr (left ∙ after) ]);
}

abbrev pub ending : ℕ → Tear → Event → List Event
ending count tear last = event.Cut count tear ∷ last ∷ event.Boot ∷ event.Off ∷ []

abbrev pub IsUncut : Event → Type 0
IsUncut e = is_cut e ≡ false

events_in : List Answered → List Event
events_in list = map (λ a. a.event) list

whole_end : (world : World) (count : ℕ) (tear : Tear) (last : Event) (list : List Answered) (next : World) → world.armed ≡ false → is_cut last ≡ false
    → events_in list ≡ ending count tear last → All IsFound list → Run world list next → IsCutShort world [] last list next
unfolding events_in
whole_end world count tear last [] next none uncut same found run = absurd (omega (arith, ap length same))
whole_end world count tear last (a ∷ []) next none uncut same found run = absurd (omega (arith, ap length same))
whole_end world count tear last (a ∷ b ∷ []) next none uncut same found run = absurd (omega (arith, ap length same))
whole_end world count tear last (a ∷ b ∷ c ∷ []) next none uncut same found run = absurd (omega (arith, ap length same))
whole_end world count tear last (a ∷ b ∷ c ∷ d ∷ e ∷ rest) next none uncut same found run = absurd (omega (arith, ap length same))
whole_end world count tear last (a ∷ b ∷ c ∷ d ∷ []) next none uncut same found run =
    let one = cons_same a.event (event.Cut count tear) _ _ same in
    let two = cons_same b.event last _ _ one.1 in
    let three = cons_same c.event event.Boot _ _ two.1 in
    let four = cons_same d.event event.Off _ _ three.1 in
    let after_two = All-tail IsFound b (c ∷ d ∷ []) (All-tail IsFound a (b ∷ c ∷ d ∷ []) found) in
    end_cut_short world count tear last a b c d next none uncut
    (record {
      cut_is = one.0;
      that_is = two.0;
      boot_is = three.0;
      off_is = four.0;
      boot_found = All-head IsFound c (d ∷ []) after_two;
      off_found = All-head IsFound d [] (All-tail IsFound c (d ∷ []) after_two);
    }) run

pub cut_short : (world : World) (first : List Event) (count : ℕ) (tear : Tear) (last : Event) (list : List Answered) (next : World) → world.armed ≡ false → All IsUncut first → is_cut last ≡ false
    → map (λ a. a.event) list ≡ first ++ ending count tear last → All IsFound list → Run world list next → IsCutShort world first last list next
unfolding events_in
cut_short world [] count tear last list next none uncuts uncut same found run = whole_end world count tear last list next none uncut same found run
cut_short world (e ∷ first) count tear last [] next none uncuts uncut same found run = absurd (omega (arith, ap length same))
cut_short world (e ∷ first) count tear last (this ∷ rest) next none uncuts uncut same found (mid, step, run) =
    let parts = cons_same this.event e _ _ same in
    let m = own_step world e this.reply mid none (All-head IsFound this rest found) (subst (λ x. Step world x this.reply mid) parts.0 step) in
    let here : is_cut e ≡ false = All-head IsUncut e first uncuts in
    let later = cut_short mid first count tear last rest next (armed_stays world e this.reply mid here m ∙ none) (All-tail IsUncut e first uncuts) uncut parts.1 (All-tail IsFound this rest found) run in
    record {
      mid = later.mid;
      run = (this.reply, mid, m, later.run);
      front = this ∷ later.front;
      that = later.that;
      boot = later.boot;
      off = later.off;
      split = ap (λ (l : List Answered). this ∷ l) later.split;
      counts = later.counts;
    }

-- the third item from the end is one
pub third_same : {X : Type 0} (xs ys : List X) (a b c d e f : X) → xs ++ a ∷ b ∷ c ∷ [] ≡ ys ++ d ∷ e ∷ f ∷ [] → a ≡ d
third_same [] [] a b c d e f same = (cons_same a d _ _ same).0
third_same [] (y ∷ ys) a b c d e f same = absurd (omega (arith, ap length same, length-append ys (d ∷ e ∷ f ∷ [])))
third_same (x ∷ xs) [] a b c d e f same = absurd (omega (arith, ap length same, length-append xs (a ∷ b ∷ c ∷ [])))
third_same (x ∷ xs) (y ∷ ys) a b c d e f same = third_same xs ys a b c d e f (cons_same x y _ _ same).1
