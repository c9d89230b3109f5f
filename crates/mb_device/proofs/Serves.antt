-- What holds while events are served.
use Rattle.std.proofs.Common.{◌≡◌, ℕ, List, [], ◌∷◌, ◌++◌, length, map, None, Some, inl, inr, refl, sym, ◌∙◌, ap, subst, append_assoc, length-append, arith}
use Rattle.std.specs.Prelude.{All}
use Rattle.std.proofs.lemmas.List.{map-append, append-nil}
use Rattle.std.proofs.lemmas.List.Elements.{All-head, All-tail, All-pop}
use Rattle.mb_model.specs.declared.event.Event.{Event}
use Rattle.mb_model.specs.declared.event.Answered.{Answered}
use Rattle.mb_model.specs.declared.reply.Reply.{Reply}
use Rattle.mb_model.specs.memories.Acknowledged.{Shows, HasToBeClean, power_is_on, device_was_tampered, nothing_was_left, AreWiping, LeavesMemory, LeavesCleanMemory, MayAnswer}
use Rattle.mb_model.specs.declared.state.State.{State}
use Rattle.mb_model.specs.outside.Board.{Memory, Held, Ledger, Used, AreBytes, image_of, memory_after, use_of}
use Rattle.mb_model.specs.outside.Board.{having_answered}
use Rattle.mb_model.specs.memories.Clean.{Clean}
use Rattle.mb_model.specs.memories.Spared.{SparesSectors}
use Rattle.mb_model.specs.machine.Machine.{World, Step, Run, may_be_cut}
use Rattle.mb_model.specs.chains.Script.{IsScriptEvent}
use Rattle.mb_model_lemmas.proofs.RefusalLemmas.{written_is_on}
use Rattle.mb_model_lemmas.proofs.ValidStates.{kept_rightly}
use Rattle.mb_device.specs.declared.device.Device.{Device}
use Rattle.mb_device.specs.Sound.{IsSoundDevice, HasSound, taken, CanStep, Steps}
use Rattle.mb_device.specs.Served.{IsServedFrom}
use Rattle.mb_device.proofs.Cleans.{IsFramed, clean_after, spared_in_all, left_as_it_was, quiet_as_it_was, WipesLast, at_boot, at_tamper, before, wiping_last}

-- a run so far, from a world to that which the board holds
pub record IsRunSo (world : World) (start : Ledger) (device : Device) (ledger : Ledger) (held : Held) : Type 0 where
  pub more : List Answered
  pub grown : ledger.answered ≡ start.answered ++ more
  pub all : map (λ a. a.event) more ++ ledger.waiting ≡ start.waiting
  pub last : World
  pub run : Run world more last
  pub sound : IsSoundDevice device held last
  pub wiped : AreWiping more → Clean held.memory.bbram last.state
  pub untouched : All LeavesMemory more → held.memory ≡ start.standing.memory
  pub quiet : (state : State) → Clean start.standing.memory.bbram (Some state) → All LeavesCleanMemory more → held.memory ≡ start.standing.memory

-- between two events
pub record Serves (start : Ledger) (first : Device) (at_first : Held) (device : Device) (ledger : Ledger) (held : Held) : Type 0 where
  pub none_out : ledger.out ≡ None
  pub standing : ledger.standing ≡ held
  pub used : use_of ledger ≡ having_answered ledger.answered (use_of start)
  pub script : All IsScriptEvent ledger.waiting
  pub some : HasSound device held
  pub runs : (world : World) → IsSoundDevice first at_first world → IsRunSo world start device ledger held

pub serves_first : (start : Ledger) (first : Device) (held : Held) → start.out ≡ None → start.standing ≡ held → All IsScriptEvent start.waiting → HasSound first held → Serves start first held first start held
serves_first start first held none standing script some = record {
  none_out = none;
  standing = standing;
  used = refl;
  script = script;
  some = some;
  runs = λ world sound. record {
    more = [];
    grown = sym (append-nil start.answered);
    all = refl;
    last = world;
    run = refl;
    sound = sound;
    wiped = λ wiping. absurd (omega (arith, ap length wiping.split, length-append wiping.sooner (wiping.wiping ∷ wiping.later)));
    untouched = λ none. sym (ap (λ (h : Held). h.memory) standing);
    quiet = λ state clean none. sym (ap (λ (h : Held). h.memory) standing);
  };
}

pub can_step : (start : Ledger) (first : Device) (at_first : Held) (device : Device) (ledger : Ledger) (held now : Held) (e : Event) (rest : List Event) → Serves start first at_first device ledger held
    → ledger.waiting ≡ e ∷ rest → now ≡ taken e held → CanStep device e now
can_step start first at_first device ledger held now e rest inv waits same = record {
  before = held;
  has = inv.some;
  taken_so = same;
  script = All-head IsScriptEvent e rest (subst (All IsScriptEvent) waits inv.script);
}

-- a run goes on by a step
run_more : (answered : List Answered) (one : Answered) (first mid last : World) → Run first answered mid → Step mid one.event one.reply last → Run first (answered ++ one ∷ []) last
run_more [] one first mid last run step = (last, subst (λ (w : World). Step w one.event one.reply last) run step, refl)
run_more (answer ∷ answered) one first mid last run step = (run.0, run.1, run_more answered one run.0 mid last run.2 step)

-- what is asked of an answer
pub may_answer : (start : Ledger) (first : Device) (at_first : Held) (device next : Device) (ledger out kept : Ledger) (held stepped : Held) (e : Event) (rest : List Event) (reply : Reply)
    → Serves start first at_first device ledger held → out ≡ record ledger { waiting = rest; out = Some e } → kept ≡ out
    → ((world : World) → IsSoundDevice device held world → Steps world e reply next stepped) → IsFramed held e reply stepped → MayAnswer kept.standing stepped e reply
may_answer start first at_first device next ledger out kept held stepped e rest reply inv is_out is_kept steps framed =
    let has = inv.some in
    let done = steps has.world has.sound in
    let stood : kept.standing ≡ held = ap (λ (l : Ledger). l.standing) (is_kept ∙ is_out) ∙ inv.standing in
    record {
      before = has.world;
      after = done.next;
      stood = subst (λ (h : Held). Shows h has.world) (sym stood) has.sound.shown;
      shown = done.sound.shown;
      step = done.step;
      valid = done.sound.valid;
      clean = λ has_to_be.
          clean_after has.world e reply next held stepped done framed (subst (λ (h : Held). HasToBeClean h stepped e reply) stood has_to_be);
      kept = kept_rightly done.next.state done.sound.valid;
      untouched = λ quiet. framed.untold quiet ∙ ap (λ (h : Held). memory_after (Some e) h.memory) (sym stood);
      quiet = λ boot state clean.
          framed.quiet boot state (subst (λ (h : Held). Clean h.memory.bbram (Some state)) stood clean) ∙ ap (λ (h : Held). h.memory) (sym stood);
      spared = subst (λ (h : Held). SparesSectors h.memory stepped.memory) (sym stood) (spared_in_all has.world e reply next held stepped done framed);
    }

-- after an event the memory has to be clean, where the answers leave it clean
still_clean : {device : Device} (world : World) (e : Event) (reply : Reply) (next : Device) (held stepped : Held) (done : Steps world e reply next stepped) (more : List Answered)
    → IsSoundDevice device held world → (AreWiping more → Clean held.memory.bbram world.state) → WipesLast more (record { event = e; reply = reply }) → HasToBeClean held stepped e reply
still_clean world e reply next held stepped done more sound wiped (at_boot booted) =
    power_is_on (λ dark. written_is_on world e reply done.next done.step (ap may_be_cut booted) (done.sound.shown.phase ∙ dark))
still_clean world e reply next held stepped done more sound wiped (at_tamper tampered) = device_was_tampered tampered
still_clean world e reply next held stepped done more sound wiped (before wiping unstopped) =
    nothing_was_left (record { world = world; shown = sound.shown; clean = wiped wiping }) unstopped

-- an answer is no load
used_so : (ledger out kept after : Ledger) (standing : Held) (stops : ℕ) (e : Event) (rest : List Event) (one : Answered) → out ≡ record ledger { waiting = rest; out = Some e } → kept ≡ out
    → after ≡ record kept { out = None; answered = kept.answered ++ one ∷ []; standing = standing; stops = stops } → use_of after ≡ having_answered after.answered (use_of ledger)
used_so ledger out kept after standing stops e rest one is_out is_kept is_answered =
    ap (λ (l : Ledger). use_of l) is_answered
    ∙ ap (λ (l : Ledger). let u : Used = record { loads = l.loads; image = image_of l.loaded; answered = kept.answered ++ one ∷ [] } in u) (is_kept ∙ is_out)
    ∙ ap (λ (a : List Answered). having_answered a (use_of ledger)) (sym (ap (λ (l : Ledger). l.answered) is_answered))

-- an event is taken, stepped and answered
pub serves_more : (start : Ledger) (first : Device) (at_first : Held) (device next : Device) (ledger out kept after : Ledger) (held stepped now : Held) (stops : ℕ) (e : Event) (rest : List Event) (reply : Reply)
    → Serves start first at_first device ledger held → ledger.waiting ≡ e ∷ rest → out ≡ record ledger { waiting = rest; out = Some e } → kept ≡ out
    → ((world : World) → IsSoundDevice device held world → Steps world e reply next stepped) → IsFramed held e reply stepped
    → after ≡ record kept { out = None; answered = kept.answered ++ record { event = e; reply = reply } ∷ []; standing = stepped; stops = stops } → now ≡ stepped
    → Serves start first at_first next after now
serves_more start first at_first device next ledger out kept after held stepped now stops e rest reply inv waits is_out is_kept steps framed is_answered is_now =
    let one : Answered = record { event = e; reply = reply } in
    let answered_is : after.answered ≡ ledger.answered ++ one ∷ [] = ap (λ (l : Ledger). l.answered) is_answered ∙ ap (λ (l : Ledger). l.answered ++ one ∷ []) (is_kept ∙ is_out) in
    let waiting_is : after.waiting ≡ rest = ap (λ (l : Ledger). l.waiting) is_answered ∙ ap (λ (l : Ledger). l.waiting) (is_kept ∙ is_out) in
    let sound_now : (w : World) → IsSoundDevice next stepped w → IsSoundDevice next now w = λ w sound. subst (λ (h : Held). IsSoundDevice next h w) (sym is_now) sound in
    record {
      none_out = ap (λ (l : Ledger). l.out) is_answered;
      standing = ap (λ (l : Ledger). l.standing) is_answered ∙ sym is_now;
      used = used_so ledger out kept after stepped stops e rest one is_out is_kept is_answered ∙ ap (λ (u : Used). having_answered after.answered u) inv.used;
      script = subst (All IsScriptEvent) (sym waiting_is) (All-tail IsScriptEvent e rest (subst (All IsScriptEvent) waits inv.script));
      some = (let done = steps inv.some.world inv.some.sound in record { world = done.next; sound = sound_now done.next done.sound });
      runs = λ world sound. (
          let so = inv.runs world sound in
          let done = steps so.last so.sound in
          record {
            more = so.more ++ one ∷ [];
            grown = answered_is ∙ ap (λ (a : List Answered). a ++ one ∷ []) so.grown ∙ append_assoc start.answered so.more (one ∷ []);
            all =
                ap (λ (w : List Event). map (λ a. a.event) (so.more ++ one ∷ []) ++ w) waiting_is
                ∙ ap (λ (m : List Event). m ++ rest) (map-append (λ a. a.event) so.more (one ∷ []))
                ∙ append_assoc (map (λ a. a.event) so.more) (e ∷ []) rest
                ∙ ap (λ (w : List Event). map (λ a. a.event) so.more ++ w) (sym waits)
                ∙ so.all;
            last = done.next;
            run = run_more so.more one world so.last done.next so.run done.step;
            sound = sound_now done.next done.sound;
            wiped = λ wiping.
                subst (λ (h : Held). Clean h.memory.bbram done.next.state) (sym is_now)
                (clean_after so.last e reply next held stepped done framed (still_clean so.last e reply next held stepped done so.more so.sound so.wiped (wiping_last so.more one wiping)));
            untouched = λ all. (
                let parts = All-pop LeavesMemory (so.more ++ one ∷ []) so.more (Some one) refl all in
                ap (λ (h : Held). h.memory) is_now ∙ left_as_it_was held one stepped framed parts.1 ∙ so.untouched parts.0);
            quiet = λ state clean all. (
                let parts = All-pop LeavesCleanMemory (so.more ++ one ∷ []) so.more (Some one) refl all in
                let before = so.quiet state clean parts.0 in
                let still : Clean held.memory.bbram (Some state) = subst (λ (m : Memory). Clean m.bbram (Some state)) (sym before) clean in
                ap (λ (h : Held). h.memory) is_now ∙ quiet_as_it_was held one stepped state framed still parts.1 ∙ before);
          });
    }

-- once nothing waits any more, there was still no load
pub used_in_all : (start : Ledger) (first : Device) (at_first : Held) (device : Device) (ledger after : Ledger) (held : Held) → Serves start first at_first device ledger held → after ≡ ledger
    → use_of after ≡ having_answered after.answered (use_of start)
used_in_all start first at_first device ledger after held inv is_after =
    ap (λ (l : Ledger). use_of l) is_after ∙ inv.used ∙ ap (λ (a : List Answered). having_answered a (use_of start)) (sym (ap (λ (l : Ledger). l.answered) is_after))

-- nothing waits any more
pub served : (start : Ledger) (first : Device) (at_first : Held) (device : Device) (ledger after : Ledger) (held now : Held) (world : World) → Serves start first at_first device ledger held
    → IsSoundDevice first at_first world → AreBytes now.memory → ledger.waiting ≡ [] → after ≡ ledger → now ≡ held → IsServedFrom world start after now
served start first at_first device ledger after held now world inv sound bytes none is_after is_now =
    let so = inv.runs world sound in
    record {
      more = so.more;
      grown = ap (λ (l : Ledger). l.answered) is_after ∙ so.grown;
      all = sym (append-nil (map (λ a. a.event) so.more)) ∙ ap (λ (w : List Event). map (λ a. a.event) so.more ++ w) (sym none) ∙ so.all;
      none_waits = ap (λ (l : Ledger). l.waiting) is_after ∙ none;
      last = so.last;
      run = so.run;
      shown = subst (λ (h : Held). Shows h so.last) (sym is_now) so.sound.shown;
      valid = so.sound.valid;
      bytes = bytes;
      untouched = λ all. ap (λ (h : Held). h.memory) is_now ∙ so.untouched all;
      quiet = λ state clean all. ap (λ (h : Held). h.memory) is_now ∙ so.quiet state clean all;
      clean = λ has_to_be.
          subst (λ (h : Held). Clean h.memory.bbram so.last.state) (sym is_now)
          (elim (has_to_be) [
            | inl on ↦ so.sound.clean (λ e. on (ap (λ (h : Held). h.phase) is_now ∙ e))
            | inr wiping ↦ so.wiped wiping
          ]);
    }
