-- What a draw decides: keys, and what they sign.
use Rattle.std.proofs.Common.{◌≡◌, ℕ, ◌+◌, List, [], ◌∷◌, length, inl, inr, Option, None, Some, Bool, true, false, true≢false, refl, sym, ap, subst, ◌∙◌, arith}
use Rattle.std.specs.Prelude.{◌⊎◌, not, nat_lt, ◌&&◌, ◌||◌, ◌==◌, IsTrue, map, All, option_map, Result, Ok, Err, if◌then◌else◌}
use Rattle.std.proofs.lemmas.List.Elements.{All-head, All-tail, All-nil, All-cons}
use Rattle.std.proofs.lemmas.Option.{same_Some}
use Rattle.mb_model.specs.declared.entry.Entry.{Entry}
use Rattle.mb_model.specs.declared.entry.Entry.TheVariants.{Change}
use Rattle.mb_model.specs.declared.event.Answered.{Answered}
use Rattle.mb_model.specs.declared.event.Event.{Event}
use Rattle.mb_model.specs.declared.event.Event.TheVariants as event
use Rattle.mb_model.specs.declared.layer.Layers.{Layers}
use Rattle.mb_model.specs.declared.order.Act.{Act}
use Rattle.mb_model.specs.declared.order.Act.TheVariants as act
use Rattle.mb_model.specs.declared.order.ChangeKind.{ChangeKind}
use Rattle.mb_model.specs.declared.order.ChangeKind.TheVariants.{Establish, Surrender, Load, Emergency}
use Rattle.mb_model.specs.declared.order.Order.{Order}
use Rattle.mb_model.specs.declared.reply.Refusal.{Refusal}
use Rattle.mb_model.specs.declared.reply.Refusal.TheVariants as refusal
use Rattle.mb_model.specs.declared.reply.Reply.{Reply}
use Rattle.mb_model.specs.declared.reply.Reply.TheVariants as reply
use Rattle.mb_model.specs.declared.state.State.{State}
use Rattle.mb_model.specs.owners.Born.{born_key}
use Rattle.mb_model.specs.machine.LayerEvents.{Outcome, put_event, get_event, drop_event, sign_event}
use Rattle.mb_model.specs.owners.Layers.{is_runnable, layer_standing, layer_of}
use Rattle.mb_model.specs.owners.Log.{entries_of, number_of, uses_of_device_key}
use Rattle.mb_model.specs.owners.Log.{keys_made_by}
use Rattle.mb_model.specs.machine.Machine.{Phase, off, dead, ratchet, World, Told, boot_event, running_state, running_state_in, status_of, status_event, go_event, region_event, CommandStep, CallTold, Machine, may_want_memory, may_be_cut, Step, machine_step, lacks_memory, loses_power}
use Rattle.mb_model.specs.machine.OrderChecks.{view_of, change_by, needs_succession}
use Rattle.mb_model.specs.machine.OrderEffects.{cosigners_of, next_device_key, next_key, device_after, log_with, state_after_succession, state_after_change, state_after_act, state_after_order}
use Rattle.mb_model.specs.machine.OrderStep.{spells_none, fails_check, is_obeyed}
use Rattle.mb_model.specs.machine.Refusals.{refusal_reply}
use Rattle.mb_model.specs.owners.Rules.{renews, change_of, kind_of, after, layer_from_order, kept_regions}
use Rattle.mb_model_lemmas.proofs.LineLemmas.{cons_same}
use Rattle.mb_model_histories.specs.NoiseLaws.{keyless_state, keyless_world, keyless_reply, undrawn_event, is_new_key, makes_key, NoiseMattersToKeysAlone, DrawsChangeSignaturesAlone, DrawsMatterToNewKeysAlone, DrawsMakeTheDeviceKey}
use Rattle.mb_model_histories.specs.PowerLaws.{HasOwnAnswer}
use Rattle.mb_model_histories.proofs.KeyLemmas.{device_keys_differ}
use Rattle.mb_model_histories.proofs.PowerLemmas.{runs_are_determined}
use Rattle.mb_model_histories.proofs.NoiseStates.{on_layer_alike, Twins, Shares, shares, same_length, same_number, same_layers, order_step_alike, TwinOutcomes, put_alike, get_alike, drop_alike, sign_alike, on_region_alike}

-- ---- the machine

abbrev keyless_told : Told → Told
keyless_told told = (keyless_reply told.0, keyless_world told.1)

-- two devices that are dead, or alive and the same but for keys
data TwinStates : Option State → Option State → Type 0 where
  both_dead : TwinStates None None
  both_alive : {state twin : State} → Twins state twin → TwinStates (Some state) (Some twin)

paired : (one other : Option State) → option_map keyless_state one ≡ option_map keyless_state other → TwinStates one other
paired None None same = both_dead
paired None (Some twin) same = absurd (grind (arith, same))
paired (Some state) None same = absurd (grind (arith, same))
paired (Some state) (Some twin) same = both_alive (same_Some (keyless_state state) (keyless_state twin) same)

unpaired : {one other : Option State} → TwinStates one other → option_map keyless_state one ≡ option_map keyless_state other
unpaired both_dead = refl
unpaired (both_alive same) = ap Some same

running_by : (does : Option State → Result (ℕ × State) Refusal → Told) (phase : Phase) (one other : Option State) → TwinStates one other
    → ((level : ℕ) (state twin : State) → Twins state twin → keyless_told (does (Some state) (Ok (level, state))) ≡ keyless_told (does (Some twin) (Ok (level, twin))))
    → ((r : Refusal) → keyless_told (does one (Err r)) ≡ keyless_told (does other (Err r)))
    → keyless_told (does one (running_state phase one)) ≡ keyless_told (does other (running_state phase other))
running_by does off one other pair alive refused = refused refusal.PoweredOff
running_by does dead one other pair alive refused = refused refusal.Zeroised
running_by does (ratchet level) None None both_dead alive refused = refused refusal.Zeroised
running_by does (ratchet level) (Some state) (Some twin) (both_alive same) alive refused = alive level state twin same
running_by does (ratchet level) None (Some twin) pair alive refused = elim pair [ ]
running_by does (ratchet level) (Some state) None pair alive refused = elim pair [ ]

told_either : (b c : Bool) (one two three four : Told) → b ≡ c → keyless_told one ≡ keyless_told three → keyless_told two ≡ keyless_told four
    → keyless_told (if b then one else two) ≡ keyless_told (if c then three else four)
told_either b c one two three four equal first second = subst (λ (d : Bool). keyless_told (if b then one else two) ≡ keyless_told (if d then three else four)) equal (by b)
  where
    by : (d : Bool) → keyless_told (if d then one else two) ≡ keyless_told (if d then three else four)
    by true = first
    by false = second

status_alike : (state twin : State) → Twins state twin → status_of state ≡ status_of twin
unfolding status_of
status_alike state twin same =
    let status : List ℕ → ℕ → ℕ → Layers → Reply = λ serial number size layers. reply.Status serial number size (layer_standing layers 1) (layer_standing layers 2) (layer_standing layers 3) in
    let its : Shares state twin = shares state twin same in
    ap (λ (x : List ℕ). status x (number_of (entries_of state.log)) (length state.log) state.layers) its.serial
    ∙ ap (λ (n : ℕ). status twin.serial n (length state.log) state.layers) (same_number state twin same)
    ∙ ap (λ (n : ℕ). status twin.serial (number_of (entries_of twin.log)) n state.layers) (same_length state twin same)
    ∙ ap (λ (l : Layers). status twin.serial (number_of (entries_of twin.log)) (length twin.log) l) its.layers

reply_kept : (state twin : State) → Twins state twin → keyless_reply (status_of state) ≡ keyless_reply (status_of twin)
reply_kept state twin same = ap keyless_reply (status_alike state twin same)

module _ (phase : Phase) (armed : Bool) where
  abbrev world_of : Option State → World
  world_of o = record { state = o; phase = phase; armed = armed }

  worlds_alike : (one other : Option State) → TwinStates one other → keyless_world (world_of one) ≡ keyless_world (world_of other)
  worlds_alike one other pair = ap (λ (o : Option State). record (world_of one) { state = o }) (unpaired pair)

  told_of : (answer : Reply) (one other : Option State) → TwinStates one other → keyless_told (answer, world_of one) ≡ keyless_told (answer, world_of other)
  told_of answer one other pair = ap {B = Told} (λ (w : World). (keyless_reply answer, w)) (worlds_alike one other pair)

  boot_alike : (p : Phase) (one other : Option State) → TwinStates one other → keyless_told (boot_event (world_of one) p one) ≡ keyless_told (boot_event (world_of other) p other)
  boot_alike off None None both_dead = refl
  boot_alike off (Some state) (Some twin) (both_alive same) = ap {B = Told} (λ (s : State). (reply.Booted, record { state = Some s; phase = ratchet 1; armed = armed })) same
  boot_alike off None (Some twin) pair = elim pair [ ]
  boot_alike off (Some state) None pair = elim pair [ ]
  boot_alike dead one other pair = told_of (refusal_reply refusal.Zeroised) one other pair
  boot_alike (ratchet level) one other pair = told_of (refusal_reply refusal.WrongPhase) one other pair

  status_told : (one other : Option State) → TwinStates one other → keyless_told (status_event (world_of one) (running_state phase one)) ≡ keyless_told (status_event (world_of other) (running_state phase other))
  status_told one other pair =
      running_by (λ o. status_event (world_of o)) phase one other pair
      (λ level state twin same.
      ap {B = Told} (λ (answer : Reply). (answer, keyless_world (world_of (Some state)))) (reply_kept state twin same)
      ∙ told_of (status_of twin) (Some state) (Some twin) (both_alive same))
      (λ r. told_of (refusal_reply r) one other pair)

  go_told : (one other : Option State) → TwinStates one other → keyless_told (go_event (world_of one) (running_state phase one)) ≡ keyless_told (go_event (world_of other) (running_state phase other))
  go_told one other pair =
      running_by (λ o. go_event (world_of o)) phase one other pair
      (λ level state twin same.
      let here : World = world_of (Some state) in
      let there : World = world_of (Some twin) in
      told_either (nat_lt 2 level) (nat_lt 2 level) (refusal_reply refusal.WrongPhase, here)
      (if is_runnable state.layers (level + 1) then (reply.At (level + 1), record here { phase = ratchet (level + 1) }) else (refusal_reply refusal.WrongLayer, here))
      (refusal_reply refusal.WrongPhase, there)
      (if is_runnable twin.layers (level + 1) then (reply.At (level + 1), record there { phase = ratchet (level + 1) }) else (refusal_reply refusal.WrongLayer, there))
      refl (told_of (refusal_reply refusal.WrongPhase) (Some state) (Some twin) (both_alive same))
      (told_either (is_runnable state.layers (level + 1)) (is_runnable twin.layers (level + 1)) (reply.At (level + 1), record here { phase = ratchet (level + 1) }) (refusal_reply refusal.WrongLayer, here)
      (reply.At (level + 1), record there { phase = ratchet (level + 1) }) (refusal_reply refusal.WrongLayer, there)
      (ap (λ (l : Layers). is_runnable l (level + 1)) (same_layers state twin same))
      (ap {B = Told} (λ (s : State). (reply.At (level + 1), record { state = Some s; phase = ratchet (level + 1); armed = armed })) same)
      (told_of (refusal_reply refusal.WrongLayer) (Some state) (Some twin) (both_alive same))))
      (λ r. told_of (refusal_reply r) one other pair)

  region_told : (layer : ℕ) (does : State → Outcome) → ((state twin : State) → Twins state twin → TwinOutcomes (does state) (does twin)) → (one other : Option State) → TwinStates one other
      → keyless_told (region_event (world_of one) layer does (running_state phase one)) ≡ keyless_told (region_event (world_of other) layer does (running_state phase other))
  region_told layer does alike one other pair =
      running_by (λ o. region_event (world_of o) layer does) phase one other pair
      (λ level state twin same.
      ap {B = Told} (λ (outcome : Outcome). (outcome.0, world_of (Some outcome.1))) (on_region_alike state twin same layer level does (alike state twin same)))
      (λ r. told_of (refusal_reply r) one other pair)

-- ---- steps

-- the event with this draw, if it has one
abbrev drawn : List ℕ → Event → Event
drawn draw (event.Order text old) = event.Order text draw
drawn draw other = other

-- what the machine answers to a twin
record TwinMachine (world : World) (this : Event) (answer : Reply) (next : World) : Type 0 where
  told : Reply
  end : World
  machine : Machine world this told end
  replies : keyless_reply answer ≡ keyless_reply told
  worlds : keyless_world next ≡ keyless_world end

from_told : (answer : Reply) (next : World) (one other : Told) (world : World) (this : Event) → Machine world this other.0 other.1
    → keyless_told one ≡ keyless_told other → ◌≡◌ {A = Told} (answer, next) one → TwinMachine world this answer next
from_told answer next one other world this machine alike is =
    let whole : ◌≡◌ {A = Told} (keyless_told (answer, next)) (keyless_told other) = ap keyless_told is ∙ alike in
    record { told = other.0; end = other.1; machine = machine; replies = ap (λ (t : Told). t.0) whole; worlds = ap (λ (t : Told). t.1) whole }

refused_alike : (armed : Bool) (phase : Phase) (one other : Option State) → TwinStates one other → (r : Refusal) (answer : Reply) (next : World) (this : Event)
    → Machine (world_of phase armed other) this (refusal_reply r) (world_of phase armed other) → answer ≡ refusal_reply r → next ≡ world_of phase armed one
    → TwinMachine (world_of phase armed other) this answer next
refused_alike armed phase one other pair r answer next this machine is same =
    record { told = refusal_reply r; end = world_of phase armed other; machine = machine; replies = ap keyless_reply is; worlds = ap keyless_world same ∙ worlds_alike phase armed one other pair }

command_alike : (armed : Bool) (draw text old : List ℕ) (answer : Reply) (next : World) (phase : Phase) (one other : Option State) → TwinStates one other
    → CommandStep (world_of phase armed one) text old (running_state phase one) answer next → TwinMachine (world_of phase armed other) (event.Order text draw) answer next
command_alike armed draw text old answer next off one other pair x = refused_alike armed off one other pair refusal.PoweredOff answer next _ (refl, refl) x.0 x.1
command_alike armed draw text old answer next dead one other pair x = refused_alike armed dead one other pair refusal.Zeroised answer next _ (refl, refl) x.0 x.1
command_alike armed draw text old answer next (ratchet level) None None both_dead x = refused_alike armed (ratchet level) None None both_dead refusal.Zeroised answer next _ (refl, refl) x.0 x.1
command_alike armed draw text old answer next (ratchet level) (Some state) (Some twin) (both_alive same) (inl x) =
    let t = order_step_alike old draw state twin same text answer x.1.0 x.1.1 in
    record {
      told = answer;
      end = world_of (ratchet level) armed (Some t.end);
      machine = inl (x.0, (t.end, t.step, refl));
      replies = refl;
      worlds = ap keyless_world x.1.2 ∙ worlds_alike (ratchet level) armed (Some x.1.0) (Some t.end) (both_alive t.alike);
    }
command_alike armed draw text old answer next (ratchet level) (Some state) (Some twin) (both_alive same) (inr x) =
    refused_alike armed (ratchet level) (Some state) (Some twin) (both_alive same) refusal.WrongPhase answer next (event.Order text draw) (inr (x.0, refl, refl)) x.1 x.2
command_alike armed draw text old answer next (ratchet level) None (Some twin) pair x = elim pair [ ]
command_alike armed draw text old answer next (ratchet level) (Some state) None pair x = elim pair [ ]

call_alike : (armed : Bool) (layer : ℕ) (key : Option ℕ) (input : List ℕ) (answer : Reply) (next : World) (phase : Phase) (one other : Option State) → TwinStates one other
    → CallTold (world_of phase armed one) (record { layer = layer; key = key; input = input }) (running_state phase one) answer next
    → TwinMachine (world_of phase armed other) (event.Call layer key input) answer next
call_alike armed layer key input answer next off one other pair x = refused_alike armed off one other pair refusal.PoweredOff answer next _ (refl, refl) x.0 x.1
call_alike armed layer key input answer next dead one other pair x = refused_alike armed dead one other pair refusal.Zeroised answer next _ (refl, refl) x.0 x.1
call_alike armed layer key input answer next (ratchet level) None None both_dead x = refused_alike armed (ratchet level) None None both_dead refusal.Zeroised answer next _ (refl, refl) x.0 x.1
call_alike armed layer key input answer next (ratchet level) (Some state) (Some twin) (both_alive same) (outcome, at, told, follows) =
    let second = on_layer_alike state twin same (record { layer = layer; key = key; input = input }) level outcome at in
    record {
      told = second.0.0;
      end = world_of (ratchet level) armed (Some second.0.1);
      machine = (second.0, second.1, refl, refl);
      replies = ap keyless_reply told ∙ ap (λ (o : Outcome). o.0) second.2;
      worlds = ap keyless_world follows ∙ worlds_alike (ratchet level) armed (Some outcome.1) (Some second.0.1) (both_alive (ap (λ (o : Outcome). o.1) second.2));
    }
call_alike armed layer key input answer next (ratchet level) None (Some twin) pair x = elim pair [ ]
call_alike armed layer key input answer next (ratchet level) (Some state) None pair x = elim pair [ ]

module _ (phase : Phase) (armed : Bool) (draw : List ℕ) (one other : Option State) (pair : TwinStates one other) where
  abbrev here : World
  here = world_of phase armed one

  abbrev there : World
  there = world_of phase armed other

  on_region_of : (layer : ℕ) (does : State → Outcome) → ((state twin : State) → Twins state twin → TwinOutcomes (does state) (does twin)) → (this : Event) (answer : Reply) (next : World)
      → Machine there this (region_event there layer does (running_state_in there)).0 (region_event there layer does (running_state_in there)).1
      → ◌≡◌ {A = Told} (answer, next) (region_event here layer does (running_state_in here)) → TwinMachine there this answer next
  on_region_of layer does alike this answer next machine x =
      from_told answer next (region_event here layer does (running_state_in here)) (region_event there layer does (running_state_in there)) there this machine
      (region_told phase armed layer does alike one other pair) x

  machine_alike : (this : Event) (answer : Reply) (next : World) → Machine here this answer next → TwinMachine there (drawn draw this) answer next
  machine_alike event.Boot answer next x = from_told answer next (boot_event here phase one) (boot_event there phase other) there event.Boot refl (boot_alike phase armed phase one other pair) x
  machine_alike event.Off answer next x =
      record { told = reply.Off; end = record there { phase = off }; machine = (refl, refl); replies = ap keyless_reply x.0; worlds = ap keyless_world x.1 ∙ worlds_alike off armed one other pair }
  machine_alike event.Tamper answer next x =
      record { told = reply.Tampered; end = record there { phase = off; state = None }; machine = (refl, refl); replies = ap keyless_reply x.0; worlds = ap keyless_world x.1 }
  machine_alike (event.Cut count tear) answer next x =
      record { told = reply.Armed; end = record there { armed = true }; machine = (refl, refl); replies = ap keyless_reply x.0; worlds = ap keyless_world x.1 ∙ worlds_alike phase true one other pair }
  machine_alike event.Status answer next x =
      from_told answer next (status_event here (running_state_in here)) (status_event there (running_state_in there)) there event.Status refl (status_told phase armed one other pair) x
  machine_alike (event.Order text old) answer next x = command_alike armed draw text old answer next phase one other pair x
  machine_alike event.Go answer next x =
      from_told answer next (go_event here (running_state_in here)) (go_event there (running_state_in there)) there event.Go refl (go_told phase armed one other pair) x
  machine_alike (event.Put layer name value) answer next x =
      on_region_of layer (put_event layer name value) (λ state twin same. put_alike state twin same layer name value) (event.Put layer name value) answer next refl x
  machine_alike (event.Get layer name) answer next x =
      on_region_of layer (get_event layer name) (λ state twin same. get_alike state twin same layer name) (event.Get layer name) answer next refl x
  machine_alike (event.Drop layer name) answer next x =
      on_region_of layer (drop_event layer name) (λ state twin same. drop_alike state twin same layer name) (event.Drop layer name) answer next refl x
  machine_alike (event.Sign layer key message) answer next x =
      on_region_of layer (sign_event layer key message) (λ state twin same. sign_alike state twin same layer key message) (event.Sign layer key message) answer next refl x
  machine_alike (event.Call layer key input) answer next x = call_alike armed layer key input answer next phase one other pair x

cut_kept : (answer : Reply) → may_be_cut (keyless_reply answer) ≡ may_be_cut answer
cut_kept (reply.Signed key index statement) = refl
cut_kept other = refl

wanted_same : (draw : List ℕ) (this : Event) → may_want_memory (drawn draw this) ≡ may_want_memory this
wanted_same draw (event.Order text old) = refl
wanted_same draw other = refl

-- the step of a twin
record TwinStep (world : World) (this : Event) (answer : Reply) (next : World) : Type 0 where
  told : Reply
  end : World
  step : Step world this told end
  replies : keyless_reply answer ≡ keyless_reply told
  worlds : keyless_world next ≡ keyless_world end

module _ (phase : Phase) (armed : Bool) (draw : List ℕ) (one other : Option State) (pair : TwinStates one other) where
  step_there : (this : Event) (answer : Reply) (next : World) → Step (world_of phase armed one) this answer next → TwinStep (world_of phase armed other) (drawn draw this) answer next
  step_there this answer next (machine_step x) =
      let m = machine_alike phase armed draw one other pair this answer next x in
      record { told = m.told; end = m.end; step = machine_step m.machine; replies = m.replies; worlds = m.worlds }
  step_there this answer next (lacks_memory p) = record {
    told = reply.NoMemory;
    end = world_of phase armed other;
    step = lacks_memory (record { answered = refl; wanted = subst IsTrue (sym (wanted_same draw this)) p.wanted; stays = refl });
    replies = ap keyless_reply p.answered;
    worlds = ap keyless_world p.stays ∙ worlds_alike phase armed one other pair;
  }
  step_there this answer next (loses_power p) =
      let m = machine_alike phase armed draw one other pair this p.told p.whole p.machine in
      let writes : IsTrue (may_be_cut m.told) = subst IsTrue (sym (cut_kept p.told) ∙ ap may_be_cut m.replies ∙ cut_kept m.told) p.writes in
      let left : (state : Option State) → (state ≡ other) ⊎ (state ≡ m.end.state) → option_map keyless_state p.state ≡ option_map keyless_state state
      → TwinStep (world_of phase armed other) (drawn draw this) answer next =
      λ state counts same. record {
        told = reply.Stopped;
        end = record { state = state; phase = off; armed = false };
        step = loses_power (record { told = m.told; whole = m.end; machine = m.machine; armed = p.armed; writes = writes; state = state; counts = counts; answered = refl; follows = refl });
        replies = ap keyless_reply p.answered;
        worlds = ap keyless_world p.follows ∙ ap {B = World} (λ (o : Option State). record { state = o; phase = off; armed = false }) same;
      } in
      elim (p.counts) [
        | inl before ↦ left other (inl refl) (ap (option_map keyless_state) before ∙ unpaired pair)
        | inr after ↦ left m.end.state (inr refl) (ap (option_map keyless_state) after ∙ ap (λ (w : World). w.state) m.worlds)
      ]

-- ---- runs

draw_of : Event → List ℕ
draw_of (event.Order text draw) = draw
draw_of other = []

drawn_back : (this : Event) → drawn (draw_of this) (undrawn_event this) ≡ this
unfolding draw_of
drawn_back (event.Order text draw) = refl
drawn_back other = refl

drawn_over : (draw : List ℕ) (this : Event) → drawn draw (undrawn_event this) ≡ drawn draw this
drawn_over draw (event.Order text old) = refl
drawn_over draw other = refl

-- an event that differs in its draw alone
is_drawn : (this that : Event) → undrawn_event this ≡ undrawn_event that → drawn (draw_of that) this ≡ that
is_drawn this that same = sym (drawn_over (draw_of that) this) ∙ ap (drawn (draw_of that)) same ∙ drawn_back that

step_alike : (world other next : World) (this that : Event) (answer : Reply) → keyless_world world ≡ keyless_world other → undrawn_event this ≡ undrawn_event that
    → Step world this answer next → TwinStep other that answer next
step_alike world other next this that answer same event_same step =
    let phases : world.phase ≡ other.phase = ap (λ (w : World). w.phase) same in
    let arms : world.armed ≡ other.armed = ap (λ (w : World). w.armed) same in
    let there : World = record { state = other.state; phase = world.phase; armed = world.armed } in
    let is : there ≡ other = ap (λ (p : Phase). record there { phase = p }) phases ∙ ap (λ (b : Bool). record other { armed = b }) arms in
    let t : TwinStep there (drawn (draw_of that) this) answer next =
    step_there world.phase world.armed (draw_of that) world.state other.state (paired world.state other.state (ap (λ (w : World). w.state) same)) this answer next step in
    subst (λ (w : World). TwinStep w that answer next) is (subst (λ (e : Event). TwinStep there e answer next) (is_drawn this that event_same) t)

pub noise_matters_to_keys_alone : NoiseMattersToKeysAlone
noise_matters_to_keys_alone world other next [] [] same events run = ([], other, refl, refl, refl, ap keyless_world run ∙ same)
noise_matters_to_keys_alone world other next [] (that ∷ more) same events run = absurd (grind (arith, events))
noise_matters_to_keys_alone world other next (this ∷ rest) [] same events run = absurd (grind (arith, events))
noise_matters_to_keys_alone world other next (this ∷ rest) (that ∷ more) same events run =
    let both = cons_same (undrawn_event this.event) (undrawn_event that) (map (λ (a : Answered). undrawn_event a.event) rest) (map undrawn_event more) events in
    let t : TwinStep other that this.reply run.0 = step_alike world other run.0 this.event that this.reply same both.0 run.1 in
    let r = noise_matters_to_keys_alone run.0 t.end next rest more t.worlds both.1 run.2 in (
      record { event = that; reply = t.told } ∷ r.0,
      r.1,
      ap (λ (list : List Event). that ∷ list) r.2,
      (t.end, t.step, r.3),
      ap (λ (answer : Reply). answer ∷ map (λ (a : Answered). keyless_reply a.reply) rest) t.replies ∙ ap (λ (list : List Reply). keyless_reply t.told ∷ list) r.4,
      r.5,
    )

-- ---- two runs

is_no_memory : (answer : Reply) → keyless_reply answer ≡ reply.NoMemory → answer ≡ reply.NoMemory
is_no_memory (reply.Signed key index statement) e = absurd (grind (arith, e))
is_no_memory other e = e

is_stopped : (answer : Reply) → keyless_reply answer ≡ reply.Stopped → answer ≡ reply.Stopped
is_stopped (reply.Signed key index statement) e = absurd (grind (arith, e))
is_stopped other e = e

own_alike : (answered told : List Answered) → map (λ (this : Answered). keyless_reply this.reply) answered ≡ map (λ (this : Answered). keyless_reply this.reply) told → All HasOwnAnswer answered → All HasOwnAnswer told
own_alike answered [] same own = All-nil HasOwnAnswer
own_alike [] (that ∷ more) same own = absurd (grind (arith, same))
own_alike (this ∷ rest) (that ∷ more) same own =
    let replies : List Answered → List Reply = map (λ (a : Answered). keyless_reply a.reply) in
    let both = cons_same (keyless_reply this.reply) (keyless_reply that.reply) (replies rest) (replies more) same in
    let its : HasOwnAnswer this = All-head HasOwnAnswer this rest own in
    All-cons HasOwnAnswer that more
    (record {
      found = λ lacks. its.found (is_no_memory this.reply (both.0 ∙ ap keyless_reply lacks));
      held = λ stops. its.held (is_stopped this.reply (both.0 ∙ ap keyless_reply stops));
    })
    (own_alike rest more both.1 (All-tail HasOwnAnswer this rest own))

undrawn_twice : (told : List Answered) → map (λ (this : Answered). undrawn_event this.event) told ≡ map undrawn_event (map (λ (this : Answered). this.event) told)
undrawn_twice [] = refl
undrawn_twice (this ∷ rest) = ap (λ (list : List Event). undrawn_event this.event ∷ list) (undrawn_twice rest)

pub draws_change_signatures_alone : DrawsChangeSignaturesAlone
draws_change_signatures_alone world other end other_end answered told same events bytes own also run second =
    let r = noise_matters_to_keys_alone world other end answered (map (λ (this : Answered). this.event) told) same (events ∙ undrawn_twice told) run in
    let equal = runs_are_determined other other_end r.1 told r.0 bytes (sym r.2) also (own_alike answered r.0 r.4 own) second r.3 in
    (r.4 ∙ sym (ap (map (λ (this : Answered). keyless_reply this.reply)) equal.0), r.5 ∙ sym (ap keyless_world equal.1))

-- ---- orders that make no key

three_false : (a b c : Bool) → (a || b || c) ≡ false → (a ≡ false) × (b ≡ false) × (c ≡ false)
three_false false false false e = (refl, refl, refl)
three_false true b c e = absurd (grind (arith, e))
three_false false true c e = absurd (grind (arith, e))
three_false false false true e = absurd (grind (arith, e))

module _ (draw other : List ℕ) where
  change_undrawn : (state : State) (kind : ChangeKind) (order : Order) → renews (Some kind) order.layer ≡ false → state_after_change state kind order draw ≡ state_after_change state kind order other
  unfolding state_after_change
  change_undrawn state kind order none =
      let entry : Bool → List ℕ → Entry = λ next noise. Change 2 (length state.log) (number_of (entries_of state.log) + 1) kind order.layer (cosigners_of order)
      (after state.layers kind order.layer (cosigners_of order) (layer_from_order (layer_of state.layers order.layer) order.act)) (kept_regions state.layers kind order.layer (cosigners_of order))
      (next_device_key next (view_of state) noise) in
      let left : Bool → List ℕ → State = λ next noise. record (state_after_change state kind order draw) { log = log_with state (entry next noise); device = device_after next (view_of state) noise } in
      ap (λ (b : Bool). left b draw) none ∙ sym (ap (λ (b : Bool). left b other) none)

  act_undrawn : (state : State) (order : Order) (a : Act) → is_new_key a ≡ false → renews (change_of (kind_of a)) order.layer ≡ false
      → state_after_act state order a draw ≡ state_after_act state order a other
  act_undrawn state order (act.Establish owner trust) old none = change_undrawn state Establish order none
  act_undrawn state order act.Surrender old none = change_undrawn state Surrender order none
  act_undrawn state order (act.Load payload) old none = change_undrawn state Load order none
  act_undrawn state order (act.Emergency payload) old none = change_undrawn state Emergency order none
  act_undrawn state order (act.NewKey kind) old none = absurd (true≢false old)

  order_undrawn : (state : State) (order : Order) → makes_key (view_of state) order ≡ false → state_after_order state order draw ≡ state_after_order state order other
  unfolding state_after_order
  order_undrawn state order none =
      let parts = three_false (is_new_key order.act) (renews (change_by order) order.layer) (needs_succession (view_of state) order) none in
      ap (λ (b : Bool). state_after_act (if b then state_after_succession state draw else state) order order.act draw) parts.2
      ∙ act_undrawn state order order.act parts.0 parts.1
      ∙ sym (ap (λ (b : Bool). state_after_act (if b then state_after_succession state other else state) order order.act other) parts.2)

pub draws_matter_to_new_keys_alone : DrawsMatterToNewKeysAlone
draws_matter_to_new_keys_alone state next text draw other answer none (spells_none p) = spells_none (record { none = p.none; answered = p.answered; stays = p.stays })
draws_matter_to_new_keys_alone state next text draw other answer none (fails_check p) =
    fails_check (record { order = p.order; spelled = p.spelled; refusal = p.refusal; fails = p.fails; answered = p.answered; stays = p.stays })
draws_matter_to_new_keys_alone state next text draw other answer none (is_obeyed p) = is_obeyed (record {
  order = p.order;
  spelled = p.spelled;
  passes = p.passes;
  follows = p.follows ∙ order_undrawn draw other state p.order (none p.order p.spelled);
  answered = p.answered;
})

-- ---- loads of layer 1

and_never : (b : Bool) → (b && not true) ≡ false
and_never true = refl
and_never false = refl

module _ (state : State) (order : Order) (draw : List ℕ) where
  change_device : (kind : ChangeKind) → renews (Some kind) order.layer ≡ true → (state_after_change state kind order draw).device ≡ next_key (view_of state) draw
  unfolding state_after_change
  change_device kind is = ap (λ (b : Bool). device_after b (view_of state) draw) is

  act_device : (a : Act) → renews (change_of (kind_of a)) order.layer ≡ true → (state_after_act state order a draw).device ≡ next_key (view_of state) draw
  act_device (act.Establish owner trust) is = change_device Establish is
  act_device act.Surrender is = change_device Surrender is
  act_device (act.Load payload) is = change_device Load is
  act_device (act.Emergency payload) is = change_device Emergency is
  act_device (act.NewKey kind) is = absurd (grind (arith, is))

  order_device : renews (change_by order) order.layer ≡ true → (state_after_order state order draw).device ≡ next_key (view_of state) draw
  unfolding state_after_order
  order_device is =
      let last : Bool = uses_of_device_key (entries_of state.log) == 31 in
      let spared : needs_succession (view_of state) order ≡ false = ap (λ (b : Bool). last && not b) is ∙ and_never last in
      ap (λ (b : Bool). (state_after_act (if b then state_after_succession state draw else state) order order.act draw).device) spared ∙ act_device order.act is

pub draws_make_the_device_key : DrawsMakeTheDeviceKey
draws_make_the_device_key state order draw other is few same =
    let made : ℕ = keys_made_by (entries_of state.log) in
    let keys : born_key draw state.serial made ≡ born_key other state.serial made =
    sym (order_device state order draw is) ∙ ap (λ (s : State). s.device) same ∙ order_device state order other is in
    elim (device_keys_differ draw other state.serial state.serial made made refl few few keys) [ inl equal ↦ inl equal.0 | inr collides ↦ inr collides ]
