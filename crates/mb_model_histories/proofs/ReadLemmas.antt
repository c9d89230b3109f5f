-- What a `get` reads: a secret of its region that its layer has admitted ever since.
use Rattle.std.proofs.Common.{◌≡◌, ℕ, List, [], ◌∷◌, Option, None, Some, Bool, true, false, refl, sym, ap, subst, arith}
use Rattle.std.specs.Prelude.{Result, Ok, Err, not, nat_lt, ◌||◌, find, if◌then◌else◌, Contains, zero, suc}
use Rattle.std.proofs.lemmas.Option.{same_Some}
use Rattle.mb_format.proofs.Fields.{same_bytes-true}
use Rattle.mb_model.specs.declared.entry.Entry.{Entry}
use Rattle.mb_model.specs.declared.entry.Entry.TheVariants.{Change}
use Rattle.mb_model.specs.declared.event.Event.TheVariants as event
use Rattle.mb_model.specs.declared.layer.Layer.{Layer}
use Rattle.mb_model.specs.declared.layer.Pair.{Pair}
use Rattle.mb_model.specs.declared.order.ChangeKind.TheVariants.{Surrender}
use Rattle.mb_model.specs.declared.region.Secret.{Secret}
use Rattle.mb_model.specs.declared.reply.Refusal.{Refusal}
use Rattle.mb_model.specs.declared.reply.Reply.TheVariants as reply
use Rattle.mb_model.specs.declared.state.State.{State}
use Rattle.mb_model.specs.owners.Layers.{layer_without_owner, unowned_layers, is_runnable}
use Rattle.mb_model.specs.machine.LayerEvents.{Outcome, code_in, takes_calls, has_name, value_reply, get_event}
use Rattle.mb_model.specs.owners.Log.{entries_of, layers_of}
use Rattle.mb_model.specs.machine.Machine.{ratchet, World, Told, running_state_in, region_event, Step, machine_step, lacks_memory, loses_power}
use Rattle.mb_model.specs.owners.Regions.{empty_region, region_of, AdmittedSince}
use Rattle.mb_model.specs.owners.Rules.{Admits}
use Rattle.mb_model.specs.memories.Valid.{Valid}
use Rattle.mb_model_lemmas.proofs.RefusalLemmas.{awake_state}
use Rattle.mb_model_lemmas.proofs.ListLemmas.{found_is}
use Rattle.mb_model_histories.specs.OwnerLaws.{ReadsSecret, InvalidStatesReadMore}
use Rattle.mb_model_histories.proofs.SinceLemmas.{secret_admitted}
use Rattle.mb_model_histories.proofs.StepLemmas.{awake_phase}

value_found : (found : Option Secret) (value : List ℕ) → value_reply found ≡ reply.Value value → (secret : Secret) × (found ≡ Some secret) × (secret.value ≡ value)
value_found None value e = absurd (grind (arith, e))
value_found (Some secret) value e = (secret, refl, cc)

not_refused : (past runs taken : Bool) (n m : ℕ) (value : List ℕ) (x : Outcome) (state : State)
    → (if past || not runs then (reply.Refused n, state) else if taken then (reply.Refused m, state) else x).0 ≡ reply.Value value
    → (past ≡ false) × (runs ≡ true) × (x.0 ≡ reply.Value value)
not_refused true runs taken n m value x state e = absurd (grind (arith, e))
not_refused false true true n m value x state e = absurd (grind (arith, e))
not_refused false true false n m value x state e = (refl, refl, e)
not_refused false false taken n m value x state e = absurd (grind (arith, e))

region_reads : (here : World) (layer : ℕ) (name value : List ℕ) (on : Result (ℕ × State) Refusal) (next : World) → Valid here.state → running_state_in here ≡ on
    → ◌≡◌ {A = Told} (reply.Value value, next) (region_event here layer (get_event layer name) on) → ReadsSecret here layer name value
unfolding get_event
region_reads here layer name value (Err refusal) next valid is e =
    let clash : reply.Value value ≡ reply.Refused _ = ap (λ (t : Told). t.0) e in
    absurd (grind (arith, clash))
region_reads here layer name value (Ok on) next valid is e =
    let was : here.state ≡ Some on.1 = awake_state here.phase here.state on is in
    let parts = not_refused (nat_lt layer on.0) (is_runnable on.1.layers layer) (takes_calls (code_in on.1.codes layer)) _ _ value (get_event layer name on.1) on.1 (sym (ap (λ (t : Told). t.0) e)) in
    let found = value_found (find (has_name name) (region_of on.1 layer).secrets) value parts.2 in
    let at = found_is (has_name name) (region_of on.1 layer).secrets found.0 found.1 in
    record {
      state = on.1;
      secret = found.0;
      level = on.0;
      is = was;
      within = at.0;
      name_is = same_bytes-true found.0.name name at.1;
      value_is = found.2;
      admitted = secret_admitted on.1 layer found.0 (subst Valid was valid) at.0;
      runs = parts.1;
      running = awake_phase here.phase here.state on is;
      in_control = grind (arith, parts.0);
    }

pub values_are_admitted : (here next : World) (layer : ℕ) (name value : List ℕ) → Valid here.state → Step here (event.Get layer name) (reply.Value value) next → ReadsSecret here layer name value
values_are_admitted here next layer name value valid (machine_step x) = region_reads here layer name value (running_state_in here) next valid refl x
values_are_admitted here next layer name value valid (lacks_memory p) = let clash : reply.Value value ≡ reply.NoMemory = p.answered in absurd (grind (arith, clash))
values_are_admitted here next layer name value valid (loses_power p) = let clash : reply.Value value ≡ reply.Stopped = p.answered in absurd (grind (arith, clash))

-- ---- a state that no device can have

-- a secret from before the owner of layer 2 gave it up
left_secret : Secret
left_secret = record { name = []; value = []; born = 0 }

nobody : Pair
nobody = record { two = false; three = false }

given_up : Entry
given_up = Change 2 0 1 Surrender 2 nobody unowned_layers nobody None

reliable_layer : Layer
reliable_layer = record layer_without_owner { reliable = true }

-- the secret is still there
left_state : State
left_state = record {
  serial = [];
  layers = record { one = reliable_layer; two = reliable_layer; three = reliable_layer };
  codes = record { one = None; two = None; three = None };
  log = record { entry = given_up; signature = [] } ∷ [];
  device = record { identifier = []; seed = [] };
  uses = 0;
  two = record { secrets = left_secret ∷ []; keys = [] };
  three = empty_region;
}

left_world : World
left_world = record { state = Some left_state; phase = ratchet 2; armed = false }

only_one : {X : Type 0} (one other : X) → Contains (one ∷ []) other → one ≡ other
only_one one other (zero, within, same) = same
only_one one other (suc k, within, same) = absurd (omega (arith, within))

left_unadmitted : AdmittedSince (given_up ∷ []) 0 2 → ⊥
unfolding given_up
left_unadmitted admitted =
    let admits : Admits (layers_of []) Surrender 2 nobody 2 = admitted [] [] 2 0 1 Surrender 2 nobody unowned_layers nobody None refl (omega arith) (omega arith) in
    absurd (grind (arith, admits))

left_unread : ReadsSecret left_world 2 [] [] → ⊥
unfolding left_world left_state left_secret
left_unread reads =
    let same : reads.state ≡ left_state = same_Some reads.state left_state (sym reads.is) in
    let within : Contains (left_secret ∷ []) reads.secret = subst (λ (s : State). Contains (region_of s 2).secrets reads.secret) same reads.within in
    let one : left_secret ≡ reads.secret = only_one left_secret reads.secret within in
    left_unadmitted (subst (λ (s : Secret). AdmittedSince (given_up ∷ []) s.born 2) (sym one) (subst (λ (s : State). AdmittedSince (entries_of s.log) reads.secret.born 2) same reads.admitted))

pub invalid_states_read_more : InvalidStatesReadMore
unfolding left_world left_state left_secret reliable_layer get_event
invalid_states_read_more = (left_world, 2, [], [], machine_step refl, left_unread)
