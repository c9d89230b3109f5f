-- What a step comes to that is answered by a statement: a key of a region has signed it.
use Rattle.std.proofs.Common.{◌≡◌, ◌<◌, ◌≤◌, ◌⊎◌, ℕ, List, [], length, inl, inr, Option, None, Some, Bool, true, false, refl, sym, ap, ◌∙◌, arith}
use Rattle.std.specs.Prelude.{Result, Ok, Err, not, nat_lt, nat_le, ◌||◌, find, if◌then◌else◌, Contains}
use Rattle.sha2.specs.Sha256.{sha256}
use Rattle.sha2.proofs.Facts256.{length-sha256}
use Rattle.mb_model.specs.declared.entry.Said.{Said}
use Rattle.mb_model.specs.declared.entry.Said.TheVariants.{Message, Answer}
use Rattle.mb_model.specs.declared.event.Event.{Event}
use Rattle.mb_model.specs.declared.event.Event.TheVariants as event
use Rattle.mb_model.specs.declared.region.RegionKey.{RegionKey}
use Rattle.mb_model.specs.declared.reply.Reply.{Reply}
use Rattle.mb_model.specs.declared.reply.Reply.TheVariants as reply
use Rattle.mb_model.specs.declared.state.State.{State}
use Rattle.mb_model.specs.owners.Layers.{is_runnable, Runnable}
use Rattle.mb_model.specs.declared.reply.Refusal.{Refusal}
use Rattle.mb_model.specs.declared.reply.Refusal.TheVariants.{WrongLayer, WrongCode, KeySpent}
use Rattle.mb_model.specs.machine.Refusals.{refusal_reply}
use Rattle.mb_model.specs.owners.Regions.{region_of}
use Rattle.mb_model.specs.machine.LayerEvents.{Outcome, on_region, has_number, put_event, get_event, drop_event, statement_of, sign_with, sign_event, code_in, takes_calls}
use Rattle.mb_model.specs.machine.Actions.{Action, action_format}
use Rattle.mb_model.specs.machine.Calls.{Call, call_statement_of, answer_by}
use Rattle.mb_model.specs.memories.Valid.{IsValidState}
use Rattle.mb_model.specs.signatures.Signing.{signature_of}
use Rattle.mb_model.specs.chains.Script.{IsScriptEvent}
use Rattle.mb_model.specs.chains.Listing.{is_signed}
use Rattle.mb_model.specs.records.ChainFormat.{answered_format, said_format, statement_format}
use Rattle.mb_model.specs.machine.Machine.{World, Told, running_state_in, region_event, CallTold, Machine, Step, machine_step, lacks_memory, loses_power}
use Rattle.mb_model_lemmas.proofs.AttachLemmas.{statement_allowed}
use Rattle.mb_model_lemmas.proofs.CallLemmas.{IsAnswered, IsRefusedCall, AnswersAt, on_layer_comes}
use Rattle.mb_model_lemmas.proofs.DemandLemmas.{Spares, nothing_spares, demands_spare, key_asked}
use Rattle.mb_model_lemmas.proofs.ValidSteps.{demands_valid}
use Rattle.mb_model_lemmas.proofs.RefusalLemmas.{awake_state}
use Rattle.mb_model_lemmas.proofs.ReplyTests.{HasValue, boot_has, status_has, go_has, region_has, put_has, get_has, drop_has, command_has}
use Rattle.mb_model_lemmas.proofs.ListLemmas.{found_is}
use Rattle.mb_model_lemmas.proofs.SignatureLemmas.{length-signature_of}
use Rattle.mb_model_memory.proofs.StorableSteps.{found_number}
use Rattle.mb_model_runs.specs.StatementLaws.{statement_saying, AsksFor}
use Rattle.mb_model_runs.proofs.KeptByRuns.{with_one_use}

-- A key of the region of layer L signs what is said in a state. The state between is the one in which its use is counted:
-- a call may have changed secrets of the region before.
pub record SignsIn (state : State) (L : ℕ) (said : Said) (n index : ℕ) (statement : List ℕ) (after : State) : Type 0 where
  pub key : RegionKey
  pub within : Contains (region_of state L).keys key
  pub few : key.uses < 32
  pub number_is : key.number ≡ n
  pub index_is : key.uses ≡ index
  pub statement_is : statement ≡ statement_format.spelling (statement_saying state key said)
  pub between : State
  pub spares : Spares L state between
  pub keeps_valid : IsValidState state → IsValidState between
  pub after_is : after ≡ with_one_use between L key.number

-- and so in a world, at the event that asks for it
pub record StepSigns (world : World) (given : Event) (n index : ℕ) (statement : List ℕ) (next : World) : Type 0 where
  pub state : State
  pub after : State
  pub L : ℕ
  pub said : Said
  pub asked : AsksFor given L n said
  pub fits : IsScriptEvent given → said_format.Allowed said
  pub was : world.state ≡ Some state
  pub is : next.state ≡ Some after
  pub signs : SignsIn state L said n index statement after

-- ---- what may be said

message_fits : (message signature : List ℕ) → length message ≤ 128 → length signature ≡ 2348 → said_format.Allowed (Message message)
unfolding statement_format
message_fits message signature short long = (statement_allowed 0 message signature (omega arith) short long).1.0

answer_fits : (hash answer : List ℕ) → length hash ≡ 32 → length answer ≤ 128 → said_format.Allowed (Answer hash answer)
unfolding said_format answered_format
answer_fits hash answer long short = ((omega arith, omega arith), (long, ((omega arith, short), refl)))

answer_short : (action : Action) → action_format.Allowed action → length action.answer ≤ 128
unfolding action_format
answer_short action allowed = allowed.1.0.1

-- ---- the event by which a layer signs

signed_parts : (a b c d : ℕ) (s t : List ℕ) → reply.Signed a c s ≡ reply.Signed b d t → (a ≡ b) × (c ≡ d) × (s ≡ t)
signed_parts a b c d s t e = (cc, cc, cc)

fresh_is_few : (uses : ℕ) → nat_le 32 uses ≡ false → uses < 32
fresh_is_few uses e = grind (arith, e)

-- where the outcome's reply is this statement, the key that was asked for has signed it
abbrev Signs : State → ℕ → ℕ → Said → ℕ → ℕ → List ℕ → Outcome → Type 0
Signs state L number said n index statement outcome =
    outcome.0 ≡ reply.Signed n index statement → (number ≡ n) × SignsIn state L said n index statement outcome.1

either_signs : (state : State) (L number : ℕ) (said : Said) (n index : ℕ) (statement : List ℕ) (b : Bool) (x y : Outcome)
    → (b ≡ true → Signs state L number said n index statement x) → (b ≡ false → Signs state L number said n index statement y)
    → Signs state L number said n index statement (if b then x else y)
either_signs state L number said n index statement true x y first second = first refl
either_signs state L number said n index statement false x y first second = second refl

sign_with_signs : (L : ℕ) (found : Option RegionKey) (number : ℕ) (message : List ℕ) (state : State) (n index : ℕ) (statement : List ℕ)
    → find (has_number number) (region_of state L).keys ≡ found → Signs state L number (Message message) n index statement (sign_with L found message state)
unfolding statement_of statement_saying
sign_with_signs L None number message state n index statement is = λ e. absurd (grind (arith, e))
sign_with_signs L (Some key) number message state n index statement is =
    let stated : List ℕ = statement_format.spelling (statement_of state key message) in
    either_signs state L number (Message message) n index statement (nat_le 32 key.uses) (refusal_reply KeySpent, state) (reply.Signed key.number key.uses stated, with_one_use state L key.number)
    (λ spent e. absurd (grind (arith, e)))
    (λ fresh e.
    let parts = signed_parts key.number n key.uses index stated statement e in (
      sym (found_number number (region_of state L).keys key is) ∙ parts.0,
      record {
        key = key;
        within = (found_is (has_number number) (region_of state L).keys key is).0;
        few = fresh_is_few key.uses fresh;
        number_is = parts.0;
        index_is = parts.1;
        statement_is = sym parts.2;
        between = state;
        spares = nothing_spares L state;
        keeps_valid = λ valid. valid;
        after_is = refl;
      },
    ))

sign_signs : (L number : ℕ) (message : List ℕ) (state : State) (n index : ℕ) (statement : List ℕ) → Signs state L number (Message message) n index statement (sign_event L number message state)
unfolding sign_event
sign_signs L number message state n index statement =
    sign_with_signs L (find (has_number number) (region_of state L).keys) number message state n index statement refl

on_region_signs : (r L number : ℕ) (message : List ℕ) (state : State) (n index : ℕ) (statement : List ℕ)
    → Signs state L number (Message message) n index statement (on_region r L (sign_event L number message) state)
on_region_signs r L number message state n index statement =
    either_signs state L number (Message message) n index statement (nat_lt L r || not (is_runnable state.layers L)) (refusal_reply WrongLayer, state) _
    (λ past e. absurd (grind (arith, e)))
    (λ here. either_signs state L number (Message message) n index statement (takes_calls (code_in state.codes L)) (refusal_reply WrongCode, state) (sign_event L number message state)
    (λ taken e. absurd (grind (arith, e)))
    (λ unmarked. sign_signs L number message state n index statement))

-- ---- every other event

-- what is told is not this statement
not_told : (n index : ℕ) (statement : List ℕ) (next : World) (told : Told) → is_signed told.0 ≡ false → ◌≡◌ {A = Told} (reply.Signed n index statement, next) told → ⊥
not_told n index statement next told unsigned e =
    let clash : true ≡ false = ap (λ (t : Told). is_signed t.0) e ∙ unsigned in
    grind (arith, clash)

not_signed : (n index : ℕ) (statement : List ℕ) (other : Reply) → is_signed other ≡ false → reply.Signed n index statement ≡ other → ⊥
not_signed n index statement other unsigned e =
    let clash : true ≡ false = ap is_signed e ∙ unsigned in
    grind (arith, clash)

no_statements : HasValue is_signed false
no_statements = record {
  booted = refl;
  off = refl;
  tampered = refl;
  armed = refl;
  at = λ layer. refl;
  done = λ number size. refl;
  kept = refl;
  dropped = refl;
  secret = λ bytes. refl;
  absent = refl;
  status = λ serial number size one two three. refl;
  refused = λ number. refl;
}

-- ---- the step

region_signs : (world : World) (L number : ℕ) (message : List ℕ) (on : Result (ℕ × State) Refusal) (n index : ℕ) (statement : List ℕ) (next : World) → running_state_in world ≡ on
    → ◌≡◌ {A = Told} (reply.Signed n index statement, next) (region_event world L (sign_event L number message) on) → StepSigns world (event.Sign L number message) n index statement next
region_signs world L number message (Err refusal) n index statement next is e = absurd (not_told n index statement next (refusal_reply refusal, world) refl e)
region_signs world L number message (Ok on) n index statement next is e =
    let outcome : Outcome = on_region on.0 L (sign_event L number message) on.1 in
    let told : reply.Signed n index statement ≡ outcome.0 = ap (λ (t : Told). t.0) e in
    let signs = on_region_signs on.0 L number message on.1 n index statement (sym told) in
    record {
      state = on.1;
      after = outcome.1;
      L = L;
      said = Message message;
      asked = ap (λ m. event.Sign L m message) signs.0;
      fits = λ script. message_fits message (signature_of signs.1.key.seed 0 []) script.2 (length-signature_of signs.1.key.seed 0 []);
      was = awake_state world.phase world.state on is;
      is = ap (λ (t : Told). t.1.state) e;
      signs = signs.1;
    }

-- a call that is answered by a statement: what its code asked for is done, and the key has signed the answer
module _ (world : World) (call : Call) (on : ℕ × State) (n index : ℕ) (statement : List ℕ) (next : World) (outcome : Outcome) (awake : running_state_in world ≡ Ok on)
    (told : reply.Signed n index statement ≡ outcome.0) (follows : next.state ≡ Some outcome.1) (runs : Runnable on.1.layers call.layer) (is : IsAnswered on.1 call outcome) where
  answer_signs : (key : Option RegionKey) → is.key ≡ key → StepSigns world (event.Call call.layer call.key call.input) n index statement next
  unfolding call_statement_of statement_saying
  answer_signs None same =
      let outcome_is : outcome ≡ answer_by call.layer None call.input is.action.answer on.1 is.done =
      is.comes ∙ ap (λ (k : Option RegionKey). answer_by call.layer k call.input is.action.answer on.1 is.done) same in
      absurd (not_signed n index statement (reply.Called is.action.answer) refl (told ∙ ap (λ (o : Outcome). o.0) outcome_is))
  answer_signs (Some key) same =
      let outcome_is : outcome ≡ answer_by call.layer (Some key) call.input is.action.answer on.1 is.done =
      is.comes ∙ ap (λ (k : Option RegionKey). answer_by call.layer k call.input is.action.answer on.1 is.done) same in
      let said : Said = Answer (sha256 call.input) is.action.answer in
      let stated : List ℕ = statement_format.spelling (statement_saying on.1 key said) in
      let parts = signed_parts key.number n key.uses index stated statement (sym (told ∙ ap (λ (o : Outcome). o.0) outcome_is)) in
      let key_is = key_asked call.key (region_of on.1 call.layer) key (is.found ∙ ap Ok same) in
      record {
        state = on.1;
        after = outcome.1;
        L = call.layer;
        said = said;
        asked = (call.input, ap (λ k. event.Call call.layer k call.input) (key_is.asked_is ∙ ap Some (sym key_is.number_is ∙ parts.0)), refl);
        fits = λ script. answer_fits (sha256 call.input) is.action.answer (length-sha256 call.input) (answer_short is.action is.spelled.allowed);
        was = awake_state world.phase world.state on awake;
        is = follows;
        signs = record {
          key = key;
          within = (found_is (has_number key_is.number) (region_of on.1 call.layer).keys key key_is.found).0;
          few = fresh_is_few key.uses key_is.left;
          number_is = parts.0;
          index_is = parts.1;
          statement_is = sym parts.2;
          between = is.done;
          spares = demands_spare call.layer is.action.demands on.1 is.done is.met;
          keeps_valid = λ valid. (demands_valid call.layer is.action.demands on.1 is.done runs valid is.met).0;
          after_is = ap (λ (o : Outcome). o.1) outcome_is;
        };
      }

call_signs : (world : World) (call : Call) (on : Result (ℕ × State) Refusal) (n index : ℕ) (statement : List ℕ) (next : World) → running_state_in world ≡ on
    → CallTold world call on (reply.Signed n index statement) next → StepSigns world (event.Call call.layer call.key call.input) n index statement next
call_signs world call (Err refusal) n index statement next awake x = absurd (not_signed n index statement (refusal_reply refusal) refl x.0)
call_signs world call (Ok on) n index statement next awake (outcome, at, told, follows) =
    by (on_layer_comes on.0 call on.1 outcome at)
  where
    by : AnswersAt on.0 call on.1 outcome ⊎ IsRefusedCall on.1 outcome → StepSigns world (event.Call call.layer call.key call.input) n index statement next
    by (inl answers) =
        answer_signs world call on n index statement next outcome awake told (ap (λ (w : World). w.state) follows) answers.runs answers.is answers.is.key refl
    by (inr refused) = absurd (not_signed n index statement (reply.Refused refused.0.0) refl (told ∙ refused.0.1))

machine_signs : (world : World) (given : Event) (n index : ℕ) (statement : List ℕ) (next : World) → Machine world given (reply.Signed n index statement) next
    → StepSigns world given n index statement next
machine_signs world event.Boot n index statement next x = absurd (not_told n index statement next _ (boot_has is_signed false no_statements world world.phase world.state) x)
machine_signs world event.Off n index statement next x = absurd (not_signed n index statement reply.Off refl x.0)
machine_signs world event.Tamper n index statement next x = absurd (not_signed n index statement reply.Tampered refl x.0)
machine_signs world (event.Cut count tear) n index statement next x = absurd (not_signed n index statement reply.Armed refl x.0)
machine_signs world event.Status n index statement next x = absurd (not_told n index statement next _ (status_has is_signed false no_statements world (running_state_in world)) x)
machine_signs world (event.Order text draw) n index statement next x =
    absurd (not_signed n index statement (reply.Signed n index statement) (command_has is_signed false no_statements world text draw (running_state_in world) (reply.Signed n index statement) next x) refl)
machine_signs world event.Go n index statement next x = absurd (not_told n index statement next _ (go_has is_signed false no_statements world (running_state_in world)) x)
machine_signs world (event.Put L name value) n index statement next x =
    absurd (not_told n index statement next _ (region_has is_signed false no_statements world L (put_event L name value) (running_state_in world) (put_has is_signed false no_statements L name value)) x)
machine_signs world (event.Get L name) n index statement next x =
    absurd (not_told n index statement next _ (region_has is_signed false no_statements world L (get_event L name) (running_state_in world) (get_has is_signed false no_statements L name)) x)
machine_signs world (event.Drop L name) n index statement next x =
    absurd (not_told n index statement next _ (region_has is_signed false no_statements world L (drop_event L name) (running_state_in world) (drop_has is_signed false no_statements L name)) x)
machine_signs world (event.Sign L key message) n index statement next x = region_signs world L key message (running_state_in world) n index statement next refl x
machine_signs world (event.Call L key input) n index statement next x = call_signs world _ (running_state_in world) n index statement next refl x

pub step_signs : (world : World) (given : Event) (n index : ℕ) (statement : List ℕ) (next : World) → Step world given (reply.Signed n index statement) next
    → StepSigns world given n index statement next
step_signs world given n index statement next (machine_step x) = machine_signs world given n index statement next x
step_signs world given n index statement next (lacks_memory p) = absurd (not_signed n index statement reply.NoMemory refl p.answered)
step_signs world given n index statement next (loses_power p) = absurd (not_signed n index statement reply.Stopped refl p.answered)
