-- What a call comes to: it is answered, and its code has run; or it is refused, and nothing has changed.
use Rattle.std.proofs.Common.{◌≡◌, ◌⊎◌, ℕ, List, inl, inr, length, Option, None, Some, Bool, true, false, refl, sym, ap, ◌∙◌, subst, arith}
use Rattle.std.specs.Prelude.{Result, Ok, Err, nat_le, find, if◌then◌else◌}
use Rattle.std.proofs.lemmas.Option.{same_Some}
use Rattle.sha2.specs.Sha256.{sha256}
use Rattle.mb_model.specs.declared.entry.Said.TheVariants.{Answer}
use Rattle.mb_model.specs.declared.event.Event.TheVariants as event
use Rattle.mb_model.specs.declared.region.RegionKey.{RegionKey}
use Rattle.mb_model.specs.declared.reply.Refusal.{Refusal}
use Rattle.mb_model.specs.declared.reply.Refusal.TheVariants.{KeySpent}
use Rattle.mb_model.specs.declared.reply.Reply.{Reply}
use Rattle.mb_model.specs.declared.reply.Reply.TheVariants as reply
use Rattle.mb_model.specs.declared.state.State.{State}
use Rattle.mb_model.specs.machine.Calls.{Call, usable_key, key_for, call_statement_of, answer_by}
use Rattle.mb_model.specs.machine.LayerEvents.{Outcome, has_number}
use Rattle.mb_model.specs.machine.Machine.{ratchet, World, running_state_in, CallTold, Step, machine_step, lacks_memory, loses_power}
use Rattle.mb_model.specs.owners.Log.{entries_of, number_of}
use Rattle.mb_model.specs.owners.Regions.{region_of}
use Rattle.mb_model.specs.records.ChainFormat.{statement_format}
use Rattle.mb_model_lemmas.proofs.CallLemmas.{IsAnswered, AnswersAt, on_layer_comes}
use Rattle.mb_model_lemmas.proofs.DemandLemmas.{key_asked}
use Rattle.mb_model_lemmas.proofs.RefusalLemmas.{awake_state}
use Rattle.mb_model_lemmas.proofs.SignatureLemmas.{length-signature_of}
use Rattle.mb_model_histories.proofs.StepLemmas.{awake_phase}
use Rattle.mb_call_histories.specs.AcceptedCallLaws.{RunsWith}
use Rattle.mb_call_histories.specs.CallChangeLaws.{after_use, CallsCountWholly, CalledIsWhatCodeSays}

-- what a call leads to, if power holds and memory is found
pub data CallComes (here : World) (call : Call) (answer : Reply) (next : World) : Type 0 where
  comes_to_answer : (level : ℕ) (state : State) (outcome : Outcome) → here.state ≡ Some state → here.phase ≡ ratchet level
      → AnswersAt level call state outcome → answer ≡ outcome.0 → next ≡ record here { state = Some outcome.1 } → CallComes here call answer next
  comes_to_nothing : (number : ℕ) → answer ≡ reply.Refused number → next ≡ here → CallComes here call answer next

same_world : (here : World) (state : State) → here.state ≡ Some state → record here { state = Some state } ≡ here
same_world here state is = ap (λ (o : Option State). record here { state = o }) (sym is)

pub told_comes : (here : World) (call : Call) (on : Result (ℕ × State) Refusal) (answer : Reply) (next : World) → running_state_in here ≡ on
    → CallTold here call on answer next → CallComes here call answer next
told_comes here call (Err refusal) answer next is told = comes_to_nothing _ told.0 told.1
told_comes here call (Ok on) answer next is (outcome, at, answered, follows) =
    let was = awake_state here.phase here.state on is in
    elim (on_layer_comes on.0 call on.1 outcome at) [
      | inl answers ↦ comes_to_answer on.0 on.1 outcome was (awake_phase here.phase here.state on is) answers answered follows
      | inr refused ↦ comes_to_nothing refused.0.0 (answered ∙ refused.0.1)
          (follows ∙ ap (λ (s : State). record here { state = Some s }) refused.1 ∙ same_world here on.1 was)
    ]

-- what the code of an answered call has done
pub ran_saying : (call : Call) (state : State) (outcome : Outcome) (is : IsAnswered state call outcome) (said : List ℕ) → is.action.answer ≡ said → RunsWith state call.layer call.input said
ran_saying call state outcome is said says = record {
  code = is.code;
  stored = is.stored;
  takes = is.takes;
  steps = is.steps;
  output = is.output;
  run = is.run;
  action = is.action;
  spelled = is.spelled;
  answer_is = says;
  done = is.done;
  met = is.met;
}

-- ---- the key

-- none is found exactly if none is asked for
pub asked_none : (asked : Option ℕ) (state : State) (layer : ℕ) → key_for asked (region_of state layer) ≡ Ok None → asked ≡ None
asked_none None state layer found = refl
asked_none (Some number) state layer found = absurd (by (find (has_number number) (region_of state layer).keys) found)
  where
    spent : (b : Bool) (k : RegionKey) → ◌≡◌ {A = Result (Option RegionKey) Refusal} (if b then Err KeySpent else Ok (Some k)) (Ok None) → ⊥
    spent true k e = grind (arith, e)
    spent false k e = grind (arith, e)

    by : (o : Option RegionKey) → ◌≡◌ {A = Result (Option RegionKey) Refusal} (usable_key o) (Ok None) → ⊥
    by None e = grind (arith, e)
    by (Some k) e = spent (nat_le 32 k.uses) k e

-- ---- the state afterwards

outcome_leaves : (call : Call) (state : State) (outcome : Outcome) (is : IsAnswered state call outcome) → (key : Option RegionKey) → is.key ≡ key → outcome.1 ≡ after_use call.layer call.key is.done
outcome_leaves call state outcome is None same =
    let none : call.key ≡ None = asked_none call.key state call.layer (is.found ∙ ap Ok same) in
    ap (λ (o : Outcome). o.1) is.comes ∙ ap (λ (k : Option RegionKey). (answer_by call.layer k call.input is.action.answer state is.done).1) same
    ∙ ap (λ (a : Option ℕ). after_use call.layer a is.done) (sym none)
outcome_leaves call state outcome is (Some key) same =
    let asked = key_asked call.key (region_of state call.layer) key (is.found ∙ ap Ok same) in
    ap (λ (o : Outcome). o.1) is.comes ∙ ap (λ (k : Option RegionKey). (answer_by call.layer k call.input is.action.answer state is.done).1) same
    ∙ ap (λ (a : Option ℕ). after_use call.layer a is.done) (sym (asked.asked_is ∙ ap Some (sym asked.number_is)))

-- what a call leaves of a state
abbrev Leaves : State → Call → Option State → Type 0
Leaves state call next =
    (next ≡ Some state) ⊎ ((said : List ℕ) × (ran : RunsWith state call.layer call.input said) × (next ≡ Some (after_use call.layer call.key ran.done)))

comes_leaves : (here next : World) (call : Call) (answer : Reply) (state : State) → CallComes here call answer next → here.state ≡ Some state → Leaves state call next.state
unfolding ran_saying
comes_leaves here next call answer state (comes_to_answer level other outcome was running at answered follows) is =
    subst (λ (s : State). Leaves s call next.state) (same_Some other state (sym was ∙ is))
    (inr (at.is.action.answer, ran_saying call other outcome at.is at.is.action.answer refl, ap (λ (w : World). w.state) follows ∙ ap Some (outcome_leaves call other outcome at.is at.is.key refl)))
comes_leaves here next call answer state (comes_to_nothing number unanswered same) is = inl (ap (λ (w : World). w.state) same ∙ is)

pub calls_count_wholly : CallsCountWholly
calls_count_wholly here next layer key input answer state (machine_step told) is =
    comes_leaves here next (record { layer = layer; key = key; input = input }) answer state (told_comes here _ (running_state_in here) answer next refl told) is
calls_count_wholly here next layer key input answer state (lacks_memory p) is = inl (ap (λ (w : World). w.state) p.stays ∙ is)
calls_count_wholly here next layer key input answer state (loses_power p) is =
    let left : next.state ≡ p.state = ap (λ (w : World). w.state) p.follows in
    let call : Call = record { layer = layer; key = key; input = input } in
    elim (p.counts) [
      | inl before ↦ inl (left ∙ before ∙ is)
      | inr after ↦ subst (Leaves state call) (sym (left ∙ after))
          (comes_leaves here p.whole call p.told state (told_comes here call (running_state_in here) p.told p.whole refl p.machine) is)
    ]

-- ---- an answer without a key

-- it is what the code answered
record IsCalled (state : State) (call : Call) (said : List ℕ) (after : State) : Type 0 where
  unkeyed : call.key ≡ None
  ran : RunsWith state call.layer call.input said
  after_is : after ≡ ran.done

called_by : (call : Call) (said : List ℕ) (state : State) (outcome : Outcome) (is : IsAnswered state call outcome) → reply.Called said ≡ outcome.0 → (key : Option RegionKey) → is.key ≡ key → IsCalled state call said outcome.1
unfolding ran_saying
called_by call said state outcome is told None same =
    let comes : outcome ≡ (reply.Called is.action.answer, is.done) = is.comes ∙ ap (λ (k : Option RegionKey). answer_by call.layer k call.input is.action.answer state is.done) same in
    let answer : is.action.answer ≡ said = sym (called_same said is.action.answer (told ∙ ap (λ (o : Outcome). o.0) comes)) in
    record {
      unkeyed = asked_none call.key state call.layer (is.found ∙ ap Ok same);
      ran = ran_saying call state outcome is said answer;
      after_is = ap (λ (o : Outcome). o.1) comes;
    }
  where
    called_same : (a b : List ℕ) → reply.Called a ≡ reply.Called b → a ≡ b
    called_same a b e = cc
called_by call said state outcome is told (Some key) same =
    let clash : reply.Called said ≡ (answer_by call.layer (Some key) call.input is.action.answer state is.done).0 =
    told ∙ ap (λ (o : Outcome). o.0) is.comes ∙ ap (λ (k : Option RegionKey). (answer_by call.layer k call.input is.action.answer state is.done).0) same in
    absurd (grind (arith, clash))

called_comes : (here next : World) (call : Call) (said : List ℕ) (state : State) → here.state ≡ Some state → CallComes here call (reply.Called said) next
    → (after : State) × (next.state ≡ Some after) × IsCalled state call said after
called_comes here next call said state is (comes_to_answer level other outcome was running at answered follows) = (
  outcome.1,
  ap (λ (w : World). w.state) follows,
  subst (λ (s : State). IsCalled s call said outcome.1) (same_Some other state (sym was ∙ is)) (called_by call said other outcome at.is answered at.is.key refl),
)
called_comes here next call said state is (comes_to_nothing number refused same) = absurd (grind (arith, refused))

pub called_is_what_code_says : CalledIsWhatCodeSays
called_is_what_code_says here next layer key input said state (machine_step told) is =
    let comes = called_comes here next (record { layer = layer; key = key; input = input }) said state is (told_comes here _ (running_state_in here) (reply.Called said) next refl told) in
    (comes.2.unkeyed, (comes.2.ran, comes.1 ∙ ap Some comes.2.after_is))
called_is_what_code_says here next layer key input said state (lacks_memory p) is = let clash : reply.Called said ≡ reply.NoMemory = p.answered in absurd (grind (arith, clash))
called_is_what_code_says here next layer key input said state (loses_power p) is = let clash : reply.Called said ≡ reply.Stopped = p.answered in absurd (grind (arith, clash))

-- ---- an answer that a key signs

-- the layer's code ran in this state, and gave the answer that the statement has
pub record IsSignedCall (call : Call) (bytes : List ℕ) (state : State) : Type 0 where
  pub answer : List ℕ
  pub ran : RunsWith state call.layer call.input answer
  pub signature : List ℕ
  pub long : length signature ≡ 2348
  pub bytes_are : bytes ≡ statement_format.spelling (record { number = number_of (entries_of state.log); said = Answer (sha256 call.input) answer; signature = signature })

signed_by : (call : Call) (n index : ℕ) (bytes : List ℕ) (state : State) (outcome : Outcome) (is : IsAnswered state call outcome) → reply.Signed n index bytes ≡ outcome.0 → (key : Option RegionKey) → is.key ≡ key
    → IsSignedCall call bytes state
unfolding call_statement_of
signed_by call n index bytes state outcome is told None same =
    let clash : reply.Signed n index bytes ≡ reply.Called is.action.answer =
    told ∙ ap (λ (o : Outcome). o.0) is.comes ∙ ap (λ (k : Option RegionKey). (answer_by call.layer k call.input is.action.answer state is.done).0) same in
    absurd (grind (arith, clash))
signed_by call n index bytes state outcome is told (Some key) same =
    let says : reply.Signed n index bytes ≡ reply.Signed key.number key.uses (statement_format.spelling (call_statement_of state key call.input is.action.answer)) =
    told ∙ ap (λ (o : Outcome). o.0) is.comes ∙ ap (λ (k : Option RegionKey). (answer_by call.layer k call.input is.action.answer state is.done).0) same in
    record {
      answer = is.action.answer;
      ran = ran_saying call state outcome is is.action.answer refl;
      signature = _;
      long = length-signature_of key.seed key.uses _;
      bytes_are = bytes_same n key.number index key.uses bytes _ says;
    }
  where
    bytes_same : (a b c d : ℕ) (s t : List ℕ) → reply.Signed a c s ≡ reply.Signed b d t → s ≡ t
    bytes_same a b c d s t e = cc

comes_signed : (here next : World) (call : Call) (n index : ℕ) (bytes : List ℕ) (wanted : State) → here.state ≡ Some wanted → CallComes here call (reply.Signed n index bytes) next → IsSignedCall call bytes wanted
comes_signed here next call n index bytes wanted is (comes_to_answer level state outcome was running at answered follows) =
    subst (IsSignedCall call bytes) (same_Some state wanted (sym was ∙ is)) (signed_by call n index bytes state outcome at.is answered at.is.key refl)
comes_signed here next call n index bytes wanted is (comes_to_nothing number refused same) = absurd (grind (arith, refused))

pub step_signed : (here next : World) (layer : ℕ) (key : Option ℕ) (input : List ℕ) (n index : ℕ) (bytes : List ℕ) (state : State) → here.state ≡ Some state
    → Step here (event.Call layer key input) (reply.Signed n index bytes) next → IsSignedCall (record { layer = layer; key = key; input = input }) bytes state
step_signed here next layer key input n index bytes state is (machine_step told) =
    comes_signed here next _ n index bytes state is (told_comes here _ (running_state_in here) (reply.Signed n index bytes) next refl told)
step_signed here next layer key input n index bytes state is (lacks_memory p) = let clash : reply.Signed n index bytes ≡ reply.NoMemory = p.answered in absurd (grind (arith, clash))
step_signed here next layer key input n index bytes state is (loses_power p) = let clash : reply.Signed n index bytes ≡ reply.Stopped = p.answered in absurd (grind (arith, clash))
