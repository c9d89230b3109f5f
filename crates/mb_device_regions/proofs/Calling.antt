-- What a call promises, by what its parts promise.
use Rattle.std.proofs.Common.{◌≡◌, ◌<◌, ◌≤◌, ℕ, List, length, true, false, Option, None, Some, Ok, Err, inl, inr, refl, sym, ap, subst, ◌∙◌, arith, true≢false, length-take}
use Rattle.std.specs.Prelude.{Result, AllPairs, find}
use Rattle.mb_area.specs.Flashes.{CanBeNamed}
use Rattle.mb_board.specs.Calls.{Seen, IsUp}
use Rattle.mb_layout.specs.declared.room.Room.{Room}
use Rattle.mb_layout.specs.Plans.{SamePlans}
use Rattle.mb_model.specs.application.Runs.{readable_secrets}
use Rattle.mb_model.specs.declared.layer.Layers.{Layers}
use Rattle.mb_model.specs.declared.region.Region.{Region}
use Rattle.mb_model.specs.declared.region.RegionKey.{RegionKey}
use Rattle.mb_model.specs.declared.reply.Refusal.{Refusal}
use Rattle.mb_model.specs.declared.reply.Reply.{Reply}
use Rattle.mb_model.specs.declared.reply.Reply.TheVariants as reply
use Rattle.mb_model.specs.declared.state.State.{State}
use Rattle.mb_model.specs.declared.stored.Slot.{Slot}
use Rattle.mb_model.specs.machine.Calls.{Call, key_for, answer_by, WithCode}
use Rattle.mb_model.specs.machine.LayerEvents.{Outcome, code_in, has_number}
use Rattle.mb_model.specs.machine.Machine.{may_be_cut}
use Rattle.mb_model.specs.machine.Refusals.{refusal_reply}
use Rattle.mb_model.specs.memories.Flash.{code_slot, HoldsCode}
use Rattle.mb_model.specs.outside.Board.{Memory}
use Rattle.mb_model.specs.owners.Layers.{Runnable}
use Rattle.mb_model.specs.owners.Log.{entries_of}
use Rattle.mb_model.specs.owners.Regions.{region_of, with_region}
use Rattle.mb_model_lemmas.proofs.FateLemmas.{keys_increase}
use Rattle.mb_model_lemmas.proofs.ValidStates.{valid_is_ruled}
use Rattle.mb_model_memory.specs.Answering.{lacks, tells, ComesTo}
use Rattle.mb_model_memory.specs.Holding.{IsReady}
use Rattle.mb_outbound.specs.Binding.{AreKeysInOrder}
use Rattle.mb_region.specs.Regions.{IsRegionSlot}
use Rattle.mb_device_orders.specs.declared.remembering.Known.{Known}
use Rattle.mb_device_orders.specs.declared.remembering.Running.{Running}
use Rattle.mb_device_orders.specs.Remembering.{Knows, KnowsCode, slot_known}
use Rattle.mb_device_regions.specs.declared.acting.Acted.{Acted}
use Rattle.mb_device_regions.specs.Calls.{CallComesTo, answers_call, CallsIn, HasCallSignerOf, IsActedIn, FinishesCall}
use Rattle.mb_device_regions.specs.Runs.{AreSeen, HasActed, ActsOn}
use Rattle.mb_device_regions.proofs.Called.{call_of, IsCalled, seen_in, run_acted, acted_valid}
use Rattle.mb_device_regions.proofs.Demanded.{born_in}
use Rattle.mb_device_regions.proofs.Promised.{plans_then}
use Rattle.mb_device_regions.proofs.Finished.{signer_found}
use Rattle.mb_device_regions.proofs.Readied.{region_valid}

-- ---- where the code stands

pub code_held : (layer : ℕ) → IsRegionSlot layer → (known : Known) (flash : List ℕ) (state : State) (code : List ℕ) → KnowsCode known flash state → code_in state.codes layer ≡ Some code
    → HoldsCode flash layer (slot_known known layer) (Some code)
code_held layer (inl same) known flash state code codes is =
    subst (λ (n : ℕ). HoldsCode flash n (slot_known known n) (Some code)) (sym same)
    (subst (λ (c : Option (List ℕ)). HoldsCode flash 2 known.two c) (subst (λ (n : ℕ). code_in state.codes n ≡ Some code) same is) codes.two)
code_held layer (inr same) known flash state code codes is =
    subst (λ (n : ℕ). HoldsCode flash n (slot_known known n) (Some code)) (sym same)
    (subst (λ (c : Option (List ℕ)). HoldsCode flash 3 known.three c) (subst (λ (n : ℕ). code_in state.codes n ≡ Some code) same is) codes.three)

pub slot_named : (layer : ℕ) → IsRegionSlot layer → (known : Known) (flash : List ℕ) (state : State) → KnowsCode known flash state → CanBeNamed (slot_known known layer)
slot_named layer (inl same) known flash state codes = subst (λ (n : ℕ). CanBeNamed (slot_known known n)) (sym same) codes.two_named
slot_named layer (inr same) known flash state codes = subst (λ (n : ℕ). CanBeNamed (slot_known known n)) (sym same) codes.three_named

held_short : (flash : List ℕ) (layer : ℕ) (slot : Slot) (code : List ℕ) → HoldsCode flash layer slot (Some code) → slot.length ≤ 32768 → length code ≤ 32768
held_short flash layer slot code held short = omega (arith, ap length held.1, length-take slot.length (code_slot flash layer slot.which), short)

pub code_short : (layer : ℕ) → IsRegionSlot layer → (known : Known) (flash : List ℕ) (state : State) (code : List ℕ) → KnowsCode known flash state → code_in state.codes layer ≡ Some code → length code ≤ 32768
code_short layer which known flash state code codes is =
    held_short flash layer (slot_known known layer) code (code_held layer which known flash state code codes is) (slot_named layer which known flash state codes).short

-- ---- answers

-- a call that has an outcome comes to what the outcome does
pub comes_with : {S E : Type 0} (result : Result (S × Reply) E) (state : State) (call : Call) (outcome : Outcome) (before after : Memory) → WithCode state call (code_in state.codes call.layer) outcome
    → ComesTo state outcome before after result → CallComesTo state call before after result
comes_with (Ok told) state call outcome before after with (lacks none same) = inl (none, same)
comes_with (Ok told) state call outcome before after with (tells is ready) = inr (outcome, with, is, ready)
comes_with (Err stop) state call outcome before after with cut = (outcome, with, cut)

refused_is_idle : (answer : Reply) (refusal : Refusal) → answer ≡ refusal_reply refusal → answers_call answer ≡ true → ⊥
refused_is_idle answer refusal is answers = true≢false (sym answers ∙ ap answers_call is)

-- a reply that a key has signed is one to an event that writes
pub signed_writes : (answer : Reply) (key index : ℕ) (statement : List ℕ) → answer ≡ reply.Signed key index statement → may_be_cut answer ≡ false → ⊥
signed_writes answer key index statement is uncut = true≢false (sym (ap may_be_cut is) ∙ uncut)

-- a call that is refused
pub calls_refused : {S E : Type 0} (L level : ℕ) (key : Option ℕ) (input : List ℕ) (running running_after : Running) (handed : S) (answer : Reply) (seen : Seen) (refusal : Refusal) → IsUp level seen → running_after.known ≡ running.known
    → SamePlans running.room running_after.room → answer ≡ refusal_reply refusal
    → ((state : State) → IsReady seen.memory state → Runnable state.layers L → Knows running.known state → KnowsCode running.known seen.memory.flash state
    → WithCode state (call_of L key input) (code_in state.codes L) (refusal_reply refusal, state))
    → CallsIn L key input running running_after {S = S} {E = E} (Ok (handed, answer)) seen seen
calls_refused L level key input running running_after handed answer seen refusal up same plans is told = record {
  told = λ state ready runs knows codes. inr ((refusal_reply refusal, state), told state ready runs knows codes, is, ready);
  even = λ state ready answers. absurd (refused_is_idle answer refusal is answers);
  writes = λ uncut. (refl, refl);
  known = λ state ready knows. rw same knows;
  codes = λ state codes. rw same codes;
  ran = record {
    ran = record { power = up.on; level = refl; sized = up.loaded; ledger = refl; meter = record { armed = refl; stops = refl; writes = omega arith; cut = tt } };
    flash = refl;
  };
  plans = plans;
}

-- ---- the key

pub ordered_keys : (L : ℕ) (memory : Memory) (state : State) → IsRegionSlot L → IsReady memory state → AreKeysInOrder (region_of state L)
ordered_keys L memory state which ready = keys_increase (entries_of state.log) L (region_of state L).keys (valid_is_ruled state ready.valid) (region_valid L state which ready.valid).keys

pub has_signer : (L : ℕ) (key : Option ℕ) (acted : Acted) (memory : Memory) (region : Region) (signer : Option RegionKey) → key_for key region ≡ Ok signer
    → ((state : State) → IsReady memory state → region ≡ region_of state L) → AreKeysInOrder region → acted.region.keys ≡ region.keys → HasCallSignerOf L key acted memory
has_signer L None acted memory region signer found stored ordered keys = tt
has_signer L (Some number) acted memory region signer found stored ordered keys =
    let signs = signer_found region number signer found in
    record {
      keys = λ state ready. keys ∙ ap (λ (r : Region). r.keys) (stored state ready);
      ordered = subst (λ (ks : List RegionKey). AllPairs (λ a b. a.number < b.number) ks) (sym keys) ordered;
      can_sign = (
        signs.key,
        record {
          found = subst (λ (ks : List RegionKey). find (has_number number) ks ≡ Some signs.key) (sym keys) signs.has_use.found;
          left = signs.has_use.left;
        },
      );
    }

-- ---- once the code has run

-- what came of the run, in the state
pub acts_in : (L layer : ℕ) (called bytes input : List ℕ) (own : Region) (above : Option Region) (known : Known) (state : State) (result : Option Acted) → layer ≡ L → called ≡ bytes → own ≡ region_of state L
    → known.figures.layers ≡ state.layers → known.figures.number ≡ born_in state → AreSeen L (region_of state L) above state.two state.three
    → ((two three : Region) → AreSeen layer own above two three → ActsOn called input (readable_secrets known.figures.layers layer two three) known.figures.number own result)
    → ActsOn bytes input (seen_in state L) (born_in state) (region_of state L) result
acts_in L layer called bytes input own above known state result same code_is own_is layers_are number_is seen acts =
    let here = acts state.two state.three
    (subst (λ (n : ℕ). AreSeen n own above state.two state.three) (sym same) (subst (λ (r : Region). AreSeen L r above state.two state.three) (sym own_is) seen)) in
    subst (λ (n : ℕ). ActsOn bytes input (seen_in state L) n (region_of state L) result) number_is
    (subst (λ (n : ℕ). ActsOn bytes input (seen_in state n) known.figures.number (region_of state L) result) same
    (subst (λ (l : Layers). ActsOn bytes input (readable_secrets l layer state.two state.three) known.figures.number (region_of state L) result) layers_are
    (subst (λ (r : Region). ActsOn bytes input (readable_secrets known.figures.layers layer state.two state.three) known.figures.number r result) own_is
    (subst (λ (xs : List ℕ). ActsOn xs input (readable_secrets known.figures.layers layer state.two state.three) known.figures.number own result) code_is here))))

-- the figures of a state that is remembered
pub known_layers : (known same : Known) (memory : Memory) (state : State) → same ≡ known → Knows known state → IsReady memory state → same.figures.layers ≡ state.layers
known_layers known same memory state is knows ready = ap (λ (k : Known). k.figures.layers) is ∙ ap (λ f. f.layers) knows.figures ∙ sym ready.valid.layers

pub known_number : (known same : Known) (state : State) → same ≡ known → Knows known state → same.figures.number ≡ born_in state
known_number known same state is knows = ap (λ (k : Known). k.figures.number) is ∙ ap (λ f. f.number) knows.figures

-- what code asked for can be done in the state, and is what the call comes to
pub record CanFinish (L : ℕ) (key : Option ℕ) (input : List ℕ) (acted : Acted) (state : State) : Type 0 where
  pub signer : Option RegionKey
  pub acted_in : IsActedIn L acted state
  pub found : key_for key (region_of state L) ≡ Ok signer
  pub with : WithCode state (call_of L key input) (code_in state.codes L) (answer_by L signer input acted.answer state (with_region state L acted.region))

pub can_finish : (L : ℕ) (key : Option ℕ) (input : List ℕ) (acted : Acted) (signer : Option RegionKey) (memory : Memory) (state : State) → IsRegionSlot L → IsReady memory state → Runnable state.layers L
    → (is : IsCalled (code_in state.codes L)) → key_for key (region_of state L) ≡ Ok signer → HasActed is.bytes input (seen_in state L) (born_in state) (region_of state L) acted → CanFinish L key input acted state
can_finish L key input acted signer memory state which ready runs is found has = record {
  signer = signer;
  acted_in = record { keys = has.is.keys; valid = acted_valid state L (born_in state) has.output acted which refl has.is runs ready.valid };
  found = found;
  with = run_acted state (call_of L key input) (code_in state.codes L) signer (born_in state) acted which is found refl has;
}

-- a call of which all is done
pub calls_finished : {S E : Type 0} (L : ℕ) (key : Option ℕ) (input : List ℕ) (acted : Acted) (running opened running_after : Running) (result : Result (S × Reply) E) (before after : Seen) → opened.known ≡ running.known
    → SamePlans running.room opened.room → FinishesCall L key input acted opened running_after result before after
    → ((state : State) → IsReady before.memory state → acted.region.keys ≡ (region_of state L).keys)
    → ((state : State) → IsReady before.memory state → Runnable state.layers L → Knows running.known state → KnowsCode running.known before.memory.flash state → CanFinish L key input acted state)
    → CallsIn L key input running running_after result before after
calls_finished L key input acted running opened running_after result before after same plans finishes keys can = record {
  told = λ state ready runs knows codes. (
      let finish = can state ready runs knows codes in
      comes_with result state (call_of L key input) _ before.memory after.memory finish.with
      (finishes.told state finish.signer ready runs (subst (λ (k : Known). Knows k state) (sym same) knows) finish.acted_in finish.found));
  even = finishes.even;
  writes = finishes.writes;
  known = λ state ready knows. finishes.known state ready (subst (λ (k : Known). Knows k state) (sym same) knows) (keys state ready);
  codes = λ state codes. finishes.codes state (subst (λ (k : Known). KnowsCode k before.memory.flash state) (sym same) codes);
  ran = finishes.ran;
  plans = plans_then plans finishes.plans;
}

pub same_plans : (room : Room) → SamePlans room room
same_plans room = record { code = refl; code_layer = refl; header = refl; log = refl }
