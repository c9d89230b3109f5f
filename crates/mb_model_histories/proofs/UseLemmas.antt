-- A device in use: it is born, layer 2 gets an owner, code and a key, and the key signs a message.
use Rattle.std.proofs.Common.{◌≡◌, ◌<◌, ◌≤◌, ℕ, List, [], ◌∷◌, ◌++◌, length, Option, Some, Bool, true, false, refl, sym, ap, ◌∙◌, subst, arith}
use Rattle.std.specs.Prelude.{All, Contains, IsTrue, is_some, if◌then◌else◌}
use Rattle.std.proofs.lemmas.List.Elements.{All-nil, All-cons, All-append, Contains-append_right}
use Rattle.std.proofs.lemmas.Option.{same_Some}
use Rattle.mb_model.specs.declared.entry.Chain.{Chain}
use Rattle.mb_model.specs.declared.entry.Said.{Said}
use Rattle.mb_model.specs.declared.entry.Said.TheVariants.{Message, Answer}
use Rattle.mb_model.specs.declared.entry.Statement.{Statement}
use Rattle.mb_model.specs.declared.event.Answered.{Answered}
use Rattle.mb_model.specs.declared.event.Event.{Event}
use Rattle.mb_model.specs.declared.event.Event.TheVariants as event
use Rattle.mb_model.specs.declared.key.PublicKey.{PublicKey}
use Rattle.mb_model.specs.declared.key.Trust.TheVariants.{Always}
use Rattle.mb_model.specs.declared.layer.Layer.{Layer}
use Rattle.mb_model.specs.declared.layer.Layers.{Layers}
use Rattle.mb_model.specs.declared.order.Act.TheVariants as act
use Rattle.mb_model.specs.declared.order.KeyKind.TheVariants.{Epoch}
use Rattle.mb_model.specs.declared.order.Order.{Order}
use Rattle.mb_model.specs.declared.order.Payload.{Payload}
use Rattle.mb_model.specs.declared.region.Region.{Region}
use Rattle.mb_model.specs.declared.region.RegionKey.{RegionKey}
use Rattle.mb_model.specs.declared.reply.Reply.{Reply}
use Rattle.mb_model.specs.declared.reply.Reply.TheVariants as reply
use Rattle.mb_model.specs.declared.state.Codes.{Codes}
use Rattle.mb_model.specs.declared.state.State.{State}
use Rattle.mb_model.specs.declared.tools.Keyfile.{Keyfile}
use Rattle.mb_model.specs.chains.Acceptance.{IsBornOf, report_of, Honest}
use Rattle.mb_model.specs.records.ChainFormat.{said_format, statement_format, chain_format}
use Rattle.mb_model.specs.records.EntryFormat.{key_kind_format}
use Rattle.mb_model.specs.memories.Factory.{state_at_birth, IsFactoryImage}
use Rattle.mb_model.specs.machine.LayerEvents.{takes_calls}
use Rattle.mb_model.specs.owners.Layers.{equal_trusts, layer_of, is_runnable, IsLayers, Runnable}
use Rattle.mb_model.specs.owners.Log.{entries_of, number_of, layers_of, serial_of}
use Rattle.mb_model.specs.machine.Machine.{World, opening_world, Step}
use Rattle.mb_model.specs.machine.OrderChecks.{view_of, needs_succession}
use Rattle.mb_model.specs.machine.OrderEffects.{key_made, state_after_succession, state_after_change, state_after_new_key, state_after_order, ready_for}
use Rattle.mb_model.specs.owners.Regions.{empty_region, region_of}
use Rattle.mb_model.specs.chains.Script.{IsScriptEvent}
use Rattle.mb_model.specs.machine.SignedOrders.{keyfile_after_use}
use Rattle.mb_model.specs.machine.SignedTexts.{said_text}
use Rattle.mb_model.specs.signatures.Signing.{public_of, signature_of}
use Rattle.mb_model.specs.memories.Valid.{IsValidState, Valid}
use Rattle.mb_model_lemmas.proofs.AttachLemmas.{statement_allowed}
use Rattle.mb_model_lemmas.proofs.FactoryLemmas.{birth_is_valid}
use Rattle.mb_model_lemmas.proofs.RuleLemmas.{ruled_are_layers}
use Rattle.mb_model_lemmas.proofs.SignatureLemmas.{public_sized, length-signature_of}
use Rattle.mb_model_lemmas.proofs.ValidStates.{valid_is_ruled}
use Rattle.mb_model_lemmas.proofs.ListLemmas.{All-front, All-back}
use Rattle.mb_model_memory.proofs.StorableChains.{bare_allowed}
use Rattle.mb_model_memory.proofs.StorableOrders.{number_small}
use Rattle.mb_model_memory.proofs.StorableSteps.{run_keeps_storable}
use Rattle.mb_model_memory.specs.Storable.{Storable, IsStorableState}
use Rattle.mb_model_runs.specs.StatementLaws.{statement_saying, AsksFor, key_entry_of}
use Rattle.mb_model_runs.proofs.BirthLemmas.{log_is_good}
use Rattle.mb_model_runs.proofs.StatementLemmas.{some_log}
use Rattle.mb_model_histories.specs.AcceptanceLaws.{HonestStatement, whole_chain}
use Rattle.mb_model_histories.specs.Histories.{History, all_answered, ComesAfter, in_this_run, in_a_later_run}
use Rattle.mb_model_histories.specs.NoiseLaws.{no_key}
use Rattle.mb_model_histories.specs.ObeyedOrders.{IsOpen}
use Rattle.mb_model_histories.specs.PowerLaws.{power_off}
use Rattle.mb_model_histories.specs.RepairLaws.{CanBeGiven, plain_order, power_on, answered_done}
use Rattle.mb_model_histories.specs.UseLaws.{Beginning, CanBegin, state_begun, ComesToKey, KeysCanBeMade, ShowsStatement, StatementsCanBeMade}
use Rattle.mb_model_histories.proofs.AgreementLemmas.{smooth_is_run}
use Rattle.mb_model_histories.proofs.BornLemmas.{birth_storable, born_of_their_maker}
use Rattle.mb_model_histories.proofs.ElsewhereLemmas.{key_named, statement_current, log_is_honest}
use Rattle.mb_model_histories.proofs.HistoryLemmas.{histories_stay_valid}
use Rattle.mb_model_histories.proofs.ObeyedLemmas.{ordered_few}
use Rattle.mb_model_histories.proofs.OwnerLemmas.{owner_of_layer_one_stays}
use Rattle.mb_model_histories.proofs.RepairLemmas.{ActAllowed, can_be_given_with, two_or_one, layers_can_be_given, layers_can_be_recovered}
use Rattle.mb_model_histories.proofs.ReplayLemmas.{signed_state, running_world, boot_step, say_step}
use Rattle.mb_model_histories.proofs.StepLemmas.{Keeps, keeps, obeys, step_comes}

-- ---- one order a run

-- the run in which an order is given
order_run : State → Order → List ℕ → List Answered
order_run state order draw = power_off ∷ power_on ∷ answered_done state order draw ∷ []

abbrev IsOfScript : Answered → Type 0
IsOfScript this = IsScriptEvent this.event

order_scripted : (state : State) (order : Order) (draw : List ℕ) → length draw ≡ 32 → All IsOfScript (order_run state order draw)
unfolding order_run
order_scripted state order draw sized =
    let told : Answered = answered_done state order draw in
    All-cons IsOfScript power_off (power_on ∷ told ∷ []) tt (All-cons IsOfScript power_on (told ∷ []) tt (All-cons IsOfScript (answered_done state order draw) [] sized (All-nil IsOfScript)))

-- a history that begins with an order
given_first : (state : State) (order : Order) (draw : List ℕ) (runs : List (List Answered)) (last : Option State) → CanBeGiven (opening_world (Some state)) state order draw
    → History (Some (state_after_order state order draw)) runs last → History (Some state) (order_run state order draw ∷ runs) last
unfolding order_run
given_first state order draw runs last can later =
    (can.last, smooth_is_run (opening_world (Some state)) can.last (order_run state order draw) can.run, subst (λ (o : Option State). History o runs last) (sym can.is) later)

module _ (state : State) (order : Order) (draw : List ℕ) (valid : IsValidState state) (can : CanBeGiven (opening_world (Some state)) state order draw) where
  one_order : History (Some state) (order_run state order draw ∷ []) (Some (state_after_order state order draw))
  one_order = given_first state order draw [] (Some (state_after_order state order draw)) can refl

  next_valid : IsValidState (state_after_order state order draw)
  next_valid = histories_stay_valid (Some state) (Some (state_after_order state order draw)) (order_run state order draw ∷ []) valid one_order

  -- the owner of layer 1 is as before
  next_first : (state_after_order state order draw).layers.one.owner ≡ state.layers.one.owner
  unfolding order_run
  next_first = owner_of_layer_one_stays (opening_world (Some state)) can.last state (state_after_order state order draw) valid
      (in_this_run (order_run state order draw) (smooth_is_run (opening_world (Some state)) can.last (order_run state order draw) can.run)) refl can.is

-- ---- what the orders leave

-- an emergency empties the region of its layer
emergency_empties : (state : State) (keyfile : Keyfile) (payload : Payload) (draw : List ℕ) → (state_after_order state (plain_order keyfile 2 (act.Emergency payload)) draw).two ≡ empty_region
unfolding state_after_order state_after_change
emergency_empties state keyfile payload draw = refl

-- and its code is the payload's
emergency_stores : (state : State) (keyfile : Keyfile) (payload : Payload) (draw : List ℕ) → (state_after_order state (plain_order keyfile 2 (act.Emergency payload)) draw).codes.two ≡ Some payload.code
unfolding state_after_order state_after_change
emergency_stores state keyfile payload draw = refl

module _ (state : State) (keyfile : Keyfile) (draw : List ℕ) where
  abbrev making : Order
  making = plain_order keyfile 2 (act.NewKey Epoch)

  -- the key that the order makes
  abbrev new_key : RegionKey
  new_key = key_made (view_of (ready_for state making draw)) Epoch draw

  ready_codes : (b : Bool) → (if b then state_after_succession state draw else state).codes ≡ state.codes
  unfolding state_after_succession
  ready_codes true = refl
  ready_codes false = refl

  codes_stay : (state_after_order state making draw).codes ≡ state.codes
  unfolding state_after_order state_after_new_key
  codes_stay = ready_codes (needs_succession (view_of state) making)

  key_within : Contains (region_of (state_after_order state making draw) 2).keys new_key
  unfolding state_after_order state_after_new_key
  key_within = Contains-append_right (region_of (ready_for state making draw) 2).keys (new_key ∷ []) new_key (0, omega arith, refl)

  ready_stays : (b : Bool) → (if b then state_after_succession state draw else state).layers ≡ state.layers
  unfolding state_after_succession
  ready_stays true = refl
  ready_stays false = refl

  layers_stay : (state_after_order state making draw).layers ≡ state.layers
  unfolding state_after_order state_after_new_key
  layers_stay = ready_stays (needs_succession (view_of state) making)

new_key_allowed : ActAllowed 2 (act.NewKey Epoch)
unfolding key_kind_format
new_key_allowed = record { layered = (omega arith, omega arith); spelled = tt }

-- layer 1 of a valid state is reliable
one_reliable : (state : State) → IsValidState state → IsTrue state.layers.one.reliable
one_reliable state valid =
    let are : IsLayers (layers_of (entries_of state.log)) = ruled_are_layers (entries_of state.log) (valid_is_ruled state valid) (some_log state valid) in
    subst (λ (layers : Layers). IsTrue layers.one.reliable) (sym valid.layers) are.reliable

two_runs : (layers : Layers) → IsTrue layers.one.reliable → layers.two.reliable ≡ true → is_runnable layers 2 ≡ true
two_runs layers one two = grind (arith, one, two)

-- ---- the history

module _ (its : Beginning) (can : CanBegin its) where
  born : State
  born = state_begun its

  born_is_valid : IsValidState born
  unfolding born
  born_is_valid = birth_is_valid its.maker its.index (public_of its.first.seed) its.code its.noise

  abbrev giving : Order
  giving = plain_order its.first 2 (act.Establish (public_of its.second.seed) (equal_trusts Always))

  -- layer 2 gets an owner
  first_given : CanBeGiven (opening_world (Some born)) born giving its.draw
  unfolding born state_at_birth
  first_given = layers_can_be_given (opening_world (Some born)) born 2 its.first (public_of its.second.seed) (equal_trusts Always) its.draw refl refl refl
      (record { owns = refl; left = omega (arith, can.first) }) (public_sized its.second.seed can.sized) (omega arith)

  owned : State
  owned = state_after_order born giving its.draw

  owned_is_valid : IsValidState owned
  unfolding owned
  owned_is_valid = next_valid born giving its.draw born_is_valid first_given

  owned_length : length owned.log ≤ 3
  unfolding owned born state_at_birth
  owned_length = ordered_few born giving its.draw

  owned_first : owned.layers.one.owner ≡ Some (public_of its.first.seed)
  unfolding owned born state_at_birth
  owned_first = next_first born giving its.draw born_is_valid first_given

  owned_second : owned.layers.two.owner ≡ Some (public_of its.second.seed)
  unfolding owned
  owned_second = ap (λ (l : Layer). l.owner) first_given.becomes

  abbrev loading : Order
  loading = plain_order (keyfile_after_use its.first) 2 (act.Emergency its.payload)

  -- and code
  second_given : CanBeGiven (opening_world (Some owned)) owned loading its.draw
  second_given = layers_can_be_recovered (opening_world (Some owned)) owned 2 (keyfile_after_use its.first) its.payload its.draw refl refl
      (ap is_some owned_second) (record { owns = owned_first; left = can.first }) can.payload (omega (arith, owned_length))

  loaded : State
  loaded = state_after_order owned loading its.draw

  loaded_is_valid : IsValidState loaded
  unfolding loaded
  loaded_is_valid = next_valid owned loading its.draw owned_is_valid second_given

  loaded_length : length loaded.log ≤ 5
  unfolding loaded
  loaded_length = omega (arith, ordered_few owned loading its.draw, owned_length)

  loaded_second : loaded.layers.two.owner ≡ Some (public_of its.second.seed)
  unfolding loaded
  loaded_second = ap (λ (l : Layer). l.owner) second_given.becomes ∙ owned_second

  loaded_runs : is_runnable loaded.layers 2 ≡ true
  unfolding loaded
  loaded_runs = two_runs loaded.layers (one_reliable loaded loaded_is_valid) (ap (λ (l : Layer). l.reliable) second_given.becomes)

  no_keys : length loaded.two.keys ≡ 0
  unfolding loaded
  no_keys = ap (λ (r : Region). length r.keys) (emergency_empties owned (keyfile_after_use its.first) its.payload its.draw)

  -- and a key
  third_given : CanBeGiven (opening_world (Some loaded)) loaded (making loaded its.second its.draw) its.draw
  third_given = can_be_given_with (opening_world (Some loaded)) loaded its.second 2 (act.NewKey Epoch) its.draw refl new_key_allowed loaded_runs
      (record { owns = loaded_second; left = can.second })
      (omega (arith, two_or_one (needs_succession (view_of loaded) (making loaded its.second its.draw)), loaded_length)) (omega (arith, no_keys))
      (ap (λ (layers : Layers). layer_of layers 2) (layers_stay loaded its.second its.draw))

  keyed : State
  keyed = state_after_order loaded (making loaded its.second its.draw) its.draw

  keyed_stored : keyed.codes.two ≡ Some its.payload.code
  unfolding keyed loaded
  keyed_stored = ap (λ (codes : Codes). codes.two) (codes_stay loaded its.second its.draw) ∙ emergency_stores owned (keyfile_after_use its.first) its.payload its.draw

  comes_to_key : ComesToKey (Some born) its.payload.code keyed (new_key loaded its.second its.draw)
  unfolding keyed owned loaded
  comes_to_key =
      let first : List Answered = order_run born giving its.draw in
      let second : List Answered = order_run owned loading its.draw in
      let third : List Answered = order_run loaded (making loaded its.second its.draw) its.draw in
      record {
        runs = first ∷ second ∷ third ∷ [];
        history = given_first born giving its.draw (second ∷ third ∷ []) (Some keyed) first_given
            (given_first owned loading its.draw (third ∷ []) (Some keyed) second_given (one_order loaded (making loaded its.second its.draw) its.draw loaded_is_valid third_given));
        scripts = All-append IsOfScript first (second ++ (third ++ [])) (order_scripted born giving its.draw can.draw)
            (All-append IsOfScript second (third ++ []) (order_scripted owned loading its.draw can.draw)
            (All-append IsOfScript third [] (order_scripted loaded (making loaded its.second its.draw) its.draw can.draw) (All-nil IsOfScript)));
        within = key_within loaded its.second its.draw;
        unused = refl;
        may_run = subst (λ (layers : Layers). Runnable layers 2) (sym (layers_stay loaded its.second its.draw)) loaded_runs;
        stored = keyed_stored;
      }

pub keys_can_be_made : KeysCanBeMade
unfolding born
keys_can_be_made its can = (keyed its can, new_key (loaded its can) its.second its.draw, comes_to_key its can)

-- ---- the statement

-- what a history leads to comes after its start
comes_on : (first : Option State) (runs : List (List Answered)) (state : Option State) (there : World) → History first runs state → ComesAfter there (opening_world state) → ComesAfter there (opening_world first)
comes_on first [] state there history after = subst (λ (o : Option State). ComesAfter there (opening_world o)) history after
comes_on first (run ∷ runs) state there history after = in_a_later_run run history.0 history.1 (comes_on history.0.state runs state there history.2 after)

-- a history by events of scripts leads from what can be stored to what can be stored
stays_storable : (first last : Option State) (runs : List (List Answered)) → All IsOfScript (all_answered runs) → Valid first → Storable first → History first runs last → Storable last
stays_storable first last [] scripts valid stored history = subst Storable (sym history) stored
stays_storable first last (run ∷ runs) scripts valid stored history =
    let now : All IsOfScript run = All-front IsOfScript run (all_answered runs) scripts in
    stays_storable history.0.state last runs (All-back IsOfScript run (all_answered runs) scripts)
    (histories_stay_valid first history.0.state (run ∷ []) valid (history.0, history.1, refl))
    (run_keeps_storable (opening_world first) run history.0 now valid stored history.1) history.2

saying_allowed : (state : State) (key : RegionKey) (said : Said) → IsStorableState state → said_format.Allowed said → statement_format.Allowed (statement_saying state key said)
unfolding statement_saying statement_format
saying_allowed state key said stored fits = (number_small state stored, (fits, length-signature_of key.seed key.uses (said_text state.serial key.number (number_of (entries_of state.log)) said)))

chain_allowed : (state : State) (key : RegionKey) (said : Said) → IsValidState state → IsStorableState state → said_format.Allowed said
    → chain_format.Allowed (whole_chain state.log (statement_saying state key said))
unfolding chain_format
chain_allowed state key said valid stored fits =
    let bare = bare_allowed state valid stored in
    (tt, (bare.1.0, (tt, saying_allowed state key said stored fits)))

-- an event that asks for a statement is no order
asked_no_order : (this : Event) (layer n : ℕ) (said : Said) (text draw : List ℕ) → AsksFor this layer n said → this ≡ event.Order text draw → ⊥
asked_no_order this layer n (Message message) text draw asked is = absurd (grind (arith, sym asked ∙ is))
asked_no_order this layer n (Answer hash answer) text draw asked is = absurd (grind (arith, sym asked.1 ∙ is))

-- it leaves the log
log_stays : (here : World) (this : Event) (layer n : ℕ) (said : Said) (answer : Reply) (before after : State) → AsksFor this layer n said → Step here this answer (running_world after) → here.state ≡ Some before
    → after.log ≡ before.log
log_stays here this layer n said answer before after asked step was =
    elim (step_comes here this answer (running_world after) step) [
      | keeps kept undone ↦ ap (λ (s : State). s.log) (subst (λ (o : Option State). Keeps o (Some after)) was kept)
      | obeys order by ↦ absurd (asked_no_order this layer n said by.text by.draw asked by.given)
    ]

-- where a key of layer 2 says this, while layer 1 is in control, that is shown
module _ (maker : PublicKey) (first : World) (state after : State) (key : RegionKey) (said : Said) (this : Event) (valid : IsValidState state) (within : Contains (region_of state 2).keys key) (few : key.uses < 32)
    (stored : IsStorableState state) (fits : said_format.Allowed said) (bears : IsBornOf maker state.log) (comes : (there : World) → ComesAfter there (opening_world (Some state)) → ComesAfter there first)
    (asked : AsksFor this 2 key.number said)
    (signing : Step (running_world state) this (reply.Signed key.number key.uses (statement_format.spelling (statement_saying state key said))) (running_world after)) where
  abbrev here : World
  here = running_world state

  abbrev there : World
  there = running_world after

  same_log : after.log ≡ state.log
  same_log = log_stays here this 2 key.number said _ state after asked signing refl

  abbrev statement : Statement
  statement = statement_saying state key said

  abbrev chain : Chain
  chain = whole_chain state.log statement

  signs_it : HonestStatement first there (entries_of after.log) key.number statement
  unfolding statement_saying
  signs_it made serial named serial_is verifies =
      let serial_in : serial_of (entries_of state.log) ≡ Some serial = subst (λ log. serial_of (entries_of log) ≡ Some serial) same_log serial_is in
      let same : serial ≡ state.serial = same_Some serial state.serial (sym serial_in ∙ valid.serial) in
      record {
        here = here;
        after = there;
        state = state;
        event = this;
        layer = 2;
        index = key.uses;
        said = said;
        bytes = statement_format.spelling (statement_saying state key said);
        before = comes here (in_this_run (power_on ∷ []) (here, boot_step state, refl));
        asked = asked;
        step = signing;
        later = in_this_run [] refl;
        is = refl;
        stated = record { key = key; within = within; number_is = refl; index_is = refl; left = few; statement_is = refl };
        text_is = ap (λ s. said_text s key.number (number_of (entries_of state.log)) said) same;
      }

  pub shows_statement : ShowsStatement maker first said
  unfolding statement_saying
  shows_statement = record {
    last = there;
    live = after;
    bytes = chain_format.spelling chain;
    key_number = key.number;
    report = report_of chain key.number (key_entry_of 2 key);
    statement = statement;
    accepts = record {
      chain = chain;
      spelled = record { allowed = chain_allowed state key said valid stored fits; whole = refl };
      good = log_is_good maker state valid bears;
      made = key_entry_of 2 key;
      named = key_named state 2 key valid within;
      current = statement_current state 2 key said valid within few;
      report_is = refl;
    };
    comes = comes there (in_this_run (power_on ∷ _ ∷ []) (here, boot_step state, (there, signing, refl)));
    is = refl;
    few = subst (λ log. length log ≤ 128) (sym same_log) stored.few;
    honest = subst (λ log. Honest state.log maker (entries_of log)) (sym same_log) (log_is_honest state.log maker);
    stated = refl;
    said_is = refl;
    not_forged = signs_it;
  }

message_fits : (message : List ℕ) → length message ≤ 128 → said_format.Allowed (Message message)
unfolding statement_format
message_fits message short = (statement_allowed 0 message (signature_of no_key 0 []) (omega arith) short (length-signature_of no_key 0 [])).1.0

-- a device with a key in layer 2, whose state can be had and stored
pub record IsReady (its : Beginning) (image : List ℕ) : Type 0 where
  pub state : State
  pub key : RegionKey
  pub at : ComesToKey (Some (state_begun its)) its.payload.code state key
  pub valid : IsValidState state
  pub stored : IsStorableState state
  pub bears : IsBornOf (public_of its.maker) state.log

pub comes_ready : (its : Beginning) (image : List ℕ) → CanBegin its → IsFactoryImage its.maker its.index (public_of its.first.seed) its.code its.noise image → IsReady its image
unfolding born
comes_ready its image can made =
    let at = comes_to_key its can in
    let valid : IsValidState (keyed its can) = histories_stay_valid (Some (born its can)) (Some (keyed its can)) at.runs (born_is_valid its can) at.history in
    record {
      state = keyed its can;
      key = new_key (loaded its can) its.second its.draw;
      at = at;
      valid = valid;
      stored = stays_storable (Some (born its can)) (Some (keyed its can)) at.runs at.scripts (born_is_valid its can)
          (birth_storable its.maker its.index (public_of its.first.seed) its.code its.noise image made) at.history;
      bears = born_of_their_maker its.maker its.index (public_of its.first.seed) its.code its.noise at.runs (keyed its can) can.index at.history;
    }

-- what comes after the ready device comes after its birth
pub ready_comes : (its : Beginning) (image : List ℕ) (ready : IsReady its image) (there : World) → ComesAfter there (opening_world (Some ready.state)) → ComesAfter there (opening_world (Some (state_begun its)))
ready_comes its image ready there after = comes_on (Some (state_begun its)) ready.at.runs (Some ready.state) there ready.at.history after

pub statements_can_be_made : StatementsCanBeMade
statements_can_be_made its image message can made short plain =
    let ready : IsReady its image = comes_ready its image can made in
    let few : ready.key.uses < 32 = omega (arith, ready.at.unused) in
    let unsealed : IsOpen ready.state 2 = ap takes_calls ready.at.stored ∙ plain in
    shows_statement (public_of its.maker) (opening_world (Some (state_begun its))) ready.state (signed_state ready.state 2 ready.key.number message) ready.key (Message message)
    (event.Sign 2 ready.key.number message) ready.valid ready.at.within few ready.stored (message_fits message short) ready.bears (ready_comes its image ready) refl
    (say_step ready.state 2 ready.key message ready.valid ready.at.within few ready.at.may_run unsealed)
