-- What an order leaves to be done means the state after it.
use Rattle.std.proofs.Common.{◌≡◌, ℕ, ◌+◌, ◌-◌, List, [], ◌∷◌, ◌++◌, length, Option, None, Some, Bool, true, false, refl, sym, ap, subst, ◌∙◌, arith, eqb-true}
use Rattle.std.specs.Prelude.{◌==◌, ◌||◌, not, if◌then◌else◌}
use Rattle.std.proofs.lemmas.Bool.{and_parts, not-true, or_parts}
use Rattle.std.proofs.Math.Seq.{append_snoc}
use Rattle.mb_model.specs.declared.key.KeySeed.{KeySeed}
use Rattle.mb_model.specs.declared.layer.Layers.{Layers}
use Rattle.mb_model.specs.declared.order.Act.{Act}
use Rattle.mb_model.specs.declared.order.Act.TheVariants as act
use Rattle.mb_model.specs.declared.order.ChangeKind.TheVariants.{Establish, Surrender, Load, Emergency}
use Rattle.mb_model.specs.declared.order.Order.{Order}
use Rattle.mb_model.specs.declared.entry.Entry.{Entry}
use Rattle.mb_model.specs.declared.entry.SignedEntry.{SignedEntry}
use Rattle.mb_model.specs.declared.region.Region.{Region}
use Rattle.mb_model.specs.declared.state.Codes.{Codes}
use Rattle.mb_model.specs.declared.state.State.{State}
use Rattle.mb_model.specs.declared.stored.Fate.{Fate}
use Rattle.mb_model.specs.declared.stored.Root.{Root}
use Rattle.mb_model.specs.owners.Layers.{is_upper, is_runnable}
use Rattle.mb_model.specs.owners.Rules.{kind_of, change_of, renews, Condition}
use Rattle.mb_model.specs.owners.Log.{entries_of, layers_of, uses_of_device_key}
use Rattle.mb_model.specs.records.OrderFormat.{order_format}
use Rattle.mb_model.specs.machine.OrderChecks.{change_by, needs_succession, Passes, view_of}
use Rattle.mb_model.specs.machine.OrderEffects.{entry_signed_by, log_with, state_after_succession, device_after, uses_after, key_made, state_after_change, state_after_new_key, ready_for, state_after_act, state_after_order, succession_entry, entry_of, fact_of}
use Rattle.mb_model.specs.machine.Work.{fate_for, pending_for}
use Rattle.mb_model_lemmas.proofs.AdditionLemmas.{device_is}
use Rattle.mb_model_memory.specs.Commits.{new_entries}
use Rattle.mb_model_memory.proofs.Additions.{outgoing_key, outgoing_with, gives_way, own_fate, outgoing_is, fate_is, new_entries_are}
use Rattle.mb_model.specs.memories.Memory.{AreSized}
use Rattle.mb_model.specs.memories.StoredLog.{AreCounted, HasIndex, entries_signed_for, log_completed_by}
use Rattle.mb_model.specs.memories.Flash.{HoldsPublic}
use Rattle.mb_model.specs.memories.Meaning.{Contents, FlashForm, HoldsContentsBy, HoldsContents, region_after_fate, fate_of_two, fate_of_three, state_of_contents, HasMeaningBy, is_dead, is_live, StandsForBy, StandsFor}
use Rattle.mb_model.specs.memories.Valid.{IsValidState}
use Rattle.mb_model_lemmas.specs.RegionLaws.{AreFated}
use Rattle.mb_model_lemmas.proofs.FateLemmas.{fated_twice}
use Rattle.mb_model_lemmas.proofs.FatedStates.{changed_is_fated, keyed_is_fated}
use Rattle.mb_model_lemmas.proofs.OwnEntries.{appends_own}
use Rattle.mb_model_lemmas.proofs.ValidStates.{valid_is_ruled}
use Rattle.mb_model_lemmas.proofs.ValidOrders.{succeeded_valid}
use Rattle.mb_model_lemmas.proofs.ValidSteps.{obeyed_valid}
use Rattle.mb_model.proofs.Passed.{passed}
use Rattle.mb_model_memory.specs.Commits.{root_for, committed, two_done, three_done, both_done, IsUnderWay, not_begun, only_two, only_three, has_both}

-- ---- contents that mean a state

-- contents have the parts of a state
pub record HasParts (contents : Contents) (state : State) : Type 0 where
  pub serial : contents.root.serial ≡ state.serial
  pub codes : contents.codes ≡ state.codes
  pub log : log_completed_by contents.root contents.signed contents.unsigned ≡ state.log
  pub device : contents.root.device ≡ state.device
  pub uses : contents.root.uses ≡ state.uses
  pub two : region_after_fate (fate_of_two contents.root.pending) contents.two ≡ state.two
  pub three : region_after_fate (fate_of_three contents.root.pending) contents.three ≡ state.three

abbrev state_of : List ℕ → Layers → Codes → List SignedEntry → KeySeed → ℕ → Region → Region → State
state_of serial layers codes log device uses two three = record {
  serial = serial;
  layers = layers;
  codes = codes;
  log = log;
  device = device;
  uses = uses;
  two = two;
  three = three;
}

-- and mean it, where its layers are those of its log
pub meant_is : (contents : Contents) (state : State) → state.layers ≡ layers_of (entries_of state.log) → HasParts contents state → state_of_contents contents ≡ state
unfolding state_of_contents
meant_is c state layers parts =
    let log : List SignedEntry = log_completed_by c.root c.signed c.unsigned in
    let two : Region = region_after_fate (fate_of_two c.root.pending) c.two in
    let three : Region = region_after_fate (fate_of_three c.root.pending) c.three in
    ap (λ (x : List ℕ). state_of x (layers_of (entries_of log)) c.codes log c.root.device c.root.uses two three) parts.serial
    ∙ ap (λ (x : List SignedEntry). state_of state.serial (layers_of (entries_of x)) c.codes x c.root.device c.root.uses two three) parts.log
    ∙ ap (λ (x : Layers). state_of state.serial x c.codes state.log c.root.device c.root.uses two three) (sym layers)
    ∙ ap (λ (x : Codes). state_of state.serial state.layers x state.log c.root.device c.root.uses two three) parts.codes
    ∙ ap (λ (x : KeySeed). state_of state.serial state.layers state.codes state.log x c.root.uses two three) parts.device
    ∙ ap (λ (x : ℕ). state_of state.serial state.layers state.codes state.log state.device x two three) parts.uses
    ∙ ap (λ (x : Region). state_of state.serial state.layers state.codes state.log state.device state.uses x three) parts.two
    ∙ ap (λ (x : Region). state_of state.serial state.layers state.codes state.log state.device state.uses state.two x) parts.three

-- a memory that holds contents with an index stands for the state that they mean
pub stands_for_meant : (flash bbram : List ℕ) (contents : Contents) (state : State) → AreSized flash bbram → HoldsContents flash bbram contents
    → HasIndex contents.root contents.root.pending → state_of_contents contents ≡ state → StandsFor flash bbram (Some state)
stands_for_meant flash bbram contents state sized holds index means =
    record { sized = sized; meaning = is_live contents holds index (ap Some (sym means)) }

-- the contents of a memory that stands for a live state, by a form of the flash
pub record LiveContentsBy (Form : FlashForm) (flash bbram : List ℕ) (state : State) : Type 0 where
  pub contents : Contents
  pub holds : HoldsContentsBy Form flash bbram contents
  pub index : HasIndex contents.root contents.root.pending
  pub means : state ≡ state_of_contents contents

live_by : (Form : FlashForm) (flash bbram : List ℕ) (known : Option State) (state : State) → known ≡ Some state → HasMeaningBy Form flash bbram known → LiveContentsBy Form flash bbram state
live_by Form flash bbram known state e (is_dead blank none) =
    let no : None ≡ Some state = sym none ∙ e in
    absurd (grind (arith, no))
live_by Form flash bbram known state e (is_live contents holds index live) =
    let same : Some state ≡ Some (state_of_contents contents) = sym e ∙ live in
    record { contents = contents; holds = holds; index = index; means = cc }

pub live_contents_by : (Form : FlashForm) (flash bbram : List ℕ) (state : State) → StandsForBy Form flash bbram (Some state) → LiveContentsBy Form flash bbram state
live_contents_by Form flash bbram state stands = live_by Form flash bbram (Some state) state refl stands.meaning

pub live_contents : (flash bbram : List ℕ) (state : State) → StandsFor flash bbram (Some state) → LiveContentsBy HoldsPublic flash bbram state
live_contents = live_contents_by HoldsPublic

-- ---- the state in which the device key has an index for the order

last_left : (state : State) (order : Order) → needs_succession (view_of state) order ≡ true → uses_of_device_key (entries_of state.log) ≡ 31
last_left state order e =
    eqb-true (uses_of_device_key (entries_of state.log)) 31 (and_parts (uses_of_device_key (entries_of state.log) == 31) (not (renews (change_by order) order.layer)) e).0

not_renewing : (state : State) (order : Order) → needs_succession (view_of state) order ≡ true → renews (change_by order) order.layer ≡ false
not_renewing state order e =
    not-true (renews (change_by order) order.layer) (and_parts (uses_of_device_key (entries_of state.log) == 31) (not (renews (change_by order) order.layer)) e).1

pub ready_valid : (state : State) (order : Order) (draw : List ℕ) → IsValidState state → IsValidState (ready_for state order draw)
ready_valid state order draw valid =
    (elim (needs_succession (view_of state) order) as (λ b. needs_succession (view_of state) order ≡ b → IsValidState (if b then state_after_succession state draw else state)) [
      | true ↦ λ e. succeeded_valid state draw valid (last_left state order e)
      | false ↦ λ e. valid
    ]) refl

-- what a succession leaves, the state that is ready has as it was
pub kept_ready : {X : Type 0} (part : State → X) (state : State) (order : Order) (draw : List ℕ) → part (state_after_succession state draw) ≡ part state → part (ready_for state order draw) ≡ part state
kept_ready part state order draw same =
    elim (needs_succession (view_of state) order) as (λ b. part (if b then state_after_succession state draw else state) ≡ part state) [ true ↦ same | false ↦ refl ]

succeeded_serial : (state : State) (draw : List ℕ) → (state_after_succession state draw).serial ≡ state.serial
unfolding state_after_succession
succeeded_serial state draw = refl

pub succeeded_layers : (state : State) (draw : List ℕ) → (state_after_succession state draw).layers ≡ state.layers
unfolding state_after_succession
succeeded_layers state draw = refl

succeeded_uses : (state : State) (draw : List ℕ) → (state_after_succession state draw).uses ≡ 0
unfolding state_after_succession
succeeded_uses state draw = refl

succeeded_two : (state : State) (draw : List ℕ) → (state_after_succession state draw).two ≡ state.two
unfolding state_after_succession
succeeded_two state draw = refl

succeeded_three : (state : State) (draw : List ℕ) → (state_after_succession state draw).three ≡ state.three
unfolding state_after_succession
succeeded_three state draw = refl

-- ---- what an order leaves of the device key

carried_serial : (ready : State) (order : Order) (a : Act) (draw : List ℕ) → (state_after_act ready order a draw).serial ≡ ready.serial
unfolding state_after_change state_after_new_key
carried_serial ready order (act.Establish owner trust) draw = refl
carried_serial ready order act.Surrender draw = refl
carried_serial ready order (act.Load payload) draw = refl
carried_serial ready order (act.Emergency payload) draw = refl
carried_serial ready order (act.NewKey kind) draw = refl

carried_device : (ready : State) (order : Order) (a : Act) (draw : List ℕ) → (state_after_act ready order a draw).device ≡ device_after (renews (change_of (kind_of a)) order.layer) (view_of ready) draw
unfolding state_after_change state_after_new_key
carried_device ready order (act.Establish owner trust) draw = refl
carried_device ready order act.Surrender draw = refl
carried_device ready order (act.Load payload) draw = refl
carried_device ready order (act.Emergency payload) draw = refl
carried_device ready order (act.NewKey kind) draw = refl

carried_uses : (ready : State) (order : Order) (a : Act) (draw : List ℕ) → (state_after_act ready order a draw).uses ≡ uses_after (renews (change_of (kind_of a)) order.layer) (view_of ready)
unfolding state_after_change state_after_new_key
carried_uses ready order (act.Establish owner trust) draw = refl
carried_uses ready order act.Surrender draw = refl
carried_uses ready order (act.Load payload) draw = refl
carried_uses ready order (act.Emergency payload) draw = refl
carried_uses ready order (act.NewKey kind) draw = refl

pub obeyed_serial : (state : State) (order : Order) (draw : List ℕ) → (state_after_order state order draw).serial ≡ state.serial
unfolding state_after_order
obeyed_serial state order draw =
    carried_serial (ready_for state order draw) order order.act draw
    ∙ kept_ready (λ (s : State). s.serial) state order draw (succeeded_serial state draw)

pub obeyed_device : (state : State) (order : Order) (draw : List ℕ) → (state_after_order state order draw).device ≡ device_after (renews (change_by order) order.layer) (view_of (ready_for state order draw)) draw
unfolding state_after_order
obeyed_device state order draw = carried_device (ready_for state order draw) order order.act draw

pub obeyed_uses : (state : State) (order : Order) (draw : List ℕ) → (state_after_order state order draw).uses ≡ uses_after (renews (change_by order) order.layer) (view_of (ready_for state order draw))
unfolding state_after_order
obeyed_uses state order draw = carried_uses (ready_for state order draw) order order.act draw

-- ---- the log

back : (n : ℕ) → n + 1 - 1 ≡ n
back n = omega arith

-- one entry: the device key, or the one that gives way, signs it with its next index
one_signed : (state : State) (draw : List ℕ) (own : Entry) (next : Bool)
    → state.log ++ entries_signed_for (device_after next (view_of state) draw) (uses_after next (view_of state)) (outgoing_with next state) (own ∷ []) ≡ log_with state own
one_signed state draw own true = ap (λ (k : ℕ). state.log ++ entry_signed_by state.device k own ∷ []) (back (uses_of_device_key (entries_of state.log)))
one_signed state draw own false = ap (λ (k : ℕ). state.log ++ entry_signed_by state.device k own ∷ []) (back (uses_of_device_key (entries_of state.log)))

plain_log : (state : State) (draw : List ℕ) (own : Entry) (next : Bool) (device : KeySeed) (uses : ℕ) → device ≡ device_after next (view_of state) draw → uses ≡ uses_after next (view_of state)
    → state.log ++ entries_signed_for device uses (outgoing_with next state) (own ∷ []) ≡ log_with state own
plain_log state draw own next device uses device_is uses_is =
    ap (λ (x : KeySeed). state.log ++ entries_signed_for x uses (outgoing_with next state) (own ∷ [])) device_is
    ∙ ap (λ (x : ℕ). state.log ++ entries_signed_for (device_after next (view_of state) draw) x (outgoing_with next state) (own ∷ [])) uses_is
    ∙ one_signed state draw own next

-- two: the key that gives way signs that of the succession, and the next one the order's own
two_signed : (state : State) (draw : List ℕ) (own : Entry) (device : KeySeed) (uses : ℕ) → device ≡ (state_after_succession state draw).device → uses_of_device_key (entries_of (state_after_succession state draw).log) ≡ 0
    → state.log ++ entries_signed_for device uses (Some (outgoing_key state)) (succession_entry (view_of state) draw ∷ own ∷ []) ≡ log_with (state_after_succession state draw) own
unfolding state_after_succession
two_signed state draw own device uses device_is none =
    let n : ℕ = uses_of_device_key (entries_of state.log) in
    let first : Entry = succession_entry (view_of state) draw in
    let next : State = state_after_succession state draw in
    ap (λ (k : ℕ). state.log ++ entry_signed_by state.device k first ∷ entry_signed_by device 0 own ∷ []) (back n)
    ∙ ap (λ (x : KeySeed). state.log ++ entry_signed_by state.device n first ∷ entry_signed_by x 0 own ∷ []) device_is
    ∙ ap (λ (k : ℕ). state.log ++ entry_signed_by state.device n first ∷ entry_signed_by next.device k own ∷ []) (sym none)
    ∙ sym (append_snoc state.log (entry_signed_by state.device n first) (entry_signed_by next.device (uses_of_device_key (entries_of next.log)) own ∷ []))

-- the state that is ready, and the new entries, where a succession is needed or is not
abbrev ready_by : Bool → State → List ℕ → State
ready_by needed state draw = if needed then state_after_succession state draw else state

abbrev own_by : Bool → State → Order → List ℕ → Entry
own_by needed state order draw = entry_of (view_of (ready_by needed state draw)) (fact_of (ready_by needed state draw).layers order order.act) draw

abbrev entries_by : Bool → State → Order → List ℕ → List Entry
entries_by needed state order draw =
    if needed then succession_entry (view_of state) draw ∷ own_by needed state order draw ∷ [] else own_by needed state order draw ∷ []

log_by : (state : State) (order : Order) (draw : List ℕ) (device : KeySeed) (uses : ℕ) → IsValidState state → (needed : Bool) → needs_succession (view_of state) order ≡ needed
    → device ≡ device_after (renews (change_by order) order.layer) (view_of (ready_by needed state draw)) draw
    → uses ≡ uses_after (renews (change_by order) order.layer) (view_of (ready_by needed state draw))
    → state.log ++ entries_signed_for device uses (outgoing_with (needed || renews (change_by order) order.layer) state) (entries_by needed state order draw)
    ≡ log_with (ready_by needed state draw) (own_by needed state order draw)
log_by state order draw device uses valid true e device_is uses_is =
    let next : State = state_after_succession state draw in
    let stays : device ≡ next.device = device_is ∙ ap (λ (b : Bool). device_after b (view_of next) draw) (not_renewing state order e) in
    let none : uses_of_device_key (entries_of next.log) ≡ 0 = sym (succeeded_valid state draw valid (last_left state order e)).uses ∙ succeeded_uses state draw in
    two_signed state draw (own_by true state order draw) device uses stays none
log_by state order draw device uses valid false e device_is uses_is =
    plain_log state draw (own_by false state order draw) (renews (change_by order) order.layer) device uses device_is uses_is

-- the entries with the signatures that they will have are those of the log
pub committed_log : (state : State) (order : Order) (draw : List ℕ) (area : ℕ) → IsValidState state
    → log_completed_by (root_for state order draw area) state.log (new_entries state order draw) ≡ (state_after_order state order draw).log
unfolding log_completed_by root_for pending_for
committed_log state order draw area valid =
    let done : State = state_after_order state order draw in
    ap (λ o. state.log ++ entries_signed_for done.device done.uses o (new_entries state order draw)) (outgoing_is state order draw)
    ∙ ap (λ (es : List Entry). state.log ++ entries_signed_for done.device done.uses (outgoing_with (gives_way state order) state) es) (new_entries_are state order draw)
    ∙ log_by state order draw done.device done.uses valid (needs_succession (view_of state) order) refl (obeyed_device state order draw) (obeyed_uses state order draw)
    ∙ sym (appends_own state order draw)

-- ---- the regions

fates_are : (ready : State) (order : Order) (draw : List ℕ) (a : Act) → IsValidState ready → Condition ready.layers (change_of (kind_of a)) order.layer
    → AreFated ready (state_after_act ready order a draw) (own_fate ready order a draw 2) (own_fate ready order a draw 3)
fates_are ready order draw (act.Establish owner trust) valid allowed = changed_is_fated ready Establish order draw
fates_are ready order draw act.Surrender valid allowed = changed_is_fated ready Surrender order draw
fates_are ready order draw (act.Load payload) valid allowed = changed_is_fated ready Load order draw
fates_are ready order draw (act.Emergency payload) valid allowed = changed_is_fated ready Emergency order draw
fates_are ready order draw (act.NewKey kind) valid allowed =
    keyed_is_fated ready order.layer kind draw (key_made (view_of ready) kind draw) (and_parts (is_upper order.layer) (is_runnable ready.layers order.layer) allowed).0 (valid_is_ruled ready valid)
    (record { two = valid.two; three = valid.three }) refl

ready_fates : (state : State) (order : Order) (draw : List ℕ) → IsValidState state → Passes (view_of state) order
    → AreFated (ready_for state order draw) (state_after_order state order draw) (fate_for state order draw 2) (fate_for state order draw 3)
unfolding state_after_order
ready_fates state order draw valid passes =
    let same = kept_ready (λ (s : State). s.layers) state order draw (succeeded_layers state draw) in
    subst (λ (a : Fate). AreFated (ready_for state order draw) (state_after_order state order draw) a (fate_for state order draw 3)) (sym (fate_is state order draw 2)) (subst (λ (b : Fate). AreFated (ready_for state order draw) (state_after_order state order draw) (own_fate (ready_for state order draw) order order.act draw 2) b) (sym (fate_is state order draw 3)) (fates_are (ready_for state order draw) order draw order.act (ready_valid state order draw valid) (subst (λ (l : Layers). Condition l (change_by order) order.layer) (sym same) (passed passes).condition)))

pub obeyed_is_fated : (state : State) (order : Order) (draw : List ℕ) → IsValidState state → Passes (view_of state) order
    → AreFated state (state_after_order state order draw) (fate_for state order draw 2) (fate_for state order draw 3)
obeyed_is_fated state order draw valid passes =
    let fates = ready_fates state order draw valid passes in
    record {
      two_is = fates.two_is ∙ ap (region_after_fate (fate_for state order draw 2)) (kept_ready (λ (s : State). s.two) state order draw (succeeded_two state draw));
      three_is = fates.three_is ∙ ap (region_after_fate (fate_for state order draw 3)) (kept_ready (λ (s : State). s.three) state order draw (succeeded_three state draw));
    }

-- ---- the commit

committed_parts : (state : State) (order : Order) (draw : List ℕ) (area : ℕ) → IsValidState state → Passes (view_of state) order
    → HasParts (committed state order draw area) (state_after_order state order draw)
unfolding committed root_for pending_for
committed_parts state order draw area valid passes =
    let fates = obeyed_is_fated state order draw valid passes in
    record {
      serial = sym (obeyed_serial state order draw);
      codes = refl;
      log = committed_log state order draw area valid;
      device = refl;
      uses = refl;
      two = sym fates.two_is;
      three = sym fates.three_is;
    }

pub commit_means : (state : State) (order : Order) (draw : List ℕ) (area : ℕ) → IsValidState state → order_format.Allowed order → Passes (view_of state) order
    → state_of_contents (committed state order draw area) ≡ state_after_order state order draw
commit_means state order draw area valid allowed passes =
    meant_is (committed state order draw area) (state_after_order state order draw) (obeyed_valid state order draw valid allowed passes).layers (committed_parts state order draw area valid passes)

entries_counted : (needed : Bool) (first own : Entry) → ◌≡◌ {A = ℕ} (length (if needed then first ∷ own ∷ [] else own ∷ [])) (if needed then 2 else 1)
entries_counted true first own = refl
entries_counted false first own = refl

one_alone : (needed renewing : Bool) (state : State) → outgoing_with (needed || renewing) state ≡ None → ◌≡◌ {A = ℕ} (if needed then 2 else 1) 1
one_alone true renewing state e = absurd (grind (arith, e))
one_alone false renewing state e = refl

pub commit_counted : (state : State) (order : Order) (draw : List ℕ) (area : ℕ) → AreCounted (root_for state order draw area).pending (new_entries state order draw)
unfolding root_for pending_for
commit_counted state order draw area = record {
  counted = ap length (new_entries_are state order draw) ∙ entries_counted (needs_succession (view_of state) order) (succession_entry (view_of state) draw) (entry_of (view_of (ready_for state order draw)) (fact_of (ready_for state order draw).layers order order.act) draw);
  can_sign = λ e. one_alone (needs_succession (view_of state) order) (renews (change_by order) order.layer) state (sym (outgoing_is state order draw) ∙ e);
}

none_gives_way : (next : Bool) (state : State) → outgoing_with next state ≡ None → next ≡ false
none_gives_way true state e = absurd (grind (arith, e))
none_gives_way false state e = refl

pub commit_index : (state : State) (order : Order) (draw : List ℕ) (area : ℕ) → HasIndex (root_for state order draw area) (root_for state order draw area).pending
unfolding root_for pending_for
commit_index state order draw area = λ none nothing.
    let renewing : renews (change_by order) order.layer ≡ false =
    (or_parts (needs_succession (view_of state) order) (renews (change_by order) order.layer) (none_gives_way (gives_way state order) state (sym (outgoing_is state order draw) ∙ none))).1
    in
    let uses : (state_after_order state order draw).uses ≡ uses_of_device_key (entries_of (ready_for state order draw).log) + 1 =
    obeyed_uses state order draw ∙ ap (λ (b : Bool). uses_after b (view_of (ready_for state order draw))) renewing
    in
    omega (arith, uses, nothing)

pub commit_stands : (flash bbram : List ℕ) (state : State) (order : Order) (draw : List ℕ) (area : ℕ) → AreSized flash bbram
    → IsValidState state → order_format.Allowed order → Passes (view_of state) order
    → HoldsContents flash bbram (committed state order draw area) → StandsFor flash bbram (Some (state_after_order state order draw))
unfolding committed
commit_stands flash bbram state order draw area sized valid allowed passes holds =
    stands_for_meant flash bbram (committed state order draw area) (state_after_order state order draw) sized holds (commit_index state order draw area) (commit_means state order draw area valid allowed passes)

pub committed_area_is : (state : State) (order : Order) (draw : List ℕ) (area : ℕ) → (root_for state order draw area).area ≡ area
unfolding root_for
committed_area_is state order draw area = refl

-- ---- the work

pub two_done_means : (contents : Contents) → state_of_contents (two_done contents) ≡ state_of_contents contents
unfolding state_of_contents
two_done_means contents = ap (λ (r : Region). let s : State = record (state_of_contents contents) { two = r } in s) (fated_twice (fate_of_two contents.root.pending) contents.two)

pub three_done_means : (contents : Contents) → state_of_contents (three_done contents) ≡ state_of_contents contents
unfolding state_of_contents
three_done_means contents = ap (λ (r : Region). let s : State = record (state_of_contents contents) { three = r } in s) (fated_twice (fate_of_three contents.root.pending) contents.three)

pub both_done_means : (contents : Contents) → state_of_contents (both_done contents) ≡ state_of_contents contents
both_done_means contents = three_done_means (two_done contents) ∙ two_done_means contents

-- what is done twice is done once
two_twice : (contents : Contents) → two_done (two_done contents) ≡ two_done contents
two_twice contents = ap (λ (r : Region). let c : Contents = record contents { two = r } in c) (fated_twice (fate_of_two contents.root.pending) contents.two)

three_twice : (contents : Contents) → three_done (three_done contents) ≡ three_done contents
three_twice contents = ap (λ (r : Region). let c : Contents = record contents { three = r } in c) (fated_twice (fate_of_three contents.root.pending) contents.three)

under_way_means : (contents now : Contents) → IsUnderWay contents now → state_of_contents now ≡ state_of_contents contents
under_way_means contents now (not_begun same) = ap state_of_contents same
under_way_means contents now (only_two same) = ap state_of_contents same ∙ two_done_means contents
under_way_means contents now (only_three same) = ap state_of_contents same ∙ three_done_means contents
under_way_means contents now (has_both same) = ap state_of_contents same ∙ both_done_means contents

under_way_root : (contents now : Contents) → IsUnderWay contents now → now.root ≡ contents.root
under_way_root contents now (not_begun same) = ap (λ (c : Contents). c.root) same
under_way_root contents now (only_two same) = ap (λ (c : Contents). c.root) same
under_way_root contents now (only_three same) = ap (λ (c : Contents). c.root) same
under_way_root contents now (has_both same) = ap (λ (c : Contents). c.root) same

pub under_way_stands : (flash bbram : List ℕ) (contents now : Contents) → AreSized flash bbram → HasIndex contents.root contents.root.pending → IsUnderWay contents now
    → HoldsContents flash bbram now → StandsFor flash bbram (Some (state_of_contents contents))
under_way_stands flash bbram contents now sized index under_way holds =
    let own : HasIndex now.root now.root.pending = subst (λ (r : Root). HasIndex r r.pending) (sym (under_way_root contents now under_way)) index in
    stands_for_meant flash bbram now (state_of_contents contents) sized holds own (under_way_means contents now under_way)

pub work_ends : (contents now : Contents) → IsUnderWay contents now → both_done now ≡ both_done contents
work_ends contents now (not_begun same) = ap both_done same
work_ends contents now (only_two same) = ap both_done same ∙ ap three_done (two_twice contents)
work_ends contents now (only_three same) = ap both_done same ∙ three_twice (two_done contents)
work_ends contents now (has_both same) = ap both_done same ∙ three_twice (two_done (two_done contents)) ∙ ap three_done (two_twice contents)
