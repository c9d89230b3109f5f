-- What judging the bytes of an order comes to.
use Rattle.std.proofs.Common.{◌≡◌, ◌≤◌, ◌⊎◌, inl, inr, ℕ, List, length, Err, refl, sym, ap, subst, ◌∙◌, arith}
use Rattle.std.proofs.lemmas.List.{length-map}
use Rattle.mb_format.specs.Format.{IsBytes, Spells, FailsWhole}
use Rattle.mb_format.proofs.Whole.{IsClearWhole-from_exact}
use Rattle.mb_bytes.specs.Reads.{FailsWholeAt}
use Rattle.mb_bytes.specs.declared.end.ReadEnd.{ReadEnd}
use Rattle.mb_bytes.specs.declared.end.ReadEnd.TheVariants.{Bad}
use Rattle.mb_bytes.specs.Ends.{end_at}
use Rattle.mb_model.specs.declared.limits.TheConstants.{LAST_INDEX, ENTRY_LIMIT}
use Rattle.mb_model.specs.declared.entry.Entry.{Entry}
use Rattle.mb_model.specs.declared.entry.SignedEntry.{SignedEntry}
use Rattle.mb_model.specs.declared.order.Order.{Order}
use Rattle.mb_model.specs.declared.reply.Reply.{Reply}
use Rattle.mb_model.specs.declared.reply.Reply.TheVariants as reply
use Rattle.mb_model.specs.declared.state.State.{State}
use Rattle.mb_model.specs.declared.state.View.{View}
use Rattle.mb_model.specs.declared.stored.Root.{Root}
use Rattle.mb_model.specs.outside.Board.{Memory}
use Rattle.mb_model.specs.memories.Clean.{root_of}
use Rattle.mb_model.specs.owners.Log.{entries_of, number_of, uses_of_device_key, keys_made_by}
use Rattle.mb_model.specs.memories.Memory.{area_of_slot}
use Rattle.mb_model.specs.records.OrderFormat.{order_format}
use Rattle.mb_model.specs.machine.OrderChecks.{view_of, Fails}
use Rattle.mb_model.specs.machine.OrderStep.{OrderStep, spells_none, fails_check}
use Rattle.mb_model.proofs.OrderFormatLaws.{order_exact}
use Rattle.mb_model_lemmas.proofs.LogLemmas.{used-bound, number_of-le-length, made-le-length}
use Rattle.mb_model_lemmas.proofs.ValidStates.{valid_is_ruled}
use Rattle.mb_model.specs.declared.state.Figures.{Figures}
use Rattle.mb_model_memory.specs.Holding.{IsReady}
use Rattle.mb_model_memory.specs.Storable.{IsStorableState}
use Rattle.mb_model_memory.proofs.StorableMemories.{stands_storable}
use Rattle.mb_region.specs.Regions.{HoldsSomeRegion}
use Rattle.mb_area.specs.Roots.{IsOnlyRoot}
use Rattle.mb_device_orders.specs.declared.remembering.Known.{Known}
use Rattle.mb_device_orders.specs.Remembering.{Knows, IsRemembered}
use Rattle.mb_device_orders.specs.Planning.{ReadsText, FailsWith}

-- ---- refusals

pub no_order : (text : List ℕ) (end : ReadEnd) (at : ℕ) → end ≡ Bad at → IsBytes text → FailsWholeAt order_format text (end_at end) → (order : Order) → Spells order_format text order → ⊥
no_order text end at is are fails order s =
    let there : FailsWhole order_format text at = subst (λ (e : ReadEnd). FailsWholeAt order_format text (end_at e)) is fails in
    (IsClearWhole-from_exact order_exact).never_both text order at are s there

pub refused_step : (state : State) (view : View) (text draw : List ℕ) (order : Order) (answer : Reply) → view ≡ view_of state → Spells order_format text order → FailsWith view order answer
    → (answer ≡ reply.NoMemory) ⊎ OrderStep state text draw answer state
refused_step state view text draw order answer is s why =
    inr (fails_check (record {
      order = order;
      spelled = s;
      refusal = why.refusal;
      fails = subst (λ (v : View). Fails v order why.refusal) is why.fails;
      answered = why.answered;
      stays = refl;
    }))

pub none_step : (state : State) (text draw : List ℕ) (answer : Reply) → ReadsText text (Err answer) → (answer ≡ reply.NoMemory) ⊎ OrderStep state text draw answer state
none_step state text draw answer (inl lacks) = inl lacks
none_step state text draw answer (inr none) = inr (spells_none (record { none = none.1; answered = none.0; stays = refl }))

-- ---- regions

pub region_two : (known : Known) (memory : Memory) → IsRemembered known memory → HoldsSomeRegion (area_of_slot memory.bbram 2)
region_two known memory is = record { region = is.state.two; holds = is.ready.clean.two }

pub region_three : (known : Known) (memory : Memory) → IsRemembered known memory → HoldsSomeRegion (area_of_slot memory.bbram 3)
region_three known memory is = record { region = is.state.three; holds = is.ready.clean.three }

-- ---- what an order is judged by

pub view_is : (memory : Memory) (state : State) (known : Known) (root : Root) (two three : ℕ) → IsReady memory state → Knows known state → IsOnlyRoot memory.bbram root → two ≡ length state.two.keys → three ≡ length state.three.keys
    → record {
      serial = known.serial;
      layers = known.figures.layers;
      length = known.figures.length;
      number = known.figures.number;
      keys_made = known.figures.keys_made;
      device = root.device;
      uses = known.figures.uses;
      keys_two = two;
      keys_three = three;
    } ≡ view_of state
view_is memory state known root two three ready knows only is_two is_three =
    let serial : known.serial ≡ state.serial = knows.serial in
    let layers : known.figures.layers ≡ state.layers = ap (λ (f : Figures). f.layers) knows.figures ∙ sym ready.valid.layers in
    let size : known.figures.length ≡ length state.log = ap (λ (f : Figures). f.length) knows.figures ∙ length-map state.log (λ (signed : SignedEntry). signed.entry) in
    let number : known.figures.number ≡ number_of (entries_of state.log) = ap (λ (f : Figures). f.number) knows.figures in
    let keys : known.figures.keys_made ≡ keys_made_by (entries_of state.log) = ap (λ (f : Figures). f.keys_made) knows.figures in
    let device : root.device ≡ state.device = sym (ap (λ (r : Root). r.device) (only.only (root_of state ready.clean.area) ready.clean.root)) in
    let uses : known.figures.uses ≡ uses_of_device_key (entries_of state.log) = ap (λ (f : Figures). f.uses) knows.figures in
    cc

storable : (known : Known) (memory : Memory) (is : IsRemembered known memory) → IsStorableState is.state
storable known memory is = stands_storable memory.flash memory.bbram is.state is.ready.means is.ready.valid

-- the figures are in the ranges in which orders are judged
pub record AreInRange (figures : Figures) : Type 0 where
  pub uses : figures.uses ≤ LAST_INDEX
  pub number : figures.number ≤ ENTRY_LIMIT
  pub keys_made : figures.keys_made ≤ ENTRY_LIMIT

pub in_range : (known : Known) (memory : Memory) → IsRemembered known memory → AreInRange known.figures
in_range known memory is =
    let entries : List Entry = entries_of is.state.log in
    let figures = is.knows.figures in
    let few : length entries ≤ ENTRY_LIMIT = omega (arith, length-map is.state.log (λ (signed : SignedEntry). signed.entry), (storable known memory is).few) in
    record {
      uses = omega (arith, ap (λ (f : Figures). f.uses) figures, used-bound entries (valid_is_ruled is.state is.ready.valid));
      number = omega (arith, ap (λ (f : Figures). f.number) figures, number_of-le-length entries);
      keys_made = omega (arith, ap (λ (f : Figures). f.keys_made) figures, made-le-length entries);
    }
