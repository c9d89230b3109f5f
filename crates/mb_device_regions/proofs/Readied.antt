-- What a memory stands for once the region of a ready device was edited.
use Rattle.std.proofs.Common.{◌≡◌, ◌≢◌, ◌≤◌, ℕ, ◌==◌, ◌⊎◌, inl, inr, Bool, true, false, if◌then◌else◌, None, List, Result, Ok, Err, OnOk, refl, sym, ap, subst, ◌∙◌, arith}
use Rattle.std.specs.Prelude.{IfOk, IsTrue}
use Rattle.mb_format.specs.Format.{IsBytes}
use Rattle.mb_model.specs.declared.region.Region.{Region}
use Rattle.mb_model.specs.declared.state.State.{State}
use Rattle.mb_model.specs.declared.stored.Root.{Root}
use Rattle.mb_model.specs.declared.stored.Fate.TheVariants.{Keep}
use Rattle.mb_model.specs.outside.Board.{Memory, IsLoaded}
use Rattle.mb_model.specs.memories.Clean.{root_of}
use Rattle.mb_model.specs.owners.Layers.{is_upper}
use Rattle.mb_model.specs.owners.Log.{entries_of}
use Rattle.mb_model.specs.memories.Meaning.{Contents, HoldsRegion, fate_of_two, fate_of_three}
use Rattle.mb_model.specs.memories.Memory.{IsBlank, area_of_slot, inactive_area_of_slot}
use Rattle.mb_model.specs.owners.Regions.{region_of, with_region}
use Rattle.mb_model.specs.memories.Valid.{IsValidRegion, IsValidState}
use Rattle.mb_model_lemmas.proofs.MeaningLemmas.{one_root_in}
use Rattle.mb_model_lemmas.proofs.ValidStates.{region_is_valid}
use Rattle.mb_model_memory.specs.Commits.{at_rest}
use Rattle.mb_model_memory.specs.Holding.{Holds, Means, IsReady, region_in_slot, with_region_in, fate_in_slot}
use Rattle.mb_model_memory.proofs.RestLemmas.{rest_stands, clean_and_stands}
use Rattle.mb_model_memory.proofs.StorableMemories.{stands_storable}
use Rattle.mb_model_memory.proofs.StorableOrders.{region_of-storable}
use Rattle.mb_slot.specs.Slots.{IsSameBut}
use Rattle.mb_slot.proofs.Slotted.{other_other}
use Rattle.mb_region.specs.Regions.{IsRegionSlot, HasNoFate, ReplacesRegion, KeepsOrReplaces}
use Rattle.mb_region.proofs.Meant.{state_replaced_or_kept}
use Rattle.mb_device_regions.specs.Secrets.{IsKeptRegion}

-- ---- the region of a ready device

pub upper_slot : (L : ℕ) → IsRegionSlot L → IsTrue (is_upper L)
upper_slot L (inl same) = subst (λ (n : ℕ). IsTrue (is_upper n)) (sym same) refl
upper_slot L (inr same) = subst (λ (n : ℕ). IsTrue (is_upper n)) (sym same) refl

pub region_held : (L : ℕ) (memory : Memory) (state : State) → IsRegionSlot L → IsReady memory state → HoldsRegion (area_of_slot memory.bbram L) (region_of state L)
region_held L memory state (inl same) ready = subst (λ (n : ℕ). HoldsRegion (area_of_slot memory.bbram n) (region_of state n)) (sym same) ready.clean.two
region_held L memory state (inr same) ready = subst (λ (n : ℕ). HoldsRegion (area_of_slot memory.bbram n) (region_of state n)) (sym same) ready.clean.three

pub region_valid : (L : ℕ) (state : State) → IsRegionSlot L → IsValidState state → IsValidRegion (entries_of state.log) state.layers L (region_of state L)
region_valid L state which valid = region_is_valid state L (upper_slot L which) valid

pub region_kept : (L : ℕ) (memory : Memory) (state : State) → IsRegionSlot L → IsReady memory state → IsKeptRegion (region_of state L)
region_kept L memory state which ready = record {
  storable = region_of-storable state L (stands_storable memory.flash memory.bbram state ready.means ready.valid);
  names = (region_valid L state which ready.valid).names;
}

pub kept_if : {E : Type 0} (result : Result Region E) (region : Region) → IfOk result (λ it. it ≡ region) → IsKeptRegion region → IfOk result (λ it. IsKeptRegion it)
kept_if (Ok it) region same is = subst IsKeptRegion (sym same) is
kept_if (Err error) region same is = tt

-- ---- the region edited

edited_rest : (L : ℕ) (edit : Region → Region) (state : State) (area : ℕ) → IsRegionSlot L
    → with_region_in L (edit (region_in_slot L (at_rest state area))) (at_rest state area) ≡ at_rest (with_region state L (edit (region_of state L))) area
edited_rest L edit state area (inl same) =
    subst (λ (n : ℕ). with_region_in n (edit (region_in_slot n (at_rest state area))) (at_rest state area) ≡ at_rest (with_region state n (edit (region_of state n))) area) (sym same) refl
edited_rest L edit state area (inr same) =
    subst (λ (n : ℕ). with_region_in n (edit (region_in_slot n (at_rest state area))) (at_rest state area) ≡ at_rest (with_region state n (edit (region_of state n))) area) (sym same) refl

-- whatever the memory held, it holds with the region of the slot edited
abbrev pub EditsRegion : ℕ → (Region → Region) → Memory → Memory → Type 0
EditsRegion L edit before after = (contents : Contents) → Holds before contents → Holds after (with_region_in L (edit (region_in_slot L contents)) contents)

-- the areas that are not in force are blank, where that of the slot is
record AreBlank (bbram : List ℕ) : Type 0 where
  root : IsBlank (inactive_area_of_slot bbram 1)
  two : IsBlank (inactive_area_of_slot bbram 2)
  three : IsBlank (inactive_area_of_slot bbram 3)

still_blank : (L : ℕ) (before after : Memory) (state : State) → IsRegionSlot L → IsLoaded before → IsReady before state → IsBlank (inactive_area_of_slot after.bbram L) → IsSameBut L before.bbram after.bbram → AreBlank after.bbram
still_blank L before after state (inl same) loaded ready blank rest =
    let stays : (m : ℕ) → 1 ≤ m → m ≤ 3 → m ≢ L → inactive_area_of_slot after.bbram m ≡ inactive_area_of_slot before.bbram m =
    λ m least most apart. other_other L m before.bbram after.bbram (omega (arith, same)) (omega (arith, same)) least most apart loaded.bbram rest in
    record {
      root = subst IsBlank (sym (stays 1 (omega arith) (omega arith) (λ e. omega (arith, e, same)))) ready.clean.other_root;
      two = subst (λ (n : ℕ). IsBlank (inactive_area_of_slot after.bbram n)) same blank;
      three = subst IsBlank (sym (stays 3 (omega arith) (omega arith) (λ e. omega (arith, e, same)))) ready.clean.other_three;
    }
still_blank L before after state (inr same) loaded ready blank rest =
    let stays : (m : ℕ) → 1 ≤ m → m ≤ 3 → m ≢ L → inactive_area_of_slot after.bbram m ≡ inactive_area_of_slot before.bbram m =
    λ m least most apart. other_other L m before.bbram after.bbram (omega (arith, same)) (omega (arith, same)) least most apart loaded.bbram rest in
    record {
      root = subst IsBlank (sym (stays 1 (omega arith) (omega arith) (λ e. omega (arith, e, same)))) ready.clean.other_root;
      two = subst IsBlank (sym (stays 2 (omega arith) (omega arith) (λ e. omega (arith, e, same)))) ready.clean.other_two;
      three = subst (λ (n : ℕ). IsBlank (inactive_area_of_slot after.bbram n)) same blank;
    }

pub ready_edited : (L : ℕ) (edit : Region → Region) (before after : Memory) (state : State) → IsRegionSlot L → IsBytes before.bbram → IsLoaded before → IsReady before state → IsLoaded after
    → EditsRegion L edit before after → IsBlank (inactive_area_of_slot after.bbram L) → IsSameBut L before.bbram after.bbram
    → IsValidState (with_region state L (edit (region_of state L))) → IsReady after (with_region state L (edit (region_of state L)))
ready_edited L edit before after state which are loaded ready sized edits blank rest valid =
    let area : ℕ = ready.clean.area in
    let next : State = with_region state L (edit (region_of state L)) in
    let there : Holds after (at_rest next area) =
    subst (Holds after) (edited_rest L edit state area which) (edits (at_rest state area) (clean_and_stands before.flash before.bbram state ready.clean are ready.means)) in
    let blanks = still_blank L before after state which loaded ready blank rest in
    record {
      means = rest_stands after.flash after.bbram next area sized valid.layers there;
      valid = valid;
      clean = record {
        sized = sized.bbram;
        area = area;
        root = there.root;
        two = there.two;
        three = there.three;
        other_root = blanks.root;
        other_two = blanks.two;
        other_three = blanks.three;
      };
    }

-- ---- nothing is pending

none_kept : (b : Bool) → (if b then fate_of_two None else fate_of_three None) ≡ Keep
none_kept true = refl
none_kept false = refl

pub no_fate : (L : ℕ) (memory : Memory) (state : State) → IsBytes memory.bbram → IsReady memory state → HasNoFate L memory
no_fate L memory state are ready = record {
  none = λ contents holds. (
      let root : contents.root ≡ root_of state ready.clean.area = one_root_in memory.bbram contents.root (root_of state ready.clean.area) are holds.root ready.clean.root in
      ap (λ (r : Root). fate_in_slot L r.pending) root ∙ none_kept (L == 2));
}

-- ---- the region replaced

pub replaced_ready : {A E : Type 0} (result : Result A E) (L : ℕ) (region : Region) (before after : Memory) (state : State) → IsRegionSlot L → IsBytes before.bbram → IsLoaded before → IsReady before state → IsLoaded after
    → OnOk result (ReplacesRegion L region before after) → OnOk result (IsBlank (inactive_area_of_slot after.bbram L)) → IsSameBut L before.bbram after.bbram
    → IsValidState (with_region state L region) → OnOk result (IsReady after (with_region state L region))
replaced_ready (Ok value) L region before after state which are loaded ready sized replaces blank rest valid =
    ready_edited L (λ r. region) before after state which are loaded ready sized replaces.replaced blank rest valid
replaced_ready (Err error) L region before after state which are loaded ready sized replaces blank rest valid = tt

pub replaced_or_not : (L : ℕ) (region : Region) (before after : Memory) (state : State) → IsRegionSlot L → IsBytes before.bbram → IsReady before state → IsLoaded after
    → KeepsOrReplaces L region before after → Means after state ⊎ Means after (with_region state L region)
replaced_or_not L region before after state which are ready sized either = state_replaced_or_kept L L region before after refl which sized (no_fate L before state are ready) either state ready.means
