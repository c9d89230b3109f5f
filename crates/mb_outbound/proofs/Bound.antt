-- What is stored once a key of a region was used.
use Rattle.std.proofs.Common.{◌≡◌, ℕ, ◌+◌, ◌≤◌, inr, List, length, Result, Ok, Err, OnOk, OnErr, ap, sym, subst, ◌∙◌, arith}
use Rattle.std.specs.Prelude.{◌⊎◌}
use Rattle.mb_format.specs.Format.{IsBytes}
use Rattle.mb_model.specs.declared.region.Region.{Region}
use Rattle.mb_model.specs.declared.region.RegionKey.{RegionKey}
use Rattle.mb_model.specs.declared.state.State.{State}
use Rattle.mb_model.specs.outside.Board.{Memory, Meter, IsLoaded}
use Rattle.mb_board.specs.Calls.{Seen, IsMetered, level_of}
use Rattle.mb_slot.specs.Slots.{IsSameBut, RanInOther, RanInSlot}
use Rattle.mb_slot.proofs.Slotted.{but_other}
use Rattle.mb_model.specs.memories.Memory.{area_of_slot}
use Rattle.mb_model.specs.records.RegionFormat.{SpellsRegion, CanBeWritten}
use Rattle.mb_model.specs.memories.Meaning.{HoldsRegion}
use Rattle.mb_layout_edits.specs.declared.usage.NotUsed.{NotUsed}
use Rattle.mb_layout_edits.specs.declared.usage.NotUsed.TheVariants.{NoKey, Spent}
use Rattle.mb_layout_edits.specs.Edits.{region_with_use, UseOf}
use Rattle.mb_model_memory.proofs.StorableMemories.{spelled_storable}
use Rattle.mb_model_memory.proofs.StorableRecords.{region_written}
use Rattle.mb_model_memory.proofs.StorableSteps.{use_region}
use Rattle.mb_model_memory.specs.Holding.{KeepsContents, Means}
use Rattle.mb_region.specs.Regions.{IsRegionSlot, HasNoFate, HoldsSomeRegion, ReplacesRegion, KeepsOrReplaces}
use Rattle.mb_region.proofs.Replaced.{region_found, stands_written, record_short, edited_holds, edited_either}
use Rattle.mb_outbound.specs.Binding.{AreKeysInOrder, HoldsOrdered, HasUse, StoresUse, KeepsOrStoresUse, state_used}
use Rattle.mb_region.proofs.Meant.{edited_stands, edited_or_kept}
use Rattle.mb_outbound.specs.Using.{IsUsable, FindsUse}

-- ---- the use of a key

pub use_written : (bytes : List ℕ) (region : Region) (number : ℕ) (key : RegionKey) → AreKeysInOrder region → SpellsRegion bytes region → HasUse region number key → CanBeWritten (region_with_use number region)
use_written bytes region number key up stands has =
    region_written (region_with_use number region) (use_region number key region up (spelled_storable bytes region stands) has.found has.left)

pub finds_use : (bytes new : List ℕ) (region : Region) (number : ℕ) (result : Result RegionKey NotUsed) → AreKeysInOrder region → SpellsRegion bytes region → UseOf region number result new → FindsUse region number result new
finds_use bytes new region number (Ok key) up stands outcome =
    let has : HasUse region number key = record { found = outcome.found; left = outcome.left } in
    let can : CanBeWritten (region_with_use number region) = use_written bytes region number key up stands has in
    record { has_use = has; stands = stands_written new (region_with_use number region) can (outcome.stored can) }
finds_use bytes new region number (Err NoKey) up stands outcome = outcome
finds_use bytes new region number (Err Spent) up stands outcome = outcome

-- the keys of each region that the area holds stand in order
pub ordered_held : {area : List ℕ} (read : List ℕ) (held : HoldsOrdered area) (region : Region) → IsBytes read → read ≡ area → HoldsRegion area region → AreKeysInOrder region
ordered_held read held region are same has =
    subst AreKeysInOrder (region_found _ read held.region region are same (subst (λ (xs : List ℕ). HoldsRegion xs held.region) (sym same) held.holds) has) held.ordered

pub some_held : {area : List ℕ} → HoldsOrdered area → HoldsSomeRegion area
some_held held = record { region = held.region; holds = held.holds }

pub use_short : (region : Region) (number : ℕ) (bytes : List ℕ) (result : Result RegionKey NotUsed) → FindsUse region number result bytes → OnOk result (length bytes ≤ 4094)
use_short region number bytes (Ok key) outcome = record_short bytes (region_with_use number region) outcome.stands
use_short region number bytes (Err refused) outcome = tt

pub use_room : (bytes new : List ℕ) (region : Region) (number old_room new_room : ℕ) (result : Result RegionKey NotUsed) → AreKeysInOrder region → SpellsRegion bytes region → UseOf region number result new
    → (CanBeWritten (region_with_use number region) → old_room ≤ new_room) → OnErr result (old_room ≤ new_room) → old_room ≤ new_room
use_room bytes new region number old_room new_room (Ok key) up stands outcome kept refused = kept (use_written bytes region number key up stands (record { found = outcome.found; left = outcome.left }))
use_room bytes new region number old_room new_room (Err end) up stands outcome kept refused = refused

-- ---- a commit, and then a wipe

pub replaces_then : (slot : ℕ) (region : Region) (before between after : Memory) → ReplacesRegion slot region before between → KeepsContents between after → ReplacesRegion slot region before after
replaces_then slot region before between after first second = record { replaced = λ contents holds. second.kept _ (first.replaced contents holds) }

pub replaced_on : {A E : Type 0} (result : Result A E) (slot : ℕ) (region : Region) (before between after : Memory) → ReplacesRegion slot region before between → KeepsContents between after → OnOk result (ReplacesRegion slot region before after)
replaced_on (Ok value) slot region before between after first second = replaces_then slot region before between after first second
replaced_on (Err error) slot region before between after first second = tt

pub either_then : (slot : ℕ) (region : Region) (before between after : Memory) → ReplacesRegion slot region before between → KeepsContents between after → KeepsOrReplaces slot region before after
either_then slot region before between after first second = inr (replaces_then slot region before between after first second)

-- two writes to a slot, and then one to its inactive area
both_counted : {A B E F : Type 0} (handed : A) (result : Result B F) (before between after : Meter) → IsMetered 2 {A = A} {E = E} (Ok handed) before between → IsMetered 1 result between after → IsMetered 3 result before after
both_counted handed (Ok value) before between after first second = record { armed = second.armed ∙ first.armed; stops = second.stops ∙ first.stops; writes = omega (arith, first.writes, second.writes); cut = tt }
both_counted handed (Err stop) before between after first second =
    record { armed = second.armed; stops = second.stops ∙ ap (λ n. n + 1) first.stops; writes = omega (arith, first.writes, second.writes); cut = sym first.armed ∙ second.cut }

level_then : {B F : Type 0} (result : Result B F) (before between after : ℕ) → between ≡ before → after ≡ level_of result between → after ≡ level_of result before
level_then (Ok value) before between after first second = second ∙ first
level_then (Err stop) before between after first second = second

pub ran_on : {A B E F : Type 0} (slot : ℕ) (handed : A) (result : Result B F) (before between after : Seen) → RanInSlot 2 slot {A = A} {E = E} (Ok handed) before between → RanInOther 1 slot result between after → RanInSlot 3 slot result before after
ran_on {A} {B} {E} {F} slot handed result before between after first second =
    let rest : IsSameBut slot between.memory.bbram after.memory.bbram = but_other slot between.memory.bbram after.memory.bbram second.rest in
    record {
      ran = record {
        power = second.ran.power;
        level = level_then result before.level between.level after.level first.ran.level second.ran.level;
        sized = second.ran.sized;
        ledger = second.ran.ledger ∙ first.ran.ledger;
        meter = both_counted {E = E} handed result before.meter between.meter after.meter first.ran.meter second.ran.meter;
      };
      flash = second.flash ∙ first.flash;
      rest = record {
        sized = rest.sized ∙ first.rest.sized;
        bytes = λ offset apart one two. rest.bytes offset apart one two ∙ first.rest.bytes offset apart one two;
      };
    }

-- ---- what is bound

pub use_stands : (area bytes : List ℕ) (number : ℕ) (found : RegionKey) → ((region : Region) → HoldsRegion area region → IsUsable region number found bytes) → (region : Region) → HoldsRegion area region → SpellsRegion bytes (region_with_use number region)
use_stands area bytes number found usable region has = (usable region has).stands

pub stores_use : (slot number : ℕ) (before after : Memory) (bytes : List ℕ) (found : RegionKey) → IsRegionSlot slot → ((region : Region) → HoldsRegion (area_of_slot before.bbram slot) region → IsUsable region number found bytes)
    → ((region : Region) → SpellsRegion bytes region → ReplacesRegion slot region before after) → StoresUse slot number before after
stores_use slot number before after bytes found which usable done =
    record { stored = edited_holds slot (region_with_use number) before after bytes which (use_stands (area_of_slot before.bbram slot) bytes number found usable) done }

pub keeps_or_stores : (slot number : ℕ) (before after : Memory) (bytes : List ℕ) (found : RegionKey) → IsRegionSlot slot → ((region : Region) → HoldsRegion (area_of_slot before.bbram slot) region → IsUsable region number found bytes)
    → ((region : Region) → SpellsRegion bytes region → KeepsOrReplaces slot region before after) → KeepsOrStoresUse slot number before after
keeps_or_stores slot number before after bytes found which usable done =
    edited_either slot (region_with_use number) before after bytes which (use_stands (area_of_slot before.bbram slot) bytes number found usable) done

-- ---- at the place of the slot

pub at_place : (bbram : List ℕ) {region : Region} (slot place : ℕ) → slot ≡ place → HoldsRegion (area_of_slot bbram place) region → HoldsRegion (area_of_slot bbram slot) region
at_place bbram {region} slot place same has = subst (λ (n : ℕ). HoldsRegion (area_of_slot bbram n) region) (sym same) has

pub stands_still : {read known : List ℕ} (region : Region) → read ≡ known → SpellsRegion known region → SpellsRegion read region
stands_still region same stands = subst (λ (xs : List ℕ). SpellsRegion xs region) (sym same) stands

pub refused_as : {end known : NotUsed} (region : Region) (number : ℕ) (bytes : List ℕ) → end ≡ known → FindsUse region number (Err end) bytes → FindsUse region number (Err known) bytes
refused_as region number bytes same outcome = subst (λ (e : NotUsed). FindsUse region number (Err e) bytes) same outcome

-- ---- the state

pub means_used : (slot number : ℕ) (before after : Memory) → IsRegionSlot slot → IsLoaded after → HasNoFate slot before → StoresUse slot number before after
    → (state : State) → Means before state → Means after (state_used slot number state)
means_used slot number before after which sized none stores = edited_stands slot (region_with_use number) before after which sized none stores.stored

pub means_kept_or_used : (slot number : ℕ) (before after : Memory) → IsRegionSlot slot → IsLoaded after → HasNoFate slot before → KeepsOrStoresUse slot number before after
    → (state : State) → Means before state → Means after state ⊎ Means after (state_used slot number state)
means_kept_or_used slot number before after which sized none either = edited_or_kept slot (region_with_use number) before after which sized none either
