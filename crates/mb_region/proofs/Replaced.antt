-- What a memory holds once a region was replaced.
use Rattle.std.proofs.Common.{◌≡◌, ℕ, ◌≤◌, ◌⊎◌, inl, inr, ◌==◌, if◌then◌else◌, Bool, true, false, List, [], ◌++◌, length, Option, None, Some, Result, Ok, Err, OnOk, refl, sym, ap, subst, ◌∙◌, arith}
use Rattle.mb_format.specs.Format.{IsBytes}
use Rattle.mb_model.specs.declared.region.Region.{Region}
use Rattle.mb_model.specs.declared.state.State.{State}
use Rattle.mb_model.specs.declared.stored.Fate.{Fate}
use Rattle.mb_model.specs.declared.stored.Fate.TheVariants.{Keep}
use Rattle.mb_model.specs.outside.Board.{Memory, IsLoaded}
use Rattle.mb_model.specs.memories.Memory.{area_of_slot, HoldsInArea}
use Rattle.mb_model.specs.memories.StoredLog.{HasIndex}
use Rattle.mb_model.specs.owners.Regions.{empty_region}
use Rattle.mb_model.specs.records.RegionFormat.{region_format, SpellsRegion, CanBeWritten, written_region}
use Rattle.mb_model.specs.memories.Meaning.{HoldsRegion, Contents, HoldsContents, region_after_fate, state_of_contents}
use Rattle.mb_model.proofs.RegionWriting.{written_spells, spelled_short, written_short, written_is_record}
use Rattle.mb_model_lemmas.proofs.MeaningLemmas.{one_region}
use Rattle.mb_model_lemmas.proofs.FateLemmas.{kept_as_before}
use Rattle.mb_layout_edits.specs.Edits.{IsFated}
use Rattle.mb_layout.specs.Found.{FindsBy}
use Rattle.mb_layout.proofs.Areas.{one_held}
use Rattle.mb_model.specs.declared.stored.Root.{Root}
use Rattle.std.specs.Global.{Vec}
use Rattle.std.specs.Vec.{vec_len, vec_capacity}
use Rattle.mb_bytes.specs.Puts.{Writes}
use Rattle.mb_model_memory.specs.InForce.{AgreeBesides}
use Rattle.mb_model_memory.proofs.FrameLemmas.{two_replaced, three_replaced}
use Rattle.mb_model_memory.specs.Holding.{Holds, Means, region_in_slot, with_region_in, fate_in_slot, KeepsContents}
use Rattle.mb_model_memory.proofs.CommitLemmas.{stands_for_meant, live_contents, two_done_means, three_done_means}
use Rattle.mb_board.specs.declared.board.Stopped.{Stopped}
use Rattle.mb_board.specs.Calls.{Seen}
use Rattle.mb_slot.specs.Slots.{CanUse}
use Rattle.mb_layout.specs.declared.room.Room.{Room}
use Rattle.mb_region.specs.Calls.{FinishesFate}
use Rattle.mb_region.specs.Regions.{IsRegionSlot, HoldsSomeRegion, ReplacesRegion, KeepsOrReplaces}
use Rattle.mb_region.specs.Fates.{CanBeFated, IsPending, fated_in, AppliesFate, KeepsOrApplies}

-- ---- what an area holds

-- the bytes that an area holds stand for the region that it holds
pub held_stands : (area bytes : List ℕ) (region : Region) → HoldsInArea area bytes → HoldsRegion area region → SpellsRegion bytes region
held_stands area bytes region found has = subst (λ (xs : List ℕ). SpellsRegion xs region) (one_held has.bytes bytes has.holds found) has.spelled

pub still_stands : {area : List ℕ} (read bytes : List ℕ) (region : Region) → read ≡ area → HoldsInArea read bytes → HoldsRegion area region → SpellsRegion bytes region
still_stands {area} read bytes region same found has = held_stands read bytes region found (subst (λ (xs : List ℕ). HoldsRegion xs region) (sym same) has)

pub no_bytes_held : (area read : List ℕ) → read ≡ area → HoldsSomeRegion area → ((bytes : List ℕ) → HoldsInArea read bytes → ⊥) → ⊥
no_bytes_held area read same has none = none has.holds.bytes (subst (λ (xs : List ℕ). HoldsInArea xs has.holds.bytes) (sym same) has.holds.holds)

pub no_region_held : (area read : List ℕ) → read ≡ area → HoldsSomeRegion area → ((region : Region) → HoldsRegion read region → ⊥) → ⊥
no_region_held area read same has none = none has.region (subst (λ (xs : List ℕ). HoldsRegion xs has.region) (sym same) has.holds)

pub region_found : (area read : List ℕ) (found region : Region) → IsBytes read → read ≡ area → HoldsRegion read found → HoldsRegion area region → found ≡ region
region_found area read found region are same here has = one_region read found region are here (subst (λ (xs : List ℕ). HoldsRegion xs region) (sym same) has)

-- ---- what is written for a region

-- a buffer holds what is written for a region, and has no less room than before
pub record IsWrittenIn (region : Region) (old new : Vec ℕ) : Type 0 where
  pub written : new.items ≡ written_region region
  pub capacity : vec_capacity old ≤ vec_capacity new

pub record_short : (bytes : List ℕ) (region : Region) → SpellsRegion bytes region → length bytes ≤ 4094
record_short bytes region spelled = omega (arith, spelled_short bytes region spelled)

pub stands_written : (bytes : List ℕ) (region : Region) → CanBeWritten region → bytes ≡ written_region region → SpellsRegion bytes region
stands_written bytes region can same = subst (λ (xs : List ℕ). SpellsRegion xs region) (sym same) (written_spells region can)

-- what a writer leaves that had room for the longest record
pub record_written : {E : Type 0} (region : Region) (old new : Vec ℕ) (result : Result (Unit {0}) E) → CanBeWritten region → (region ≡ empty_region → ⊥) → Writes (region_format.spelling (2, region)) old result new
    → old.items ≡ [] → vec_len old ≡ 0 → 4096 ≤ vec_capacity old → IsWrittenIn region old new
record_written region old new (Ok u) can some wrote none empty room = record {
  written = wrote.items ∙ ap (λ (front : List ℕ). front ++ region_format.spelling (2, region)) none ∙ sym (written_is_record region some);
  capacity = wrote.capacity;
}
record_written region old new (Err e) can some wrote none empty room =
    absurd (omega (arith, wrote.no_room, empty, room, ap length (written_is_record region some), written_short region can))

-- after its fate a held region has the bytes that the edit left
pub fated_stands : (fate : Fate) (area read bytes new : List ℕ) (region : Region) → IsBytes read → read ≡ area → CanBeFated fate area → HoldsInArea read bytes → IsFated fate bytes new → HoldsRegion area region → SpellsRegion new (region_after_fate fate region)
fated_stands fate area read bytes new region are same can found edited has =
    let here : HoldsRegion read region = subst (λ (xs : List ℕ). HoldsRegion xs region) (sym same) has in
    let one : can.region ≡ region = region_found area read can.region region are same (subst (λ (xs : List ℕ). HoldsRegion xs can.region) (sym same) can.holds) has in
    let after : CanBeWritten (region_after_fate fate region) = subst (λ (r : Region). CanBeWritten (region_after_fate fate r)) one can.stored in
    stands_written new (region_after_fate fate region) after (edited region (held_stands read bytes region found here) after)

-- ---- the contents

replaced_in : (slot : ℕ) (flash bbram other_bbram : List ℕ) (contents : Contents) (region : Region) → IsRegionSlot slot → AgreeBesides slot bbram other_bbram → HoldsRegion (area_of_slot other_bbram slot) region
    → HoldsContents flash bbram contents → HoldsContents flash other_bbram (with_region_in slot region contents)
replaced_in slot flash bbram other_bbram contents region (inl same) agree own holds =
    subst (λ (n : ℕ). HoldsContents flash other_bbram (with_region_in n region contents)) (sym same)
    (two_replaced flash bbram other_bbram contents region (subst (λ (n : ℕ). AgreeBesides n bbram other_bbram) same agree) (subst (λ (n : ℕ). HoldsRegion (area_of_slot other_bbram n) region) same own) holds)
replaced_in slot flash bbram other_bbram contents region (inr same) agree own holds =
    subst (λ (n : ℕ). HoldsContents flash other_bbram (with_region_in n region contents)) (sym same)
    (three_replaced flash bbram other_bbram contents region (subst (λ (n : ℕ). AgreeBesides n bbram other_bbram) same agree) (subst (λ (n : ℕ). HoldsRegion (area_of_slot other_bbram n) region) same own) holds)

pub replaces : (slot : ℕ) (region : Region) (before after : Memory) → IsRegionSlot slot → after.flash ≡ before.flash → AgreeBesides slot before.bbram after.bbram → HoldsRegion (area_of_slot after.bbram slot) region
    → ReplacesRegion slot region before after
replaces slot region before after which flash agree own = record {
  replaced = λ contents holds.
      subst (λ (f : List ℕ). HoldsContents f after.bbram (with_region_in slot region contents)) (sym flash) (replaced_in slot before.flash before.bbram after.bbram contents region which agree own holds);
}

as_it_was : (slot : ℕ) (flash bbram other_bbram : List ℕ) (contents : Contents) → IsRegionSlot slot → AgreeBesides slot bbram other_bbram → area_of_slot other_bbram slot ≡ area_of_slot bbram slot
    → HoldsContents flash bbram contents → HoldsContents flash other_bbram contents
as_it_was slot flash bbram other_bbram contents (inl same) agree area holds =
    two_replaced flash bbram other_bbram contents contents.two (subst (λ (n : ℕ). AgreeBesides n bbram other_bbram) same agree)
    (subst (λ (a : List ℕ). HoldsRegion a contents.two) (sym (subst (λ (n : ℕ). area_of_slot other_bbram n ≡ area_of_slot bbram n) same area)) holds.two) holds
as_it_was slot flash bbram other_bbram contents (inr same) agree area holds =
    three_replaced flash bbram other_bbram contents contents.three (subst (λ (n : ℕ). AgreeBesides n bbram other_bbram) same agree)
    (subst (λ (a : List ℕ). HoldsRegion a contents.three) (sym (subst (λ (n : ℕ). area_of_slot other_bbram n ≡ area_of_slot bbram n) same area)) holds.three) holds

pub keeps : (slot : ℕ) (before after : Memory) → IsRegionSlot slot → after.flash ≡ before.flash → AgreeBesides slot before.bbram after.bbram → area_of_slot after.bbram slot ≡ area_of_slot before.bbram slot → KeepsContents before after
keeps slot before after which flash agree area = record {
  kept = λ contents holds. subst (λ (f : List ℕ). HoldsContents f after.bbram contents) (sym flash) (as_it_was slot before.flash before.bbram after.bbram contents which agree area holds);
}

pub keeps_or_replaces : (slot : ℕ) (before after : Memory) (bytes : List ℕ) → IsRegionSlot slot → after.flash ≡ before.flash → AgreeBesides slot before.bbram after.bbram
    → (area_of_slot after.bbram slot ≡ area_of_slot before.bbram slot) ⊎ HoldsInArea (area_of_slot after.bbram slot) bytes → (region : Region) → SpellsRegion bytes region → KeepsOrReplaces slot region before after
keeps_or_replaces slot before after bytes which flash agree (inl same) region spelled = inl (keeps slot before after which flash agree same)
keeps_or_replaces slot before after bytes which flash agree (inr holds) region spelled =
    inr (replaces slot region before after which flash agree (record { bytes = bytes; holds = holds; spelled = spelled }))

-- ---- fates

region_held : (slot : ℕ) (memory : Memory) (contents : Contents) → IsRegionSlot slot → Holds memory contents → HoldsRegion (area_of_slot memory.bbram slot) (region_in_slot slot contents)
region_held slot memory contents (inl same) holds = subst (λ (n : ℕ). HoldsRegion (area_of_slot memory.bbram n) (region_in_slot n contents)) (sym same) holds.two
region_held slot memory contents (inr same) holds = subst (λ (n : ℕ). HoldsRegion (area_of_slot memory.bbram n) (region_in_slot n contents)) (sym same) holds.three

kept_in : (b : Bool) (contents : Contents) → ◌≡◌ {A = Contents} (if b then record contents { two = region_after_fate Keep (if b then contents.two else contents.three) } else record contents { three = region_after_fate Keep (if b then contents.two else contents.three) }) contents
kept_in true contents = ap (λ (r : Region). let c : Contents = record contents { two = r } in c) (kept_as_before contents.two)
kept_in false contents = ap (λ (r : Region). let c : Contents = record contents { three = r } in c) (kept_as_before contents.three)

-- a fate that keeps a region is applied by nothing
pub keep_applied : (slot : ℕ) (memory : Memory) → AppliesFate slot Keep memory memory
keep_applied slot memory = record { applied = λ contents holds. subst (Holds memory) (sym (kept_in (slot == 2) contents)) holds }

pub fate_kept : (slot : ℕ) (fate : Fate) (memory : Memory) → fate ≡ Keep → AppliesFate slot fate memory memory
fate_kept slot fate memory same = subst (λ (f : Fate). AppliesFate slot f memory memory) (sym same) (keep_applied slot memory)

pub keep_finished : (slot : ℕ) (fate : Fate) (room : Room) (seen : Seen) → CanUse seen slot → fate ≡ Keep → FinishesFate slot fate room room {A = Unit {0}} {E = Stopped} (Ok tt) seen seen
keep_finished slot fate room seen can same = record {
  done = fate_kept slot fate seen.memory same;
  either = λ contents holds. inl holds;
  meaning = λ state means. means;
  idle = λ keep. (refl, refl, refl);
  besides = record { life = refl; between = refl; others = λ m least most apart. refl };
  ran = record {
    ran = record { power = can.on; level = refl; sized = can.loaded; ledger = refl; meter = record { armed = refl; stops = refl; writes = omega arith; cut = tt } };
    flash = refl;
    rest = record { sized = refl; bytes = λ offset selector first second. refl };
  };
  plans = record { code = refl; code_layer = refl; header = refl; log = refl };
}

-- these bytes stand for each region that the area held, after this edit
abbrev pub AreEdited : (Region → Region) → List ℕ → List ℕ → Type 0
AreEdited edit area bytes = (region : Region) → HoldsRegion area region → SpellsRegion bytes (edit region)

-- so where a region is replaced by the one for which they stand, the contents have the region after the edit
pub edited_holds : (slot : ℕ) (edit : Region → Region) (before after : Memory) (bytes : List ℕ) → IsRegionSlot slot → AreEdited edit (area_of_slot before.bbram slot) bytes
    → ((region : Region) → SpellsRegion bytes region → ReplacesRegion slot region before after)
    → (contents : Contents) → Holds before contents → Holds after (with_region_in slot (edit (region_in_slot slot contents)) contents)
edited_holds slot edit before after bytes which spelled done contents holds =
    (done (edit (region_in_slot slot contents)) (spelled (region_in_slot slot contents) (region_held slot before contents which holds))).replaced contents holds

-- and where it may be replaced, they stay or have it
pub edited_either : (slot : ℕ) (edit : Region → Region) (before after : Memory) (bytes : List ℕ) → IsRegionSlot slot → AreEdited edit (area_of_slot before.bbram slot) bytes
    → ((region : Region) → SpellsRegion bytes region → KeepsOrReplaces slot region before after)
    → (contents : Contents) → Holds before contents → Holds after contents ⊎ Holds after (with_region_in slot (edit (region_in_slot slot contents)) contents)
edited_either slot edit before after bytes which spelled done contents holds =
    each (done (edit (region_in_slot slot contents)) (spelled (region_in_slot slot contents) (region_held slot before contents which holds)))
  where
    each : KeepsContents before after ⊎ ReplacesRegion slot (edit (region_in_slot slot contents)) before after
        → Holds after contents ⊎ Holds after (with_region_in slot (edit (region_in_slot slot contents)) contents)
    each (inl keeps) = inl (keeps.kept contents holds)
    each (inr replaces) = inr (replaces.replaced contents holds)

pub fate_done : {A E : Type 0} (slot : ℕ) (fate : Fate) (before after : Memory) (written bytes : List ℕ) (result : Result A E) → IsRegionSlot slot → written ≡ bytes → AreEdited (region_after_fate fate) (area_of_slot before.bbram slot) bytes
    → ((region : Region) → SpellsRegion written region → OnOk result (ReplacesRegion slot region before after)) → OnOk result (AppliesFate slot fate before after)
fate_done slot fate before after written bytes (Ok value) which same spelled done =
    record { applied = edited_holds slot (region_after_fate fate) before after written which (subst (AreEdited (region_after_fate fate) (area_of_slot before.bbram slot)) (sym same) spelled) done }
fate_done slot fate before after written bytes (Err error) which same spelled done = tt

pub fate_either : (slot : ℕ) (fate : Fate) (before after : Memory) (written bytes : List ℕ) → IsRegionSlot slot → written ≡ bytes → AreEdited (region_after_fate fate) (area_of_slot before.bbram slot) bytes
    → ((region : Region) → SpellsRegion written region → KeepsOrReplaces slot region before after) → KeepsOrApplies slot fate before after
fate_either slot fate before after written bytes which same spelled done =
    edited_either slot (region_after_fate fate) before after written which (subst (AreEdited (region_after_fate fate) (area_of_slot before.bbram slot)) (sym same) spelled) done

-- ---- the meaning

done_means : (slot : ℕ) (fate : Fate) (contents : Contents) → IsRegionSlot slot → fate_in_slot slot contents.root.pending ≡ fate → state_of_contents (fated_in slot fate contents) ≡ state_of_contents contents
done_means slot fate contents (inl same) is =
    subst (λ (f : Fate). state_of_contents (fated_in slot f contents) ≡ state_of_contents contents) is
    (subst (λ (n : ℕ). state_of_contents (fated_in n (fate_in_slot n contents.root.pending) contents) ≡ state_of_contents contents) (sym same) (two_done_means contents))
done_means slot fate contents (inr same) is =
    subst (λ (f : Fate). state_of_contents (fated_in slot f contents) ≡ state_of_contents contents) is
    (subst (λ (n : ℕ). state_of_contents (fated_in n (fate_in_slot n contents.root.pending) contents) ≡ state_of_contents contents) (sym same) (three_done_means contents))

pub root_in : (b : Bool) (region other_region : Region) (contents : Contents) → ◌≡◌ {A = Root} (if b then record contents { two = region } else record contents { three = other_region }).root contents.root
root_in true region other_region contents = refl
root_in false region other_region contents = refl

pub fate_means : (slot : ℕ) (fate : Fate) (before after : Memory) (state : State) → IsRegionSlot slot → IsLoaded after → IsPending slot fate before → KeepsOrApplies slot fate before after
    → Means before state → Means after state
fate_means slot fate before after state which sized is either means =
    let live = live_contents before.flash before.bbram state means in
    each live.contents live.index (sym live.means) (is.pending live.contents live.holds) (either live.contents live.holds)
  where
    each : (contents : Contents) → HasIndex contents.root contents.root.pending → state_of_contents contents ≡ state → fate_in_slot slot contents.root.pending ≡ fate
        → Holds after contents ⊎ Holds after (fated_in slot fate contents) → Means after state
    each contents index same pending (inl holds) = stands_for_meant after.flash after.bbram contents state sized holds index same
    each contents index same pending (inr holds) =
        stands_for_meant after.flash after.bbram (fated_in slot fate contents) state sized holds
        (subst (λ (r : Root). HasIndex r r.pending) (sym (root_in (slot == 2) _ _ contents)) index)
        (done_means slot fate contents which pending ∙ same)

-- ---- what was read

pub bytes_read : {read known : List ℕ} → read ≡ known → IsBytes known → IsBytes read
bytes_read same are = subst IsBytes (sym same) are

pub finds_none : {area : List ℕ} {found : Option Region} → found ≡ None → FindsBy (λ (region : Region). region) (HoldsRegion area) found → (region : Region) → HoldsRegion area region → ⊥
finds_none {area} {found} same finds = subst (FindsBy (λ (region : Region). region) (HoldsRegion area)) same finds

pub finds_some : {area : List ℕ} {found : Option Region} {region : Region} → found ≡ Some region → FindsBy (λ (it : Region). it) (HoldsRegion area) found → HoldsRegion area region
finds_some {area} {found} {region} same finds = subst (FindsBy (λ (it : Region). it) (HoldsRegion area)) same finds
