-- What a region that is edited leaves of the state for which a memory stands.
use Rattle.std.proofs.Common.{◌≡◌, ℕ, ◌==◌, ◌⊎◌, inl, inr, sym, ap, subst, ◌∙◌}
use Rattle.mb_model.specs.declared.region.Region.{Region}
use Rattle.mb_model.specs.declared.state.State.{State}
use Rattle.mb_model.specs.declared.stored.Root.{Root}
use Rattle.mb_model.specs.declared.stored.Fate.{Fate}
use Rattle.mb_model.specs.declared.stored.Fate.TheVariants.{Keep}
use Rattle.mb_model.specs.outside.Board.{Memory, IsLoaded}
use Rattle.mb_model.specs.memories.Meaning.{Contents, state_of_contents, region_after_fate, fate_of_two, fate_of_three}
use Rattle.mb_model.specs.owners.Regions.{region_of, with_region}
use Rattle.mb_model.specs.memories.StoredLog.{HasIndex}
use Rattle.mb_model_lemmas.proofs.FateLemmas.{kept_as_before}
use Rattle.mb_model_memory.specs.Holding.{Holds, Means, region_in_slot, with_region_in, fate_in_slot}
use Rattle.mb_model_memory.proofs.CommitLemmas.{live_contents, stands_for_meant}
use Rattle.mb_region.specs.Regions.{IsRegionSlot, HasNoFate, ReplacesRegion, KeepsOrReplaces}
use Rattle.mb_region.proofs.Replaced.{root_in}

-- where nothing is to be done to a region, an edit of it is one of the state
edit_kept : (fate : Fate) (edit : Region → Region) (region : Region) → fate ≡ Keep → region_after_fate fate (edit region) ≡ edit (region_after_fate fate region)
edit_kept fate edit region none =
    let plain : (r : Region) → region_after_fate fate r ≡ r = λ r. ap (λ (f : Fate). region_after_fate f r) none ∙ kept_as_before r in
    plain (edit region) ∙ ap edit (sym (plain region))

two_edited : (edit : Region → Region) (contents : Contents) → fate_of_two contents.root.pending ≡ Keep
    → state_of_contents (with_region_in 2 (edit contents.two) contents) ≡ with_region (state_of_contents contents) 2 (edit (region_of (state_of_contents contents) 2))
unfolding state_of_contents
two_edited edit contents none =
    ap (λ (r : Region). let s : State = record (state_of_contents contents) { two = r } in s) (edit_kept (fate_of_two contents.root.pending) edit contents.two none)

three_edited : (edit : Region → Region) (contents : Contents) → fate_of_three contents.root.pending ≡ Keep
    → state_of_contents (with_region_in 3 (edit contents.three) contents) ≡ with_region (state_of_contents contents) 3 (edit (region_of (state_of_contents contents) 3))
unfolding state_of_contents
three_edited edit contents none =
    ap (λ (r : Region). let s : State = record (state_of_contents contents) { three = r } in s) (edit_kept (fate_of_three contents.root.pending) edit contents.three none)

edited_means : (slot : ℕ) (edit : Region → Region) (contents : Contents) → IsRegionSlot slot → fate_in_slot slot contents.root.pending ≡ Keep
    → state_of_contents (with_region_in slot (edit (region_in_slot slot contents)) contents) ≡ with_region (state_of_contents contents) slot (edit (region_of (state_of_contents contents) slot))
edited_means slot edit contents (inl same) none =
    subst (λ (n : ℕ). state_of_contents (with_region_in n (edit (region_in_slot n contents)) contents) ≡ with_region (state_of_contents contents) n (edit (region_of (state_of_contents contents) n))) (sym same)
    (two_edited edit contents (subst (λ (n : ℕ). fate_in_slot n contents.root.pending ≡ Keep) same none))
edited_means slot edit contents (inr same) none =
    subst (λ (n : ℕ). state_of_contents (with_region_in n (edit (region_in_slot n contents)) contents) ≡ with_region (state_of_contents contents) n (edit (region_of (state_of_contents contents) n))) (sym same)
    (three_edited edit contents (subst (λ (n : ℕ). fate_in_slot n contents.root.pending ≡ Keep) same none))

-- a memory that holds the edited contents stands for the edited state
pub edited_stands : (slot : ℕ) (edit : Region → Region) (before after : Memory) → IsRegionSlot slot → IsLoaded after → HasNoFate slot before
    → ((contents : Contents) → Holds before contents → Holds after (with_region_in slot (edit (region_in_slot slot contents)) contents))
    → (state : State) → Means before state → Means after (with_region state slot (edit (region_of state slot)))
edited_stands slot edit before after which sized none holds state means =
    let live = live_contents before.flash before.bbram state means in
    let region = edit (region_in_slot slot live.contents) in
    stands_for_meant after.flash after.bbram (with_region_in slot region live.contents) (with_region state slot (edit (region_of state slot))) sized (holds live.contents live.holds)
    (subst (λ (r : Root). HasIndex r r.pending) (sym (root_in (slot == 2) _ _ live.contents)) live.index)
    (edited_means slot edit live.contents which (none.none live.contents live.holds) ∙ ap (λ (s : State). with_region s slot (edit (region_of s slot))) (sym live.means))

-- and where it holds those or the ones before, it stands for the one or the other
pub edited_or_kept : (slot : ℕ) (edit : Region → Region) (before after : Memory) → IsRegionSlot slot → IsLoaded after → HasNoFate slot before
    → ((contents : Contents) → Holds before contents → Holds after contents ⊎ Holds after (with_region_in slot (edit (region_in_slot slot contents)) contents))
    → (state : State) → Means before state → Means after state ⊎ Means after (with_region state slot (edit (region_of state slot)))
edited_or_kept slot edit before after which sized none either state means =
    let live = live_contents before.flash before.bbram state means in
    each live.contents live.index (sym live.means) (none.none live.contents live.holds) (either live.contents live.holds)
  where
    each : (contents : Contents) → HasIndex contents.root contents.root.pending → state_of_contents contents ≡ state → fate_in_slot slot contents.root.pending ≡ Keep
        → Holds after contents ⊎ Holds after (with_region_in slot (edit (region_in_slot slot contents)) contents)
        → Means after state ⊎ Means after (with_region state slot (edit (region_of state slot)))
    each contents index same free (inl holds) = inl (stands_for_meant after.flash after.bbram contents state sized holds index same)
    each contents index same free (inr holds) = inr (stands_for_meant after.flash after.bbram (with_region_in slot (edit (region_in_slot slot contents)) contents)
        (with_region state slot (edit (region_of state slot))) sized holds
        (subst (λ (r : Root). HasIndex r r.pending) (sym (root_in (slot == 2) _ _ contents)) index)
        (edited_means slot edit contents which free ∙ ap (λ (s : State). with_region s slot (edit (region_of s slot))) same))

-- ---- a region put in place of another

pub state_replaced : (slot place : ℕ) (region : Region) (before after : Memory) → slot ≡ place → IsRegionSlot place → IsLoaded after → HasNoFate place before
    → ReplacesRegion slot region before after → (state : State) → Means before state → Means after (with_region state place region)
state_replaced slot place region before after same which sized none replaces =
    edited_stands place (λ r. region) before after which sized none (subst (λ (n : ℕ). ReplacesRegion n region before after) same replaces).replaced

pub state_replaced_or_kept : (slot place : ℕ) (region : Region) (before after : Memory) → slot ≡ place → IsRegionSlot place → IsLoaded after → HasNoFate place before
    → KeepsOrReplaces slot region before after → (state : State) → Means before state → Means after state ⊎ Means after (with_region state place region)
state_replaced_or_kept slot place region before after same which sized none either =
    edited_or_kept place (λ r. region) before after which sized none (each (subst (λ (n : ℕ). KeepsOrReplaces n region before after) same either))
  where
    each : KeepsOrReplaces place region before after → (contents : Contents) → Holds before contents → Holds after contents ⊎ Holds after (with_region_in place region contents)
    each (inl keeps) contents holds = inl (keeps.kept contents holds)
    each (inr replaces) contents holds = inr (replaces.replaced contents holds)
