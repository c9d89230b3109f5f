-- What is stored of a state where nothing is pending.
use Rattle.std.proofs.Common.{◌≡◌, ℕ, List, [], ◌∷◌, ◌++◌, length, Option, None, Some, refl, sym, ap, subst, ◌∙◌, arith, append-nil}
use Rattle.mb_format.specs.Format.{IsBytes}
use Rattle.mb_model.specs.declared.entry.Entry.{Entry}
use Rattle.mb_model.specs.declared.entry.SignedEntry.{SignedEntry}
use Rattle.mb_model.specs.declared.region.Region.{Region}
use Rattle.mb_model.specs.declared.state.State.{State}
use Rattle.mb_model.specs.declared.stored.Pending.{Pending}
use Rattle.mb_model.specs.declared.stored.Root.{Root}
use Rattle.mb_model.specs.owners.Log.{entries_of, layers_of}
use Rattle.mb_model.specs.records.RootFormat.{root_format}
use Rattle.mb_model.specs.machine.OrderEffects.{state_after_order}
use Rattle.mb_model.specs.memories.Flash.{HoldsPublic}
use Rattle.mb_model.specs.memories.Memory.{AreSized, area_of_slot, HoldsRecord}
use Rattle.mb_model.specs.memories.StoredLog.{how_many_unsigned, AreCounted, entries_signed_for, outgoing_of}
use Rattle.mb_model.specs.memories.StoredLog.{log_completed_by}
use Rattle.mb_model.specs.memories.Meaning.{RootIn, Contents, HoldsContents, region_after_fate, fate_of_two, fate_of_three, state_of_contents, StandsFor}
use Rattle.mb_model.specs.memories.Clean.{root_of, IsCleanFor}
use Rattle.mb_model_lemmas.proofs.FateLemmas.{kept_as_before}
use Rattle.mb_model_lemmas.proofs.MeaningLemmas.{one_root_in, contents_of}
use Rattle.mb_model_memory.specs.Commits.{new_entries}
use Rattle.mb_model_memory.specs.Commits.{root_for, committed, both_done, at_rest}
use Rattle.mb_model_memory.specs.InForce.{AgreeBesides}
use Rattle.mb_model_memory.proofs.CommitLemmas.{meant_is, stands_for_meant, live_contents}
use Rattle.mb_model_memory.proofs.FrameLemmas.{root_replaced}
use Rattle.mb_model.specs.declared.order.Order.{Order}

rest_log : (state : State) (area : ℕ) → log_completed_by (root_of state area) state.log [] ≡ state.log
unfolding log_completed_by
rest_log state area = append-nil state.log

pub rest_means : (state : State) (area : ℕ) → state.layers ≡ layers_of (entries_of state.log) → state_of_contents (at_rest state area) ≡ state
rest_means state area layers = meant_is (at_rest state area) state layers (record {
  serial = refl;
  codes = refl;
  log = rest_log state area;
  device = refl;
  uses = refl;
  two = kept_as_before state.two;
  three = kept_as_before state.three;
})

pub rest_stands : (flash bbram : List ℕ) (state : State) (area : ℕ) → AreSized flash bbram → state.layers ≡ layers_of (entries_of state.log)
    → HoldsContents flash bbram (at_rest state area) → StandsFor flash bbram (Some state)
rest_stands flash bbram state area sized layers holds = stands_for_meant flash bbram (at_rest state area) state sized holds tt (rest_means state area layers)

-- the layers that contents mean are those of the log that they mean
pub meant_layers : (contents : Contents) → (state_of_contents contents).layers ≡ layers_of (entries_of (state_of_contents contents).log)
unfolding state_of_contents
meant_layers contents = refl

pub settled_means : (contents : Contents) (area : ℕ) → state_of_contents (at_rest (state_of_contents contents) area) ≡ state_of_contents contents
settled_means contents area = rest_means (state_of_contents contents) area (meant_layers contents)

-- ---- nothing is pending

no_entries : (unsigned : List Entry) (pending : Option Pending) → pending ≡ None → length unsigned ≡ how_many_unsigned pending → unsigned ≡ []
no_entries [] pending none counted = refl
no_entries (entry ∷ rest) pending none counted = absurd (omega (arith, counted, ap how_many_unsigned none))

abbrev with_pending : Root → Option Pending → Root
with_pending root pending = record root { pending = pending }

-- nothing is left to be signed
whole_log : (root : Root) (signed : List SignedEntry) (unsigned : List Entry) → root.pending ≡ None → unsigned ≡ [] → log_completed_by root signed unsigned ≡ signed
unfolding log_completed_by
whole_log root signed unsigned none no_more =
    ap (λ (es : List Entry). signed ++ entries_signed_for root.device root.uses (outgoing_of root.pending) es) no_more
    ∙ ap (λ (p : Option Pending). signed ++ entries_signed_for root.device root.uses (outgoing_of p) []) none
    ∙ append-nil signed

kept_two : (pending : Option Pending) (region : Region) → pending ≡ None → region ≡ region_after_fate (fate_of_two pending) region
kept_two pending region none = sym (ap (λ (p : Option Pending). region_after_fate (fate_of_two p) region) none ∙ kept_as_before region)

kept_three : (pending : Option Pending) (region : Region) → pending ≡ None → region ≡ region_after_fate (fate_of_three pending) region
kept_three pending region none = sym (ap (λ (p : Option Pending). region_after_fate (fate_of_three p) region) none ∙ kept_as_before region)

pub nothing_pending : (contents : Contents) → contents.root.pending ≡ None → AreCounted contents.root.pending contents.unsigned
    → contents ≡ at_rest (state_of_contents contents) contents.root.area
unfolding state_of_contents
nothing_pending c none are =
    let pending : Option Pending = c.root.pending in
    let no_more : c.unsigned ≡ [] = no_entries c.unsigned pending none are.counted in
    let log : List SignedEntry = log_completed_by c.root c.signed c.unsigned in
    let two : Region = region_after_fate (fate_of_two pending) c.two in
    ap (λ (x : Option Pending). contents_of (with_pending c.root x) c.codes c.signed c.unsigned c.two c.three) none
    ∙ ap (λ (x : List SignedEntry). contents_of (with_pending c.root None) c.codes x c.unsigned c.two c.three) (sym (whole_log c.root c.signed c.unsigned none no_more))
    ∙ ap (λ (x : List Entry). contents_of (with_pending c.root None) c.codes log x c.two c.three) no_more
    ∙ ap (λ (x : Region). contents_of (with_pending c.root None) c.codes log [] x c.three) (kept_two pending c.two none)
    ∙ ap (λ (x : Region). contents_of (with_pending c.root None) c.codes log [] two x) (kept_three pending c.three none)

-- ---- clean memories

held_at_rest : (flash bbram : List ℕ) (state : State) (clean : IsCleanFor bbram state) (contents : Contents) → contents.root ≡ root_of state clean.area → HoldsContents flash bbram contents
    → state ≡ state_of_contents contents → HoldsContents flash bbram (at_rest state clean.area)
held_at_rest flash bbram state clean contents root holds means =
    let none : contents.root.pending ≡ None = ap (λ (r : Root). r.pending) root in
    let area : contents.root.area ≡ clean.area = ap (λ (r : Root). r.area) root in
    let rest : contents ≡ at_rest (state_of_contents contents) contents.root.area = nothing_pending contents none holds.public.counted in
    subst (HoldsContents flash bbram) (rest ∙ ap (at_rest (state_of_contents contents)) area ∙ ap (λ (s : State). at_rest s clean.area) (sym means)) holds

pub clean_and_stands : (flash bbram : List ℕ) (state : State) (clean : IsCleanFor bbram state) → IsBytes bbram → StandsFor flash bbram (Some state)
    → HoldsContents flash bbram (at_rest state clean.area)
clean_and_stands flash bbram state clean are stands =
    let live = live_contents flash bbram state stands in
    let root : live.contents.root ≡ root_of state clean.area = one_root_in bbram live.contents.root (root_of state clean.area) are live.holds.root clean.root in
    held_at_rest flash bbram state clean live.contents root live.holds live.means

-- the same where only one root is in force
pub rests_by_root : (flash bbram : List ℕ) (state : State) (clean : IsCleanFor bbram state) (only : Root) → ((root : Root) → RootIn bbram root → root ≡ only) → StandsFor flash bbram (Some state)
    → HoldsContents flash bbram (at_rest state clean.area)
rests_by_root flash bbram state clean only is stands =
    let live = live_contents flash bbram state stands in
    held_at_rest flash bbram state clean live.contents (is live.contents.root live.holds.root ∙ sym (is (root_of state clean.area) clean.root)) live.holds live.means

-- ---- an order from rest to rest

pub order_committed : (flash bbram other_bbram : List ℕ) (state : State) (order : Order) (draw : List ℕ) (area other_area : ℕ) → AgreeBesides 1 bbram other_bbram
    → HoldsRecord root_format (area_of_slot other_bbram 1) (root_for state order draw other_area)
    → HoldsPublic flash (root_for state order draw other_area) (state_after_order state order draw).codes state.log (new_entries state order draw)
    → HoldsContents flash bbram (at_rest state area) → HoldsContents flash other_bbram (committed state order draw other_area)
unfolding committed
order_committed flash bbram other_bbram state order draw area other_area agree own public holds =
    root_replaced flash bbram other_bbram (at_rest state area) (root_for state order draw other_area) (state_after_order state order draw).codes state.log (new_entries state order draw) agree own public holds

pub work_finished : (flash bbram other_bbram : List ℕ) (contents : Contents) (area : ℕ) → AgreeBesides 1 bbram other_bbram
    → HoldsRecord root_format (area_of_slot other_bbram 1) (root_of (state_of_contents contents) area)
    → HoldsPublic flash (root_of (state_of_contents contents) area) contents.codes (state_of_contents contents).log []
    → HoldsContents flash bbram (both_done contents) → HoldsContents flash other_bbram (at_rest (state_of_contents contents) area)
unfolding state_of_contents
work_finished flash bbram other_bbram contents area agree own public holds =
    root_replaced flash bbram other_bbram (both_done contents) (root_of (state_of_contents contents) area) contents.codes (state_of_contents contents).log [] agree own public holds
