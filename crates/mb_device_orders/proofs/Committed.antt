-- How the steps of a commit join.
use Rattle.std.proofs.Common.{◌≡◌, ◌≤◌, ◌<◌, ◌⊎◌, inl, inr, ℕ, ◌+◌, ◌-◌, ◌/◌, List, length, Bool, true, false, Option, None, Some, refl, sym, ap, subst, ◌∙◌, arith, eqb-true}
use Rattle.std.specs.Prelude.{◌==◌, IfSome, if◌then◌else◌}
use Rattle.mb_model.specs.declared.order.Order.{Order}
use Rattle.mb_model.specs.declared.state.Codes.{Codes}
use Rattle.mb_model.specs.declared.state.State.{State}
use Rattle.mb_model.specs.declared.stored.Header.{Header}
use Rattle.mb_model.specs.declared.stored.Root.{Root}
use Rattle.mb_model.specs.outside.Board.{Memory, IsLoaded}
use Rattle.mb_model.specs.memories.Clean.{root_of}
use Rattle.mb_model.specs.memories.Flash.{sector, HoldsHeader, HoldsPublic}
use Rattle.mb_model.specs.records.HeaderFormat.{header_format}
use Rattle.mb_model.specs.memories.Meaning.{RootIn}
use Rattle.mb_model.specs.machine.OrderEffects.{state_after_order}
use Rattle.mb_model.specs.records.RootFormat.{root_format}
use Rattle.mb_model.specs.memories.Sectors.{header_sector, log_sector}
use Rattle.mb_model.specs.memories.StoredLog.{AreCounted}
use Rattle.mb_model_lemmas.proofs.HeldSegments.{begins_with}
use Rattle.mb_model_lemmas.proofs.ValidSteps.{obeyed_valid}
use Rattle.mb_model_memory.specs.Commits.{committed, at_rest, new_entries}
use Rattle.mb_model.specs.memories.Spared.{SparesSectors}
use Rattle.mb_model_memory.specs.FlashInForce.{slot_in, AgreeForArea}
use Rattle.mb_model_memory.specs.Holding.{Holds, Means, KeepsContents, KeepsMeaning, IsReady}
use Rattle.mb_model_memory.specs.NextHeaders.{code_brought, IsCodeWritten, header_after}
use Rattle.mb_model_memory.proofs.CommitLemmas.{commit_counted, commit_stands, committed_area_is}
use Rattle.mb_model_memory.proofs.FlashFrames.{signed_log_stays}
use Rattle.mb_model_memory.proofs.FlashHeaders.{code_brought_short}
use Rattle.mb_model_memory.proofs.FlashWrites.{order_written}
use Rattle.mb_model_memory.proofs.HoldingLemmas.{contents_keep}
use Rattle.mb_model_memory.proofs.StorableMemories.{stands_storable}
use Rattle.mb_model_memory.proofs.StorableRecords.{committed_root}
use Rattle.mb_layout.specs.declared.room.Room.{Room}
use Rattle.mb_area.specs.Flashes.{HoldsSomeHeader, IsCurrentArea, IsPlan, IsPublicWritten, code_to_write, code_sectors}
use Rattle.mb_area.specs.Roots.{HasSomeRoot, CommitsRoot}
use Rattle.mb_boot.specs.Settling.{IsLive}
use Rattle.mb_boot.specs.Booting.{Cleans}
use Rattle.mb_device_orders.specs.Planning.{IsToWrite, IsCommit, HasCommit}
use Rattle.mb_device_orders.proofs.Headers.{header_size}
use Rattle.mb_device_orders.proofs.Planned.{obeyed_codes, order_layer}
use Rattle.mb_device_orders.proofs.Remembered.{small_area}

-- ---- before the first write

pub next_area : (memory : Memory) (root : Root) (room : Room) (state : State) (order : Order) (draw : List ℕ) (is : IsCommit memory root room state order draw) → (root.area ≤ 1) × (1 - root.area ≡ is.area)
next_area memory root room state order draw is =
    let area : root.area ≡ 1 - is.area = ap (λ (r : Root). r.area) is.root_is ∙ committed_area_is state order draw (1 - is.area) in
    let small : is.area ≤ 1 = small_area memory.bbram (root_of state is.area) is.only_root in
    (omega (arith, area), omega (arith, area, small))

-- the root that commits the order names the header area that is not current
pub small_next : (memory : Memory) (root : Root) (room : Room) → HasCommit memory root room → root.area ≤ 1
small_next memory root room has = (next_area memory root room has.state has.order has.draw has.commit).0

pub area_there : (memory : Memory) (root : Root) (room : Room) → HasCommit memory root room → IsCurrentArea memory (1 - root.area)
area_there memory root room has =
    let is = has.commit in
    let same : is.area ≡ 1 - root.area = sym (next_area memory root room has.state has.order has.draw is).1 in
    record {
      root = root_of has.state is.area;
      only = is.only_root;
      area_is = same;
      header = subst (λ (n : ℕ). HoldsSomeHeader memory.flash n) same (record { header = is.holds.public.header; begins = is.holds.public.begins });
    }

code_fits : (room : Room) (layer : ℕ) (brought : Option (List ℕ)) → layer ≤ 3 → IfSome brought (λ code. length code ≤ 32768) → IsToWrite room layer brought → (room.code_layer ≤ 3) × (length room.code.items ≤ 32768)
code_fits room layer None most short is = (omega (arith, is.0), omega (arith, ap length is.1))
code_fits room layer (Some code) most short is = (omega (arith, is.0, most), omega (arith, ap length is.1, short))

pub plan_is : (memory : Memory) (root : Root) (room : Room) → HasCommit memory root room → IsPlan room
plan_is memory root room has =
    let fits = code_fits room has.order.layer (code_brought has.order.act) (order_layer has.order has.commit.allowed).1 (code_brought_short has.order has.commit.allowed) has.commit.code in
    let size = header_size room.header.items _ has.commit.header in
    record { layer = fits.0; code = fits.1; some = size.0; header = size.1 }

pub root_allowed : (memory : Memory) (root : Root) (room : Room) → HasCommit memory root room → root_format.Allowed root
root_allowed memory root room has =
    let is = has.commit in
    subst root_format.Allowed (sym is.root_is)
    (committed_root has.state has.order has.draw (1 - is.area) (omega arith) is.ready.valid (stands_storable memory.flash memory.bbram has.state is.ready.means is.ready.valid) is.allowed is.passes)

-- ---- the commit

-- both are written, for this current header area, whatever header it holds
abbrev pub Written : ℕ → Memory → Memory → Room → Type 0
Written area before between room = (header : Header) → HoldsHeader before.flash area header → IsPublicWritten room header area before.flash between.flash

-- what was written of the code is what the order brings
code_by : (n layer : ℕ) (code : List ℕ) (b : Bool) (header : Header) (before between : List ℕ) → (layer == 0) ≡ b → 1 ≤ layer → n ≡ layer
    → IsCodeWritten n (slot_in header n) (if n == 0 then None else Some code) before between → IsCodeWritten layer (slot_in header layer) (Some code) before between
code_by n layer code true header before between e some same written = absurd (omega (arith, eqb-true layer 0 e, some))
code_by n layer code false header before between e some same written =
    subst (λ (c : Bool). IsCodeWritten layer (slot_in header layer) (if c then None else Some code) before between) e
    (subst (λ k. IsCodeWritten k (slot_in header k) (if k == 0 then None else Some code) before between) same written)

code_none : (n : ℕ) (code : List ℕ) (layer : ℕ) (header : Header) (before between : List ℕ) → n ≡ 0 → IsCodeWritten n (slot_in header n) (if n == 0 then None else Some code) before between → IsCodeWritten layer (slot_in header layer) None before between
code_none n code layer header before between same written = subst (λ k. IsCodeWritten k (slot_in header k) (if k == 0 then None else Some code) before between) same written

code_written : (room : Room) (layer : ℕ) (brought : Option (List ℕ)) (header : Header) (before between : List ℕ) → 1 ≤ layer → IsToWrite room layer brought
    → IsCodeWritten room.code_layer (slot_in header room.code_layer) (code_to_write room) before between → IsCodeWritten layer (slot_in header layer) brought before between
code_written room layer None header before between some is written = code_none room.code_layer room.code.items layer header before between is.0 written
code_written room layer (Some code) header before between some is written =
    subst (λ (xs : List ℕ). IsCodeWritten layer (slot_in header layer) (Some xs) before between) is.1 (code_by room.code_layer layer room.code.items (layer == 0) header before between refl some is.0 written)

module _ (before between : Memory) (root : Root) (room : Room) (state : State) (order : Order) (draw : List ℕ) (is : IsCommit before root room state order draw) where
  area_is : root.area ≡ 1 - is.area
  area_is = ap (λ (r : Root). r.area) is.root_is ∙ committed_area_is state order draw (1 - is.area)

  small : is.area ≤ 1
  small = small_area before.bbram (root_of state is.area) is.only_root

  written_there : Written (1 - root.area) before between room → Written is.area before between room
  written_there written = subst (λ (n : ℕ). Written n before between room) (next_area before root room state order draw is).1 written

  -- the new root names the area that now holds the new header
  pub header_stands : Written (1 - root.area) before between room → HoldsHeader between.flash root.area (header_after is.holds.public.header order.layer order.act is.first is.second)
  header_stands written =
      let w = written_there written is.holds.public.header is.holds.public.begins in
      subst (λ n. HoldsHeader between.flash n (header_after is.holds.public.header order.layer order.act is.first is.second)) (sym area_is)
      (begins_with header_format (sector between.flash (header_sector (1 - is.area))) room.header.items _ is.header w.header.begins)

  -- once both are written, the flash holds for the root what the order leaves
  pub held_public : IsLoaded before → Written (1 - root.area) before between room → HoldsPublic between.flash root (state_after_order state order draw).codes state.log (new_entries state order draw)
  held_public sized written =
      let w = written_there written is.holds.public.header is.holds.public.begins in
      let layer = order_layer order is.allowed in
      let code = code_written room order.layer (code_brought order.act) is.holds.public.header before.flash w.between layer.0 is.code w.code in
      let counted : AreCounted root.pending (new_entries state order draw) = subst (λ (r : Root). AreCounted r.pending (new_entries state order draw)) (sym is.root_is) (commit_counted state order draw (1 - is.area)) in
      subst (λ (codes : Codes). HoldsPublic between.flash root codes state.log (new_entries state order draw)) (sym (obeyed_codes state order draw))
      (order_written before.flash w.between between.flash (root_of state is.area) root state.codes state.log (new_entries state order draw) order.layer order.act is.first is.second room.header.items is.holds.public is.only_header small layer.0 layer.1
      sized.flash code w.header is.header area_is is.texts counted).0

holds_committed : (before between after : Memory) (root : Root) (room : Room) (state : State) (order : Order) (draw : List ℕ) (is : IsCommit before root room state order draw) → IsLoaded before
    → KeepsContents before between → Written (1 - root.area) before between room → CommitsRoot root between after → Holds after (committed state order draw (1 - is.area))
unfolding committed
holds_committed before between after root room state order draw is sized kept written commits =
    let public = held_public before between root room state order draw is sized written in
    subst
    (λ (r : Root). Holds after (record (at_rest state is.area) { root = r; codes = (state_after_order state order draw).codes; signed = state.log; unsigned = new_entries state order draw }))
    is.root_is
    (commits.committed (at_rest state is.area) (state_after_order state order draw).codes state.log (new_entries state order draw) (kept.kept (at_rest state is.area) is.holds) public)

-- what was there before the writes, and what each of them left
pub record IsCommitted (before between after : Memory) (root : Root) (room : Room) : Type 0 where
  pub sized : IsLoaded before
  pub kept : KeepsContents before between
  pub written : Written (1 - root.area) before between room
  pub commits : CommitsRoot root between after
  pub sized_after : IsLoaded after

pub means_committed : (before between after : Memory) (root : Root) (room : Room) (state : State) (order : Order) (draw : List ℕ) → IsCommit before root room state order draw → IsCommitted before between after root room → Means after (state_after_order state order draw)
means_committed before between after root room state order draw is done =
    commit_stands after.flash after.bbram state order draw (1 - is.area) done.sized_after is.ready.valid is.allowed is.passes
    (holds_committed before between after root room state order draw is done.sized done.kept done.written done.commits)

pub live_committed : (before between after : Memory) (root : Root) (room : Room) → HasCommit before root room → IsCommitted before between after root room → IsLive after
live_committed before between after root room has done = record {
  state = state_after_order has.state has.order has.draw;
  means = means_committed before between after root room has.state has.order has.draw has.commit done;
  valid = obeyed_valid has.state has.order has.draw has.commit.ready.valid has.commit.allowed has.commit.passes;
}

-- some root is current still, when the next one is written
pub root_still : (before between : Memory) (root : Root) (room : Room) → HasCommit before root room → KeepsContents before between → HasSomeRoot between
root_still before between root room has kept = record {
  root = root_of has.state has.commit.area;
  holds = (kept.kept (at_rest has.state has.commit.area) has.commit.holds).root;
}

pub root_committed : (before between after : Memory) (root : Root) (room : Room) (state : State) (order : Order) (draw : List ℕ) → IsCommit before root room state order draw → IsCommitted before between after root room → RootIn after.bbram root
unfolding committed
root_committed before between after root room state order draw is done =
    subst (RootIn after.bbram) (sym is.root_is) (holds_committed before between after root room state order draw is done.sized done.kept done.written done.commits).root

-- ---- at the stops, and at the end

pub means_old : (before between : Memory) (root : Root) (room : Room) (state : State) (order : Order) (draw : List ℕ) → IsCommit before root room state order draw → KeepsContents before between → IsLoaded between → Means between state
means_old before between root room state order draw is kept sized = (contents_keep before between sized kept).kept state is.ready.means

pub means_either : (before between after : Memory) (root : Root) (room : Room) (state : State) (order : Order) (draw : List ℕ) → IsCommit before root room state order draw → IsLoaded before
    → KeepsContents before between → IsLoaded between → Written (1 - root.area) before between room → IsLoaded after → KeepsContents between after ⊎ CommitsRoot root between after → Means after state ⊎ Means after (state_after_order state order draw)
means_either before between after root room state order draw is sized kept first written last (inl stays) =
    inl ((contents_keep between after last stays).kept state (means_old before between root room state order draw is kept first))
means_either before between after root room state order draw is sized kept first written last (inr commits) =
    inr (means_committed before between after root room state order draw is (record { sized = sized; kept = kept; written = written; commits = commits; sized_after = last }))

pub ready_committed : (before between after last : Memory) (root : Root) (room : Room) (state : State) (order : Order) (draw : List ℕ) → IsCommit before root room state order draw
    → IsCommitted before between after root room → KeepsMeaning after last → Cleans after last → IsReady last (state_after_order state order draw)
ready_committed before between after last root room state order draw is done keeps cleans =
    let means : Means after (state_after_order state order draw) = means_committed before between after root room state order draw is done in
    record {
      means = keeps.kept (state_after_order state order draw) means;
      valid = obeyed_valid state order draw is.ready.valid is.allowed is.passes;
      clean = cleans.cleans (state_after_order state order draw) means;
    }

-- ---- the signed log, and the sectors that hold nothing

agree_now : (before between : Memory) (root : Root) (room : Room) → HasCommit before root room → AgreeForArea before.flash between.flash (1 - root.area)
    → (any : Root) → RootIn before.bbram any → AgreeForArea before.flash between.flash any.area
agree_now before between root room has agree = λ any in_force.
    let area : any.area ≡ has.commit.area = ap (λ (r : Root). r.area) (has.commit.only_root.only any in_force) in
    subst (AgreeForArea before.flash between.flash) ((next_area before root room has.state has.order has.draw has.commit).1 ∙ sym area) agree

-- they stay until the root is written, which leaves the flash
pub spared_before : (before between after : Memory) (root : Root) (room : Room) → HasCommit before root room → AgreeForArea before.flash between.flash (1 - root.area) → after.flash ≡ between.flash → SparesSectors before after
spared_before before between after root room has agree same = record {
  log = record {
    kept = λ root_then header has_root holds position less.
        ap (λ (flash : List ℕ). sector flash (log_sector position)) same
        ∙ (signed_log_stays before between (agree_now before between root room has agree)).kept root_then header has_root holds position less;
  };
  unused = λ n is. ap (λ (flash : List ℕ). sector flash n) same ∙ agree.unused n is;
}

-- and then, since the new header counts as many entries
pub spared_after : (before between after last : Memory) (root : Root) (room : Room) (has : HasCommit before root room) → IsCommitted before between after root room
    → AgreeForArea before.flash between.flash (1 - root.area) → after.flash ≡ between.flash → SparesSectors after last → SparesSectors before last
spared_after before between after last root room has done agree same keeps =
    let is = has.commit in
    let own : RootIn after.bbram root =
    root_committed before between after root room has.state has.order has.draw is done in
    let stands = subst (λ (flash : List ℕ). HoldsHeader flash root.area (header_after is.holds.public.header has.order.layer has.order.act is.first is.second)) (sym same) (header_stands before between root room has.state has.order has.draw is done.written) in
    let first : SparesSectors before after = spared_before before between after root room has agree same in
    record {
      log = record {
        kept = λ any header in_force holds position less. (
            let same_root : any ≡ root_of has.state is.area = is.only_root.only any in_force in
            let here : HoldsHeader before.flash is.area header = subst (λ (r : Root). HoldsHeader before.flash r.area header) same_root holds in
            let counts : position < is.holds.public.header.signed = omega (arith, less, ap (λ (h : Header). h.signed) (is.only_header header here)) in
            keeps.log.kept root (header_after is.holds.public.header has.order.layer has.order.act is.first is.second) own stands position counts
            ∙ first.log.kept any header in_force holds position less);
      };
      unused = λ n is. keeps.unused n is ∙ first.unused n is;
    }

-- ---- how many writes there are

sectors_by : (b : Bool) (n : ℕ) → n ≤ 32768 → (if b then 0 else (n + 4096 - 1) / 4096) ≤ 8
sectors_by true n short = omega arith
sectors_by false n short = omega (arith, short)

pub few_sectors : (room : Room) → IsPlan room → code_sectors room ≤ 8
few_sectors room is = sectors_by (room.code_layer == 0) (length room.code.items) is.code
