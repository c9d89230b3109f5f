-- What is planned of an order is what it commits.
use Rattle.std.proofs.Common.{◌≡◌, ◌≤◌, ℕ, ◌+◌, ◌-◌, ◌==◌, if◌then◌else◌, Bool, true, false, List, [], ◌∷◌, ◌++◌, length, map, Option, None, Some, refl, sym, ap, subst, ◌∙◌, length-append, arith}
use Rattle.std.specs.Prelude.{All, IfSome}
use Rattle.std.specs.Global.{Vec}
use Rattle.std.proofs.lemmas.List.{length-map, map-append}
use Rattle.std.proofs.lemmas.List.Elements.{All-nil, All-cons, All-head, All-tail}
use Rattle.mb_format.specs.Format.{IsBytes, Spells}
use Rattle.mb_model.specs.declared.key.KeySeed.{KeySeed}
use Rattle.mb_model.specs.declared.entry.Entry.{Entry}
use Rattle.mb_model.specs.declared.entry.SignedEntry.{SignedEntry}
use Rattle.mb_model.specs.declared.order.Act.{Act}
use Rattle.mb_model.specs.declared.order.Act.TheVariants as act
use Rattle.mb_model.specs.declared.order.KeyKind.{KeyKind}
use Rattle.mb_model.specs.declared.order.Order.{Order}
use Rattle.mb_model.specs.declared.state.Codes.{Codes}
use Rattle.mb_model.specs.declared.state.Figures.{Figures}
use Rattle.mb_model.specs.declared.state.State.{State}
use Rattle.mb_model.specs.declared.stored.Header.{Header}
use Rattle.mb_model.specs.declared.stored.Outgoing.{Outgoing}
use Rattle.mb_model.specs.declared.stored.Root.{Root}
use Rattle.mb_model.specs.outside.Board.{Memory}
use Rattle.mb_model.specs.memories.Clean.{root_of}
use Rattle.mb_model.specs.records.EntryFormat.{entry_format, signed_entry_format}
use Rattle.mb_model.specs.memories.Flash.{sector, HoldsHeader, AreBytesOf}
use Rattle.mb_model.specs.records.HeaderFormat.{first_text, second_text, header_format}
use Rattle.mb_model.specs.owners.Log.{figures_of, entries_of}
use Rattle.mb_model.specs.machine.OrderChecks.{view_of, needs_succession, Passes}
use Rattle.mb_model.specs.machine.OrderEffects.{entry_signed_by, state_after_succession, state_after_change, state_after_new_key, ready_for, codes_after, state_after_act, state_after_order}
use Rattle.mb_model.specs.records.OrderFormat.{order_format}
use Rattle.mb_model.specs.owners.Rules.{kind_of}
use Rattle.mb_model.specs.memories.Sectors.{header_sector, BeginsAs}
use Rattle.mb_model.specs.memories.StoredLog.{signer_by, entries_signed_for, outgoing_of, log_completed_by}
use Rattle.mb_model.specs.memories.Valid.{IsValidState}
use Rattle.mb_model.specs.machine.Work.{pending_for}
use Rattle.mb_orders.specs.declared.plan.Plan.{Plan}
use Rattle.mb_orders.specs.Judging.{plan_by}
use Rattle.mb_model_lemmas.proofs.AdditionLemmas.{device_is, uses_are}
use Rattle.mb_model_lemmas.proofs.PublicLemmas.{entry_from_signed}
use Rattle.mb_model_lemmas.proofs.OneFlash.{sector_short}
use Rattle.mb_model_lemmas.proofs.ListLemmas.{All-back}
use Rattle.mb_model_memory.specs.Commits.{root_for, new_entries, at_rest}
use Rattle.mb_model_memory.specs.Holding.{Holds, IsReady}
use Rattle.mb_model_memory.specs.NextHeaders.{code_brought, texts_of_entries, header_after}
use Rattle.mb_model_memory.specs.Storable.{IsStorableState}
use Rattle.mb_model_memory.proofs.CommitLemmas.{kept_ready, obeyed_serial, committed_log, commit_counted}
use Rattle.mb_model_memory.proofs.FlashHeaders.{entries_have_texts, code_brought_short}
use Rattle.mb_model_memory.proofs.StorableMemories.{stands_storable}
use Rattle.mb_model_memory.proofs.StorableOrders.{obeyed_storable, least_one, may_be_for}
use Rattle.mb_layout.specs.declared.room.Room.{Room}
use Rattle.mb_area.specs.Roots.{IsOnlyRoot}
use Rattle.mb_device_orders.specs.declared.judging.Judged.{Judged}
use Rattle.mb_outbound.specs.declared.kept.RegionTree.{RegionTree}
use Rattle.mb_outbound.specs.KeptTrees.{IsKeptIn}
use Rattle.mb_signer.specs.declared.tree.KeptTree.{KeptTree}
use Rattle.mb_signer.specs.Tree.{IsTreeOf}
use Rattle.mb_device_orders.specs.declared.remembering.Known.{Known}
use Rattle.mb_device_orders.specs.Remembering.{IsDeviceTree, Knows}
use Rattle.mb_device_orders.specs.Planning.{BringsShortCode, CanTake, IsToWrite, PassesAs, HasPassed, IsCommit}
use Rattle.mb_device_orders.proofs.Remembered.{rest_in, root_is, public_in}

-- ---- the codes

either_same : (b : Bool) (code : Option (List ℕ)) → (if b then code else code) ≡ code
either_same true code = refl
either_same false code = refl

abbrev codes_of : Option (List ℕ) → Option (List ℕ) → Option (List ℕ) → Codes
codes_of one two three = record { one = one; two = two; three = three }

-- a new key leaves the codes
same_codes : (old : Codes) (k : ℕ) (kind : KeyKind) → codes_after old k (act.NewKey kind) ≡ old
same_codes old k kind =
    ap (λ (x : Option (List ℕ)). codes_of x (if k == 2 then old.two else old.two) (if k == 3 then old.three else old.three)) (either_same (k == 1) old.one)
    ∙ ap (λ (x : Option (List ℕ)). codes_of old.one x (if k == 3 then old.three else old.three)) (either_same (k == 2) old.two)
    ∙ ap (λ (x : Option (List ℕ)). codes_of old.one old.two x) (either_same (k == 3) old.three)

carried_codes : (ready : State) (order : Order) (a : Act) (draw : List ℕ) → order.act ≡ a → (state_after_act ready order a draw).codes ≡ codes_after ready.codes order.layer order.act
unfolding state_after_change state_after_new_key
carried_codes ready order (act.Establish owner trust) draw e = refl
carried_codes ready order act.Surrender draw e = refl
carried_codes ready order (act.Load payload) draw e = refl
carried_codes ready order (act.Emergency payload) draw e = refl
carried_codes ready order (act.NewKey kind) draw e = sym (ap (codes_after ready.codes order.layer) e ∙ same_codes ready.codes order.layer kind)

succeeded_codes : (state : State) (draw : List ℕ) → (state_after_succession state draw).codes ≡ state.codes
unfolding state_after_succession
succeeded_codes state draw = refl

pub obeyed_codes : (state : State) (order : Order) (draw : List ℕ) → (state_after_order state order draw).codes ≡ codes_after state.codes order.layer order.act
unfolding state_after_order
obeyed_codes state order draw =
    carried_codes (ready_for state order draw) order order.act draw refl
    ∙ ap (λ (codes : Codes). codes_after codes order.layer order.act) (kept_ready (λ (s : State). s.codes) state order draw (succeeded_codes state draw))

-- ---- the entries

entries_are : (state : State) (order : Order) (draw : List ℕ) (plan : Plan) → plan ≡ plan_by (view_of state) order draw → plan.bodies.entries ≡ new_entries state order draw
unfolding plan_by
entries_are state order draw plan is = ap (λ (p : Plan). p.bodies.entries) is

pub planned_entries : (state : State) (text draw : List ℕ) (judged : Judged) → PassesAs state text draw judged → judged.plan.bodies.entries ≡ new_entries state judged.order draw
planned_entries state text draw judged passed = entries_are state judged.order draw judged.plan passed.plan

few_by : (b : Bool) (n : ℕ) → n ≡ (if b then 2 else 1) → n ≤ 2
few_by true n e = omega (arith, e)
few_by false n e = omega (arith, e)

new_few : (state : State) (order : Order) (draw : List ℕ) → length (new_entries state order draw) ≤ 2
unfolding root_for pending_for
new_few state order draw = few_by (needs_succession (view_of state) order) _ (commit_counted state order draw 0).counted

mapped_entries : (key : KeySeed) (index : ℕ) (unsigned : List Entry) → entries_of (map (entry_signed_by key index) unsigned) ≡ unsigned
unfolding entry_signed_by
mapped_entries key index [] = refl
mapped_entries key index (entry ∷ more) = ap (λ (xs : List Entry). entry ∷ xs) (mapped_entries key index more)

signed_entries : (device : KeySeed) (uses : ℕ) (outgoing : Option Outgoing) (unsigned : List Entry) → entries_of (entries_signed_for device uses outgoing unsigned) ≡ unsigned
unfolding entry_signed_by
signed_entries device uses outgoing [] = refl
signed_entries device uses outgoing (first ∷ rest) =
    ap (λ (xs : List Entry). first ∷ xs) (mapped_entries (signer_by device uses outgoing 1).key (signer_by device uses outgoing 1).index rest)

completed_entries : (root : Root) (signed : List SignedEntry) (unsigned : List Entry) → entries_of (log_completed_by root signed unsigned) ≡ entries_of signed ++ unsigned
unfolding log_completed_by
completed_entries root signed unsigned =
    map-append (λ (s : SignedEntry). s.entry) signed (entries_signed_for root.device root.uses (outgoing_of root.pending) unsigned)
    ∙ ap (λ (xs : List Entry). entries_of signed ++ xs) (signed_entries root.device root.uses (outgoing_of root.pending) unsigned)

obeyed_entries : (state : State) (order : Order) (draw : List ℕ) → IsValidState state → entries_of (state_after_order state order draw).log ≡ entries_of state.log ++ new_entries state order draw
obeyed_entries state order draw valid =
    ap entries_of (sym (committed_log state order draw 0 valid)) ∙ completed_entries (root_for state order draw 0) state.log (new_entries state order draw)

-- each entry of the log after the order has a spelling, and so has each that the order appends
entries_allowed : (log : List SignedEntry) → All signed_entry_format.Allowed log → All entry_format.Allowed (entries_of log)
entries_allowed [] are = All-nil entry_format.Allowed
entries_allowed (signed ∷ log) are =
    All-cons entry_format.Allowed signed.entry (entries_of log) (entry_from_signed signed (All-head signed_entry_format.Allowed signed log are)) (entries_allowed log (All-tail signed_entry_format.Allowed signed log are))

record NewEntriesFit (state : State) (order : Order) (draw : List ℕ) : Type 0 where
  new_allowed : All entry_format.Allowed (new_entries state order draw)
  together : length state.log + length (new_entries state order draw) ≤ 128

new_fit : (state : State) (order : Order) (draw : List ℕ) → IsValidState state → IsStorableState state → order_format.Allowed order → Passes (view_of state) order → NewEntriesFit state order draw
new_fit state order draw valid is allowed passes =
    let after : IsStorableState (state_after_order state order draw) = obeyed_storable state order draw allowed passes is in
    let are : entries_of (state_after_order state order draw).log ≡ entries_of state.log ++ new_entries state order draw = obeyed_entries state order draw valid in
    record {
      new_allowed = All-back entry_format.Allowed (entries_of state.log) (new_entries state order draw) (subst (All entry_format.Allowed) are (entries_allowed (state_after_order state order draw).log after.log));
      together = omega (
        arith,
        after.few,
        ap length are,
        length-append (entries_of state.log) (new_entries state order draw),
        length-map state.log (λ (signed : SignedEntry). signed.entry),
        length-map (state_after_order state order draw).log (λ (signed : SignedEntry). signed.entry),
      );
    }

-- ---- the header

pub order_layer : (order : Order) → order_format.Allowed order → (1 ≤ order.layer) × (order.layer ≤ 3)
order_layer order allowed = let is = may_be_for order allowed in (omega (arith, is.0, least_one (kind_of order.act)), is.1)

-- the header that is read, once the order's entries are its texts, has a spelling
pub planned_takes : (memory : Memory) (judged : Judged) (bytes : List ℕ) (entries : List Entry) (has : HasPassed memory judged) → entries ≡ judged.plan.bodies.entries → bytes ≡ sector memory.flash (header_sector judged.root.area)
    → CanTake judged.order.layer judged.order.act entries bytes
planned_takes memory judged bytes entries has are read =
    let public = public_in memory judged.root has.state has.ready has.root.only in
    let storable : IsStorableState has.state = stands_storable memory.flash memory.bbram has.state has.ready.means has.ready.valid in
    let same : entries ≡ new_entries has.state judged.order has.draw = are ∙ planned_entries has.state has.text has.draw judged has.passed in
    let fit = new_fit has.state judged.order has.draw has.ready.valid storable has.passed.spelled.allowed has.passed.passes in
    record {
      header = public.header;
      begins = subst (λ (xs : List ℕ). BeginsAs header_format xs public.header) (sym read) public.begins;
      few = omega (arith, ap length same, new_few has.state judged.order has.draw);
      together = omega (arith, ap length same, fit.together, public.count);
      entries_allowed = subst (All entry_format.Allowed) (sym same) fit.new_allowed;
      short = code_brought_short judged.order has.passed.spelled.allowed;
    }

pub planned_short : (memory : Memory) (judged : Judged) → HasPassed memory judged → BringsShortCode judged.order.act
planned_short memory judged has = code_brought_short judged.order has.passed.spelled.allowed

pub read_short : (flash bytes : List ℕ) (n : ℕ) → bytes ≡ sector flash n → length bytes ≤ 4194304
read_short flash bytes n read = omega (arith, ap length read, sector_short flash n)

-- ---- the root

abbrev root_with : Root → Plan → ℕ → Root
root_with root plan unsigned = record {
  area = 1 - root.area;
  serial = root.serial;
  device = plan.bodies.device;
  uses = plan.bodies.uses;
  pending = Some (record { unsigned = unsigned; outgoing = plan.bodies.outgoing; two = plan.two; three = plan.three });
}

pub root_planned : (state : State) (order : Order) (draw : List ℕ) (root : Root) (plan : Plan) (unsigned : ℕ) → root ≡ root_of state root.area → plan ≡ plan_by (view_of state) order draw → unsigned ≡ length plan.bodies.entries
    → root_with root plan unsigned ≡ root_for state order draw (1 - root.area)
unfolding root_for pending_for plan_by
root_planned state order draw root plan unsigned is_root is_plan size =
    let counted : unsigned ≡ (if needs_succession (view_of state) order then 2 else 1) = size ∙ ap length (entries_are state order draw plan is_plan) ∙ (commit_counted state order draw 0).counted in
    let planned : Plan = plan_by (view_of state) order draw in
    let unsigned_by : ℕ = if needs_succession (view_of state) order then 2 else 1 in
    ap (λ (p : Plan). root_with root p unsigned) is_plan
    ∙ ap (λ (n : ℕ). root_with root planned n) counted
    ∙ ap (λ (serial : List ℕ). let r : Root = record (root_with root planned unsigned_by) { serial = serial } in r) (ap (λ (r : Root). r.serial) is_root)
    ∙ ap (λ (device : KeySeed). let r : Root = record (root_with root planned unsigned_by) { serial = state.serial; device = device } in r) (device_is state order draw)
    ∙ ap (λ (uses : ℕ). let r : Root = record (root_with root planned unsigned_by) { serial = state.serial; device = (state_after_order state order draw).device; uses = uses } in r) (uses_are state order draw)

pub planned_few : (memory : Memory) (judged : Judged) → HasPassed memory judged → length judged.plan.bodies.entries ≤ 2
planned_few memory judged has =
    omega (arith, ap length (planned_entries has.state has.text has.draw judged has.passed), new_few has.state judged.order has.draw)

-- ---- what is remembered

pub figures_next : (memory : Memory) (state : State) (text draw : List ℕ) (judged : Judged) (known : Known) (next : Figures) → IsReady memory state → Knows known state → PassesAs state text draw judged
    → (added : List Entry) → added ≡ judged.plan.bodies.entries → ((log : List Entry) → length log + length added ≤ 1000 → known.figures ≡ figures_of log → next ≡ figures_of (log ++ added))
    → next ≡ figures_of (entries_of (state_after_order state judged.order draw).log)
figures_next memory state text draw judged known next ready knows passed added same counts =
    let entries : added ≡ new_entries state judged.order draw = same ∙ planned_entries state text draw judged passed in
    let storable : IsStorableState state = stands_storable memory.flash memory.bbram state ready.means ready.valid in
    let few : length (entries_of state.log) + length added ≤ 1000 =
    omega (arith, length-map state.log (λ (signed : SignedEntry). signed.entry), storable.few, ap length entries, new_few state judged.order draw) in
    counts (entries_of state.log) few knows.figures ∙ ap (λ (es : List Entry). figures_of (entries_of state.log ++ es)) entries
    ∙ ap figures_of (sym (obeyed_entries state judged.order draw ready.valid))

-- what is remembered once the order is done, where no tree is kept of a region's key
pub knows_next : (state : State) (order : Order) (draw : List ℕ) (known next : Known) → Knows known state → next.serial ≡ known.serial → next.figures ≡ figures_of (entries_of (state_after_order state order draw).log)
    → next.trees.value.region ≡ None → IsDeviceTree next.trees.value.device (state_after_order state order draw) → Knows next (state_after_order state order draw)
knows_next state order draw known next knows serial figures none device = record {
  serial = serial ∙ knows.serial ∙ sym (obeyed_serial state order draw);
  figures = figures;
  trees = record {
    device = device;
    region = subst (λ (kept : Option RegionTree). IsKeptIn kept (state_after_order state order draw)) (sym none) tt;
  };
}

-- the root that commits has the device key of the state afterwards
pub device_committed : (root : Root) (state : State) (order : Order) (draw : List ℕ) (area : ℕ) (kept : Option KeptTree) → root ≡ root_for state order draw area → IfSome kept (IsTreeOf root.device)
    → IsDeviceTree kept (state_after_order state order draw)
unfolding root_for
device_committed root state order draw area kept is its = subst (λ (seed : KeySeed). IfSome kept (IsTreeOf seed)) (ap (λ (r : Root). r.device) is) its

-- ---- the commit

pub commit_is : (memory : Memory) (state : State) (text draw : List ℕ) (judged : Judged) (root : Root) (read : List ℕ) (header : Vec ℕ) (room : Room) (ready : IsReady memory state) → IsBytes memory.bbram → PassesAs state text draw judged → IsOnlyRoot memory.bbram judged.root
    → ((state : State) (order : Order) (draw : List ℕ) → judged.root ≡ root_of state judged.root.area → judged.plan ≡ plan_by (view_of state) order draw → root ≡ root_for state order draw (1 - judged.root.area))
    → (entries : List Entry) → entries ≡ judged.plan.bodies.entries → read ≡ sector memory.flash (header_sector judged.root.area)
    → ((one other : Header) → BeginsAs header_format read one → BeginsAs header_format read other → other ≡ one)
    → ((old : Header) → BeginsAs header_format read old → Spells header_format header.items (header_after old judged.order.layer judged.order.act (first_text (texts_of_entries entries)) (second_text (texts_of_entries entries))))
    → room.header ≡ header → IsToWrite room judged.order.layer (code_brought judged.order.act) → IsCommit memory root room state judged.order draw
commit_is memory state text draw judged root read header room ready are passed only plans entries same_entries read_is one spelled kept code =
    let same : root_of state ready.clean.area ≡ judged.root = root_is memory judged.root state ready only.only in
    let area : ready.clean.area ≡ judged.root.area = ap (λ (r : Root). r.area) same in
    let own : judged.root ≡ root_of state judged.root.area = sym same ∙ ap (root_of state) area in
    let holds : Holds memory (at_rest state ready.clean.area) = rest_in memory state ready are in
    let storable : IsStorableState state = stands_storable memory.flash memory.bbram state ready.means ready.valid in
    let new : entries ≡ new_entries state judged.order draw = same_entries ∙ planned_entries state text draw judged passed in
    let fit = new_fit state judged.order draw ready.valid storable passed.spelled.allowed passed.passes in
    let texts = entries_have_texts entries (length state.log) (omega (arith, ap length new, new_few state judged.order draw)) (omega (arith, ap length new, fit.together)) (subst (All entry_format.Allowed) (sym new) fit.new_allowed) in
    let here : read ≡ sector memory.flash (header_sector ready.clean.area) = read_is ∙ ap (λ (n : ℕ). sector memory.flash (header_sector n)) (sym area) in
    let begins = λ (any : Header) (held : HoldsHeader memory.flash ready.clean.area any). subst (λ (xs : List ℕ). BeginsAs header_format xs any) (sym here) held in
    record {
      ready = ready;
      allowed = passed.spelled.allowed;
      passes = passed.passes;
      area = ready.clean.area;
      holds = holds;
      only_root = subst (IsOnlyRoot memory.bbram) (sym same) only;
      only_header = λ any held. one holds.public.header any (begins holds.public.header holds.public.begins) (begins any held);
      root_is = subst (λ (n : ℕ). root ≡ root_for state judged.order draw (1 - n)) (sym area) (plans state judged.order draw own passed.plan);
      first = first_text (texts_of_entries entries);
      second = second_text (texts_of_entries entries);
      texts = subst (AreBytesOf (first_text (texts_of_entries entries)) (second_text (texts_of_entries entries))) new texts.1;
      header = subst (λ (v : Vec ℕ). Spells header_format v.items (header_after holds.public.header judged.order.layer judged.order.act (first_text (texts_of_entries entries)) (second_text (texts_of_entries entries)))) (sym kept)
          (spelled holds.public.header (begins holds.public.header holds.public.begins));
      code = code;
    }
