-- The trees of the keys that sign an order's entries.
use Rattle.std.proofs.Common.{◌≡◌, ℕ, ◌-◌, ◌+◌, ◌⊎◌, Bool, true, false, List, [], ◌∷◌, ◌++◌, Option, None, Some, refl, sym, ap, subst, ◌∙◌, inl, inr}
use Rattle.std.specs.Prelude.{if◌then◌else◌, ◌||◌, IsSome, Err}
use Rattle.mb_model.specs.declared.entry.Entry.{Entry}
use Rattle.mb_model.specs.declared.key.KeySeed.{KeySeed}
use Rattle.mb_model.specs.declared.order.Order.{Order}
use Rattle.mb_model.specs.declared.reply.Reply.{Reply}
use Rattle.mb_model.specs.declared.state.Bodies.{Bodies}
use Rattle.mb_model.specs.declared.state.State.{State}
use Rattle.mb_model.specs.declared.state.View.{View}
use Rattle.mb_model.specs.declared.stored.Outgoing.{Outgoing}
use Rattle.mb_model.specs.declared.stored.Root.{Root}
use Rattle.mb_model.specs.outside.Board.{Memory}
use Rattle.mb_model.specs.memories.Flash.{AreBytesOf}
use Rattle.mb_model.specs.chains.Listing.{is_done}
use Rattle.mb_model.specs.owners.Log.{keys_made_by}
use Rattle.mb_model.specs.machine.OrderChecks.{view_of, succession_is_due}
use Rattle.mb_model.specs.machine.OrderEffects.{fact_of, names_next, device_after, state_after_order}
use Rattle.mb_model.specs.memories.StoredLog.{outgoing_of, signer_by, signer_of}
use Rattle.mb_model.specs.machine.Work.{after_succession, bodies_by, bodies_for, pending_for}
use Rattle.mb_model_lemmas.proofs.AdditionLemmas.{device_is}
use Rattle.mb_model_memory.specs.Commits.{root_for, new_entries}
use Rattle.mb_model_memory.specs.Holding.{IsReady}
use Rattle.mb_layout.specs.declared.room.Room.{Room}
use Rattle.mb_orders.specs.declared.plan.Plan.{Plan}
use Rattle.mb_orders.specs.Judging.{plan_by}
use Rattle.mb_area.specs.Roots.{IsOnlyRoot}
use Rattle.mb_boot.specs.Signers.{HasSigners, HoldsDeviceTree, DeviceKeySigns}
use Rattle.mb_boot.proofs.Signers.{second_signs}
use Rattle.mb_signer.specs.declared.bench.Bench.{Bench}
use Rattle.mb_signer.specs.Benches.{HasTree, HasRoom}
use Rattle.mb_device_orders.specs.declared.judging.Judged.{Judged}
use Rattle.mb_device_orders.specs.Obeying.{MakesKeys}
use Rattle.mb_device_orders.specs.Planning.{ReadsText, FailsWith, PassesAs, IsCommit}
use Rattle.mb_device_orders.proofs.Committed.{IsCommitted, header_stands}
use Rattle.mb_device_orders.proofs.Remembered.{root_is}

-- ---- answers

pub failing_undone : (view : View) (order : Order) (answer : Reply) → FailsWith view order answer → is_done answer ≡ false
failing_undone view order answer why = subst (λ (a : Reply). is_done a ≡ false) (sym why.answered) refl

pub reading_undone : (text : List ℕ) (answer : Reply) → ReadsText text (Err answer) → is_done answer ≡ false
reading_undone text answer (inl lacks) = subst (λ (a : Reply). is_done a ≡ false) (sym lacks) refl
reading_undone text answer (inr bad) = subst (λ (a : Reply). is_done a ≡ false) (sym bad.0) refl

-- ---- the keys that sign

-- the key that signs first is the device key as it was, whether it gives way or not
first_by_outgoing : (due next : Bool) (view : View) (draw : List ℕ) (uses : ℕ)
    → (signer_by (device_after next (if due then after_succession view draw else view) draw) uses (if due || next then Some (record { seed = view.device; uses = view.uses + 1 }) else None) 0).key ≡ view.device
first_by_outgoing true next view draw uses = refl
first_by_outgoing false true view draw uses = refl
first_by_outgoing false false view draw uses = refl

kept_by : (due next : Bool) (view : View) (draw : List ℕ) (outgoing : Outgoing) → ◌≡◌ {A = Option Outgoing} (if due || next then Some outgoing else None) None
    → device_after next (if due then after_succession view draw else view) draw ≡ view.device
kept_by true next view draw outgoing none = absurd (cc)
kept_by false true view draw outgoing none = absurd (cc)
kept_by false false view draw outgoing none = refl

first_of_root : (state : State) (order : Order) (draw : List ℕ) (area : ℕ) → (signer_of (root_for state order draw area) 0).key ≡ state.device
unfolding root_for pending_for bodies_by
first_of_root state order draw area =
    ap (λ (device : KeySeed). (signer_by device (state_after_order state order draw).uses (bodies_for state order draw).outgoing 0).key) (sym (device_is state order draw))
    ∙ first_by_outgoing (succession_is_due (view_of state).uses (names_next (fact_of state.layers order order.act))) (names_next (fact_of state.layers order order.act)) (view_of state) draw (state_after_order state order draw).uses

device_of_root : (state : State) (order : Order) (draw : List ℕ) (area : ℕ) → (root_for state order draw area).device ≡ (bodies_for state order draw).device
unfolding root_for
device_of_root state order draw area = sym (device_is state order draw)

outgoing_of_root : (state : State) (order : Order) (draw : List ℕ) (area : ℕ) → outgoing_of (root_for state order draw area).pending ≡ (bodies_for state order draw).outgoing
unfolding root_for pending_for
outgoing_of_root state order draw area = refl

device_stays : (state : State) (order : Order) (draw : List ℕ) → (bodies_for state order draw).outgoing ≡ None → (bodies_for state order draw).device ≡ state.device
unfolding bodies_by
device_stays state order draw none =
    kept_by (succession_is_due (view_of state).uses (names_next (fact_of state.layers order order.act))) (names_next (fact_of state.layers order order.act)) (view_of state) draw _ none

bodies_planned : (state : State) (draw : List ℕ) (judged : Judged) → judged.plan ≡ plan_by (view_of state) judged.order draw → judged.plan.bodies ≡ bodies_for state judged.order draw
unfolding plan_by
bodies_planned state draw judged is = ap (λ (plan : Plan). plan.bodies) is

-- the root that commits a plan: whose keys sign
pub record CommitsPlan (judged : Judged) (root : Root) : Type 0 where
  pub first : (signer_of root 0).key ≡ judged.root.device
  pub outgoing : outgoing_of root.pending ≡ judged.plan.bodies.outgoing
  pub device : root.device ≡ judged.plan.bodies.device
  pub stays : judged.plan.bodies.outgoing ≡ None → root.device ≡ judged.root.device

pub commits_plan : (memory : Memory) (state : State) (text draw : List ℕ) (judged : Judged) (root : Root) (room : Room) → IsReady memory state → IsOnlyRoot memory.bbram judged.root → PassesAs state text draw judged
    → IsCommit memory root room state judged.order draw → CommitsPlan judged root
commits_plan memory state text draw judged root room ready only passed is =
    let same : judged.root.device ≡ state.device = sym (ap (λ (r : Root). r.device) (root_is memory judged.root state ready only.only)) in
    let bodies : judged.plan.bodies ≡ bodies_for state judged.order draw = bodies_planned state draw judged passed.plan in
    let device : root.device ≡ (bodies_for state judged.order draw).device = ap (λ (r : Root). r.device) is.root_is ∙ device_of_root state judged.order draw (1 - is.area) in
    record {
      first = ap (λ (r : Root). (signer_of r 0).key) is.root_is ∙ first_of_root state judged.order draw (1 - is.area) ∙ sym same;
      outgoing = ap (λ (r : Root). outgoing_of r.pending) is.root_is ∙ outgoing_of_root state judged.order draw (1 - is.area) ∙ sym (ap (λ (b : Bodies). b.outgoing) bodies);
      device = device ∙ sym (ap (λ (b : Bodies). b.device) bodies);
      stays = λ none. device ∙ device_stays state judged.order draw (sym (ap (λ (b : Bodies). b.outgoing) bodies) ∙ none) ∙ sym same;
    }

-- how many keys the plan makes
pub keys_planned : (state : State) (text draw : List ℕ) (judged : Judged) (keys : ℕ) → PassesAs state text draw judged → MakesKeys state text draw keys → keys_made_by judged.plan.bodies.entries ≡ keys
keys_planned state text draw judged keys passed makes = ap (λ (b : Bodies). keys_made_by b.entries) (bodies_planned state draw judged passed.plan) ∙ makes judged.order passed.spelled

-- with the tree that was lent and that of a new device key, the bench has those of all keys that sign
device_there : (outgoing : Option Outgoing) (judged : Judged) (root : Root) (bench : Bench) → judged.plan.bodies.outgoing ≡ outgoing → CommitsPlan judged root → HasTree bench judged.root.device
    → (IsSome judged.plan.bodies.outgoing → HasTree bench judged.plan.bodies.device) → HasTree bench root.device
device_there None judged root bench none is lent at_hand = subst (HasTree bench) (sym (is.stays none)) lent
device_there (Some outgoing) judged root bench some is lent at_hand = subst (HasTree bench) (sym is.device) (at_hand (subst IsSome (sym some) refl))

pub signers_there : (judged : Judged) (root : Root) (bench : Bench) → CommitsPlan judged root → HasTree bench judged.root.device → (IsSome judged.plan.bodies.outgoing → HasTree bench judged.plan.bodies.device) → HasSigners bench root
signers_there judged root bench is lent at_hand = record {
  first = subst (HasTree bench) (sym is.first) lent;
  second = subst (HasTree bench) (sym (second_signs root)) (device_there judged.plan.bodies.outgoing judged root bench refl is lent at_hand);
}

-- the tree of the device key is on the bench once all is signed, whether it is a new one or not
kept_so : (outgoing : Option Outgoing) (judged : Judged) (root : Root) (bench after : Bench) → judged.plan.bodies.outgoing ≡ outgoing → CommitsPlan judged root → HasRoom bench ⊎ HasTree bench judged.root.device
    → (IsSome judged.plan.bodies.outgoing → HasTree bench judged.plan.bodies.device) → (outgoing_of root.pending ≡ None → HasTree after root.device) → (HoldsDeviceTree bench root → HasTree after root.device) → HasTree after root.device
kept_so None judged root bench after none is room at_hand kept held = kept (is.outgoing ∙ none)
kept_so (Some outgoing) judged root bench after some is room at_hand kept held =
    held (record { device = subst (HasTree bench) (sym is.device) (at_hand (subst IsSome (sym some) refl)); first = subst (λ (key : KeySeed). HasRoom bench ⊎ HasTree bench key) (sym is.first) room })

pub device_tree_kept : (judged : Judged) (root : Root) (bench after : Bench) → CommitsPlan judged root → HasRoom bench ⊎ HasTree bench judged.root.device
    → (IsSome judged.plan.bodies.outgoing → HasTree bench judged.plan.bodies.device) → (outgoing_of root.pending ≡ None → HasTree after root.device) → (HoldsDeviceTree bench root → HasTree after root.device) → HasTree after root.device
device_tree_kept judged root bench after is room at_hand kept held = kept_so judged.plan.bodies.outgoing judged root bench after refl is room at_hand kept held

-- ---- the entry that it signs

some_text : (first second : Option (List ℕ)) (before : List Entry) (entry : Entry) → AreBytesOf first second (before ++ entry ∷ []) → IsSome first
some_text (Some text) second before entry are = refl
some_text None None [] entry are = absurd are
some_text None None (one ∷ more) entry are = absurd are
some_text None (Some text) [] entry are = absurd are
some_text None (Some text) (one ∷ more) entry are = absurd are

first_text_there : (first second : Option (List ℕ)) (state : State) (order : Order) (draw : List ℕ) → AreBytesOf first second (new_entries state order draw) → IsSome first
unfolding bodies_by
first_text_there first second state order draw are = some_text first second _ _ are

pub device_key_signs : (before between after : Memory) (root : Root) (room : Room) (state : State) (order : Order) (draw : List ℕ) → IsCommit before root room state order draw → IsCommitted before between after root room
    → after.flash ≡ between.flash → outgoing_of root.pending ≡ None → DeviceKeySigns after.flash root
device_key_signs before between after root room state order draw is done same stays =
    subst (λ (flash : List ℕ). DeviceKeySigns flash root) (sym same) (record {
      header = _;
      holds = header_stands before between root room state order draw is done.written;
      some = first_text_there is.first is.second state order draw is.texts;
      stays = stays;
    })
