-- What becomes of the trees that a device keeps.
use Rattle.std.proofs.Common.{◌≡◌, ℕ, true, false, Option, None, Some, refl, sym, subst}
use Rattle.std.specs.Prelude.{List, Result, Ok, Err, IfOk, IsSome}
use Rattle.mb_ratchet.specs.declared.state.Off.{Off}
use Rattle.mb_model.specs.declared.event.Event.{Event}
use Rattle.mb_model.specs.declared.event.Event.TheVariants as event
use Rattle.mb_model.specs.declared.reply.Refusal.{Refusal}
use Rattle.mb_model.specs.declared.reply.Reply.{Reply}
use Rattle.mb_model.specs.declared.reply.Reply.TheVariants as reply
use Rattle.mb_model.specs.chains.Listing.{is_done, is_signed}
use Rattle.mb_model.specs.machine.Refusals.{refusal_reply}
use Rattle.mb_outbound.specs.declared.kept.RegionTree.{RegionTree}
use Rattle.mb_outbound.specs.KeptTrees.{IsKeptFor}
use Rattle.mb_device_orders.specs.declared.remembering.Known.{Known}
use Rattle.mb_device_orders.specs.declared.remembering.Trees.{Trees}
use Rattle.mb_device_orders.specs.Obeying.{LeavesKnown}
use Rattle.mb_device_regions.specs.Statements.{KeepsTree, LeavesTree}
use Rattle.mb_device.specs.declared.device.Device.{Device}
use Rattle.mb_device.specs.declared.device.Device.TheVariants as device
use Rattle.mb_device.specs.Regions.{region_named}
use Rattle.mb_device.specs.KeptTrees.{region_tree_in, HasDeviceTree, IsKeptToSign, IsKeptOnceSigned, leaves_tree, leaves_device_tree, TreesAreKept, trees_of, HasTreeFor, KeepsItsTrees}

-- ---- answers

pub not_signed : (answer : Reply) → leaves_tree answer ≡ true → is_signed answer ≡ false
not_signed reply.Booted left = refl
not_signed reply.Off left = absurd (cc)
not_signed reply.Tampered left = absurd (cc)
not_signed reply.Armed left = refl
not_signed (reply.At layer) left = refl
not_signed (reply.Done number size) left = absurd (cc)
not_signed reply.Kept left = refl
not_signed reply.Dropped left = refl
not_signed (reply.Value value) left = refl
not_signed reply.Absent left = refl
not_signed (reply.Signed key index statement) left = absurd (cc)
not_signed (reply.Called value) left = refl
not_signed (reply.Status serial number size one two three) left = refl
not_signed (reply.Refused number) left = refl
not_signed reply.Stopped left = absurd (cc)
not_signed reply.NoMemory left = refl

pub not_done : (answer : Reply) → leaves_tree answer ≡ true → is_done answer ≡ false
not_done reply.Booted left = refl
not_done reply.Off left = absurd (cc)
not_done reply.Tampered left = absurd (cc)
not_done reply.Armed left = refl
not_done (reply.At layer) left = refl
not_done (reply.Done number size) left = absurd (cc)
not_done reply.Kept left = refl
not_done reply.Dropped left = refl
not_done (reply.Value value) left = refl
not_done reply.Absent left = refl
not_done (reply.Signed key index statement) left = absurd (cc)
not_done (reply.Called value) left = refl
not_done (reply.Status serial number size one two three) left = refl
not_done (reply.Refused number) left = refl
not_done reply.Stopped left = absurd (cc)
not_done reply.NoMemory left = refl

pub order_not_done : (answer : Reply) → leaves_device_tree answer ≡ true → is_done answer ≡ false
order_not_done reply.Booted left = refl
order_not_done reply.Off left = absurd (cc)
order_not_done reply.Tampered left = absurd (cc)
order_not_done reply.Armed left = refl
order_not_done (reply.At layer) left = refl
order_not_done (reply.Done number size) left = absurd (cc)
order_not_done reply.Kept left = refl
order_not_done reply.Dropped left = refl
order_not_done (reply.Value value) left = refl
order_not_done reply.Absent left = refl
order_not_done (reply.Signed key index statement) left = refl
order_not_done (reply.Called value) left = refl
order_not_done (reply.Status serial number size one two three) left = refl
order_not_done (reply.Refused number) left = refl
order_not_done reply.Stopped left = absurd (cc)
order_not_done reply.NoMemory left = refl

-- an answer that is no statement says of no tree that it is kept
unsigned : (L : ℕ) (e : Event) (answer : Reply) (kept : Option Trees) → is_signed answer ≡ false → IsKeptOnceSigned kept L e answer
unsigned L (event.Sign M key message) answer kept none = λ index statement told. absurd (cc)
unsigned L (event.Call M None input) answer kept none = tt
unsigned L (event.Call M (Some key) input) answer kept none = λ index statement told. absurd (cc)
unsigned L event.Boot answer kept none = tt
unsigned L event.Off answer kept none = tt
unsigned L event.Tamper answer kept none = tt
unsigned L event.Status answer kept none = tt
unsigned L event.Go answer kept none = tt
unsigned L (event.Cut count tear) answer kept none = tt
unsigned L (event.Order text draw) answer kept none = tt
unsigned L (event.Put M name value) answer kept none = tt
unsigned L (event.Get M name) answer kept none = tt
unsigned L (event.Drop M name) answer kept none = tt

refused_unsigned : (refusal : Refusal) (answer : Reply) → answer ≡ refusal_reply refusal → is_signed answer ≡ false
refused_unsigned refusal answer told = subst (λ (a : Reply). is_signed a ≡ false) (sym told) refl

pub refused_undone : (refusal : Refusal) (answer : Reply) → answer ≡ refusal_reply refusal → is_done answer ≡ false
refused_undone refusal answer told = subst (λ (a : Reply). is_done a ≡ false) (sym told) refl

-- ---- the trees

-- they are the same afterwards
pub same_trees : (L : ℕ) (e : Event) (answer : Reply) (kept : Option Trees) → IsKeptOnceSigned kept L e answer → TreesAreKept L e answer kept kept
same_trees L e answer kept signed = record { signed = signed; region = λ left place number own. own; device = λ left has. has }

-- power has gone, or the like
pub trees_go : (L : ℕ) (e : Event) (answer : Reply) (before after : Option Trees) → is_signed answer ≡ false → leaves_tree answer ≡ false → leaves_device_tree answer ≡ false → TreesAreKept L e answer before after
trees_go L e answer before after none gone lost = record { signed = unsigned L e answer after none; region = λ left place number own. absurd (cc); device = λ left has. absurd (cc) }

-- what a key's signature leaves
pub trees_signed : {S E : Type 0} (r : Result (S × Reply) E) (L M key : ℕ) (message : List ℕ) (before after : Trees) → KeepsTree r after.region L key → LeavesTree r before.region after.region → after.device ≡ before.device
    → IfOk r (λ told. TreesAreKept L (event.Sign M key message) told.1 (Some before) (Some after))
trees_signed (Ok told) L M key message before after keeps leaves same = record {
  signed = keeps;
  region = λ left place number own. subst (λ (kept : Option RegionTree). IsKeptFor kept place number) (sym (leaves (not_signed told.1 left))) own;
  device = λ left has. subst IsSome (sym same) has;
}
trees_signed (Err stop) L M key message before after keeps leaves same = tt

pub trees_signed_by : {S E : Type 0} (r : Result (S × Reply) E) (L M key : ℕ) (message : List ℕ) (e : Event) (before after : Trees) → e ≡ event.Sign M key message → KeepsTree r after.region L key
    → LeavesTree r before.region after.region → after.device ≡ before.device → IfOk r (λ told. TreesAreKept L e told.1 (Some before) (Some after))
trees_signed_by r L M key message e before after is keeps leaves same =
    subst (λ (x : Event). IfOk r (λ told. TreesAreKept L x told.1 (Some before) (Some after))) (sym is) (trees_signed r L M key message before after keeps leaves same)

-- what any other use leaves
pub trees_untouched : {S E : Type 0} (r : Result (S × Reply) E) (L : ℕ) (e : Event) (kept : Option Trees) → ((answer : Reply) → IsKeptOnceSigned kept L e answer) → IfOk r (λ told. TreesAreKept L e told.1 kept kept)
trees_untouched (Ok told) L e kept signed = same_trees L e told.1 kept (signed told.1)
trees_untouched (Err stop) L e kept signed = tt

-- ---- the trees of a device

-- a device in which they stay
pub trees_stay : (self before after : Device) (e : Event) (answer : Reply) → self ≡ before → trees_of after ≡ trees_of before → IsKeptOnceSigned (trees_of after) (region_named e) e answer → KeepsItsTrees self e answer after
trees_stay self before after e answer is same signed = record {
  signed = signed;
  region = λ left place number own.
      subst (λ (kept : Option Trees). IsKeptFor (region_tree_in kept) place number) (sym same) (subst (λ (d : Device). IsKeptFor (region_tree_in (trees_of d)) place number) is own);
  device = λ left has. subst HasDeviceTree (sym same) (subst (λ (d : Device). HasDeviceTree (trees_of d)) is has);
}

-- one that refuses the event
pub trees_refused : (self before after : Device) (e : Event) (answer : Reply) (refusal : Refusal) → self ≡ before → trees_of after ≡ trees_of before → answer ≡ refusal_reply refusal → KeepsItsTrees self e answer after
trees_refused self before after e answer refusal is same told =
    trees_stay self before after e answer is same (unsigned (region_named e) e answer (trees_of after) (refused_unsigned refusal answer told))

-- one that was off
pub no_trees_off : (self after : Device) (state : Off) (e : Event) (answer : Reply) → self ≡ device.Off state → IsKeptOnceSigned (trees_of after) (region_named e) e answer → KeepsItsTrees self e answer after
no_trees_off self after state e answer is signed = record {
  signed = signed;
  region = λ left place number own. absurd (subst (λ (d : Device). IsKeptFor (region_tree_in (trees_of d)) place number) is own);
  device = λ left has. absurd (subst (λ (d : Device). HasDeviceTree (trees_of d)) is has);
}

-- one in which an order is answered
pub trees_ordered : {S E : Type 0} (r : Result (S × Reply) E) (before after : Known) (text draw : List ℕ) → LeavesKnown r before after
    → IfOk r (λ told. TreesAreKept 0 (event.Order text draw) told.1 (Some before.trees.value) (Some after.trees.value))
trees_ordered (Ok told) before after text draw leaves = record {
  signed = tt;
  region = λ left place number own. subst (λ (known : Known). IsKeptFor known.trees.value.region place number) (sym (leaves (not_done told.1 left))) own;
  device = λ left has. subst (λ (known : Known). IsSome known.trees.value.device) (sym (leaves (order_not_done told.1 left))) has;
}
trees_ordered (Err stop) before after text draw leaves = tt

-- the trees that a use of a region leaves are those of the device
pub trees_held : (L : ℕ) (e : Event) (answer : Reply) (old new : Device) (before after : Option Trees) → L ≡ region_named e → trees_of old ≡ before → trees_of new ≡ after → TreesAreKept L e answer before after → KeepsItsTrees old e answer new
trees_held L e answer old new before after named was is kept =
    subst (λ (n : ℕ). TreesAreKept n e answer (trees_of old) (trees_of new)) named
    (subst (λ (t : Option Trees). TreesAreKept L e answer t (trees_of new)) (sym was) (subst (λ (t : Option Trees). TreesAreKept L e answer before t) (sym is) kept))

pub tree_to_sign : (L : ℕ) (e : Event) (old : Device) (before : Option Trees) → L ≡ region_named e → trees_of old ≡ before → HasTreeFor old e → IsKeptToSign before L e
tree_to_sign L e old before named was own =
    subst (λ (n : ℕ). IsKeptToSign before n e) (sym named) (subst (λ (t : Option Trees). IsKeptToSign t (region_named e) e) was own)
