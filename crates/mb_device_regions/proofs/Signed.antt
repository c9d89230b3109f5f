-- What a request to sign comes to in a memory.
use Rattle.std.proofs.Common.{◌≡◌, ◌<◌, ℕ, ◌⊎◌, List, Bool, true, false, Option, None, refl, sym, ap, subst, ◌∙◌, arith}
use Rattle.std.specs.Prelude.{nat_le, find, if◌then◌else◌}
use Rattle.std.proofs.lemmas.Bool.{le-leb}
use Rattle.mb_format.specs.Format.{IsBytes}
use Rattle.mb_model.specs.declared.entry.Said.{Said}
use Rattle.mb_model.specs.declared.entry.Said.TheVariants.{Message}
use Rattle.mb_model.specs.declared.entry.Statement.{Statement}
use Rattle.mb_model.specs.declared.key.KeySeed.{KeySeed}
use Rattle.mb_model.specs.declared.region.Region.{Region}
use Rattle.mb_model.specs.declared.region.RegionKey.{RegionKey}
use Rattle.mb_model.specs.declared.reply.Reply.{Reply}
use Rattle.mb_model.specs.declared.reply.Reply.TheVariants as reply
use Rattle.mb_model.specs.declared.state.State.{State}
use Rattle.mb_model.specs.outside.Board.{Memory, IsLoaded}
use Rattle.mb_model.specs.records.ChainFormat.{statement_format}
use Rattle.mb_model.specs.machine.SignedTexts.{said_text}
use Rattle.mb_model.specs.signatures.Signing.{signature_of}
use Rattle.mb_model.specs.owners.Layers.{Runnable}
use Rattle.mb_model.specs.machine.LayerEvents.{Outcome, has_number, statement_of, sign_with, sign_event}
use Rattle.mb_model.specs.owners.Log.{entries_of, number_of}
use Rattle.mb_model.specs.memories.Memory.{IsBlank, area_of_slot, inactive_area_of_slot}
use Rattle.mb_model.specs.owners.Regions.{region_of, with_region}
use Rattle.mb_model.specs.declared.reply.Refusal.TheVariants.{NoSuchKey, KeySpent}
use Rattle.mb_model.specs.machine.Refusals.{refusal_reply}
use Rattle.mb_model.specs.memories.Valid.{IsValidState}
use Rattle.mb_model_lemmas.proofs.FateLemmas.{keys_increase}
use Rattle.mb_model_lemmas.proofs.ValidStates.{valid_is_ruled, region_is_valid, valid_with}
use Rattle.mb_model_lemmas.proofs.ValidRegions.{valid_over_use}
use Rattle.mb_layout_edits.specs.Edits.{region_with_use, IsSpent}
use Rattle.mb_model_memory.specs.Holding.{Means, IsReady, HasReady}
use Rattle.mb_model_memory.specs.Answering.{IsAnswered, tells, IsCutShort}
use Rattle.mb_model_memory.proofs.StorableSteps.{found_number}
use Rattle.mb_slot.specs.Slots.{IsSameBut}
use Rattle.mb_region.specs.Regions.{IsRegionSlot}
use Rattle.mb_region.proofs.Meant.{edited_or_kept}
use Rattle.mb_outbound.specs.Binding.{HoldsOrdered, HasUse, IsBound, StoresUse, KeepsOrStoresUse}
use Rattle.mb_device_orders.specs.declared.remembering.Known.{Known}
use Rattle.mb_device_orders.specs.Remembering.{Knows}
use Rattle.mb_device_regions.specs.Statements.{signed_statement, signed_statement_bytes, subject_in}
use Rattle.mb_device_regions.proofs.Outcomes.{answered_as, cut_as}
use Rattle.mb_device_regions.proofs.Readied.{region_held, region_valid, ready_edited, no_fate}

-- the keys of the region of a ready device stand in the order of their numbers
pub held_ordered : (L : ℕ) (memory : Memory) → IsRegionSlot L → HasReady memory → HoldsOrdered (area_of_slot memory.bbram L)
held_ordered L memory which has = record {
  region = region_of has.state L;
  holds = region_held L memory has.state which has.ready;
  ordered = keys_increase (entries_of has.state.log) L (region_of has.state L).keys (valid_is_ruled has.state has.ready.valid) (region_valid L has.state which has.ready.valid).keys;
}

-- ---- refusals

no_key : (L number : ℕ) (message : List ℕ) (state : State) → find (has_number number) (region_of state L).keys ≡ None → sign_event L number message state ≡ (refusal_reply NoSuchKey, state)
unfolding sign_event
no_key L number message state none = ap (λ (found : Option RegionKey). sign_with L found message state) none

abbrev after_use : ℕ → RegionKey → List ℕ → State → Outcome
after_use L key message state =
    (reply.Signed key.number key.uses (statement_format.spelling (statement_of state key message)), with_region state L (region_with_use key.number (region_of state L)))

spent_key : (L number : ℕ) (message : List ℕ) (state : State) → IsSpent (region_of state L) number → sign_event L number message state ≡ (refusal_reply KeySpent, state)
unfolding sign_event
spent_key L number message state is =
    ap (λ (found : Option RegionKey). sign_with L found message state) is.found
    ∙ ap (λ (b : Bool). let o : Outcome = if b then (refusal_reply KeySpent, state) else after_use L is.key message state in o) (le-leb 32 is.key.uses is.spent)

-- nothing was written
still_ready : (before after : Memory) (state : State) → after ≡ before → IsReady before state → IsReady after state
still_ready before after state same ready = subst (λ (m : Memory). IsReady m state) (sym same) ready

pub no_key_told : (L number : ℕ) (message : List ℕ) (state : State) (answer : Reply) (before after : Memory) → answer ≡ refusal_reply NoSuchKey → find (has_number number) (region_of state L).keys ≡ None → after ≡ before → IsReady before state
    → IsAnswered (sign_event L number message state) answer before after
no_key_told L number message state answer before after told none same ready = answered_as (no_key L number message state none) (tells told (still_ready before after state same ready))

pub spent_told : (L number : ℕ) (message : List ℕ) (state : State) (answer : Reply) (before after : Memory) → answer ≡ refusal_reply KeySpent → IsSpent (region_of state L) number → after ≡ before → IsReady before state
    → IsAnswered (sign_event L number message state) answer before after
spent_told L number message state answer before after told is same ready = answered_as (spent_key L number message state is) (tells told (still_ready before after state same ready))

-- ---- a signature

left_one : (uses : ℕ) → uses < 32 → nat_le 32 uses ≡ false
left_one uses left = by (nat_le 32 uses) refl
  where
    by : (b : Bool) → nat_le 32 uses ≡ b → b ≡ false
    by false e = refl
    by true e = absurd (grind (arith, e, left))

used_outcome : (L number : ℕ) (message : List ℕ) (state : State) (key : RegionKey) → HasUse (region_of state L) number key → sign_event L number message state ≡ after_use L key message state
unfolding sign_event
used_outcome L number message state key has =
    ap (λ (found : Option RegionKey). sign_with L found message state) has.found
    ∙ ap (λ (b : Bool). let o : Outcome = if b then (refusal_reply KeySpent, state) else after_use L key message state in o) (left_one key.uses has.left)

-- what is signed for a subject, by its parts
abbrev bytes_by : KeySeed → ℕ → ℕ → List ℕ → ℕ → Said → List ℕ
bytes_by seed index key serial number said = signed_statement_bytes seed index (record { serial = serial; key = key; number = number }) said

-- the statement that says this, by a key of a region
abbrev pub statement_in : State → RegionKey → Said → Statement
statement_in state key said =
    signed_statement (number_of (entries_of state.log)) said (signature_of key.seed key.uses (said_text state.serial key.number (number_of (entries_of state.log)) said))

-- the bytes are those of the statement
pub stated_as : (state : State) (key : RegionKey) (number right : ℕ) (seed : KeySeed) (known : Known) (said : Said) → key.number ≡ number → right ≡ key.uses → seed ≡ key.seed → Knows known state
    → signed_statement_bytes seed right (subject_in known number) said ≡ statement_format.spelling (statement_in state key said)
stated_as state key number right seed known said own index same knows =
    ap (λ (n : ℕ). bytes_by seed right n known.serial known.figures.number said) (sym own)
    ∙ ap (λ (n : ℕ). bytes_by seed n key.number known.serial known.figures.number said) index
    ∙ ap (λ (k : KeySeed). bytes_by k key.uses key.number known.serial known.figures.number said) same
    ∙ ap (λ (xs : List ℕ). bytes_by key.seed key.uses key.number xs known.figures.number said) knows.serial
    ∙ ap (λ (n : ℕ). bytes_by key.seed key.uses key.number state.serial n said) (ap (λ f. f.number) knows.figures)

pub use_valid : (L number : ℕ) (state : State) → Runnable state.layers L → IsValidState state → IsValidState (with_region state L (region_with_use number (region_of state L)))
use_valid L number state runs valid =
    valid_with state L (region_with_use number (region_of state L)) valid (λ upper. valid_over_use (entries_of state.log) state.layers L number (region_of state L) upper runs (region_is_valid state L upper valid))

-- the memory before and after a use of the key is stored
pub record UsesKey (L number : ℕ) (before after : Memory) : Type 0 where
  pub bytes : IsBytes before.bbram
  pub loaded : IsLoaded before
  pub sized : IsLoaded after
  pub stores : StoresUse L number before after
  pub blank : IsBlank (inactive_area_of_slot after.bbram L)
  pub rest : IsSameBut L before.bbram after.bbram

use_ready : (L number : ℕ) (before after : Memory) (state : State) → IsRegionSlot L → UsesKey L number before after → Runnable state.layers L → IsReady before state
    → IsReady after (with_region state L (region_with_use number (region_of state L)))
use_ready L number before after state which uses runs ready =
    ready_edited L (region_with_use number) before after state which uses.bytes uses.loaded ready uses.sized uses.stores.stored uses.blank uses.rest (use_valid L number state runs ready.valid)

pub reply_as : (number own right uses : ℕ) (bytes spelled : List ℕ) → own ≡ number → right ≡ uses → bytes ≡ spelled → reply.Signed number right bytes ≡ reply.Signed own uses spelled
reply_as number own right uses bytes spelled same index is =
    ap (λ (n : ℕ). reply.Signed n right bytes) (sym same) ∙ ap (λ (n : ℕ). reply.Signed own n bytes) index ∙ ap (reply.Signed own uses) is

-- the reply of a key that was bound is that of the statement
pub bound_reply : (region : Region) (state : State) (number right : ℕ) (seed : KeySeed) (known : Known) (said : Said) (bound : IsBound region number right seed) → Knows known state
    → reply.Signed number right (signed_statement_bytes seed right (subject_in known number) said) ≡ reply.Signed bound.key.number bound.key.uses (statement_format.spelling (statement_in state bound.key said))
bound_reply region state number right seed known said bound knows =
    let own_number : bound.key.number ≡ number = found_number number region.keys bound.key bound.has_use.found in
    reply_as number bound.key.number right bound.key.uses _ _ own_number bound.index (stated_as state bound.key number right seed known said own_number bound.index bound.seed knows)

message_stated : (state : State) (key : RegionKey) (message : List ℕ) → statement_in state key (Message message) ≡ statement_of state key message
unfolding statement_of
message_stated state key message = refl

pub signed_told : (L number right : ℕ) (seed : KeySeed) (known : Known) (said : Said) (message : List ℕ) (answer : Reply) (state : State) (before after : Memory) → IsRegionSlot L
    → IsBound (region_of state L) number right seed → UsesKey L number before after → Knows known state → said ≡ Message message
    → answer ≡ reply.Signed number right (signed_statement_bytes seed right (subject_in known number) said) → Runnable state.layers L → IsReady before state
    → IsAnswered (sign_event L number message state) answer before after
signed_told L number right seed known said message answer state before after which bound uses knows says is runs ready =
    let key : RegionKey = bound.key in
    let own_number : key.number ≡ number = found_number number (region_of state L).keys key bound.has_use.found in
    answered_as (used_outcome L number message state key bound.has_use)
    (tells
    (is ∙ bound_reply (region_of state L) state number right seed known said bound knows
    ∙ ap (λ (x : Said). reply.Signed key.number key.uses (statement_format.spelling (statement_in state key x))) says
    ∙ ap (λ (x : Statement). reply.Signed key.number key.uses (statement_format.spelling x)) (message_stated state key message))
    (subst (λ (n : ℕ). IsReady after (with_region state L (region_with_use n (region_of state L)))) (sym own_number) (use_ready L number before after state which uses runs ready)))

-- ---- a power loss

pub signed_cut : (L number : ℕ) (message : List ℕ) (state : State) (before after : Memory) (key : RegionKey) → IsRegionSlot L → HasUse (region_of state L) number key → IsBytes before.bbram → IsLoaded after
    → KeepsOrStoresUse L number before after → IsReady before state → IsCutShort state (sign_event L number message state) after
signed_cut L number message state before after key which has are sized either ready =
    let own_number : key.number ≡ number = found_number number (region_of state L).keys key has.found in
    cut_as (used_outcome L number message state key has) (record {
      writes = refl;
      counts = subst (λ (n : ℕ). Means after state ⊎ Means after (with_region state L (region_with_use n (region_of state L)))) (sym own_number)
          (edited_or_kept L (region_with_use number) before after which sized (no_fate L before state are ready) either state ready.means);
    })
