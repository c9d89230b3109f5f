-- What a call comes to once its region is stored: plainly, or signed by a key.
use Rattle.std.proofs.Common.{◌≡◌, ◌⊎◌, ℕ, List, Bool, true, false, Option, None, Some, inl, inr, refl, sym, ap, subst, ◌∙◌, arith}
use Rattle.std.specs.Prelude.{Result, Ok, Err, find, nat_le, if◌then◌else◌}
use Rattle.std.proofs.lemmas.Bool.{leb-false}
use Rattle.std.proofs.lemmas.Option.{same_Some}
use Rattle.sha2.specs.Sha256.{sha256}
use Rattle.mb_layout_edits.specs.Edits.{region_with_use}
use Rattle.mb_model.specs.declared.entry.Said.TheVariants.{Answer}
use Rattle.mb_model.specs.declared.key.KeySeed.{KeySeed}
use Rattle.mb_model.specs.declared.region.Region.{Region}
use Rattle.mb_model.specs.declared.region.RegionKey.{RegionKey}
use Rattle.mb_model.specs.declared.reply.Refusal.{Refusal}
use Rattle.mb_model.specs.declared.reply.Refusal.TheVariants.{KeySpent}
use Rattle.mb_model.specs.declared.reply.Reply.{Reply}
use Rattle.mb_model.specs.declared.reply.Reply.TheVariants as reply
use Rattle.mb_model.specs.declared.state.State.{State}
use Rattle.mb_model.specs.machine.Calls.{usable_key, key_for, call_statement_of, answer_by}
use Rattle.mb_model.specs.machine.LayerEvents.{Outcome, has_number}
use Rattle.mb_model.specs.memories.Valid.{IsValidState}
use Rattle.mb_model.specs.outside.Board.{Memory}
use Rattle.mb_model.specs.owners.Layers.{Runnable}
use Rattle.mb_model.specs.owners.Regions.{region_of, with_region}
use Rattle.mb_model.specs.records.ChainFormat.{statement_format}
use Rattle.mb_model_lemmas.proofs.DemandLemmas.{key_asked}
use Rattle.mb_model_memory.specs.Answering.{IsAnswered, tells, IsCutShort}
use Rattle.mb_model_memory.specs.Holding.{Means, IsReady}
use Rattle.mb_outbound.specs.Binding.{HasUse, IsBound}
use Rattle.mb_region.specs.Regions.{IsRegionSlot}
use Rattle.mb_device_orders.specs.declared.remembering.Known.{Known}
use Rattle.mb_device_orders.specs.Remembering.{Knows}
use Rattle.mb_device_regions.specs.declared.acting.Acted.{Acted}
use Rattle.mb_device_regions.specs.Statements.{signed_statement_bytes, subject_in}
use Rattle.mb_device_regions.proofs.Outcomes.{answered_as, cut_as}
use Rattle.mb_device_regions.proofs.Signed.{statement_in, use_valid, bound_reply}

-- ---- the key

pub no_signer : (region : Region) (signer : Option RegionKey) → key_for None region ≡ Ok signer → signer ≡ None
no_signer region None found = refl
no_signer region (Some key) found = absurd (grind (arith, found))

usable_is_some : (found : Option RegionKey) → usable_key found ≡ Ok None → ⊥
usable_is_some None e = grind (arith, e)
usable_is_some (Some key) e = by (nat_le 32 key.uses) e
  where
    by : (b : Bool) → ◌≡◌ {A = Result (Option RegionKey) Refusal} (if b then Err KeySpent else Ok (Some key)) (Ok None) → ⊥
    by true is = grind (arith, is)
    by false is = grind (arith, is)

-- the key that was asked for and found
pub record IsSigner (region : Region) (number : ℕ) (signer : Option RegionKey) : Type 0 where
  pub key : RegionKey
  pub is : signer ≡ Some key
  pub has_use : HasUse region number key

found_use : (region : Region) (number : ℕ) (key : RegionKey) → key_for (Some number) region ≡ Ok (Some key) → HasUse region number key
found_use region number key found =
    let asked = key_asked (Some number) region key found in
    let same : number ≡ asked.number = same_Some number asked.number asked.asked_is in
    record {
      found = subst (λ (n : ℕ). find (has_number n) region.keys ≡ Some key) (sym same) asked.found;
      left = leb-false 32 key.uses asked.left;
    }

pub signer_found : (region : Region) (number : ℕ) (signer : Option RegionKey) → key_for (Some number) region ≡ Ok signer → IsSigner region number signer
signer_found region number None found = absurd (usable_is_some (find (has_number number) region.keys) found)
signer_found region number (Some key) found = record { key = key; is = refl; has_use = found_use region number key found }

-- ---- without a key

abbrev plain_outcome : ℕ → List ℕ → State → Region → Outcome
plain_outcome L answer state region = (reply.Called answer, with_region state L region)

plain_is : (L : ℕ) (input answer : List ℕ) (state : State) (region : Region) (signer : Option RegionKey) → signer ≡ None
    → answer_by L signer input answer state (with_region state L region) ≡ plain_outcome L answer state region
plain_is L input answer state region signer none = ap (λ (k : Option RegionKey). answer_by L k input answer state (with_region state L region)) none

pub plain_told : (L : ℕ) (input answer : List ℕ) (state : State) (region : Region) (signer : Option RegionKey) (before after : Memory) → key_for None (region_of state L) ≡ Ok signer → IsReady after (with_region state L region)
    → IsAnswered (answer_by L signer input answer state (with_region state L region)) (reply.Called answer) before after
plain_told L input answer state region signer before after found ready = answered_as (plain_is L input answer state region signer (no_signer (region_of state L) signer found)) (tells refl ready)

pub plain_cut : (L : ℕ) (input answer : List ℕ) (state : State) (region : Region) (signer : Option RegionKey) (after : Memory) → key_for None (region_of state L) ≡ Ok signer
    → Means after state ⊎ Means after (with_region state L region) → IsCutShort state (answer_by L signer input answer state (with_region state L region)) after
plain_cut L input answer state region signer after found either =
    cut_as (plain_is L input answer state region signer (no_signer (region_of state L) signer found)) (record { writes = refl; counts = either })

-- ---- with a key

-- the region of a region that was put
here : (L : ℕ) → IsRegionSlot L → (state : State) (region : Region) → region_of (with_region state L region) L ≡ region
here L (inl same) state region = subst (λ (n : ℕ). region_of (with_region state n region) n ≡ region) (sym same) refl
here L (inr same) state region = subst (λ (n : ℕ). region_of (with_region state n region) n ≡ region) (sym same) refl

over : (L : ℕ) → IsRegionSlot L → (state : State) (first second : Region) → with_region (with_region state L first) L second ≡ with_region state L second
over L (inl same) state first second = subst (λ (n : ℕ). with_region (with_region state n first) n second ≡ with_region state n second) (sym same) refl
over L (inr same) state first second = subst (λ (n : ℕ). with_region (with_region state n first) n second ≡ with_region state n second) (sym same) refl

used_over : (L number : ℕ) → IsRegionSlot L → (state : State) (region : Region)
    → with_region (with_region state L region) L (region_with_use number (region_of (with_region state L region) L)) ≡ with_region state L (region_with_use number region)
used_over L number which state region =
    ap (λ (r : Region). with_region (with_region state L region) L (region_with_use number r)) (here L which state region) ∙ over L which state region (region_with_use number region)

-- a device can have the state with the use
pub used_valid : (L number : ℕ) → IsRegionSlot L → (state : State) (region : Region) → Runnable state.layers L → IsValidState (with_region state L region) → IsValidState (with_region state L (region_with_use number region))
used_valid L number which state region runs valid = subst IsValidState (used_over L number which state region) (use_valid L number (with_region state L region) runs valid)

answer_stated : (state : State) (key : RegionKey) (input answer : List ℕ) → statement_in state key (Answer (sha256 input) answer) ≡ call_statement_of state key input answer
unfolding call_statement_of
answer_stated state key input answer = refl

abbrev keyed_outcome : ℕ → RegionKey → List ℕ → List ℕ → State → Region → Outcome
keyed_outcome L key input answer state region =
    (reply.Signed key.number key.uses (statement_format.spelling (call_statement_of state key input answer)), with_region state L (region_with_use key.number region))

keyed_is : (L : ℕ) (input answer : List ℕ) (state : State) (region : Region) (signer : Option RegionKey) (key : RegionKey) → IsRegionSlot L → signer ≡ Some key
    → answer_by L signer input answer state (with_region state L region) ≡ keyed_outcome L key input answer state region
keyed_is L input answer state region signer key which is =
    ap (λ (k : Option RegionKey). answer_by L k input answer state (with_region state L region)) is
    ∙ ap (λ (s : State). let o : Outcome = (reply.Signed key.number key.uses (statement_format.spelling (call_statement_of state key input answer)), s) in o) (used_over L key.number which state region)

-- the key that was bound is the one that was found
one_key : (number : ℕ) (region stored : Region) (bound key : RegionKey) → region.keys ≡ stored.keys → HasUse region number bound → HasUse stored number key → bound ≡ key
one_key number region stored bound key same has found =
    same_Some bound key (sym has.found ∙ ap (λ (keys : List RegionKey). find (has_number number) keys) same ∙ found.found)

pub keyed_told : (L number right : ℕ) (seed : KeySeed) (known : Known) (input : List ℕ) (acted : Acted) (answer : Reply) (state : State) (signer : Option RegionKey) (before after : Memory) → IsRegionSlot L
    → acted.region.keys ≡ (region_of state L).keys → key_for (Some number) (region_of state L) ≡ Ok signer → IsBound acted.region number right seed → Knows known state
    → answer ≡ reply.Signed number right (signed_statement_bytes seed right (subject_in known number) (Answer (sha256 input) acted.answer))
    → IsReady after (with_region state L (region_with_use number acted.region))
    → IsAnswered (answer_by L signer input acted.answer state (with_region state L acted.region)) answer before after
keyed_told L number right seed known input acted answer state signer before after which keys found bound knows is ready =
    let signs = signer_found (region_of state L) number signer found in
    let same : bound.key ≡ signs.key = one_key number acted.region (region_of state L) bound.key signs.key keys bound.has_use signs.has_use in
    let numbered : signs.key.number ≡ number = (key_asked (Some number) (region_of state L) signs.key (found ∙ ap (λ (k : Option RegionKey). let o : Result (Option RegionKey) Refusal = Ok k in o) signs.is)).number_is
    ∙ sym (same_Some number _ (key_asked (Some number) (region_of state L) signs.key (found ∙ ap (λ (k : Option RegionKey). let o : Result (Option RegionKey) Refusal = Ok k in o) signs.is)).asked_is) in
    answered_as (keyed_is L input acted.answer state acted.region signer signs.key which signs.is)
    (tells
    (is ∙ bound_reply acted.region state number right seed known (Answer (sha256 input) acted.answer) bound knows
    ∙ ap (λ (k : RegionKey). reply.Signed k.number k.uses (statement_format.spelling (statement_in state k (Answer (sha256 input) acted.answer)))) same
    ∙ ap (λ s. reply.Signed signs.key.number signs.key.uses (statement_format.spelling s)) (answer_stated state signs.key input acted.answer))
    (subst (λ (n : ℕ). IsReady after (with_region state L (region_with_use n acted.region))) (sym numbered) ready))

pub keyed_cut : (L number : ℕ) (input : List ℕ) (acted : Acted) (state : State) (signer : Option RegionKey) (after : Memory) → IsRegionSlot L → key_for (Some number) (region_of state L) ≡ Ok signer
    → Means after state ⊎ Means after (with_region state L (region_with_use number acted.region))
    → IsCutShort state (answer_by L signer input acted.answer state (with_region state L acted.region)) after
keyed_cut L number input acted state signer after which found either =
    let signs = signer_found (region_of state L) number signer found in
    let asked = key_asked (Some number) (region_of state L) signs.key (found ∙ ap (λ (k : Option RegionKey). let o : Result (Option RegionKey) Refusal = Ok k in o) signs.is) in
    let numbered : signs.key.number ≡ number = asked.number_is ∙ sym (same_Some number asked.number asked.asked_is) in
    cut_as (keyed_is L input acted.answer state acted.region signer signs.key which signs.is) (record {
      writes = refl;
      counts = subst (λ (n : ℕ). Means after state ⊎ Means after (with_region state L (region_with_use n acted.region))) (sym numbered) either;
    })
