-- What an order and its settling write to a flash in segments is held.
use Rattle.std.proofs.Common.{◌≡◌, ◌≢◌, ◌≤◌, ℕ, ◌+◌, ◌-◌, inl, inr, List, [], ◌∷◌, ◌++◌, length, Option, None, Some, Bool, true, false, refl, sym, ap, subst, ◌∙◌, arith, length-append, eqb-true}
use Rattle.std.specs.Prelude.{◌==◌, IfSome, if◌then◌else◌}
use Rattle.std.proofs.Math.Seq.{append_snoc}
use Rattle.mb_format.specs.Format.{Spells}
use Rattle.mb_model.specs.declared.order.Act.{Act}
use Rattle.mb_model.specs.declared.order.Act.TheVariants as act
use Rattle.mb_model.specs.declared.entry.SignedEntry.{SignedEntry}
use Rattle.mb_model.specs.declared.entry.Entry.{Entry}
use Rattle.mb_model.specs.declared.state.Codes.{Codes}
use Rattle.mb_model.specs.declared.stored.Root.{Root}
use Rattle.mb_model.specs.declared.stored.Slot.{Slot}
use Rattle.mb_model.specs.declared.stored.Header.{Header}
use Rattle.mb_model.specs.records.HeaderFormat.{header_format}
use Rattle.mb_model.specs.machine.OrderEffects.{code_after}
use Rattle.mb_model.specs.memories.Sectors.{header_sector, log_sector, BeginsAs}
use Rattle.mb_model.specs.memories.Flash.{sector, code_slot, HoldsHeader, HoldsCode, HoldsLog, HoldsPublic}
use Rattle.mb_model.specs.memories.StoredLog.{AreCounted}
use Rattle.mb_model_lemmas.specs.SegmentLaws.{IsOnlyHeader}
use Rattle.mb_model_lemmas.proofs.HeldSegments.{begins_with, holds_entry, log_push}
use Rattle.mb_model_memory.specs.FlashInForce.{slot_in, AgreeForArea, IsUncounted, IsFreeSlot, BeginsWithBytes, IsSectorWritten}
use Rattle.mb_model_memory.specs.NextHeaders.{free_slot, code_brought, HasNewCode, IsCodeWritten, slot_after, header_after, header_settled}
use Rattle.mb_model_memory.specs.FlashLaws.{OrdersAreHeld, OrderWritesAreHeld, LogWritesAppend, SettledLogsAreHeld, SettlingOneIsHeld, SettlingTwoIsHeld}
use Rattle.mb_model_memory.proofs.FlashFrames.{sector_apart, slot_apart, code_stays, log_stays, segments_stay, stays_header, torn_log, torn_header, torn_code, agree_same, agree_then}

-- ---- what an order leaves

free_named : (b : Bool) → ◌≢◌ {A = ℕ} (if b then 2 else 1) 0
free_named true e = omega (arith, e)
free_named false e = omega (arith, e)

-- the slot that an order leaves of its layer holds the code that it leaves
code_left : (flash : List ℕ) (layer : ℕ) (old : Slot) (code : Option (List ℕ)) (act : Act) → HoldsCode flash layer old code → HasNewCode flash layer old act → HoldsCode flash layer (slot_after old act) (code_after code act)
code_left flash layer old code (act.Establish owner trust) holds stands = refl
code_left flash layer old code act.Surrender holds stands = refl
code_left flash layer old code (act.Load payload) holds stands = (free_named (old.which == 1), sym stands)
code_left flash layer old code (act.Emergency payload) holds stands = (free_named (old.which == 1), sym stands)
code_left flash layer old code (act.NewKey kind) holds stands = holds

-- so it is in each layer, whether it is the order's or not
layer_left : (flash : List ℕ) (m layer : ℕ) (b : Bool) (header : Header) (code : Option (List ℕ)) (act : Act) → (layer == m) ≡ b → HoldsCode flash m (slot_in header m) code → HasNewCode flash layer (slot_in header layer) act
    → HoldsCode flash m (if b then slot_after (slot_in header m) act else slot_in header m) (if b then code_after code act else code)
layer_left flash m layer true header code act e holds stands =
    code_left flash m (slot_in header m) code act holds (subst (λ n. HasNewCode flash n (slot_in header n) act) (eqb-true layer m e) stands)
layer_left flash m layer false header code act e holds stands = holds

pub order_held : OrdersAreHeld
order_held before after old new codes signed unsigned layer act first second holds agree stands begins are counted =
    let slots = (agree.slots holds.header holds.begins).slots in
    record {
      header = header_after holds.header layer act first second;
      begins = begins;
      one = layer_left after 1 layer (layer == 1) holds.header codes.one act refl (code_stays before after 1 holds.header.one codes.one (slots 1 (omega arith) (omega arith)) holds.one) stands;
      two = layer_left after 2 layer (layer == 2) holds.header codes.two act refl (code_stays before after 2 holds.header.two codes.two (slots 2 (omega arith) (omega arith)) holds.two) stands;
      three = layer_left after 3 layer (layer == 3) holds.header codes.three act refl (code_stays before after 3 holds.header.three codes.three (slots 3 (omega arith) (omega arith)) holds.three) stands;
      count = holds.count;
      log = log_stays before after signed (λ position less. agree.log holds.header holds.begins position (omega (arith, less, holds.count))) holds.log;
      unsigned_are = are;
      counted = counted;
    }

-- ---- what an order writes

pub one_or_two : (b : Bool) → (1 ≤ (if b then 2 else 1)) × ((if b then 2 else 1) ≤ 2)
one_or_two true = (omega arith, omega arith)
one_or_two false = (omega arith, omega arith)

pub not_named : (b : Bool) (which : ℕ) → (which == 1) ≡ b → which ≢ (if b then 2 else 1)
not_named true which e same = omega (arith, eqb-true which 1 e, same)
not_named false which e same = absurd (grind (arith, e, same))

-- the slot that the only header does not name is free
free_is : (flash : List ℕ) (area layer : ℕ) (header : Header) → IsOnlyHeader flash area header → IsFreeSlot flash area layer (free_slot (slot_in header layer))
free_is flash area layer header only any held same =
    not_named ((slot_in header layer).which == 1) (slot_in header layer).which refl
    (subst (λ (h : Header). (slot_in h layer).which ≡ free_slot (slot_in header layer)) (only any held) same)

code_agrees : (before between : List ℕ) (area layer : ℕ) (header : Header) (code : Option (List ℕ)) → IsOnlyHeader before area header → area ≤ 1 → 1 ≤ layer → layer ≤ 3 → length before ≡ 1048576
    → IsCodeWritten layer (slot_in header layer) code before between → AgreeForArea before between area
code_agrees before between area layer header None only low least most sized same = subst (λ (f : List ℕ). AgreeForArea before f area) (sym same) (agree_same before area)
code_agrees before between area layer header (Some code) only low least most sized written =
    let free = one_or_two ((slot_in header layer).which == 1) in
    torn_code before between area layer (free_slot (slot_in header layer)) low least most free.0 free.1 (free_is before area layer header only) sized written.0

code_sized : (before between : List ℕ) (layer : ℕ) (slot : Slot) (code : Option (List ℕ)) → length before ≡ 1048576 → IsCodeWritten layer slot code before between → length between ≡ 1048576
code_sized before between layer slot None sized same = ap length same ∙ sized
code_sized before between layer slot (Some code) sized written = written.0.sized ∙ sized

-- the code stays over the write of a header
code_over : (before between after : List ℕ) (area layer : ℕ) (slot : Slot) (act : Act) (bytes : List ℕ) → area ≤ 1 → layer ≤ 3 → length between ≡ 1048576 → IsCodeWritten layer slot (code_brought act) before between
    → IsSectorWritten (header_sector area) bytes between after → HasNewCode after layer slot act
code_over before between after area layer slot act bytes low most sized code written = by_code (code_brought act) code
  where
    same : code_slot after layer (free_slot slot) ≡ code_slot between layer (free_slot slot)
    same = slot_apart layer (free_slot slot) (header_sector area) 1 between after most (one_or_two (slot.which == 1)).1 (inl (omega (arith, low))) sized written.same

    by_code : (brought : Option (List ℕ)) → IsCodeWritten layer slot brought before between → IfSome brought (BeginsWithBytes (code_slot after layer (free_slot slot)))
    by_code None is = tt
    by_code (Some code) is = subst (λ (xs : List ℕ). BeginsWithBytes xs code) (sym same) is.1

pub order_written : OrderWritesAreHeld
order_written before between after old new codes signed unsigned layer act first second bytes holds only low least most sized code written spells area are counted =
    let header = holds.header in
    let sized_between : length between ≡ 1048576 = code_sized before between layer (slot_in header layer) (code_brought act) sized code in
    let agree : AgreeForArea before after old.area =
    agree_then before between after old.area (code_agrees before between old.area layer header (code_brought act) only low least most sized code)
    (torn_header between after old.area low sized_between written.same)
    in
    let stands : HasNewCode after layer (slot_in header layer) act = code_over before between after (1 - old.area) layer (slot_in header layer) act bytes (omega arith) most sized_between code written in
    let begins = begins_with header_format (sector after (header_sector (1 - old.area))) bytes (header_after header layer act first second) spells written.begins in (
      order_held before after old new codes signed unsigned layer act first second holds agree stands (subst (λ n. HoldsHeader after n (header_after header layer act first second)) (sym area) begins) are counted,
      segments_stay before after old codes signed [] agree holds,
    )

-- ---- settling

pub log_appended : LogWritesAppend
log_appended before after log signed bytes few sized spells written holds =
    log_push after log signed
    (log_stays before after log (λ position less. sector_apart (log_sector position) (log_sector (length log)) 1 before after (omega (arith, few, less)) (inl (omega (arith, less))) sized written.same) holds)
    (holds_entry (sector after (log_sector (length log))) bytes signed spells written.begins)

pub log_settled : SettledLogsAreHeld
log_settled flash root new codes signed more unsigned holds log begins none = record {
  header = header_settled holds.header (length more);
  begins = begins;
  one = holds.one;
  two = holds.two;
  three = holds.three;
  count = length-append signed more ∙ ap (λ n. n + length more) holds.count;
  log = log;
  unsigned_are = tt;
  counted = subst (λ p. AreCounted p []) (sym none) (record { counted = refl; can_sign = tt });
}

-- a log in its sectors stays over the write of a header
log_over : (before after : List ℕ) (area : ℕ) (log : List SignedEntry) (bytes : List ℕ) → area ≤ 1 → length log ≤ 128 → length before ≡ 1048576 → IsSectorWritten (header_sector area) bytes before after
    → HoldsLog before log → HoldsLog after log
log_over before after area log bytes low few sized written holds =
    log_stays before after log (λ position less. sector_apart (log_sector position) (header_sector area) 1 before after (omega (arith, few, less)) (inr (omega (arith, low))) sized written.same) holds

-- the sectors from the count of the only header on are not counted
uncounted_from : (flash : List ℕ) (area position : ℕ) (header : Header) → IsOnlyHeader flash area header → header.signed ≤ position → IsUncounted flash area position
uncounted_from flash area position header only most any held = omega (arith, most, ap (λ (h : Header). h.signed) (only any held))

-- the last write: the header, over a log that is whole, for what the flash held all along
header_written : (first before after : List ℕ) (root new : Root) (codes : Codes) (signed more : List SignedEntry) (unsigned : List Entry) (bytes : List ℕ) (holds : HoldsPublic first root codes signed unsigned)
    → AgreeForArea first before root.area → root.area ≤ 1 → length before ≡ 1048576 → length signed + length more ≤ 128 → HoldsLog before (signed ++ more)
    → IsSectorWritten (header_sector (1 - root.area)) bytes before after → Spells header_format bytes (header_settled holds.header (length more)) → new.area ≡ 1 - root.area → new.pending ≡ None
    → HoldsPublic after new codes (signed ++ more) [] × HoldsPublic after root codes signed unsigned
header_written first before after root new codes signed more unsigned bytes holds agreed low sized room log written spells area none =
    let agree : AgreeForArea first after root.area = agree_then first before after root.area agreed (torn_header before after root.area low sized written.same) in
    let held : HoldsPublic after root codes signed unsigned = segments_stay first after root codes signed unsigned agree holds in
    let whole : HoldsLog after (signed ++ more) = log_over before after (1 - root.area) (signed ++ more) bytes (omega arith) (omega (arith, room, length-append signed more)) sized written log in
    let begins = begins_with header_format (sector after (header_sector (1 - root.area))) bytes (header_settled holds.header (length more)) spells written.begins in
    let there : HoldsHeader after new.area (header_settled held.header (length more)) =
    subst (λ (h : Header). HoldsHeader after new.area (header_settled h (length more))) (sym (stays_header first after root codes signed unsigned agree holds))
    (subst (λ n. HoldsHeader after n (header_settled holds.header (length more))) (sym area) begins)
    in
    (log_settled after root new codes signed more unsigned held whole there none, held)

pub one_settled : SettlingOneIsHeld
one_settled before between after root new codes signed unsigned one log_bytes bytes holds only low sized room one_is log written spells area none =
    let sized_between : length between ≡ 1048576 = log.same.sized ∙ sized in
    let agree : AgreeForArea before between root.area =
    torn_log before between root.area (length signed) low (omega (arith, room)) (uncounted_from before root.area (length signed) holds.header only (omega (arith, holds.count))) sized log.same
    in
    let whole : HoldsLog between (signed ++ one ∷ []) = log_appended before between signed one log_bytes (omega (arith, room)) sized one_is log holds.log in
    header_written before between after root new codes signed (one ∷ []) unsigned bytes holds agree low sized_between room whole written spells area none

pub two_settled : SettlingTwoIsHeld
two_settled before between next after root new codes signed unsigned one two first_bytes second_bytes bytes holds only low sized room one_is two_is log more written spells area none =
    let sized_between : length between ≡ 1048576 = log.same.sized ∙ sized in
    let sized_next : length next ≡ 1048576 = more.same.sized ∙ sized_between in
    let count : length (signed ++ one ∷ []) ≡ length signed + 1 = length-append signed (one ∷ []) in
    let agree : AgreeForArea before between root.area =
    torn_log before between root.area (length signed) low (omega (arith, room)) (uncounted_from before root.area (length signed) holds.header only (omega (arith, holds.count))) sized log.same
    in
    let only_between : IsOnlyHeader between root.area holds.header = λ any held. only any (subst (λ (xs : List ℕ). BeginsAs header_format xs any) agree.header held) in
    let agree_more : AgreeForArea between next root.area =
    torn_log between next root.area (length signed + 1) low (omega (arith, room)) (uncounted_from between root.area (length signed + 1) holds.header only_between (omega (arith, holds.count))) sized_between more.same
    in
    let first : HoldsLog between (signed ++ one ∷ []) = log_appended before between signed one first_bytes (omega (arith, room)) sized one_is log holds.log in
    let both : HoldsLog next (signed ++ one ∷ [] ++ two ∷ []) =
    log_appended between next (signed ++ one ∷ []) two second_bytes (omega (arith, room, count)) sized_between two_is (subst (λ n. IsSectorWritten (log_sector n) second_bytes between next) (sym count) more) first
    in
    header_written before next after root new codes signed (one ∷ two ∷ []) unsigned bytes holds (agree_then before between next root.area agree agree_more) low sized_next room
    (subst (HoldsLog next) (append_snoc signed one (two ∷ [])) both) written spells area none
