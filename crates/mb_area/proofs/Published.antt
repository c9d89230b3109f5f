-- What writes of code, header and log leave of a flash, and of what the memory holds.
use Rattle.std.proofs.Common.{◌≡◌, ◌≢◌, ℕ, ◌+◌, ◌*◌, ◌-◌, ◌<◌, ◌≤◌, ◌==◌, ◌⊎◌, inl, inr, Bool, true, false, cond, List, [], ◌∷◌, length, take, drop, Option, None, Some, OnOk, Result, Ok, Err, refl, sym, ap, subst, ◌∙◌, arith, rules}
use Rattle.std.specs.Prelude.{◌&&◌, if◌then◌else◌}
use Rattle.std.specs.Str.{bytes_eq}
use Rattle.std.proofs.lemmas.Bool.{cases_order, ne_eqb}
use Rattle.std.proofs.lemmas.List.{take-take, length-take}
use Rattle.mb_format.specs.Combinators.{same_bytes}
use Rattle.mb_format.proofs.Fields.{same_bytes-true}
use Rattle.mb_model.specs.declared.stored.Root.{Root}
use Rattle.mb_model.specs.declared.stored.Slot.{Slot}
use Rattle.mb_model.specs.declared.stored.Header.{Header}
use Rattle.mb_model.specs.outside.Board.{Memory}
use Rattle.mb_model.specs.memories.Meaning.{RootIn, HoldsContents}
use Rattle.mb_model.specs.outside.Pieces.{part}
use Rattle.mb_model.specs.memories.Sectors.{header_sector, code_sector, log_sector}
use Rattle.mb_model.specs.machine.Actions.{call_word, begins_with_call_word}
use Rattle.mb_model.specs.machine.LayerEvents.{takes_calls}
use Rattle.mb_model.specs.memories.Flash.{sector, code_slot, HoldsHeader, HoldsCode}
use Rattle.mb_model_lemmas.proofs.HeldSegments.{front_of_sector, front_of_slot}
use Rattle.mb_model_lemmas.proofs.PublicLemmas.{bounded_by}
use Rattle.mb_model_memory.specs.FlashInForce.{slot_in, AgreeForArea, IsFreeSlot, IsUncounted, DiffersOnlyIn, BeginsWithBytes, IsSectorWritten}
use Rattle.mb_model_memory.specs.Holding.{KeepsContents}
use Rattle.mb_model_memory.specs.NextHeaders.{free_slot, IsCodeWritten}
use Rattle.mb_model_memory.proofs.FlashFrames.{sector_apart, torn_log, torn_header, torn_code}
use Rattle.mb_model_memory.proofs.FrameLemmas.{other_flash}
use Rattle.mb_model_memory.proofs.FlashWrites.{one_or_two, not_named}
use Rattle.mb_slot.specs.Slots.{IsSameOutside}
use Rattle.mb_slot.proofs.Slotted.{on_ok}
use Rattle.mb_flash.specs.Sectors.{sectors_for}
use Rattle.mb_layout.specs.declared.room.Room.{Room}
use Rattle.mb_board.specs.Calls.{Seen}
use Rattle.mb_area.specs.Flashes.{IsCurrentArea, IsPublicWritten, IsSpared, code_to_write, code_sectors}
use Rattle.mb_area.specs.Calls.{WritesPublic}

-- ---- sectors

pub sector_is : (flash : List ℕ) (n from count : ℕ) → from ≡ n → count ≡ 4096 → part (4096 * from) count flash ≡ sector flash n
unfolding sector
sector_is flash n from count e f = ap (λ k. part (4096 * k) count flash) e ∙ ap (λ k. part (4096 * n) k flash) f

pub sector_written : {E : Type 0} (n : ℕ) (before after bytes : List ℕ) (result : Result (Unit {0}) E) → length bytes ≤ 4096 → IsSameOutside (4096 * n) 4096 before after
    → OnOk result (part (4096 * n) (length bytes) after ≡ bytes) → OnOk result (IsSectorWritten n bytes before after)
sector_written n before after bytes result short same =
    on_ok result (λ stands. record { same = record { sized = same.sized; bytes = same.bytes }; begins = front_of_sector after bytes n short stands })

pub code_stands : {E : Type 0} (layer slot n : ℕ) (flash code : List ℕ) (result : Result (Unit {0}) E) → n ≡ code_sector layer slot → length code ≤ 32768
    → OnOk result (part (4096 * n) (length code) flash ≡ code) → OnOk result (BeginsWithBytes (code_slot flash layer slot) code)
code_stands layer slot n flash code result is short =
    on_ok result (λ stands. front_of_slot flash code layer slot short (ap (λ k. part (4096 * k) (length code) flash) (sym is) ∙ stands))

-- bytes with which a sector begins stand where they are written
pub sector_there : (flash front : List ℕ) (n : ℕ) → length front ≤ 4096 → BeginsWithBytes (sector flash n) front → part (4096 * n) (length front) flash ≡ front
unfolding sector
sector_there flash front n short there = sym (take-take (length front) 4096 (drop (4096 * n) flash) short) ∙ there

pub code_there : (flash front : List ℕ) (layer slot n : ℕ) → n ≡ code_sector layer slot → length front ≤ 32768 → BeginsWithBytes (code_slot flash layer slot) front
    → part (4096 * n) (length front) flash ≡ front
unfolding code_slot
code_there flash front layer slot n is short there =
    ap (λ k. part (4096 * k) (length front) flash) is ∙ sym (take-take (length front) 32768 (drop (4096 * code_sector layer slot) flash) short) ∙ there

-- ---- code that takes calls

-- the first bytes of a slot, as they were read
pub front_read : (flash : List ℕ) (layer slot n count : ℕ) → n ≡ code_sector layer slot → count ≤ 32768 → part (4096 * n) count flash ≡ take count (code_slot flash layer slot)
unfolding code_slot
front_read flash layer slot n count is short =
    ap (λ k. part (4096 * k) count flash) is ∙ sym (take-take count 32768 (drop (4096 * code_sector layer slot) flash) short)

-- what `==` says of bytes
pub same_is : (xs ys : List ℕ) → bytes_eq xs ys ≡ same_bytes xs ys
same_is [] [] = refl
same_is [] (y ∷ ys) = refl
same_is (x ∷ xs) [] = refl
same_is (x ∷ xs) (y ∷ ys) = both (x == y) (bytes_eq xs ys) (same_bytes xs ys) (same_is xs ys)
  where
    both : (b r s : Bool) → r ≡ s → (b && r) ≡ cond b s false
    both true r s e = e
    both false r s e = refl

-- the code begins as its slot does
pub front_of_code : (bytes code : List ℕ) (n : ℕ) → 6 ≤ n → code ≡ take n bytes → take 6 code ≡ take 6 bytes
front_of_code bytes code n most is = ap (take 6) is ∙ take-take 6 n bytes most

-- code of less than six bytes takes no calls
short_takes_none : (code : List ℕ) → length code < 6 → false ≡ begins_with_call_word code
short_takes_none code short = by (begins_with_call_word code) refl
  where
    by : (b : Bool) → begins_with_call_word code ≡ b → false ≡ begins_with_call_word code
    by false e = sym e
    by true e = absurd (omega (arith, short, length-take 6 code, ap length (same_bytes-true (take 6 code) call_word e)))

-- where no slot is named, or one with less than six bytes, there is no code that takes calls
pub none_named : (flash : List ℕ) (layer : ℕ) (slot : Slot) → slot.which ≡ 0 → (code : Option (List ℕ)) → HoldsCode flash layer slot code → false ≡ takes_calls code
none_named flash layer slot none None holds = refl
none_named flash layer slot none (Some code) holds = absurd (holds.0 none)

pub short_named : (flash : List ℕ) (layer : ℕ) (slot : Slot) → slot.length < 6 → (code : Option (List ℕ)) → HoldsCode flash layer slot code → false ≡ takes_calls code
short_named flash layer slot short None holds = refl
short_named flash layer slot short (Some code) holds =
    short_takes_none code (omega (arith, short, ap length holds.1, length-take slot.length (code_slot flash layer slot.which)))

pub word_named : (flash : List ℕ) (layer : ℕ) (slot : Slot) (front : List ℕ) → slot.which ≢ 0 → 6 ≤ slot.length → front ≡ take 6 (code_slot flash layer slot.which)
    → (code : Option (List ℕ)) → HoldsCode flash layer slot code → same_bytes front call_word ≡ takes_calls code
word_named flash layer slot front some most read None holds = absurd (some holds)
word_named flash layer slot front some most read (Some code) holds =
    ap (λ (xs : List ℕ). same_bytes xs call_word) (read ∙ sym (front_of_code (code_slot flash layer slot.which) code slot.length most holds.1))

-- ---- the header of an area

-- the bytes of an area, as they were read
pub as_read : (P : List ℕ → Type 0) (flash bytes : List ℕ) (n area : ℕ) → n ≡ header_sector area → bytes ≡ sector flash n → P (sector flash (header_sector area)) → P bytes
as_read P flash bytes n area is same p = subst P (ap (sector flash) (sym is) ∙ sym same) p

pub slot_one : (header : Header) (layer : ℕ) → layer ≡ 1 → slot_in header layer ≡ header.one
slot_one header layer e = ap (slot_in header) e

pub slot_two : (header : Header) (layer : ℕ) → layer ≡ 2 → slot_in header layer ≡ header.two
slot_two header layer e = ap (slot_in header) e

by_tests : (a b : Bool) (header : Header) → a ≡ false → b ≡ false → (if a then header.one else if b then header.two else header.three) ≡ header.three
by_tests a b header e f = rw (e, f) refl

pub slot_three : (header : Header) (layer : ℕ) → layer ≢ 1 → layer ≢ 2 → slot_in header layer ≡ header.three
slot_three header layer one two = by_tests (layer == 1) (layer == 2) header (ne_eqb layer 1 one) (ne_eqb layer 2 two)

-- ---- code

-- it is one of the two
pub slot_there : (slot : ℕ) (named : Slot) → slot ≡ free_slot named → (1 ≤ slot) × (slot ≤ 2)
slot_there slot named is = subst (λ n. (1 ≤ n) × (n ≤ 2)) (sym is) (one_or_two (named.which == 1))

-- the slot that is not named is free
pub is_free : (flash : List ℕ) (area layer slot : ℕ) (named : Slot) → slot ≡ free_slot named → ((header : Header) → HoldsHeader flash area header → named ≡ slot_in header layer)
    → IsFreeSlot flash area layer slot
is_free flash area layer slot named is names header holds same = not_named (named.which == 1) named.which refl (ap (λ (s : Slot). s.which) (names header holds) ∙ same ∙ is)

differs_widened : (n count more : ℕ) (before after : List ℕ) → count ≤ more → DiffersOnlyIn n count before after → DiffersOnlyIn n more before after
differs_widened n count more before after less same = record { sized = same.sized; bytes = λ offset outside. same.bytes offset (narrower offset outside) }
  where
    narrower : (offset : ℕ) → (offset < 4096 * n) ⊎ (4096 * n + 4096 * more ≤ offset) → (offset < 4096 * n) ⊎ (4096 * n + 4096 * count ≤ offset)
    narrower offset (inl below) = inl below
    narrower offset (inr above) = inr (omega arith)

pub code_agrees : (before after : List ℕ) (area layer slot n : ℕ) → area ≤ 1 → 1 ≤ layer → layer ≤ 3 → 1 ≤ slot → slot ≤ 2 → IsFreeSlot before area layer slot → length before ≡ 1048576
    → n ≤ 32768 → DiffersOnlyIn (code_sector layer slot) (sectors_for n) before after → AgreeForArea before after area
code_agrees before after area layer slot n low least most one two free sized short same =
    torn_code before after area layer slot low least most one two free sized (differs_widened (code_sector layer slot) (sectors_for n) 8 before after (omega arith) same)

-- ---- sectors that are spared

spared_by : (n from count : ℕ) (before after : List ℕ) → n < 256 → length before ≡ 1048576 → DiffersOnlyIn from count before after → (n < from) ⊎ (from + count ≤ n) ⊎ (count ≡ 0)
    → sector after n ≡ sector before n
spared_by n from count before after less sized same (inl below) = sector_apart n from count before after less (inl below) sized same
spared_by n from count before after less sized same (inr (inl above)) = sector_apart n from count before after less (inr above) sized same
spared_by n from count before after less sized same (inr (inr none)) = by_order (cases_order n from)
  where
    by_order : (n ≡ from) ⊎ ((n < from) ⊎ (from < n)) → sector after n ≡ sector before n
    by_order (inl at) = sector_apart n from count before after less (inr (omega arith)) sized same
    by_order (inr (inl below)) = sector_apart n from count before after less (inl below) sized same
    by_order (inr (inr above)) = sector_apart n from count before after less (inr (omega arith)) sized same

none_by : (room : Room) → room.code_layer ≡ 0 → code_sectors room ≡ 0
none_by room e = rw e refl

not_code : (room : Room) (n from : ℕ) → (n < from) ⊎ (from + code_sectors room ≤ n) ⊎ (room.code_layer ≡ 0) → (n < from) ⊎ (from + code_sectors room ≤ n) ⊎ (code_sectors room ≡ 0)
not_code room n from (inl below) = inl below
not_code room n from (inr (inl above)) = inr (inl above)
not_code room n from (inr (inr none)) = inr (inr (none_by room none))

-- the write of the code leaves each sector that is spared
pub spared_code : (before after : List ℕ) (room : Room) (header : Header) (area n : ℕ) → n < 256 → length before ≡ 1048576 → IsSpared room header area n
    → DiffersOnlyIn (code_sector room.code_layer (free_slot (slot_in header room.code_layer))) (code_sectors room) before after → sector after n ≡ sector before n
spared_code before after room header area n less sized spared same =
    spared_by n (code_sector room.code_layer (free_slot (slot_in header room.code_layer))) (code_sectors room) before after less sized same
    (not_code room n (code_sector room.code_layer (free_slot (slot_in header room.code_layer))) spared.not_code)

-- and so does the write of the header
pub spared_header : (before after : List ℕ) (area m n : ℕ) → n < 256 → length before ≡ 1048576 → m ≡ header_sector (1 - area) → n ≢ header_sector (1 - area) → DiffersOnlyIn m 1 before after
    → sector after n ≡ sector before n
spared_header before after area m n less sized is other same = by_order (cases_order n m)
  where
    by_order : (n ≡ m) ⊎ ((n < m) ⊎ (m < n)) → sector after n ≡ sector before n
    by_order (inl at) = absurd (other (at ∙ is))
    by_order (inr (inl below)) = sector_apart n m 1 before after less (inl below) sized same
    by_order (inr (inr above)) = sector_apart n m 1 before after less (inr (omega arith)) sized same

pub header_agrees : (before after : List ℕ) (area n : ℕ) → area ≤ 1 → n ≡ header_sector (1 - area) → length before ≡ 1048576 → DiffersOnlyIn n 1 before after → AgreeForArea before after area
header_agrees before after area n low is sized same = torn_header before after area low sized (subst (λ k. DiffersOnlyIn k 1 before after) is same)

-- ---- the current area

pub area_small : (memory : Memory) (area : ℕ) → IsCurrentArea memory area → area ≤ 1
area_small memory area is = omega (arith, is.area_is, (bounded_by is.root is.only.holds.holds.spelled.allowed).area)

agree_for_roots : (before after : Memory) (area : ℕ) → IsCurrentArea before area → AgreeForArea before.flash after.flash area
    → (root : Root) → RootIn before.bbram root → AgreeForArea before.flash after.flash root.area
agree_for_roots before after area is agree root has =
    subst (AgreeForArea before.flash after.flash) (sym (ap (λ (r : Root). r.area) (is.only.only root has) ∙ is.area_is)) agree

-- a write to the flash that leaves what counts for each root in force leaves the contents
pub flash_kept : (before after : Memory) → ((root : Root) → RootIn before.bbram root → AgreeForArea before.flash after.flash root.area) → after.bbram ≡ before.bbram
    → KeepsContents before after
flash_kept before after agree same = record {
  kept = λ contents holds.
      subst (λ (xs : List ℕ). HoldsContents after.flash xs contents) (sym same)
      (other_flash before.flash before.bbram after.flash contents (agree contents.root holds.root) holds);
}

-- so does one that leaves what counts for the current area
pub public_kept : (before after : Memory) (area : ℕ) → IsCurrentArea before area → AgreeForArea before.flash after.flash area → after.bbram ≡ before.bbram → KeepsContents before after
public_kept before after area is agree same = flash_kept before after (agree_for_roots before after area is agree) same

-- and the write of a sector of the log that the current header does not count
pub log_agrees : (before after : Memory) (position n : ℕ) → n ≡ log_sector position → position < 128 → length before.flash ≡ 1048576
    → ((root : Root) → RootIn before.bbram root → IsUncounted before.flash root.area position) → DiffersOnlyIn n 1 before.flash after.flash
    → (root : Root) → RootIn before.bbram root → AgreeForArea before.flash after.flash root.area
log_agrees before after position n is few sized free same root has =
    torn_log before.flash after.flash root.area position (bounded_by root has.holds.spelled.allowed).area few (free root has) sized
    (subst (λ k. DiffersOnlyIn k 1 before.flash after.flash) is same)

-- the header is written after the code
pub public_written : {E : Type 0} (room : Room) (current : Header) (area n : ℕ) (bytes before between after : List ℕ) (result : Result (Unit {0}) E) → n ≡ header_sector (1 - area) → bytes ≡ room.header.items
    → IsCodeWritten room.code_layer (slot_in current room.code_layer) (code_to_write room) before between → OnOk result (IsSectorWritten n bytes between after) → OnOk result (IsPublicWritten room current area before after)
public_written room current area n bytes before between after result is same code written =
    on_ok result
    (λ header. record { between = between; code = code; header = subst (λ (xs : List ℕ). IsSectorWritten (header_sector (1 - area)) xs between after) same (subst (λ k. IsSectorWritten k bytes between after) is header) })
    written

-- ---- the same with another result of its kind

pub public_ok : {A B E F : Type 0} (area : ℕ) (room room_after : Room) (before after : Seen) (value : A) (other : B) → WritesPublic area room room_after {A = A} {E = E} (Ok value) before after
    → WritesPublic area room room_after {A = B} {E = F} (Ok other) before after
public_ok area room room_after before after value other writes = record {
  contents = writes.contents;
  agree = writes.agree;
  public = λ header holds. record { written = (writes.public header holds).written; spared = (writes.public header holds).spared; idle = (writes.public header holds).idle };
  ran = search rules;
  plans = writes.plans;
}

pub public_err : {A B E F : Type 0} (area : ℕ) (room room_after : Room) (before after : Seen) (error : E) (other : F) → WritesPublic area room room_after {A = A} {E = E} (Err error) before after
    → WritesPublic area room room_after {A = B} {E = F} (Err other) before after
public_err area room room_after before after error other writes = record {
  contents = writes.contents;
  agree = writes.agree;
  public = λ header holds. record { written = tt; spared = (writes.public header holds).spared; idle = (writes.public header holds).idle };
  ran = search rules;
  plans = writes.plans;
}
