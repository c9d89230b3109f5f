-- The header that an order leaves, in bytes.
use Rattle.std.proofs.Common.{◌≡◌, ◌≤◌, ℕ, List, [], ◌∷◌, ◌++◌, length, Option, Result, Ok, Err, refl, sym, ap, subst, ◌∙◌, arith}
use Rattle.std.specs.Prelude.{slice_get}
use Rattle.std.specs.Global.{Vec}
use Rattle.std.specs.Vec.{vec_len, vec_capacity}
use Rattle.mb_format.specs.Format.{Spells}
use Rattle.mb_bytes.specs.Puts.{Writes}
use Rattle.mb_model.specs.declared.entry.Entry.{Entry}
use Rattle.mb_model.specs.declared.order.Act.{Act}
use Rattle.mb_model.specs.declared.stored.Header.{Header}
use Rattle.mb_model.specs.records.HeaderFormat.{first_text, second_text, header_format}
use Rattle.mb_model.specs.memories.Sectors.{BeginsAs}
use Rattle.mb_model.proofs.FormatBounds.{header_short}
use Rattle.mb_model_memory.specs.NextHeaders.{texts_of_entries, header_after}
use Rattle.mb_model_memory.proofs.FlashHeaders.{entries_have_texts, header_after_allowed}
use Rattle.mb_area.specs.Flashes.{BeginWithHeader}
use Rattle.mb_device_orders.specs.Planning.{CanTake}

-- ---- texts

pub first_is : (texts : List (List ℕ)) → slice_get texts 0 ≡ first_text texts
first_is [] = refl
first_is (first ∷ rest) = refl

pub second_is : (texts : List (List ℕ)) → slice_get texts 1 ≡ second_text texts
second_is [] = refl
second_is (first ∷ []) = refl
second_is (first ∷ second ∷ rest) = refl

-- ---- what is written

-- what was read is what the room held
abbrev Reads : List ℕ → Header → Type 0
Reads read stored = (any : Header) → BeginsAs header_format read any → any ≡ stored

read_here : (bytes read : List ℕ) (stored header : Header) → read ≡ bytes → Reads read stored → BeginsAs header_format bytes header → header ≡ stored
read_here bytes read stored header same reads begins = reads header (subst (λ (xs : List ℕ). BeginsAs header_format xs header) (sym same) begins)

pub some_header : (layer : ℕ) (does : Act) (entries : List Entry) (bytes read : List ℕ) → read ≡ bytes → CanTake layer does entries bytes → BeginWithHeader read
some_header layer does entries bytes read same takes = record { header = takes.header; begins = subst (λ (xs : List ℕ). BeginsAs header_format xs takes.header) (sym same) takes.begins }

-- there is one header
pub one_read : (bytes read : List ℕ) (stored header other : Header) → read ≡ bytes → Reads read stored → BeginsAs header_format bytes header → BeginsAs header_format bytes other → other ≡ header
one_read bytes read stored header other same reads begins begins_other = read_here bytes read stored other same reads begins_other ∙ sym (read_here bytes read stored header same reads begins)

abbrev header_with : Header → ℕ → Act → List Entry → Header
header_with header layer does entries = header_after header layer does (first_text (texts_of_entries entries)) (second_text (texts_of_entries entries))

-- the header that is written, by the one that was read
next_is : (stored header next : Header) (layer : ℕ) (does : Act) (entries : List Entry) (first second : Option (List ℕ)) → first ≡ slice_get (texts_of_entries entries) 0 → second ≡ slice_get (texts_of_entries entries) 1
    → next ≡ header_after stored layer does first second → header ≡ stored → next ≡ header_with header layer does entries
next_is stored header next layer does entries first second is_first is_second is same =
    is
    ∙ ap (λ (x : Option (List ℕ)). header_after stored layer does x second) (is_first ∙ first_is (texts_of_entries entries))
    ∙ ap (λ (x : Option (List ℕ)). header_after stored layer does (first_text (texts_of_entries entries)) x) (is_second ∙ second_is (texts_of_entries entries))
    ∙ ap (λ (h : Header). header_with h layer does entries) (sym same)

header_allowed : (bytes : List ℕ) (layer : ℕ) (does : Act) (entries : List Entry) (takes : CanTake layer does entries bytes) → header_format.Allowed (header_with takes.header layer does entries)
header_allowed bytes layer does entries takes =
    header_after_allowed takes.header layer does (first_text (texts_of_entries entries)) (second_text (texts_of_entries entries)) takes.begins.spelled.allowed takes.short
    (entries_have_texts entries takes.header.signed takes.few takes.together takes.entries_allowed).0

pub next_allowed : (bytes read : List ℕ) (stored next : Header) (layer : ℕ) (does : Act) (entries : List Entry) (first second : Option (List ℕ)) → read ≡ bytes → Reads read stored
    → first ≡ slice_get (texts_of_entries entries) 0 → second ≡ slice_get (texts_of_entries entries) 1 → next ≡ header_after stored layer does first second → CanTake layer does entries bytes → header_format.Allowed next
next_allowed bytes read stored next layer does entries first second same reads is_first is_second is takes =
    subst header_format.Allowed (sym (next_is stored takes.header next layer does entries first second is_first is_second is (read_here bytes read stored takes.header same reads takes.begins)))
    (header_allowed bytes layer does entries takes)

pub header_spelled : (bytes read : List ℕ) (stored header next : Header) (layer : ℕ) (does : Act) (entries : List Entry) (first second : Option (List ℕ)) (out : List ℕ) → read ≡ bytes → Reads read stored
    → first ≡ slice_get (texts_of_entries entries) 0 → second ≡ slice_get (texts_of_entries entries) 1 → next ≡ header_after stored layer does first second → Spells header_format out next → BeginsAs header_format bytes header
    → Spells header_format out (header_with header layer does entries)
header_spelled bytes read stored header next layer does entries first second out same reads is_first is_second is spells begins =
    subst (Spells header_format out) (next_is stored header next layer does entries first second is_first is_second is (read_here bytes read stored header same reads begins)) spells

pub header_written : {E : Type 0} (header : Header) (cleared new : Vec ℕ) (result : Result (Unit {0}) E) → header_format.Allowed header → cleared.items ≡ [] → vec_len cleared ≡ 0 → 4096 ≤ vec_capacity cleared
    → Writes (header_format.spelling header) cleared result new → Spells header_format new.items header
header_written header cleared new (Ok u) allowed empty none room w =
    record { allowed = allowed; whole = w.items ∙ ap (λ (xs : List ℕ). xs ++ header_format.spelling header) empty }
header_written header cleared new (Err e) allowed empty none room w = absurd (omega (arith, w.no_room, header_short.short header allowed))

pub header_kept : {E : Type 0} (header : Header) (cleared new : Vec ℕ) (result : Result (Unit {0}) E) → header_format.Allowed header → vec_len cleared ≡ 0 → 4096 ≤ vec_capacity cleared
    → Writes (header_format.spelling header) cleared result new → vec_capacity cleared ≤ vec_capacity new
header_kept header cleared new (Ok u) allowed none room w = w.capacity
header_kept header cleared new (Err e) allowed none room w = absurd (omega (arith, w.no_room, header_short.short header allowed))

-- ---- the code

-- the code is put into a buffer that has room for it
pub code_put : {E : Type 0} (code : List ℕ) (cleared new : Vec ℕ) (result : Result (Unit {0}) E) → length code ≤ 32768 → cleared.items ≡ [] → vec_len cleared ≡ 0 → 32768 ≤ vec_capacity cleared → Writes code cleared result new → new.items ≡ code
code_put code cleared new (Ok u) short empty none room w = w.items ∙ ap (λ (xs : List ℕ). xs ++ code) empty
code_put code cleared new (Err e) short empty none room w = absurd (omega (arith, w.no_room, short))

pub code_room_kept : {E : Type 0} (code : List ℕ) (cleared new : Vec ℕ) (result : Result (Unit {0}) E) → length code ≤ 32768 → vec_len cleared ≡ 0 → 32768 ≤ vec_capacity cleared → Writes code cleared result new → 32768 ≤ vec_capacity new
code_room_kept code cleared new (Ok u) short none room w = omega (arith, w.capacity, room)
code_room_kept code cleared new (Err e) short none room w = absurd (omega (arith, w.no_room, short))

-- the bytes of a header are some, and fit a sector
pub header_size : (bytes : List ℕ) (header : Header) → Spells header_format bytes header → (1 ≤ length bytes) × (length bytes ≤ 4096)
unfolding header_format
header_size bytes header spells = (omega (arith, ap length spells.whole), omega (arith, ap length spells.whole, header_short.short header spells.allowed))
