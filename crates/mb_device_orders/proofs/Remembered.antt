-- What the memory of a device that is ready tells of its state.
use Rattle.std.proofs.Common.{◌≡◌, ◌≤◌, ℕ, Bool, true, false, List, [], length, Option, None, Some, Result, Ok, Err, sym, ap, subst, ◌∙◌, arith}
use Rattle.std.specs.Prelude.{◌==◌, IfSome}
use Rattle.std.specs.Int.{w32}
use Rattle.mb_format.specs.Combinators.{either, between}
use Rattle.std.specs.Result.{result_ok}
use Rattle.std.proofs.lemmas.List.{take_all}
use Rattle.mb_format.specs.Format.{IsBytes, SpelledAt, Spells}
use Rattle.mb_format.proofs.Exact.{IsClear-from_exact}
use Rattle.mb_bytes.specs.declared.cursor.Cursor.{Cursor}
use Rattle.mb_bytes.specs.Reads.{bad_at, ReadsExactly}
use Rattle.mb_model.specs.declared.tools.BadRecord.{BadRecord}
use Rattle.mb_model.specs.declared.entry.Entry.{Entry}
use Rattle.mb_model.specs.declared.entry.SignedEntry.{SignedEntry}
use Rattle.mb_model.specs.declared.state.State.{State}
use Rattle.mb_model.specs.declared.stored.Header.{Header}
use Rattle.mb_model.specs.declared.stored.Root.{Root}
use Rattle.mb_model.specs.outside.Board.{Memory}
use Rattle.mb_model.specs.memories.Clean.{root_of}
use Rattle.mb_model.specs.records.EntryFormat.{entry_format}
use Rattle.mb_model.specs.declared.stored.Slot.{Slot}
use Rattle.mb_model.specs.memories.Flash.{HoldsHeader, HoldsCode, HoldsEntry, HoldsLog, HoldsPublic}
use Rattle.mb_model.specs.records.HeaderFormat.{code_length_format, slot_format, entry_bytes_format, header_format, log_format}
use Rattle.mb_model.specs.owners.Log.{figures_of, entries_of}
use Rattle.mb_model.specs.memories.Meaning.{RootIn}
use Rattle.mb_model.specs.memories.Sectors.{BeginsAs}
use Rattle.mb_model.proofs.EntryFormatLaws.{entry_exact}
use Rattle.mb_model.proofs.HeaderFormatLaws.{log_exact}
use Rattle.mb_model.proofs.AllowedFields.{header_fields}
use Rattle.mb_model_lemmas.proofs.HeldSegments.{begins_with}
use Rattle.mb_model_lemmas.proofs.OneFlash.{one_begun, one_header_begun}
use Rattle.mb_model_memory.specs.Commits.{at_rest}
use Rattle.mb_model_memory.specs.Holding.{Holds, IsReady, HasReady}
use Rattle.mb_model_memory.proofs.RestLemmas.{clean_and_stands, rests_by_root}
use Rattle.mb_area.specs.Roots.{HasSomeRoot, IsOnlyRoot}
use Rattle.mb_boot.proofs.Settled.{bounded}
use Rattle.mb_device_orders.specs.declared.judging.Judged.{Judged}
use Rattle.mb_device_orders.specs.Planning.{HasPassed}
use Rattle.mb_outbound.specs.declared.kept.RegionTree.{RegionTree}
use Rattle.mb_outbound.specs.KeptTrees.{IsKeptIn}
use Rattle.mb_signer.specs.declared.tree.KeptTree.{KeptTree}
use Rattle.mb_signer.specs.Tree.{IsTreeOf}
use Rattle.mb_device_orders.specs.declared.remembering.Known.{Known}
use Rattle.mb_area.specs.Flashes.{CanBeNamed}
use Rattle.mb_device_orders.specs.declared.remembering.Noted.{Noted}
use Rattle.mb_device_orders.specs.Remembering.{IsDeviceTree, Knows, KnowsCode, IsNoted, FitsNoted, NotesCode, IsRemembered}

-- a memory that is ready holds its state with nothing pending
pub rest_in : (memory : Memory) (state : State) (ready : IsReady memory state) → IsBytes memory.bbram → Holds memory (at_rest state ready.clean.area)
rest_in memory state ready are = clean_and_stands memory.flash memory.bbram state ready.clean are ready.means

pub rests_in : (memory : Memory) (root : Root) (state : State) (ready : IsReady memory state) → ((any : Root) → RootIn memory.bbram any → any ≡ root) → Holds memory (at_rest state ready.clean.area)
rests_in memory root state ready only = rests_by_root memory.flash memory.bbram state ready.clean root only ready.means

pub ready_root : (memory : Memory) → HasReady memory → HasSomeRoot memory
ready_root memory has = record { root = root_of has.state has.ready.clean.area; holds = has.ready.clean.root }

pub remembered_ready : (known : Known) (memory : Memory) → IsRemembered known memory → HasReady memory
remembered_ready known memory is = record { state = is.state; ready = is.ready }

pub remembered_root : (known : Known) (memory : Memory) → IsRemembered known memory → HasSomeRoot memory
remembered_root known memory is = ready_root memory (remembered_ready known memory is)

-- the root in force is that of the state
pub root_is : (memory : Memory) (root : Root) (state : State) (ready : IsReady memory state) → ((any : Root) → RootIn memory.bbram any → any ≡ root) → root_of state ready.clean.area ≡ root
root_is memory root state ready only = only (root_of state ready.clean.area) ready.clean.root

-- ---- what its flash holds

-- the flash holds the log of the state, all of it signed, for the root
pub public_in : (memory : Memory) (root : Root) (state : State) → IsReady memory state → ((any : Root) → RootIn memory.bbram any → any ≡ root) → HoldsPublic memory.flash root state.codes state.log []
public_in memory root state ready only =
    subst (λ (r : Root). HoldsPublic memory.flash r state.codes state.log []) (root_is memory root state ready only) (rests_in memory root state ready only).public

pub knows_of : (memory : Memory) (root : Root) (signed : ℕ) (known : Known) (state : State) → IsReady memory state → ((any : Root) → RootIn memory.bbram any → any ≡ root)
    → ((header : Header) → HoldsHeader memory.flash root.area header → signed ≡ header.signed)
    → ((log : List SignedEntry) → HoldsLog memory.flash log → length log ≡ signed → known.figures ≡ figures_of (entries_of log))
    → known.serial ≡ root.serial → known.trees.value.device ≡ None → known.trees.value.region ≡ None → Knows known state
knows_of memory root signed known state ready only counted counts serial no_device none =
    let public = public_in memory root state ready only in
    record {
      serial = serial ∙ sym (ap (λ (r : Root). r.serial) (root_is memory root state ready only));
      figures = counts state.log public.log (public.count ∙ sym (counted public.header public.begins));
      trees = record {
        device = subst (λ (kept : Option KeptTree). IsDeviceTree kept state) (sym no_device) tt;
        region = subst (λ (kept : Option RegionTree). IsKeptIn kept state) (sym none) tt;
      };
    }

-- what was noted of the header in force says where the codes of the state stand
pub code_noted : (memory : Memory) (root : Root) (noted : Noted) (state : State) → IsReady memory state → ((any : Root) → RootIn memory.bbram any → any ≡ root)
    → ((header : Header) → HoldsHeader memory.flash root.area header → IsNoted noted header) → FitsNoted noted → NotesCode noted memory.flash state
code_noted memory root noted state ready only notes fits =
    let public = public_in memory root state ready only in
    let is = notes public.header public.begins in
    record {
      two = subst (λ (slot : Slot). HoldsCode memory.flash 2 slot state.codes.two) (sym is.two) public.two;
      three = subst (λ (slot : Slot). HoldsCode memory.flash 3 slot state.codes.three) (sym is.three) public.three;
      fits = fits;
    }

-- and that is remembered
pub knows_code : (noted : Noted) (known : Known) (flash : List ℕ) (state : State) → known.two ≡ noted.two → known.three ≡ noted.three → NotesCode noted flash state → KnowsCode known flash state
knows_code noted known flash state two three notes = record {
  two = subst (λ (slot : Slot). HoldsCode flash 2 slot state.codes.two) (sym two) notes.two;
  three = subst (λ (slot : Slot). HoldsCode flash 3 slot state.codes.three) (sym three) notes.three;
  two_named = subst CanBeNamed (sym two) notes.fits.two;
  three_named = subst CanBeNamed (sym three) notes.fits.three;
}

-- the tree that is kept is that of the device key in the root in force
pub device_in_force : (memory : Memory) (root : Root) (known : Known) → IsRemembered known memory → IsOnlyRoot memory.bbram root → IfSome known.trees.value.device (IsTreeOf root.device)
device_in_force memory root known is only =
    subst (λ (r : Root). IfSome known.trees.value.device (IsTreeOf r.device)) (root_is memory root is.state is.ready only.only) is.knows.trees.device

-- ---- what bytes begin with

length_by : (none : Bool) (n : ℕ) → (either none (between w32 0 0) (between w32 0 32768)).Allowed n → n ≤ 32768
length_by true n is = omega (arith, is.1)
length_by false n is = is.1

slot_fits : (slot : Slot) → slot_format.Allowed slot → CanBeNamed slot
unfolding slot_format code_length_format
slot_fits slot is = record { which = is.0.1; short = length_by (slot.which == 0) slot.length is.1 }

abbrev pub noted_of : Header → Noted
noted_of header = record { signed = header.signed; two = header.two; three = header.three }

-- what is noted of the header that was read is what any header there says
pub header_noted : (bytes : List ℕ) (read header : Header) → IsBytes bytes → BeginsAs header_format bytes read → BeginsAs header_format bytes header → IsNoted (noted_of read) header
header_noted bytes read header are one other =
    let same = one_header_begun bytes read header are one other in
    record { signed = ap (λ (h : Header). h.signed) same; two = ap (λ (h : Header). h.two) same; three = ap (λ (h : Header). h.three) same }

pub fits_noted : (bytes : List ℕ) (read : Header) → BeginsAs header_format bytes read → FitsNoted (noted_of read)
fits_noted bytes read begins =
    let its = header_fields read begins.spelled.allowed in
    record { signed = its.few_signed; two = slot_fits read.two its.two; three = slot_fits read.three its.three }

-- the text of an entry, and its signature
one_log : (bytes text other_text signature other_signature : List ℕ) → IsBytes bytes → BeginsAs log_format bytes (text, signature) → BeginsAs log_format bytes (other_text, other_signature) → text ≡ other_text
one_log bytes text other_text signature other_signature are one other =
    ap (λ (p : List ℕ × List ℕ). p.0) (one_begun log_format log_exact bytes (text, signature) (other_text, other_signature) are one other)

-- the text that was read is that of the entry
pub text_is : (bytes text signature : List ℕ) (signed : SignedEntry) → IsBytes bytes → BeginsAs log_format bytes (text, signature) → HoldsEntry bytes signed → Spells entry_format text signed.entry
text_is bytes text signature signed are read holds =
    subst (λ (t : List ℕ). Spells entry_format t signed.entry) (one_log bytes holds.text text signed.signature signature are holds.begins read) holds.spelled

-- what is spelled by the whole of some bytes is spelled at their beginning
at_start : (text : List ℕ) (entry : Entry) → Spells entry_format text entry → BeginsAs entry_format text entry
at_start text entry spells = begins_with entry_format text text entry spells (take_all (length text) text (omega arith))

pub entry_read : (text : List ℕ) (entry read : Entry) (after : ℕ) → IsBytes text → Spells entry_format text entry → SpelledAt entry_format.spelling entry_format.Allowed text 0 read after → read ≡ entry
entry_read text entry read after are spells spelled = one_begun entry_format entry_exact text read entry are (record { after = after; spelled = spelled }) (at_start text entry spells)

pub entry_fails : (text : List ℕ) (entry : Entry) (at : ℕ) → IsBytes text → Spells entry_format text entry → entry_format.FailsAt text 0 at → ⊥
entry_fails text entry at are spells fails =
    (IsClear-from_exact entry_exact).never_both text 0 entry (at_start text entry spells).after at (record { are_bytes = are; within = omega arith }) (at_start text entry spells).spelled fails

pub no_entry : (bytes : List ℕ) (signed : SignedEntry) → ((any : List ℕ × List ℕ) → BeginsAs log_format bytes any → ⊥) → HoldsEntry bytes signed → ⊥
no_entry bytes signed none holds = none (holds.text, signed.signature) holds.begins

pub text_short : (bytes text signature : List ℕ) → BeginsAs log_format bytes (text, signature) → length text ≤ 400
unfolding log_format entry_bytes_format
text_short bytes text signature begins = begins.spelled.allowed.0.0.1

-- what was read of the text is the entry
pub entry_told : (bytes text signature : List ℕ) (signed : SignedEntry) (old new : Cursor) (result : Result Entry BadRecord) → IsBytes bytes → IsBytes old.bytes.now → BeginsAs log_format bytes (text, signature) → HoldsEntry bytes signed
    → old.bytes.now ≡ text → old.offset ≡ 0 → ReadsExactly bad_at entry_format old result new → result_ok result ≡ Some signed.entry
entry_told bytes text signature signed old new (Ok read) are are_text begins holds same first reads =
    let spells : Spells entry_format old.bytes.now signed.entry = subst (λ (t : List ℕ). Spells entry_format t signed.entry) (sym same) (text_is bytes text signature signed are begins holds) in
    let here : SpelledAt entry_format.spelling entry_format.Allowed old.bytes.now 0 read new.offset = subst (λ n. SpelledAt entry_format.spelling entry_format.Allowed old.bytes.now n read new.offset) first reads.spelled in
    ap Some (entry_read old.bytes.now signed.entry read new.offset are_text spells here)
entry_told bytes text signature signed old new (Err bad) are are_text begins holds same first reads =
    let spells : Spells entry_format old.bytes.now signed.entry = subst (λ (t : List ℕ). Spells entry_format t signed.entry) (sym same) (text_is bytes text signature signed are begins holds) in
    absurd (entry_fails old.bytes.now signed.entry bad.at are_text spells (subst (λ n. entry_format.FailsAt old.bytes.now n bad.at) first reads.fails))

-- ---- the root that was read

pub small_area : (bbram : List ℕ) (root : Root) → IsOnlyRoot bbram root → root.area ≤ 1
small_area bbram root only = (bounded bbram root only).area

pub passed_ready : (memory : Memory) (judged : Judged) → HasPassed memory judged → HasReady memory
passed_ready memory judged has = record { state = has.state; ready = has.ready }
