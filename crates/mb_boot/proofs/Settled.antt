-- How the steps of settling join.
use Rattle.std.proofs.Common.{◌≡◌, ◌≢◌, ℕ, zero, suc, ◌+◌, ◌-◌, ◌<◌, ◌≤◌, inl, inr, List, [], ◌∷◌, ◌++◌, length, take, Option, None, Some, Ok, refl, sym, ap, subst, ◌∙◌, arith, append_assoc, length-append}
use Rattle.std.proofs.lemmas.List.{append-nil, length-take}
use Rattle.mb_format.specs.Format.{Spells}
use Rattle.mb_model.specs.declared.entry.SignedEntry.{SignedEntry}
use Rattle.mb_model.specs.declared.state.State.{State}
use Rattle.mb_model.specs.declared.stored.Fate.{Fate}
use Rattle.mb_model.specs.declared.stored.Header.{Header}
use Rattle.mb_model.specs.declared.stored.Root.{Root}
use Rattle.mb_model.specs.records.HeaderFormat.{header_format}
use Rattle.mb_model.specs.owners.Log.{entries_of, layers_of}
use Rattle.mb_model.specs.records.RootFormat.{root_format}
use Rattle.mb_model.specs.outside.Board.{Memory, IsLoaded}
use Rattle.mb_model.specs.memories.Memory.{IsBlank, HoldsRecord}
use Rattle.mb_model.specs.memories.Sectors.{header_sector, log_sector, BeginsAs}
use Rattle.mb_model.specs.memories.Flash.{sector, HoldsHeader, HoldsLog, HoldsPublic}
use Rattle.mb_model.specs.memories.StoredLog.{outgoing_of, log_completed_by, signer_of}
use Rattle.mb_model.specs.memories.Meaning.{RootIn, Contents, state_of_contents, region_after_fate, fate_of_two}
use Rattle.mb_model.specs.memories.Meaning.{fate_of_three}
use Rattle.mb_model.specs.memories.Clean.{root_of}
use Rattle.mb_model.specs.memories.Valid.{IsValidState}
use Rattle.mb_model_lemmas.proofs.HeldSegments.{begins_with, segments_fit}
use Rattle.mb_model_lemmas.proofs.PublicLemmas.{IsBounded, bounded_by, length-signed_for}
use Rattle.mb_model_lemmas.proofs.OneFlash.{sector_short}
use Rattle.mb_model_memory.specs.Commits.{two_done, both_done, at_rest, has_both}
use Rattle.mb_model.specs.memories.Spared.{SparesSectors}
use Rattle.mb_model_memory.specs.FlashInForce.{AgreeForArea, IsUncounted, IsSectorWritten}
use Rattle.mb_model_memory.specs.Holding.{Holds, Means, KeepsContents, KeepsMeaning}
use Rattle.mb_model_memory.specs.InForce.{AgreeBesides}
use Rattle.mb_model_memory.specs.NextHeaders.{header_settled}
use Rattle.mb_model_memory.specs.Storable.{IsStorableState}
use Rattle.mb_model.specs.records.RegionFormat.{CanBeWritten}
use Rattle.mb_model_memory.proofs.HoldingLemmas.{contents_keep, keeps_then}
use Rattle.mb_model_memory.proofs.CommitLemmas.{live_contents, both_done_means, work_ends}
use Rattle.mb_model_memory.proofs.FlashFrames.{log_stays, signed_log_stays}
use Rattle.mb_model_memory.proofs.FlashWrites.{log_appended, log_settled}
use Rattle.mb_model_memory.proofs.RestLemmas.{rest_stands, meant_layers}
use Rattle.mb_model_memory.proofs.StorableMemories.{stands_storable}
use Rattle.mb_model_memory.proofs.StorableRecords.{region_written}
use Rattle.mb_layout.specs.declared.room.Room.{Room}
use Rattle.mb_area.specs.Flashes.{IsCurrentArea, IsPublicWritten, IsSpared}
use Rattle.mb_area.specs.Roots.{HasSomeRoot, IsOnlyRoot, Finishes, KeepsOrFinishes, IsReadyToFinish}
use Rattle.mb_region.specs.Fates.{IsPending, AppliesFate}
use Rattle.mb_boot.specs.Completions.{BeginsWithHeader, text_at_place, unsigned_count, IsSignedSector, SignsText, SignsTextAt}
use Rattle.mb_model.specs.declared.stored.Signer.{Signer}
use Rattle.mb_board.specs.Calls.{Seen, IsUp, Ran, RanOnFlash}
use Rattle.mb_boot.specs.Settling.{IsLive, IsLiveWith, AppliesBoth, signed_anew, log_until, AddsToLog, CompletesLog, CountsLog, SignsRecord, Settles}
use Rattle.mb_boot.proofs.Completed.{texts_counted, made_at, IsNext, next_is, none_next, two_are_all}

-- ---- the meaning

pub keeps : (before after : Memory) → ((state : State) → Means before state → Means after state) → KeepsMeaning before after
keeps before after kept = record { kept = kept }

pub live_still : (before after : Memory) → IsLive before → KeepsMeaning before after → IsLive after
live_still before after live keep = record { state = live.state; means = keep.kept live.state live.means; valid = live.valid }

-- a device that is still up, and whose memory still means what it meant
pub live_with : {A E : Type 0} (n : ℕ) (value : A) (before after : Seen) (root : Root) → Ran n {A = A} {E = E} (Ok value) before after → IsUp 1 before → IsLive before.memory → KeepsMeaning before.memory after.memory
    → IsOnlyRoot after.memory.bbram root → IsLiveWith after root
live_with n value before after root ran up live keep only =
    record { up = record { on = ran.power; at_level = ran.level ∙ up.at_level; loaded = ran.sized }; live = live_still before.memory after.memory live keep; root = only }

pub live_with_writes : {A E : Type 0} (n : ℕ) (value : A) (before after : Seen) (root : Root) → RanOnFlash n {A = A} {E = E} (Ok value) before after → KeepsContents before.memory after.memory
    → IsUp 1 before → IsLive before.memory → IsOnlyRoot before.memory.bbram root → IsLiveWith after root
live_with_writes n value before after root ran keep up live only =
    live_with n value before after root ran.ran up live (contents_keep before.memory after.memory ran.ran.sized keep) (subst (λ bbram. IsOnlyRoot bbram root) (sym ran.bbram) only)

-- ---- the root

pub some_root : (memory : Memory) → IsLive memory → HasSomeRoot memory
some_root memory live =
    let held = live_contents memory.flash memory.bbram live.state live.means in
    record { root = held.contents.root; holds = held.holds.root }

-- a root is in force where it was, when the slot of a region has changed
root_moved : (bbram after : List ℕ) (slot : ℕ) (root : Root) → 1 ≢ slot → AgreeBesides slot bbram after → RootIn bbram root → RootIn after root
root_moved bbram after slot root apart agree has = record {
  alive = agree.life ∙ has.alive;
  blank = subst IsBlank (sym agree.between) has.blank;
  holds = subst (λ (area : List ℕ). HoldsRecord root_format area root) (sym (agree.others 1 (omega arith) (omega arith) apart)) has.holds;
}

root_back : (bbram after : List ℕ) (slot : ℕ) (root : Root) → 1 ≢ slot → AgreeBesides slot bbram after → RootIn after root → RootIn bbram root
root_back bbram after slot root apart agree has = record {
  alive = sym agree.life ∙ has.alive;
  blank = subst IsBlank agree.between has.blank;
  holds = subst (λ (area : List ℕ). HoldsRecord root_format area root) (agree.others 1 (omega arith) (omega arith) apart) has.holds;
}

only_moved : (bbram after : List ℕ) (slot : ℕ) (root : Root) → 1 ≢ slot → AgreeBesides slot bbram after → IsOnlyRoot bbram root → IsOnlyRoot after root
only_moved bbram after slot root apart agree is = record {
  holds = root_moved bbram after slot root apart agree is.holds;
  only = λ any has. is.only any (root_back bbram after slot any apart agree has);
}

pub two_root_still : (bbram after : List ℕ) (root : Root) → AgreeBesides 2 bbram after → IsOnlyRoot bbram root → IsOnlyRoot after root
two_root_still bbram after root agree is = only_moved bbram after 2 root (λ e. omega (arith, e)) agree is

pub three_root_still : (bbram after : List ℕ) (root : Root) → AgreeBesides 3 bbram after → IsOnlyRoot bbram root → IsOnlyRoot after root
three_root_still bbram after root agree is = only_moved bbram after 3 root (λ e. omega (arith, e)) agree is

-- ---- the regions

-- the regions of the state that is meant can be stored
stored_two : (memory : Memory) (state : State) (contents : Contents) → state ≡ state_of_contents contents → Means memory state → IsValidState state → CanBeWritten (region_after_fate (fate_of_two contents.root.pending) contents.two)
unfolding state_of_contents
stored_two memory state contents same means valid =
    let storable : IsStorableState state = stands_storable memory.flash memory.bbram state means valid in
    subst CanBeWritten (ap (λ (s : State). s.two) same) (region_written state.two storable.two)

stored_three : (memory : Memory) (state : State) (contents : Contents) → state ≡ state_of_contents contents → Means memory state → IsValidState state → CanBeWritten (region_after_fate (fate_of_three contents.root.pending) contents.three)
unfolding state_of_contents
stored_three memory state contents same means valid =
    let storable : IsStorableState state = stands_storable memory.flash memory.bbram state means valid in
    subst CanBeWritten (ap (λ (s : State). s.three) same) (region_written state.three storable.three)

pub two_is_pending : (memory : Memory) (root : Root) (fate : Fate) → fate ≡ fate_of_two root.pending → IsLive memory → IsOnlyRoot memory.bbram root → IsPending 2 fate memory
two_is_pending memory root fate is live only =
    let held = live_contents memory.flash memory.bbram live.state live.means in
    let own = λ (any : Contents) (holds : Holds memory any). ap (λ (r : Root). fate_of_two r.pending) (only.only any.root holds.root) ∙ sym is in
    record {
      contents = held.contents;
      holds = held.holds;
      pending = own;
      stored = subst (λ (f : Fate). CanBeWritten (region_after_fate f held.contents.two)) (own held.contents held.holds) (stored_two memory live.state held.contents held.means live.means live.valid);
    }

pub three_is_pending : (memory : Memory) (root : Root) (fate : Fate) → fate ≡ fate_of_three root.pending → IsLive memory → IsOnlyRoot memory.bbram root → IsPending 3 fate memory
three_is_pending memory root fate is live only =
    let held = live_contents memory.flash memory.bbram live.state live.means in
    let own = λ (any : Contents) (holds : Holds memory any). ap (λ (r : Root). fate_of_three r.pending) (only.only any.root holds.root) ∙ sym is in
    record {
      contents = held.contents;
      holds = held.holds;
      pending = own;
      stored = subst (λ (f : Fate). CanBeWritten (region_after_fate f held.contents.three)) (own held.contents held.holds) (stored_three memory live.state held.contents held.means live.means live.valid);
    }

pub both_applied : (before between after : Memory) (root : Root) (two three : Fate) → IsOnlyRoot before.bbram root → two ≡ fate_of_two root.pending → three ≡ fate_of_three root.pending
    → AppliesFate 2 two before between → AppliesFate 3 three between after → AppliesBoth before after
both_applied before between after root two three only is_two is_three first second = record {
  applied = λ contents holds. (
      let root_is : contents.root ≡ root = only.only contents.root holds.root in
      let own_two : two ≡ fate_of_two contents.root.pending = is_two ∙ sym (ap (λ (r : Root). fate_of_two r.pending) root_is) in
      let own_three : three ≡ fate_of_three contents.root.pending = is_three ∙ sym (ap (λ (r : Root). fate_of_three r.pending) root_is) in
      let now : Holds between (two_done contents) = subst (λ (f : Fate). Holds between (record contents { two = region_after_fate f contents.two })) own_two (first.applied contents holds) in
      subst (λ (f : Fate). Holds after (record (two_done contents) { three = region_after_fate f contents.three })) own_three (second.applied (two_done contents) now));
}

-- ---- the header in force

log_is : (contents : Contents) → (state_of_contents contents).log ≡ contents.signed ++ signed_anew contents
unfolding state_of_contents log_completed_by
log_is contents = refl

-- what the area of the header in force holds begins with the header of any contents
begins_here : (memory : Memory) (root : Root) (bytes : List ℕ) (contents : Contents) → IsOnlyRoot memory.bbram root → bytes ≡ sector memory.flash (header_sector root.area) → (holds : Holds memory contents)
    → BeginsAs header_format bytes holds.public.header
begins_here memory root bytes contents only is holds =
    subst (λ (xs : List ℕ). BeginsAs header_format xs holds.public.header) (sym is)
    (subst (λ (r : Root). HoldsHeader memory.flash r.area holds.public.header) (only.only contents.root holds.root) holds.public.begins)

pub header_is_read : (memory : Memory) (root : Root) (bytes : List ℕ) → IsLive memory → IsOnlyRoot memory.bbram root → bytes ≡ sector memory.flash (header_sector root.area) → BeginsWithHeader bytes
header_is_read memory root bytes live only is =
    let held = live_contents memory.flash memory.bbram live.state live.means in
    record {
      header = held.holds.public.header;
      begins = begins_here memory root bytes held.contents only is held.holds;
      short = omega (arith, ap length is, sector_short memory.flash (header_sector root.area));
    }

pub current_area : (memory : Memory) (root : Root) → IsLive memory → IsOnlyRoot memory.bbram root → IsCurrentArea memory root.area
current_area memory root live only =
    let held = live_contents memory.flash memory.bbram live.state live.means in
    let header = held.holds.public.header in
    record {
      root = root;
      only = only;
      area_is = refl;
      header = record {
        header = header;
        begins = subst (λ (r : Root). HoldsHeader memory.flash r.area header) (only.only held.contents.root held.holds.root) held.holds.public.begins;
      };
    }

-- ---- the log

-- the sector of an entry that is signed next can be written
pub record SectorCanBeWritten (memory : Memory) (position : ℕ) (log : List ℕ) : Type 0 where
  pub within : position < 128
  pub some : 1 ≤ length log
  pub short : length log ≤ 4096
  pub uncounted : (any : Root) → RootIn memory.bbram any → IsUncounted memory.flash any.area position

position_is : (signer : Signer) (text : Option (List ℕ)) (expected position : ℕ) (log : List ℕ) → SignsText signer text expected (Some position) log → position ≡ expected
position_is signer None expected position log signs = absurd signs
position_is signer (Some text) expected position log signs = signs.0

record IsSome (text : Option (List ℕ)) (signer : Signer) (sector_bytes : List ℕ) : Type 0 where
  pub bytes : List ℕ
  pub is : text ≡ Some bytes
  pub log : IsSignedSector signer bytes sector_bytes

some_signed : (signer : Signer) (text : Option (List ℕ)) (expected position : ℕ) (log : List ℕ) → SignsText signer text expected (Some position) log → IsSome text signer log
some_signed signer None expected position log signs = absurd signs
some_signed signer (Some bytes) expected position log signs = record { bytes = bytes; is = refl; log = signs.1 }

none_signed : (signer : Signer) (text : Option (List ℕ)) (expected : ℕ) (log : List ℕ) → SignsText signer text expected None log → text ≡ None
none_signed signer None expected log signs = refl
none_signed signer (Some bytes) expected log signs = absurd signs

-- the entry at this place comes next after so many signed ones of these contents, and these bytes are what its sector is
-- to hold
record IsNextHere (contents : Contents) (place position : ℕ) (sector_bytes : List ℕ) (count : ℕ) : Type 0 where
  pub at : position ≡ count + place
  pub text : List ℕ
  pub log : IsSignedSector (signer_of contents.root place) text sector_bytes
  pub next : IsNext contents.root.device contents.root.uses (outgoing_of contents.root.pending) place text (signed_anew contents)

next_here : (memory : Memory) (root : Root) (place position : ℕ) (bytes log : List ℕ) (contents : Contents) → place ≤ 1 → IsOnlyRoot memory.bbram root
    → bytes ≡ sector memory.flash (header_sector root.area) → SignsTextAt root place bytes (Some position) log → (holds : Holds memory contents)
    → IsNextHere contents place position log holds.public.header.signed
next_here memory root place position bytes log contents low only is signs holds =
    let header = holds.public.header in
    let own = signs header (begins_here memory root bytes contents only is holds) in
    let here : SignsText (signer_of contents.root place) (text_at_place header place) (header.signed + place) (Some position) log =
    subst (λ (r : Root). SignsText (signer_of r place) (text_at_place header place) (header.signed + place) (Some position) log) (sym (only.only contents.root holds.root)) own
    in
    let some = some_signed (signer_of contents.root place) (text_at_place header place) (header.signed + place) position log here in
    record {
      at = position_is (signer_of contents.root place) (text_at_place header place) (header.signed + place) position log here;
      text = some.bytes;
      log = some.log;
      next = next_is contents.root.device contents.root.uses (outgoing_of contents.root.pending) place header contents.unsigned some.bytes low holds.public.unsigned_are some.is;
    }

pub can_be_written : (memory : Memory) (root : Root) (place position : ℕ) (bytes log : List ℕ) → place ≤ 1 → IsLive memory → IsOnlyRoot memory.bbram root
    → bytes ≡ sector memory.flash (header_sector root.area) → SignsTextAt root place bytes (Some position) log → SectorCanBeWritten memory position log
can_be_written memory root place position bytes log low live only is signs =
    let held = live_contents memory.flash memory.bbram live.state live.means in
    let contents : Contents = held.contents in
    let here = next_here memory root place position bytes log contents low only is signs held.holds in
    let more : List SignedEntry = signed_anew contents in
    let room = segments_fit memory.flash contents.root contents.codes contents.signed contents.unsigned held.holds.public in
    let count : length more ≡ length contents.unsigned = length-signed_for contents.root.device contents.root.uses (outgoing_of contents.root.pending) contents.unsigned in
    let next : length (take (place + 1) more) ≡ place + 1 = ap length here.next.next ∙ length-append (take place more) (_ ∷ []) ∙ ap (λ (n : ℕ). n + 1) here.next.size in
    record {
      within = omega (arith, here.at, held.holds.public.count, room.together, count, next, length-take (place + 1) more);
      some = here.log.some;
      short = here.log.short;
      uncounted = λ any has header begins. (
          let there : BeginsAs header_format bytes header = subst (λ (xs : List ℕ). BeginsAs header_format xs header) (sym is) (subst (λ (r : Root). HoldsHeader memory.flash r.area header) (only.only any has) begins) in
          omega (arith, position_is (signer_of root place) (text_at_place header place) (header.signed + place) position log (signs header there)));
    }

-- one entry more stands in the log
pub entry_added : (before after : Memory) (root : Root) (place position : ℕ) (bytes log : List ℕ) → place ≤ 1 → IsLoaded before → IsLive before → IsOnlyRoot before.bbram root
    → bytes ≡ sector before.flash (header_sector root.area) → SignsTextAt root place bytes (Some position) log → IsSectorWritten (log_sector position) log before.flash after.flash → AddsToLog place before after
entry_added before after root place position bytes log low sized live only is signs written = record {
  added = λ contents holds held. (
      let here = next_here before root place position bytes log contents low only is signs holds in
      let more : List SignedEntry = signed_anew contents in
      let signed : SignedEntry = made_at contents.root.device contents.root.uses (outgoing_of contents.root.pending) place here.next.entry in
      let count : length (log_until place contents) ≡ position =
      length-append contents.signed (take place more) ∙ ap (λ (n : ℕ). length contents.signed + n) here.next.size ∙ ap (λ (n : ℕ). n + place) holds.public.count ∙ sym here.at
      in
      let within : length (log_until place contents) < 128 = omega (arith, count, (can_be_written before root place position bytes log low live only is signs).within) in
      let whole : HoldsLog after.flash (log_until place contents ++ signed ∷ []) =
      log_appended before.flash after.flash (log_until place contents) signed log within sized.flash (here.log.spelled here.next.entry here.next.spelled)
      (subst (λ (n : ℕ). IsSectorWritten (log_sector n) log before.flash after.flash) (sym count) written) held
      in
      subst (HoldsLog after.flash) (append_assoc contents.signed (take place more) (signed ∷ []) ∙ ap (λ (xs : List SignedEntry). contents.signed ++ xs) (sym here.next.next)) whole);
}

-- or there is none to be added
pub none_added : (memory : Memory) (root : Root) (place : ℕ) (bytes log : List ℕ) → place ≤ 1 → IsOnlyRoot memory.bbram root
    → bytes ≡ sector memory.flash (header_sector root.area) → SignsTextAt root place bytes None log → AddsToLog place memory memory
none_added memory root place bytes log low only is signs = record {
  added = λ contents holds held. (
      let header = holds.public.header in
      let none : text_at_place header place ≡ None = none_signed (signer_of root place) (text_at_place header place) (header.signed + place) log (signs header (begins_here memory root bytes contents only is holds)) in
      let same = none_next contents.root.device contents.root.uses (outgoing_of contents.root.pending) place header contents.unsigned low holds.public.unsigned_are none in
      subst (λ (xs : List SignedEntry). HoldsLog memory.flash (contents.signed ++ xs)) (sym same) held);
}

pub log_completed : (first between last : Memory) → KeepsContents first between → AddsToLog 0 first between → AddsToLog 1 between last → CompletesLog first last
log_completed first between last kept one two = record {
  whole = λ contents holds. (
      let more : List SignedEntry = signed_anew contents in
      let start : HoldsLog first.flash (contents.signed ++ take 0 more) = subst (HoldsLog first.flash) (sym (append-nil contents.signed)) holds.public.log in
      let both : HoldsLog last.flash (contents.signed ++ take 2 more) = two.added contents (kept.kept contents holds) (one.added contents holds start) in
      let all = two_are_all contents.root.device contents.root.uses (outgoing_of contents.root.pending) holds.public.header.first holds.public.header.second contents.unsigned holds.public.unsigned_are in
      subst (HoldsLog last.flash) (ap (λ (xs : List SignedEntry). contents.signed ++ xs) all ∙ sym (log_is contents)) both);
}

-- ---- the header that counts all

-- the room holds the settled header, and no code
pub record IsSettledRoom (bytes : List ℕ) (room : Room) : Type 0 where
  pub settled : (header : Header) → BeginsAs header_format bytes header → Spells header_format room.header.items (header_settled header (unsigned_count header))
  pub layer : room.code_layer ≡ 0

not_either : (area n : ℕ) → n ≢ 0 → n ≢ 1 → n ≢ header_sector (1 - area)
not_either zero n not_zero not_one same = not_one (omega (arith, same))
not_either (suc m) n not_zero not_one same = not_zero (omega (arith, same))

log_over : (before after : List ℕ) (log : List SignedEntry) → length log ≤ 128 → ((n : ℕ) → n < 256 → n ≢ 0 → n ≢ 1 → sector after n ≡ sector before n) → HoldsLog before log → HoldsLog after log
log_over before after log few same holds =
    log_stays before after log (λ position less. same (log_sector position) (omega (arith, few, less)) (λ e. omega (arith, e)) (λ e. omega (arith, e))) holds

pub log_counted : (before after : Memory) (root : Root) (bytes : List ℕ) (room : Room) → IsOnlyRoot before.bbram root → bytes ≡ sector before.flash (header_sector root.area) → IsSettledRoom bytes room
    → KeepsContents before after → AgreeForArea before.flash after.flash root.area
    → ((header : Header) → HoldsHeader before.flash root.area header → IsPublicWritten room header root.area before.flash after.flash)
    → ((header : Header) → HoldsHeader before.flash root.area header → (n : ℕ) → n < 256 → IsSpared room header root.area n → sector after.flash n ≡ sector before.flash n)
    → CountsLog before after
log_counted before after root bytes room only is settled kept agree written spared = record {
  counted = λ contents holds log. (
      let same : contents.root ≡ root = only.only contents.root holds.root in
      let now : Holds after contents = kept.kept contents holds in
      let header = now.public.header in
      let more : List SignedEntry = signed_anew contents in
      let area : ℕ = contents.root.area in
      let before_is : sector after.flash (header_sector area) ≡ sector before.flash (header_sector area) =
      subst (λ (r : Root). sector after.flash (header_sector r.area) ≡ sector before.flash (header_sector r.area)) (sym same) agree.header
      in
      let was : HoldsHeader before.flash area header = subst (λ (xs : List ℕ). BeginsAs header_format xs header) before_is now.public.begins in
      let own : HoldsHeader before.flash root.area header = subst (λ (r : Root). HoldsHeader before.flash r.area header) same was in
      let read : BeginsAs header_format bytes header = subst (λ (xs : List ℕ). BeginsAs header_format xs header) (sym is) own in
      let count : unsigned_count header ≡ length more =
      sym (length-signed_for contents.root.device contents.root.uses (outgoing_of contents.root.pending) contents.unsigned ∙ texts_counted header.first header.second contents.unsigned now.public.unsigned_are)
      in
      let put = (subst (λ (r : Root). IsPublicWritten room header r.area before.flash after.flash) (sym same) (written header own)).header in
      let stands : HoldsHeader after.flash (1 - area) (header_settled header (unsigned_count header)) =
      begins_with header_format (sector after.flash (header_sector (1 - area))) room.header.items (header_settled header (unsigned_count header)) (settled.settled header read) put.begins
      in
      let few : length (contents.signed ++ more) ≤ 128 =
      omega (arith, length-append contents.signed more, length-signed_for contents.root.device contents.root.uses (outgoing_of contents.root.pending) contents.unsigned, (segments_fit before.flash contents.root contents.codes contents.signed contents.unsigned holds.public).together)
      in
      let whole : HoldsLog after.flash (contents.signed ++ more) =
      log_over before.flash after.flash (contents.signed ++ more) few
      (λ n less not_zero not_one. spared header own n less (record { not_header = not_either root.area n not_zero not_one; not_code = inr (inr settled.layer) }))
      (subst (HoldsLog before.flash) (log_is contents) log)
      in
      let done = log_settled after.flash contents.root (root_of (state_of_contents contents) (1 - area)) contents.codes contents.signed more contents.unsigned now.public whole
      (subst (λ (n : ℕ). HoldsHeader after.flash (1 - area) (header_settled header n)) count stands) refl
      in
      subst (λ (log : List SignedEntry). HoldsPublic after.flash (root_of (state_of_contents contents) (1 - area)) contents.codes log []) (sym (log_is contents)) done);
}

pub record_signed : (first between last : Memory) → KeepsContents first between → CompletesLog first between → CountsLog between last → SignsRecord first last
record_signed first between last kept completes counts = record { signed = λ contents holds. counts.counted contents (kept.kept contents holds) (completes.whole contents holds) }

-- ---- the signed log stays, and the sectors that hold nothing

pub spared_same : (before after : Memory) → after.flash ≡ before.flash → SparesSectors before after
spared_same before after same = record {
  log = record { kept = λ root header has holds position less. ap (λ (xs : List ℕ). sector xs (log_sector position)) same };
  unused = λ n is. ap (λ (xs : List ℕ). sector xs n) same;
}

pub spared_then : (before between after : Memory) → SparesSectors before between → after.flash ≡ between.flash → SparesSectors before after
spared_then before between after spared same = record {
  log = record {
    kept = λ root header has holds position less. ap (λ (xs : List ℕ). sector xs (log_sector position)) same ∙ spared.log.kept root header has holds position less;
  };
  unused = λ n is. ap (λ (xs : List ℕ). sector xs n) same ∙ spared.unused n is;
}

pub spared_by_writes : (before applied after : Memory) (root : Root) → IsOnlyRoot before.bbram root → applied.flash ≡ before.flash → AgreeForArea applied.flash after.flash root.area → SparesSectors before after
spared_by_writes before applied after root only same agree =
    let agrees : AgreeForArea before.flash after.flash root.area = subst (λ (xs : List ℕ). AgreeForArea xs after.flash root.area) same agree in
    record {
      log = signed_log_stays before after (λ any has. subst (λ (r : Root). AgreeForArea before.flash after.flash r.area) (sym (only.only any has)) agrees);
      unused = agrees.unused;
    }

-- ---- all of it

done_again : (contents : Contents) → both_done (both_done contents) ≡ both_done contents
done_again contents = work_ends contents (both_done contents) (has_both refl)

-- contents with both fates done are ready to be finished, once the signed record stands
pub settled : (first applied written last : Memory) → AppliesBoth first applied → KeepsContents applied written → SignsRecord applied written → Finishes written last → Settles first last
settled first applied written last fates kept signs finish = record {
  settled = λ state means. (
      let live = live_contents first.flash first.bbram state means in
      let contents : Contents = live.contents in
      let now : Contents = both_done contents in
      let holds : Holds applied now = fates.applied contents live.holds in
      let ready : IsReadyToFinish written now = record { holds = kept.kept now holds; applied = done_again contents; signed = signs.signed now holds } in
      let same : state_of_contents now ≡ state = both_done_means contents ∙ sym live.means in
      record { area = 1 - contents.root.area; holds = subst (λ (s : State). Holds last (at_rest s (1 - contents.root.area))) same (finish.finishes now ready) });
}

-- what settles keeps the meaning
pub settling_keeps : (before after : Memory) → IsLoaded after → Settles before after → KeepsMeaning before after
settling_keeps before after sized settles = record {
  kept = λ state means. (
      let live = live_contents before.flash before.bbram state means in
      let rest = settles.settled state means in
      let layers = subst (λ (s : State). s.layers ≡ layers_of (entries_of s.log)) (sym live.means) (meant_layers live.contents) in
      rest_stands after.flash after.bbram state rest.area sized layers rest.holds);
}

-- wherever power fails in the last step, the meaning stays
pub finish_keeps : (first applied written last : Memory) → IsLoaded last → KeepsMeaning first written → AppliesBoth first applied → KeepsContents applied written → SignsRecord applied written → KeepsOrFinishes written last
    → KeepsMeaning first last
finish_keeps first applied written last sized before fates kept signs (inl same) = keeps_then first written last before (contents_keep written last sized same)
finish_keeps first applied written last sized before fates kept signs (inr finish) = settling_keeps first last sized (settled first applied written last fates kept signs finish)

-- ---- what a root that is stored has

pub bounded : (bbram : List ℕ) (root : Root) → IsOnlyRoot bbram root → IsBounded root
bounded bbram root only = bounded_by root only.holds.holds.spelled.allowed
