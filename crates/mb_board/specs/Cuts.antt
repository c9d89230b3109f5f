-- When a power loss stops a write call of a board that simulates a device, and what the call's range then holds.
use Rattle.std.specs.Prelude.{◌≡◌, ℕ, zero, suc, ◌+◌, ◌-◌, ◌<◌, ◌%◌, ◌≤◌, ◌==◌, ◌&&◌, nat_lt}
use Rattle.std.specs.Prelude.{List, ◌++◌, length, take, map, slice_index}
use Rattle.std.specs.Prelude.{Bool, true, false, Option, None, Some, Result, Ok, Err, if◌then◌else◌}
use Rattle.std.specs.List.{range_with_len}
use Rattle.mb_model.specs.declared.limits.TheConstants.{FILL_LIMIT}
use Rattle.mb_model.specs.declared.event.Event.{Event}
use Rattle.mb_model.specs.declared.event.Event.TheVariants as event
use Rattle.mb_model.specs.declared.event.Tear.{Tear}
use Rattle.mb_model.specs.outside.Board.{Meter}
use Rattle.mb_board.specs.Calls.{counted_write, stops_by}
use Rattle.mb_board.specs.declared.fuse.Cut.{Cut}

-- the filling of a tear has 1 to 16 bytes
pub record HasFill (tear : Tear) : Type 0 where
  pub some : 1 ≤ tear.fill_length
  pub most : tear.fill_length ≤ FILL_LIMIT

-- the armed power loss, the number of stopped calls, and the number of write calls since the last event
pub record Armed : Type 0 where
  pub cut : Option Cut
  pub stops : ℕ
  pub writes : ℕ

-- nothing was armed, stopped or called
abbrev pub unused : Armed
unused = record { cut = None; stops = 0; writes = 0 }

abbrev pub is_armed : Option Cut → Bool
is_armed None = false
is_armed (Some cut) = true

abbrev pub meter_of : Armed → Meter
meter_of fuse = record { armed = is_armed fuse.cut; stops = fuse.stops; writes = fuse.writes }

-- ---- which call is stopped

-- the last value of the count of stops, at which no power loss stops a call
abbrev pub last_count : ℕ
last_count = 18446744073709551615

-- A write call passes, or fails with the tear of the armed power loss, if this is the call that it was set for.
abbrev pub passes_by : Option Cut → ℕ → Result (Unit {0}) Tear
passes_by None stops = Ok tt
passes_by (Some cut) stops = if cut.count == 1 && nat_lt stops last_count then Err cut.tear else Ok tt

abbrev pub passes : Armed → Result (Unit {0}) Tear
passes fuse = passes_by fuse.cut fuse.stops

-- the power loss that is armed after a call: none after a stop, and else the one before, now one call nearer
abbrev pub cut_left : {A E : Type 0} → Result A E → Option Cut → Option Cut
cut_left (Err stop) cut = None
cut_left (Ok value) None = None
cut_left (Ok value) (Some cut) = Some (record cut { count = cut.count - 1 })

-- what is armed and counted after a call: a stop is counted, and so is each call
abbrev pub fuse_after : {A E : Type 0} → Result A E → Armed → Armed
fuse_after result fuse =
    record { cut = cut_left result fuse.cut; stops = stops_by result fuse.stops; writes = counted_write fuse.writes }

-- the power loss that is armed after an event was handed out
abbrev pub cut_after : Option Event → Option Cut → Option Cut
cut_after (Some (event.Cut count tear)) cut = Some (record { count = count; tear = tear })
cut_after _ cut = cut

-- the power loss that is armed after one call that passed, and after n
abbrev pub passed_one : Option Cut → Option Cut
passed_one cut = cut_left {A = Unit {0}} {E = Tear} (Ok tt) cut

abbrev pub cut_in : ℕ → Option Cut → Option Cut
cut_in zero cut = cut
cut_in (suc n) cut = cut_in n (passed_one cut)

-- A power loss falls into the call that it was set for: the calls before pass, and that one fails. None falls into a
-- call if the count of stops is at its last value.
pub record FallsInItsCall (cut : Cut) : Type 0 where
  pub before : (n stops : ℕ) → n + 1 < cut.count → passes_by (cut_in n (Some cut)) stops ≡ Ok tt
  pub there : (n stops : ℕ) → n + 1 ≡ cut.count → stops < last_count
      → passes_by (cut_in n (Some cut)) stops ≡ Err cut.tear
  pub never : (n : ℕ) → passes_by (cut_in n (Some cut)) last_count ≡ Ok tt

-- ---- what the range of a call holds

-- n bytes of the tear's filling, repeated from the first
unfoldable pub filling : Tear → ℕ → List ℕ
filling tear n = map (λ offset. slice_index tear.fill (offset % tear.fill_length)) (range_with_len 0 n)

-- the bytes that a torn write leaves: a prefix of those that were to be written, and then the filling
unfoldable pub torn_by : Tear → List ℕ → List ℕ
torn_by tear bytes = take tear.keep bytes ++ filling tear (length bytes - tear.keep)

-- the bytes that a write leaves
abbrev pub left_by : Result (Unit {0}) Tear → List ℕ → List ℕ
left_by (Ok passed) bytes = bytes
left_by (Err tear) bytes = torn_by tear bytes

-- a write is complete if the power loss keeps all its bytes
abbrev pub LeavesWhatItKeeps : Cut → Type 0
LeavesWhatItKeeps cut = (bytes : List ℕ) → length bytes ≤ cut.tear.keep → torn_by cut.tear bytes ≡ bytes
