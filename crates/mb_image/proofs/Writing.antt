-- Writers that have room for what they write.
use Rattle.std.proofs.Common.{◌≡◌, ℕ, ◌+◌, ◌≤◌, List, [], ◌++◌, length, Bool, false, Result, Ok, Err, refl, sym, ap, ◌∙◌, arith}
use Rattle.std.specs.Global.{Vec}
use Rattle.std.specs.Vec.{vec_len, vec_capacity}
use Rattle.std.specs.Prelude.{◌↔◌, IsTrue}
use Rattle.std.proofs.lemmas.Bool.{false≢true}
use Rattle.mb_model.specs.declared.region.Region.{Region}
use Rattle.mb_model.specs.owners.Regions.{empty_region}
use Rattle.mb_model.specs.records.RegionFormat.{region_format, CanBeWritten}
use Rattle.mb_model.proofs.RegionWriting.{written_short, written_is_record}
use Rattle.mb_bytes.specs.Puts.{Appends, Puts, Writes}

-- ---- bytes for which there is room

-- what was written is appended
pub writes_fit : {E : Type 0} (bytes : List ℕ) (old new : Vec ℕ) (result : Result (Unit {0}) E) → Writes bytes old result new → vec_len old + length bytes ≤ vec_capacity old
    → Appends bytes old new
writes_fit bytes old new (Ok u) written room = written
writes_fit bytes old new (Err e) written room = absurd (omega (arith, written.no_room, room))

-- what was written has found memory
pub writes_never_fail : {E : Type 0} (bytes : List ℕ) (old new : Vec ℕ) (result : Result (Unit {0}) E) → Writes bytes old result new → vec_len old + length bytes ≤ vec_capacity old
    → ((u : Unit {0}) → result ≡ Ok u → ⊥) → ⊥
writes_never_fail bytes old new (Ok u) written room never = never u refl
writes_never_fail bytes old new (Err e) written room never = omega (arith, written.no_room, room)

-- a writer of a part that has room does not fail
pub puts_never_fail : {E : Type 0} (bytes : List ℕ) (old new : Vec ℕ) (result : Result (Unit {0}) E) → Puts bytes old result new → vec_len old + length bytes ≤ vec_capacity old
    → ((u : Unit {0}) → result ≡ Ok u → ⊥) → ⊥
puts_never_fail bytes old new (Ok u) put room never = never u refl
puts_never_fail bytes old new (Err e) put room never = omega (arith, put.no_room, room)

-- ---- an empty buffer with room for 4,094 bytes

module _ {E : Type 0} (bytes : List ℕ) (old new : Vec ℕ) (result : Result (Unit {0}) E) (written : Writes bytes old result new) (empty : vec_len old ≡ 0) (room : 4094 ≤ vec_capacity old) (short : length bytes ≤ 4094) where
  appended : Appends bytes old new
  appended = writes_fit bytes old new result written (omega (arith, empty, room, short))

  pub buffer_keeps_room : 4094 ≤ vec_capacity new
  buffer_keeps_room = omega (arith, room, appended.capacity)

  pub buffer_holds : old.items ≡ [] → new.items ≡ bytes
  buffer_holds none = appended.items ∙ ap (λ (front : List ℕ). front ++ bytes) none

  pub buffer_never_fails : ((u : Unit {0}) → result ≡ Ok u → ⊥) → ⊥
  buffer_never_fails = writes_never_fail bytes old new result written (omega (arith, empty, room, short))

-- ---- a region that is not empty

pub record_fits : (region : Region) (empty : Bool) → IsTrue empty ↔ (region ≡ empty_region) → empty ≡ false → CanBeWritten region → length (region_format.spelling (2, region)) ≤ 4094
record_fits region empty says is_false can =
    let some : region ≡ empty_region → ⊥ = λ is. false≢true (sym is_false ∙ says.1 is) in
    omega (arith, written_short region can, ap length (written_is_record region some))
