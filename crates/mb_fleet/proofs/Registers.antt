-- Rows of a register as bytes: they are written one by one, and what is spelled fits a register.
use Rattle.std.proofs.Common.{◌≡◌, ◌-◌, ℕ, zero, suc, List, [], ◌∷◌, length, Option, Some, None, refl, sym, ap, true≢false, arith}
use Rattle.std.specs.Prelude.{IsTrue}
use Rattle.std.specs.Global.{Vec}
use Rattle.std.specs.Vec.{vec_len}
use Rattle.std.specs.List.{AllByRecursion}
use Rattle.std.specs.declared.cmp.Ordering.{Ordering}
use Rattle.std.specs.declared.cmp.Ordering.TheVariants.{Less, Equal, Greater}
use Rattle.std.specs.Ordering.{is_lt}
use Rattle.std.proofs.lemmas.List.{take_all}
use Rattle.mb_format.specs.Combinators.{items}
use Rattle.mb_bytes.proofs.Putting.{IsWriting, length_items}
use Rattle.mb_fleet.specs.declared.row.Row.{Row}
use Rattle.mb_fleet.specs.Order.{IsBefore}
use Rattle.mb_fleet.specs.Rows.{AreOrdered}
use Rattle.mb_fleet.specs.RegisterFormat.{hashes_format, row_format, last_serial, rows_format, register_format}
use Rattle.mb_fleet.specs.Lookups.{HasFewEntries, FitsRegister}
use Rattle.mb_fleet.proofs.Each.{each_weaker}
use Rattle.mb_fleet.proofs.Ascending.{before_trans}

-- ---- written

pub row_count : (v : Vec Row) → length v.items ≡ vec_len v
row_count v = sym v.ok.0

pub rows_begin : (rows : List Row) (v : Vec ℕ) → IsWriting row_format last_serial rows 0 None None v v
rows_begin rows v = record {
  items = (let k : length rows - 0 ≡ length rows = omega arith in rw k refl);
  begins = take_all (vec_len v) v.items (omega (arith, length_items v));
  longer = omega arith;
  capacity = omega arith;
}

-- the spelling of a row does not depend on the row before it
pub row_spelling : (last : Option (List ℕ)) (row : Row) → (row_format None).spelling row ≡ (row_format last).spelling row
unfolding row_format
row_spelling last row = refl

-- ---- what is spelled fits

less_of : (o : Ordering) → IsTrue (is_lt o) → o ≡ Less
less_of Less is = refl
less_of Equal is = absurd (true≢false (sym is))
less_of Greater is = absurd (true≢false (sym is))

few_in : (last : Option (List ℕ)) (row : Row) → (row_format last).Allowed row → HasFewEntries row
unfolding row_format hashes_format
few_in last row h = h.1.1.1.0.1

follows : (last : List ℕ) (row : Row) → (row_format (Some last)).Allowed row → IsBefore last row.serial
unfolding row_format
follows last row h = less_of _ h.0.1

rows_above : (n : ℕ) (last : List ℕ) (rows : List Row) → (items row_format last_serial n (Some last)).Allowed rows → AllByRecursion (λ row. IsBefore last row.serial) rows
unfolding items
rows_above zero last [] h = tt
rows_above zero last (row ∷ rows) h = absurd (omega (arith, ap length h))
rows_above (suc n) last [] h = tt
rows_above (suc n) last (row ∷ rows) h =
    let first = follows last row h.0 in
    (first, each_weaker (λ r. IsBefore row.serial r.serial) (λ r. IsBefore last r.serial) (λ r p. before_trans last row.serial r.serial first p) rows (rows_above n row.serial rows h.1))

rows_ordered : (n : ℕ) (last : Option (List ℕ)) (rows : List Row) → (items row_format last_serial n last).Allowed rows → AreOrdered rows
unfolding items
rows_ordered zero last [] h = tt
rows_ordered zero last (row ∷ rows) h = absurd (omega (arith, ap length h))
rows_ordered (suc n) last [] h = tt
rows_ordered (suc n) last (row ∷ rows) h = (rows_above n row.serial rows h.1, rows_ordered n (Some row.serial) rows h.1)

rows_few : (n : ℕ) (last : Option (List ℕ)) (rows : List Row) → (items row_format last_serial n last).Allowed rows → AllByRecursion HasFewEntries rows
unfolding items
rows_few zero last [] h = tt
rows_few zero last (row ∷ rows) h = absurd (omega (arith, ap length h))
rows_few (suc n) last [] h = tt
rows_few (suc n) last (row ∷ rows) h = (few_in last row h.0, rows_few n (Some row.serial) rows h.1)

pub spelled_fits : (rows : List Row) → register_format.Allowed rows → FitsRegister rows
unfolding register_format rows_format
spelled_fits rows h = record {
  ordered = rows_ordered (length rows) None rows h.1.1;
  few = h.1.0.1;
  each = rows_few (length rows) None rows h.1.1;
}
