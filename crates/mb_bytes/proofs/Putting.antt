-- Writers one after the other.
use Rattle.std.proofs.Common.{◌≡◌, ℕ, suc, ◌+◌, ◌-◌, ◌<◌, ◌≤◌, List, [], ◌∷◌, ◌++◌, length, get_or, take, drop, Result, Ok, Err, refl, sym, ap, ◌∙◌, append_assoc, append-nil, add-one, drop-cons, length-append, arith}
use Rattle.std.proofs.lemmas.List.{take-take, take_at, take-append-le}
use Rattle.std.specs.Global.{Vec}
use Rattle.std.specs.Vec.{vec_len, vec_capacity}
use Rattle.mb_format.specs.Format.{Format}
use Rattle.mb_format.specs.Combinators.{items}
use Rattle.mb_bytes.specs.Puts.{Appends, StopsShort, Puts}

-- a Vec has as many items as its length says
pub length_items : (v : Vec ℕ) → length v.items ≡ vec_len v
length_items v = sym v.ok.0

-- one put after another
pub puts_then : {a b : List ℕ} {old middle new : Vec ℕ} → Appends a old middle → Appends b middle new → Appends (a ++ b) old new
puts_then {a} {b} {old} {middle} {new} p q = record {
  items = q.items ∙ ap (λ (xs : List ℕ). xs ++ b) p.items ∙ append_assoc old.items a b;
  len = omega (arith, p.len, q.len, length-append a b);
  capacity = omega (arith, p.capacity, q.capacity);
}

-- the first found no memory
pub puts_stop : {a : List ℕ} (b : List ℕ) {old new : Vec ℕ} → StopsShort a old new → StopsShort (a ++ b) old new
puts_stop {a} b {old} {new} p = record { begins = p.begins; no_room = omega (arith, p.no_room, length-append a b) }

-- a later one found no memory
pub puts_stop_later : {a b : List ℕ} {old middle new : Vec ℕ} → Appends a old middle → StopsShort b middle new → StopsShort (a ++ b) old new
puts_stop_later {a} {b} {old} {middle} {new} p q = record {
  begins = sym (take-take (vec_len old) (vec_len middle) new.items (omega (arith, p.len))) ∙ ap (take (vec_len old)) (q.begins ∙ p.items) ∙ take_at old.items a (vec_len old) (length_items old);
  no_room = omega (arith, p.len, p.capacity, q.no_room, length-append a b);
}

-- one put, and after it another that may find no memory
pub puts_both : {E : Type 0} {a : List ℕ} (b : List ℕ) {old middle : Vec ℕ} (new : Vec ℕ) (r : Result (Unit {0}) E) → Appends a old middle → Puts b middle r new → Puts (a ++ b) old r new
puts_both b new (Ok u) p q = puts_then p q
puts_both b new (Err e) p q = puts_stop_later p q

-- ---- a loop over the items of a list

-- the item at an offset, and those after it
pub item_at : {A : Type 0} (list : List A) (i : ℕ) (d : A) → i < length list → drop i list ≡ get_or list i d ∷ drop (i + 1) list
item_at list i d lt = rw add-one (drop-cons list i d lt)

-- the same of an item that a loop over a slice has
pub item_is : {A : Type 0} (list : List A) (i : ℕ) (a : A) → a ≡ get_or list i a → i < length list → drop i list ≡ a ∷ drop (i + 1) list
item_is list i a e lt = item_at list i a lt ∙ ap (λ x. x ∷ drop (i + 1) list) (sym e)

-- i items were written, and what is left to write completes the list
pub record IsWriting {A S : Type 0} (item : S → Format A) (next : S → A → S) (list : List A) (i : ℕ) (first state : S) (old now : Vec ℕ) : Type 0 where
  pub items : now.items ++ (items item next (length list - i) state).spelling (drop i list) ≡ old.items ++ (items item next (length list) first).spelling list
  pub begins : take (vec_len old) now.items ≡ old.items
  pub longer : vec_len old ≤ vec_len now
  pub capacity : vec_capacity old ≤ vec_capacity now

writing_step : {A S : Type 0} (item : S → Format A) (next : S → A → S) (list : List A) (i : ℕ) (state : S) (a : A) → i < length list → drop i list ≡ a ∷ drop (i + 1) list
    → (items item next (length list - i) state).spelling (drop i list) ≡ (item state).spelling a ++ (items item next (length list - (i + 1)) (next state a)).spelling (drop (i + 1) list)
unfolding items
writing_step item next list i state a lt e =
    let k : length list - i ≡ suc (length list - (i + 1)) = omega arith in
    rw (k, e) refl

pub writing_goes_on : {A S : Type 0} {item : S → Format A} {next : S → A → S} {list : List A} {i : ℕ} {first state : S} {old now after : Vec ℕ} (a : A) → i < length list → drop i list ≡ a ∷ drop (i + 1) list
    → IsWriting item next list i first state old now → Appends ((item state).spelling a) now after → IsWriting item next list (i + 1) first (next state a) old after
writing_goes_on {A} {S} {item} {next} {list} {i} {first} {state} {old} {now} {after} a lt e is p = record {
  items = ap (λ (xs : List ℕ). xs ++ (items item next (length list - (i + 1)) (next state a)).spelling (drop (i + 1) list)) p.items
      ∙ append_assoc now.items ((item state).spelling a) ((items item next (length list - (i + 1)) (next state a)).spelling (drop (i + 1) list))
      ∙ ap (λ (xs : List ℕ). now.items ++ xs) (sym (writing_step item next list i state a lt e))
      ∙ is.items;
  begins = ap (take (vec_len old)) p.items ∙ take-append-le (vec_len old) now.items ((item state).spelling a) (omega (arith, length_items now, is.longer)) ∙ is.begins;
  longer = omega (arith, is.longer, p.len);
  capacity = omega (arith, is.capacity, p.capacity);
}

pub writing_stops : {A S : Type 0} {item : S → Format A} {next : S → A → S} {list : List A} {i : ℕ} {first state : S} {old now after : Vec ℕ} (a : A) → i < length list → drop i list ≡ a ∷ drop (i + 1) list
    → IsWriting item next list i first state old now → StopsShort ((item state).spelling a) now after → StopsShort ((items item next (length list) first).spelling list) old after
writing_stops {A} {S} {item} {next} {list} {i} {first} {state} {old} {now} {after} a lt e is p = record {
  begins = sym (take-take (vec_len old) (vec_len now) after.items is.longer) ∙ ap (take (vec_len old)) p.begins ∙ is.begins;
  no_room =
      let one = ap length (writing_step item next list i state a lt e) ∙ length-append ((item state).spelling a) ((items item next (length list - (i + 1)) (next state a)).spelling (drop (i + 1) list)) in
      let all = sym (length-append now.items ((items item next (length list - i) state).spelling (drop i list))) ∙ ap length is.items ∙ length-append old.items ((items item next (length list) first).spelling list) in
      omega (arith, p.no_room, is.capacity, one, all, length_items old, length_items now);
}

writing_none : {A S : Type 0} (item : S → Format A) (next : S → A → S) (list : List A) (i : ℕ) (state : S) → length list ≤ i → (items item next (length list - i) state).spelling (drop i list) ≡ []
unfolding items
writing_none item next list i state le =
    let k : length list - i ≡ 0 = omega arith in
    rw k refl

pub writing_ends : {A S : Type 0} {item : S → Format A} {next : S → A → S} {list : List A} {i : ℕ} {first state : S} {old now : Vec ℕ} → length list ≤ i
    → IsWriting item next list i first state old now → Appends ((items item next (length list) first).spelling list) old now
writing_ends {A} {S} {item} {next} {list} {i} {first} {state} {old} {now} le is =
    let all : now.items ≡ old.items ++ (items item next (length list) first).spelling list =
    sym (append-nil now.items) ∙ ap (λ (xs : List ℕ). now.items ++ xs) (sym (writing_none item next list i state le)) ∙ is.items in
    record { items = all; len = omega (arith, ap length all, length-append old.items ((items item next (length list) first).spelling list), length_items old, length_items now); capacity = is.capacity }
