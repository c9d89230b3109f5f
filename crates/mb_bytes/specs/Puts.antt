-- What a writer of bytes appends, and when it finds no memory.
use Rattle.std.specs.Prelude.{◌≡◌, ℕ, ◌+◌, ◌<◌, ◌≤◌, List, ◌++◌, length, take, Result, Ok, Err}
use Rattle.std.specs.Global.{Vec}
use Rattle.std.specs.Vec.{vec_len, vec_capacity}

-- these bytes were appended
pub record Appends (bytes : List ℕ) (old new : Vec ℕ) : Type 0 where
  pub items : new.items ≡ old.items ++ bytes
  pub len : vec_len new ≡ vec_len old + length bytes
  pub capacity : vec_capacity old ≤ vec_capacity new

-- there was no room for all of these bytes
abbrev pub HasNoRoom : List ℕ → Vec ℕ → Type 0
HasNoRoom bytes old = vec_capacity old < vec_len old + length bytes

-- ---- writers of a part, which are composed

-- the vector still begins with what it held, and there was no room for all of these bytes
pub record StopsShort (bytes : List ℕ) (old new : Vec ℕ) : Type 0 where
  pub begins : take (vec_len old) new.items ≡ old.items
  pub no_room : HasNoRoom bytes old

-- the bytes are appended; or else the vector still begins with what it held, and there was no room for all of them
abbrev pub Puts : {E : Type 0} → List ℕ → Vec ℕ → Result (Unit {0}) E → Vec ℕ → Type 0
Puts bytes old (Ok u) new = Appends bytes old new
Puts bytes old (Err e) new = StopsShort bytes old new

-- ---- writers that others call

-- nothing was appended, and there was no room for these bytes
pub record IsUnwritten (bytes : List ℕ) (old new : Vec ℕ) : Type 0 where
  pub items : new.items ≡ old.items
  pub no_room : HasNoRoom bytes old

-- the bytes are appended; or else the vector is as it was, and there was no room for them
abbrev pub Writes : {E : Type 0} → List ℕ → Vec ℕ → Result (Unit {0}) E → Vec ℕ → Type 0
Writes bytes old (Ok u) new = Appends bytes old new
Writes bytes old (Err e) new = IsUnwritten bytes old new
