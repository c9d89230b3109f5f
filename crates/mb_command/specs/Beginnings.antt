-- What can be said of bytes before all of them are there: that they fail whatever follows, or that some bytes complete
-- them. Can these bytes still become an order?
use Rattle.std.specs.Prelude.{◌≡◌, ℕ, List, ◌++◌, length, Ok, Err}
use Rattle.mb_format.specs.Format.{IsBytes, Format, Spells, FailsWhole}

-- ---- as a whole

-- whatever bytes follow these, the whole fails at this offset
pub record FailsHowever {A : Type 0} (f : Format A) (bytes : List ℕ) (offset : ℕ) : Type 0 where
  pub fails : (more : List ℕ) → IsBytes more → FailsWhole f (bytes ++ more) offset

-- some bytes after these make the whole spell a value
pub record CanBecome {A : Type 0} (f : Format A) (bytes : List ℕ) : Type 0 where
  pub more : List ℕ
  pub are_bytes : IsBytes more
  pub value : A
  pub spelled : Spells f (bytes ++ more) value

-- ---- from an offset on, by reading

-- whatever bytes follow these, reading from the start on fails at this offset
pub record FailsFrom {A : Type 0} (f : Format A) (bytes : List ℕ) (start offset : ℕ) : Type 0 where
  pub fails : (more : List ℕ) → IsBytes more → f.reads (bytes ++ more) start ≡ Err offset

-- some bytes after these complete a value, read from the start on, that ends where they end
pub record CanEndFrom {A : Type 0} (f : Format A) (bytes : List ℕ) (start : ℕ) : Type 0 where
  pub more : List ℕ
  pub are_bytes : IsBytes more
  pub value : A
  pub reads : f.reads (bytes ++ more) start ≡ Ok (value, length (bytes ++ more))

-- the format allows some value, and the spelling of that value is bytes
pub record IsInhabited {A : Type 0} (f : Format A) : Type 0 where
  pub value : A
  pub allowed : f.Allowed value
  pub are_bytes : IsBytes (f.spelling value)
