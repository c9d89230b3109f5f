-- Readers one after the other, and a list of items read in a loop over their number.
use Rattle.std.proofs.Common.{◌≡◌, ℕ, ◌+◌, ◌-◌, ◌<◌, ◌≤◌, List, [], ◌∷◌, ◌++◌, length, Option, Some, None, refl, ◌∙◌, arith}
use Rattle.mb_format.specs.Format.{Format}
use Rattle.mb_format.specs.Combinators.{led, items}
use Rattle.mb_format.proofs.Steps.{with_front, items_begin, items_more, items_fail, items_end}
use Rattle.mb_bytes.specs.declared.cursor.Cursor.{Cursor}
use Rattle.mb_bytes.specs.Reads.{SameBytes, ReadsOk, ReadsErr, ReadsErrAt}

-- a leading field was read, and the value after it
pub led_ok : {K B : Type 0} {f : Format K} {key : B → K} {g : K → Format B} {k : K} {b : B} {old middle new : Cursor} → ReadsOk f old k middle → ReadsOk (g k) middle b new → ReadsOk (led f key g) old b new
led_ok {K} {B} {f} {key} {g} {k} {b} {old} {middle} {new} p q = record {
  bytes = q.bytes ∙ p.bytes;
  reads = rw (p.reads, ← p.bytes, q.reads) refl;
}

-- the value after it failed
pub led_err_later : {K B : Type 0} {f : Format K} {key : B → K} {g : K → Format B} {k : K} {at : ℕ} {old middle new : Cursor} → ReadsOk f old k middle → ReadsErr (g k) middle at new → ReadsErr (led f key g) old at new
led_err_later {K} {B} {f} {key} {g} {k} {at} {old} {middle} {new} p q = record {
  bytes = q.bytes ∙ p.bytes;
  reads = rw (p.reads, ← p.bytes, q.reads) refl;
}

-- i of n items have been read, and the others are read from the cursor with this state
pub record IsReading {A S : Type 0} (item : S → Format A) (next : S → A → S) (n i : ℕ) (first state : S) (front : List A) (old now : Cursor) : Type 0 where
  pub bytes : SameBytes old now
  pub so_far : with_front front ((items item next (n - i) state).reads old.bytes.now now.offset) ≡ (items item next n first).reads old.bytes.now old.offset

pub reading_begins : {A S : Type 0} (item : S → Format A) (next : S → A → S) (n : ℕ) (first : S) (old : Cursor) → IsReading item next n 0 first first [] old old
reading_begins item next n first old =
    let k : n - 0 ≡ n = omega arith in
    record { bytes = refl; so_far = rw k (items_begin ((items item next n first).reads old.bytes.now old.offset)) }

pub reading_goes_on : {A S : Type 0} {item : S → Format A} {next : S → A → S} {n i : ℕ} {first state : S} {front : List A} {old now after : Cursor} (a : A) → i < n
    → IsReading item next n i first state front old now → ReadsOk (item state) now a after → IsReading item next n (i + 1) first (next state a) (front ++ a ∷ []) old after
reading_goes_on {item} {next} {n} {i} {first} {state} {front} {old} {now} {after} a lt is r = record {
  bytes = r.bytes ∙ is.bytes;
  so_far = items_more item next n i state front old.bytes.now now.offset a after.offset _ lt (rw (← is.bytes) r.reads) is.so_far;
}

pub reading_fails : {A S : Type 0} {item : S → Format A} {next : S → A → S} {n i : ℕ} {first state : S} {front : List A} {old now after : Cursor} {offset : ℕ} → i < n
    → IsReading item next n i first state front old now → ReadsErr (item state) now offset after → ReadsErr (items item next n first) old offset after
reading_fails {item} {next} {n} {i} {first} {state} {front} {old} {now} {after} {offset} lt is r = record {
  bytes = r.bytes ∙ is.bytes;
  reads = items_fail item next n i state front old.bytes.now now.offset offset _ lt (rw (← is.bytes) r.reads) is.so_far;
}

-- the same where the error points at an offset or nowhere
pub reading_fails_at : {A S : Type 0} {item : S → Format A} {next : S → A → S} {n i : ℕ} {first state : S} {front : List A} {old now : Cursor} (after : Cursor) (at : Option ℕ) → i < n
    → IsReading item next n i first state front old now → ReadsErrAt (item state) now at after → ReadsErrAt (items item next n first) old at after
reading_fails_at after (Some at) lt is r = reading_fails lt is r
reading_fails_at after None lt is r = r ∙ is.bytes

pub reading_ends : {A S : Type 0} {item : S → Format A} {next : S → A → S} {n i : ℕ} {first state : S} {front : List A} {old now : Cursor} → n ≤ i
    → IsReading item next n i first state front old now → ReadsOk (items item next n first) old front now
reading_ends {item} {next} {n} {i} {first} {state} {front} {old} {now} le is = record {
  bytes = is.bytes;
  reads = items_end item next n i state front old.bytes.now now.offset _ le is.so_far;
}

-- an item of a counted list failed, where the error points at an offset or nowhere
pub list_fails_at : {A S : Type 0} (f : Format ℕ) (item : S → Format A) (next : S → A → S) (first : ℕ → S) {n i : ℕ} {state : S} {front : List A} {old middle now : Cursor} (after : Cursor) (at : Option ℕ)
    → ReadsOk f old n middle → i < n → IsReading item next n i (first n) state front middle now → ReadsErrAt (item state) now at after → ReadsErrAt (led f length (λ k. items item next k (first k))) old at after
list_fails_at f item next first after (Some at) p lt is r = led_err_later p (reading_fails lt is r)
list_fails_at f item next first after None p lt is r = r ∙ is.bytes ∙ p.bytes
