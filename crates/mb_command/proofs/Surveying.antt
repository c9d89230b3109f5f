-- Looking over one field after another.
use Rattle.std.proofs.Common.{◌⊎◌, inl, inr, ◌≡◌, ℕ, ◌+◌, ◌-◌, ◌<◌, ◌≤◌, List, ◌++◌, length, drop, Option, Some, None, Result, Ok, Err, refl, ap, ◌∙◌, subst, arith}
use Rattle.std.specs.Int.{Width, byte_len, from_be_bytes}
use Rattle.std.proofs.lemmas.Bool.{cases_lt}
use Rattle.mb_format.specs.Format.{Format}
use Rattle.mb_format.specs.Combinators.{raw, number, between, coded, in_range, as_value, both}
use Rattle.mb_format.specs.Reading.{IsExact, IsLocal, decode_read}
use Rattle.mb_format.proofs.Exact.{ok_parts}
use Rattle.mb_format.proofs.Steps.{raw_at-long}
use Rattle.mb_format.proofs.Fields.{in_range_again}
use Rattle.mb_bytes.specs.declared.cursor.Cursor.{Cursor}
use Rattle.mb_bytes.specs.Reads.{ReadsOk, ReadsErr}
use Rattle.mb_bytes.proofs.Exactly.{stands}
use Rattle.mb_command.specs.declared.stuck.Stuck.{Stuck}
use Rattle.mb_command.specs.declared.stuck.Stuck.TheVariants.{Lost, Open}
use Rattle.mb_command.specs.Beginnings.{FailsFrom, CanEndFrom, IsInhabited}
use Rattle.mb_command.specs.Surveys.{IsFound, IsStuck, Surveys, NothingTold, IsTold}
use Rattle.mb_command.proofs.Following.{both_lost_first, both_lost_second, both_open_first, both_open_second, as_value_lost, as_value_open, raw_can_end, none_there, all_there}
use Rattle.mb_command.proofs.Partial.{IsPartial, coded_lost, coded_open, range_above, number_long, number_open}

-- ---- one format after another

-- the first was found, and the second
pub both_found : {K B : Type 0} (f : Format K) (g : K → Format B) (T : K → Type 0) (Later : B → Type 0) (Tells : K × B → Type 0) (old middle new : Cursor) → (p : IsFound f old middle T) → (q : IsFound (g p.value) middle new Later)
    → Tells (p.value, q.value) → IsFound (both f g) old new Tells
both_found f g T Later Tells old middle new p q t = record {
  bytes = q.bytes ∙ p.bytes;
  value = (p.value, q.value);
  reads = rw (p.reads, ← p.bytes, q.reads) refl;
  told = t;
}

-- the first was found, and the second was not
pub both_stuck_later : {K B : Type 0} (f : Format K) (g : K → Format B) (T : K → Type 0) (old middle new : Cursor) (e : Stuck) → IsExact f → (p : IsFound f old middle T) → IsStuck (g p.value) middle e new → IsStuck (both f g) old e new
both_stuck_later f g T old middle new (Lost at) exact p q =
    let fails : FailsFrom (g p.value) old.bytes.now middle.offset at = subst (λ (bytes : List ℕ). FailsFrom (g p.value) bytes middle.offset at) p.bytes q.1 in
    (q.0 ∙ p.bytes, both_lost_second f g exact old.bytes.now old.offset p.value middle.offset at (stands old) p.reads fails)
both_stuck_later f g T old middle new Open exact p q =
    let can : CanEndFrom (g p.value) old.bytes.now middle.offset = subst (λ (bytes : List ℕ). CanEndFrom (g p.value) bytes middle.offset) p.bytes q.1 in
    (q.0 ∙ p.bytes, both_open_second f g exact old.bytes.now old.offset p.value middle.offset (stands old) p.reads can)

-- the first was not found
pub both_stuck : {K B : Type 0} (f : Format K) (g : K → Format B) (old new : Cursor) (e : Stuck) → IsExact f → ((k : K) → f.Allowed k → IsExact (g k)) → ((k : K) → f.Allowed k → IsInhabited (g k))
    → IsStuck f old e new → IsStuck (both f g) old e new
both_stuck f g old new (Lost at) exact following inhabited s = (s.0, both_lost_first f g old.bytes.now old.offset at s.1)
both_stuck f g old new Open exact following inhabited s = (s.0, both_open_first f g exact following inhabited old.bytes.now old.offset (stands old) s.1)

-- the first was found, and the second was looked over
pub both_surveys : {K B : Type 0} (f : Format K) (g : K → Format B) (T : K → Type 0) (old middle new : Cursor) (r : Result (Unit {0}) Stuck) → IsExact f → (p : IsFound f old middle T)
    → Surveys NothingTold (g p.value) middle r new → Surveys NothingTold (both f g) old r new
both_surveys f g T old middle new (Ok x) exact p q = both_found f g T (NothingTold x) (NothingTold x) old middle new p q tt
both_surveys f g T old middle new (Err e) exact p q = both_stuck_later f g T old middle new e exact p q

-- ---- values made of what was found

pub made_found : {A B : Type 0} (f : Format A) (into : A → B) (out : B → Option A) (T : A → Type 0) (Tells : B → Type 0) (old new : Cursor) → (p : IsFound f old new T) → Tells (into p.value) → IsFound (as_value f into out) old new Tells
made_found f into out T Tells old new p t = record { bytes = p.bytes; value = into p.value; reads = rw p.reads refl; told = t }

pub made_stuck : {A B : Type 0} (f : Format A) (into : A → B) (out : B → Option A) (old new : Cursor) (e : Stuck) → IsStuck f old e new → IsStuck (as_value f into out) old e new
made_stuck f into out old new (Lost at) s = (s.0, as_value_lost f into out old.bytes.now old.offset at s.1)
made_stuck f into out old new Open s = (s.0, as_value_open f into out old.bytes.now old.offset s.1)

pub made_surveys : {A B : Type 0} (f : Format A) (into : A → B) (out : B → Option A) (old new : Cursor) (r : Result (Unit {0}) Stuck) → Surveys NothingTold f old r new → Surveys NothingTold (as_value f into out) old r new
made_surveys f into out old new (Ok x) p = made_found f into out (NothingTold x) (NothingTold x) old new p tt
made_surveys f into out old new (Err e) s = made_stuck f into out old new e s

-- what was told is forgotten
pub forget : {A : Type 0} (f : Format A) (T : A → Type 0) (old new : Cursor) → IsFound f old new T → IsFound f old new (NothingTold tt)
forget f T old new p = record { bytes = p.bytes; value = p.value; reads = p.reads; told = tt }

-- ---- fields of one byte

-- no byte is left
pub byte_open : {A : Type 0} (f : Format A) (old : Cursor) (left : ℕ) → IsExact f → IsInhabited f → old.offset + left ≡ length old.bytes.now → left ≡ 0 → IsStuck f old Open old
byte_open f old left exact some e none = (refl, none_there f exact some old.bytes.now old.offset (stands old).are_bytes (omega (arith, e, none)))

-- as many bytes are left as the field has, and it is not allowed
pub field_lost : {A : Type 0} (f : Format A) (n : ℕ) (old new : Cursor) (left at : ℕ) → IsLocal f n → old.offset + left ≡ length old.bytes.now → n ≤ left → ReadsErr f old at new → IsStuck f old (Lost at) new
field_lost f n old new left at local e some r = (r.bytes, all_there f n local old.bytes.now old.offset at (stands old) (omega (arith, e, some)) r.reads)

-- it is allowed
pub field_found : {A : Type 0} (f : Format A) (old new : Cursor) (a : A) → ReadsOk f old a new → IsFound f old new (IsTold a)
field_found f old new a r = record { bytes = r.bytes; value = a; reads = r.reads; told = refl }

pub field_is : {A : Type 0} (f : Format A) (old new : Cursor) (a : A) → ReadsOk f old a new → IsFound f old new (NothingTold tt)
field_is f old new a r = record { bytes = r.bytes; value = a; reads = r.reads; told = tt }

-- ---- raw bytes

-- there were too few raw bytes
pub raw_few : (n : ℕ) (old new : Cursor) (offset : ℕ) → ReadsErr (raw n) old offset new → length old.bytes.now < old.offset + n
raw_few n old new offset r = by_length (cases_lt (length old.bytes.now) (old.offset + n))
  where
    by_length : (length old.bytes.now < old.offset + n) ⊎ (old.offset + n ≤ length old.bytes.now) → length old.bytes.now < old.offset + n
    by_length (inl lt) = lt
    by_length (inr le) = let d = raw_at-long n old.bytes.now old.offset le in let e = r.reads in absurd cc

-- raw bytes that were not there can follow
pub raw_open : (n : ℕ) (old new : Cursor) (offset : ℕ) → ReadsErr (raw n) old offset new → CanEndFrom (raw n) old.bytes.now old.offset
raw_open n old new offset r = raw_can_end n old.bytes.now old.offset (raw_few n old new offset r)

-- ---- numbers

-- there were too few bytes for a number
pub number_few : (w : Width) (old new : Cursor) (offset : ℕ) → ReadsErr (number w) old offset new → length old.bytes.now < old.offset + byte_len w
number_few w old new offset r = by_length (cases_lt (length old.bytes.now) (old.offset + byte_len w))
  where
    by_length : (length old.bytes.now < old.offset + byte_len w) ⊎ (old.offset + byte_len w ≤ length old.bytes.now) → length old.bytes.now < old.offset + byte_len w
    by_length (inl lt) = lt
    by_length (inr le) = let d = number_long w old.bytes.now old.offset le in let e = r.reads in absurd cc

pub number_follows : (w : Width) → IsPartial w → (old new : Cursor) (offset : ℕ) → ReadsErr (number w) old offset new → CanEndFrom (number w) old.bytes.now old.offset
number_follows w is old new offset r = number_open w is old.bytes.now old.offset old.within (number_few w old new offset r)

-- its first bytes are too large whatever follows
pub bounded_lost : (w : Width) → IsPartial w → (least most : ℕ) (old : Cursor) → length old.bytes.now < old.offset + byte_len w → most < from_be_bytes w (drop old.offset old.bytes.now) → FailsFrom (between w least most) old.bytes.now old.offset old.offset
bounded_lost w is least most old few gt = coded_lost w (λ n. n) (λ n. (least ≤ n) × (n ≤ most)) (in_range least most) most is (range_above least most) old.bytes.now old.offset old.within few gt

-- they are not, and zeros and a last byte complete it
pub bounded_open : (w : Width) → IsPartial w → (least most : ℕ) (old : Cursor) → least ≤ most → least < 256 → length old.bytes.now < old.offset + byte_len w → from_be_bytes w (drop old.offset old.bytes.now) ≤ most → CanEndFrom (between w least most) old.bytes.now old.offset
bounded_open w is least most old bounds small few le =
    let low = from_be_bytes w (drop old.offset old.bytes.now) in
    coded_open w (λ n. n) (λ n. (least ≤ n) × (n ≤ most)) (in_range least most) is old.bytes.now old.offset (least - from_be_bytes w (drop old.offset old.bytes.now)) (from_be_bytes w (drop old.offset old.bytes.now) + (least - from_be_bytes w (drop old.offset old.bytes.now))) old.within few (omega (arith, small))
    (in_range_again least most (from_be_bytes w (drop old.offset old.bytes.now) + (least - from_be_bytes w (drop old.offset old.bytes.now))) (omega arith) (omega (arith, bounds, le)))

-- ---- numbers that stand for values, all those from `least` to `most` and no others

-- what each number in a range stands for
pub record IsTableOf {A : Type 0} (decode : ℕ → Option A) (least most : ℕ) (value : ℕ → A) : Type 0 where
  pub inside : (n m : ℕ) → in_range least most n ≡ Some m → decode n ≡ Some (value m)
  pub outside : (n : ℕ) → in_range least most n ≡ None → decode n ≡ None

table_ok : {A : Type 0} (decode : ℕ → Option A) (least most : ℕ) (value : ℕ → A) → IsTableOf decode least most value → (at n after : ℕ) (r : Result (ℕ × ℕ) ℕ) → decode_read (in_range least most) at r ≡ Ok (n, after) → decode_read decode at r ≡ Ok (value n, after)
table_ok decode least most value is at n after (Err o) e = absurd cc
table_ok {A = A} decode least most value is at n after (Ok p) e = by (in_range least most p.0) refl
  where
    by : (o : Option ℕ) → in_range least most p.0 ≡ o → decode_read decode at (Ok p) ≡ Ok (value n, after)
    by None d = absurd (let f = rw d at e in cc)
    by (Some m) d =
        let f = rw d at e in
        let q = ok_parts m n p.1 after f in
        rw (is.inside p.0 m d, q.0, q.1) refl

table_err : {A : Type 0} (decode : ℕ → Option A) (least most : ℕ) (value : ℕ → A) → IsTableOf decode least most value → (at offset : ℕ) (r : Result (ℕ × ℕ) ℕ) → decode_read (in_range least most) at r ≡ Err offset → decode_read decode at r ≡ Err offset
table_err decode least most value is at offset (Err o) e = cc
table_err {A = A} decode least most value is at offset (Ok p) e = by (in_range least most p.0) refl
  where
    by : (o : Option ℕ) → in_range least most p.0 ≡ o → decode_read decode at (Ok p) ≡ Err offset
    by None d = let f = rw d at e in rw (is.outside p.0 d) cc
    by (Some m) d = absurd (let f = rw d at e in cc)

pub table_found : {A : Type 0} (w : Width) (code : A → ℕ) (Allowed : A → Type 0) (decode : ℕ → Option A) (least most n : ℕ) (value : ℕ → A) (old new : Cursor) → IsTableOf decode least most value
    → IsFound (between w least most) old new (IsTold n) → IsFound (coded w code Allowed decode) old new (IsTold (value n))
table_found w code Allowed decode least most n value old new is p = record {
  bytes = p.bytes;
  value = value p.value;
  reads = table_ok decode least most value is old.offset p.value new.offset ((number w).reads old.bytes.now old.offset) p.reads;
  told = ap value p.told;
}

pub table_stuck : {A : Type 0} (w : Width) (code : A → ℕ) (Allowed : A → Type 0) (decode : ℕ → Option A) (least most : ℕ) (value : ℕ → A) (old new : Cursor) (e : Stuck) → IsTableOf decode least most value
    → IsStuck (between w least most) old e new → IsStuck (coded w code Allowed decode) old e new
table_stuck w code Allowed decode least most value old new (Lost at) is s =
    (s.0, record { fails = λ more h. table_err decode least most value is old.offset at ((number w).reads (old.bytes.now ++ more) old.offset) (s.1.fails more h) })
table_stuck w code Allowed decode least most value old new Open is s = (
  s.0,
  record {
    more = s.1.more;
    are_bytes = s.1.are_bytes;
    value = value s.1.value;
    reads = table_ok decode least most value is old.offset s.1.value (length (old.bytes.now ++ s.1.more)) ((number w).reads (old.bytes.now ++ s.1.more) old.offset) s.1.reads;
  },
)
