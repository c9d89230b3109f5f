-- Indexes: what they list after a row is put among others, and the codes that they tell of.
use Rattle.std.proofs.Common.{◌≡◌, ◌<◌, ◌+◌, ℕ, Bool, true, false, List, [], ◌∷◌, ◌++◌, length, take, drop, get_or, map, filter, Option, Some, None, Result, Ok, Err, IfOk, is_some, cond, ◌==◌, refl, sym, ap, subst, ◌∙◌, true≢false, append-nil, arith}
use Rattle.std.specs.Prelude.{if◌then◌else◌, slice_set, unwrap_or}
use Rattle.std.specs.List.{AllByRecursion, insert}
use Rattle.std.specs.Ordering.{nat_cmp, is_lt, is_eq}
use Rattle.std.specs.BTreeMap.{BTreeMap, get, is_at, Updates}
use Rattle.std.proofs.lemmas.Cmp.{nat_list_cmp_total, tied_itself}
use Rattle.std.specs.Cmp.Lexicographic.{slice_cmp}
use Rattle.std.specs.declared.cmp.Ordering.{Ordering}
use Rattle.std.specs.declared.cmp.Ordering.TheVariants.{Less, Equal, Greater}
use Rattle.std.proofs.lemmas.List.{map-append, take_more}
use Rattle.std.proofs.lemmas.List.Elements.{filter-append}
use Rattle.mb_format.specs.Combinators.{same_bytes}
use Rattle.mb_format.proofs.Fields.{same_bytes-refl, same_bytes-true}
use Rattle.mb_fleet.specs.declared.row.Row.{Row}
use Rattle.mb_fleet.specs.declared.row.CodeHashes.{CodeHashes}
use Rattle.mb_fleet.specs.declared.index.CodeIndex.{CodeIndex}
use Rattle.mb_fleet.specs.declared.index.Listing.{Listing}
use Rattle.mb_fleet.specs.declared.index.IndexChange.{IndexChange}
use Rattle.mb_fleet.specs.declared.indexes.CodeIndexes.{CodeIndexes}
use Rattle.mb_fleet.specs.declared.indexes.CodeChange.{CodeChange}
use Rattle.mb_fleet.specs.Order.{IsBefore}
use Rattle.mb_fleet.specs.Rows.{code_at, serial_of_row, AreOrdered}
use Rattle.mb_fleet.specs.Lookups.{IsHeld, IsFree}
use Rattle.mb_fleet.specs.Questions.{is_hash, row_has_code, serials_with}
use Rattle.mb_fleet.specs.Indexes.{serials_at, IsIndexOf, lower, higher, without, among, IsListingOf, IsChangeOf, overlaid, IsChanged, KeepsCodes, ListsSame, HasCodeOf, AreIndexesOf, AreChangesOf, AreChanged}
use Rattle.mb_fleet.proofs.Each.{each_weaker, each_any}
use Rattle.mb_fleet.proofs.Ascending.{before_trans, not_before_itself, equal_keys, middle_below, middle_above}
use Rattle.mb_fleet.proofs.Standing.{about, insert_between, set_between}

-- ---- filters

filter_all : {A : Type 0} (p : A → Bool) (xs : List A) → AllByRecursion (λ x. p x ≡ true) xs → filter p xs ≡ xs
filter_all p [] each = refl
filter_all p (x ∷ xs) each = rw each.0 (ap (λ (ys : List _). x ∷ ys) (filter_all p xs each.1))

filter_none : {A : Type 0} (p : A → Bool) (xs : List A) → AllByRecursion (λ x. p x ≡ false) xs → filter p xs ≡ []
filter_none p [] each = refl
filter_none p (x ∷ xs) each = rw each.0 (filter_none p xs each.1)

-- ---- serials before and after one

not_less : (o : Ordering) → (o ≡ Less → ⊥) → is_lt o ≡ false
not_less Less other = absurd (other refl)
not_less Equal other = refl
not_less Greater other = refl

not_before : (a b : List ℕ) → (IsBefore a b → ⊥) → is_lt (slice_cmp nat_cmp a b) ≡ false
not_before a b other = not_less (slice_cmp nat_cmp a b) other

module _ (serial : List ℕ) where
  lower_join : (a b : List (List ℕ)) → lower serial (a ++ b) ≡ lower serial a ++ lower serial b
  lower_join a b = filter-append (λ other. is_lt (slice_cmp nat_cmp other serial)) a b

  higher_join : (a b : List (List ℕ)) → higher serial (a ++ b) ≡ higher serial a ++ higher serial b
  higher_join a b = filter-append (λ other. is_lt (slice_cmp nat_cmp serial other)) a b

  lower_below : (a : List (List ℕ)) → AllByRecursion (λ x. IsBefore x serial) a → lower serial a ≡ a
  lower_below a below = filter_all (λ other. is_lt (slice_cmp nat_cmp other serial)) a
      (each_weaker (λ x. IsBefore x serial) (λ x. is_lt (slice_cmp nat_cmp x serial) ≡ true) (λ x p. ap is_lt p) a below)

  higher_above : (a : List (List ℕ)) → AllByRecursion (λ x. IsBefore serial x) a → higher serial a ≡ a
  higher_above a above = filter_all (λ other. is_lt (slice_cmp nat_cmp serial other)) a
      (each_weaker (λ x. IsBefore serial x) (λ x. is_lt (slice_cmp nat_cmp serial x) ≡ true) (λ x p. ap is_lt p) a above)

  lower_above : (a : List (List ℕ)) → AllByRecursion (λ x. IsBefore serial x) a → lower serial a ≡ []
  lower_above a above = filter_none (λ other. is_lt (slice_cmp nat_cmp other serial)) a
      (each_weaker (λ x. IsBefore serial x) (λ x. is_lt (slice_cmp nat_cmp x serial) ≡ false)
      (λ x p. not_before x serial (λ q. not_before_itself serial (before_trans serial x serial p q))) a above)

  higher_below : (a : List (List ℕ)) → AllByRecursion (λ x. IsBefore x serial) a → higher serial a ≡ []
  higher_below a below = filter_none (λ other. is_lt (slice_cmp nat_cmp serial other)) a
      (each_weaker (λ x. IsBefore x serial) (λ x. is_lt (slice_cmp nat_cmp serial x) ≡ false)
      (λ x p. not_before serial x (λ q. not_before_itself serial (before_trans serial x serial q p))) a below)

  lower_own : (a : List (List ℕ)) → AllByRecursion (λ x. x ≡ serial) a → lower serial a ≡ []
  lower_own a own = filter_none (λ other. is_lt (slice_cmp nat_cmp other serial)) a
      (each_weaker (λ x. x ≡ serial) (λ x. is_lt (slice_cmp nat_cmp x serial) ≡ false)
      (λ x e. not_before x serial (λ q. not_before_itself serial (subst (λ (y : List ℕ). IsBefore y serial) e q))) a own)

  higher_own : (a : List (List ℕ)) → AllByRecursion (λ x. x ≡ serial) a → higher serial a ≡ []
  higher_own a own = filter_none (λ other. is_lt (slice_cmp nat_cmp serial other)) a
      (each_weaker (λ x. x ≡ serial) (λ x. is_lt (slice_cmp nat_cmp serial x) ≡ false)
      (λ x e. not_before serial x (λ q. not_before_itself serial (subst (λ (y : List ℕ). IsBefore serial y) e q))) a own)

  -- serials of which some come before this one, some are this one, and some come after it
  module _ (before own later : List (List ℕ)) (below : AllByRecursion (λ x. IsBefore x serial) before)
      (same : AllByRecursion (λ x. x ≡ serial) own) (above : AllByRecursion (λ x. IsBefore serial x) later) where
    lower_three : lower serial (before ++ (own ++ later)) ≡ before
    lower_three = lower_join before (own ++ later)
        ∙ ap (λ (ys : List (List ℕ)). lower serial before ++ ys) (lower_join own later ∙ ap (λ (ys : List (List ℕ)). ys ++ lower serial later) (lower_own own same) ∙ lower_above later above)
        ∙ append-nil (lower serial before) ∙ lower_below before below

    higher_three : higher serial (before ++ (own ++ later)) ≡ later
    higher_three = higher_join before (own ++ later)
        ∙ ap (λ (ys : List (List ℕ)). ys ++ higher serial (own ++ later)) (higher_below before below)
        ∙ higher_join own later ∙ ap (λ (ys : List (List ℕ)). ys ++ higher serial later) (higher_own own same) ∙ higher_above later above

-- ---- devices with a code

module _ (layer : ℕ) (hash : List ℕ) where
  with_join : (a b : List Row) → serials_with layer hash (a ++ b) ≡ serials_with layer hash a ++ serials_with layer hash b
  with_join a b = ap (map serial_of_row) (filter-append (row_has_code layer hash) a b)
      ∙ map-append serial_of_row (filter (row_has_code layer hash) a) (filter (row_has_code layer hash) b)

  with_each : (P : List ℕ → Type 0) (rows : List Row) → AllByRecursion (λ r. P r.serial) rows → AllByRecursion P (serials_with layer hash rows)
  with_each P [] each = tt
  with_each P (r ∷ rows) each = one (row_has_code layer hash r) refl (with_each P rows each.1)
    where
      one : (b : Bool) → row_has_code layer hash r ≡ b → AllByRecursion P (serials_with layer hash rows) → AllByRecursion P (serials_with layer hash (r ∷ rows))
      one true is later = rw is (each.0, later)
      one false is later = rw is later

  with_none : (rows : List Row) → AllByRecursion (λ r. row_has_code layer hash r ≡ false) rows → serials_with layer hash rows ≡ []
  with_none rows each = ap (map serial_of_row) (filter_none (row_has_code layer hash) rows each)

  with_one : (row : Row) → serials_with layer hash (row ∷ []) ≡ (if row_has_code layer hash row then row.serial ∷ [] else [])
  with_one row = one (row_has_code layer hash row) refl
    where
      one : (b : Bool) → row_has_code layer hash row ≡ b → serials_with layer hash (row ∷ []) ≡ (if row_has_code layer hash row then row.serial ∷ [] else [])
      one true is = rw is refl
      one false is = rw is refl

-- ---- a row is put among others

-- rows in which a row stands in place of those of its device, of which there may be none
pub record IsPut (rows : List Row) (row : Row) (from : CodeHashes) (after : List Row) : Type 0 where
  pub before : List Row
  pub olds : List Row
  pub later : List Row
  pub split : rows ≡ before ++ (olds ++ later)
  pub whole : after ≡ before ++ row ∷ later
  pub below : AllByRecursion (λ r. IsBefore r.serial row.serial) before
  pub above : AllByRecursion (λ r. IsBefore row.serial r.serial) later
  pub own : AllByRecursion (λ r. r.serial ≡ row.serial) olds
  pub codes : AllByRecursion (λ r. r.code ≡ from) olds

if_then : {A : Type 0} (b : Bool) (x y z : A) → (b ≡ true → x ≡ y) → (if b then x else z) ≡ (if b then y else z)
if_then true x y z is = is refl
if_then false x y z is = refl

module _ (layer : ℕ) (index after : CodeIndex) (change : IndexChange) (rows later_rows : List Row) (row : Row) (from : CodeHashes)
    (put : IsPut rows row from later_rows) (is : IsIndexOf layer rows index)
    (had has : Option (List ℕ)) (to_is : code_at layer row ≡ has) (from_is : (r : Row) → r.code ≡ from → code_at layer r ≡ had) where
  module _ (hash : List ℕ) where
    abbrev front : List (List ℕ)
    front = serials_with layer hash put.before

    abbrev own : List (List ℕ)
    own = serials_with layer hash put.olds

    abbrev back : List (List ℕ)
    back = serials_with layer hash put.later

    listed_now : serials_at index hash ≡ front ++ (own ++ back)
    listed_now = is hash ∙ ap (serials_with layer hash) put.split ∙ with_join layer hash put.before (put.olds ++ put.later)
        ∙ ap (λ (ys : List (List ℕ)). front ++ ys) (with_join layer hash put.olds put.later)

    below : AllByRecursion (λ x. IsBefore x row.serial) front
    below = with_each layer hash (λ x. IsBefore x row.serial) put.before put.below

    above : AllByRecursion (λ x. IsBefore row.serial x) back
    above = with_each layer hash (λ x. IsBefore row.serial x) put.later put.above

    same : AllByRecursion (λ x. x ≡ row.serial) own
    same = with_each layer hash (λ x. x ≡ row.serial) put.olds put.own

    lower_is : lower row.serial (serials_at index hash) ≡ front
    lower_is = ap (lower row.serial) listed_now ∙ lower_three row.serial front own back below same above

    higher_is : higher row.serial (serials_at index hash) ≡ back
    higher_is = ap (higher row.serial) listed_now ∙ higher_three row.serial front own back below same above

    without_is : without row.serial (serials_at index hash) ≡ front ++ back
    without_is = ap (λ (ys : List (List ℕ)). ys ++ higher row.serial (serials_at index hash)) lower_is ∙ ap (λ (ys : List (List ℕ)). front ++ ys) higher_is

    among_is : among row.serial (serials_at index hash) ≡ front ++ row.serial ∷ back
    among_is = ap (λ (ys : List (List ℕ)). ys ++ row.serial ∷ higher row.serial (serials_at index hash)) lower_is
        ∙ ap (λ (ys : List (List ℕ)). front ++ row.serial ∷ ys) higher_is

    -- no device of the old rows has the code
    none_had : is_hash hash had ≡ false → serials_at index hash ≡ front ++ back
    none_had other = listed_now ∙ ap (λ (ys : List (List ℕ)). front ++ (ys ++ back)) (with_none layer hash put.olds
        (each_weaker (λ r. r.code ≡ from) (λ r. row_has_code layer hash r ≡ false) (λ r e. ap (is_hash hash) (from_is r e) ∙ other) put.olds put.codes))

    wanted : serials_with layer hash later_rows ≡ front ++ ((if is_hash hash has then row.serial ∷ [] else []) ++ back)
    wanted = ap (serials_with layer hash) put.whole ∙ with_join layer hash put.before (row ∷ put.later)
        ∙ ap (λ (ys : List (List ℕ)). front ++ ys) (with_join layer hash (row ∷ []) put.later
        ∙ ap (λ (ys : List (List ℕ)). ys ++ back) (with_one layer hash row ∙ ap (λ (o : Option (List ℕ)). if is_hash hash o then row.serial ∷ [] else []) to_is))

    chosen : (b c : Bool) → is_hash hash has ≡ b → is_hash hash had ≡ c
        → (if b then front ++ row.serial ∷ back else if c then front ++ back else serials_at index hash) ≡ front ++ ((if b then row.serial ∷ [] else []) ++ back)
    chosen true c one two = refl
    chosen false true one two = refl
    chosen false false one two = none_had two

    -- what is listed in place of the serials of one code
    overlaid_is : (what : List (List ℕ) → List (List ℕ)) (then_is : List (List ℕ)) (code : Option (List ℕ)) (listing : Option Listing) (others : List (List ℕ))
        → IsListingOf index what code listing → what (serials_at index hash) ≡ then_is → overlaid listing hash others ≡ (if is_hash hash code then then_is else others)
    overlaid_is what then_is None None others prepared is = refl
    overlaid_is what then_is None (Some listing) others prepared is = absurd prepared
    overlaid_is what then_is (Some code) None others prepared is = absurd prepared
    overlaid_is what then_is (Some code) (Some listing) others prepared is =
        ap (λ (h : List ℕ). if same_bytes hash h then listing.serials else others) prepared.0
        ∙ if_then (same_bytes hash code) listing.serials then_is others
        (λ equal. prepared.2 ∙ ap (λ (h : List ℕ). what (serials_at index h)) (sym (same_bytes-true hash code equal)) ∙ is)

    pub listed_then : IsChangeOf index row.serial had has change → IsChanged index change after → serials_at after hash ≡ serials_with layer hash later_rows
    listed_then ready changed =
        changed hash
        ∙ overlaid_is (among row.serial) (front ++ row.serial ∷ back) has change.joined (overlaid change.left hash (serials_at index hash)) ready.joined among_is
        ∙ ap (λ (ys : List (List ℕ)). if is_hash hash has then front ++ row.serial ∷ back else ys)
        (overlaid_is (without row.serial) (front ++ back) had change.left (serials_at index hash) ready.left without_is)
        ∙ chosen (is_hash hash has) (is_hash hash had) refl refl ∙ sym wanted

-- the indexes of rows in which a row was put, after the change that was prepared
pub indexes_then : (indexes after : CodeIndexes) (change : CodeChange) (rows later_rows : List Row) (row : Row) (from : CodeHashes) → IsPut rows row from later_rows
    → AreIndexesOf rows indexes → AreChangesOf indexes row.serial from row.code change → AreChanged indexes change after → AreIndexesOf later_rows after
indexes_then indexes after change rows later_rows row from put are ready changed = record {
  one = λ hash. listed_then 1 indexes.one after.one change.one rows later_rows row from put are.one from.one row.code.one refl (λ r e. ap (λ (code : CodeHashes). code.one) e) hash ready.one changed.one;
  two = λ hash. listed_then 2 indexes.two after.two change.two rows later_rows row from put are.two from.two row.code.two refl (λ r e. ap (λ (code : CodeHashes). code.two) e) hash ready.two changed.two;
  three = λ hash. listed_then 3 indexes.three after.three change.three rows later_rows row from put are.three from.three row.code.three refl (λ r e. ap (λ (code : CodeHashes). code.three) e) hash ready.three changed.three;
}

-- ---- row after row

-- the next row comes after all before it, and none of them is of its device
pub put_last : (rows : List Row) (i : ℕ) (d : Row) (from : CodeHashes) → i < length rows → AreOrdered rows → IsPut (take i rows) (get_or rows i d) from (take (i + 1) rows)
put_last rows i d from lt ordered = record {
  before = take i rows;
  olds = [];
  later = [];
  split = sym (append-nil (take i rows));
  whole = take_more rows i d lt;
  below = middle_below serial_of_row (take i rows) (get_or rows i d) (drop (i + 1) rows) (subst AreOrdered (about rows i d lt) ordered);
  above = tt;
  own = tt;
  codes = tt;
}

-- a new device
pub put_new : (rows : List Row) (row : Row) (at : ℕ) (from : CodeHashes) (after : List Row) (free : IsFree serial_of_row rows row.serial at) → after ≡ insert rows at row → IsPut rows row from after
put_new rows row at from after free inserted = record {
  before = free.before;
  olds = [];
  later = free.later;
  split = free.split;
  whole = inserted ∙ insert_between rows free.before free.later at row free.split free.index_is;
  below = free.below;
  above = free.above;
  own = tt;
  codes = tt;
}

-- a row in place of the one of its device
pub put_instead : (rows : List Row) (row : Row) (at : ℕ) (from : CodeHashes) (after : List Row) (held : IsHeld serial_of_row rows row.serial at) → AreOrdered rows → held.item.code ≡ from
    → after ≡ slice_set rows at row → IsPut rows row from after
put_instead rows row at from after held ordered code replaced =
    let is = subst AreOrdered held.split ordered in
    record {
      before = held.before;
      olds = held.item ∷ [];
      later = held.later;
      split = held.split;
      whole = replaced ∙ set_between rows held.before held.item held.later at row held.split held.index_is;
      below = subst (λ (s : List ℕ). AllByRecursion (λ r. IsBefore r.serial s) held.before) held.key_is (middle_below serial_of_row held.before held.item held.later is);
      above = subst (λ (s : List ℕ). AllByRecursion (λ r. IsBefore s r.serial) held.later) held.key_is (middle_above serial_of_row held.before held.item held.later is);
      own = (held.key_is, tt);
      codes = (code, tt);
    }

-- ---- no other layer has code

off : (x y : ℕ) → (x ≡ y → ⊥) → (x == y) ≡ false
off x y other = grind (arith, other)

no_code : (layer : ℕ) (row : Row) → (layer ≡ 1 → ⊥) → (layer ≡ 2 → ⊥) → (layer ≡ 3 → ⊥) → code_at layer row ≡ None
no_code layer row one two three = rw (off layer 1 one, off layer 2 two, off layer 3 three) refl

lacks_code : (layer : ℕ) (hash : List ℕ) (rows : List Row) → (layer ≡ 1 → ⊥) → (layer ≡ 2 → ⊥) → (layer ≡ 3 → ⊥) → AllByRecursion (λ r. row_has_code layer hash r ≡ false) rows
lacks_code layer hash rows one two three = each_any (λ r. row_has_code layer hash r ≡ false) (λ r. ap (is_hash hash) (no_code layer r one two three)) rows

pub none_found : (layer : ℕ) (hash : List ℕ) (rows : List Row) → (layer ≡ 1 → ⊥) → (layer ≡ 2 → ⊥) → (layer ≡ 3 → ⊥) → serials_with layer hash rows ≡ []
none_found layer hash rows one two three = with_none layer hash rows (lacks_code layer hash rows one two three)

-- ---- an index that knows one code more

pub turned_off : (b : Bool) → (b ≡ true → ⊥) → b ≡ false
turned_off true other = absurd (other refl)
turned_off false other = refl

missing : {X : Type 0} (o : Option X) → is_some o ≡ false → o ≡ None
missing None is = refl
missing (Some x) is = absurd (true≢false is)

same_key : (o : Ordering) → is_eq o ≡ true → o ≡ Equal
same_key Less is = absurd (true≢false (sym is))
same_key Equal is = refl
same_key Greater is = absurd (true≢false (sym is))

module _ (old new : BTreeMap (List ℕ) (List (List ℕ))) (key : List ℕ) (put : List (List ℕ)) (updates : Updates (slice_cmp nat_cmp) old new key (Some put)) where
  pub room_same : is_some (get (slice_cmp nat_cmp) old key) ≡ false → put ≡ [] → (hash : List ℕ) → unwrap_or (get (slice_cmp nat_cmp) new hash) [] ≡ unwrap_or (get (slice_cmp nat_cmp) old hash) []
  room_same none empty hash = at_key (is_at (slice_cmp nat_cmp key) hash) refl
    where
      at_key : (b : Bool) → is_at (slice_cmp nat_cmp key) hash ≡ b → unwrap_or (get (slice_cmp nat_cmp) new hash) [] ≡ unwrap_or (get (slice_cmp nat_cmp) old hash) []
      at_key true is =
          ap (λ (o : Option (List (List ℕ))). unwrap_or o []) (updates.0 hash ∙ ap (λ (b : Bool). cond b (Some put) (get (slice_cmp nat_cmp) old hash)) is) ∙ empty
          ∙ ap (λ (o : Option (List (List ℕ))). unwrap_or o []) (sym (missing (get (slice_cmp nat_cmp) old hash)
          (ap (λ (k : List ℕ). is_some (get (slice_cmp nat_cmp) old k)) (sym (equal_keys key hash (same_key (slice_cmp nat_cmp key hash) is))) ∙ none)))
      at_key false is = ap (λ (o : Option (List (List ℕ))). unwrap_or o []) (updates.0 hash ∙ ap (λ (b : Bool). cond b (Some put) (get (slice_cmp nat_cmp) old hash)) is)

  pub room_knows : (hash : List ℕ) → is_some (get (slice_cmp nat_cmp) old hash) ≡ true → is_some (get (slice_cmp nat_cmp) new hash) ≡ true
  room_knows hash known = ap is_some (updates.0 hash) ∙ either (is_at (slice_cmp nat_cmp key) hash)
    where
      either : (b : Bool) → is_some (cond b (Some put) (get (slice_cmp nat_cmp) old hash)) ≡ true
      either true = refl
      either false = known

  -- what is put for a key that is there
  pub put_lists : (hash : List ℕ) → unwrap_or (get (slice_cmp nat_cmp) new hash) [] ≡ (if same_bytes hash key then put else unwrap_or (get (slice_cmp nat_cmp) old hash) [])
  put_lists hash = ap (λ (o : Option (List (List ℕ))). unwrap_or o []) (updates.0 hash) ∙ at_key (same_bytes hash key) refl
    where
      at_key : (b : Bool) → same_bytes hash key ≡ b
          → unwrap_or (cond (is_at (slice_cmp nat_cmp key) hash) (Some put) (get (slice_cmp nat_cmp) old hash)) [] ≡ (if same_bytes hash key then put else unwrap_or (get (slice_cmp nat_cmp) old hash) [])
      at_key true is =
          let at : is_at (slice_cmp nat_cmp key) hash ≡ true = ap (λ (k : List ℕ). is_eq (slice_cmp nat_cmp key k)) (same_bytes-true hash key is) ∙ ap is_eq (tied_itself nat_list_cmp_total key) in
          rw (is, at) refl
      at_key false is =
          let at : is_at (slice_cmp nat_cmp key) hash ≡ false = turned_off (is_at (slice_cmp nat_cmp key) hash)
          (λ e. true≢false (sym (ap (λ (k : List ℕ). same_bytes k key) (sym (equal_keys key hash (same_key (slice_cmp nat_cmp key hash) e))) ∙ same_bytes-refl key) ∙ is)) in
          rw (is, at) refl

-- what was ready is ready where the index lists the same, and knows more
pub still_ready : (old new : CodeIndex) (what : List (List ℕ) → List (List ℕ)) (code : Option (List ℕ)) (listing : Option Listing) → ListsSame old new → KeepsCodes old new
    → IsListingOf old what code listing → IsListingOf new what code listing
still_ready old new what None None same known prepared = tt
still_ready old new what None (Some listing) same known prepared = absurd prepared
still_ready old new what (Some code) None same known prepared = absurd prepared
still_ready old new what (Some code) (Some listing) same known prepared = (prepared.0, known code prepared.1, prepared.2 ∙ ap what (sym (same code)))

pub same_index : (layer : ℕ) (rows : List Row) (old new : CodeIndex) → ListsSame old new → IsIndexOf layer rows old → IsIndexOf layer rows new
same_index layer rows old new same is hash = same hash ∙ is hash

pub if_ok_weaker : {A E : Type 0} {P Q : A → Type 0} (r : Result A E) → ((a : A) → P a → Q a) → IfOk r P → IfOk r Q
if_ok_weaker (Ok a) weaker holds = weaker a holds
if_ok_weaker (Err e) weaker holds = tt

pub knows_listing : (old new : CodeIndex) (listing : Option Listing) → KeepsCodes old new → HasCodeOf old listing → HasCodeOf new listing
knows_listing old new None known knows = tt
knows_listing old new (Some listing) known knows = known listing.hash knows
