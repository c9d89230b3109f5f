-- A chain that is shown has one answer, and leaves one list of rows.
use Rattle.std.proofs.Common.{◌≡◌, ◌≢◌, ◌<◌, ◌≤◌, ◌⊎◌, inl, inr, ℕ, zero, suc, Bool, true, false, List, [], ◌∷◌, ◌++◌, length, take, Option, Some, None, refl, sym, ap, subst, ◌∙◌, arith}
use Rattle.std.specs.Prelude.{slice_get, if◌then◌else◌}
use Rattle.std.specs.List.{AllByRecursion}
use Rattle.std.proofs.lemmas.Option.{same_Some}
use Rattle.mb_format.specs.Format.{IsBytes, Spells, IsClearWhole}
use Rattle.mb_format.specs.Combinators.{same_bytes}
use Rattle.mb_format.proofs.Fields.{same_bytes-refl, same_bytes-true}
use Rattle.mb_format.proofs.Whole.{IsClearWhole-from_exact}
use Rattle.mb_model.specs.declared.key.PublicKey.{PublicKey}
use Rattle.mb_model.specs.declared.entry.Entry.{Entry}
use Rattle.mb_model.specs.declared.entry.Chain.{Chain}
use Rattle.mb_model.specs.owners.Log.{entries_of}
use Rattle.mb_model.specs.records.ChainFormat.{chain_format}
use Rattle.mb_model.specs.chains.Acceptance.{ChainRefusal, bad_form, bad_signature, bad_order, breaks_rules, key_unknown, bad_statement, wrong_number, key_ended, AreGood, IsRefused}
use Rattle.mb_model.proofs.EntryFormatLaws.{chain_exact}
use Rattle.mb_model_lemmas.proofs.ChainLemmas.{one_refusal}
use Rattle.mb_model_lemmas.proofs.LineLemmas.{cons_same}
use Rattle.mb_verifier.specs.Entries.{IsOfEntries}
use Rattle.mb_fleet.specs.declared.row.CodeHashes.{CodeHashes}
use Rattle.mb_fleet.specs.declared.row.Row.{Row}
use Rattle.mb_fleet.specs.declared.comparison.Comparison.{Comparison}
use Rattle.mb_fleet.specs.declared.comparison.Comparison.TheVariants as found
use Rattle.mb_fleet.specs.Order.{IsBefore}
use Rattle.mb_fleet.specs.Rows.{AreOrdered, IsRowOf, serial_of_row}
use Rattle.mb_fleet.specs.Showing.{Answer, newly_added, same, extended, chain_refused, older, forked, full, IsNewDevice, StandsBetween, HasOld, Meets, is_added, is_full, is_same, is_extended, is_older, is_forked, IsShown, is_chain_refused, is_shown}
use Rattle.mb_fleet.specs.Lookups.{Compares}
use Rattle.mb_fleet.specs.Laws.{RowsHaveOneAnswer, ChainsHaveOneAnswer}
use Rattle.mb_fleet.proofs.Each.{each_weaker, each_middle}
use Rattle.mb_fleet.proofs.Ascending.{before_trans, not_before_itself, middle_below, middle_above}

-- ---- one comparison

abbrev first_item : List (List ℕ) → Option (List ℕ)
first_item [] = None
first_item (x ∷ xs) = Some x

abbrev later_items : List (List ℕ) → List (List ℕ)
later_items [] = []
later_items (x ∷ xs) = xs

abbrev shifted : Comparison → Comparison
shifted found.Same = found.Same
shifted found.Longer = found.Longer
shifted found.Shorter = found.Shorter
shifted (found.Differs place) = found.Differs (suc place)

abbrev compare_of : List (List ℕ) → List (List ℕ) → Comparison
compare_of [] [] = found.Same
compare_of [] (y ∷ ys) = found.Longer
compare_of (x ∷ xs) [] = found.Shorter
compare_of (x ∷ xs) (y ∷ ys) = if same_bytes x y then shifted (compare_of xs ys) else found.Differs 0

with_itself : (xs : List (List ℕ)) → compare_of xs xs ≡ found.Same
with_itself [] = refl
with_itself (x ∷ xs) = rw (same_bytes-refl x, with_itself xs) refl

with_longer : (xs more : List (List ℕ)) → more ≢ [] → compare_of xs (xs ++ more) ≡ found.Longer
with_longer [] [] some = absurd (some refl)
with_longer [] (m ∷ more) some = refl
with_longer (x ∷ xs) more some = rw (same_bytes-refl x, with_longer xs more some) refl

with_shorter : (xs more : List (List ℕ)) → more ≢ [] → compare_of (xs ++ more) xs ≡ found.Shorter
with_shorter [] [] some = absurd (some refl)
with_shorter [] (m ∷ more) some = refl
with_shorter (x ∷ xs) more some = rw (same_bytes-refl x, with_shorter xs more some) refl

with_other : (place : ℕ) (xs ys : List (List ℕ)) → take place xs ≡ take place ys → place < length xs → place < length ys → slice_get xs place ≢ slice_get ys place
    → compare_of xs ys ≡ found.Differs place
with_other place [] ys equal in_x in_y differ = absurd (omega (arith, in_x))
with_other place (x ∷ xs) [] equal in_x in_y differ = absurd (omega (arith, in_y))
with_other zero (x ∷ xs) (y ∷ ys) equal in_x in_y differ = here (same_bytes x y) refl
  where
    here : (b : Bool) → same_bytes x y ≡ b → (if same_bytes x y then shifted (compare_of xs ys) else found.Differs 0) ≡ found.Differs 0
    here true is = absurd (differ (ap (λ (z : List ℕ). Some z) (same_bytes-true x y is)))
    here false is = rw is refl
with_other (suc n) (x ∷ xs) (y ∷ ys) equal in_x in_y differ =
    let one : x ≡ y = same_Some x y (ap first_item equal) in
    let same_here : same_bytes x y ≡ true = ap (same_bytes x) (sym one) ∙ same_bytes-refl x in
    rw (same_here, with_other n xs ys (ap later_items equal) (omega (arith, in_x)) (omega (arith, in_y)) differ) refl

compared : (old new : List (List ℕ)) (c : Comparison) → Compares old new c → compare_of old new ≡ c
compared old new found.Same is = ap (compare_of old) is ∙ with_itself old
compared old new found.Longer is = ap (compare_of old) is.whole ∙ with_longer old is.more is.some
compared old new found.Shorter is = ap (λ (o : List (List ℕ)). compare_of o new) is.whole ∙ with_shorter new is.more is.some
compared old new (found.Differs place) is = with_other place old new is.equal is.in_a is.in_b is.differ

-- ---- one split

-- a list is cut in one way only between items that meet a condition and items that do not
one_split : {A : Type 0} (P : A → Type 0) (xs ys cs ds : List A) → xs ++ cs ≡ ys ++ ds → AllByRecursion P xs → AllByRecursion P ys
    → AllByRecursion (λ x. P x → ⊥) cs → AllByRecursion (λ x. P x → ⊥) ds → (xs ≡ ys) × (cs ≡ ds)
one_split P [] [] cs ds e front also back too = (refl, e)
one_split P [] (y ∷ ys) cs ds e front also back too = absurd ((subst (AllByRecursion (λ x. P x → ⊥)) e back).0 also.0)
one_split P (x ∷ xs) [] cs ds e front also back too = absurd ((subst (AllByRecursion (λ x. P x → ⊥)) (sym e) too).0 front.0)
one_split P (x ∷ xs) (y ∷ ys) cs ds e front also back too =
    let one = cons_same x y (xs ++ cs) (ys ++ ds) e in
    let rest = one_split P xs ys cs ds one.1 front.1 also.1 back too in
    (ap (λ z. z ∷ xs) one.0 ∙ ap (λ zs. y ∷ zs) rest.0, rest.1)

-- ---- a row that meets rows

abbrev answer_for : Row → Row → Comparison → Answer
answer_for old row found.Same = same row.serial (length row.hashes)
answer_for old row found.Longer = extended row.serial (length row.hashes)
answer_for old row found.Shorter = older row.serial (length old.hashes)
answer_for old row (found.Differs place) = forked row.serial place

abbrev rows_for : List Row → List Row → Row → List Row → Comparison → List Row
rows_for rows before row later found.Same = rows
rows_for rows before row later found.Longer = before ++ row ∷ later
rows_for rows before row later found.Shorter = rows
rows_for rows before row later (found.Differs place) = rows

record Newly (rows : List Row) (row : Row) (answer : Answer) (after : List Row) : Type 0 where
  few : length rows < 512
  before : List Row
  later : List Row
  split : rows ≡ before ++ later
  stands : StandsBetween before later row
  after_is : after ≡ before ++ row ∷ later
  answer_is : answer ≡ newly_added row.serial (length row.hashes)

record Fully (rows : List Row) (answer : Answer) (after : List Row) : Type 0 where
  many : 512 ≤ length rows
  after_is : after ≡ rows
  answer_is : answer ≡ full

record Again (rows : List Row) (row : Row) (answer : Answer) (after : List Row) : Type 0 where
  before : List Row
  old : Row
  later : List Row
  has : HasOld rows row before old later
  what : Comparison
  compares : Compares old.hashes row.hashes what
  after_is : after ≡ rows_for rows before row later what
  answer_is : answer ≡ answer_for old row what

abbrev View : List Row → Row → Answer → List Row → Type 0
View rows row answer after = (IsNewDevice rows row × (Newly rows row answer after ⊎ Fully rows answer after)) ⊎ Again rows row answer after

view : (rows : List Row) (row : Row) (answer : Answer) (after : List Row) → Meets rows row answer after → View rows row answer after
view rows row answer after (is_added none few before later split stands after_is answer_is) =
    inl (none, inl (record { few = few; before = before; later = later; split = split; stands = stands; after_is = after_is; answer_is = answer_is }))
view rows row answer after (is_full none many after_is answer_is) = inl (none, inr (record { many = many; after_is = after_is; answer_is = answer_is }))
view rows row answer after (is_same before old later has equal after_is answer_is) =
    inr (record { before = before; old = old; later = later; has = has; what = found.Same; compares = equal; after_is = after_is; answer_is = answer_is })
view rows row answer after (is_extended before old later has shorter after_is answer_is) =
    inr (record { before = before; old = old; later = later; has = has; what = found.Longer; compares = shorter; after_is = after_is; answer_is = answer_is })
view rows row answer after (is_older before old later has longer after_is answer_is) =
    inr (record { before = before; old = old; later = later; has = has; what = found.Shorter; compares = longer; after_is = after_is; answer_is = answer_is })
view rows row answer after (is_forked before old later has place differ after_is answer_is) =
    inr (record { before = before; old = old; later = later; has = has; what = found.Differs place; compares = differ; after_is = after_is; answer_is = answer_is })

new_or_old : (rows before later : List Row) (row old : Row) → IsNewDevice rows row → HasOld rows row before old later → ⊥
new_or_old rows before later row old none has =
    each_middle (λ r. r.serial ≢ row.serial) before old later (subst (AllByRecursion (λ r. r.serial ≢ row.serial)) has.split none) has.serial

-- rows before a serial, and rows that are not
abbrev Below : Row → Row → Type 0
Below row other = IsBefore other.serial row.serial

not_below : (row : Row) (later : List Row) → AllByRecursion (λ r. IsBefore row.serial r.serial) later → AllByRecursion (λ r. Below row r → ⊥) later
not_below row later above = each_weaker (λ r. IsBefore row.serial r.serial) (λ r. Below row r → ⊥)
    (λ r p q. not_before_itself row.serial (before_trans row.serial r.serial row.serial p q)) later above

module _ (rows : List Row) (row : Row) (ordered : AreOrdered rows) where
  -- the old row and those after it are not before the serial
  old_back : (before later : List Row) (old : Row) → HasOld rows row before old later → AllByRecursion (λ r. Below row r → ⊥) (old ∷ later)
  old_back before later old has = (
    (λ below. not_before_itself row.serial (subst (λ (s : List ℕ). IsBefore s row.serial) has.serial below)),
    not_below row later (subst (λ (s : List ℕ). AllByRecursion (λ r. IsBefore s r.serial) later) has.serial
        (middle_above serial_of_row before old later (subst AreOrdered has.split ordered))),
  )

  old_front : (before later : List Row) (old : Row) → HasOld rows row before old later → AllByRecursion (Below row) before
  old_front before later old has = subst (λ (s : List ℕ). AllByRecursion (λ r. IsBefore r.serial s) before) has.serial
      (middle_below serial_of_row before old later (subst AreOrdered has.split ordered))

  one_old : (b c m n : List Row) (o p : Row) → HasOld rows row b o m → HasOld rows row c p n → (b ≡ c) × (o ≡ p) × (m ≡ n)
  one_old b c m n o p x y =
      let one = one_split (Below row) b c (o ∷ m) (p ∷ n) (sym x.split ∙ y.split) (old_front b m o x) (old_front c n p y) (old_back b m o x) (old_back c n p y) in
      let rest = cons_same o p m n one.1 in
      (one.0, rest.0, rest.1)

  both_new : (a b : Answer) (after later : List Row) → Newly rows row a after → Newly rows row b later → (a ≡ b) × (after ≡ later)
  both_new a b after later x y =
      let one = one_split (Below row) x.before y.before x.later y.later (sym x.split ∙ y.split) x.stands.below y.stands.below
      (not_below row x.later x.stands.above) (not_below row y.later y.stands.above) in (
        x.answer_is ∙ sym y.answer_is,
        x.after_is ∙ ap (λ (rs : List Row). rs ++ row ∷ x.later) one.0 ∙ ap (λ (rs : List Row). y.before ++ row ∷ rs) one.1 ∙ sym y.after_is,
      )

  both_old : (a b : Answer) (after later : List Row) → Again rows row a after → Again rows row b later → (a ≡ b) × (after ≡ later)
  both_old a b after later x y =
      let one = one_old x.before y.before x.later y.later x.old y.old x.has y.has in
      let what : x.what ≡ y.what = sym (compared x.old.hashes row.hashes x.what x.compares) ∙ ap (λ (r : Row). compare_of r.hashes row.hashes) one.1
      ∙ compared y.old.hashes row.hashes y.what y.compares in (
        x.answer_is ∙ ap (λ (r : Row). answer_for r row x.what) one.1 ∙ ap (answer_for y.old row) what ∙ sym y.answer_is,
        x.after_is ∙ ap (λ (rs : List Row). rows_for rows rs row x.later x.what) one.0 ∙ ap (λ (rs : List Row). rows_for rows y.before row rs x.what) one.2
            ∙ ap (rows_for rows y.before row y.later) what ∙ sym y.after_is,
      )

  views_agree : (a b : Answer) (after later : List Row) → View rows row a after → View rows row b later → (a ≡ b) × (after ≡ later)
  views_agree a b after later (inl (none, inl x)) (inl (also, inl y)) = both_new a b after later x y
  views_agree a b after later (inl (none, inl x)) (inl (also, inr y)) = absurd (omega (arith, x.few, y.many))
  views_agree a b after later (inl (none, inr x)) (inl (also, inl y)) = absurd (omega (arith, x.many, y.few))
  views_agree a b after later (inl (none, inr x)) (inl (also, inr y)) = (x.answer_is ∙ sym y.answer_is, x.after_is ∙ sym y.after_is)
  views_agree a b after later (inl (none, x)) (inr y) = absurd (new_or_old rows y.before y.later row y.old none y.has)
  views_agree a b after later (inr x) (inl (none, y)) = absurd (new_or_old rows x.before x.later row x.old none x.has)
  views_agree a b after later (inr x) (inr y) = both_old a b after later x y

pub rows_have_one_answer : RowsHaveOneAnswer
rows_have_one_answer rows row a b after later ordered x y = views_agree rows row ordered a b after later (view rows row a after x) (view rows row b later y)

-- ---- a chain

chain_clear : IsClearWhole chain_format
chain_clear = IsClearWhole-from_exact chain_exact

-- a chain whose entries are good is not refused for one of them
pub good_or_refused : (maker : PublicKey) (bytes : List ℕ) (chain : Chain) (why : ChainRefusal) → IsBytes bytes → Spells chain_format bytes chain → AreGood maker chain.entries
    → IsOfEntries why → IsRefused maker bytes 0 why → ⊥
good_or_refused maker bytes chain (bad_form offset) are spelled good of refused = chain_clear.never_both bytes chain offset are spelled refused
good_or_refused maker bytes chain (bad_signature i) are spelled good of (other, whole, before, signed, next, lacks) =
    let one = chain_clear.one_value bytes chain other are spelled whole in
    lacks (good before signed next.rest (ap (λ (c : Chain). c.entries) one ∙ next.split)).certified
good_or_refused maker bytes chain (bad_order i) are spelled good of (other, whole, before, signed, next, certified, lacks) =
    let one = chain_clear.one_value bytes chain other are spelled whole in
    lacks (good before signed next.rest (ap (λ (c : Chain). c.entries) one ∙ next.split)).in_place
good_or_refused maker bytes chain (breaks_rules i) are spelled good of (other, whole, before, signed, next, certified, in_place, lacks) =
    let one = chain_clear.one_value bytes chain other are spelled whole in
    lacks (good before signed next.rest (ap (λ (c : Chain). c.entries) one ∙ next.split)).ruled
good_or_refused maker bytes chain key_unknown are spelled good of refused = of
good_or_refused maker bytes chain bad_statement are spelled good of refused = of
good_or_refused maker bytes chain (wrong_number named last) are spelled good of refused = of
good_or_refused maker bytes chain key_ended are spelled good of refused = of

row_same : (a b : Row) → a.serial ≡ b.serial → a.number ≡ b.number → a.code ≡ b.code → a.hashes ≡ b.hashes → a ≡ b
row_same a b serial number code hashes =
    ap (λ (s : List ℕ). record { serial = s; number = a.number; code = a.code; hashes = a.hashes }) serial
    ∙ ap (λ (n : ℕ). record { serial = b.serial; number = n; code = a.code; hashes = a.hashes }) number
    ∙ ap (λ (c : CodeHashes). record { serial = b.serial; number = b.number; code = c; hashes = a.hashes }) code
    ∙ ap (λ (h : List (List ℕ)). record { serial = b.serial; number = b.number; code = b.code; hashes = h }) hashes

one_row : (log : List Entry) (a b : Row) → IsRowOf log a → IsRowOf log b → a ≡ b
one_row log a b x y = row_same a b (same_Some a.serial b.serial (sym x.serial ∙ y.serial)) (x.number ∙ sym y.number) (x.code ∙ sym y.code) (x.hashes ∙ sym y.hashes)

pub shown_once : (maker : PublicKey) (bytes : List ℕ) (a b : Row) → IsBytes bytes → IsShown maker bytes a → IsShown maker bytes b → a ≡ b
shown_once maker bytes a b are x y =
    let one = chain_clear.one_value bytes x.chain y.chain are x.spelled y.spelled in
    one_row (entries_of y.chain.entries) a b (subst (λ (c : Chain). IsRowOf (entries_of c.entries) a) one x.row_is) y.row_is

pub chains_have_one_answer : ChainsHaveOneAnswer
chains_have_one_answer maker rows bytes a b after later are ordered (is_chain_refused why x after_is answer_is) (is_chain_refused other y later_is too) =
    (answer_is ∙ ap chain_refused (one_refusal maker bytes 0 why other are (x.refused 0) (y.refused 0)) ∙ sym too, after_is ∙ sym later_is)
chains_have_one_answer maker rows bytes a b after later are ordered (is_chain_refused why x after_is answer_is) (is_shown row y meets) =
    absurd (good_or_refused maker bytes y.chain why are y.spelled y.good x.of_entries (x.refused 0))
chains_have_one_answer maker rows bytes a b after later are ordered (is_shown row x meets) (is_chain_refused why y later_is too) =
    absurd (good_or_refused maker bytes x.chain why are x.spelled x.good y.of_entries (y.refused 0))
chains_have_one_answer maker rows bytes a b after later are ordered (is_shown row x meets) (is_shown other y also) =
    rows_have_one_answer rows other a b after later ordered (subst (λ (r : Row). Meets rows r a after) (shown_once maker bytes row other are x y) meets) also
