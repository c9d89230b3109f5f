-- Registers that are shown many chains.
use Rattle.std.proofs.Common.{◌≡◌, ◌≢◌, ◌<◌, ℕ, List, [], ◌∷◌, ◌++◌, length, inl, inr, Some, refl, sym, ap, ◌∙◌, subst, arith, append_assoc, append-nil}
use Rattle.std.specs.Prelude.{◌⊎◌, zero, suc, All, Contains, map, slice_get}
use Rattle.std.proofs.lemmas.List.{map-append}
use Rattle.std.proofs.lemmas.List.Elements.{All-head, All-tail, All-contains, Contains-append_left, Contains-append_right, Contains-append_cases}
use Rattle.mb_model.specs.declared.entry.Entry.{Entry}
use Rattle.mb_model.specs.declared.entry.SignedEntry.{SignedEntry}
use Rattle.mb_model.specs.declared.key.PublicKey.{PublicKey}
use Rattle.mb_model.specs.records.EntryFormat.{entry_format, entry_hash}
use Rattle.mb_model.specs.owners.Log.{entries_of, serial_of}
use Rattle.mb_model.specs.memories.Valid.{EachFollows}
use Rattle.mb_model_lemmas.proofs.ChainLemmas.{honest_is_front}
use Rattle.mb_model_histories.specs.KeyLaws.{Collide}
use Rattle.mb_model_histories.proofs.KeyLemmas.{same_or_collide}
use Rattle.mb_fleet.specs.declared.item.Item.{Item}
use Rattle.mb_fleet.specs.declared.item.Item.TheVariants.{Show, Find, Codes}
use Rattle.mb_fleet.specs.declared.row.Row.{Row}
use Rattle.mb_fleet.specs.Order.{IsBefore}
use Rattle.mb_fleet.specs.Serving.{FleetStep, FleetRun}
use Rattle.mb_fleet.specs.Showing.{Answer, forked, IsNewDevice, DifferAt, Meets, is_added, is_full, is_same, is_extended, is_older, is_forked, IsShown, IsChainAnswered, is_chain_refused, is_shown}
use Rattle.mb_fleet.proofs.Ascending.{before_differs}
use Rattle.mb_fleet.proofs.Each.{all_of_each}
use Rattle.mb_fleet_histories.specs.RegisterLaws.{IsHashPrefix, AgreeSoFar, GoesOnFrom, RowsOnlyGrow, RegistersStayOrdered, DoubledRowsStay, GoodChainsMeet, IsTaken, ForksAreCaught, TwoRowsHideAFork, spelled_entries, SpellingsCollide, HashesTellOfEntries, PartedLogsAreCaught, IsTrueTo, IsHonestChain, IsHonestItem, HonestDevicesAreNotAccused, ForgedRowsAccuse, AccusedRowsDiffer}
use Rattle.mb_fleet.specs.Rows.{AreOrdered}
use Rattle.mb_fleet.proofs.Determined.{good_or_refused, shown_once}
use Rattle.mb_fleet.proofs.Ordered.{step_ordered, meets_ordered}

-- ---- lists

-- an item of a list is its first or one of the others
first_or_other : {X : Type 0} (x y : X) (xs : List X) → Contains (x ∷ xs) y → (x ≡ y) ⊎ Contains xs y
first_or_other x y xs (zero, inside, is) = inl is
first_or_other x y xs (suc k, inside, is) = inr (k, omega (arith, inside), is)

in_front : {X : Type 0} (x : X) (xs : List X) → Contains (x ∷ xs) x
in_front x xs = (0, omega arith, refl)

behind : {X : Type 0} (x y : X) (xs : List X) → Contains xs y → Contains (x ∷ xs) y
behind x y xs at = (suc at.0, omega (arith, at.1), at.2)

in_middle : {X : Type 0} (before later : List X) (x : X) → Contains (before ++ x ∷ later) x
in_middle before later x = Contains-append_right before (x ∷ later) x (in_front x later)

start_on : (a b c : List (List ℕ)) → IsHashPrefix a b → IsHashPrefix b c → IsHashPrefix a c
start_on a b c first second =
    (first.0 ++ second.0, second.1 ∙ ap (λ (l : List (List ℕ)). l ++ second.0) first.1 ∙ append_assoc a first.0 second.0)

start_same : (a b : List (List ℕ)) → b ≡ a → IsHashPrefix a b
start_same a b equal = ([], equal ∙ sym (append-nil a))

-- two prefixes of one list
starts_agree : (a b x y : List (List ℕ)) → a ++ x ≡ b ++ y → AgreeSoFar a b
starts_agree [] b x y equal = inl (b, refl)
starts_agree (p ∷ a) [] x y equal = inr (p ∷ a, refl)
starts_agree (p ∷ a) (q ∷ b) x y equal =
    elim (starts_agree a b x y (rest_same p q (a ++ x) (b ++ y) equal)) [
      | inl front ↦ inl (front.0, ap (λ (l : List (List ℕ)). q ∷ l) front.1 ∙ ap (λ (h : List ℕ). h ∷ a ++ front.0) (sym (head_same p q (a ++ x) (b ++ y) equal)))
      | inr front ↦ inr (front.0, ap (λ (l : List (List ℕ)). p ∷ l) front.1 ∙ ap (λ (h : List ℕ). h ∷ b ++ front.0) (head_same p q (a ++ x) (b ++ y) equal))
    ]
  where
    rest_same : (p q : List ℕ) (xs ys : List (List ℕ)) → p ∷ xs ≡ q ∷ ys → xs ≡ ys
    rest_same p q xs ys e = cc

    head_same : (p q : List ℕ) (xs ys : List (List ℕ)) → p ∷ xs ≡ q ∷ ys → p ≡ q
    head_same p q xs ys e = cc

both_starts : (a b c : List (List ℕ)) → IsHashPrefix a c → IsHashPrefix b c → AgreeSoFar a b
both_starts a b c first second = starts_agree a b first.0 second.0 (sym first.1 ∙ second.1)

-- ---- rows only grow

goes_same : (row : Row) → GoesOnFrom row row
goes_same row = (refl, start_same row.hashes row.hashes refl)

goes_on : (a b c : Row) → GoesOnFrom a b → GoesOnFrom b c → GoesOnFrom a c
goes_on a b c first second = (second.0 ∙ first.0, start_on a.hashes b.hashes c.hashes first.1 second.1)

-- where the rows are as before
abbrev Grows : List Row → List Row → Type 0
Grows rows after = (row : Row) → Contains rows row → (now : Row) × Contains after now × GoesOnFrom row now

grows_same : (rows after : List Row) → after ≡ rows → Grows rows after
grows_same rows after same_rows row within = (row, subst (λ (l : List Row). Contains l row) (sym same_rows) within, goes_same row)

grows_between : (before later : List Row) (new : Row) → Grows (before ++ later) (before ++ new ∷ later)
grows_between before later new row within = elim (Contains-append_cases before later row within) [
  | inl front ↦ (row, Contains-append_left before (new ∷ later) row front, goes_same row)
  | inr back ↦ (row, Contains-append_right before (new ∷ later) row (behind new row later back), goes_same row)
]

grows_instead : (before later : List Row) (old new : Row) → GoesOnFrom old new → Grows (before ++ old ∷ later) (before ++ new ∷ later)
grows_instead before later old new on row within = elim (Contains-append_cases before (old ∷ later) row within) [
  | inl front ↦ (row, Contains-append_left before (new ∷ later) row front, goes_same row)
  | inr back ↦ elim (first_or_other old row later back) [
    | inl this ↦ (new, in_middle before later new, subst (λ (r : Row). GoesOnFrom r new) this on)
    | inr other ↦ (row, Contains-append_right before (new ∷ later) row (behind new row later other), goes_same row)
  ]
]

meets_grows : (rows after : List Row) (row : Row) (answer : Answer) → Meets rows row answer after → Grows rows after
meets_grows rows after row answer (is_added none few before later split stands after_is answer_is) =
    subst (λ (l : List Row). Grows l after) (sym split) (subst (Grows (before ++ later)) (sym after_is) (grows_between before later row))
meets_grows rows after row answer (is_full none many after_is answer_is) = grows_same rows after after_is
meets_grows rows after row answer (is_same before old later has equal after_is answer_is) = grows_same rows after after_is
meets_grows rows after row answer (is_extended before old later has shorter after_is answer_is) =
    subst (λ (l : List Row). Grows l after) (sym has.split)
    (subst (Grows (before ++ old ∷ later)) (sym after_is) (grows_instead before later old row (sym has.serial, (shorter.more, shorter.whole))))
meets_grows rows after row answer (is_older before old later has longer after_is answer_is) = grows_same rows after after_is
meets_grows rows after row answer (is_forked before old later has place differ after_is answer_is) = grows_same rows after after_is

answered_grows : (maker : PublicKey) (rows after : List Row) (bytes : List ℕ) (answer : Answer) → IsChainAnswered maker rows bytes answer after → Grows rows after
answered_grows maker rows after bytes answer (is_chain_refused why refused after_is answer_is) = grows_same rows after after_is
answered_grows maker rows after bytes answer (is_shown row shown meets) = meets_grows rows after row answer meets

step_grows : (maker : PublicKey) (rows after : List Row) (item : Item) (lines : List (List ℕ)) → FleetStep maker rows item lines after → Grows rows after
step_grows maker rows after (Show bytes) lines step = answered_grows maker rows after bytes step.0 step.1
step_grows maker rows after (Find layer hash) lines step = grows_same rows after step.1
step_grows maker rows after (Codes layer) lines step = grows_same rows after step.3

run_grows : (maker : PublicKey) (rows after : List Row) (listed : List Item) (lines : List (List ℕ)) → FleetRun maker rows listed lines after → Grows rows after
run_grows maker rows after [] lines run = grows_same rows after run.1
run_grows maker rows after (item ∷ listed) lines run = λ row within.
    let first = step_grows maker rows run.2 item run.0 run.3 row within in
    let rest = run_grows maker run.2 after listed run.1 run.4 first.0 first.1 in
    (rest.0, rest.1, goes_on row first.0 rest.0 first.2 rest.2)

pub rows_only_grow : RowsOnlyGrow
rows_only_grow maker rows after listed lines row run within = run_grows maker rows after listed lines run row within

-- ---- registers stay ordered

same_ordered : (rows after : List Row) → after ≡ rows → AreOrdered rows → AreOrdered after
same_ordered rows after same_rows ordered = subst AreOrdered (sym same_rows) ordered

pub registers_stay_ordered : RegistersStayOrdered
registers_stay_ordered maker rows after [] lines run ordered = same_ordered rows after run.1 ordered
registers_stay_ordered maker rows after (item ∷ listed) lines run ordered =
    registers_stay_ordered maker run.2 after listed run.1 run.4 (step_ordered maker rows run.2 item run.0 run.3 ordered)

-- of two rows with one serial in such a register, there is one
one_row : (rows : List Row) (a b : Row) → AreOrdered rows → Contains rows a → Contains rows b → a.serial ≡ b.serial → a ≡ b
one_row [] a b ordered in_a in_b same_serial = absurd (omega (arith, in_a.1))
one_row (row ∷ rows) a b ordered in_a in_b same_serial = by (first_or_other row a rows in_a) (first_or_other row b rows in_b) (one_row rows a b ordered.1)
  where
    comes : (x y : Row) → row ≡ x → Contains rows y → x.serial ≡ y.serial → ⊥
    comes x y is within equal =
        let below : IsBefore row.serial y.serial = All-contains (λ (r : Row). IsBefore row.serial r.serial) rows y (all_of_each (λ (r : Row). IsBefore row.serial r.serial) rows ordered.0) within in
        before_differs row.serial y.serial below (ap (λ (r : Row). r.serial) is ∙ equal)

    by : (row ≡ a) ⊎ Contains rows a → (row ≡ b) ⊎ Contains rows b → (Contains rows a → Contains rows b → a.serial ≡ b.serial → a ≡ b) → a ≡ b
    by (inl x) (inl y) more = sym x ∙ y
    by (inl x) (inr y) more = absurd (comes a b x y same_serial)
    by (inr x) (inl y) more = absurd (comes b a y x (sym same_serial))
    by (inr x) (inr y) more = more x y same_serial

-- ---- forks are caught

-- what is taken has a row afterwards
taken_stands : (rows after : List Row) (row : Row) (answer : Answer) → Meets rows row answer after → IsTaken answer
    → (now : Row) × Contains after now × GoesOnFrom row now
taken_stands rows after row answer (is_added none few before later split stands after_is answer_is) taken =
    (row, subst (λ (l : List Row). Contains l row) (sym after_is) (in_middle before later row), goes_same row)
taken_stands rows after row answer (is_full none many after_is answer_is) taken = absurd (subst IsTaken answer_is taken)
taken_stands rows after row answer (is_same before old later has equal after_is answer_is) taken =
    (old, subst (λ (l : List Row). Contains l old) (sym (after_is ∙ has.split)) (in_middle before later old), (has.serial, start_same row.hashes old.hashes (sym equal)))
taken_stands rows after row answer (is_extended before old later has shorter after_is answer_is) taken =
    (row, subst (λ (l : List Row). Contains l row) (sym after_is) (in_middle before later row), goes_same row)
taken_stands rows after row answer (is_older before old later has longer after_is answer_is) taken =
    (old, subst (λ (l : List Row). Contains l old) (sym (after_is ∙ has.split)) (in_middle before later old), (has.serial, (longer.more, longer.whole)))
taken_stands rows after row answer (is_forked before old later has place differ after_is answer_is) taken = absurd (subst IsTaken answer_is taken)

not_new : (rows : List Row) (row now : Row) → IsNewDevice rows row → Contains rows now → now.serial ≡ row.serial → ⊥
not_new rows row now none within =
    All-contains (λ (r : Row). r.serial ≢ row.serial) rows now (all_of_each (λ (r : Row). r.serial ≢ row.serial) rows none) within

-- a row of the device stands, and another meets it
met_again : (rows after : List Row) (shown row now : Row) (answer : Answer) → AreOrdered rows → Contains rows now → now.serial ≡ row.serial → IsHashPrefix shown.hashes now.hashes
    → Meets rows row answer after → AgreeSoFar shown.hashes row.hashes ⊎ ((place : ℕ) × (answer ≡ forked row.serial place))
met_again rows after shown row now answer ordered within serial start (is_added none few before later split stands after_is answer_is) = absurd (not_new rows row now none within serial)
met_again rows after shown row now answer ordered within serial start (is_full none many after_is answer_is) = absurd (not_new rows row now none within serial)
met_again rows after shown row now answer ordered within serial start (is_same before old later has equal after_is answer_is) =
    let one : now ≡ old = one_row rows now old ordered within (subst (λ (l : List Row). Contains l old) (sym has.split) (in_middle before later old)) (serial ∙ sym has.serial) in
    inl (inl (subst (IsHashPrefix shown.hashes) (ap (λ (r : Row). r.hashes) one ∙ sym equal) start))
met_again rows after shown row now answer ordered within serial start (is_extended before old later has shorter after_is answer_is) =
    let one : now ≡ old = one_row rows now old ordered within (subst (λ (l : List Row). Contains l old) (sym has.split) (in_middle before later old)) (serial ∙ sym has.serial) in
    let old_start : IsHashPrefix shown.hashes old.hashes = subst (λ (r : Row). IsHashPrefix shown.hashes r.hashes) one start in
    inl (inl (start_on shown.hashes old.hashes row.hashes old_start (shorter.more, shorter.whole)))
met_again rows after shown row now answer ordered within serial start (is_older before old later has longer after_is answer_is) =
    let one : now ≡ old = one_row rows now old ordered within (subst (λ (l : List Row). Contains l old) (sym has.split) (in_middle before later old)) (serial ∙ sym has.serial) in
    let old_start : IsHashPrefix shown.hashes old.hashes = subst (λ (r : Row). IsHashPrefix shown.hashes r.hashes) one start in
    inl (both_starts shown.hashes row.hashes old.hashes old_start (longer.more, longer.whole))
met_again rows after shown row now answer ordered within serial start (is_forked before old later has place differ after_is answer_is) = inr (place, answer_is)

pub forks_are_caught : ForksAreCaught
forks_are_caught maker one other answer later =
    let stands = taken_stands later.rows later.between one later.first later.meets later.taken in
    let now = rows_only_grow maker later.between later.later later.listed later.lines stands.0 later.run stands.1 in
    let on : GoesOnFrom one now.0 = goes_on one stands.0 now.0 stands.2 now.2 in
    let ordered : AreOrdered later.later = registers_stay_ordered maker later.between later.later later.listed later.lines later.run
    (meets_ordered later.rows later.between one later.first later.meets later.ordered) in
    met_again later.later later.after one other now.0 answer ordered now.1 (on.0 ∙ sym later.same_device) on.1 later.again

-- ---- hashes and entries

two_parts : (p q : List ℕ) (xs ys : List (List ℕ)) → p ∷ xs ≡ q ∷ ys → (p ≡ q) × (xs ≡ ys)
two_parts p q xs ys e = (cc, cc)

-- one pair of entries more
one_more : (entry that : Entry) (one other : List Entry) → SpellingsCollide one other → SpellingsCollide (entry ∷ one) (that ∷ other)
one_more entry that one other both = record {
  entry = both.entry;
  that = both.that;
  in_one = behind entry both.entry one both.in_one;
  in_other = behind that both.that other both.in_other;
  collide = both.collide;
}

swapped : (one other : List Entry) → SpellingsCollide other one → SpellingsCollide one other
swapped one other both = record {
  entry = both.that;
  that = both.entry;
  in_one = both.in_other;
  in_other = both.in_one;
  collide = (λ equal. both.collide.0 (sym equal), sym both.collide.1);
}

start_or_collision : (one other : List Entry) (rest : List (List ℕ)) → map entry_hash other ≡ map entry_hash one ++ rest
    → IsHashPrefix (spelled_entries one) (spelled_entries other) ⊎ SpellingsCollide one other
start_or_collision [] other rest same_hashes = inl (spelled_entries other, refl)
start_or_collision (entry ∷ one) [] rest same_hashes = absurd (grind (arith, same_hashes))
start_or_collision (entry ∷ one) (that ∷ other) rest same_hashes =
    let parts = two_parts (entry_hash that) (entry_hash entry) (map entry_hash other) (map entry_hash one ++ rest) same_hashes in
    by (same_or_collide (entry_format.spelling entry) (entry_format.spelling that) (sym parts.0)) (start_or_collision one other rest parts.1)
  where
    by : (entry_format.spelling entry ≡ entry_format.spelling that) ⊎ Collide (entry_format.spelling entry) (entry_format.spelling that)
        → IsHashPrefix (spelled_entries one) (spelled_entries other) ⊎ SpellingsCollide one other
        → IsHashPrefix (spelled_entries (entry ∷ one)) (spelled_entries (that ∷ other)) ⊎ SpellingsCollide (entry ∷ one) (that ∷ other)
    by (inl equal) (inl start) =
        inl (start.0, ap (λ (l : List (List ℕ)). entry_format.spelling that ∷ l) start.1 ∙ ap (λ (h : List ℕ). h ∷ spelled_entries one ++ start.0) (sym equal))
    by (inl equal) (inr both) = inr (one_more entry that one other both)
    by (inr collide) more = inr (record {
      entry = entry;
      that = that;
      in_one = in_front entry one;
      in_other = in_front that other;
      collide = collide;
    })

pub hashes_tell_of_entries : HashesTellOfEntries
hashes_tell_of_entries one other (inl start) = elim (start_or_collision one other start.0 start.1) [
  | inl front ↦ inl (inl front)
  | inr both ↦ inr both
]
hashes_tell_of_entries one other (inr start) = elim (start_or_collision other one start.0 start.1) [
  | inl front ↦ inl (inr front)
  | inr both ↦ inr (swapped one other both)
]

pub parted_logs_are_caught : PartedLogsAreCaught
parted_logs_are_caught maker one other answer shown parted row_one row_other apart later =
    elim (forks_are_caught maker one other answer later) [
      | inl agree ↦
          let hashes : AgreeSoFar (map entry_hash shown) (map entry_hash parted) =
          subst (λ (l : List (List ℕ)). AgreeSoFar l (map entry_hash parted)) row_one.hashes (subst (AgreeSoFar one.hashes) row_other.hashes agree) in
          elim (hashes_tell_of_entries shown parted hashes) [
            | inl entries ↦ absurd (apart entries)
            | inr both ↦ inr both
          ]
      | inr caught ↦ inl caught
    ]

-- ---- honest devices

-- what stands in a prefix, stands there
read_in_front : (a rest : List (List ℕ)) (n : ℕ) → n < length a → slice_get (a ++ rest) n ≡ slice_get a n
read_in_front [] rest n inside = absurd (omega (arith, inside))
read_in_front (x ∷ a) rest zero inside = refl
read_in_front (x ∷ a) rest (suc n) inside = read_in_front a rest n (omega (arith, inside))

-- lists that differ at a place are no prefixes of one another
differ_apart : (a b : List (List ℕ)) (place : ℕ) → DifferAt a b place → AgreeSoFar a b → ⊥
differ_apart a b place differ (inl start) = differ.differ (sym (ap (λ (l : List (List ℕ)). slice_get l place) start.1 ∙ read_in_front a start.0 place differ.in_a))
differ_apart a b place differ (inr start) = differ.differ (ap (λ (l : List (List ℕ)). slice_get l place) start.1 ∙ read_in_front b start.0 place differ.in_b)

pub accused_rows_differ : AccusedRowsDiffer
accused_rows_differ rows after row serial place (is_added none few before later split stands after_is answer_is) = absurd (grind (arith, answer_is))
accused_rows_differ rows after row serial place (is_full none many after_is answer_is) = absurd (grind (arith, answer_is))
accused_rows_differ rows after row serial place (is_same before old later has equal after_is answer_is) = absurd (grind (arith, answer_is))
accused_rows_differ rows after row serial place (is_extended before old later has shorter after_is answer_is) = absurd (grind (arith, answer_is))
accused_rows_differ rows after row serial place (is_older before old later has longer after_is answer_is) = absurd (grind (arith, answer_is))
accused_rows_differ rows after row serial place (is_forked before old later has at differ after_is answer_is) =
    (old, subst (λ (l : List Row). Contains l old) (sym has.split) (in_middle before later old), has.serial, differ_apart old.hashes row.hashes at differ)

-- all rows are true to a log
abbrev AreTrue : List Entry → List Row → Type 0
AreTrue log rows = (row : Row) → Contains rows row → IsTrueTo log row

true_between : (log : List Entry) (before later : List Row) (new : Row) → AreTrue log before → AreTrue log later → IsTrueTo log new → AreTrue log (before ++ new ∷ later)
true_between log before later new first second own row within = elim (Contains-append_cases before (new ∷ later) row within) [
  | inl front ↦ first row front
  | inr back ↦ elim (first_or_other new row later back) [
    | inl this ↦ subst (IsTrueTo log) this own
    | inr other ↦ second row other
  ]
]

meets_true : (log : List Entry) (rows after : List Row) (row : Row) (answer : Answer) → Meets rows row answer after → IsTrueTo log row → AreTrue log rows → AreTrue log after
meets_true log rows after row answer (is_added none few before later split stands after_is answer_is) own are =
    let all : AreTrue log (before ++ later) = subst (AreTrue log) split are in
    subst (AreTrue log) (sym after_is) (true_between log before later row (λ r in_front. all r (Contains-append_left before later r in_front)) (λ r in_back. all r (Contains-append_right before later r in_back)) own)
meets_true log rows after row answer (is_full none many after_is answer_is) own are = subst (AreTrue log) (sym after_is) are
meets_true log rows after row answer (is_same before old later has equal after_is answer_is) own are = subst (AreTrue log) (sym after_is) are
meets_true log rows after row answer (is_extended before old later has shorter after_is answer_is) own are =
    let all : AreTrue log (before ++ old ∷ later) = subst (AreTrue log) has.split are in
    subst (AreTrue log) (sym after_is) (true_between log before later row (λ r in_front. all r (Contains-append_left before (old ∷ later) r in_front))
    (λ r in_back. all r (Contains-append_right before (old ∷ later) r (behind old r later in_back))) own)
meets_true log rows after row answer (is_older before old later has longer after_is answer_is) own are = subst (AreTrue log) (sym after_is) are
meets_true log rows after row answer (is_forked before old later has place differ after_is answer_is) own are = subst (AreTrue log) (sym after_is) are

-- a chain that was shown without forged entries has a row that is true to the log
shown_true : (maker : PublicKey) (log : List SignedEntry) (bytes : List ℕ) (row : Row) → EachFollows log → IsHonestChain maker log bytes → IsShown maker bytes row → IsTrueTo (entries_of log) row
shown_true maker log bytes row each honest shown serial =
    let own : List Entry = entries_of shown.chain.entries in
    let front = honest_is_front maker shown.chain.entries log shown.good each (honest shown.chain shown.spelled shown.good (shown.row_is.serial ∙ sym serial)) in (
      map entry_hash front.0,
      ap (map entry_hash) front.1 ∙ map-append entry_hash own front.0 ∙ ap (λ (l : List (List ℕ)). l ++ map entry_hash front.0) (sym shown.row_is.hashes),
    )

answered_true : (maker : PublicKey) (log : List SignedEntry) (rows after : List Row) (bytes : List ℕ) (answer : Answer) → EachFollows log → IsHonestChain maker log bytes
    → IsChainAnswered maker rows bytes answer after → AreTrue (entries_of log) rows → AreTrue (entries_of log) after
answered_true maker log rows after bytes answer each honest (is_chain_refused why refused after_is answer_is) are = subst (AreTrue (entries_of log)) (sym after_is) are
answered_true maker log rows after bytes answer each honest (is_shown row shown meets) are =
    meets_true (entries_of log) rows after row answer meets (shown_true maker log bytes row each honest shown) are

step_true : (maker : PublicKey) (log : List SignedEntry) (rows after : List Row) (item : Item) (lines : List (List ℕ)) → EachFollows log → IsHonestItem maker log item
    → FleetStep maker rows item lines after → AreTrue (entries_of log) rows → AreTrue (entries_of log) after
step_true maker log rows after (Show bytes) lines each honest step are = answered_true maker log rows after bytes step.0 each honest step.1 are
step_true maker log rows after (Find layer hash) lines each honest step are = subst (AreTrue (entries_of log)) (sym step.1) are
step_true maker log rows after (Codes layer) lines each honest step are = subst (AreTrue (entries_of log)) (sym step.3) are

run_true : (maker : PublicKey) (log : List SignedEntry) (rows after : List Row) (listed : List Item) (lines : List (List ℕ)) → EachFollows log → All (IsHonestItem maker log) listed
    → FleetRun maker rows listed lines after → AreTrue (entries_of log) rows → AreTrue (entries_of log) after
run_true maker log rows after [] lines each honest run are = subst (AreTrue (entries_of log)) (sym run.1) are
run_true maker log rows after (item ∷ listed) lines each honest run are =
    run_true maker log run.2 after listed run.1 each (All-tail (IsHonestItem maker log) item listed honest) run.4
    (step_true maker log rows run.2 item run.0 each (All-head (IsHonestItem maker log) item listed honest) run.3 are)

forked_serial : (a b : List ℕ) (m n : ℕ) → forked a m ≡ forked b n → a ≡ b
forked_serial a b m n e = cc

-- rows that are true to a log, and one more such row of its device
never_forked : (log : List Entry) (rows after : List Row) (row : Row) (serial : List ℕ) (place : ℕ) → serial_of log ≡ Some serial → AreTrue log rows → IsTrueTo log row
    → Meets rows row (forked serial place) after → ⊥
never_forked log rows after row serial place is are own (is_added none few before later split stands after_is answer_is) = absurd (grind (arith, answer_is))
never_forked log rows after row serial place is are own (is_full none many after_is answer_is) = absurd (grind (arith, answer_is))
never_forked log rows after row serial place is are own (is_same before old later has equal after_is answer_is) = absurd (grind (arith, answer_is))
never_forked log rows after row serial place is are own (is_extended before old later has shorter after_is answer_is) = absurd (grind (arith, answer_is))
never_forked log rows after row serial place is are own (is_older before old later has longer after_is answer_is) = absurd (grind (arith, answer_is))
never_forked log rows after row serial place is are own (is_forked before old later has at differ after_is answer_is) =
    let this : serial_of log ≡ Some row.serial = is ∙ ap Some (forked_serial serial row.serial place at answer_is) in
    let within : Contains rows old = subst (λ (l : List Row). Contains l old) (sym has.split) (in_middle before later old) in
    let first : IsHashPrefix old.hashes (map entry_hash log) = are old within (this ∙ ap Some (sym has.serial)) in
    differ_apart old.hashes row.hashes at differ (both_starts old.hashes row.hashes (map entry_hash log) first (own this))

pub honest_devices_are_not_accused : HonestDevicesAreNotAccused
honest_devices_are_not_accused maker log serial rows between after listed lines bytes place each is are run honest own answered =
    let truth : AreTrue (entries_of log) between = run_true maker log rows between listed lines each honest run
    (λ row within. All-contains (IsTrueTo (entries_of log)) rows row are within) in
    by answered truth
  where
    by : IsChainAnswered maker between bytes (forked serial place) after → AreTrue (entries_of log) between → ⊥
    by (is_chain_refused why refused after_is answer_is) truth = grind (arith, answer_is)
    by (is_shown row shown meets) truth = never_forked (entries_of log) between after row serial place is truth (shown_true maker log bytes row each own shown) meets

-- ---- chains are answered as their rows

pub good_chains_meet : GoodChainsMeet
good_chains_meet maker rows after bytes row answer are shown (is_chain_refused why refused after_is answer_is) =
    absurd (good_or_refused maker bytes shown.chain why are shown.spelled shown.good refused.of_entries (refused.refused 0))
good_chains_meet maker rows after bytes row answer are shown (is_shown other also meets) =
    subst (λ (r : Row). Meets rows r answer after) (shown_once maker bytes other row are also shown) meets

-- ---- forged rows

pub forged_rows_accuse : ForgedRowsAccuse
forged_rows_accuse forged own place serial differ = (
  is_added tt (omega arith) [] [] refl (record { below = tt; above = tt }) refl refl,
  is_forked [] forged [] (record { split = refl; serial = serial }) place differ refl refl,
)

-- ---- rows with one serial

pub two_rows_hide_a_fork : TwoRowsHideAFork
two_rows_hide_a_fork one other serial = (
  is_same [] one (other ∷ []) (record { split = refl; serial = refl }) refl refl refl,
  is_same (one ∷ []) other [] (record { split = refl; serial = refl }) refl refl refl,
)

pub doubled_rows_stay : DoubledRowsStay
doubled_rows_stay maker row = (
  (refl, refl),
  λ ordered. before_differs row.serial row.serial
      (All-head (λ (r : Row). IsBefore row.serial r.serial) row [] (all_of_each (λ (r : Row). IsBefore row.serial r.serial) (row ∷ []) ordered.0)) refl,
)
