-- Items come to one thing over a register.
use Rattle.std.proofs.Common.{◌≡◌, ℕ, ◌<◌, Bool, true, false, if◌then◌else◌, List, [], ◌∷◌, ◌++◌, length, refl, sym, ◌∙◌, ap, subst, arith}
use Rattle.std.specs.Int.{w8, w32}
use Rattle.std.specs.List.{AllByRecursion}
use Rattle.std.specs.Ordering.{nat_cmp}
use Rattle.std.specs.Cmp.Lexicographic.{slice_cmp}
use Rattle.std.specs.declared.cmp.Ordering.{Ordering}
use Rattle.std.specs.declared.cmp.Ordering.TheVariants.{Less, Equal, Greater}
use Rattle.std.proofs.lemmas.List.Sums.{sum_by-cons}
use Rattle.mb_format.specs.Format.{IsBytes}
use Rattle.mb_format.specs.Combinators.{same_bytes, number, table, times, items}
use Rattle.mb_format.proofs.Fields.{same_bytes-refl, same_bytes-true}
use Rattle.mb_format.proofs.Whole.{IsClearWhole-from_exact}
use Rattle.mb_model.specs.declared.key.PublicKey.{PublicKey}
use Rattle.mb_model.specs.chains.Lines.{text_of}
use Rattle.mb_model_commands.specs.declared.role.Role.TheVariants as role
use Rattle.mb_model_commands.specs.declared.role.Place.TheVariants as fault
use Rattle.mb_model_lemmas.proofs.OneFlash.{front_bytes, back_bytes}
use Rattle.mb_fleet.specs.declared.row.Row.{Row}
use Rattle.mb_fleet.specs.declared.item.Item.{Item}
use Rattle.mb_fleet.specs.declared.item.Item.TheVariants.{Show, Find, Codes}
use Rattle.mb_fleet.specs.declared.question.CodeCount.{CodeCount}
use Rattle.mb_fleet.specs.Order.{IsBefore, IsAscending}
use Rattle.mb_fleet.specs.Rows.{AreOrdered}
use Rattle.mb_fleet.specs.RegisterFormat.{register_format}
use Rattle.mb_fleet.specs.ItemFormat.{show_tag, item_byte, item_rows, show_format, item_format, AreItems}
use Rattle.mb_fleet.specs.Questions.{hash_of_count, count_beside}
use Rattle.mb_fleet.specs.Showing.{Answer}
use Rattle.mb_fleet.specs.Serving.{answer_line, count_lines, FleetStep, FleetRun, AreServed}
use Rattle.mb_fleet.specs.ExactFormats.{register_exact}
use Rattle.mb_fleet.specs.Laws.{register_input, items_input}
use Rattle.mb_fleet.proofs.Ascending.{before_differs, after_is_before, equal_keys, before_all}
use Rattle.mb_fleet.proofs.ClearItems.{items_are_clear}
use Rattle.mb_fleet.proofs.Determined.{chains_have_one_answer}
use Rattle.mb_fleet.proofs.Registers.{spelled_fits}
use Rattle.mb_fleet.proofs.Ordered.{step_ordered}
use Rattle.mb_top_laws.proofs.AlikeSteps.{IsReadOnce}
use Rattle.mb_top_laws.proofs.InputsOnce.{binary_once}

-- ---- counts of codes

abbrev share : List ℕ → CodeCount → ℕ
share hash c = if same_bytes hash c.hash then c.count else 0

share_none : (hash : List ℕ) (c : CodeCount) → IsBefore hash c.hash → share hash c ≡ 0
share_none hash c is = by (same_bytes hash c.hash) refl
  where
    by : (b : Bool) → same_bytes hash c.hash ≡ b → (if b then c.count else 0) ≡ 0
    by true same = absurd (before_differs hash c.hash is (same_bytes-true hash c.hash same))
    by false same = refl

share_own : (hash : List ℕ) (c : CodeCount) → hash ≡ c.hash → share hash c ≡ c.count
share_own hash c same = ap (λ (b : Bool). if b then c.count else 0) (ap (same_bytes hash) (sym same) ∙ same_bytes-refl hash)

-- no number stands beside a hash that comes before all others
beside_none : (hash : List ℕ) (counts : List CodeCount) → AllByRecursion (λ (c : CodeCount). IsBefore hash c.hash) counts → count_beside hash counts ≡ 0
beside_none hash [] each = refl
beside_none hash (c ∷ counts) each = omega (arith, sum_by-cons (share hash) c counts, share_none hash c each.0, beside_none hash counts each.1)

beside_first : (hash : List ℕ) (c : CodeCount) (counts : List CodeCount) → hash ≡ c.hash → AllByRecursion (λ (d : CodeCount). IsBefore c.hash d.hash) counts
    → count_beside hash (c ∷ counts) ≡ c.count
beside_first hash c counts same each =
    omega (
      arith,
      sum_by-cons (share hash) c counts,
      share_own hash c same,
      beside_none hash counts (subst (λ (h : List ℕ). AllByRecursion (λ (d : CodeCount). IsBefore h d.hash) counts) (sym same) each),
    )

-- a hash before the first has no number, and the first has one
not_beside : (hash : List ℕ) (c d : CodeCount) (counts others : List CodeCount) → hash ≡ c.hash → 0 < c.count → AllByRecursion (λ (e : CodeCount). IsBefore c.hash e.hash) counts
    → IsBefore hash d.hash → AllByRecursion (λ (e : CodeCount). IsBefore d.hash e.hash) others → count_beside hash (c ∷ counts) ≡ count_beside hash (d ∷ others) → ⊥
not_beside hash c d counts others same some each is later equal =
    omega (arith, some, beside_first hash c counts same each, equal, beside_none hash (d ∷ others) (is, before_all hash_of_count hash d others is later))

count_same : (c d : CodeCount) → c.hash ≡ d.hash → c.count ≡ d.count → c ≡ d
count_same c d hash count =
    ap (λ (h : List ℕ). let x : CodeCount = record { hash = h; count = c.count } in x) hash ∙ ap (λ (n : ℕ). let x : CodeCount = record { hash = d.hash; count = n } in x) count

counts_same : (a b : List CodeCount) → IsAscending hash_of_count a → IsAscending hash_of_count b → AllByRecursion (λ (c : CodeCount). 0 < c.count) a → AllByRecursion (λ (c : CodeCount). 0 < c.count) b
    → ((hash : List ℕ) → count_beside hash a ≡ count_beside hash b) → a ≡ b
counts_same [] [] in_order also some too same = refl
counts_same [] (d ∷ b) in_order also some too same = absurd (omega (arith, too.0, same d.hash, beside_first d.hash d b refl also.0))
counts_same (c ∷ a) [] in_order also some too same = absurd (omega (arith, some.0, same c.hash, beside_first c.hash c a refl in_order.0))
counts_same (c ∷ a) (d ∷ b) in_order also some too same =
    by (slice_cmp nat_cmp c.hash d.hash) refl (λ later. counts_same a b in_order.1 also.1 some.1 too.1 later)
  where
    by : (o : Ordering) → slice_cmp nat_cmp c.hash d.hash ≡ o → (((hash : List ℕ) → count_beside hash a ≡ count_beside hash b) → a ≡ b)
        → ◌≡◌ {A = List CodeCount} (c ∷ a) (d ∷ b)
    by Less is rest = absurd (not_beside c.hash c d a b refl some.0 in_order.0 is also.0 (same c.hash))
    by Greater is rest = absurd (not_beside d.hash d c b a refl too.0 also.0 (after_is_before c.hash d.hash is) in_order.0 (sym (same d.hash)))
    by Equal is rest =
        let hashes = equal_keys c.hash d.hash is in
        let numbers : c.count ≡ d.count = sym (beside_first c.hash c a refl in_order.0) ∙ same c.hash ∙ beside_first c.hash d b hashes also.0 in
        let one : c ≡ d = count_same c d hashes numbers in
        let later : a ≡ b = rest (λ hash. omega (arith, same hash, sum_by-cons (share hash) c a, sum_by-cons (share hash) d b, ap (λ (x : CodeCount). share hash x) one)) in
        ap (λ (x : CodeCount). x ∷ a) one ∙ ap (λ (list : List CodeCount). d ∷ list) later

-- ---- chains that are shown are bytes

abbrev pub IsOfBytes : Item → Type 0
IsOfBytes (Show chain) = IsBytes chain
IsOfBytes other = Unit {0}

item_bytes : (item : Item) → IsBytes (item_format.spelling item) → IsOfBytes item
unfolding item_format show_format
item_bytes (Show chain) are =
    back_bytes ((number w32).spelling (length chain)) chain
    (back_bytes ((table w8 item_rows item_byte).spelling show_tag) ((number w32).spelling (length chain) ++ chain) are)
item_bytes (Find layer hash) are = tt
item_bytes (Codes layer) are = tt

spelled_bytes : (listed : List Item) → IsBytes ((times (length listed) item_format).spelling listed) → AllByRecursion IsOfBytes listed
unfolding items
spelled_bytes [] are = tt
spelled_bytes (item ∷ listed) are = (
  item_bytes item (front_bytes (item_format.spelling item) ((times (length listed) item_format).spelling listed) are),
  spelled_bytes listed (back_bytes (item_format.spelling item) ((times (length listed) item_format).spelling listed) are),
)

pub items_bytes : (bytes : List ℕ) (listed : List Item) → IsBytes bytes → AreItems bytes listed → AllByRecursion IsOfBytes listed
items_bytes bytes listed are is = spelled_bytes listed (subst IsBytes is.whole are)

-- ---- items over rows

step_same : (maker : PublicKey) (rows after later : List Row) (item : Item) (lines others : List (List ℕ)) → AreOrdered rows → IsOfBytes item
    → FleetStep maker rows item lines after → FleetStep maker rows item others later → (lines ≡ others) × (after ≡ later)
step_same maker rows after later (Show bytes) lines others ordered are one other =
    let same = chains_have_one_answer maker rows bytes one.0 other.0 after later are ordered one.1 other.1 in
    (one.2 ∙ ap (λ (a : Answer). answer_line a ∷ []) same.0 ∙ sym other.2, same.1)
step_same maker rows after later (Find layer hash) lines others ordered are one other = (one.0 ∙ sym other.0, one.1 ∙ sym other.1)
step_same maker rows after later (Codes layer) lines others ordered are one other =
    let same = counts_same one.0 other.0 one.1.ordered other.1.ordered one.1.some other.1.some (λ hash. one.1.counted hash ∙ sym (other.1.counted hash)) in
    (one.2 ∙ ap count_lines same ∙ sym other.2, one.3 ∙ sym other.3)

run_same : (maker : PublicKey) (rows after later : List Row) (listed : List Item) (lines others : List (List ℕ)) → AreOrdered rows → AllByRecursion IsOfBytes listed
    → FleetRun maker rows listed lines after → FleetRun maker rows listed others later → (lines ≡ others) × (after ≡ later)
run_same maker rows after later [] lines others ordered are one other = (one.0 ∙ sym other.0, one.1 ∙ sym other.1)
run_same maker rows after later (item ∷ listed) lines others ordered are one other =
    let first = step_same maker rows one.2 other.2 item one.0 other.0 ordered are.0 one.3 other.3 in
    let moved : FleetRun maker one.2 listed other.1 later = subst (λ (r : List Row). FleetRun maker r listed other.1 later) (sym first.1) other.4 in
    let rest = run_same maker one.2 after later listed one.1 other.1 (step_ordered maker rows one.2 item one.0 one.3 ordered) are.1 one.4 moved in
    (one.5 ∙ ap (λ (l : List (List ℕ)). l ++ one.1) first.0 ∙ ap (λ (l : List (List ℕ)). other.0 ++ l) rest.0 ∙ sym other.5, rest.1)

pub served_same : (maker : PublicKey) (rows after later : List Row) (listed : List Item) (text other_text : List ℕ) → AreOrdered rows → AllByRecursion IsOfBytes listed
    → AreServed maker rows listed text after → AreServed maker rows listed other_text later → (text ≡ other_text) × (after ≡ later)
served_same maker rows after later listed text other_text ordered are one other =
    let same = run_same maker rows after later listed one.lines other.lines ordered are one.run other.run in
    (one.text_is ∙ ap text_of same.0 ∙ sym other.text_is, same.1)

-- ---- the inputs

pub register_once : (name : List ℕ) → IsReadOnce (register_input name)
register_once name = binary_once role.Register register_format name (IsClearWhole-from_exact register_exact)

pub register_ordered : (bytes : List ℕ) (rows : List Row) (name : List ℕ) → (register_input name).Is bytes rows → AreOrdered rows
register_ordered bytes rows name is = (spelled_fits rows is.allowed).ordered

pub items_once : (name : List ℕ) → IsReadOnce (items_input name)
items_once name = record {
  one_value = λ bytes a b are is also. items_are_clear.one_list bytes a b are is also;
  one_place = λ bytes p q are is also. is.1 ∙ ap (λ (n : ℕ). fault.At n) (items_are_clear.one_offset bytes is.0 also.0 are is.2 also.2) ∙ sym also.1;
  never_both = λ bytes value place are is wrong. items_are_clear.never_both bytes value wrong.0 are is wrong.2;
}
