-- Items that are read one after another.
use Rattle.std.proofs.Common.{◌≡◌, ◌<◌, ◌≤◌, ◌+◌, ℕ, List, [], ◌∷◌, ◌++◌, length, drop, Some, Err, refl, sym, ap, subst, ◌∙◌, append_assoc, append-nil, arith, rules}
use Rattle.std.specs.Prelude.{flat_map}
use Rattle.std.specs.Int.{w8}
use Rattle.std.specs.List.{AllByRecursion}
use Rattle.std.proofs.lemmas.List.{length-append, drop_all}
use Rattle.std.proofs.lemmas.List.Concat.{flat_map-cons}
use Rattle.std.proofs.lemmas.Grind.{flat_map-append}
use Rattle.mb_format.specs.Format.{SpelledAt}
use Rattle.mb_format.specs.Reading.{IsExact}
use Rattle.mb_format.specs.Combinators.{times, number_bytes}
use Rattle.mb_format.proofs.Rules.{exactly}
use Rattle.mb_format.proofs.Fields.{IsTable}
use Rattle.mb_format.proofs.Compositions.{times_spelling, all_items}
use Rattle.mb_bytes.specs.declared.cursor.Cursor.{Cursor}
use Rattle.mb_bytes.specs.Reads.{ReadsOk, ReadsErr, ReadsErrAt}
use Rattle.mb_bytes.proofs.Exactly.{is_read, stands}
use Rattle.mb_fleet.specs.declared.item.Item.{Item}
use Rattle.mb_fleet.specs.declared.item.Item.TheVariants.{Show, Find, Codes}
use Rattle.mb_fleet.specs.ItemFormat.{ItemTag, show_tag, find_tag, codes_tag, item_byte, item_rows, item_tag, show_in, find_in, codes_item_in, show_format, find_format, codes_item_format, item_by, item_format, AreItems, ItemsFailAt}
use Rattle.mb_bytes.specs.declared.end.ReadEnd.{ReadEnd}
use Rattle.mb_bytes.specs.declared.end.ReadEnd.TheVariants as end
use Rattle.mb_bytes.specs.Ends.{end_at}
use Rattle.mb_fleet.specs.Ends.{HasShortChain, ReadsItems}
use Rattle.mb_fleet.proofs.Each.{each_push}

-- ---- one item is read exactly

item_table : IsTable w8 item_rows item_byte
item_table = record { rows_are = search rules; back = elim [ show_tag ↦ refl | find_tag ↦ refl | codes_tag ↦ refl ] }

show_only : (item : Item) (chain : List ℕ) → show_in item ≡ Some chain → Show chain ≡ item
show_only item chain e = grind arith

find_only : (item : Item) (p : ℕ × List ℕ) → find_in item ≡ Some p → Find p.0 p.1 ≡ item
find_only item p e = grind arith

codes_only : (item : Item) (layer : ℕ) → codes_item_in item ≡ Some layer → Codes layer ≡ item
codes_only item layer e = grind arith

show_exact : IsExact show_format
unfolding show_format
show_exact = search (exactly, show_only) depth 20

find_exact : IsExact find_format
unfolding find_format
find_exact = search (exactly, find_only) depth 20

codes_exact : IsExact codes_item_format
unfolding codes_item_format
codes_exact = search (exactly, codes_only) depth 20

item_by-exact : (tag : ItemTag) → IsExact (item_by tag)
item_by-exact show_tag = show_exact
item_by-exact find_tag = find_exact
item_by-exact codes_tag = codes_exact

item_keyed : (tag : ItemTag) (item : Item) → (item_by tag).Allowed item → item_tag item ≡ tag
unfolding show_format find_format codes_item_format
item_keyed show_tag item h = grind arith
item_keyed find_tag item h = grind arith
item_keyed codes_tag item h = grind arith

pub item_exact : IsExact item_format
unfolding item_format
item_exact = search (exactly, item_table, item_by-exact, item_keyed) depth 20

-- the spelling of an item begins with its tag
pub item_some : (item : Item) → 0 < length (item_format.spelling item)
unfolding item_format number_bytes
item_some item = omega (arith, length-append (number_bytes w8 (item_byte (item_tag item))) ((item_by (item_tag item)).spelling item))

-- ---- items so far

abbrev spelling_all : List Item → List ℕ
spelling_all listed = flat_map item_format.spelling listed

pub record IsReadTo (bytes : List ℕ) (cursor : Cursor) (listed : List Item) : Type 0 where
  pub same : cursor.bytes.now ≡ bytes
  pub here : bytes ≡ spelling_all listed ++ drop cursor.offset bytes
  pub ends : cursor.offset ≡ length (spelling_all listed)
  pub allowed : AllByRecursion item_format.Allowed listed
  pub short : AllByRecursion HasShortChain listed

pub reading_starts : (bytes : List ℕ) (cursor : Cursor) (listed : List Item) → cursor.bytes.now ≡ bytes → cursor.offset ≡ 0 → listed ≡ [] → IsReadTo bytes cursor listed
reading_starts bytes cursor listed all first none =
    subst (IsReadTo bytes cursor) (sym none) (record { same = all; here = rw first refl; ends = first; allowed = tt; short = tt })

spelling_push : (listed : List Item) (item : Item) → spelling_all (listed ++ item ∷ []) ≡ spelling_all listed ++ item_format.spelling item
spelling_push listed item = flat_map-append item_format.spelling listed (item ∷ []) ∙ ap (λ (t : List ℕ). spelling_all listed ++ t) (flat_map-cons item_format.spelling item [] ∙ append-nil (item_format.spelling item))

module _ (bytes : List ℕ) (cursor : Cursor) (listed : List Item) (so_far : IsReadTo bytes cursor listed) where
  module _ (item : Item) (after : Cursor) (reads : ReadsOk item_format cursor item after) where
    spelled : SpelledAt item_format.spelling item_format.Allowed bytes cursor.offset item after.offset
    spelled = subst (λ (b : List ℕ). SpelledAt item_format.spelling item_format.Allowed b cursor.offset item after.offset) so_far.same (is_read item_exact reads).spelled

    pub reading_more : (more : List Item) → more ≡ listed ++ item ∷ [] → HasShortChain item → IsReadTo bytes after more
    reading_more more pushed short = subst (IsReadTo bytes after) (sym pushed) (record {
      same = reads.bytes ∙ so_far.same;
      here = so_far.here ∙ ap (λ (t : List ℕ). spelling_all listed ++ t) spelled.here
          ∙ sym (append_assoc (spelling_all listed) (item_format.spelling item) (drop after.offset bytes))
          ∙ ap (λ (t : List ℕ). t ++ drop after.offset bytes) (sym (spelling_push listed item));
      ends = spelled.ends ∙ ap (λ n. n + length (item_format.spelling item)) so_far.ends
          ∙ sym (length-append (spelling_all listed) (item_format.spelling item)) ∙ ap length (sym (spelling_push listed item));
      allowed = each_push item_format.Allowed listed item so_far.allowed spelled.allowed;
      short = each_push HasShortChain listed item so_far.short short;
    })

    pub reading_advances : (cursor.offset < after.offset) × (after.offset ≤ length bytes)
    reading_advances = (omega (arith, spelled.ends, item_some item), spelled.within)

  abbrev times_here : Type 0
  times_here = SpelledAt (times (length listed) item_format).spelling (times (length listed) item_format).Allowed bytes 0 listed cursor.offset

  listed_here : cursor.offset ≤ length bytes → times_here
  listed_here within =
      let spelling = times_spelling item_format (length listed) listed refl in
      record {
        allowed = all_items item_format (length listed) listed refl so_far.allowed;
        here = so_far.here ∙ ap (λ (t : List ℕ). t ++ drop cursor.offset bytes) (sym spelling);
        ends = omega (arith, so_far.ends, ap length spelling);
        within = within;
      }

  pub reading_stops : (after : Cursor) (at : ℕ) → ReadsErr item_format cursor at after → cursor.offset < length bytes → ItemsFailAt bytes at
  reading_stops after at failed more = record {
    listed = listed;
    after = cursor.offset;
    spelled = listed_here (omega (arith, more));
    more = more;
    fails = subst (λ (b : List ℕ). item_format.FailsAt b cursor.offset at) so_far.same (item_exact.fails cursor.bytes.now cursor.offset at (stands cursor) failed.reads);
  }

  pub reading_is_over : length bytes ≤ cursor.offset → AreItems bytes listed
  reading_is_over over =
      let spelling = times_spelling item_format (length listed) listed refl in
      record {
        allowed = all_items item_format (length listed) listed refl so_far.allowed;
        whole = so_far.here ∙ ap (λ (t : List ℕ). spelling_all listed ++ t) (drop_all cursor.offset bytes over) ∙ append-nil (spelling_all listed) ∙ sym spelling;
      }

-- an error points at an offset, or nowhere
pub reading_ends_at : (bytes : List ℕ) (cursor : Cursor) (listed : List Item) → IsReadTo bytes cursor listed → (e : ReadEnd) (after : Cursor) → ReadsErrAt item_format cursor (end_at e) after
    → cursor.offset < length bytes → ReadsItems bytes (Err e)
reading_ends_at bytes cursor listed so_far (end.Bad at) after failed more = reading_stops bytes cursor listed so_far after at failed more
reading_ends_at bytes cursor listed so_far end.NoMemory after failed more = tt
