-- Small registers, items and answers; the checker computes each line. What is refused, and what comes out?
use Rattle.std.specs.Prelude.{◌≡◌, ℕ, ◌+◌, List, [], ◌∷◌, length, map, replicate, codes, None, Some}
use Rattle.mb_format.specs.Format.{Spells, FailsWhole}
use Rattle.mb_model.specs.declared.limits.TheConstants.{FILE_LIMIT}
use Rattle.mb_model.specs.declared.key.PublicKey.{PublicKey}
use Rattle.mb_model.specs.outside.Texts.{line_with_lf}
use Rattle.mb_model.specs.chains.Acceptance.{bad_form}
use Rattle.mb_fleet.specs.declared.row.Row.{Row}
use Rattle.mb_fleet.specs.declared.item.Item.TheVariants.{Show, Codes}
use Rattle.mb_fleet.specs.Rows.{AreOrdered}
use Rattle.mb_fleet.specs.RegisterFormat.{register_format}
use Rattle.mb_fleet.specs.ItemFormat.{AreItems, ItemsFailAt}
use Rattle.mb_fleet.specs.Showing.{Answer, newly_added, same, extended, chain_refused, older, forked, full}
use Rattle.mb_fleet.specs.Showing.{Meets, IsChainAnswered}
use Rattle.mb_fleet.specs.Questions.{serials_with, AreCounts}
use Rattle.mb_fleet.specs.Serving.{AreServed, IsTooLong}
use Rattle.mb_fleet.specs.Ends.{HasShortChain}

-- ---- values

-- a device whose serial and hashes repeat one byte each; the hash of its layer 2's code repeats 9
abbrev pub small_row : ℕ → List ℕ → Row
small_row serial hashes = record {
  serial = replicate 16 serial;
  number = 0;
  code = record { one = None; two = Some (replicate 32 9); three = None };
  hashes = map (replicate 32) hashes;
}

-- devices 1 and 3, each with two entries
abbrev pub two_rows : List Row
two_rows = small_row 1 (5 ∷ 6 ∷ []) ∷ small_row 3 (5 ∷ 6 ∷ []) ∷ []

-- ---- bytes

pub record FleetBytesExamples : Type 0 where
  -- the register of no devices
  pub empty : Spells register_format (0x4D ∷ 0x42 ∷ 0x46 ∷ 0x31 ∷ 0 ∷ 0 ∷ []) []
  -- no bytes, another word, 513 devices, a byte too many
  pub nothing : FailsWhole register_format [] 0
  pub other_word : FailsWhole register_format (0x4D ∷ 0x42 ∷ 0x46 ∷ 0x32 ∷ 0 ∷ 0 ∷ []) 0
  pub too_many : FailsWhole register_format (0x4D ∷ 0x42 ∷ 0x46 ∷ 0x31 ∷ 2 ∷ 1 ∷ []) 4
  pub left_over : FailsWhole register_format (0x4D ∷ 0x42 ∷ 0x46 ∷ 0x31 ∷ 0 ∷ 0 ∷ 7 ∷ []) 6
  -- no items, and two
  pub no_items : AreItems [] []
  pub two_items : AreItems (1 ∷ 0 ∷ 0 ∷ 0 ∷ 1 ∷ 7 ∷ 3 ∷ 2 ∷ []) (Show (7 ∷ []) ∷ Codes 2 ∷ [])
  -- a fourth kind of item, and layer 4
  pub fourth_kind : ItemsFailAt (4 ∷ []) 0
  pub fourth_layer : ItemsFailAt (3 ∷ 2 ∷ 3 ∷ 4 ∷ []) 3

pub record FleetBytesCounterExamples : Type 0 where
  -- nothing is a register, nor are rows with one serial
  pub nothing : (rows : List Row) → Spells register_format [] rows → ⊥
  pub twice : (bytes : List ℕ) → Spells register_format bytes (small_row 1 (5 ∷ []) ∷ small_row 1 (6 ∷ []) ∷ []) → ⊥
  pub unordered : AreOrdered (small_row 3 (5 ∷ []) ∷ small_row 1 (5 ∷ []) ∷ []) → ⊥
  -- one item is not an empty list of items, and fails nowhere
  pub other_items : AreItems (3 ∷ 2 ∷ []) [] → ⊥
  pub not_at_fault : (offset : ℕ) → ItemsFailAt (3 ∷ 2 ∷ []) offset → ⊥
  -- an item fails at its layer, and not where it begins
  pub other_offset : ItemsFailAt (3 ∷ 4 ∷ []) 0 → ⊥
  -- a chain that is longer than a file may be
  pub long_chain : (chain : List ℕ) → length chain ≡ FILE_LIMIT + 1 → HasShortChain (Show chain) → ⊥

-- ---- answers

pub record ShownExamples : Type 0 where
  -- device 2 belongs between the two
  pub added : Meets two_rows (small_row 2 (5 ∷ [])) (newly_added (replicate 16 2) 1)
      (small_row 1 (5 ∷ 6 ∷ []) ∷ small_row 2 (5 ∷ []) ∷ small_row 3 (5 ∷ 6 ∷ []) ∷ [])
  pub known : Meets two_rows (small_row 1 (5 ∷ 6 ∷ [])) (same (replicate 16 1) 2) two_rows
  pub longer : Meets two_rows (small_row 1 (5 ∷ 6 ∷ 7 ∷ [])) (extended (replicate 16 1) 3)
      (small_row 1 (5 ∷ 6 ∷ 7 ∷ []) ∷ small_row 3 (5 ∷ 6 ∷ []) ∷ [])
  pub shorter : Meets two_rows (small_row 3 (5 ∷ [])) (older (replicate 16 3) 2) two_rows
  -- another second entry; entries after it make no difference
  pub fork : Meets two_rows (small_row 3 (5 ∷ 7 ∷ 8 ∷ [])) (forked (replicate 16 3) 1) two_rows
  -- no bytes are no chain
  pub no_chain : (maker : PublicKey) → IsChainAnswered maker two_rows [] (chain_refused (bad_form 0)) two_rows

pub record ShownCounterExamples : Type 0 where
  -- a fork is no extension, and does not begin at another entry
  pub extension : (after : List Row)
      → Meets two_rows (small_row 3 (5 ∷ 7 ∷ 8 ∷ [])) (extended (replicate 16 3) 3) after → ⊥
  pub other_place : (after : List Row)
      → Meets two_rows (small_row 3 (5 ∷ 7 ∷ 8 ∷ [])) (forked (replicate 16 3) 2) after → ⊥
  -- an older chain is not the same, and is not taken
  pub older_same : (after : List Row) → Meets two_rows (small_row 3 (5 ∷ [])) (same (replicate 16 3) 1) after → ⊥
  pub older_taken : (answer : Answer) → Meets two_rows (small_row 3 (5 ∷ [])) answer
      (small_row 1 (5 ∷ 6 ∷ []) ∷ small_row 3 (5 ∷ []) ∷ []) → ⊥
  -- two devices do not fill a register, and the new device 2 does not come last
  pub full_of_two : (after : List Row) → Meets two_rows (small_row 2 (5 ∷ [])) full after → ⊥
  pub out_of_order : (answer : Answer) → Meets two_rows (small_row 2 (5 ∷ [])) answer
      (small_row 1 (5 ∷ 6 ∷ []) ∷ small_row 3 (5 ∷ 6 ∷ []) ∷ small_row 2 (5 ∷ []) ∷ []) → ⊥
  -- a refusal leaves the rows
  pub refused : (maker : PublicKey) → IsChainAnswered maker two_rows [] (chain_refused (bad_form 0)) [] → ⊥

pub record QuestionExamples : Type 0 where
  pub found : serials_with 2 (replicate 32 9) two_rows ≡ replicate 16 1 ∷ replicate 16 3 ∷ []
  pub other_layer : serials_with 1 (replicate 32 9) two_rows ≡ []
  pub other_code : serials_with 2 (replicate 32 8) two_rows ≡ []
  pub no_codes : AreCounts 1 two_rows []
  pub answered : (maker : PublicKey) → AreServed maker two_rows (Codes 1 ∷ []) (line_with_lf (codes "codes 0")) two_rows

pub record QuestionCounterExamples : Type 0 where
  -- more than one device is found, and not in descending order
  pub one_found : serials_with 2 (replicate 32 9) two_rows ≡ replicate 16 1 ∷ [] → ⊥
  pub descending : serials_with 2 (replicate 32 9) two_rows ≡ replicate 16 3 ∷ replicate 16 1 ∷ [] → ⊥
  -- a code of two devices is neither left out nor counted once; a code of no device is not listed
  pub none_counted : AreCounts 2 two_rows [] → ⊥
  pub counted_once : AreCounts 2 two_rows (record { hash = replicate 32 9; count = 1 } ∷ []) → ⊥
  pub counted_for_none : AreCounts 1 two_rows (record { hash = replicate 32 9; count = 0 } ∷ []) → ⊥
  -- an empty list of items has no answers, and they are not too long; a question changes no row
  pub unasked : (maker : PublicKey) (after : List Row)
      → AreServed maker two_rows [] (line_with_lf (codes "codes 0")) after → ⊥
  pub questions_change_nothing : (maker : PublicKey) (text : List ℕ)
      → AreServed maker two_rows (Codes 1 ∷ []) text [] → ⊥
  pub not_too_long : (maker : PublicKey) → IsTooLong maker two_rows [] → ⊥
