-- Small registers, items and answers, computed.
use Rattle.std.proofs.Common.{◌≡◌, ◌<◌, ◌+◌, ℕ, List, [], ◌∷◌, ◌++◌, length, get_or, Ok, Err, refl, sym, ap, subst, ◌∙◌, arith, rules, lit≤, ltb, true}
use Rattle.std.specs.Prelude.{replicate}
use Rattle.std.specs.List.{AllByRecursion}
use Rattle.std.specs.Fmt.{digits}
use Rattle.std.proofs.lemmas.Option.{same_Some}
use Rattle.mb_format.specs.Format.{Format, Spells}
use Rattle.mb_format.specs.Combinators.{number_bytes, items, times}
use Rattle.mb_format.specs.Reading.{IsExact, reads_whole, raw_at, number_at}
use Rattle.mb_format.proofs.Examples.{are_bytes, fails_at}
use Rattle.mb_format.proofs.Compositions.{times_exact}
use Rattle.mb_format.proofs.Whole.{at_start, IsExactWhole-from_exact, IsClearWhole-from_exact}
use Rattle.mb_model.specs.declared.key.PublicKey.{PublicKey}
use Rattle.mb_model.specs.chains.Lines.{text_of}
use Rattle.mb_model.specs.records.ChainFormat.{chain_format}
use Rattle.mb_model.specs.chains.Acceptance.{bad_form}
use Rattle.mb_model.proofs.EntryFormatLaws.{chain_exact}
use Rattle.mb_fleet.specs.declared.row.Row.{Row}
use Rattle.mb_fleet.specs.declared.item.Item.{Item}
use Rattle.mb_fleet.specs.declared.item.Item.TheVariants.{Show, Codes}
use Rattle.mb_fleet.specs.Order.{IsBefore}
use Rattle.mb_fleet.specs.Rows.{AreOrdered}
use Rattle.mb_fleet.specs.RegisterFormat.{rows_format, register_format}
use Rattle.mb_fleet.specs.ItemFormat.{show_format, find_format, codes_item_format, item_format, AreItems, ItemsFailAt}
use Rattle.mb_fleet.specs.Showing.{Answer, newly_added, same, extended, chain_refused, older, forked, full, is_added, is_same, is_extended, is_older, is_forked, IsChainAnswered, is_chain_refused}
use Rattle.mb_fleet.specs.Questions.{AreCounts}
use Rattle.mb_fleet.specs.Serving.{count_lines, FleetRun}
use Rattle.mb_fleet.specs.Examples.{small_row, two_rows, FleetBytesExamples, FleetBytesCounterExamples, ShownExamples, ShownCounterExamples, QuestionExamples, QuestionCounterExamples}
use Rattle.mb_fleet.proofs.Ascending.{before_trans, not_before_itself, before_differs}
use Rattle.mb_fleet.proofs.ClearItems.{items_are_clear}
use Rattle.mb_fleet.proofs.Determined.{rows_have_one_answer, chains_have_one_answer}
use Rattle.mb_fleet.proofs.Reading.{item_exact}
use Rattle.mb_fleet.specs.ExactFormats.{register_exact}
use Rattle.mb_fleet.proofs.Registers.{spelled_fits}

-- ---- bytes

spells : {A : Type 0} {f : Format A} → IsExact f → (bytes : List ℕ) (value : A) → AllByRecursion (λ b. ltb b 256 ≡ true) bytes → reads_whole f bytes ≡ Ok value → Spells f bytes value
spells exact bytes value small e = (IsExactWhole-from_exact exact).found bytes value (are_bytes bytes small) e

-- after these items the next fails
next_fails : (bytes : List ℕ) (listed : List Item) (after offset : ℕ) → AllByRecursion (λ b. ltb b 256 ≡ true) bytes → after < length bytes
    → (times (length listed) item_format).reads bytes 0 ≡ Ok (listed, after) → item_format.reads bytes after ≡ Err offset → ItemsFailAt bytes offset
next_fails bytes listed after offset small more reads fails = record {
  listed = listed;
  after = after;
  spelled = (times_exact (length listed) item_exact).found bytes 0 listed after (at_start bytes (are_bytes bytes small)) reads;
  more = more;
  fails = item_exact.fails bytes after offset (record { are_bytes = are_bytes bytes small; within = omega (arith, more) }) fails;
}

pub bytes_examples : FleetBytesExamples
unfolding register_format rows_format item_format show_format find_format codes_item_format items number_at raw_at number_bytes
bytes_examples = record {
  empty = spells register_exact (0x4D ∷ 0x42 ∷ 0x46 ∷ 0x31 ∷ 0 ∷ 0 ∷ []) [] (search rules depth 20) refl;
  nothing = fails_at register_exact [] 0 tt refl;
  other_word = fails_at register_exact (0x4D ∷ 0x42 ∷ 0x46 ∷ 0x32 ∷ 0 ∷ 0 ∷ []) 0 (search rules depth 20) refl;
  too_many = fails_at register_exact (0x4D ∷ 0x42 ∷ 0x46 ∷ 0x31 ∷ 2 ∷ 1 ∷ []) 4 (search rules depth 20) refl;
  left_over = fails_at register_exact (0x4D ∷ 0x42 ∷ 0x46 ∷ 0x31 ∷ 0 ∷ 0 ∷ 7 ∷ []) 6 (search rules depth 20) refl;
  no_items = spells (times_exact 0 item_exact) [] [] tt refl;
  two_items = spells (times_exact 2 item_exact) (1 ∷ 0 ∷ 0 ∷ 0 ∷ 1 ∷ 7 ∷ 3 ∷ 2 ∷ []) (Show (7 ∷ []) ∷ Codes 2 ∷ []) (search rules depth 20) refl;
  fourth_kind = next_fails (4 ∷ []) [] 0 0 (search rules depth 20) (lit≤ tt) refl refl;
  fourth_layer = next_fails (3 ∷ 2 ∷ 3 ∷ 4 ∷ []) (Codes 2 ∷ []) 2 3 (search rules depth 20) (lit≤ tt) refl refl;
}

one_item : AreItems (3 ∷ 2 ∷ []) (Codes 2 ∷ [])
unfolding item_format codes_item_format items number_at raw_at number_bytes
one_item = spells (times_exact 1 item_exact) (3 ∷ 2 ∷ []) (Codes 2 ∷ []) (search rules depth 20) refl

other_layer : ItemsFailAt (3 ∷ 4 ∷ []) 1
unfolding item_format codes_item_format items number_at raw_at number_bytes
other_layer = next_fails (3 ∷ 4 ∷ []) [] 0 1 (search rules depth 20) (lit≤ tt) refl refl

no_items_spelled : length ((times 0 item_format).spelling []) ≡ 0
unfolding items
no_items_spelled = refl

pub bytes_counter_examples : FleetBytesCounterExamples
bytes_counter_examples = record {
  nothing = λ rows spelled. (IsClearWhole-from_exact register_exact).never_both [] rows 0 (are_bytes [] tt) spelled bytes_examples.nothing;
  twice = λ bytes spelled. not_before_itself (replicate 16 1) (spelled_fits _ spelled.allowed).ordered.0.0;
  unordered = λ ordered. not_before_itself (replicate 16 1) (before_trans (replicate 16 1) (replicate 16 3) (replicate 16 1) refl ordered.0.0);
  other_items = λ are. absurd (omega (arith, ap length are.whole, no_items_spelled));
  not_at_fault = λ offset fails. items_are_clear.never_both (3 ∷ 2 ∷ []) (Codes 2 ∷ []) offset (are_bytes (3 ∷ 2 ∷ []) (search rules depth 20)) one_item fails;
  other_offset = λ fails. absurd (omega (arith, items_are_clear.one_offset (3 ∷ 4 ∷ []) 0 1 (are_bytes (3 ∷ 4 ∷ []) (search rules depth 20)) fails other_layer));
  long_chain = λ chain long short. absurd (omega (arith, long, short));
}

-- ---- answers

no_chain : (maker : PublicKey) → IsChainAnswered maker two_rows [] (chain_refused (bad_form 0)) two_rows
unfolding chain_format raw_at number_at
no_chain maker = is_chain_refused (bad_form 0) (record { of_entries = tt; refused = λ n. fails_at chain_exact [] 0 tt refl }) refl refl

apart : (a b : ℕ) → IsBefore (replicate 16 a) (replicate 16 b) → replicate 16 a ≡ replicate 16 b → ⊥
apart a b before e = before_differs (replicate 16 a) (replicate 16 b) before e

pub shown_examples : ShownExamples
shown_examples = record {
  added = is_added ((λ e. apart 1 2 refl e), ((λ e. apart 2 3 refl (sym e)), tt)) (lit≤ tt) (small_row 1 (5 ∷ 6 ∷ []) ∷ []) (small_row 3 (5 ∷ 6 ∷ []) ∷ []) refl
      (record { below = (refl, tt); above = (refl, tt) }) refl refl;
  known = is_same [] (small_row 1 (5 ∷ 6 ∷ [])) (small_row 3 (5 ∷ 6 ∷ []) ∷ []) (record { split = refl; serial = refl }) refl refl refl;
  longer = is_extended [] (small_row 1 (5 ∷ 6 ∷ [])) (small_row 3 (5 ∷ 6 ∷ []) ∷ []) (record { split = refl; serial = refl })
      (record { more = replicate 32 7 ∷ []; some = λ e. absurd (omega (arith, ap length e)); whole = refl }) refl refl;
  shorter = is_older (small_row 1 (5 ∷ 6 ∷ []) ∷ []) (small_row 3 (5 ∷ 6 ∷ [])) [] (record { split = refl; serial = refl })
      (record { more = replicate 32 6 ∷ []; some = λ e. absurd (omega (arith, ap length e)); whole = refl }) refl refl;
  fork = is_forked (small_row 1 (5 ∷ 6 ∷ []) ∷ []) (small_row 3 (5 ∷ 6 ∷ [])) [] (record { split = refl; serial = refl }) 1 (record {
    equal = refl;
    in_a = lit≤ tt;
    in_b = lit≤ tt;
    differ = λ e. before_differs (replicate 32 6) (replicate 32 7) refl (same_Some (replicate 32 6) (replicate 32 7) e);
  }) refl refl;
  no_chain = no_chain;
}

-- what tells answers and lists of rows apart
abbrev kind : Answer → ℕ
kind (newly_added serial n) = 0
kind (same serial n) = 1
kind (extended serial n) = 2
kind (chain_refused why) = 3
kind (older serial have) = 4
kind (forked serial place) = 5 + place
kind full = 4096

abbrev entries_in : List Row → ℕ
entries_in [] = 0
entries_in (row ∷ rows) = length row.hashes + entries_in rows

abbrev second_byte : List Row → ℕ
second_byte [] = 0
second_byte (a ∷ []) = 0
second_byte (a ∷ b ∷ rows) = get_or b.serial 0 0

in_order : AreOrdered two_rows
in_order = ((refl, tt), (tt, tt))

pub shown_counter_examples : ShownCounterExamples
shown_counter_examples = record {
  extension = λ after meets. absurd (omega (arith, ap kind (rows_have_one_answer two_rows _ _ _ two_rows after in_order shown_examples.fork meets).0));
  other_place = λ after meets. absurd (omega (arith, ap kind (rows_have_one_answer two_rows _ _ _ two_rows after in_order shown_examples.fork meets).0));
  older_same = λ after meets. absurd (omega (arith, ap kind (rows_have_one_answer two_rows _ _ _ two_rows after in_order shown_examples.shorter meets).0));
  older_taken = λ answer meets. absurd (omega (arith, ap entries_in (rows_have_one_answer two_rows _ _ answer two_rows _ in_order shown_examples.shorter meets).1));
  full_of_two = λ after meets. absurd (omega (arith, ap kind (rows_have_one_answer two_rows _ _ _ _ after in_order shown_examples.added meets).0));
  out_of_order = λ answer meets. absurd (omega (arith, ap second_byte (rows_have_one_answer two_rows _ _ answer _ _ in_order shown_examples.added meets).1));
  refused = λ maker answered. absurd (omega (arith, ap length (chains_have_one_answer maker two_rows [] _ _ two_rows [] (are_bytes [] tt) in_order (no_chain maker) answered).1));
}

-- ---- questions

no_codes : AreCounts 1 two_rows []
no_codes = record { ordered = tt; some = tt; counted = λ hash. refl }

pub question_examples : QuestionExamples
unfolding digits
question_examples = record {
  found = refl;
  other_layer = refl;
  other_code = refl;
  no_codes = no_codes;
  answered = λ maker. record {
    lines = count_lines [];
    run = (count_lines [], [], two_rows, ([], no_codes, refl, refl), (refl, refl), refl);
    text_is = refl;
    short = lit≤ tt;
  };
}

none_in_front : {A : Type 0} (front rest : List A) → [] ≡ front ++ rest → front ≡ []
none_in_front [] rest e = refl
none_in_front (x ∷ front) rest e = absurd (omega (arith, ap length e))

abbrev first_byte : List (List ℕ) → ℕ
first_byte [] = 0
first_byte (x ∷ xs) = get_or x 0 0

pub question_counter_examples : QuestionCounterExamples
question_counter_examples = record {
  one_found = λ e. absurd (omega (arith, ap length e));
  descending = λ e. (let first : 1 ≡ 3 = ap first_byte e in absurd (omega (arith, first)));
  none_counted = λ are. (let e : 0 ≡ 2 = are.counted (replicate 32 9) in absurd (omega (arith, e)));
  counted_once = λ are. (let e : 1 ≡ 2 = are.counted (replicate 32 9) in absurd (omega (arith, e)));
  counted_for_none = λ are. absurd (omega (arith, are.some.0));
  unasked = λ maker after served. absurd (omega (arith, ap length (served.text_is ∙ ap text_of served.run.0)));
  questions_change_nothing = λ maker text served. absurd (omega (arith, ap length (served.run.4.1 ∙ served.run.3.3)));
  not_too_long = λ maker long.
      let none = none_in_front long.front long.rest long.split in
      let run = subst (λ (listed : List Item). FleetRun maker two_rows listed long.lines long.after) none long.run in
      absurd (omega (arith, long.long, ap (λ (lines : List (List ℕ)). length (text_of lines)) run.0));
}
