-- What calls of `endorse` and `endorsed` come to.
use Rattle.std.proofs.Common.{suc, ◌≡◌, ◌≢◌, ◌<◌, ◌≤◌, ◌⊎◌, ◌^◌, ◌%◌, ◌/◌, ℕ, ◌+◌, ◌-◌, List, [], ◌∷◌, ◌++◌, inl, inr, None, Some, Bool, true, false, refl, sym, ap, ◌∙◌, subst, arith, codes, length, length-append, if◌then◌else◌}
use Rattle.std.specs.Prelude.{All, map}
use Rattle.std.specs.Int.{w32, w64, to_be_bytes}
use Rattle.mb_format.specs.Combinators.{number_bytes}
use Rattle.mb_format.proofs.Exact.{IsBytes-spelled, IsBytes-none, IsBytes-append, IsBytes-cons}
use Rattle.std.proofs.lemmas.List.Elements.{All-nil, All-cons, All-weaker}
use Rattle.std.proofs.lemmas.List.Kept.{AllPairs-cons}
use Rattle.std.proofs.lemmas.Option.{same_Some}
use Rattle.mb_format.proofs.Bounds as bounds
use Rattle.mb_format.proofs.Fields.{wide8, wide32, wide64}
use Rattle.mb_model.proofs.FormatBounds.{public_key_short}
use Rattle.mb_model.specs.machine.Machine.{off}
use Rattle.mb_format.specs.Format.{IsShort, Format, Spells, IsBytes}
use Rattle.mb_format.specs.Combinators.{same_bytes}
use Rattle.mb_format.specs.Reading.{IsExact}
use Rattle.mb_format.proofs.Fields.{same_bytes-refl, same_bytes-true}
use Rattle.mb_format.proofs.Whole.{IsClearWhole-from_exact}
use Rattle.mb_model.specs.declared.key.PublicKey.{PublicKey}
use Rattle.mb_model.specs.outside.Board.{not_used}
use Rattle.mb_model.specs.records.KeyFormat.{public_key_format}
use Rattle.mb_model.specs.outside.Texts.{line_with_lf}
use Rattle.mb_model.proofs.KeyFormatLaws.{public_key_exact}
use Rattle.mb_model_commands.specs.declared.role.Place.{Place}
use Rattle.mb_model_commands.specs.declared.role.Role.{Role}
use Rattle.mb_model_commands.specs.declared.role.Role.TheVariants as role
use Rattle.mb_model_commands.specs.Commands.{Input, Command, read, write, print, HasRead, Past, Ended, end_seen_from, input_is_too_long, input_is_faulty, input_is_not_read, memory_lacks, PrintEnds, text_is_printed, text_is_not_printed, CommandEnds, at_first, IsFaultless, HasInputsFor, ComesToRefusal, role_word}
use Rattle.mb_model_commands.specs.Inputs.{binary_input, root_input}
use Rattle.mb_model_commands.specs.Outside.{Outside, read_once, by_fault, by_absence, WritesFile, Adds, HasRisen, count_after_call}
use Rattle.mb_model_commands.specs.Sign.{index_text}
use Rattle.mb_console.proofs.Completing.{raised_rises, command_completes, says_reads}
use Rattle.mb_hss.specs.declared.key.HssKey.{HssKey}
use Rattle.mb_hss.specs.declared.maker.Maker.{Maker}
use Rattle.mb_hss.specs.ExactFormats.{hss_key_exact, maker_exact}
use Rattle.mb_hss.specs.HssKeyFormat.{hss_key_format}
use Rattle.mb_hss.specs.HssVerification.{HssVerifies}
use Rattle.mb_hss.specs.MakerFormat.{maker_format}
use Rattle.mb_hss.specs.MakerKeys.{IsMaker, maker_key}
use Rattle.mb_hss.specs.MakerSignatures.{maker_signature}
use Rattle.mb_hss.proofs.MakerLemmas.{length-maker_signature}
use Rattle.mb_hss.proofs.VerifyLemmas.{makers_verify}
use Rattle.mb_tools_hss.specs.Endorse.{EndorseNames, endorse, endorse_root, use_number, endorsed_text, number_used}
use Rattle.mb_tools_hss.specs.Endorsed.{EndorsedNames, endorsed, judge_endorsement}
use Rattle.mb_tools_hss.specs.MakerInputs.{maker_input, endorsement_input}
use Rattle.mb_model_histories.proofs.KeyFileLemmas.{stopped_files, same_files, out_left}
use Rattle.mb_top_laws.proofs.FileLemmas.{LeavesFiles, stops_undone, input_undone}
use Rattle.mb_model_histories.specs.KeyFileLaws.{Files}
use Rattle.mb_top_laws.specs.EndorsementLaws.{HoldsValue, JudgesEndorsement, SaysEndorsed, EndorsementsAreAccepted, EmptyFilesAreRefused, LeavesMaker, leaves_all, fails_to_write_key, uses_up_number, EndorsingUsesUpItsNumber, EndorseCall, IsCallOn, AreCallsInTurn, UsesNumber, DoneCallsUseNumbers, NumbersInTurnDiffer, IsDoneOver, OldMakersEndorseAgain}

-- ---- files by name

-- a file that is read spells the value that it holds
one_value : {A : Type 0} (format : Format A) → IsExact format → (name found : List ℕ) (value read_value : A) (outside : Outside) (files : Files) → outside.files ≡ Some files
    → HoldsValue format files name value → HasRead outside name found → Spells format found read_value → read_value ≡ value
one_value format exact name found value read_value outside files is holds has spelled =
    let same : found ≡ holds.0 = same_Some found holds.0 (sym (has.held files is) ∙ holds.1) in
    (IsClearWhole-from_exact exact).one_value found read_value value has.are_bytes spelled (subst (λ b. Spells format b value) (sym same) holds.3)

-- ---- a number is used

next_allowed : (maker : Maker) → maker_format.Allowed maker → maker.next ≢ 32 ^ maker.levels → maker_format.Allowed (number_used maker)
unfolding maker_format
next_allowed maker allowed left = (tt, (allowed.1.0, (allowed.1.1.0, (omega arith, omega (arith, allowed.1.1.1.1, left)))))

next_below : (maker : Maker) → maker_format.Allowed maker → maker.next ≢ 32 ^ maker.levels → maker.next < 32 ^ maker.levels
unfolding maker_format
next_below maker allowed left = omega (arith, allowed.1.1.1.1, left)

-- ---- bytes of a maker's file

byte_of : (n : ℕ) → n % 256 < 256
byte_of n = omega arith

all_bytes : (numbers : List ℕ) → IsBytes (map (λ n. n % 256) numbers)
all_bytes [] = IsBytes-none
all_bytes (n ∷ numbers) = IsBytes-cons (n % 256) (map (λ n. n % 256) numbers) (byte_of n) (all_bytes numbers)

number_is_bytes : (n : ℕ) → IsBytes (to_be_bytes w64 n)
number_is_bytes n =
    all_bytes (n / 72057594037927936 ∷ n / 281474976710656 ∷ n / 1099511627776 ∷ n / 4294967296 ∷ n / 16777216 ∷ n / 65536 ∷ n / 256 ∷ n ∷ [])

maker_bytes : (maker : Maker) → IsBytes (maker_format.spelling maker) → IsBytes (maker_format.spelling (number_used maker))
unfolding maker_format number_bytes
maker_bytes maker are =
    let front : List ℕ = 77 ∷ 66 ∷ 75 ∷ 50 ∷ maker.levels % 256 ∷ [] in
    let seed : IsBytes maker.seed = IsBytes-spelled (maker.seed ++ to_be_bytes w64 maker.next) maker.seed (to_be_bytes w64 maker.next) (λ i. are (suc (suc (suc (suc (suc i)))))) refl in
    IsBytes-append front (maker.seed ++ to_be_bytes w64 (maker.next + 1))
    (IsBytes-spelled (maker_format.spelling maker) front (maker.seed ++ to_be_bytes w64 maker.next) are refl)
    (IsBytes-append maker.seed (to_be_bytes w64 (maker.next + 1)) seed (number_is_bytes (maker.next + 1)))

-- ---- what a call leaves

undone : (names : EndorseNames) (maker : Maker) (before after : Files) (ending : Ended) → ending.before.files ≡ Some before → ending.after.files ≡ Some after → LeavesFiles ending
    → LeavesMaker names maker before after ending.status
undone names maker before after ending is_before is_after leaves =
    leaves_all (same_files before after ending.before.files ending.after.files is_before is_after leaves.0) leaves.1

module _ (names : EndorseNames) (maker : Maker) (allowed : maker_format.Allowed maker) (are : IsBytes (maker_format.spelling maker)) (apart : names.out ≢ names.key) (before after : Files) where
  number_left : (root : PublicKey) (ending : Ended) → HoldsValue public_key_format before names.root root → maker.next ≢ 32 ^ maker.levels → ending.before.files ≡ Some before → ending.after.files ≡ Some after
      → CommandEnds (use_number names maker root) at_first ending → LeavesMaker names maker before after ending.status
  unfolding CommandEnds use_number
  number_left root ending held left is_before is_after (inl ends) =
      let kept = ends.fails.others before is_before in
      let same : after ≡ kept.0 = same_Some after kept.0 (sym is_after ∙ stopped_files _ 5 at_first (end_seen_from ends.mid ending) ends.stops ∙ kept.1) in
      fails_to_write_key (λ name other. ap (λ (f : Files). f name) same ∙ kept.2 name other) ends.stops.status_is
  number_left root ending held left is_before is_after (inr (inr wants)) =
      undone names maker before after ending is_before is_after (stops_undone _ 6 at_first ending (omega arith) wants.stops)
  number_left root ending held left is_before is_after (inr (inl (mid, writes, rest))) =
      let kept = writes.others before is_before in
      let now : List ℕ = maker_format.spelling (number_used maker) in
      let sig : List ℕ = maker_signature maker maker.next (endorsed_text root) in
      let out = out_left names.out (index_text maker.next) sig role.Out kept.0 after (end_seen_from mid ending) kept.1 is_after rest in
      uses_up_number (next_below maker allowed left)
      (now, out.0 names.key (λ same. apart (sym same)) ∙ writes.holds kept.0 kept.1, maker_bytes maker are, record { allowed = next_allowed maker allowed left; whole = refl })
      (λ name not_key not_out. out.0 name not_out ∙ kept.2 name not_key)
      (elim (out.1) [ inl holds ↦ inl (root, held, holds) | inr failed ↦ inr failed ])

  root_left : (root : PublicKey) (ending : Ended) → HoldsValue public_key_format before names.root root → ending.before.files ≡ Some before → ending.after.files ≡ Some after
      → CommandEnds (endorse_root names maker root) at_first ending → LeavesMaker names maker before after ending.status
  unfolding CommandEnds endorse_root
  root_left root ending held is_before is_after (inl (spent, inl stops)) =
      undone names maker before after ending is_before is_after (stops_undone _ 7 at_first ending (omega arith) stops)
  root_left root ending held is_before is_after (inl (spent, inr wants)) =
      undone names maker before after ending is_before is_after (stops_undone _ 6 at_first ending (omega arith) wants.stops)
  root_left root ending held is_before is_after (inr (inl (left, used))) = number_left root ending held left is_before is_after used
  root_left root ending held is_before is_after (inr (inr wants)) =
      undone names maker before after ending is_before is_after (stops_undone _ 6 at_first ending (omega arith) wants.stops)

  key_left : (ending : Ended) → ending.before.files ≡ Some before → ending.after.files ≡ Some after → CommandEnds (read (root_input names.root) (endorse_root names maker)) at_first ending
      → LeavesMaker names maker before after ending.status
  unfolding CommandEnds
  key_left ending is_before is_after (inl ends) = undone names maker before after ending is_before is_after (input_undone (root_input names.root) at_first ending ends)
  key_left ending is_before is_after (inr (found, has, (root, spelled, ends))) =
      root_left root (end_seen_from (read_once ending.before) ending) (found, has.held before is_before, has.are_bytes, spelled) is_before is_after ends

-- the maker that is read is the one that KEY holds
maker_read : (names : EndorseNames) (maker value : Maker) (ending : Ended) (before : Files) (found : List ℕ) → ending.before.files ≡ Some before → HoldsValue maker_format before names.key maker
    → HasRead ending.before names.key found → Spells maker_format found value → CommandEnds (read (root_input names.root) (endorse_root names value)) at_first (end_seen_from (read_once ending.before) ending)
    → CommandEnds (read (root_input names.root) (endorse_root names maker)) at_first (end_seen_from (read_once ending.before) ending)
maker_read names maker value ending before found is_before holds has spelled ends =
    subst (λ (m : Maker). CommandEnds (read (root_input names.root) (endorse_root names m)) at_first (end_seen_from (read_once ending.before) ending))
    (one_value maker_format maker_exact names.key found maker value ending.before before is_before holds has spelled) ends

pub endorsing_uses_up_its_number : EndorsingUsesUpItsNumber
unfolding endorse CommandEnds
endorsing_uses_up_its_number names ending before after maker (inl ends) is_before is_after holds apart =
    undone names maker before after ending is_before is_after (input_undone (maker_input names.key) at_first ending ends)
endorsing_uses_up_its_number names ending before after maker (inr (found, has, (value, spelled, ends))) is_before is_after holds apart =
    key_left names maker holds.3.allowed (subst IsBytes holds.3.whole holds.2) apart before after (end_seen_from (read_once ending.before) ending) is_before is_after
    (maker_read names maker value ending before found is_before holds has spelled ends)

-- ---- a call that is done

module _ (names : EndorseNames) (maker : Maker) (root : PublicKey) (before after : Files) where
  -- what OUT holds, and that a number was left
  abbrev IsEndorsed : Type 0
  IsEndorsed = (maker.next ≢ 32 ^ maker.levels) × (after names.out ≡ Some (maker_signature maker maker.next (endorsed_text root)))

  number_done : (ending : Ended) → maker.next ≢ 32 ^ maker.levels → ending.before.files ≡ Some before → ending.after.files ≡ Some after → ending.status ≡ 0
      → CommandEnds (use_number names maker root) at_first ending → IsEndorsed
  unfolding CommandEnds use_number
  number_done ending left is_before is_after done (inl ends) = absurd (omega (arith, done, ends.stops.status_is))
  number_done ending left is_before is_after done (inr (inr wants)) = absurd (omega (arith, done, wants.stops.status_is))
  number_done ending left is_before is_after done (inr (inl (mid, writes, rest))) =
      let kept = writes.others before is_before in
      let sig : List ℕ = maker_signature maker maker.next (endorsed_text root) in
      let out = out_left names.out (index_text maker.next) sig role.Out kept.0 after (end_seen_from mid ending) kept.1 is_after rest in
      elim (out.1) [ inl holds ↦ (left, holds) | inr failed ↦ absurd (omega (arith, done, failed)) ]

  root_done : (ending : Ended) → ending.before.files ≡ Some before → ending.after.files ≡ Some after → ending.status ≡ 0 → CommandEnds (endorse_root names maker root) at_first ending → IsEndorsed
  unfolding CommandEnds endorse_root
  root_done ending is_before is_after done (inl (spent, inl stops)) = absurd (omega (arith, done, stops.status_is))
  root_done ending is_before is_after done (inl (spent, inr wants)) = absurd (omega (arith, done, wants.stops.status_is))
  root_done ending is_before is_after done (inr (inl (left, used))) = number_done ending left is_before is_after done used
  root_done ending is_before is_after done (inr (inr wants)) = absurd (omega (arith, done, wants.stops.status_is))

  key_done : (ending : Ended) → HoldsValue public_key_format before names.root root → ending.before.files ≡ Some before → ending.after.files ≡ Some after → ending.status ≡ 0
      → CommandEnds (read (root_input names.root) (endorse_root names maker)) at_first ending → IsEndorsed
  unfolding CommandEnds
  key_done ending held is_before is_after done (inl ends) = absurd ((input_undone (root_input names.root) at_first ending ends).1 done)
  key_done ending held is_before is_after done (inr (found, has, (value, spelled, ends))) =
      root_done (end_seen_from (read_once ending.before) ending) is_before is_after done
      (subst (λ (r : PublicKey). CommandEnds (endorse_root names maker r) at_first (end_seen_from (read_once ending.before) ending))
      (one_value public_key_format public_key_exact names.root found root value ending.before before is_before held has spelled) ends)

  call_done : (ending : Ended) → HoldsValue maker_format before names.key maker → HoldsValue public_key_format before names.root root → ending.before.files ≡ Some before
      → ending.after.files ≡ Some after → ending.status ≡ 0 → CommandEnds (endorse names) at_first ending → IsEndorsed
  unfolding endorse CommandEnds
  call_done ending holds held is_before is_after done (inl ends) = absurd ((input_undone (maker_input names.key) at_first ending ends).1 done)
  call_done ending holds held is_before is_after done (inr (found, has, (value, spelled, ends))) =
      key_done (end_seen_from (read_once ending.before) ending) held is_before is_after done (maker_read names maker value ending before found is_before holds has spelled ends)

-- ---- calls in turn

module _ (key : List ℕ) (call : EndorseCall) (is : IsCallOn key call) where
  left_so : LeavesMaker call.names call.found call.before call.after call.ending.status
  left_so =
      endorsing_uses_up_its_number call.names call.ending call.before call.after call.found is.ends is.shows is.shows_after
      (subst (λ (k : List ℕ). HoldsValue maker_format call.before k call.found) (sym is.on) is.finds) (λ same. is.apart (same ∙ is.on))

  -- two makers that one file holds
  one_held : (files : Files) (one other : Maker) → HoldsValue maker_format files key one → HoldsValue maker_format files key other → one ≡ other
  one_held files one other first second =
      let same : second.0 ≡ first.0 = same_Some second.0 first.0 (sym second.1 ∙ first.1) in
      (IsClearWhole-from_exact maker_exact).one_value first.0 one other first.2 first.3 (subst (λ b. Spells maker_format b other) same second.3)

  left_used : HoldsValue maker_format call.after call.names.key (number_used call.found) → call.left ≡ number_used call.found
  left_used holds = one_held call.after call.left (number_used call.found) is.leaves (subst (λ (k : List ℕ). HoldsValue maker_format call.after k (number_used call.found)) is.on holds)

  -- KEY has the maker that it had, or one more of its numbers is used
  left_by : LeavesMaker call.names call.found call.before call.after call.ending.status → (call.left ≡ call.found) ⊎ (call.left ≡ number_used call.found)
  left_by (leaves_all stays undone) =
      inl (one_held call.after call.left call.found is.leaves (is.finds.0, stays key ∙ is.finds.1, is.finds.2, is.finds.3))
  left_by (fails_to_write_key others failed) = is.whole failed
  left_by (uses_up_number less holds others out) = inr (left_used holds)

  used_by : call.ending.status ≡ 0 → LeavesMaker call.names call.found call.before call.after call.ending.status → UsesNumber call.found.next call
  used_by done (leaves_all stays undone) = absurd (undone done)
  used_by done (fails_to_write_key others failed) = absurd (omega (arith, done, failed))
  used_by done (uses_up_number less holds others out) = record { found = refl; left = left_used holds }

  goes_up : call.found.next ≤ call.left.next
  goes_up = elim (left_by left_so) [
    | inl same ↦ omega (arith, ap (λ (m : Maker). m.next) same)
    | inr used ↦ omega (arith, ap (λ (m : Maker). m.next) used)
  ]

pub done_calls_use_numbers : DoneCallsUseNumbers
done_calls_use_numbers key call is done = used_by key call is done (left_so key call is)

-- the numbers of later calls are not below the next one
later_above : (key : List ℕ) (first : Maker) (calls : List EndorseCall) (bound : ℕ) → bound ≤ first.next → AreCallsInTurn key first calls
    → All (λ later. (other : ℕ) → UsesNumber other later → bound ≤ other) calls
later_above key first [] bound below turn = All-nil (λ (later : EndorseCall). (other : ℕ) → UsesNumber other later → bound ≤ other)
later_above key first (call ∷ calls) bound below turn =
    let found : call.found.next ≡ first.next = ap (λ (m : Maker). m.next) turn.0 in
    All-cons (λ (later : EndorseCall). (other : ℕ) → UsesNumber other later → bound ≤ other) call calls
    (λ other uses. omega (arith, uses.found, found, below))
    (later_above key call.left calls bound (omega (arith, below, found, goes_up key call turn.1)) turn.2)

pub numbers_in_turn_differ : NumbersInTurnDiffer
numbers_in_turn_differ key first [] turn = λ i j d less within. absurd (omega (arith, within))
numbers_in_turn_differ key first (call ∷ calls) turn =
    let Apart : EndorseCall → EndorseCall → Type 0 = λ sooner later. (number other : ℕ) → UsesNumber number sooner → UsesNumber other later → number < other in
    AllPairs-cons Apart call calls
    (All-weaker (λ (later : EndorseCall). (other : ℕ) → UsesNumber other later → call.left.next ≤ other) (λ later. Apart call later)
    (λ later above number other uses also. omega (arith, uses.found, ap (λ (m : Maker). m.next) uses.left, above other also)) calls
    (later_above key call.left calls call.left.next (omega arith) turn.2))
    (numbers_in_turn_differ key call.left calls turn.2)

-- ---- calls over one KEY

put : List ℕ → List ℕ → Files → Files
put name bytes files other = if same_bytes other name then Some bytes else files other

put_here : (name bytes : List ℕ) (files : Files) → put name bytes files name ≡ Some bytes
unfolding put
put_here name bytes files = ap (λ (b : Bool). if b then Some bytes else files name) (same_bytes-refl name)

put_beside : (name bytes : List ℕ) (files : Files) (other : List ℕ) → other ≢ name → put name bytes files other ≡ files other
unfolding put
put_beside name bytes files other apart = by (same_bytes other name) refl
  where
    by : (b : Bool) → same_bytes other name ≡ b → (if b then Some bytes else files other) ≡ files other
    by true is = absurd (apart (same_bytes-true other name is))
    by false is = refl

-- a host that shows its files, and nothing else
abbrev shows_files : Files → Outside
shows_files files = record { files = Some files; printed = None; read_faults = 0; absences = 0; write_faults = 0; reads = 0; writes = 0; prints = 0 }

abbrev written : List ℕ → List ℕ → Files → Outside → Outside
written name bytes files outside = record outside { files = Some (put name bytes files); writes = count_after_call outside.writes }

is_written : (name bytes : List ℕ) (files : Files) (outside : Outside) → outside.files ≡ Some files → WritesFile name bytes outside (written name bytes files outside)
is_written name bytes files outside is = record {
  stays = refl;
  others = λ now shown.
      let same : files ≡ now = same_Some files now (sym is ∙ shown) in
      (put name bytes files, refl, λ other apart. put_beside name bytes files other apart ∙ ap (λ (f : Files). f other) same);
  holds = λ now shown. ap (λ (f : Files). f name) (sym (same_Some (put name bytes files) now shown)) ∙ put_here name bytes files;
}

maker_short : IsShort maker_format 45
unfolding maker_format
maker_short = bounds.then_value_short (bounds.mark_short _) (bounds.as_record_short _ _ (bounds.both_short (bounds.between_short 1 8 wide8) (λ levels within. bounds.pair_short bounds.raw_short (bounds.between_short 0 (32 ^ levels) wide64))))

hss_key_short : IsShort hss_key_format 60
unfolding hss_key_format
hss_key_short = bounds.as_record_short _ _ (bounds.pair_short (bounds.between_short 1 8 wide32) public_key_short)

held_read : {A : Type 0} (format : Format A) (n : ℕ) → IsShort format n → n ≤ 4194304 → (name : List ℕ) (value : A) (outside : Outside) (files : Files) → outside.files ≡ Some files
    → (holds : HoldsValue format files name value) → HasRead outside name holds.0
held_read format n short few name value outside files is holds = record {
  held = λ now shown. ap (λ (f : Files). f name) (sym (same_Some files now (sym is ∙ shown))) ∙ holds.1;
  are_bytes = holds.2;
  fits = omega (arith, ap length holds.3.whole, short.short value holds.3.allowed, few);
}

module _ (names : EndorseNames) (files : Files) (maker : Maker) (root : PublicKey) (holds : HoldsValue maker_format files names.key maker) (held : HoldsValue public_key_format files names.root root)
    (left : maker.next ≢ 32 ^ maker.levels) (apart : names.out ≢ names.key) where
  abbrev start : Outside
  start = shows_files files

  abbrev key_now : List ℕ
  key_now = maker_format.spelling (number_used maker)

  abbrev endorsement : List ℕ
  endorsement = maker_signature maker maker.next (endorsed_text root)

  abbrev key_written : Outside
  key_written = written names.key key_now files (read_once (read_once start))

  abbrev out_written : Outside
  out_written = written names.out endorsement (put names.key key_now files) key_written

  abbrev end_of : Ended
  end_of = record {
    before = start;
    after = record out_written { prints = count_after_call out_written.prints };
    used = not_used;
    final = record { memory = record { flash = []; bbram = [] }; phase = off; armed = false };
    status = 0;
  }

  ends_so : CommandEnds (endorse names) at_first end_of
  unfolding endorse endorse_root use_number CommandEnds
  ends_so =
      inr (
        holds.0,
        held_read maker_format 45 maker_short (omega arith) names.key maker start files refl holds,
        (
          maker,
          holds.3,
          inr (
            held.0,
            held_read public_key_format 56 public_key_short (omega arith) names.root root (read_once start) files refl held,
            (
              root,
              held.3,
              inr (inl (
                left,
                inr (inl (
                  key_written,
                  is_written names.key key_now files (read_once (read_once start)) refl,
                  inr (inl (
                    out_written,
                    is_written names.out endorsement (put names.key key_now files) key_written refl,
                    inl (text_is_printed (record { stays = refl; adds = λ shown none. absurd (grind (arith, none)) }) refl refl),
                  )),
                )),
              )),
            ),
          ),
        ),
      )

  abbrev call_of : EndorseCall
  call_of = record {
    names = names;
    ending = end_of;
    before = files;
    after = put names.out endorsement (put names.key key_now files);
    found = maker;
    left = number_used maker;
  }

  call_is : IsCallOn names.key call_of
  call_is = record {
    on = refl;
    apart = apart;
    ends = ends_so;
    shows = refl;
    shows_after = refl;
    finds = holds;
    leaves = (
      key_now,
      put_beside names.out endorsement (put names.key key_now files) names.key (λ same. apart (sym same)) ∙ put_here names.key key_now files,
      maker_bytes maker (subst IsBytes holds.3.whole holds.2),
      record { allowed = next_allowed maker holds.3.allowed left; whole = refl },
    );
    whole = λ failed. inr refl;
  }

  done_over : IsDoneOver names files maker call_of
  done_over = record { names_are = refl; files_are = refl; found_is = refl; is_call = call_is; done = refl }

  uses_next : UsesNumber maker.next call_of
  uses_next = record { found = refl; left = refl }

pub old_makers_endorse_again : OldMakersEndorseAgain
old_makers_endorse_again names second_root files maker root other holds held also left apart =
    let second : EndorseNames = record names { root = second_root } in (
      call_of names files maker root holds held left apart,
      call_of second files maker other holds also left apart,
      done_over names files maker root holds held left apart,
      done_over second files maker other holds also left apart,
      uses_next names files maker root holds held left apart,
      uses_next second files maker other holds also left apart,
    )

-- ---- what `endorsed` comes to

-- An input that is there, short enough and not at fault is read, or memory is lacking.
read_goes : {A : Type 0} (input : Input A) (rest : A → Command) (past : Past) (e : Ended) (files : Files) (bytes : List ℕ) → e.before.files ≡ Some files → files input.name ≡ Some bytes
    → length bytes ≤ 4194304 → ((place : Place) → IsBytes bytes → input.FaultyAt bytes place → ⊥) → IsFaultless e.before e.after → CommandEnds (read input rest) past e
    → (e.status ≡ 6) ⊎ ((found : List ℕ) × HasRead e.before input.name found × ((value : A) × input.Is found value × CommandEnds (rest value) past (end_seen_from (read_once e.before) e)))
unfolding CommandEnds
read_goes input rest past e files bytes told has fits faultless well (inr ends) = inr ends
read_goes input rest past e files bytes told has fits faultless well (inl (memory_lacks wants)) = inl wants.stops.status_is
read_goes input rest past e files bytes told has fits faultless well (inl (input_is_too_long held stops)) =
    let found = held files told in
    let same : found.0 ≡ bytes = same_Some found.0 bytes (sym found.1 ∙ has) in
    absurd (omega (arith, ap length same, fits, found.2))
read_goes input rest past e files bytes told has fits faultless well (inl (input_is_faulty other had place fault stops)) =
    let same : other ≡ bytes = same_Some other bytes (sym (had.held files told) ∙ has) in
    absurd (faultless place (subst IsBytes same had.are_bytes) (subst (λ b. input.FaultyAt b place) same fault))
read_goes input rest past e files bytes told has fits faultless well (inl (input_is_not_read mid (by_fault is) stops)) =
    let reads : e.after.read_faults ≡ count_after_call e.before.read_faults = says_reads (codes "read failed " ++ role_word input.role) mid e.after stops.says ∙ ap (λ (o : Outside). o.read_faults) is in
    absurd (well.read (subst (λ (n : ℕ). HasRisen e.before.read_faults n) (sym reads) (raised_rises e.before.read_faults)))
read_goes input rest past e files bytes told has fits faultless well (inl (input_is_not_read mid (by_absence none is) stops)) =
    absurd (grind (arith, sym has ∙ none files told))

-- a file that spells a value is read as it, or memory is lacking
value_goes : {A : Type 0} (format : Format A) (exact : IsExact format) (n : ℕ) → IsShort format n → n ≤ 4194304 → (role_of : Role) (name : List ℕ) (value : A) (rest : A → Command) (past : Past) (e : Ended) (files : Files)
    → e.before.files ≡ Some files → HoldsValue format files name value → IsFaultless e.before e.after → CommandEnds (read (binary_input role_of format name) rest) past e
    → (e.status ≡ 6) ⊎ CommandEnds (rest value) past (end_seen_from (read_once e.before) e)
value_goes format exact n short few role_of name value rest past e files told holds well ends =
    let clear = IsClearWhole-from_exact exact in
    elim (read_goes (binary_input role_of format name) rest past e files holds.0 told holds.1 (omega (arith, ap length holds.3.whole, short.short value holds.3.allowed, few))
    (λ place are fault. clear.never_both holds.0 value fault.0 are holds.3 fault.2) well ends) [
      | inl lacks ↦ inl lacks
      | inr goes ↦ inr (subst (λ v. CommandEnds (rest v) past (end_seen_from (read_once e.before) e))
          (one_value format exact name goes.0 value goes.2.0 e.before files told holds goes.1 goes.2.1) goes.2.2)
    ]

-- the end of a command that has read once more
abbrev once : Ended → Ended
once e = end_seen_from (read_once e.before) e

still_faultless : (e : Ended) → IsFaultless e.before e.after → IsFaultless (once e).before (once e).after
still_faultless e well = record { read = well.read; write = well.write }

module _ (key : HssKey) (root : PublicKey) (endorsement : List ℕ) (short : length endorsement ≤ 4194304) (names : EndorsedNames) (past : Past) (judged : Ended)
    (is : JudgesEndorsement key root endorsement names past judged) where
  endorsement_judged : (e : Ended) → e.before.files ≡ Some is.files → IsFaultless e.before e.after → CommandEnds (read (endorsement_input names.endorsement) (judge_endorsement key root)) past e
      → (e.status ≡ 6) ⊎ CommandEnds (judge_endorsement key root endorsement) past (once e)
  endorsement_judged e told well ends =
      elim (read_goes (endorsement_input names.endorsement) (judge_endorsement key root) past e is.files endorsement told is.endorsement_held short (λ place are fault. fault) well ends) [
        | inl lacks ↦ inl lacks
        | inr goes ↦
            let same : goes.2.0 ≡ endorsement = goes.2.1 ∙ same_Some goes.0 endorsement (sym (goes.1.held is.files told) ∙ is.endorsement_held) in
            inr (subst (λ (b : List ℕ). CommandEnds (judge_endorsement key root b) past (once e)) same goes.2.2)
      ]

  root_judged : (e : Ended) → e.before.files ≡ Some is.files → IsFaultless e.before e.after → CommandEnds (read (root_input names.root) (λ r. read (endorsement_input names.endorsement) (judge_endorsement key r))) past e
      → (e.status ≡ 6) ⊎ CommandEnds (judge_endorsement key root endorsement) past (once (once e))
  root_judged e told well ends =
      elim (value_goes public_key_format public_key_exact 56 public_key_short (omega arith) role.Root names.root root (λ r. read (endorsement_input names.endorsement) (judge_endorsement key r)) past e is.files told is.root_held well ends) [
        | inl lacks ↦ inl lacks
        | inr goes ↦ endorsement_judged (once e) told (still_faultless e well) goes
      ]

  all_judged : (judged.status ≡ 6) ⊎ CommandEnds (judge_endorsement key root endorsement) past (once (once (once judged)))
  unfolding endorsed
  all_judged =
      elim (value_goes hss_key_format hss_key_exact 60 hss_key_short (omega arith) role.Public names.public key (λ k. read (root_input names.root) (λ r. read (endorsement_input names.endorsement) (judge_endorsement k r))) past judged is.files is.shown is.public is.faultless is.ends) [
        | inl lacks ↦ inl lacks
        | inr goes ↦ root_judged (once judged) is.shown (still_faultless judged is.faultless) goes
      ]

  abbrev last : Ended
  last = once (once (once judged))

  printed_so : (text : List ℕ) → PrintEnds text past last → (judged.status ≡ 0) × Adds judged.before judged.after text
  unfolding HasInputsFor CommandEnds ComesToRefusal
  printed_so text (text_is_printed prints used status) = (status, prints.adds)
  printed_so text (text_is_not_printed mid fails stops) =
      elim (command_completes (print text) past last is.files is.shown tt (record { read = is.faultless.read; write = is.faultless.write }) (inl (text_is_not_printed mid fails stops))) [
        | inl none ↦ absurd (omega (arith, none, stops.status_is))
        | inr (inl six) ↦ absurd (omega (arith, six, stops.status_is))
        | inr (inr seven) ↦ absurd (seven.1)
      ]

  accepted_judged : HssVerifies key (endorsed_text root) endorsement → CommandEnds (judge_endorsement key root endorsement) past last → SaysEndorsed judged ⊎ (judged.status ≡ 6)
  unfolding judge_endorsement CommandEnds
  accepted_judged verifies (inl (so, inl prints)) =
      let printed = printed_so (line_with_lf (codes "endorsed")) prints in
      inl (record { status = printed.0; printed = printed.1 })
  accepted_judged verifies (inl (so, inr wants)) = inr wants.stops.status_is
  accepted_judged verifies (inr (inl (never, rest))) = absurd (never verifies)
  accepted_judged verifies (inr (inr wants)) = inr wants.stops.status_is

  refused_judged : (HssVerifies key (endorsed_text root) endorsement → ⊥) → CommandEnds (judge_endorsement key root endorsement) past last → (judged.status ≡ 7) ⊎ (judged.status ≡ 6)
  unfolding judge_endorsement CommandEnds
  refused_judged never (inl (so, rest)) = absurd (never so)
  refused_judged never (inr (inl (so, inl stops))) = inl stops.status_is
  refused_judged never (inr (inl (so, inr wants))) = inr wants.stops.status_is
  refused_judged never (inr (inr wants)) = inr wants.stops.status_is

is_maker : (maker : Maker) → maker_format.Allowed maker → IsMaker maker
unfolding maker_format
is_maker maker allowed = record { least = allowed.1.0.0; most = allowed.1.0.1; next = allowed.1.1.1.1 }

pub endorsements_are_accepted : EndorsementsAreAccepted
endorsements_are_accepted names made before after maker root ends is_before is_after holds held done =
    let is = call_done names maker root before after made holds held is_before is_after done ends in
    let valid : IsMaker maker = is_maker maker holds.3.allowed in
    let text : List ℕ = endorsed_text root in
    let sig : List ℕ = maker_signature maker maker.next text in
    let verifies : HssVerifies (maker_key maker) text sig =
    makers_verify maker (number_used maker) text sig valid (record { left = next_below maker holds.3.allowed is.0; signature = refl; counted = refl }) in
    let short : length sig ≤ 4194304 = omega (arith, length-maker_signature maker maker.next text valid.least, valid.most) in (
      sig,
      is.1,
      λ judging past judged judges.
          elim (all_judged (maker_key maker) root sig short judging past judged judges) [
            | inl lacks ↦ inr lacks
            | inr goes ↦ accepted_judged (maker_key maker) root sig short judging past judged judges verifies goes
          ],
    )

nothing_verifies : (key : HssKey) (text : List ℕ) → HssVerifies key text [] → ⊥
nothing_verifies key text verifies =
    let counted : length (to_be_bytes w32 (key.levels - 1) ++ verifies.rest) ≡ 0 = sym (ap length verifies.counted) in
    let four : length (to_be_bytes w32 (key.levels - 1)) ≡ 4 = refl in
    omega (arith, counted, four, length-append (to_be_bytes w32 (key.levels - 1)) verifies.rest)

pub empty_files_are_refused : EmptyFilesAreRefused
empty_files_are_refused key root judging past judged judges =
    elim (all_judged key root [] (omega arith) judging past judged judges) [
      | inl lacks ↦ inr lacks
      | inr goes ↦ refused_judged key root [] (omega arith) judging past judged judges (nothing_verifies key (endorsed_text root)) goes
    ]
