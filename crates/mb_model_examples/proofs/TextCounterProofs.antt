-- The counterexamples of texts, draws and new devices, refuted.
use Rattle.std.proofs.Common.{◌≡◌, ℕ, List, [], ◌∷◌, ◌++◌, length, inl, refl, sym, ap, subst, ◌∙◌, arith, lit<, lit≤}
use Rattle.std.specs.Prelude.{codes, slice_index, ◌%◌}
use Rattle.std.proofs.lemmas.Bool.{false≢true}
use Rattle.std.proofs.lemmas.List.Elements.{All-tail, All-same}
use Rattle.mb_format.specs.Format.{Spells}
use Rattle.mb_model.specs.declared.entry.Statement.{Statement}
use Rattle.mb_model.specs.declared.event.Event.{Event}
use Rattle.mb_model.specs.declared.event.Event.TheVariants as event
use Rattle.mb_model.specs.declared.order.Order.{Order}
use Rattle.mb_model.specs.declared.state.State.{State}
use Rattle.mb_model.specs.memories.Memory.{IsImage, IsBlank, life_byte, selector_of}
use Rattle.mb_model.specs.memories.WrittenFlash.{written_flash}
use Rattle.mb_model.specs.memories.WrittenImage.{written_bbram, written_image, IsWrittenFor}
use Rattle.mb_model.specs.records.ChainFormat.{statement_format}
use Rattle.mb_model.specs.chains.Lines.{ReadsLines, TextFailsAtLine}
use Rattle.mb_model.specs.chains.Script.{IsScript}
use Rattle.mb_model.specs.chains.OrderLines.{IsStatementLine}
use Rattle.mb_model_commands.specs.declared.workload.Workload.{Workload}
use Rattle.mb_model_commands.specs.Workload.{DrawnBytes, workload_lines}
use Rattle.mb_model_lemmas.proofs.DraftLemmas.{IsDraft-same, surrender_draft}
use Rattle.mb_model_lemmas.proofs.EventLemmas.{IsScript-same}
use Rattle.mb_model_lemmas.proofs.FaultLemmas.{image_parts}
use Rattle.mb_model_lemmas.proofs.LineLemmas.{cons_same, cons_none, HasLines-same, FailsAtLine-none}
use Rattle.mb_model_lemmas.proofs.MeaningLemmas.{not_blank}
use Rattle.mb_model_lemmas.proofs.OrderLineLemmas.{IsOrderLine-same, surrender_is, zero_none}
use Rattle.mb_model_lemmas.proofs.WordLemmas.{IsHex-same}
use Rattle.mb_model_lemmas.proofs.WrittenImages.{written_is_sized}
use Rattle.mb_model_lemmas.specs.SampleOrder.{surrender, surrender_line}
use Rattle.mb_model_examples.specs.TextCounterExamples.{LineCounterExamples, boot_text, ScriptCounterExamples, surrender_lines, DraftCounterExamples, OrderLineCounterExamples, DrawCounterExamples, WorkloadCounterExamples, BirthCounterExamples}
use Rattle.mb_model_examples.proofs.ChainCounterProofs.{no_statement}
use Rattle.mb_model_examples.proofs.SegmentProofs.{long_code}
use Rattle.mb_model_examples.proofs.TextExampleProofs as examples
use Rattle.mb_model_examples.proofs.TextExampleProofs.{lines_plain, half_load}

-- ---- lines and scripts

pub lines : LineCounterExamples
lines = record {
  one_more = λ has. omega (arith, ap length (HasLines-same (codes "a" ++ 10 ∷ []) (codes "a" ∷ []) (codes "a" ∷ [] ∷ []) examples.lines.one has));
  glued = λ has. has.plain 0 [] (lit< tt) 1 0 (lit< tt) refl;
}

-- a text that stands for a value has no line that is wrong
reads_and_fails : {A : Type 0} (Grammar : List (List ℕ) → A → Type 0) (text : List ℕ) (value : A) (n : ℕ) → ReadsLines Grammar text value
    → TextFailsAtLine Grammar text n → ⊥
reads_and_fails Grammar text value n reads fails =
    let same = HasLines-same text reads.lines fails.lines reads.has fails.has in
    FailsAtLine-none Grammar fails.lines value n (subst (λ (lines : List (List ℕ)). Grammar lines value) same reads.stands) fails.fails

boots : ReadsLines IsScript boot_text (event.Boot ∷ [])
boots = record {
  lines = codes "boot" ∷ [];
  has = record { plain = lines_plain (codes "boot" ∷ []) refl; whole = inl refl };
  stands = record { said = (refl, tt); most = lit≤ tt };
}

boots_only : (events : List Event) → ReadsLines IsScript boot_text events → event.Boot ∷ [] ≡ events
boots_only events reads =
    let same = HasLines-same boot_text reads.lines boots.lines reads.has boots.has in
    IsScript-same boots.lines (event.Boot ∷ []) events boots.stands (subst (λ (lines : List (List ℕ)). IsScript lines events) same reads.stands)

pub scripts : ScriptCounterExamples
scripts = record {
  jump = λ events reads. reads_and_fails IsScript (codes "boot" ++ 10 ∷ 10 ∷ codes "jump" ++ 10 ∷ []) events 3 reads examples.scripts.no_script;
  other_event = λ reads. absurd (grind (arith, (cons_same event.Boot event.Off [] [] (boots_only (event.Off ∷ []) reads)).0));
  left_out = λ reads. cons_none event.Boot [] (sym (boots_only [] reads));
  added = λ reads. omega (arith, ap length (boots_only (event.Boot ∷ event.Boot ∷ []) reads));
  wrong_line = λ n fails. reads_and_fails IsScript boot_text (event.Boot ∷ []) n boots fails;
  no_call = λ tear is. omega (arith, is.1.least);
  region_one = λ name value is. false≢true is.0;
  large_key = λ message is. omega (arith, is.1);
  large_called_key = λ input is. omega (arith, is.1);
  long_input = λ key input long is. omega (arith, long, is.2);
}

-- ---- drafts, orders and statements

pub drafts : DraftCounterExamples
drafts = record {
  no_code = half_load;
  other_layer = λ is. omega (arith, ap (λ (order : Order). order.layer) (IsDraft-same surrender_lines surrender (record surrender { layer = 3 }) surrender_draft is));
  other_targets = λ is.
      let same = IsDraft-same surrender_lines surrender (record surrender { targets = [] }) surrender_draft is in
      omega (arith, ap (λ (order : Order). length order.targets) same);
  signed = λ is. cons_none 7 [] (sym is.unsigned);
  large_length = λ line says. omega (arith, says.0);
}

dash : (statement : Statement) → IsStatementLine (codes "-" ∷ []) statement → ⊥
dash statement is =
    let line = (cons_same (codes "-") is.line [] [] is.one).0 in
    let bytes = IsHex-same (codes "-") is.line [] is.bytes line (inl (refl, refl)) is.worded in
    no_statement statement (subst (λ (bs : List ℕ). Spells statement_format bs statement) (sym bytes) is.spelled)

pub order_lines : OrderLineCounterExamples
order_lines = record {
  none = λ order is. cons_none is.line [] is.one;
  zero = zero_none;
  other_layer = λ is.
      let same = IsOrderLine-same (surrender_line ∷ []) surrender (record surrender { layer = 3 }) surrender_is is in
      omega (arith, ap (λ (order : Order). order.layer) same);
  dash = dash;
}

-- ---- what is drawn and made

pub draws : DrawCounterExamples
draws = record {
  few = λ words bytes seven drawn. omega (arith, seven, drawn.count);
  other_bytes = λ drawn. omega (arith, ap (λ (bytes : List ℕ). slice_index bytes 3) drawn.given);
  other_length = λ drawn.
      let first = (cons_same 129 drawn.first [] drawn.others drawn.split).0 in
      let none = subst (λ n. DrawnBytes (n % 129) drawn.others (7 ∷ [])) (sym first) drawn.drawn in
      omega (arith, ap length none.given);
}

abbrev is_zero : ℕ → Type 0
is_zero byte = byte ≡ 0

-- bytes that are all zero end with such bytes
blank_back : (xs ys : List ℕ) → IsBlank (xs ++ ys) → IsBlank ys
blank_back [] ys blank = blank
blank_back (x ∷ xs) ys blank = blank_back xs ys (All-tail is_zero x (xs ++ ys) blank)

alive : (state : State) → life_byte (written_bbram state) ≡ 0xA5
unfolding written_bbram
alive state = refl

root_first : (state : State) → selector_of (written_bbram state) 1 ≡ 0
unfolding written_bbram
root_first state = refl

-- the two memories of an image that was written
written_parts : (state : State) (image : List ℕ) → IsWrittenFor state image → IsImage image (written_flash state.codes state.log) (written_bbram state)
unfolding written_image
written_parts state image is = (is.written, written_is_sized state is.fits)

not_written_blank : (state : State) (image : List ℕ) → IsBlank image → IsWrittenFor state image → ⊥
not_written_blank state image blank is =
    let flash : List ℕ = written_flash state.codes state.log in
    let whole : IsBlank (flash ++ written_bbram state) = All-same is_zero (flash ++ written_bbram state) image (sym (written_parts state image is).0) blank in
    not_blank (written_bbram state) (blank_back flash (written_bbram state) whole) (alive state)

not_written_used : (state : State) (image flash bbram : List ℕ) → IsImage image flash bbram → selector_of bbram 1 ≡ 1 → IsWrittenFor state image → ⊥
not_written_used state image flash bbram parts one is =
    let same : bbram ≡ written_bbram state = (image_parts image flash bbram (written_flash state.codes state.log) (written_bbram state) parts (written_parts state image is)).1 in
    omega (arith, one, ap (λ (bytes : List ℕ). selector_of bytes 1) same, root_first state)

pub workloads : (number rounds : ℕ) (workload : Workload) → WorkloadCounterExamples number rounds workload
unfolding workload_lines
workloads number rounds workload = record {
  no_script = λ none is. cons_none 98 _ (sym none ∙ is.script);
  blank = λ blank is. not_written_blank _ workload.image blank is.image;
}

pub births : (state : State) (image : List ℕ) → BirthCounterExamples state image
births state image = record {
  blank = not_written_blank state image;
  used = not_written_used state image;
  long = λ code is long fits. long_code state.codes code is long fits.codes;
}
