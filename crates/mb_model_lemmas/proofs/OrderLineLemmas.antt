-- A line with the bytes of an order, or of a statement, stands for one; and which line is wrong where another stands after it.
use Rattle.std.proofs.Common.{◌≡◌, ℕ, zero, suc, inl, inr, List, [], ◌∷◌, ◌++◌, length, get_or, refl, sym, ap, subst, ◌∙◌, arith, length-append, lit≤, rules}
use Rattle.std.specs.Prelude.{replicate, codes}
use Rattle.std.proofs.lemmas.List.{append_cancel_left, nil_from_length, length-replicate}
use Rattle.hex.specs.Hex.{decode_pairs, encode_with}
use Rattle.hex.proofs.HexLemmas.{decode_of-ok}
use Rattle.mb_format.specs.Format.{IsBytes, Spells, IsClearWhole, FailsWhole}
use Rattle.mb_format.specs.Combinators.{number_bytes, items}
use Rattle.mb_format.specs.Reading.{IsExactWhole, number_at, raw_at}
use Rattle.mb_format.proofs.Examples.{are_bytes}
use Rattle.mb_format.proofs.Whole.{IsClearWhole-from_exact, IsExactWhole-from_exact}
use Rattle.mb_format.proofs.Exact.{IsBytes-replicate}
use Rattle.mb_model.specs.declared.order.Order.{Order}
use Rattle.mb_model.specs.declared.entry.Said.TheVariants.{Message}
use Rattle.mb_model.specs.declared.entry.Statement.{Statement}
use Rattle.mb_model.specs.outside.Texts.{IsHex}
use Rattle.mb_model.specs.chains.Lines.{FailsAtLine, ends_early, hex_word}
use Rattle.mb_model.specs.chains.OrderLines.{IsOrderLine, IsStatementLine, order_line}
use Rattle.mb_model.specs.records.LayerFormat.{trust_format}
use Rattle.mb_model.specs.records.OrderFormat.{target_format, payload_format, body_format, sized_signature_format, countersignatures_format, order_format}
use Rattle.mb_model_lemmas.specs.SampleOrder.{surrender, surrender_line}
use Rattle.mb_model.specs.records.ChainFormat.{asked_format, said_format, statement_format}
use Rattle.mb_model.proofs.OrderFormatLaws.{order_exact}
use Rattle.mb_model.proofs.EntryFormatLaws.{statement_exact}
use Rattle.mb_model_lemmas.proofs.LineLemmas.{cons_same, cons_none, IsBeginning-all, bad_after}
use Rattle.mb_model_lemmas.proofs.WordLemmas.{IsHex-same, hex_word-read}

-- a hexadecimal word is bytes
pub IsHex-bytes : (word bytes : List ℕ) → IsHex word bytes → IsBytes bytes
IsHex-bytes word bytes (inl dash) = λ i. omega (arith, ap (λ (x : List ℕ). get_or x i 0) dash.1)
IsHex-bytes word bytes (inr digits) = (decode_of-ok word bytes digits.1).3

pub IsOrderLine-same : (lines : List (List ℕ)) (a b : Order) → IsOrderLine lines a → IsOrderLine lines b → a ≡ b
IsOrderLine-same lines a b ha hb =
    let line = (cons_same ha.line hb.line [] [] (sym ha.one ∙ hb.one)).0 in
    let word = append_cancel_left (codes "command ") ha.worded.0 hb.worded.0 (sym ha.worded.2 ∙ line ∙ hb.worded.2) in
    let bytes = IsHex-same ha.worded.0 hb.worded.0 ha.bytes hb.bytes word ha.worded.1 hb.worded.1 in
    let whole : IsClearWhole order_format = IsClearWhole-from_exact order_exact in
    whole.one_value hb.bytes a b (IsHex-bytes hb.worded.0 hb.bytes hb.worded.1)
    (subst (λ (x : List ℕ). Spells order_format x a) bytes ha.spelled) hb.spelled

pub IsStatementLine-same : (lines : List (List ℕ)) (a b : Statement) → IsStatementLine lines a → IsStatementLine lines b → a ≡ b
IsStatementLine-same lines a b ha hb =
    let line = (cons_same ha.line hb.line [] [] (sym ha.one ∙ hb.one)).0 in
    let bytes = IsHex-same ha.line hb.line ha.bytes hb.bytes line ha.worded hb.worded in
    let whole : IsClearWhole statement_format = IsClearWhole-from_exact statement_exact in
    whole.one_value hb.bytes a b (IsHex-bytes hb.line hb.bytes hb.worded)
    (subst (λ (x : List ℕ). Spells statement_format x a) bytes ha.spelled) hb.spelled

-- ---- texts of one line

-- lines that stand for something are one
abbrev pub HasOneLine : {A : Type 0} → (List (List ℕ) → A → Type 0) → Type 0
HasOneLine {A} Grammar = (lines : List (List ℕ)) (value : A) → Grammar lines value → length lines ≡ 1

-- a line after the first is wrong
pub second : {A : Type 0} (Grammar : List (List ℕ) → A → Type 0) → HasOneLine Grammar → (line other : List ℕ) (later : List (List ℕ)) (value : A)
    → Grammar (line ∷ []) value → FailsAtLine Grammar (line ∷ other ∷ later) 2
second {A} Grammar one line other later value stands =
    bad_after Grammar (line ∷ []) other later (IsBeginning-all Grammar (line ∷ []) value stands)
    (λ begins.
    let count = one ((line ∷ other ∷ []) ++ begins.more) begins.value begins.stands in
    let more = length-append (line ∷ other ∷ []) begins.more in
    omega (arith, count, more))

pub order_one : HasOneLine IsOrderLine
order_one lines value is = ap length is.one

pub statement_one : HasOneLine IsStatementLine
statement_one lines value is = ap length is.one

pub order_second : (line other : List ℕ) (later : List (List ℕ)) (order : Order) → IsOrderLine (line ∷ []) order → FailsAtLine IsOrderLine (line ∷ other ∷ later) 2
order_second = second IsOrderLine order_one

pub statement_second : (line other : List ℕ) (later : List (List ℕ)) (statement : Statement) → IsStatementLine (line ∷ []) statement
    → FailsAtLine IsStatementLine (line ∷ other ∷ later) 2
statement_second = second IsStatementLine statement_one

-- nothing stands after the first line
alone : {A : Type 0} (Grammar : List (List ℕ) → A → Type 0) → HasOneLine Grammar → (line : List ℕ) (more : List (List ℕ)) (value : A)
    → Grammar (line ∷ more) value → Grammar (line ∷ []) value
alone {A} Grammar one line more value stands =
    let count = one (line ∷ more) value stands in
    let none = nil_from_length more (omega (arith, count)) in
    subst (λ (x : List (List ℕ)). Grammar (line ∷ x) value) none stands

-- where the first line is not one of the grammar, it is wrong
pub first : {A : Type 0} (Grammar : List (List ℕ) → A → Type 0) → HasOneLine Grammar → (line : List ℕ) (later good : List (List ℕ)) (value : A)
    → Grammar good value → ((other : A) → Grammar (line ∷ []) other → ⊥) → FailsAtLine Grammar (line ∷ later) 1
first {A} Grammar one line later good value stands none =
    bad_after Grammar [] line later (record { more = good; value = value; stands = stands })
    (λ begins. none begins.value (alone Grammar one line begins.more begins.value begins.stands))

-- and so it is where there is no line at all
pub empty : {A : Type 0} (Grammar : List (List ℕ) → A → Type 0) → HasOneLine Grammar → (good : List (List ℕ)) (value : A) → Grammar good value
    → FailsAtLine Grammar [] 1
empty {A} Grammar one good value stands =
    ends_early (record {
      good = record { more = good; value = value; stands = stands };
      unfinished = λ other is. omega (arith, one [] other is);
      number = refl;
    })

-- ---- a line that is that of an order

-- the bytes of a surrender, with a signature of no bytes
abbrev surrender_order : List ℕ
surrender_order = 2 ∷ 2 ∷ 1 ∷ 2 ∷ 0 ∷ 0 ∷ 0 ∷ 7 ∷ 0 ∷ 0 ∷ 0 ∷ []

surrender_spelled : Spells order_format surrender_order surrender
unfolding trust_format target_format payload_format body_format sized_signature_format countersignatures_format order_format number_at raw_at items
surrender_spelled =
    let whole : IsExactWhole order_format = IsExactWhole-from_exact order_exact in
    whole.found surrender_order surrender (are_bytes surrender_order (search rules depth 20)) refl

surrender_hex : IsHex (codes "0202010200000007000000") surrender_order
unfolding decode_pairs
surrender_hex = inr ((λ none. cons_none 48 _ (sym none)), refl)

pub surrender_is : IsOrderLine (surrender_line ∷ []) surrender
surrender_is = record {
  line = surrender_line;
  bytes = surrender_order;
  one = refl;
  worded = (codes "0202010200000007000000", surrender_hex, refl);
  spelled = surrender_spelled;
}

pub written : order_line surrender ≡ surrender_line
unfolding trust_format target_format payload_format body_format sized_signature_format countersignatures_format order_format number_bytes items encode_with
written = refl

-- one byte of zero is no order
zero_fails : FailsWhole order_format (0 ∷ []) 0
unfolding trust_format target_format payload_format body_format sized_signature_format countersignatures_format order_format number_at raw_at items
zero_fails =
    let whole : IsExactWhole order_format = IsExactWhole-from_exact order_exact in
    whole.fails (0 ∷ []) 0 (are_bytes (0 ∷ []) (search rules depth 20)) refl

zero_hex : IsHex (codes "00") (0 ∷ [])
unfolding decode_pairs
zero_hex = inr ((λ none. cons_none 48 _ (sym none)), refl)

pub zero_none : (order : Order) → IsOrderLine (codes "command 00" ∷ []) order → ⊥
zero_none order is =
    let line = (cons_same (codes "command 00") is.line [] [] is.one).0 in
    let word = append_cancel_left (codes "command ") (codes "00") is.worded.0 (line ∙ is.worded.2) in
    let bytes = IsHex-same (codes "00") is.worded.0 (0 ∷ []) is.bytes word zero_hex is.worded.1 in
    let whole : IsClearWhole order_format = IsClearWhole-from_exact order_exact in
    whole.never_both (0 ∷ []) order 0 (IsHex-bytes (codes "00") (0 ∷ []) zero_hex)
    (subst (λ (x : List ℕ). Spells order_format x order) (sym bytes) is.spelled) zero_fails

pub order_first : (line : List ℕ) (later : List (List ℕ)) → ((order : Order) → IsOrderLine (line ∷ []) order → ⊥) → FailsAtLine IsOrderLine (line ∷ later) 1
order_first line later none = first IsOrderLine order_one line later (surrender_line ∷ []) surrender surrender_is none

-- ---- some statement, so that there is a line of one

-- a statement of nothing, with a signature of these bytes
abbrev pub statement_with : List ℕ → Statement
statement_with signature = record { number = 0; said = Message []; signature = signature }

-- bytes after five zeros are bytes
IsBytes-five : (bytes : List ℕ) → IsBytes bytes → IsBytes (0 ∷ 0 ∷ 0 ∷ 0 ∷ 0 ∷ bytes)
IsBytes-five bytes are zero = lit≤ tt
IsBytes-five bytes are (suc zero) = lit≤ tt
IsBytes-five bytes are (suc (suc zero)) = lit≤ tt
IsBytes-five bytes are (suc (suc (suc zero))) = lit≤ tt
IsBytes-five bytes are (suc (suc (suc (suc zero)))) = lit≤ tt
IsBytes-five bytes are (suc (suc (suc (suc (suc i))))) = are i

spelled_with : (signature : List ℕ) → length signature ≡ 2348
    → Spells statement_format (0 ∷ 0 ∷ 0 ∷ 0 ∷ 0 ∷ signature) (statement_with signature)
unfolding statement_format said_format asked_format number_bytes
spelled_with signature sized = record { allowed = (lit≤ tt, (((lit≤ tt, lit≤ tt), refl), sized)); whole = refl }

abbrev pub some_statement : Statement
some_statement = statement_with (replicate 2348 0)

abbrev pub some_line : List ℕ
some_line = hex_word (0 ∷ 0 ∷ 0 ∷ 0 ∷ 0 ∷ replicate 2348 0)

pub some_statement_is : IsStatementLine (some_line ∷ []) some_statement
some_statement_is = record {
  line = some_line;
  bytes = 0 ∷ 0 ∷ 0 ∷ 0 ∷ 0 ∷ replicate 2348 0;
  one = refl;
  worded = hex_word-read (0 ∷ 0 ∷ 0 ∷ 0 ∷ 0 ∷ replicate 2348 0)
      (IsBytes-five (replicate 2348 0) (IsBytes-replicate 2348 0 (lit≤ tt)));
  spelled = spelled_with (replicate 2348 0) (length-replicate {A = ℕ} 2348 0);
}
