-- The line of an order, and the text that has no other.
use Rattle.std.proofs.Common.{◌≡◌, ℕ, ◌<◌, List, [], ◌∷◌, ◌++◌, length, length-append, refl, sym, subst, ◌∙◌, arith}
use Rattle.std.specs.Prelude.{codes, Result, Ok, Err}
use Rattle.std.proofs.lemmas.List.{append_cancel_left}
use Rattle.std.specs.Int.{w8}
use Rattle.hex.specs.Hex.{encode_lower}
use Rattle.mb_format.specs.Format.{Spells}
use Rattle.mb_format.specs.Combinators.{number_bytes, between, counted}
use Rattle.mb_format.proofs.Fields.{wide8}
use Rattle.mb_model.specs.declared.order.Order.{Order}
use Rattle.mb_model.specs.outside.Texts.{IsHex}
use Rattle.mb_model.specs.chains.Lines.{hex_word}
use Rattle.mb_model.specs.owners.Rules.{kind_of}
use Rattle.mb_model.specs.records.OrderFormat.{form_byte, form_of, differs_in, target_format, act_by, body_of, body_format, order_body, sized_signature_format, countersignatures_format, order_format}
use Rattle.mb_model.specs.chains.OrderLines.{IsOrderLine}
use Rattle.mb_model_lemmas.proofs.LineLemmas.{cons_same}
use Rattle.mb_model_lemmas.proofs.WordLemmas.{IsHex-same, hex_word-some}
use Rattle.mb_model_lemmas.specs.SampleOrder.{surrender, surrender_line}
use Rattle.mb_model_lemmas.proofs.OrderLineLemmas.{order_one, surrender_is}
use Rattle.mb_words.specs.declared.said.NotSaid.{NotSaid}
use Rattle.mb_words.specs.declared.said.NotSaid.TheVariants as why
use Rattle.mb_words.specs.Words.{Finds}
use Rattle.mb_words.proofs.OneLine.{IsOneLine}

-- some order stands in a line, and each in one
pub order_alone : IsOneLine IsOrderLine
order_alone = record { one = order_one; good = surrender_line ∷ []; value = surrender; stands = surrender_is }

-- ---- lines

-- the word of a line that is that of an order is one of hexadecimal
pub line_hex : (line word : List ℕ) (order : Order) (is : IsOrderLine (line ∷ []) order) → line ≡ codes "command " ++ word → IsHex word is.bytes
line_hex line word order is begins =
    let same = (cons_same line is.line [] [] is.one).0 in
    let words = append_cancel_left (codes "command ") word is.worded.0 (sym begins ∙ same ∙ is.worded.2) in
    subst (λ (x : List ℕ). IsHex x is.bytes) (sym words) is.worded.1

-- what the bytes of the word spell is what the line says
pub line_finds : (line word bytes : List ℕ) → line ≡ codes "command " ++ word → IsHex word bytes → (found : Result Order NotSaid)
    → Finds (Spells order_format bytes) found → Finds (IsOrderLine (line ∷ [])) found
line_finds line word bytes begins hex (Ok order) spelled =
    record { line = line; bytes = bytes; one = refl; worded = (word, hex, begins); spelled = spelled }
line_finds line word bytes begins hex (Err why.Form) none =
    λ order is.
    let same = IsHex-same word word bytes is.bytes refl hex (line_hex line word order is begins) in
    none order (subst (λ (x : List ℕ). Spells order_format x order) (sym same) is.spelled)
line_finds line word bytes begins hex (Err why.NoMemory) unsaid = tt

-- ---- what is written

-- an order's spelling begins with the number of its kind
order_some : (order : Order) → 0 < length (order_format.spelling order)
unfolding order_format body_format number_bytes
order_some order =
    let kind = number_bytes w8 (form_byte (form_of order.act)) in
    let one : length kind ≡ 1 = wide8.len (form_byte (form_of order.act)) in
    let targets = (counted (between w8 0 8) target_format).spelling order.targets in
    let remaining = number_bytes w8 order.layer ++ (targets ++ (act_by (kind_of order.act) (differs_in order.act)).spelling order.act) in
    let signatures = sized_signature_format.spelling order.signature ++ (countersignatures_format (body_of order)).spelling order.countersignatures in
    omega (arith, one, length-append kind remaining, length-append (order_body order) signatures)

-- so its word is no dash
pub order_digits : (order : Order) → hex_word (order_format.spelling order) ≡ encode_lower (order_format.spelling order)
order_digits order = hex_word-some (order_format.spelling order) (order_some order)
