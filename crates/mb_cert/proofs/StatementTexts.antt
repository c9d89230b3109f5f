-- The line of a statement, and the text that has no other.
use Rattle.std.proofs.Common.{ℕ, ◌<◌, List, [], ◌∷◌, length, refl, sym, ap, subst, arith}
use Rattle.std.specs.Prelude.{Result, Ok, Err}
use Rattle.mb_format.specs.Format.{Spells}
use Rattle.mb_model.specs.declared.entry.Statement.{Statement}
use Rattle.mb_model.specs.outside.Texts.{IsHex}
use Rattle.mb_model.specs.records.ChainFormat.{statement_format}
use Rattle.mb_model.specs.chains.OrderLines.{IsStatementLine}
use Rattle.mb_model.proofs.FormatBounds.{statement_short}
use Rattle.mb_model_lemmas.proofs.LineLemmas.{cons_same}
use Rattle.mb_model_lemmas.proofs.WordLemmas.{IsHex-same}
use Rattle.mb_model_lemmas.proofs.OrderLineLemmas.{statement_one, some_statement, some_line, some_statement_is}
use Rattle.mb_words.specs.declared.said.NotSaid.{NotSaid}
use Rattle.mb_words.specs.declared.said.NotSaid.TheVariants as why
use Rattle.mb_words.specs.Words.{Finds}
use Rattle.mb_words.proofs.OneLine.{IsOneLine}

-- some statement stands in a line, and each in one
pub statement_alone : IsOneLine IsStatementLine
statement_alone = record { one = statement_one; good = some_line ∷ []; value = some_statement; stands = some_statement_is }

-- ---- lines

-- a line that is that of a statement is a word of hexadecimal
pub line_hex : (line : List ℕ) (statement : Statement) (is : IsStatementLine (line ∷ []) statement) → IsHex line is.bytes
line_hex line statement is = subst (λ (x : List ℕ). IsHex x is.bytes) (sym (cons_same line is.line [] [] is.one).0) is.worded

-- what the bytes of the line spell is what it says
pub line_finds : (line bytes : List ℕ) → IsHex line bytes → (found : Result Statement NotSaid)
    → Finds (Spells statement_format bytes) found → Finds (IsStatementLine (line ∷ [])) found
line_finds line bytes hex (Ok statement) spelled = record { line = line; bytes = bytes; one = refl; worded = hex; spelled = spelled }
line_finds line bytes hex (Err why.Form) none =
    λ statement is.
    let same = IsHex-same line line bytes is.bytes refl hex (line_hex line statement is) in
    none statement (subst (λ (x : List ℕ). Spells statement_format x statement) (sym same) is.spelled)
line_finds line bytes hex (Err why.NoMemory) none = tt

-- bytes that are too many spell no statement
pub too_long : (bytes : List ℕ) → 2514 < length bytes → (statement : Statement) → Spells statement_format bytes statement → ⊥
too_long bytes long statement spelled = omega (arith, long, ap length spelled.whole, statement_short.short statement spelled.allowed)
