-- A statement or a chain that has a spelling keeps the bounds on sizes, and each entry of the chain has a spelling.
use Rattle.std.proofs.Common.{◌≡◌, ℕ, zero, suc, ◌<◌, ◌≤◌, ◌==◌, Bool, true, false, Option, Some, None, List, [], ◌∷◌, length, get_or, refl, ap, arith}
use Rattle.std.specs.Prelude.{All}
use Rattle.mb_format.specs.Combinators.{items, times, either, optional}
use Rattle.mb_model.specs.declared.entry.SignedEntry.{SignedEntry}
use Rattle.mb_model.specs.declared.entry.Said.{Said}
use Rattle.mb_model.specs.declared.entry.Said.TheVariants.{Message, Answer}
use Rattle.mb_model.specs.declared.entry.Statement.{Statement}
use Rattle.mb_model.specs.declared.entry.Chain.{Chain}
use Rattle.mb_model.specs.records.EntryFormat.{entry_format, signed_entry_format}
use Rattle.mb_model.specs.records.ChainFormat.{said_byte, answered_format, asked_format, said_format, statement_format, chain_format}
use Rattle.mb_cert.specs.Bounds.{SaidFits, StatementFits, ChainFits}

-- what follows a byte is what the byte announces
following_fits : (size : ℕ) → size ≤ 129 → (b : Bool) → (size == 129) ≡ b → (said : Said) → (either b answered_format (asked_format size)).Allowed said → SaidFits said
unfolding answered_format asked_format
following_fits size few true is (Message message) allowed = absurd allowed
following_fits size few true is (Answer input answer) allowed = omega (arith, allowed)
following_fits size few false is (Message message) allowed = grind (arith, is, few, allowed)
following_fits size few false is (Answer input answer) allowed = absurd allowed

said_fits : (said : Said) → said_format.Allowed said → SaidFits said
unfolding said_format
said_fits said h = following_fits (said_byte said) h.0.1 (said_byte said == 129) refl said h.1

pub statement_fits : (statement : Statement) → statement_format.Allowed statement → StatementFits statement
unfolding statement_format
statement_fits statement h = said_fits statement.said h.1.0

attached_fits : (o : Option Statement) → (optional statement_format).Allowed o → (statement : Statement) → o ≡ Some statement → StatementFits statement
attached_fits None h statement e = absurd cc
attached_fits (Some other) h statement e =
    let same : other ≡ statement = cc in
    rw (← same) (statement_fits other h.1)

pub chain_fits : (chain : Chain) → chain_format.Allowed chain → ChainFits chain
unfolding chain_format
chain_fits chain h = record {
  entries = omega (arith, h.1.0.0.1);
  statement = attached_fits chain.statement h.1.1;
}

each_allowed : (n : ℕ) (log : List SignedEntry) → (times n signed_entry_format).Allowed log → (k : ℕ) (d : SignedEntry) → k < length log → entry_format.Allowed (get_or log k d).entry
unfolding items signed_entry_format
each_allowed zero log h k d lt = absurd (omega (arith, ap length h, lt))
each_allowed (suc n) [] h k d lt = absurd h
each_allowed (suc n) (signed ∷ log) h zero d lt = h.0.0
each_allowed (suc n) (signed ∷ log) h (suc k) d lt = each_allowed n log h.1 k d (omega arith)

pub entries_allowed : (chain : Chain) → chain_format.Allowed chain → All (λ (signed : SignedEntry). entry_format.Allowed signed.entry) chain.entries
unfolding chain_format
entries_allowed chain h = λ k d lt. each_allowed (length chain.entries) chain.entries h.1.0.1 k d lt
