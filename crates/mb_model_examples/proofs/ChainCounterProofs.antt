-- The counterexamples of chains and statements, refuted.
use Rattle.std.proofs.Common.{◌≡◌, ◌≢◌, ℕ, zero, suc, ◌≤◌, List, [], ◌∷◌, length, Option, None, Some, Bool, true, false, refl, sym, ap, subst, ◌∙◌, arith, length-append, lit<}
use Rattle.std.proofs.lemmas.List.{length-map}
use Rattle.mb_format.specs.Combinators.{either}
use Rattle.std.specs.Prelude.{Contains, ◌==◌}
use Rattle.std.proofs.lemmas.Bool.{false≢true}
use Rattle.mb_format.specs.Format.{IsBytes, Spells, IsClearWhole}
use Rattle.mb_format.specs.Combinators.{items}
use Rattle.mb_format.specs.Reading.{raw_at, number_at}
use Rattle.mb_format.proofs.Whole.{IsClearWhole-from_exact}
use Rattle.mb_model.specs.declared.key.PublicKey.{PublicKey}
use Rattle.mb_model.specs.declared.entry.Chain.{Chain}
use Rattle.mb_model.specs.declared.entry.Entry.{Entry}
use Rattle.mb_model.specs.declared.entry.SignedEntry.{SignedEntry}
use Rattle.mb_model.specs.declared.entry.Statement.{Statement}
use Rattle.mb_model.specs.declared.state.Report.{Report}
use Rattle.mb_model.specs.declared.state.State.{State}
use Rattle.mb_model.specs.owners.Log.{entries_of, number_of}
use Rattle.mb_model.specs.declared.entry.Said.TheVariants.{Message, Answer}
use Rattle.mb_model.specs.records.ChainFormat.{answered_format, asked_format, said_format, statement_format, chain_format}
use Rattle.mb_model.specs.chains.Attach.{cut_at, stated_chain}
use Rattle.mb_model.specs.chains.Acceptance.{ChainRefusal, KeyEntry, IfStatement, IsCurrent, key_of, Accepts, bad_signature, bad_order, key_ended}
use Rattle.mb_model.specs.machine.Runs.{StaysAccepted}
use Rattle.mb_model.proofs.EntryFormatLaws.{statement_exact, chain_exact}
use Rattle.mb_model_lemmas.proofs.ChainLemmas.{one_refusal, never_both, one_report}
use Rattle.mb_model_lemmas.proofs.Splits.{none_is_some}
use Rattle.mb_model_lemmas.proofs.LineLemmas.{cons_none}
use Rattle.mb_model_examples.specs.ChainCounterExamples.{ChainCounterExamples, AuditCounterExamples, VerdictCounterExamples, StatementCounterExamples, ForgedCounterExamples}
use Rattle.mb_model_examples.proofs.MemoryCounterProofs.{spells_none}
use Rattle.mb_model_examples.proofs.RunCounterProofs.{two_owned}

no_chain : (chain : Chain) → Spells chain_format [] chain → ⊥
unfolding chain_format number_at raw_at items
no_chain chain spelled = spells_none chain_exact [] 0 refl refl chain spelled

current_number : (log : List Entry) (n : ℕ) (made : KeyEntry) (given : Option Statement) (statement : Statement) → given ≡ Some statement
    → IfStatement given (IsCurrent log n made) → statement.number ≡ number_of log
current_number log n made given statement e current = (subst (λ (s : Option Statement). IfStatement s (IsCurrent log n made)) e current).number

old_statement : (maker : PublicKey) (n : ℕ) (bytes : List ℕ) (chain : Chain) (statement : Statement) (report : Report)
    → IsBytes bytes → Spells chain_format bytes chain → chain.statement ≡ Some statement
    → statement.number ≢ number_of (entries_of chain.entries) → Accepts maker bytes n report → ⊥
old_statement maker n bytes chain statement report are spelled stated differs accepts =
    let clear : IsClearWhole chain_format = IsClearWhole-from_exact chain_exact in
    let same : accepts.chain ≡ chain = clear.one_value bytes accepts.chain chain are accepts.spelled spelled in
    let given = ap (λ (c : Chain). c.statement) same ∙ stated in
    let number = current_number (entries_of accepts.chain.entries) n accepts.made accepts.chain.statement statement given accepts.current in
    differs (number ∙ ap (λ (c : Chain). number_of (entries_of c.entries)) same)

pub chains : (maker : PublicKey) (n : ℕ) → ChainCounterExamples maker n
chains maker n = record {
  no_bytes = λ report accepts. no_chain accepts.chain accepts.spelled;
  no_bytes_for_key = λ is. no_chain is.0 is.1;
  headless = λ signature good. (good [] (two_owned signature) _ refl).ruled.0 refl;
  old_statement = old_statement maker n;
}

-- the entry of a wrong signature
abbrev signature_entry : ChainRefusal → ℕ
signature_entry (bad_signature i) = i
signature_entry _ = 0

pub verdicts : (maker : PublicKey) (n : ℕ) (bytes : List ℕ) → VerdictCounterExamples maker n bytes
verdicts maker n bytes = record {
  accepted_and_refused = λ report are accepts refused. never_both maker bytes n report key_ended are accepts refused;
  alive_and_ended = λ report are alive one other.
      let same = one_report maker bytes n report (record report { alive = false }) are one other in
      false≢true (sym (ap (λ (r : Report). r.alive) same) ∙ alive);
  two_entries = λ are one other. omega (arith, ap signature_entry (one_refusal maker bytes n (bad_signature 3) (bad_signature 4) are one other));
  two_reasons = λ are one other. omega (arith, ap signature_entry (one_refusal maker bytes n (bad_signature 3) (bad_order 3) are one other));
}

pub no_statement : (statement : Statement) → Spells statement_format [] statement → ⊥
unfolding statement_format number_at raw_at items
no_statement statement spelled = spells_none statement_exact [] 0 refl refl statement spelled

large_number : (bytes : List ℕ) (statement : Statement) → 4294967296 ≤ statement.number → Spells statement_format bytes statement → ⊥
unfolding statement_format
large_number bytes statement large spelled = omega (arith, large, spelled.allowed.0)

-- after the byte 129 stands no message
no_message : (size : ℕ) (b : Bool) → (size == 129) ≡ b → size ≡ 129 → (message : List ℕ) → (either b answered_format (asked_format size)).Allowed (Message message) → ⊥
unfolding answered_format
no_message size true e is message allowed = allowed
no_message size false e is message allowed = grind (arith, e, is)

long_message : (bytes message signature : List ℕ) (number : ℕ) → length message ≡ 129
    → Spells statement_format bytes (record { number = number; said = Message message; signature = signature }) → ⊥
unfolding statement_format said_format
long_message bytes message signature number long spelled = no_message (length message) (length message == 129) refl long message spelled.allowed.1.0.1

long_answer : (bytes input answer signature : List ℕ) (number : ℕ) → length answer ≡ 129
    → Spells statement_format bytes (record { number = number; said = Answer input answer; signature = signature }) → ⊥
unfolding statement_format said_format answered_format
long_answer bytes input answer signature number long spelled = omega (arith, long, spelled.allowed.1.0.1.1.1)

short_hash : (bytes input answer signature : List ℕ) (number : ℕ) → length input ≡ 31
    → Spells statement_format bytes (record { number = number; said = Answer input answer; signature = signature }) → ⊥
unfolding statement_format said_format answered_format
short_hash bytes input answer signature number short spelled = omega (arith, short, spelled.allowed.1.0.1.0)

no_empty_chain : (bytes : List ℕ) (statement : Statement) → Spells chain_format bytes (stated_chain [] statement) → ⊥
unfolding chain_format
no_empty_chain bytes statement spelled = omega (arith, spelled.allowed.1.0.0.0)

no_key : (maker : PublicKey) (n : ℕ) (log : List SignedEntry) (bytes : List ℕ) (stays : StaysAccepted maker log n bytes) → IsBytes stays.chain
    → key_of (entries_of (cut_at stays.statement.number log)) n ≡ None → ⊥
no_key maker n log bytes stays are none =
    let clear : IsClearWhole chain_format = IsClearWhole-from_exact chain_exact in
    let same : stays.accepted.chain ≡ stated_chain log stays.statement =
    clear.one_value stays.chain stays.accepted.chain (stated_chain log stays.statement) are stays.accepted.spelled stays.attached in
    none_is_some (key_of (entries_of (cut_at stays.statement.number log)) n) stays.accepted.made none
    (sym (ap (λ (chain : Chain). key_of (entries_of chain.entries) n) same) ∙ stays.accepted.named)

pub statements : (maker : PublicKey) (n : ℕ) → StatementCounterExamples maker n
statements maker n = record {
  large_number = large_number;
  long_message = long_message;
  long_answer = long_answer;
  short_hash = short_hash;
  no_statement = λ log stays. no_statement stays.statement stays.spelled;
  unmade = no_key maker n;
  no_log = λ bytes stays. no_empty_chain stays.chain stays.statement stays.attached;
}

pub audits : (state : State) (n : ℕ) (chain : Chain) (report : Report) → AuditCounterExamples state n chain report
audits state n chain report = record {
  longer = λ longer tells.
      omega (
        arith,
        longer,
        ap length tells.begins,
        length-append (entries_of chain.entries) tells.later,
        length-map state.log (λ (signed : SignedEntry). signed.entry),
        length-map chain.entries (λ (signed : SignedEntry). signed.entry),
      );
}

only_one : (one other : Entry) → Contains (one ∷ []) other → one ≡ other
only_one one other (zero, within, same) = same
only_one one other (suc k, within, same) = absurd (omega (arith, within))

pub forgeries : (maker : PublicKey) (birth forged : SignedEntry) → ForgedCounterExamples maker birth forged
forgeries maker birth forged = record {
  other_birth = λ verifies honest.
      let comes = honest.first birth [] refl verifies in
      cons_none birth.entry comes.0 comes.1;
  later_entry = λ key names verifies differs honest.
      let within = honest.later (birth ∷ []) forged [] refl (λ none. cons_none birth [] (sym none)) key (0, birth.entry, lit< tt, refl, names) verifies in
      differs (sym (only_one birth.entry forged.entry within));
}
