-- Chains and statements for which the definitions do not hold; the checker refutes each line. Is anything accepted that
-- no device made?
use Rattle.std.specs.Prelude.{◌≡◌, ◌≢◌, ℕ, ◌<◌, ◌≤◌, List, [], ◌∷◌, length, drop, None, Some, true, false}
use Rattle.mb_format.specs.Format.{IsBytes, Spells}
use Rattle.mb_model.specs.declared.key.PublicKey.{PublicKey}
use Rattle.mb_model.specs.declared.entry.Chain.{Chain}
use Rattle.mb_model.specs.declared.entry.SignedEntry.{SignedEntry}
use Rattle.mb_model.specs.declared.entry.Said.TheVariants.{Message, Answer}
use Rattle.mb_model.specs.declared.entry.Statement.{Statement}
use Rattle.mb_model.specs.declared.state.Report.{Report}
use Rattle.mb_model.specs.declared.state.State.{State}
use Rattle.mb_model.specs.signatures.Merkle.{Verifies}
use Rattle.mb_model.specs.owners.Log.{entries_of, device_in, number_of}
use Rattle.mb_model.specs.chains.Attach.{cut_at}
use Rattle.mb_model.specs.records.ChainFormat.{statement_format, chain_format}
use Rattle.mb_model.specs.machine.SignedTexts.{entry_text}
use Rattle.mb_model.specs.chains.Acceptance.{AreGood, key_of, Accepts, bad_signature, bad_order, key_unknown, key_ended}
use Rattle.mb_model.specs.chains.Acceptance.{chain_acceptance, chain_rejection, IsVerdict, Honest}
use Rattle.mb_model.specs.chains.DeviceChains.{TellsOfDevice}
use Rattle.mb_model.specs.machine.Runs.{StaysAccepted}
use Rattle.mb_model_examples.specs.RuleExamples.{life}
use Rattle.mb_model_examples.specs.Device.{signed_with}

-- chains that are not accepted, or not refused for one reason
pub record ChainCounterExamples (maker : PublicKey) (n : ℕ) : Type 0 where
  -- the empty list of bytes spells no chain: it is not accepted, and is not refused because the key is unknown
  pub no_bytes : (report : Report) → Accepts maker [] n report → ⊥
  pub no_bytes_for_key : IsVerdict maker [] n (chain_rejection key_unknown) → ⊥
  -- the entries of a log without its birth are not good
  pub headless : (signature : List ℕ) → AreGood maker (signed_with signature (drop 1 life)) → ⊥
  -- a statement of another configuration than the chain's last is not accepted
  pub old_statement : (bytes : List ℕ) (chain : Chain) (statement : Statement) (report : Report)
      → IsBytes bytes → Spells chain_format bytes chain → chain.statement ≡ Some statement
      → statement.number ≢ number_of (entries_of chain.entries) → Accepts maker bytes n report → ⊥

-- pairs of verdicts that no bytes have together
pub record VerdictCounterExamples (maker : PublicKey) (n : ℕ) (bytes : List ℕ) : Type 0 where
  pub accepted_and_refused : (report : Report) → IsBytes bytes
      → IsVerdict maker bytes n (chain_acceptance report) → IsVerdict maker bytes n (chain_rejection key_ended) → ⊥
  pub alive_and_ended : (report : Report) → IsBytes bytes → report.alive ≡ true
      → IsVerdict maker bytes n (chain_acceptance report)
      → IsVerdict maker bytes n (chain_acceptance (record report { alive = false })) → ⊥
  pub two_entries : IsBytes bytes → IsVerdict maker bytes n (chain_rejection (bad_signature 3))
      → IsVerdict maker bytes n (chain_rejection (bad_signature 4)) → ⊥
  pub two_reasons : IsBytes bytes → IsVerdict maker bytes n (chain_rejection (bad_signature 3))
      → IsVerdict maker bytes n (chain_rejection (bad_order 3)) → ⊥

-- what is no statement, and what does not stay accepted
pub record StatementCounterExamples (maker : PublicKey) (n : ℕ) : Type 0 where
  -- a number of more than 32 bits has no spelling, though its last four bytes are those of another number
  pub large_number : (bytes : List ℕ) (statement : Statement) → 4294967296 ≤ statement.number
      → Spells statement_format bytes statement → ⊥
  -- a message of 129 bytes has no spelling: 128 are the most
  pub long_message : (bytes message signature : List ℕ) (number : ℕ) → length message ≡ 129
      → Spells statement_format bytes (record { number = number; said = Message message; signature = signature }) → ⊥
  -- nor has an answer of 129 bytes, or one to an input whose hash has 31
  pub long_answer : (bytes input answer signature : List ℕ) (number : ℕ) → length answer ≡ 129
      → Spells statement_format bytes (record { number = number; said = Answer input answer; signature = signature })
      → ⊥
  pub short_hash : (bytes input answer signature : List ℕ) (number : ℕ) → length input ≡ 31
      → Spells statement_format bytes (record { number = number; said = Answer input answer; signature = signature })
      → ⊥
  -- the empty list of bytes, which spells no statement, with any log
  pub no_statement : (log : List SignedEntry) → StaysAccepted maker log n [] → ⊥
  -- a statement of a key that no entry of the chain makes
  pub unmade : (log : List SignedEntry) (bytes : List ℕ) (stays : StaysAccepted maker log n bytes) → IsBytes stays.chain
      → key_of (entries_of (cut_at stays.statement.number log)) n ≡ None → ⊥
  -- arbitrary bytes, if there is no log
  pub no_log : (bytes : List ℕ) → StaysAccepted maker [] n bytes → ⊥

-- a chain that does not describe a device
pub record AuditCounterExamples (state : State) (n : ℕ) (chain : Chain) (report : Report) : Type 0 where
  -- the chain has more entries than the device's log
  pub longer : length state.log < length chain.entries → TellsOfDevice state n chain report → ⊥

-- chains with a forged entry, which are not honest
pub record ForgedCounterExamples (maker : PublicKey) (birth forged : SignedEntry) : Type 0 where
  -- a birth that the maker's key signed, if the device has no log
  pub other_birth : Verifies maker (entry_text birth.entry) birth.signature → Honest (birth ∷ []) maker [] → ⊥
  -- an entry that the device key of the birth signed, if the log has the birth alone
  pub later_entry : (key : PublicKey) → device_in birth.entry ≡ Some key
      → Verifies key (entry_text forged.entry) forged.signature → forged.entry ≢ birth.entry
      → Honest (birth ∷ forged ∷ []) maker (birth.entry ∷ []) → ⊥
