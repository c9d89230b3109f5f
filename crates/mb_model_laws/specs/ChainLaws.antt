-- Laws of chains: each has one verdict at most, and an accepted one says what its device says. Can one chain be taken
-- for two?
use Rattle.std.specs.Prelude.{◌≡◌, ℕ, List, ◌++◌}
use Rattle.mb_format.specs.Format.{IsBytes}
use Rattle.mb_model.specs.declared.key.PublicKey.{PublicKey}
use Rattle.mb_model.specs.declared.entry.Entry.{Entry}
use Rattle.mb_model.specs.declared.entry.SignedEntry.{SignedEntry}
use Rattle.mb_model.specs.declared.state.Report.{Report}
use Rattle.mb_model.specs.declared.state.State.{State}
use Rattle.mb_model.specs.owners.Log.{entries_of, RuledLog}
use Rattle.mb_model.specs.owners.Lives.{lives_of}
use Rattle.mb_model.specs.memories.Valid.{EachFollows, IsValidState}
use Rattle.mb_model.specs.chains.Acceptance.{ChainRefusal, Accepts, IsRefused, Verdict, IsVerdict, Honest}
use Rattle.mb_model.specs.chains.DeviceChains.{IsAudited}

-- bytes are never both accepted and refused
abbrev pub NeverBoth : Type 0
NeverBoth =
    (root : PublicKey) (bytes : List ℕ) (n : ℕ) (report : Report) (refusal : ChainRefusal) → IsBytes bytes
    → Accepts root bytes n report → IsRefused root bytes n refusal → ⊥

-- bytes are never neither accepted nor refused
abbrev pub NeverNeither : Type 0
NeverNeither =
    (root : PublicKey) (bytes : List ℕ) (n : ℕ) → IsBytes bytes → ((report : Report) → Accepts root bytes n report → ⊥)
    → ((refusal : ChainRefusal) → IsRefused root bytes n refusal → ⊥) → ⊥

-- bytes are refused for one thing at most
abbrev pub OneRefusal : Type 0
OneRefusal =
    (root : PublicKey) (bytes : List ℕ) (n : ℕ) (a b : ChainRefusal) → IsBytes bytes
    → IsRefused root bytes n a → IsRefused root bytes n b → a ≡ b

-- accepted bytes say one thing at most of a key
abbrev pub OneReport : Type 0
OneReport =
    (root : PublicKey) (bytes : List ℕ) (n : ℕ) (a b : Report) → IsBytes bytes
    → Accepts root bytes n a → Accepts root bytes n b → a ≡ b

-- the entries of an accepted chain obey the rules of the log
abbrev pub AcceptedIsRuled : Type 0
AcceptedIsRuled =
    (root : PublicKey) (bytes : List ℕ) (n : ℕ) (report : Report) (accepts : Accepts root bytes n report)
    → RuledLog (entries_of accepts.chain.entries)

-- each entry of an accepted chain follows from those before it, as in the log of a device
abbrev pub AcceptedFollows : Type 0
AcceptedFollows =
    (root : PublicKey) (bytes : List ℕ) (n : ℕ) (report : Report) (accepts : Accepts root bytes n report)
    → EachFollows accepts.chain.entries

-- If no entry was forged, the entries of an accepted chain are a prefix of its device's log, and the key lived as these
-- say.
abbrev pub HonestIsPrefix : Type 0
HonestIsPrefix =
    (root : PublicKey) (bytes : List ℕ) (n : ℕ) (report : Report) (accepts : Accepts root bytes n report)
    (log : List SignedEntry) → EachFollows log → Honest accepts.chain.entries root (entries_of log)
    → (past : List Entry) × (later : List Entry) × (entries_of log ≡ past ++ later)
    × (past ≡ entries_of accepts.chain.entries) × (report.lives ≡ lives_of past n)

-- A verdict on a chain is all that an audit needs: if the chain is accepted and no entry of it was forged, it describes
-- the device.
abbrev pub VerdictsAreAudits : Type 0
VerdictsAreAudits =
    (state : State) (maker : PublicKey) (bytes : List ℕ) (n : ℕ) (verdict : Verdict)
    → IsBytes bytes → IsValidState state → IsVerdict maker bytes n verdict → IsAudited state maker bytes n verdict
