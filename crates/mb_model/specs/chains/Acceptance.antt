-- When a chain of certificates is accepted, and what it then says of a key. Which code can have made a statement?
use Rattle.std.specs.Prelude.{◌≡◌, ◌≢◌, ℕ, ◌==◌, Bool, true, false, List, [], ◌∷◌, ◌++◌, length, Any, Contains, Option}
use Rattle.std.specs.Prelude.{None, Some, IsSomeAnd, if◌then◌else◌}
use Rattle.std.specs.List.{list_any}
use Rattle.mb_format.specs.Format.{Spells, FailsWhole}
use Rattle.mb_model.specs.declared.key.PublicKey.{PublicKey}
use Rattle.mb_model.specs.declared.order.KeyKind.{KeyKind}
use Rattle.mb_model.specs.declared.entry.Chain.{Chain}
use Rattle.mb_model.specs.declared.entry.Entry.{Entry}
use Rattle.mb_model.specs.declared.entry.Entry.TheVariants.{Birth, Change, NewKey, Succession}
use Rattle.mb_model.specs.declared.entry.Said.{Said}
use Rattle.mb_model.specs.declared.entry.SignedEntry.{SignedEntry}
use Rattle.mb_model.specs.declared.entry.Statement.{Statement}
use Rattle.mb_model.specs.declared.state.Figures.{Figures}
use Rattle.mb_model.specs.declared.state.Report.{Report}
use Rattle.mb_model.specs.signatures.Merkle.{leaf_number, Verifies}
use Rattle.mb_model.specs.owners.Log.{entries_of, device_in, last_of, number_of, serial_of, figures_of, Ordered, Ruled}
use Rattle.mb_model.specs.owners.Lives.{alive_keys, lives_of}
use Rattle.mb_model.specs.records.ChainFormat.{chain_format}
use Rattle.mb_model.specs.machine.SignedTexts.{entry_text, said_text, IsSignedBy}

-- why a chain is not accepted
pub data ChainRefusal : Type 0 where
  -- the bytes are no chain: they fail at this offset
  bad_form : ℕ → ChainRefusal
  -- this entry, counted from 0, was not signed by the key in charge
  bad_signature : ℕ → ChainRefusal
  -- this entry is not in its place, or its signature does not have the next index
  bad_order : ℕ → ChainRefusal
  -- this entry breaks the rules of the log
  breaks_rules : ℕ → ChainRefusal
  -- no entry makes the key
  key_unknown : ChainRefusal
  -- the key did not sign the statement
  bad_statement : ChainRefusal
  -- the statement names one configuration number, and the chain ends at another
  wrong_number : ℕ → ℕ → ChainRefusal
  -- the key has ended
  key_ended : ChainRefusal

-- the number that is printed for a refusal
abbrev pub refusal_code : ChainRefusal → ℕ
refusal_code (bad_form offset) = 20
refusal_code (bad_signature index) = 21
refusal_code (bad_order index) = 22
refusal_code (breaks_rules index) = 23
refusal_code key_unknown = 24
refusal_code bad_statement = 25
refusal_code (wrong_number named last) = 26
refusal_code key_ended = 27

-- ---- the entries, each verified against those before it

-- the key in charge of the next entry: the maker's key for the birth, afterwards the device key named last
abbrev pub in_charge : PublicKey → Figures → Option PublicKey
in_charge maker before = if before.length == 0 then Some maker else before.device

abbrev pub IsCertified : PublicKey → Figures → SignedEntry → Type 0
IsCertified maker before signed = IsSignedBy (in_charge maker before) (entry_text signed.entry) signed.signature

-- An entry after others stands in its place and is signed with the next index; neither is required of the first. The
-- index of the first counts what the maker's key signed, which the chain does not show. A later birth is tried for its
-- index like any entry.
abbrev pub IsInPlace : Figures → SignedEntry → Type 0
IsInPlace before signed = before.length ≢ 0 → Ordered before signed.entry (leaf_number signed.signature)

-- An entry may follow a log with these figures: signed by the key in charge, in its place, and allowed by the rules.
-- There is no limit of eight keys a region, since a chain does not show which keys were deleted.
pub record IsGood (maker : PublicKey) (before : Figures) (signed : SignedEntry) : Type 0 where
  pub certified : IsCertified maker before signed
  pub in_place : IsInPlace before signed
  pub ruled : Ruled before signed.entry

-- each entry of a list may follow those before it
abbrev pub AreGood : PublicKey → List SignedEntry → Type 0
AreGood maker log =
    (before : List SignedEntry) (signed : SignedEntry) (rest : List SignedEntry) → log ≡ before ++ signed ∷ rest
    → IsGood maker (figures_of (entries_of before)) signed

-- the entry at this place of a list, counted from 0; all entries before it are good
pub record IsNext
    (maker : PublicKey)
    (log : List SignedEntry)
    (place : ℕ)
    (before : List SignedEntry)
    (signed : SignedEntry) : Type 0 where
  pub rest : List SignedEntry
  pub split : log ≡ before ++ signed ∷ rest
  pub index : place ≡ length before
  pub good : AreGood maker before

-- the first entry, if there is one, verifies under the maker's key
abbrev pub IsBornOf : PublicKey → List SignedEntry → Type 0
IsBornOf maker log =
    (birth : SignedEntry) (rest : List SignedEntry) → log ≡ birth ∷ rest
    → Verifies maker (entry_text birth.entry) birth.signature

-- ---- the key and the statement

-- what an entry that makes a region's key says of the key
pub record KeyEntry : Type 0 where
  pub layer : ℕ
  pub kind : KeyKind
  pub key : PublicKey

abbrev pub key_in : ℕ → Entry → Option KeyEntry
key_in asked (Birth version serial key layers) = None
key_in asked (Change version position number kind layer cosigned layers kept next) = None
key_in asked (NewKey position number key_number layer kind key) =
    if key_number == asked then Some (record { layer = layer; kind = kind; key = key }) else None
key_in asked (Succession position key) = None

-- the region's key with this number, the last that an entry makes; no good chain has two
unfoldable pub key_of : List Entry → ℕ → Option KeyEntry
key_of log key_number = last_of (key_in key_number) log

-- whether the key with this number is alive by the log, as one of the `alive_keys` of this layer
unfoldable pub is_alive : List Entry → ℕ → ℕ → Bool
is_alive log key_number layer = list_any (λ made. made.number == key_number) (alive_keys log layer)

-- the statement verifies under the key, with the serial that the log names and this key number
abbrev pub IsStated : List Entry → ℕ → PublicKey → Statement → Type 0
IsStated log key_number key statement =
    IsSomeAnd (serial_of log)
    (λ serial. Verifies key (said_text serial key_number statement.number statement.said) statement.signature)

-- the property holds of the statement, if there is one
abbrev pub IfStatement : Option Statement → (Statement → Type 0) → Type 0
IfStatement None Holds = Unit {0}
IfStatement (Some statement) Holds = Holds statement

-- the key signed the statement, its configuration number is that of the log, and the key is alive
pub record IsCurrent (log : List Entry) (key_number : ℕ) (made : KeyEntry) (statement : Statement) : Type 0 where
  pub signed : IsStated log key_number made.key statement
  pub number : statement.number ≡ number_of log
  pub alive : is_alive log key_number made.layer ≡ true

-- ---- the verdict

abbrev pub said_of : Option Statement → Option Said
said_of None = None
said_of (Some statement) = Some statement.said

-- what an accepted chain says of a key
abbrev pub report_of : Chain → ℕ → KeyEntry → Report
report_of chain key_number made = record {
  layer = made.layer;
  kind = made.kind;
  alive = is_alive (entries_of chain.entries) key_number made.layer;
  lives = lives_of (entries_of chain.entries) key_number;
  entries = length chain.entries;
  said = said_of chain.statement;
}

-- The bytes are accepted under the maker's key, with this report on the key with this number.
pub record Accepts (maker : PublicKey) (bytes : List ℕ) (key_number : ℕ) (report : Report) : Type 0 where
  pub chain : Chain
  pub spelled : Spells chain_format bytes chain
  pub good : AreGood maker chain.entries
  pub made : KeyEntry
  pub named : key_of (entries_of chain.entries) key_number ≡ Some made
  pub current : IfStatement chain.statement (IsCurrent (entries_of chain.entries) key_number made)
  pub report_is : report ≡ report_of chain key_number made

-- The bytes spell a chain with this statement. Its entries are good, and one of them makes the key with this number.
pub record IsGoodFor
    (maker : PublicKey)
    (bytes : List ℕ)
    (key_number : ℕ)
    (log : List Entry)
    (made : KeyEntry)
    (statement : Statement) : Type 0 where
  pub chain : Chain
  pub spelled : Spells chain_format bytes chain
  pub good : AreGood maker chain.entries
  pub log_is : log ≡ entries_of chain.entries
  pub named : key_of log key_number ≡ Some made
  pub stated : chain.statement ≡ Some statement

-- The bytes are refused for this reason, and for none that is checked before it. So the answer names the first entry
-- that is wrong, whatever key is asked for. A signature with an index of 32 or more is not one of a key of 32 indices:
-- that is `bad_signature`.
abbrev pub IsRefused : PublicKey → List ℕ → ℕ → ChainRefusal → Type 0
IsRefused maker bytes key_number (bad_form offset) = FailsWhole chain_format bytes offset
IsRefused maker bytes key_number (bad_signature index) =
    (chain : Chain) × Spells chain_format bytes chain × (before : List SignedEntry) × (signed : SignedEntry)
    × IsNext maker chain.entries index before signed × (IsCertified maker (figures_of (entries_of before)) signed → ⊥)
IsRefused maker bytes key_number (bad_order index) =
    (chain : Chain) × Spells chain_format bytes chain × (before : List SignedEntry) × (signed : SignedEntry)
    × IsNext maker chain.entries index before signed × IsCertified maker (figures_of (entries_of before)) signed
    × (IsInPlace (figures_of (entries_of before)) signed → ⊥)
IsRefused maker bytes key_number (breaks_rules index) =
    (chain : Chain) × Spells chain_format bytes chain × (before : List SignedEntry) × (signed : SignedEntry)
    × IsNext maker chain.entries index before signed × IsCertified maker (figures_of (entries_of before)) signed
    × IsInPlace (figures_of (entries_of before)) signed × (Ruled (figures_of (entries_of before)) signed.entry → ⊥)
IsRefused maker bytes key_number key_unknown =
    (chain : Chain) × Spells chain_format bytes chain × AreGood maker chain.entries
    × (key_of (entries_of chain.entries) key_number ≡ None)
IsRefused maker bytes key_number bad_statement =
    (log : List Entry) × (made : KeyEntry) × (statement : Statement)
    × IsGoodFor maker bytes key_number log made statement
    × (IsStated log key_number made.key statement → ⊥)
IsRefused maker bytes key_number (wrong_number named last) =
    (log : List Entry) × (made : KeyEntry) × (statement : Statement)
    × IsGoodFor maker bytes key_number log made statement
    × IsStated log key_number made.key statement × (named ≡ statement.number) × (last ≡ number_of log) × (named ≢ last)
IsRefused maker bytes key_number key_ended =
    (log : List Entry) × (made : KeyEntry) × (statement : Statement)
    × IsGoodFor maker bytes key_number log made statement
    × IsStated log key_number made.key statement × (statement.number ≡ number_of log)
    × (is_alive log key_number made.layer ≡ false)

-- what a verifier says of bytes: it accepts them, with a report on the key, or refuses them for a reason
pub data Verdict : Type 0 where
  chain_acceptance : Report → Verdict
  chain_rejection : ChainRefusal → Verdict

abbrev pub IsVerdict : PublicKey → List ℕ → ℕ → Verdict → Type 0
IsVerdict maker bytes key_number (chain_acceptance report) = Accepts maker bytes key_number report
IsVerdict maker bytes key_number (chain_rejection why) = IsRefused maker bytes key_number why

-- ---- chains without forged entries

-- A chain has no forged entry of the device with this log: its first entry is the log's first if it verifies under the
-- maker's key, and each later entry is one of the log's if it verifies under a device key that the log names. Entries
-- are compared without their signatures. It says nothing of statements, on which the list does not rest.
pub record Honest (entries : List SignedEntry) (maker : PublicKey) (log : List Entry) : Type 0 where
  pub first : (signed : SignedEntry) (rest : List SignedEntry)
      → entries ≡ signed ∷ rest
      → Verifies maker (entry_text signed.entry) signed.signature → (later : List Entry) × (log ≡ signed.entry ∷ later)
  pub later : (before : List SignedEntry) (signed : SignedEntry) (rest : List SignedEntry)
      → entries ≡ before ++ signed ∷ rest
      → before ≢ [] → (key : PublicKey) → Any (λ entry. device_in entry ≡ Some key) log
      → Verifies key (entry_text signed.entry) signed.signature → Contains log signed.entry
