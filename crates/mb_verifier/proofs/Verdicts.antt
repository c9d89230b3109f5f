-- From what is judged of a chain's entries, key and statement to what is said of its bytes.
use Rattle.std.proofs.Common.{◌≡◌, ◌≤◌, ℕ, Bool, List, length, map, Option, None, Some, refl, sym, ap, subst, ◌∙◌}
use Rattle.std.specs.Prelude.{All, IfSome, IfOk, IfErr, Result, Ok, Err}
use Rattle.std.proofs.lemmas.List.{length-map}
use Rattle.mb_format.specs.Format.{IsBytes, Spells, IsClearWhole}
use Rattle.mb_format.proofs.Whole.{IsClearWhole-from_exact}
use Rattle.mb_model.specs.declared.key.PublicKey.{PublicKey}
use Rattle.mb_model.specs.declared.entry.Chain.{Chain}
use Rattle.mb_model.specs.declared.entry.SignedEntry.{SignedEntry}
use Rattle.mb_model.specs.declared.entry.Said.{Said}
use Rattle.mb_model.specs.declared.entry.Statement.{Statement}
use Rattle.mb_model.specs.declared.order.KeyKind.{KeyKind}
use Rattle.mb_model.specs.declared.state.Configuration.{Configuration}
use Rattle.mb_model.specs.declared.state.Report.{Report}
use Rattle.mb_model.specs.owners.Log.{figures_of, entries_of, serial_of, RuledLog}
use Rattle.mb_model.specs.records.EntryFormat.{entry_format, entry_hash}
use Rattle.mb_model.specs.records.ChainFormat.{chain_format}
use Rattle.mb_model.specs.chains.Acceptance.{ChainRefusal, bad_form, bad_signature, bad_order, breaks_rules, key_unknown, bad_statement, wrong_number, key_ended, AreGood, IsNext, IfStatement, IsCurrent, said_of, Accepts, IsRefused}
use Rattle.mb_cert.proofs.Sizes.{entries_allowed}
use Rattle.mb_model.specs.declared.state.Figures.{Figures}
use Rattle.mb_log.specs.declared.life.BornKey.{BornKey}
use Rattle.mb_log.specs.declared.life.Life.{Life}
use Rattle.mb_log.specs.KeyLife.{as_entry, IsLifeOf}
use Rattle.mb_verifier.proofs.Stating.{born_is, alive_is}
use Rattle.mb_model.proofs.EntryFormatLaws.{chain_exact}
use Rattle.mb_model_lemmas.proofs.ChainLemmas.{accepted_is_ruled}
use Rattle.mb_verifier.specs.declared.refusal.ChainRefusal as why
use Rattle.mb_verifier.specs.Ends.{chain_refusal_of}
use Rattle.mb_verifier.specs.Checked.{HasBadEntry}
use Rattle.mb_verifier.specs.Entries.{ChainShows, IsOfEntries, IsEntriesRefused}

-- ---- the entries of a chain

pub entries_spelled : (chain : Chain) → chain_format.Allowed chain → All (λ (signed : SignedEntry). entry_format.Allowed signed.entry) chain.entries
entries_spelled chain is = entries_allowed chain is

pub entries_few : (chain : Chain) → chain_format.Allowed chain → length chain.entries ≤ 128
unfolding chain_format
entries_few chain is = is.1.0.0.1

pub some_entries : (chain : Chain) → chain_format.Allowed chain → 1 ≤ length chain.entries
unfolding chain_format
some_entries chain is = is.1.0.0.0

-- what good entries of a chain show
pub entries_show : (maker : PublicKey) (bytes : List ℕ) (chain : Chain) (log : List SignedEntry) (serial : List ℕ) (figures : Figures) (hashes : List (List ℕ)) → Spells chain_format bytes chain → log ≡ chain.entries
    → AreGood maker log → serial_of (entries_of log) ≡ Some serial → figures ≡ figures_of (entries_of log) → hashes ≡ map entry_hash (entries_of log)
    → ChainShows maker bytes (record { serial = serial; figures = figures; hashes = hashes })
entries_show maker bytes chain log serial figures hashes spelled is good named counted hashed = record {
  chain = chain;
  spelled = spelled;
  good = subst (AreGood maker) is good;
  serial = subst (λ (l : List SignedEntry). serial_of (entries_of l) ≡ Some serial) is named;
  figures = subst (λ (l : List SignedEntry). figures ≡ figures_of (entries_of l)) is counted;
  hashes = subst (λ (l : List SignedEntry). hashes ≡ map entry_hash (entries_of l)) is hashed;
}

-- ---- refusals

module _ (maker : PublicKey) (bytes : List ℕ) (n : ℕ) (chain : Chain) (spelled : Spells chain_format bytes chain) where
  next_at : (i : ℕ) (why : ChainRefusal) (has : HasBadEntry maker chain.entries why) → i ≡ length (entries_of has.before) → IsNext maker chain.entries i has.before has.signed
  next_at i why has is = record {
    rest = has.rest;
    split = has.split;
    index = is ∙ length-map has.before (λ (s : SignedEntry). s.entry);
    good = has.good;
  }

  -- an entry that is not good
  pub entry_refuses : (why : ChainRefusal) → HasBadEntry maker chain.entries why → IsRefused maker bytes n why
  entry_refuses (bad_signature i) has = (chain, spelled, has.before, has.signed, next_at i (bad_signature i) has has.bad.0, has.bad.1)
  entry_refuses (bad_order i) has = (chain, spelled, has.before, has.signed, next_at i (bad_order i) has has.bad.0, has.bad.1, has.bad.2)
  entry_refuses (breaks_rules i) has = (chain, spelled, has.before, has.signed, next_at i (breaks_rules i) has has.bad.0, has.bad.1, has.bad.2, has.bad.3)
  entry_refuses (bad_form offset) has = absurd has.bad
  entry_refuses key_unknown has = absurd has.bad
  entry_refuses bad_statement has = absurd has.bad
  entry_refuses (wrong_number named last) has = absurd has.bad
  entry_refuses key_ended has = absurd has.bad

  -- and what it gives is a reason of the entries
  reason_of_entries : (why : ChainRefusal) → HasBadEntry maker chain.entries why → IsOfEntries why
  reason_of_entries (bad_signature i) has = tt
  reason_of_entries (bad_order i) has = tt
  reason_of_entries (breaks_rules i) has = tt
  reason_of_entries (bad_form offset) has = tt
  reason_of_entries key_unknown has = has.bad
  reason_of_entries bad_statement has = has.bad
  reason_of_entries (wrong_number named last) has = has.bad
  reason_of_entries key_ended has = has.bad

-- an entry that is not good refuses the bytes, whichever key is asked for
pub entries_refuse : (maker : PublicKey) (bytes : List ℕ) (chain : Chain) → Spells chain_format bytes chain → (why : ChainRefusal) → HasBadEntry maker chain.entries why → IsEntriesRefused maker bytes why
entries_refuse maker bytes chain spelled why has = record {
  of_entries = reason_of_entries maker bytes 0 chain spelled why has;
  refused = λ n. entry_refuses maker bytes n chain spelled why has;
}

of_some : {X : Type 0} (P : X → Type 0) (o : Option X) → IfSome o P → (x : X) → o ≡ Some x → P x
of_some P o holds x is = subst (λ p. IfSome p P) is holds

-- each refusal that an answer names is one of the chain
pub each_refused : {T : Type 0} (P : ChainRefusal → Type 0) (result : Result T why.ChainRefusal) → IfErr result (λ e. IfSome (chain_refusal_of e) P)
    → IfErr result (λ e. (refusal : ChainRefusal) → chain_refusal_of e ≡ Some refusal → P refusal)
each_refused P (Ok x) holds = holds
each_refused P (Err e) holds = λ refusal is. of_some P (chain_refusal_of e) holds refusal is

-- ---- acceptance

pub with_statement : (P : Statement → Type 0) (stated : Option Statement) (statement : Statement) → stated ≡ Some statement → P statement → IfStatement stated P
with_statement P stated statement is holds = subst (λ (o : Option Statement). IfStatement o P) (sym is) holds

pub without_statement : (P : Statement → Type 0) (stated : Option Statement) → stated ≡ None → IfStatement stated P
without_statement P stated is = subst (λ (o : Option Statement). IfStatement o P) (sym is) tt

same_report : (layer : ℕ) (kind : KeyKind) (alive alive' : Bool) (lives lives' : List Configuration) (entries entries' : ℕ) (said said' : Option Said)
    → alive ≡ alive' → lives ≡ lives' → entries ≡ entries' → said ≡ said'
    → ◌≡◌ {A = Report} (record { layer = layer; kind = kind; alive = alive; lives = lives; entries = entries; said = said })
    (record { layer = layer; kind = kind; alive = alive'; lives = lives'; entries = entries'; said = said' })
same_report layer kind alive alive' lives lives' entries entries' said said' a l e m = rw (a, l, e, m) refl

-- what is judged of a chain whose statement, where it has one, is current
pub accepted : (maker : PublicKey) (bytes : List ℕ) (chain : Chain) (log : List SignedEntry) (n : ℕ) (figures : Figures) (life : Life) (born : BornKey) (said : Option Said)
    → Spells chain_format bytes chain → log ≡ chain.entries → AreGood maker log → figures ≡ figures_of (entries_of log) → IsLifeOf (entries_of log) n life → life.born ≡ Some born
    → IfStatement chain.statement (IsCurrent (entries_of log) n (as_entry born)) → said ≡ said_of chain.statement
    → Accepts maker bytes n (record { layer = born.layer; kind = born.kind; alive = life.alive; lives = life.lives; entries = figures.length; said = said })
accepted maker bytes chain log n figures life born said spelled log_is good figures_are is some current said_is =
    let own : IsLifeOf (entries_of chain.entries) n life = subst (λ (l : List SignedEntry). IsLifeOf (entries_of l) n life) log_is is in
    let count : figures.length ≡ length chain.entries = ap (λ (f : Figures). f.length) figures_are ∙ length-map log (λ (s : SignedEntry). s.entry) ∙ ap length log_is in
    record {
      chain = chain;
      spelled = spelled;
      good = subst (AreGood maker) log_is good;
      made = as_entry born;
      named = born_is (entries_of chain.entries) n life born own some;
      current = subst (λ (l : List SignedEntry). IfStatement chain.statement (IsCurrent (entries_of l) n (as_entry born))) log_is current;
      report_is = same_report born.layer born.kind _ _ _ _ _ _ _ _ (alive_is (entries_of chain.entries) n life born own some) own.lives count said_is;
    }

-- an accepted chain, which is the only one of its bytes, obeys the rules
accepted_rules : (maker : PublicKey) (bytes : List ℕ) (n : ℕ) (report : Report) → IsBytes bytes → Accepts maker bytes n report
    → (whole : Chain) → Spells chain_format bytes whole → RuledLog (entries_of whole.entries)
accepted_rules maker bytes n report are accepts whole spelled =
    let clear : IsClearWhole chain_format = IsClearWhole-from_exact chain_exact in
    let same : accepts.chain ≡ whole = clear.one_value bytes accepts.chain whole are accepts.spelled spelled in
    subst (λ (c : Chain). RuledLog (entries_of c.entries)) same (accepted_is_ruled maker bytes n report accepts)

pub answer_is_ruled : {E : Type 0} (maker : PublicKey) (bytes : List ℕ) (n : ℕ) (result : Result Report E) → IsBytes bytes → IfOk result (Accepts maker bytes n)
    → IfOk result (λ report. (whole : Chain) → Spells chain_format bytes whole → RuledLog (entries_of whole.entries))
answer_is_ruled maker bytes n (Ok report) are accepts = accepted_rules maker bytes n report are accepts
answer_is_ruled maker bytes n (Err e) are accepts = accepts
