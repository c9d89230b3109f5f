-- A statement that was made elsewhere: it is accepted, and no history that leads back to its world makes it.
use Rattle.std.proofs.Common.{◌≡◌, ◌<◌, ℕ, List, [], ◌∷◌, ◌++◌, Some, refl, sym, ap, ◌∙◌, subst, arith, append_assoc, append-nil}
use Rattle.std.specs.Prelude.{All, AllPairs, Contains}
use Rattle.mb_model.specs.declared.entry.Chain.{Chain}
use Rattle.mb_model.specs.declared.entry.Entry.{Entry}
use Rattle.mb_model.specs.declared.entry.Said.{Said}
use Rattle.mb_model.specs.declared.entry.SignedEntry.{SignedEntry}
use Rattle.mb_model.specs.declared.entry.Statement.{Statement}
use Rattle.mb_model.specs.declared.event.Answered.{Answered}
use Rattle.mb_model.specs.declared.key.PublicKey.{PublicKey}
use Rattle.mb_model.specs.declared.region.RegionKey.{RegionKey}
use Rattle.mb_model.specs.declared.reply.Reply.TheVariants as reply
use Rattle.mb_model.specs.declared.state.Report.{Report}
use Rattle.mb_model.specs.declared.state.State.{State}
use Rattle.mb_model.specs.chains.Acceptance.{key_of, IsCurrent, report_of, Honest}
use Rattle.mb_model.specs.owners.Log.{entries_of, number_of, serial_of, RuledLog}
use Rattle.mb_model.specs.machine.Machine.{World, Run}
use Rattle.mb_model.specs.signatures.Merkle.{Verifies}
use Rattle.mb_model.specs.owners.Regions.{region_of}
use Rattle.mb_model.specs.machine.SignedTexts.{said_text}
use Rattle.mb_model.specs.signatures.Signing.{public_of, signature_of}
use Rattle.mb_model.specs.memories.Valid.{IsValidState, Valid}
use Rattle.mb_model_lemmas.proofs.ReaderLemmas.{living_is_flagged}
use Rattle.mb_model_lemmas.proofs.SignatureLemmas.{signature_verifies}
use Rattle.mb_model_lemmas.proofs.Splits.{All-split}
use Rattle.mb_model_lemmas.proofs.ValidStates.{valid_is_ruled}
use Rattle.mb_model_lemmas.proofs.ListLemmas.{pairs_head, pairs_back}
use Rattle.mb_model_runs.specs.StatementLaws.{statement_saying, key_entry_of}
use Rattle.mb_model_runs.proofs.BirthLemmas.{log_is_good, key_of-split}
use Rattle.mb_model_runs.proofs.KeyLemmas.{key_lives}
use Rattle.mb_model_runs.proofs.SpentLemmas.{Goes, indices_increase}
use Rattle.mb_model_runs.proofs.StatementLemmas.{stated_by}
use Rattle.mb_model_histories.specs.AcceptanceLaws.{WasMade, whole_chain, StatementsMayBeMadeElsewhere}
use Rattle.mb_model_histories.proofs.AgreementLemmas.{own_chains_are_honest}
use Rattle.mb_model_histories.proofs.HistoryLemmas.{run_on, runs_lead}

-- ---- the chain with a statement

-- the log makes the key
pub key_named : (state : State) (layer : ℕ) (key : RegionKey) → IsValidState state → Contains (region_of state layer).keys key
    → key_of (entries_of state.log) key.number ≡ Some (key_entry_of layer key)
key_named state layer key valid within =
    let alive = key_lives state layer key valid within in
    ap (λ (log : List Entry). key_of log key.number) alive.split
    ∙ key_of-split alive.before alive.position alive.number key.number layer key.kind (public_of key.seed) alive.later (subst RuledLog alive.split (valid_is_ruled state valid))

-- the key signed it, in the last configuration, and is alive
pub statement_current : (state : State) (layer : ℕ) (key : RegionKey) (said : Said) → IsValidState state → Contains (region_of state layer).keys key → key.uses < 32
    → IsCurrent (entries_of state.log) key.number (key_entry_of layer key) (statement_saying state key said)
unfolding statement_saying
statement_current state layer key said valid within few =
    let text : List ℕ = said_text state.serial key.number (number_of (entries_of state.log)) said in
    record {
      signed = stated_by (serial_of (entries_of state.log)) state.serial
          (λ serial. Verifies (public_of key.seed) (said_text serial key.number (number_of (entries_of state.log)) said) (signature_of key.seed key.uses text))
          valid.serial (signature_verifies key.seed key.uses text few);
      number = refl;
      alive = living_is_flagged (entries_of state.log) key.number (key_entry_of layer key) (key_lives state layer key valid within);
    }

-- the whole log of a device has no forged entry of it
pub log_is_honest : (log : List SignedEntry) (maker : PublicKey) → Honest log maker (entries_of log)
log_is_honest log maker = subst (λ (l : List SignedEntry). Honest log maker (entries_of l)) (append-nil log) (own_chains_are_honest log [] maker)

-- ---- no way leads back

-- a run that leads back to its world signs nothing
module _ (world here after : World) (key_number index : ℕ) (bytes : List ℕ) (this : Answered) (sooner later : List Answered)
    (valid : Valid world.state) (is : this.reply ≡ reply.Signed key_number index bytes) where
  no_loop : Run world (sooner ++ this ∷ later) world → ⊥
  no_loop once =
      let twice : Run world (sooner ++ this ∷ later ++ (sooner ++ this ∷ later)) world = run_on world world world (sooner ++ this ∷ later) (sooner ++ this ∷ later) once once in
      let all : AllPairs Goes (sooner ++ this ∷ later ++ (sooner ++ this ∷ later)) = indices_increase world _ world valid twice in
      let split : sooner ++ this ∷ later ++ (sooner ++ this ∷ later) ≡ sooner ++ (this ∷ later ++ (sooner ++ this ∷ later)) = append_assoc sooner (this ∷ later) (sooner ++ this ∷ later) in
      let onwards : AllPairs Goes (this ∷ later ++ (sooner ++ this ∷ later)) = pairs_back Goes sooner _ (subst (AllPairs Goes) split all) in
      let again : Goes this this = All-split (Goes this) (later ++ sooner) this later
      (subst (λ l. All (Goes this) l) (sym (append_assoc later sooner (this ∷ later))) (pairs_head Goes this (later ++ (sooner ++ this ∷ later)) onwards)) in
      let less : index < index = again key_number index index (bytes, is) (bytes, is) in
      omega (arith, less)

never_made : (world : World) (state : State) (key_number : ℕ) (report : Report) (statement : Statement) → Valid world.state → world.state ≡ Some state → WasMade world world key_number report statement → ⊥
never_made world state key_number report statement valid was made =
    let this : Answered = record { event = made.event; reply = reply.Signed key_number made.index made.bytes } in
    let sooner = runs_lead world made.here made.state made.before made.is in
    let later = runs_lead made.after world state made.later was in
    no_loop world made.here made.after key_number made.index made.bytes this sooner.0 later.0 valid refl
    (run_on world made.here world sooner.0 (this ∷ later.0) sooner.1 (made.after, made.step, later.1))

-- ---- the statement

pub statements_may_be_made_elsewhere : StatementsMayBeMadeElsewhere
statements_may_be_made_elsewhere maker bytes said world state layer key valid was within few born spelled =
    let chain : Chain = whole_chain state.log (statement_saying state key said) in
    let report : Report = report_of chain key.number (key_entry_of layer key) in (
      report,
      record {
        chain = chain;
        spelled = spelled;
        good = log_is_good maker state valid born;
        made = key_entry_of layer key;
        named = key_named state layer key valid within;
        current = statement_current state layer key said valid within few;
        report_is = refl;
      },
      refl,
      log_is_honest state.log maker,
      never_made world state key.number report (statement_saying state key said) (subst Valid (sym was) valid) was,
    )
