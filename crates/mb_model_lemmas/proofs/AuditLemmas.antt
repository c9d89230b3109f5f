-- What an audit finds out, of any bytes that have a verdict.
use Rattle.std.proofs.Common.{◌≡◌, ℕ, List, ◌++◌, length, take, sym, ap, subst, ◌∙◌, le_refl}
use Rattle.std.proofs.lemmas.List.{take-append-le, take_all}
use Rattle.mb_format.specs.Format.{IsBytes, Spells, IsClearWhole}
use Rattle.mb_format.proofs.Whole.{IsClearWhole-from_exact}
use Rattle.mb_model.specs.declared.key.PublicKey.{PublicKey}
use Rattle.mb_model.specs.declared.entry.Chain.{Chain}
use Rattle.mb_model.specs.declared.entry.Entry.{Entry}
use Rattle.mb_model.specs.declared.state.Report.{Report}
use Rattle.mb_model.specs.declared.state.State.{State}
use Rattle.mb_model.specs.owners.Log.{entries_of}
use Rattle.mb_model.specs.owners.Lives.{lives_of}
use Rattle.mb_model.specs.records.ChainFormat.{chain_format}
use Rattle.mb_model.specs.memories.Valid.{IsValidState}
use Rattle.mb_model.specs.chains.Acceptance.{Verdict, IsVerdict, Accepts, Honest}
use Rattle.mb_model.specs.chains.DeviceChains.{own_lives, TellsOfDevice, IsAudited}
use Rattle.mb_model.proofs.EntryFormatLaws.{chain_exact}
use Rattle.mb_model_lemmas.proofs.ChainLemmas.{honest_is_front}
use Rattle.mb_model_lemmas.proofs.LogLemmas.{length-entries_of}

chain_clear : IsClearWhole chain_format
chain_clear = IsClearWhole-from_exact chain_exact

-- the first entries of a log are the chain's, as many as it has
first_entries : (log chain : List Entry) (later : List Entry) → log ≡ chain ++ later → take (length chain) log ≡ chain
first_entries log chain later begins =
    ap (take (length chain)) begins ∙ take-append-le (length chain) chain later (le_refl (length chain)) ∙ take_all (length chain) chain (le_refl (length chain))

-- an accepted chain without forged entries tells of its device
tells : (state : State) (maker : PublicKey) (bytes : List ℕ) (n : ℕ) (report : Report) (chain : Chain)
    → IsBytes bytes → IsValidState state → Accepts maker bytes n report → Spells chain_format bytes chain → Honest chain.entries maker (entries_of state.log)
    → TellsOfDevice state n chain report
tells state maker bytes n report chain are valid accepts spelled honest =
    let same : accepts.chain ≡ chain = chain_clear.one_value bytes accepts.chain chain are accepts.spelled spelled in
    let own : List Entry = entries_of accepts.chain.entries in
    let front = honest_is_front maker accepts.chain.entries state.log accepts.good valid.log
    (subst (λ (c : Chain). Honest c.entries maker (entries_of state.log)) (sym same) honest) in
    let count : report.entries ≡ length own =
    ap (λ (r : Report). r.entries) accepts.report_is ∙ sym (length-entries_of accepts.chain.entries) in
    record {
      later = front.0;
      begins = front.1 ∙ ap (λ (c : Chain). entries_of c.entries ++ front.0) same;
      lists =
          ap (λ (r : Report). r.lives) accepts.report_is
          ∙ ap (λ (es : List Entry). lives_of es n) (sym (first_entries (entries_of state.log) own front.0 front.1))
          ∙ ap (λ (k : ℕ). own_lives state k n) (sym count);
    }

-- A verdict on bytes is what an audit finds.
pub audited : (state : State) (maker : PublicKey) (bytes : List ℕ) (n : ℕ) (verdict : Verdict) → IsBytes bytes → IsValidState state → IsVerdict maker bytes n verdict
    → IsAudited state maker bytes n verdict
audited state maker bytes n verdict are valid is = record {
  is = is;
  honest = λ report chain accepted spelled honest.
      tells state maker bytes n report chain are valid (subst (IsVerdict maker bytes n) accepted is) spelled honest;
}
