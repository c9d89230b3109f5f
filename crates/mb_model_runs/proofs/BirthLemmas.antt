-- The chain of a device's log is accepted for each key that was born in it.
use Rattle.std.proofs.Common.{◌≡◌, ◌≢◌, ◌<◌, ℕ, List, [], ◌∷◌, ◌++◌, length, Option, None, Some, false, refl, sym, ap, subst, ◌∙◌, arith, eq-eqb}
use Rattle.std.specs.Prelude.{if◌then◌else◌}
use Rattle.std.proofs.Math.Seq.{append_snoc}
use Rattle.std.proofs.lemmas.List.Elements.{All-weaker}
use Rattle.mb_format.specs.Format.{Spells}
use Rattle.mb_model.specs.declared.key.PublicKey.{PublicKey}
use Rattle.mb_model.specs.declared.order.KeyKind.{KeyKind}
use Rattle.mb_model.specs.declared.entry.Entry.{Entry}
use Rattle.mb_model.specs.declared.entry.Entry.TheVariants.{NewKey}
use Rattle.mb_model.specs.declared.entry.SignedEntry.{SignedEntry}
use Rattle.mb_model.specs.declared.state.State.{State}
use Rattle.mb_model.specs.owners.Log.{figures_of, entries_of, keys_made_by, RuledLog}
use Rattle.mb_model.specs.records.ChainFormat.{chain_format}
use Rattle.mb_model.specs.machine.SignedTexts.{entry_text, IsSignedBy}
use Rattle.mb_model.specs.memories.Valid.{EachFollows, IsValidState}
use Rattle.mb_model.specs.chains.Attach.{bare_chain}
use Rattle.mb_model.specs.chains.Acceptance.{IsGood, AreGood, IsBornOf, KeyEntry, key_in, key_of, report_of, Accepts}
use Rattle.mb_model.specs.chains.DeviceChains.{IsChainOf}
use Rattle.mb_model_lemmas.specs.AliveLaws.{makes, IsUnmade}
use Rattle.mb_model_lemmas.proofs.LogLemmas.{made-push, last_of-split}
use Rattle.mb_model_lemmas.proofs.AliveLemmas.{later_is_unmade}
use Rattle.mb_model_lemmas.proofs.ChainLemmas.{in_charge_after}
use Rattle.mb_model_lemmas.proofs.ValidStates.{valid_is_ruled}
use Rattle.mb_model_lemmas.proofs.ReaderLemmas.{made_stands, makes_none}

-- ---- entries

good_at : (maker : PublicKey) (log : List SignedEntry) → EachFollows log → IsBornOf maker log → (before : List SignedEntry) (signed : SignedEntry) (rest : List SignedEntry)
    → log ≡ before ++ signed ∷ rest → IsGood maker (figures_of (entries_of before)) signed
good_at maker log each born [] signed rest split =
    let it = each [] signed rest split in
    record { certified = born signed rest split; in_place = it.in_order; ruled = it.ruled }
good_at maker log each born (first ∷ more) signed rest split =
    let it = each (first ∷ more) signed rest split in
    let some : length (entries_of (first ∷ more)) ≢ 0 = λ none. absurd (omega (arith, none)) in
    record {
      certified = subst (λ (key : Option PublicKey). IsSignedBy key (entry_text signed.entry) signed.signature) (sym (in_charge_after maker (figures_of (entries_of (first ∷ more))) some)) (it.verifies some);
      in_place = it.in_order;
      ruled = it.ruled;
    }

pub follows_is_good : (maker : PublicKey) (log : List SignedEntry) → EachFollows log → IsBornOf maker log → AreGood maker log
follows_is_good maker log each born = λ before signed rest split. good_at maker log each born before signed rest split

pub log_is_good : (maker : PublicKey) (state : State) → IsValidState state → IsBornOf maker state.log → AreGood maker state.log
log_is_good maker state valid born = follows_is_good maker state.log valid.log born

-- ---- keys

-- the log says of a key what its own entry says
pub key_of-split : (before : List Entry) (position number n L : ℕ) (kind : KeyKind) (key : PublicKey) (later : List Entry)
    → RuledLog (before ++ NewKey position number n L kind key ∷ later)
    → key_of (before ++ NewKey position number n L kind key ∷ later) n ≡ Some (record { layer = L; kind = kind; key = key })
unfolding key_of
key_of-split before position number n L kind key later ruled =
    let own : Entry = NewKey position number n L kind key in
    let says : KeyEntry = record { layer = L; kind = kind; key = key } in
    let counted : n ≡ keys_made_by before = (ruled before own later refl).1.key_counted in
    let less : n < keys_made_by (before ++ own ∷ []) = omega (arith, counted, made-push before own) in
    let unmade : IsUnmade later n = later_is_unmade (before ++ own ∷ []) later n less (subst RuledLog (sym (append_snoc before own later)) ruled) in
    let named : key_in n own ≡ Some says = ap (λ b. if b then Some says else None) (eq-eqb n n refl) in
    last_of-split (key_in n) before own later says named (All-weaker (λ e. makes n e ≡ false) (λ e. key_in n e ≡ None) (makes_none n) later unmade)

pub born_key_accepted : (maker : PublicKey) (state : State) (bytes : List ℕ) (before : List Entry) (position number n L : ℕ) (kind : KeyKind) (key : PublicKey) (later : List Entry)
    → IsValidState state → IsBornOf maker state.log → Spells chain_format bytes (bare_chain state.log)
    → entries_of state.log ≡ before ++ NewKey position number n L kind key ∷ later
    → Accepts maker bytes n (report_of (bare_chain state.log) n (record { layer = L; kind = kind; key = key }))
born_key_accepted maker state bytes before position number n L kind key later valid born spelled split =
    let ruled : RuledLog (before ++ NewKey position number n L kind key ∷ later) = subst RuledLog split (valid_is_ruled state valid) in
    record {
      chain = bare_chain state.log;
      spelled = spelled;
      good = log_is_good maker state valid born;
      made = record { layer = L; kind = kind; key = key };
      named = ap (λ (es : List Entry). key_of es n) split ∙ key_of-split before position number n L kind key later ruled;
      current = tt;
      report_is = refl;
    }

-- The chain of a valid state's log is what the device hands out.
pub chain_is_of : (state : State) → IsValidState state → IsChainOf state (bare_chain state.log)
chain_is_of state valid = record {
  is = refl;
  good = λ maker born. log_is_good maker state valid born;
  accepted = λ maker bytes n made born spelled named.
      let at = made_stands (entries_of state.log) n made named in
      born_key_accepted maker state bytes at.0 at.1 at.2 n made.layer made.kind made.key at.3 valid born spelled at.4;
}
