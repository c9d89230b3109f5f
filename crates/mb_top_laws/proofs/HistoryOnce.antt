-- One thing is found of a chain, if no key is asked for.
use Rattle.std.proofs.Common.{◌≡◌, ◌≢◌, ◌⊎◌, ℕ, ◌<◌, ◌==◌, Bool, true, false, true≢false, List, Option, None, Some, refl, sym, ◌∙◌, ap, subst, inl, inr, arith}
use Rattle.std.specs.Prelude.{nat_lt}
use Rattle.std.proofs.lemmas.Option.{same_Some}
use Rattle.mb_format.specs.Format.{IsBytes, Spells, IsClearWhole}
use Rattle.mb_format.proofs.Whole.{IsClearWhole-from_exact}
use Rattle.mb_model.proofs.EntryFormatLaws.{chain_exact}
use Rattle.mb_model.specs.declared.key.PublicKey.{PublicKey}
use Rattle.mb_model.specs.declared.entry.Chain.{Chain}
use Rattle.mb_model.specs.declared.entry.Entry.{Entry}
use Rattle.mb_model.specs.declared.entry.Statement.{Statement}
use Rattle.mb_model.specs.owners.Log.{entries_of, number_of}
use Rattle.mb_model.specs.records.ChainFormat.{chain_format}
use Rattle.mb_model.specs.chains.Acceptance.{ChainRefusal, bad_form, bad_signature, bad_order, breaks_rules, key_unknown, bad_statement, wrong_number, key_ended, KeyEntry, key_of, is_alive, IsCurrent}
use Rattle.mb_model_lemmas.proofs.ChainLemmas.{one_refusal}
use Rattle.mb_fleet.proofs.Determined.{good_or_refused}
use Rattle.mb_verifier.specs.Checked.{IsBadStatement}
use Rattle.mb_verifier.specs.Signers.{IsSigner, HasSigned, HasNoSigner, IsStatementRefused, is_unsigned, is_refused_for}
use Rattle.mb_tools_shown.specs.HistoryCommand.{Finding, has_history, is_untold, IsSignedByKey, IsGoodChain, HasBadStatement, IsFinding}

one_chain : (maker : PublicKey) (bytes : List ℕ) (a b : Chain) → IsBytes bytes → IsGoodChain maker bytes a → IsGoodChain maker bytes b → a ≡ b
one_chain maker bytes a b are x y =
    let clear : IsClearWhole chain_format = IsClearWhole-from_exact chain_exact in
    clear.one_value bytes a b are x.spelled y.spelled

-- ---- the signer

-- of two numbers the lower signed, so they are one
one_signer : (log : List Entry) (statement : Statement) (m n : ℕ) (made other : KeyEntry) → IsSigner log statement m made → IsSigner log statement n other → m ≡ n
one_signer log statement m n made other x y = by (nat_lt m n) refl (nat_lt n m) refl
  where
    by : (b : Bool) → nat_lt m n ≡ b → (c : Bool) → nat_lt n m ≡ c → m ≡ n
    by true less c greater = absurd (y.lowest m made (grind (arith, less)) x.named x.signed)
    by false less true greater = absurd (x.lowest n other (grind (arith, greater)) y.named y.signed)
    by false less false greater = grind (arith, less, greater)

one_key : (log : List Entry) (statement : Statement) (m n : ℕ) (made other : KeyEntry) → m ≡ n → IsSigner log statement m made → IsSigner log statement n other → made ≡ other
one_key log statement m n made other same x y = same_Some made other (sym x.named ∙ ap (key_of log) same ∙ y.named)

signers_same : (log : List Entry) (stated : Option Statement) (a b : Option ℕ) → IsSignedByKey log stated a → IsSignedByKey log stated b → a ≡ b
signers_same log None None None x y = refl
signers_same log None None (Some n) x y = absurd y
signers_same log None (Some m) b x y = absurd x
signers_same log (Some statement) None b x y = absurd x
signers_same log (Some statement) (Some m) None x y = absurd y
signers_same log (Some statement) (Some m) (Some n) x y = ap (λ (k : ℕ). Some k) (one_signer log statement m n x.made y.made x.signer y.signer)

-- ---- a refused statement

-- a statement that is current is not refused for its signer
current_not_bad : (log : List Entry) (n : ℕ) (made : KeyEntry) (statement : Statement) (why : ChainRefusal) → IsCurrent log n made statement → IsBadStatement log n made statement why → ⊥
current_not_bad log n made statement bad_statement current bad = bad current.signed
current_not_bad log n made statement (wrong_number named last) current bad = bad.3 (bad.1 ∙ current.number ∙ sym bad.2)
current_not_bad log n made statement key_ended current bad = true≢false (sym current.alive ∙ bad.2)
current_not_bad log n made statement (bad_form offset) current bad = bad
current_not_bad log n made statement (bad_signature i) current bad = bad
current_not_bad log n made statement (bad_order i) current bad = bad
current_not_bad log n made statement (breaks_rules i) current bad = bad
current_not_bad log n made statement key_unknown current bad = bad

signed_not_refused : (log : List Entry) (statement : Statement) (n : ℕ) (why : ChainRefusal) → HasSigned log statement n → IsStatementRefused log statement why → ⊥
signed_not_refused log statement n why signed (is_unsigned is none) = none n signed.made signed.signer.named signed.signer.signed
signed_not_refused log statement n why signed (is_refused_for m other signer bad) =
    let same = one_signer log statement n m signed.made other signed.signer signer in
    let keys = one_key log statement n m signed.made other same signed.signer signer in
    let current : IsCurrent log m other statement = subst (λ (k : KeyEntry). IsCurrent log m k statement) keys (subst (λ (k : ℕ). IsCurrent log k signed.made statement) same signed.current) in
    current_not_bad log m other statement why current bad

told_not_refused : (log : List Entry) (stated : Option Statement) (signer : Option ℕ) (statement : Statement) (why : ChainRefusal) → IsSignedByKey log stated signer → stated ≡ Some statement
    → IsStatementRefused log statement why → ⊥
told_not_refused log None signer statement why signed is refused = absurd (cc)
told_not_refused log (Some other) None statement why signed is refused = absurd signed
told_not_refused log (Some other) (Some n) statement why signed is refused =
    let same : other ≡ statement = same_Some other statement is in
    signed_not_refused log statement n why (subst (λ (s : Statement). HasSigned log s n) same signed) refused

-- a statement is refused to its signer for one reason
one_reason : (log : List Entry) (n : ℕ) (made : KeyEntry) (statement : Statement) (a b : ChainRefusal) → IsSigner log statement n made → IsBadStatement log n made statement a
    → IsBadStatement log n made statement b → a ≡ b
one_reason log n made statement bad_statement b signer x y = absurd (x signer.signed)
one_reason log n made statement (wrong_number named last) bad_statement signer x y = absurd (y signer.signed)
one_reason log n made statement (wrong_number named last) (wrong_number other end) signer x y =
    ap (λ (k : ℕ). wrong_number k last) (x.1 ∙ sym y.1) ∙ ap (wrong_number other) (x.2 ∙ sym y.2)
one_reason log n made statement (wrong_number named last) key_ended signer x y = absurd (x.3 (x.1 ∙ y.1 ∙ sym x.2))
one_reason log n made statement key_ended bad_statement signer x y = absurd (y signer.signed)
one_reason log n made statement key_ended (wrong_number other end) signer x y = absurd (y.3 (y.1 ∙ x.1 ∙ sym y.2))
one_reason log n made statement key_ended key_ended signer x y = refl
one_reason log n made statement (bad_form offset) b signer x y = absurd x
one_reason log n made statement (bad_signature i) b signer x y = absurd x
one_reason log n made statement (bad_order i) b signer x y = absurd x
one_reason log n made statement (breaks_rules i) b signer x y = absurd x
one_reason log n made statement key_unknown b signer x y = absurd x
one_reason log n made statement a (bad_form offset) signer x y = absurd y
one_reason log n made statement a (bad_signature i) signer x y = absurd y
one_reason log n made statement a (bad_order i) signer x y = absurd y
one_reason log n made statement a (breaks_rules i) signer x y = absurd y
one_reason log n made statement a key_unknown signer x y = absurd y

refusals_same : (log : List Entry) (statement : Statement) (a b : ChainRefusal) → IsStatementRefused log statement a → IsStatementRefused log statement b → a ≡ b
refusals_same log statement a b (is_unsigned is none) (is_unsigned also never) = is ∙ sym also
refusals_same log statement a b (is_unsigned is none) (is_refused_for n made signer bad) = absurd (none n made signer.named signer.signed)
refusals_same log statement a b (is_refused_for n made signer bad) (is_unsigned is none) = absurd (none n made signer.named signer.signed)
refusals_same log statement a b (is_refused_for n made signer bad) (is_refused_for m other another wrong) =
    let same = one_signer log statement n m made other signer another in
    let keys = one_key log statement n m made other same signer another in
    let moved : IsBadStatement log m other statement a = subst (λ (k : KeyEntry). IsBadStatement log m k statement a) keys (subst (λ (k : ℕ). IsBadStatement log k made statement a) same bad) in
    one_reason log m other statement a b another moved wrong

-- ---- a chain

statements_same : (maker : PublicKey) (bytes : List ℕ) (a b : ChainRefusal) → IsBytes bytes → HasBadStatement maker bytes a → HasBadStatement maker bytes b → a ≡ b
statements_same maker bytes a b are x y =
    let chains = one_chain maker bytes x.chain y.chain are x.good y.good in
    let statements : x.statement ≡ y.statement = same_Some x.statement y.statement (sym x.stated ∙ ap (λ (c : Chain). c.statement) chains ∙ y.stated) in
    let moved : IsStatementRefused (entries_of y.chain.entries) y.statement a =
    subst (λ (s : Statement). IsStatementRefused (entries_of y.chain.entries) s a) statements (subst (λ (c : Chain). IsStatementRefused (entries_of c.entries) x.statement a) chains x.refused) in
    refusals_same (entries_of y.chain.entries) y.statement a b moved y.refused

history_not_untold : (maker : PublicKey) (bytes : List ℕ) (chain : Chain) (signer : Option ℕ) (why : ChainRefusal) → IsBytes bytes → IsFinding maker bytes (has_history chain signer)
    → IsFinding maker bytes (is_untold why) → ⊥
history_not_untold maker bytes chain signer why are (good, signed) (inl entries) = good_or_refused maker bytes chain why are good.spelled good.good entries.of_entries (entries.refused 0)
history_not_untold maker bytes chain signer why are (good, signed) (inr bad) =
    let chains = one_chain maker bytes bad.chain chain are bad.good good in
    told_not_refused (entries_of chain.entries) chain.statement signer bad.statement why signed (ap (λ (c : Chain). c.statement) (sym chains) ∙ bad.stated)
    (subst (λ (c : Chain). IsStatementRefused (entries_of c.entries) bad.statement why) chains bad.refused)

pub one_finding : (maker : PublicKey) (bytes : List ℕ) (a b : Finding) → IsBytes bytes → IsFinding maker bytes a → IsFinding maker bytes b → a ≡ b
one_finding maker bytes (has_history chain signer) (has_history other another) are (good, signed) (also, too) =
    let chains = one_chain maker bytes chain other are good also in
    let moved : IsSignedByKey (entries_of other.entries) other.statement signer = subst (λ (c : Chain). IsSignedByKey (entries_of c.entries) c.statement signer) chains signed in
    ap (λ (c : Chain). has_history c signer) chains ∙ ap (has_history other) (signers_same (entries_of other.entries) other.statement signer another moved too)
one_finding maker bytes (has_history chain signer) (is_untold why) are x y = absurd (history_not_untold maker bytes chain signer why are x y)
one_finding maker bytes (is_untold why) (has_history chain signer) are x y = absurd (history_not_untold maker bytes chain signer why are y x)
one_finding maker bytes (is_untold a) (is_untold b) are (inl x) (inl y) = ap is_untold (one_refusal maker bytes 0 a b are (x.refused 0) (y.refused 0))
one_finding maker bytes (is_untold a) (is_untold b) are (inl x) (inr y) = absurd (good_or_refused maker bytes y.chain a are y.good.spelled y.good.good x.of_entries (x.refused 0))
one_finding maker bytes (is_untold a) (is_untold b) are (inr x) (inl y) = absurd (good_or_refused maker bytes x.chain b are x.good.spelled x.good.good y.of_entries (y.refused 0))
one_finding maker bytes (is_untold a) (is_untold b) are (inr x) (inr y) = ap is_untold (statements_same maker bytes a b are x y)
