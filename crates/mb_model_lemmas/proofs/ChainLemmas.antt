-- A chain has one verdict at most; an accepted one obeys the rules, and is the beginning of its device's log where none of it is forged.
use Rattle.std.proofs.Common.{◌≡◌, ◌≢◌, ℕ, ◌<◌, List, [], ◌∷◌, ◌++◌, inl, inr, length, Option, None, Some, Bool, true, false, refl, sym, ap, subst, ◌∙◌, arith, length-append}
use Rattle.std.specs.Prelude.{◌⊎◌, Any, Contains, get_or, zero, suc}
use Rattle.std.specs.Option.{option_or}
use Rattle.std.proofs.Math.Seq.{append_snoc}
use Rattle.std.proofs.lemmas.List.{append-nil, map-append, get_or_append_left}
use Rattle.std.proofs.lemmas.Option.{same_Some}
use Rattle.mb_format.specs.Format.{IsBytes, Spells, FailsWhole, IsClearWhole}
use Rattle.mb_format.proofs.Whole.{IsClearWhole-from_exact}
use Rattle.mb_model.specs.declared.key.PublicKey.{PublicKey}
use Rattle.mb_model.specs.declared.entry.Chain.{Chain}
use Rattle.mb_model.specs.declared.entry.Entry.{Entry}
use Rattle.mb_model.specs.declared.entry.Entry.TheVariants.{Birth, Change, NewKey, Succession}
use Rattle.mb_model.specs.declared.entry.SignedEntry.{SignedEntry}
use Rattle.mb_model.specs.declared.entry.Statement.{Statement}
use Rattle.mb_model.specs.declared.state.Figures.{Figures}
use Rattle.mb_model.specs.declared.state.Report.{Report}
use Rattle.mb_model.specs.signatures.Merkle.{Verifies}
use Rattle.mb_model.specs.owners.Log.{figures_of, entries_of, device_in, last_of, number_of, device_of, StandsAt, Ruled, RuledLog}
use Rattle.mb_model.specs.owners.Lives.{lives_of}
use Rattle.mb_model.specs.records.ChainFormat.{chain_format}
use Rattle.mb_model.specs.machine.SignedTexts.{entry_text, IsSignedBy}
use Rattle.mb_model.specs.memories.Valid.{EachFollows}
use Rattle.mb_model.specs.chains.Acceptance.{ChainRefusal, bad_form, bad_signature, bad_order, breaks_rules, key_unknown, bad_statement, wrong_number, key_ended, in_charge, IsCertified, IsInPlace, IsGood, AreGood, IsNext, KeyEntry, key_of, is_alive, IsStated, IfStatement, IsCurrent, IsGoodFor, report_of, Accepts, IsRefused, Honest}
use Rattle.mb_model.proofs.EntryFormatLaws.{chain_exact}
use Rattle.mb_model_lemmas.proofs.LogLemmas.{split_push}
use Rattle.mb_model_lemmas.proofs.Splits.{same_halves, two_splits, map_split, IsOne, one_more, Lacks, one_lacks, lacks_none, none_is_some}

-- ---- an entry that is not good

abbrev RulesFault : ℕ → Figures → SignedEntry → ChainRefusal → Type 0
RulesFault i before signed = Lacks (breaks_rules i) (Ruled before signed.entry) (λ refusal. ⊥)

abbrev PlaceFault : ℕ → Figures → SignedEntry → ChainRefusal → Type 0
PlaceFault i before signed = Lacks (bad_order i) (IsInPlace before signed) (RulesFault i before signed)

abbrev EntryFault : PublicKey → ℕ → Figures → SignedEntry → ChainRefusal → Type 0
EntryFault root i before signed = Lacks (bad_signature i) (IsCertified root before signed) (PlaceFault i before signed)

one_entry_fault : (root : PublicKey) (i : ℕ) (before : Figures) (signed : SignedEntry) → IsOne (EntryFault root i before signed)
one_entry_fault root i before signed =
    one_lacks (bad_signature i) (IsCertified root before signed) (PlaceFault i before signed)
    (one_lacks (bad_order i) (IsInPlace before signed) (RulesFault i before signed)
    (one_lacks (breaks_rules i) (Ruled before signed.entry) (λ refusal. ⊥) (λ r s x y. absurd x)))

good_has_none : (root : PublicKey) (i : ℕ) (before : Figures) (signed : SignedEntry) (refusal : ChainRefusal) → IsGood root before signed → EntryFault root i before signed refusal → ⊥
good_has_none root i before signed refusal good =
    lacks_none (bad_signature i) (IsCertified root before signed) (PlaceFault i before signed) refusal good.certified
    (lacks_none (bad_order i) (IsInPlace before signed) (RulesFault i before signed) refusal good.in_place
    (lacks_none (breaks_rules i) (Ruled before signed.entry) (λ r. ⊥) refusal good.ruled (λ x. x)))

-- the first entry of a list that is not good
abbrev BadEntry : PublicKey → List SignedEntry → ChainRefusal → Type 0
BadEntry root log refusal =
    (i : ℕ) × (before : List SignedEntry) × (signed : SignedEntry) × IsNext root log i before signed × EntryFault root i (figures_of (entries_of before)) signed refusal

-- is not one of those before another
not_before : (root : PublicKey) (log : List SignedEntry) (a b : ChainRefusal) (x : BadEntry root log a) (y : BadEntry root log b) (more : List SignedEntry) → y.1 ≡ x.1 ++ x.2 ∷ more → ⊥
not_before root log a b x y more split = good_has_none root x.0 (figures_of (entries_of x.1)) x.2 a (y.3.good x.1 x.2 more split) x.4

same_fault : (root : PublicKey) (i j : ℕ) (before after : List SignedEntry) (s t : SignedEntry) (refusal : ChainRefusal) → i ≡ j → before ≡ after → s ≡ t
    → EntryFault root i (figures_of (entries_of before)) s refusal → EntryFault root j (figures_of (entries_of after)) t refusal
same_fault root i j before after s t refusal places befores signeds fault =
    subst (λ (k : ℕ). EntryFault root k (figures_of (entries_of after)) t refusal) places
    (subst (λ (b : List SignedEntry). EntryFault root i (figures_of (entries_of b)) t refusal) befores
    (subst (λ (x : SignedEntry). EntryFault root i (figures_of (entries_of before)) x refusal) signeds fault))

one_bad_entry : (root : PublicKey) (log : List SignedEntry) → IsOne (BadEntry root log)
one_bad_entry root log a b x y =
    elim (two_splits x.1 y.1 x.2 y.2 x.3.rest y.3.rest (sym x.3.split ∙ y.3.split)) [
      | inl same ↦ one_entry_fault root y.0 (figures_of (entries_of y.1)) y.2 a b
          (same_fault root x.0 y.0 x.1 y.1 x.2 y.2 a (x.3.index ∙ ap length same.0 ∙ sym y.3.index) same.0 same.1 x.4) y.4
      | inr (inl first) ↦ absurd (not_before root log a b x y first.0 first.1)
      | inr (inr second) ↦ absurd (not_before root log b a y x second.0 second.1)
    ]

not_all_good : (root : PublicKey) (log : List SignedEntry) (refusal : ChainRefusal) → BadEntry root log refusal → AreGood root log → ⊥
not_all_good root log refusal x good = good_has_none root x.0 (figures_of (entries_of x.1)) x.2 refusal (good x.1 x.2 x.3.rest x.3.split) x.4

-- ---- the key and the statement

abbrev EndFault : List Entry → ℕ → KeyEntry → ChainRefusal → Type 0
EndFault log n made = Lacks key_ended (is_alive log n made.layer ≡ true) (λ refusal. ⊥)

abbrev NumberFault : List Entry → ℕ → KeyEntry → Statement → ChainRefusal → Type 0
NumberFault log n made statement =
    Lacks (wrong_number statement.number (number_of log)) (statement.number ≡ number_of log) (EndFault log n made)

abbrev StatementFault : List Entry → ℕ → KeyEntry → Statement → ChainRefusal → Type 0
StatementFault log n made statement = Lacks bad_statement (IsStated log n made.key statement) (NumberFault log n made statement)

one_statement_fault : (log : List Entry) (n : ℕ) (made : KeyEntry) (statement : Statement) → IsOne (StatementFault log n made statement)
one_statement_fault log n made statement =
    one_lacks bad_statement (IsStated log n made.key statement) (NumberFault log n made statement)
    (one_lacks (wrong_number statement.number (number_of log)) (statement.number ≡ number_of log) (EndFault log n made)
    (one_lacks key_ended (is_alive log n made.layer ≡ true) (λ refusal. ⊥) (λ r s x y. absurd x)))

current_has_none : (log : List Entry) (n : ℕ) (made : KeyEntry) (statement : Statement) (refusal : ChainRefusal) → IsCurrent log n made statement → StatementFault log n made statement refusal → ⊥
current_has_none log n made statement refusal current =
    lacks_none bad_statement (IsStated log n made.key statement) (NumberFault log n made statement) refusal current.signed
    (lacks_none (wrong_number statement.number (number_of log)) (statement.number ≡ number_of log) (EndFault log n made) refusal current.number
    (lacks_none key_ended (is_alive log n made.layer ≡ true) (λ r. ⊥) refusal current.alive (λ x. x)))

-- the key with number n, and a statement
abbrev IsAbout : List Entry → Option Statement → ℕ → KeyEntry → Statement → Type 0
IsAbout log stated n made statement = (key_of log n ≡ Some made) × (stated ≡ Some statement)

abbrev KeyFault : List Entry → Option Statement → ℕ → ChainRefusal → Type 0
KeyFault log stated n refusal =
    ((refusal ≡ key_unknown) × (key_of log n ≡ None))
    ⊎ ((made : KeyEntry) × (statement : Statement) × IsAbout log stated n made statement × StatementFault log n made statement refusal)

one_key_fault : (log : List Entry) (stated : Option Statement) (n : ℕ) → IsOne (KeyFault log stated n)
one_key_fault log stated n a b (inl x) (inl y) = x.0 ∙ sym y.0
one_key_fault log stated n a b (inl x) (inr y) = absurd (none_is_some (key_of log n) y.0 x.1 y.2.0)
one_key_fault log stated n a b (inr x) (inl y) = absurd (none_is_some (key_of log n) x.0 y.1 x.2.0)
one_key_fault log stated n a b (inr x) (inr y) =
    let keys : x.0 ≡ y.0 = same_Some x.0 y.0 (sym x.2.0 ∙ y.2.0) in
    let statements : x.1 ≡ y.1 = same_Some x.1 y.1 (sym x.2.1 ∙ y.2.1) in
    let fault : StatementFault log n y.0 y.1 a = subst (λ (k : KeyEntry). StatementFault log n k y.1 a) keys (subst (λ (s : Statement). StatementFault log n x.0 s a) statements x.3) in
    one_statement_fault log n y.0 y.1 a b fault y.3

accepted_has_none : (log : List Entry) (stated : Option Statement) (n : ℕ) (made : KeyEntry) (refusal : ChainRefusal)
    → key_of log n ≡ Some made → IfStatement stated (IsCurrent log n made) → KeyFault log stated n refusal → ⊥
accepted_has_none log stated n made refusal named current (inl x) = none_is_some (key_of log n) made x.1 named
accepted_has_none log stated n made refusal named current (inr x) =
    let keys : made ≡ x.0 = same_Some made x.0 (sym named ∙ x.2.0) in
    let here : IsCurrent log n made x.1 = subst (λ (o : Option Statement). IfStatement o (IsCurrent log n made)) x.2.1 current in
    current_has_none log n x.0 x.1 refusal (subst (λ (k : KeyEntry). IsCurrent log n k x.1) keys here) x.3

-- ---- chains

abbrev ChainFault : PublicKey → ℕ → Chain → ChainRefusal → Type 0
ChainFault root n chain refusal =
    BadEntry root chain.entries refusal ⊎ (AreGood root chain.entries × KeyFault (entries_of chain.entries) chain.statement n refusal)

one_chain_fault : (root : PublicKey) (n : ℕ) (chain : Chain) → IsOne (ChainFault root n chain)
one_chain_fault root n chain =
    one_more (BadEntry root chain.entries) (AreGood root chain.entries) (KeyFault (entries_of chain.entries) chain.statement n)
    (not_all_good root chain.entries) (one_bad_entry root chain.entries) (one_key_fault (entries_of chain.entries) chain.statement n)

abbrev Shown : PublicKey → List ℕ → ℕ → ChainRefusal → Type 0
Shown root bytes n refusal =
    ((place : ℕ) × (refusal ≡ bad_form place) × FailsWhole chain_format bytes place)
    ⊎ ((chain : Chain) × Spells chain_format bytes chain × ChainFault root n chain refusal)

is_ended : (log : List Entry) (n L : ℕ) → is_alive log n L ≡ false → is_alive log n L ≡ true → ⊥
is_ended log n L ended alive =
    let e : false ≡ true = sym ended ∙ alive in
    grind (arith, e)

-- a fault of the statement, as a fault of the chain
statement_shown : (root : PublicKey) (bytes : List ℕ) (n : ℕ) (log : List Entry) (made : KeyEntry) (statement : Statement) (refusal : ChainRefusal)
    → IsGoodFor root bytes n log made statement → StatementFault log n made statement refusal → Shown root bytes n refusal
statement_shown root bytes n log made statement refusal good fault =
    let named : key_of (entries_of good.chain.entries) n ≡ Some made = subst (λ (es : List Entry). key_of es n ≡ Some made) good.log_is good.named in
    let here : StatementFault (entries_of good.chain.entries) n made statement refusal = subst (λ (es : List Entry). StatementFault es n made statement refusal) good.log_is fault in
    inr (good.chain, good.spelled, inr (good.good, inr (made, statement, (named, good.stated), here)))

numbers_differ : (a b c d : ℕ) → a ≡ c → b ≡ d → a ≢ b → c ≡ d → ⊥
numbers_differ a b c d left right differ same = differ (left ∙ same ∙ sym right)

same_numbers : (a b c d : ℕ) → a ≡ c → b ≡ d → wrong_number a b ≡ wrong_number c d
same_numbers a b c d left right = ap (λ (x : ℕ). wrong_number x b) left ∙ ap (wrong_number c) right

shown : (root : PublicKey) (bytes : List ℕ) (n : ℕ) (refusal : ChainRefusal) → IsRefused root bytes n refusal → Shown root bytes n refusal
shown root bytes n (bad_form place) x = inl (place, refl, x)
shown root bytes n (bad_signature i) x = inr (x.0, x.1, inl (i, x.2, x.3, x.4, inl (refl, x.5)))
shown root bytes n (bad_order i) x = inr (x.0, x.1, inl (i, x.2, x.3, x.4, inr (x.5, inl (refl, x.6))))
shown root bytes n (breaks_rules i) x = inr (x.0, x.1, inl (i, x.2, x.3, x.4, inr (x.5, inr (x.6, inl (refl, x.7)))))
shown root bytes n key_unknown x = inr (x.0, x.1, inr (x.2, inl (refl, x.3)))
shown root bytes n bad_statement x = statement_shown root bytes n x.0 x.1 x.2 bad_statement x.3 (inl (refl, x.4))
shown root bytes n (wrong_number named last) x =
    statement_shown root bytes n x.0 x.1 x.2 (wrong_number named last) x.3
    (inr (x.4, inl (same_numbers named last x.2.number (number_of x.0) x.5 x.6, numbers_differ named last x.2.number (number_of x.0) x.5 x.6 x.7)))
shown root bytes n key_ended x =
    statement_shown root bytes n x.0 x.1 x.2 key_ended x.3 (inr (x.4, inr (x.5, inl (refl, is_ended x.0 n x.1.layer x.6))))

chain_clear : IsClearWhole chain_format
chain_clear = IsClearWhole-from_exact chain_exact

one_shown : (root : PublicKey) (bytes : List ℕ) (n : ℕ) (a b : ChainRefusal) → IsBytes bytes → Shown root bytes n a → Shown root bytes n b → a ≡ b
one_shown root bytes n a b are (inl x) (inl y) = x.1 ∙ ap bad_form (chain_clear.one_offset bytes x.0 y.0 are x.2 y.2) ∙ sym y.1
one_shown root bytes n a b are (inl x) (inr y) = absurd (chain_clear.never_both bytes y.0 x.0 are y.1 x.2)
one_shown root bytes n a b are (inr x) (inl y) = absurd (chain_clear.never_both bytes x.0 y.0 are x.1 y.2)
one_shown root bytes n a b are (inr x) (inr y) =
    let same : x.0 ≡ y.0 = chain_clear.one_value bytes x.0 y.0 are x.1 y.1 in
    one_chain_fault root n y.0 a b (subst (λ (c : Chain). ChainFault root n c a) same x.2) y.2

pub one_refusal : (root : PublicKey) (bytes : List ℕ) (n : ℕ) (a b : ChainRefusal) → IsBytes bytes → IsRefused root bytes n a → IsRefused root bytes n b → a ≡ b
one_refusal root bytes n a b are x y = one_shown root bytes n a b are (shown root bytes n a x) (shown root bytes n b y)

accepted_not_shown : (root : PublicKey) (bytes : List ℕ) (n : ℕ) (report : Report) (refusal : ChainRefusal) → IsBytes bytes → Accepts root bytes n report → Shown root bytes n refusal → ⊥
accepted_not_shown root bytes n report refusal are accepts (inl x) = chain_clear.never_both bytes accepts.chain x.0 are accepts.spelled x.2
accepted_not_shown root bytes n report refusal are accepts (inr x) =
    let same : x.0 ≡ accepts.chain = chain_clear.one_value bytes x.0 accepts.chain are x.1 accepts.spelled in
    elim (subst (λ (c : Chain). ChainFault root n c refusal) same x.2) [
      | inl bad ↦ not_all_good root accepts.chain.entries refusal bad accepts.good
      | inr key ↦ accepted_has_none (entries_of accepts.chain.entries) accepts.chain.statement n accepts.made refusal accepts.named accepts.current key.1
    ]

pub never_both : (root : PublicKey) (bytes : List ℕ) (n : ℕ) (report : Report) (refusal : ChainRefusal) → IsBytes bytes → Accepts root bytes n report → IsRefused root bytes n refusal → ⊥
never_both root bytes n report refusal are accepts x = accepted_not_shown root bytes n report refusal are accepts (shown root bytes n refusal x)

pub one_report : (root : PublicKey) (bytes : List ℕ) (n : ℕ) (a b : Report) → IsBytes bytes → Accepts root bytes n a → Accepts root bytes n b → a ≡ b
one_report root bytes n a b are x y =
    let chains : x.chain ≡ y.chain = chain_clear.one_value bytes x.chain y.chain are x.spelled y.spelled in
    let named : key_of (entries_of y.chain.entries) n ≡ Some x.made = subst (λ (c : Chain). key_of (entries_of c.entries) n ≡ Some x.made) chains x.named in
    let keys : x.made ≡ y.made = same_Some x.made y.made (sym named ∙ y.named) in
    x.report_is ∙ ap (λ (c : Chain). report_of c n x.made) chains ∙ ap (report_of y.chain n) keys ∙ sym y.report_is

-- ---- no gap between the two

pub AreGood-push : (root : PublicKey) (log : List SignedEntry) (signed : SignedEntry) → AreGood root log → IsGood root (figures_of (entries_of log)) signed → AreGood root (log ++ signed ∷ [])
AreGood-push root log signed good next =
    λ before s rest split. elim (split_push log before rest signed s split) [
      | inl end ↦ subst (λ (b : List SignedEntry). IsGood root (figures_of (entries_of b)) s) end.1 (subst (λ (x : SignedEntry). IsGood root (figures_of (entries_of log)) x) end.2 next)
      | inr found ↦ good before s found.0 found.2
    ]

pub AreGood-nil : (root : PublicKey) → AreGood root []
AreGood-nil root = λ before signed rest split. absurd (omega (arith, ap length split, length-append before (signed ∷ rest)))

-- where no entry is the first that is not good, all are
bad_entry_or_good : (root : PublicKey) (log before rest : List SignedEntry) → log ≡ before ++ rest → AreGood root before
    → ((past : List SignedEntry) (signed : SignedEntry) → IsNext root log (length past) past signed → (IsGood root (figures_of (entries_of past)) signed → ⊥) → ⊥)
    → (AreGood root log → ⊥) → ⊥
bad_entry_or_good root log before [] split good none fails = fails (subst (AreGood root) (sym (split ∙ append-nil before)) good)
bad_entry_or_good root log before (signed ∷ rest) split good none fails =
    none before signed (record { rest = rest; split = split; index = refl; good = good })
    (λ next. bad_entry_or_good root log (before ++ signed ∷ []) rest (split ∙ sym (append_snoc before signed rest)) (AreGood-push root before signed good next) none fails)

-- nothing is refused
abbrev NoRefusal : PublicKey → List ℕ → ℕ → Type 0
NoRefusal root bytes n = (refusal : ChainRefusal) → IsRefused root bytes n refusal → ⊥

alive_or_ended : (b : Bool) → (b ≡ false → ⊥) → (b ≡ true → ⊥) → ⊥
alive_or_ended false none fails = none refl
alive_or_ended true none fails = fails refl

module _ (root : PublicKey) (bytes : List ℕ) (n : ℕ) (none : NoRefusal root bytes n) where
  -- an entry of a chain that is not refused, which is not good: in turn, no check fails
  module _ (chain : Chain) (spelled : Spells chain_format bytes chain) (before : List SignedEntry) (signed : SignedEntry) (next : IsNext root chain.entries (length before) before signed) (bad : IsGood root (figures_of (entries_of before)) signed → ⊥) where
    no_bad_rules : IsCertified root (figures_of (entries_of before)) signed → IsInPlace (figures_of (entries_of before)) signed → ⊥
    no_bad_rules certified in_place =
        let good = λ (ruled : Ruled (figures_of (entries_of before)) signed.entry). bad (record { certified = certified; in_place = in_place; ruled = ruled }) in
        none (breaks_rules (length before)) (chain, spelled, before, signed, next, certified, in_place, good)

    no_bad_order : IsCertified root (figures_of (entries_of before)) signed → ⊥
    no_bad_order certified = none (bad_order (length before)) (chain, spelled, before, signed, next, certified, no_bad_rules certified)

    no_bad_signature : ⊥
    no_bad_signature = none (bad_signature (length before)) (chain, spelled, before, signed, next, no_bad_order)

  no_bad_entry : (chain : Chain) → Spells chain_format bytes chain → (AreGood root chain.entries → ⊥) → ⊥
  no_bad_entry chain spelled fails = bad_entry_or_good root chain.entries [] chain.entries refl (AreGood-nil root) (no_bad_signature chain spelled) fails

  -- and so with a statement
  module _ (log : List Entry) (made : KeyEntry) (statement : Statement) (good : IsGoodFor root bytes n log made statement) (fails : IsCurrent log n made statement → ⊥) where
    no_ended_key : IsStated log n made.key statement → statement.number ≡ number_of log → ⊥
    no_ended_key stated number =
        alive_or_ended (is_alive log n made.layer)
        (λ ended. none key_ended (log, made, statement, good, stated, number, ended))
        (λ alive. fails (record { signed = stated; number = number; alive = alive }))

    no_wrong_number : IsStated log n made.key statement → ⊥
    no_wrong_number stated = none (wrong_number statement.number (number_of log)) (log, made, statement, good, stated, refl, refl, no_ended_key stated)

    no_bad_statement : ⊥
    no_bad_statement = none bad_statement (log, made, statement, good, no_wrong_number)

no_bad_chain : (root : PublicKey) (bytes : List ℕ) (n : ℕ) (chain : Chain) (key : Option KeyEntry) (stated : Option Statement) → Spells chain_format bytes chain → AreGood root chain.entries
    → key_of (entries_of chain.entries) n ≡ key → chain.statement ≡ stated → NoRefusal root bytes n → ((report : Report) → Accepts root bytes n report → ⊥) → ⊥
no_bad_chain root bytes n chain None stated spelled good named states none fails = none key_unknown (chain, spelled, good, named)
no_bad_chain root bytes n chain (Some made) None spelled good named states none fails =
    fails (report_of chain n made) (record {
      chain = chain;
      spelled = spelled;
      good = good;
      made = made;
      named = named;
      current = subst (λ (o : Option Statement). IfStatement o (IsCurrent (entries_of chain.entries) n made)) (sym states) tt;
      report_is = refl;
    })
no_bad_chain root bytes n chain (Some made) (Some statement) spelled good named states none fails =
    no_bad_statement root bytes n none (entries_of chain.entries) made statement
    (record { chain = chain; spelled = spelled; good = good; log_is = refl; named = named; stated = states })
    (λ current. fails (report_of chain n made) (record {
      chain = chain;
      spelled = spelled;
      good = good;
      made = made;
      named = named;
      current = subst (λ (o : Option Statement). IfStatement o (IsCurrent (entries_of chain.entries) n made)) (sym states) current;
      report_is = refl;
    }))

pub never_neither : (root : PublicKey) (bytes : List ℕ) (n : ℕ) → IsBytes bytes → ((report : Report) → Accepts root bytes n report → ⊥) → ((refusal : ChainRefusal) → IsRefused root bytes n refusal → ⊥) → ⊥
never_neither root bytes n are fails none =
    elim (chain_clear.always bytes are) [
      | inl some ↦ no_bad_entry root bytes n none some.value some.spelled
          (λ good. no_bad_chain root bytes n some.value (key_of (entries_of some.value.entries) n) some.value.statement some.spelled good refl refl none fails)
      | inr failing ↦ none (bad_form failing.offset) failing.fails
    ]

-- ---- the rules

-- the entry of a signed one
abbrev entry_in : SignedEntry → Entry
entry_in signed = signed.entry

pub good_is_ruled : (root : PublicKey) (log : List SignedEntry) → AreGood root log → RuledLog (entries_of log)
good_is_ruled root log good =
    λ before entry rest split.
    let found = map_split entry_in log before rest entry split in
    let ruled = (good found.front found.x found.back found.split).ruled in
    subst (λ (b : List Entry). Ruled (figures_of b) entry) found.before_is (subst (λ (e : Entry). Ruled (figures_of (entries_of found.front)) e) found.y_is ruled)

pub in_charge_after : (root : PublicKey) (before : Figures) → before.length ≢ 0 → in_charge root before ≡ before.device
in_charge_after root before some = grind (arith, some)

pub good_follows : (root : PublicKey) (log : List SignedEntry) → AreGood root log → EachFollows log
good_follows root log good =
    λ before signed rest split.
    let it = good before signed rest split in
    record {
      ruled = it.ruled;
      in_order = it.in_place;
      verifies = λ some. subst (λ (key : Option PublicKey). IsSignedBy key (entry_text signed.entry) signed.signature) (in_charge_after root (figures_of (entries_of before)) some) it.certified;
    }

pub accepted_is_ruled : (root : PublicKey) (bytes : List ℕ) (n : ℕ) (report : Report) (accepts : Accepts root bytes n report) → RuledLog (entries_of accepts.chain.entries)
accepted_is_ruled root bytes n report accepts = good_is_ruled root accepts.chain.entries accepts.good

pub accepted_follows : (root : PublicKey) (bytes : List ℕ) (n : ℕ) (report : Report) (accepts : Accepts root bytes n report) → EachFollows accepts.chain.entries
accepted_follows root bytes n report accepts = good_follows root accepts.chain.entries accepts.good

-- ---- chains without forged entries

-- a list with an element has a place where it stands
contains_split : {X : Type 0} (xs : List X) (k : ℕ) (x : X) → k < length xs → get_or xs k x ≡ x → (before : List X) × (rest : List X) × (xs ≡ before ++ x ∷ rest)
contains_split [] k x inside is = absurd (omega (arith, inside))
contains_split (y ∷ xs) zero x inside is = ([], xs, ap (λ h. h ∷ xs) is)
contains_split (y ∷ xs) (suc k) x inside is =
    let found = contains_split xs k x (omega (arith, inside)) is in
    (y ∷ found.0, found.1, ap (λ t. y ∷ t) found.2)

any_cons : {X : Type 0} (P : X → Type 0) (x : X) (xs : List X) → Any P xs → Any P (x ∷ xs)
any_cons P x xs any = (suc any.0, any.1, omega (arith, any.2), any.3, any.4)

any_left : {X : Type 0} (P : X → Type 0) (xs ys : List X) → Any P xs → Any P (xs ++ ys)
any_left P xs ys any =
    let long = length-append xs ys in
    let inside = any.2 in
    (any.0, any.1, omega arith, get_or_append_left xs ys any.1 any.0 inside ∙ any.3, any.4)

-- the device key that entries name last is named by one of them
named_last : {X : Type 0} (named : Entry → Option X) (first : Entry) (rest : List Entry) (x : X) (o : Option X) → last_of named rest ≡ o
    → option_or o (named first) ≡ Some x → (last_of named rest ≡ Some x) ⊎ (named first ≡ Some x)
named_last named first rest x None is e = inr e
named_last named first rest x (Some y) is e = inl (is ∙ e)

named_somewhere : {X : Type 0} (named : Entry → Option X) (log : List Entry) (x : X) → last_of named log ≡ Some x → Any (λ entry. named entry ≡ Some x) log
unfolding last_of
named_somewhere named [] x is = absurd (none_is_some None x refl is)
named_somewhere named (first ∷ rest) x is =
    elim (named_last named first rest x (last_of named rest) refl is) [
      | inl remaining ↦ any_cons (λ entry. named entry ≡ Some x) first rest (named_somewhere named rest x remaining)
      | inr here ↦ (0, first, omega arith, refl, here)
    ]

device_somewhere : (log : List Entry) (key : PublicKey) → device_of log ≡ Some key → Any (λ entry. device_in entry ≡ Some key) log
unfolding device_of
device_somewhere log key is = named_somewhere device_in log key is

signed_under : (key : Option PublicKey) (text signature : List ℕ) → IsSignedBy key text signature → (k : PublicKey) × (key ≡ Some k) × Verifies k text signature
signed_under None text signature signed = absurd signed
signed_under (Some k) text signature signed = (k, refl, signed)

-- the entries of a device's log obey the rules and stand in their places
abbrev IsPlaced : List Entry → Type 0
IsPlaced E = (before : List Entry) (entry : Entry) (rest : List Entry) → E ≡ before ++ entry ∷ rest → Ruled (figures_of before) entry × (length before ≢ 0 → StandsAt (length before) entry)

follows_placed : (log : List SignedEntry) → EachFollows log → IsPlaced (entries_of log)
follows_placed log each =
    λ before entry rest split.
    let found = map_split entry_in log before rest entry split in
    let it = each found.front found.x found.back found.split in
    let here : Ruled (figures_of (entries_of found.front)) found.x.entry × (length (entries_of found.front) ≢ 0 → StandsAt (length (entries_of found.front)) found.x.entry) = (it.ruled, λ some. (it.in_order some).position) in
    let there = subst (λ (e : Entry). Ruled (figures_of (entries_of found.front)) e × (length (entries_of found.front) ≢ 0 → StandsAt (length (entries_of found.front)) e)) found.y_is here in
    subst (λ (b : List Entry). Ruled (figures_of b) entry × (length b ≢ 0 → StandsAt (length b) entry)) found.before_is there

-- an entry that is no birth tells how many stand before it
same_place : (entry : Entry) (b c : List Entry) → length b ≢ 0 → Ruled (figures_of b) entry → StandsAt (length b) entry → Ruled (figures_of c) entry → (length c ≢ 0 → StandsAt (length c) entry) → length b ≡ length c
same_place (Birth version serial key layers) b c some of_b at_b of_c at_c = absurd (some of_b.0)
same_place (Change version position number kind layer cosigned layers kept next) b c some of_b at_b of_c at_c = sym at_b ∙ at_c of_c.0
same_place (NewKey position number key_number layer kind key) b c some of_b at_b of_c at_c = sym at_b ∙ at_c of_c.0
same_place (Succession position key) b c some of_b at_b of_c at_c = sym at_b ∙ at_c of_c.0

-- an entry of a log that may stand after its first entries, and says so, does
next_in_log : (past E later : List Entry) (entry : Entry) → E ≡ past ++ later → length past ≢ 0 → Ruled (figures_of past) entry → StandsAt (length past) entry
    → IsPlaced E → Contains E entry → (more : List Entry) × (E ≡ past ++ entry ∷ more)
next_in_log past E later entry front some ruled at placed holds =
    let place = contains_split E holds.0 entry holds.1 holds.2 in
    let there = placed place.0 entry place.1 place.2 in
    let same = same_halves past place.0 later (entry ∷ place.1) (same_place entry past place.0 some ruled at there.0 there.1) (sym front ∙ place.2) in
    (place.1, front ∙ ap (λ t. past ++ t) same.1)

-- entries are the first of a log
abbrev IsFront : List Entry → List Entry → Type 0
IsFront past E = (later : List Entry) × (E ≡ past ++ later)

one_more_entry : (before : List SignedEntry) (signed : SignedEntry) (E later : List Entry) → E ≡ entries_of before ++ signed.entry ∷ later → IsFront (entries_of (before ++ signed ∷ [])) E
one_more_entry before signed E later is =
    (later, is ∙ sym (append_snoc (entries_of before) signed.entry later) ∙ ap (λ es. es ++ later) (sym (map-append entry_in before (signed ∷ []))))

next_is_in_front : (root : PublicKey) (entries : List SignedEntry) (E : List Entry) → AreGood root entries → Honest entries root E → IsPlaced E
    → (before : List SignedEntry) (signed : SignedEntry) (rest : List SignedEntry) → entries ≡ before ++ signed ∷ rest
    → IsFront (entries_of before) E → IsFront (entries_of (before ++ signed ∷ [])) E
next_is_in_front root entries E good honest placed [] signed rest split front =
    let first = honest.first signed rest split (good [] signed rest split).certified in
    one_more_entry [] signed E first.0 first.1
next_is_in_front root entries E good honest placed (b ∷ bs) signed rest split front =
    let past : List Entry = entries_of (b ∷ bs) in
    let it = good (b ∷ bs) signed rest split in
    let some : length past ≢ 0 = λ none. absurd (omega (arith, none)) in
    let some_signed : b ∷ bs ≢ [] = λ e. absurd (omega (arith, ap length e)) in
    let under = signed_under (device_of past) (entry_text signed.entry) signed.signature
    (subst (λ (key : Option PublicKey). IsSignedBy key (entry_text signed.entry) signed.signature) (in_charge_after root (figures_of past) some) it.certified)
    in
    let named : Any (λ entry. device_in entry ≡ Some under.0) (past ++ front.0) = any_left (λ entry. device_in entry ≡ Some under.0) past front.0 (device_somewhere past under.0 under.1) in
    let holds = honest.later (b ∷ bs) signed rest split some_signed under.0 (subst (Any (λ entry. device_in entry ≡ Some under.0)) (sym front.1) named) under.2 in
    let more = next_in_log past E front.0 signed.entry front.1 some it.ruled (it.in_place some).position placed holds in
    one_more_entry (b ∷ bs) signed E more.0 more.1

all_in_front : (root : PublicKey) (entries : List SignedEntry) (E : List Entry) → AreGood root entries → Honest entries root E → IsPlaced E
    → (before rest : List SignedEntry) → entries ≡ before ++ rest → IsFront (entries_of before) E → IsFront (entries_of entries) E
all_in_front root entries E good honest placed before [] split front =
    subst (λ (es : List SignedEntry). IsFront (entries_of es) E) (sym (split ∙ append-nil before)) front
all_in_front root entries E good honest placed before (signed ∷ rest) split front =
    let next = next_is_in_front root entries E good honest placed before signed rest split front in
    all_in_front root entries E good honest placed (before ++ signed ∷ []) rest (split ∙ sym (append_snoc before signed rest)) next

-- the entries of a chain without forged ones are the first of its device's log
pub honest_is_front : (root : PublicKey) (entries log : List SignedEntry) → AreGood root entries → EachFollows log → Honest entries root (entries_of log) → (later : List Entry) × (entries_of log ≡ entries_of entries ++ later)
honest_is_front root entries log good each honest =
    all_in_front root entries (entries_of log) good honest (follows_placed log each) [] entries refl (entries_of log, refl)

pub honest_is_prefix : (root : PublicKey) (bytes : List ℕ) (n : ℕ) (report : Report) (accepts : Accepts root bytes n report)
    (log : List SignedEntry) → EachFollows log → Honest accepts.chain.entries root (entries_of log)
    → (past : List Entry) × (later : List Entry) × (entries_of log ≡ past ++ later)
    × (past ≡ entries_of accepts.chain.entries) × (report.lives ≡ lives_of past n)
honest_is_prefix root bytes n report accepts log each honest =
    let front = honest_is_front root accepts.chain.entries log accepts.good each honest in
    (entries_of accepts.chain.entries, front.0, front.1, refl, ap (λ (r : Report). r.lives) accepts.report_is)
