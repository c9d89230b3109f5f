-- What is found of a chain, the text that tells its history, and what carries out `history`.
use Rattle.std.proofs.Common.{◌≡◌, ◌≢◌, ℕ, Bool, ◌+◌, ◌<◌, ◌≤◌, List, [], ◌∷◌, ◌++◌, length, take, get_or, Option, None, Some, Err, false, refl, sym, ◌∙◌, ap, subst, inl, inr, append_assoc}
use Rattle.std.specs.Prelude.{flat_map, IfSome, unwrap_or}
use Rattle.std.proofs.lemmas.List.{append-nil}
use Rattle.mb_format.specs.Format.{IsBytes, Spells, IsClearWhole}
use Rattle.mb_format.proofs.Whole.{IsClearWhole-from_exact}
use Rattle.mb_model.proofs.EntryFormatLaws.{chain_exact}
use Rattle.mb_model.specs.declared.key.PublicKey.{PublicKey}
use Rattle.mb_model.specs.declared.entry.Chain.{Chain}
use Rattle.mb_model.specs.declared.entry.Entry.{Entry}
use Rattle.mb_model.specs.declared.entry.Entry.TheVariants.{Birth, Change, NewKey, Succession}
use Rattle.mb_model.specs.declared.entry.SignedEntry.{SignedEntry}
use Rattle.mb_model.specs.declared.entry.Statement.{Statement}
use Rattle.mb_model.specs.declared.order.KeyKind.{KeyKind}
use Rattle.mb_model.specs.declared.state.Report.{Report}
use Rattle.mb_model.specs.outside.Board.{Held, Used}
use Rattle.mb_model.specs.outside.Texts.{line_with_lf}
use Rattle.mb_model.specs.owners.Log.{entries_of, serial_of, RuledLog}
use Rattle.mb_model.specs.chains.Acceptance.{ChainRefusal, bad_form, bad_signature, bad_order, breaks_rules, key_unknown, bad_statement, wrong_number, key_ended, KeyEntry, key_of, is_alive, AreGood, IsStated, IfStatement, IsCurrent, report_of, Accepts, IsGoodFor, IsRefused}
use Rattle.mb_model.specs.chains.Lines.{text_of}
use Rattle.mb_model.specs.records.ChainFormat.{chain_format}
use Rattle.mb_model_commands.specs.Outside.{Outside}
use Rattle.mb_model_commands.specs.Commands.{Command, Past, find}
use Rattle.mb_model_lemmas.proofs.ChainLemmas.{good_is_ruled}
use Rattle.mb_model_lemmas.proofs.LogLemmas.{entries_more}
use Rattle.mb_console.specs.declared.end.End.{End}
use Rattle.mb_console.specs.Ending.{CarriesOutRest, LeadsTo}
use Rattle.mb_console.proofs.Leading.{finds, is_refused, lacks_memory}
use Rattle.mb_log.specs.declared.life.Life.{Life}
use Rattle.mb_log.specs.KeyLife.{IsLifeOf}
use Rattle.mb_tools.specs.Chains.{TellsRefusal}
use Rattle.mb_verifier.specs.Checked.{IsBadStatement}
use Rattle.mb_verifier.specs.Entries.{IsOfEntries, IsEntriesRefused}
use Rattle.mb_verifier.specs.Signers.{IsSigner, IsStatementRefused, is_unsigned, is_refused_for}
use Rattle.mb_verifier.proofs.SignerLemmas.{named_at}
use Rattle.mb_tools_shown.specs.HistoryCommand.{is_untold, IsSignedByKey, IsGoodChain, IsFinding, tell_history}
use Rattle.mb_tools_shown.specs.HistoryLaws.{IsRefusedToo, SignersAreAccepted, RefusalsAreThoseOfVerify}
use Rattle.mb_tools_shown.specs.HistoryShown.{life_line, life_lines, signed_lines, entry_lines, history_shown}
use Rattle.mb_tools_shown.specs.StateShown.{serial_shown}
use Rattle.mb_tools_shown.proofs.TextLemmas.{one_line, more_lines, lines_pushed}

-- ---- what is found

pub log_is_ruled : (maker : PublicKey) (chain : Chain) → AreGood maker chain.entries → RuledLog (entries_of chain.entries)
log_is_ruled maker chain good = good_is_ruled maker chain.entries good

pub entries_few : (chain : Chain) → chain_format.Allowed chain → length chain.entries ≤ 128
unfolding chain_format
entries_few chain is = is.1.0.0.1

-- whether each of these refusals is found
pub refusal_found : (maker : PublicKey) (bytes : List ℕ) (chain : Chain) (statement : Statement) (o : Option ChainRefusal) → IsGoodChain maker bytes chain → chain.statement ≡ Some statement
    → IfSome o (IsStatementRefused (entries_of chain.entries) statement) → IfSome o (λ why. IsFinding maker bytes (is_untold why))
refusal_found maker bytes chain statement None good stated refused = refused
refusal_found maker bytes chain statement (Some why) good stated refused =
    inr (record { chain = chain; good = good; statement = statement; stated = stated; refused = refused })

pub entries_found : (maker : PublicKey) (bytes : List ℕ) (o : Option ChainRefusal) → IfSome o (IsEntriesRefused maker bytes) → IfSome o (λ why. IsFinding maker bytes (is_untold why))
entries_found maker bytes None refused = refused
entries_found maker bytes (Some why) refused = inl refused

-- ---- the text

pub history_put : (chain : Chain) (signer : Option ℕ) (log : List SignedEntry) (serial entries lives all : List ℕ) → log ≡ chain.entries
    → serial ≡ [] ++ line_with_lf (serial_shown (unwrap_or (serial_of (entries_of log)) []))
    → entries ≡ serial ++ text_of (flat_map entry_lines (entries_of log)) → lives ≡ entries ++ text_of (flat_map (life_lines (entries_of log)) (entries_of log))
    → all ≡ lives ++ text_of (signed_lines chain.statement signer) → all ≡ text_of (history_shown chain signer)
unfolding history_shown
history_put chain signer log serial entries lives all same is_serial is_entries is_lives is_all =
    let es = entries_of log in
    let first = serial_shown (unwrap_or (serial_of es) []) in
    let a = flat_map entry_lines es in
    let b = flat_map (life_lines es) es in
    let c = signed_lines chain.statement signer in
    more_lines [] serial all (first ∷ []) (a ++ (b ++ c)) (one_line [] serial first is_serial)
    (more_lines serial entries all a (b ++ c) is_entries (more_lines entries lives all b c is_lives is_all))
    ∙ ap text_of (sym (append_assoc (first ∷ a) b c))
    ∙ ap (λ (l : List SignedEntry). text_of (((serial_shown (unwrap_or (serial_of (entries_of l)) []) ∷ flat_map entry_lines (entries_of l)) ++ flat_map (life_lines (entries_of l)) (entries_of l)) ++ c)) same

-- the key of an entry is alive if its life says so
pub life_told : (log : List SignedEntry) (i : ℕ) (d : SignedEntry) (position number n layer : ℕ) (kind : KeyKind) (key : PublicKey) (life : Life) → i < length log → RuledLog (entries_of log)
    → (get_or log i d).entry ≡ NewKey position number n layer kind key → IsLifeOf (entries_of log) n life → life.alive ≡ is_alive (entries_of log) n layer
life_told log i d position number n layer kind key life within ruled is of =
    of.alive (record { layer = layer; kind = kind; key = key }) (named_at log i d position number n layer kind key within ruled is)

-- the line of the key that an entry makes stands after those of the entries before it
pub life_put : (log : List SignedEntry) (i : ℕ) (d : SignedEntry) (position number n layer : ℕ) (kind : KeyKind) (key : PublicKey) (life : Life) (start before after : List ℕ) → i < length log → RuledLog (entries_of log)
    → (get_or log i d).entry ≡ NewKey position number n layer kind key → IsLifeOf (entries_of log) n life
    → before ≡ start ++ text_of (flat_map (life_lines (entries_of log)) (entries_of (take i log))) → after ≡ before ++ line_with_lf (life_line n kind layer life.alive)
    → after ≡ start ++ text_of (flat_map (life_lines (entries_of log)) (entries_of (take (i + 1) log)))
life_put log i d position number n layer kind key life start before after within ruled is of was put =
    let es = entries_of log in
    let entry = (get_or log i d).entry in
    let own : after ≡ before ++ text_of (life_lines es entry) =
    one_line before after (life_line n kind layer life.alive) put
    ∙ ap (λ (b : Bool). before ++ text_of (life_line n kind layer b ∷ [])) (life_told log i d position number n layer kind key life within ruled is of)
    ∙ ap (λ (e : Entry). before ++ text_of (life_lines es e)) (sym is) in
    lines_pushed (life_lines es) (entries_of (take i log)) entry start before after was own
    ∙ ap (λ (entries : List Entry). start ++ text_of (flat_map (life_lines es) entries)) (sym (entries_more log i d within))

no_lines : (log : List Entry) (entry : Entry) → ((position number key_number layer : ℕ) (kind : KeyKind) (key : PublicKey) → entry ≡ NewKey position number key_number layer kind key → ⊥)
    → life_lines log entry ≡ []
no_lines log (Birth version serial device layers) not = refl
no_lines log (Change version position number kind layer cosigned layers kept next) not = refl
no_lines log (NewKey position number key_number layer kind key) not = absurd (not position number key_number layer kind key refl)
no_lines log (Succession position device) not = refl

-- an entry that makes no key has no such line
pub no_life_put : (log : List SignedEntry) (i : ℕ) (d : SignedEntry) (start before : List ℕ) → i < length log
    → ((position number key_number layer : ℕ) (kind : KeyKind) (key : PublicKey) → (get_or log i d).entry ≡ NewKey position number key_number layer kind key → ⊥)
    → before ≡ start ++ text_of (flat_map (life_lines (entries_of log)) (entries_of (take i log)))
    → before ≡ start ++ text_of (flat_map (life_lines (entries_of log)) (entries_of (take (i + 1) log)))
no_life_put log i d start before within not was =
    let es = entries_of log in
    let entry = (get_or log i d).entry in
    let own : before ≡ before ++ text_of (life_lines es entry) = sym (ap (λ (lines : List (List ℕ)). before ++ text_of lines) (no_lines es entry not) ∙ append-nil before) in
    lines_pushed (life_lines es) (entries_of (take i log)) entry start before before was own
    ∙ ap (λ (entries : List Entry). start ++ text_of (flat_map (life_lines es) entries)) (sym (entries_more log i d within))

-- ---- the command

pub chain_untold : {used : Used} {final : Held} {whole : Command} {past : Past} {before : Outside} {later : Past} {mid : Outside}
    {maker : PublicKey} {bytes : List ℕ} (o : Option ChainRefusal) (why : End) → LeadsTo used final whole past before (find (IsFinding maker bytes) tell_history) later mid
    → IfSome o (λ reason. IsFinding maker bytes (is_untold reason)) → TellsRefusal o why → later.wrote ≡ false → used ≡ later.used
    → CarriesOutRest whole past used final before (Err why) mid
chain_untold (Some reason) why leads found tells none same = is_refused (finds leads (is_untold reason) found) same why tells
chain_untold None why leads found tells none same = rw tells (lacks_memory leads tt none same)

-- ---- what `verify` says

-- the chain that bytes spell is the only one
one_chain : (bytes : List ℕ) (a b : Chain) → IsBytes bytes → Spells chain_format bytes a → Spells chain_format bytes b → a ≡ b
one_chain bytes a b are x y =
    let clear : IsClearWhole chain_format = IsClearWhole-from_exact chain_exact in
    clear.one_value bytes a b are x y

signed_is_current : (log : List Entry) (stated : Option Statement) (n : ℕ) → IsSignedByKey log stated (Some n) → (made : KeyEntry) × (key_of log n ≡ Some made) × IfStatement stated (IsCurrent log n made)
signed_is_current log None n signed = absurd signed
signed_is_current log (Some statement) n signed = (signed.made, signed.signer.named, signed.current)

pub signers_accepted : SignersAreAccepted
signers_accepted maker bytes chain n (good, signed) =
    let current = signed_is_current (entries_of chain.entries) chain.statement n signed in (
      report_of chain n current.0,
      record { chain = chain; spelled = good.spelled; good = good.good; made = current.0; named = current.1; current = current.2; report_is = refl },
    )

-- a chain is not accepted if no key that it makes signed its statement
not_accepted : (maker : PublicKey) (bytes : List ℕ) (chain : Chain) (statement : Statement) (n : ℕ) (report : Report) → IsBytes bytes → IsGoodChain maker bytes chain → chain.statement ≡ Some statement
    → ((m : ℕ) (made : KeyEntry) → key_of (entries_of chain.entries) m ≡ Some made → IsStated (entries_of chain.entries) m made.key statement → ⊥)
    → Accepts maker bytes n report → ⊥
not_accepted maker bytes chain statement n report are good stated none accepts =
    let same = one_chain bytes accepts.chain chain are accepts.spelled good.spelled in
    let named = subst (λ (c : Chain). key_of (entries_of c.entries) n ≡ Some accepts.made) same accepts.named in
    let current = subst (λ (c : Chain). IfStatement c.statement (IsCurrent (entries_of c.entries) n accepts.made)) same accepts.current in
    let at : IsCurrent (entries_of chain.entries) n accepts.made statement = subst (λ (o : Option Statement). IfStatement o (IsCurrent (entries_of chain.entries) n accepts.made)) stated current in
    none n accepts.made named at.signed

-- the reason for which a statement is refused to its signer is the one of `verify` for that key
refused_for : (maker : PublicKey) (bytes : List ℕ) (chain : Chain) (statement : Statement) (n : ℕ) (made : KeyEntry) (why : ChainRefusal) → IsGoodChain maker bytes chain
    → chain.statement ≡ Some statement → IsSigner (entries_of chain.entries) statement n made → IsBadStatement (entries_of chain.entries) n made statement why → IsRefused maker bytes n why
refused_for maker bytes chain statement n made bad_statement good stated signer bad = absurd (bad signer.signed)
refused_for maker bytes chain statement n made (wrong_number named last) good stated signer bad =
    (entries_of chain.entries, made, statement, good_for, bad.0, bad.1, bad.2, bad.3)
  where
    good_for : IsGoodFor maker bytes n (entries_of chain.entries) made statement
    good_for = record { chain = chain; spelled = good.spelled; good = good.good; log_is = refl; named = signer.named; stated = stated }
refused_for maker bytes chain statement n made key_ended good stated signer bad =
    (entries_of chain.entries, made, statement, good_for, bad.0, bad.1, bad.2)
  where
    good_for : IsGoodFor maker bytes n (entries_of chain.entries) made statement
    good_for = record { chain = chain; spelled = good.spelled; good = good.good; log_is = refl; named = signer.named; stated = stated }
refused_for maker bytes chain statement n made (bad_form offset) good stated signer bad = absurd bad
refused_for maker bytes chain statement n made (bad_signature i) good stated signer bad = absurd bad
refused_for maker bytes chain statement n made (bad_order i) good stated signer bad = absurd bad
refused_for maker bytes chain statement n made (breaks_rules i) good stated signer bad = absurd bad
refused_for maker bytes chain statement n made key_unknown good stated signer bad = absurd bad

-- a statement that its signer may make is not refused as unsigned
signed_not_bad : (log : List Entry) (n : ℕ) (made : KeyEntry) (statement : Statement) (why : ChainRefusal) → IsSigner log statement n made → IsBadStatement log n made statement why → why ≢ bad_statement
signed_not_bad log n made statement why signer bad is = (subst (IsBadStatement log n made statement) is bad) signer.signed

pub refusals_as_verify : RefusalsAreThoseOfVerify
refusals_as_verify maker bytes why are (inl entries) = record {
  some = λ other. (0, entries.refused 0);
  each = λ is. absurd (subst IsOfEntries is entries.of_entries);
}
refusals_as_verify maker bytes why are (inr bad) = by bad.refused
  where
    by : IsStatementRefused (entries_of bad.chain.entries) bad.statement why → IsRefusedToo maker bytes why
    by (is_unsigned is none) = record {
      some = λ other. absurd (other is);
      each = λ same n report accepts. not_accepted maker bytes bad.chain bad.statement n report are bad.good bad.stated none accepts;
    }
    by (is_refused_for n made signer wrong) = record {
      some = λ other. (n, refused_for maker bytes bad.chain bad.statement n made why bad.good bad.stated signer wrong);
      each = λ is. absurd (signed_not_bad (entries_of bad.chain.entries) n made bad.statement why signer wrong is);
    }
