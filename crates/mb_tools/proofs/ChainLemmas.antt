-- What carries out `verify`, `audit`, `chain` and `attach`.
use Rattle.std.proofs.Common.{◌≡◌, ◌≢◌, ℕ, List, [], ◌∷◌, codes, length, Bool, false, is_some, true≢false, take, min, Option, None, Some, Result, Ok, Err, refl, sym, ◌∙◌, ap, subst}
use Rattle.std.proofs.lemmas.List.{take-map, take_min}
use Rattle.std.specs.Prelude.{IfOk}
use Rattle.mb_format.specs.Format.{IsBytes, Spells}
use Rattle.mb_model.specs.outside.Board.{Held, Used, not_used}
use Rattle.mb_model.specs.declared.key.PublicKey.{PublicKey}
use Rattle.mb_model.specs.declared.entry.Chain.{Chain}
use Rattle.mb_model.specs.declared.entry.Entry.{Entry}
use Rattle.mb_model.specs.declared.entry.SignedEntry.{SignedEntry}
use Rattle.mb_model.specs.declared.state.Configuration.{Configuration}
use Rattle.mb_model.specs.declared.state.Report.{Report}
use Rattle.mb_model.specs.declared.state.State.{State}
use Rattle.mb_model.specs.owners.Log.{entries_of, RuledLog}
use Rattle.mb_model.specs.owners.Lives.{lives_of}
use Rattle.mb_model.specs.memories.Valid.{IsValidState}
use Rattle.mb_model.specs.records.ChainFormat.{chain_format}
use Rattle.mb_model.specs.chains.Attach.{bare_chain}
use Rattle.mb_model.specs.outside.Texts.{line_with_lf}
use Rattle.mb_model.specs.chains.Lines.{text_of}
use Rattle.mb_model.specs.chains.Listing.{listing}
use Rattle.mb_model.specs.chains.Acceptance.{ChainRefusal, Accepts, IsRefused, chain_acceptance, chain_rejection}
use Rattle.mb_model.specs.chains.Acceptance.{IsVerdict}
use Rattle.mb_model.specs.chains.DeviceChains.{IsChainOf}
use Rattle.mb_model.specs.chains.DeviceChains.{own_lives, IsAudited}
use Rattle.mb_model_commands.specs.declared.role.Role.TheVariants as role
use Rattle.mb_model_commands.specs.Outside.{Outside}
use Rattle.mb_model_commands.specs.Commands.{Command, find, print, refuse, Past, at_first}
use Rattle.mb_model_commands.specs.ChainCommands.{ChainNames, entries_text, write_entries, chain_of}
use Rattle.mb_model_commands.specs.VerifyCommand.{chain_refusal_line, tell_verdict}
use Rattle.mb_model_commands.specs.AuditCommand.{AuditNames, compare, audit_chain}
use Rattle.mb_model_lemmas.proofs.ValidStates.{valid_is_ruled}
use Rattle.mb_model_lemmas.proofs.AuditLemmas.{audited}
use Rattle.mb_model_runs.proofs.BirthLemmas.{chain_is_of}
use Rattle.mb_log.proofs.Fronts.{first_ruled}
use Rattle.mb_console.specs.declared.end.End.{End}
use Rattle.mb_console.specs.declared.end.End.TheVariants as end
use Rattle.mb_console.specs.Ending.{CarriesOutRest, CarriesOutAfter, CarriesOut, RefusesWith, LeadsTo}
use Rattle.mb_tools.specs.Chains.{TellsRefusal}
use Rattle.mb_console.specs.Outputs.{writes}
use Rattle.mb_console.proofs.CommandLemmas.{goes_first, goes_second, finds, refuse_here, memory_unfound, memory_chosen, memory_unprinted}
use Rattle.mb_console.proofs.Leading as step

-- ---- a chain that is written

pub entries_written : (out : List ℕ) (chain : Chain) (bytes text : List ℕ) (before now : Outside) (result : Result (Unit {0}) End) → chain_format.Allowed chain
    → bytes ≡ chain_format.spelling chain → text ≡ entries_text (length chain.entries)
    → CarriesOutAfter (writes (record { role = role.Out; name = out; bytes = bytes } ∷ []) (print text)) before result now
    → CarriesOut (write_entries out chain) before result now
unfolding writes write_entries
entries_written out chain bytes text before now result allowed is_bytes is_text carried = λ final.
    finds (λ spelled. Spells chain_format spelled chain) _ at_first not_used final before now bytes result (record { allowed = allowed; whole = is_bytes })
    ((subst (λ t. CarriesOutAfter (writes (record { role = role.Out; name = out; bytes = bytes } ∷ []) (print t)) before result now) is_text carried) at_first final)

pub entries_lack : (out : List ℕ) (chain : Chain) (before : Outside) → CarriesOut (write_entries out chain) before (Err end.NoMemory) before
unfolding write_entries
entries_lack out chain before = λ final. memory_unfound (λ spelled. Spells chain_format spelled chain) _ at_first not_used final before refl refl

-- ---- the chain of a device

pub log_carried_out : (names : ChainNames) (state : State) (before now : Outside) (result : Result (Unit {0}) End) → IsValidState state
    → CarriesOut (write_entries names.out (bare_chain state.log)) before result now → CarriesOut (chain_of names (Some state)) before result now
log_carried_out names state before now result valid carried = λ final.
    finds (IsChainOf state) (write_entries names.out) at_first not_used final before now (bare_chain state.log) result (chain_is_of state valid) (carried final)

pub dead_has_none : {used : Used} {final : Held} {whole : Command} {past : Past} {before : Outside} {later : Past} {mid : Outside}
    (names : ChainNames) (found : Option State) (why : End) → LeadsTo used final whole past before (chain_of names found) later mid → found ≡ None
    → RefusesWith (codes "zeroised") why → used ≡ later.used → CarriesOutRest whole past used final before (Err why) mid
dead_has_none names None why leads dead refuses same = step.is_refused leads same why refuses
dead_has_none names (Some state) why leads dead refuses same = absurd (cc)

-- ---- a statement that is attached

-- nothing is there
pub none_there : {X : Type 0} (found : Option X) (there : Bool) → there ≡ is_some found → there ≡ false → found ≡ None
none_there None there is off = refl
none_there (Some x) there is off = absurd (true≢false (sym is ∙ off))

-- ---- a chain that is judged

reason_told : (reason : ChainRefusal) (why : End) (before : Outside) → RefusesWith (chain_refusal_line reason) why → CarriesOut (refuse (chain_refusal_line reason)) before (Err why) before
reason_told reason why before refuses = λ final. refuse_here (chain_refusal_line reason) why at_first not_used final before refuses refl

-- what holds of a reason for which a chain may be refused
abbrev pub IfReason : Option ChainRefusal → (ChainRefusal → Type 0) → Type 0
IfReason found P = (reason : ChainRefusal) → found ≡ Some reason → P reason

-- ---- verify

pub report_told : (n : ℕ) (report : Report) (text : List ℕ) (before now : Outside) (result : Result (Unit {0}) End) → text ≡ text_of (listing n report)
    → CarriesOutAfter (writes [] (print text)) before result now → CarriesOut (tell_verdict n (chain_acceptance report)) before result now
unfolding writes
report_told n report text before now result is carried = λ final.
    (subst (λ t. CarriesOutAfter (print t) before result now) is carried) at_first final

pub report_lacks : (n : ℕ) (report : Report) (before : Outside) → CarriesOut (tell_verdict n (chain_acceptance report)) before (Err end.NoMemory) before
report_lacks n report before = λ final. memory_unprinted _ at_first not_used final before refl refl

pub chain_refused : {used : Used} {final : Held} {whole : Command} {past : Past} {before : Outside} {later : Past} {mid : Outside}
    {maker : PublicKey} {bytes : List ℕ} {n : ℕ} (m : ℕ) (found : Option ChainRefusal) (why : End)
    → LeadsTo used final whole past before (find (IsVerdict maker bytes n) (tell_verdict m)) later mid → IfReason found (IsRefused maker bytes n)
    → TellsRefusal found why → later.wrote ≡ false → used ≡ later.used → CarriesOutRest whole past used final before (Err why) mid
chain_refused m (Some reason) why leads refused tells none same = step.is_refused (step.finds leads (chain_rejection reason) (refused reason refl)) same why tells
chain_refused m None why leads refused tells none same = rw tells (step.lacks_memory leads tt none same)

-- ---- audit

pub dead_not_audited : {used : Used} {final : Held} {whole : Command} {past : Past} {before : Outside} {later : Past} {mid : Outside}
    (names : AuditNames) (found : Option State) (maker : PublicKey) (bytes : List ℕ) (why : End) → LeadsTo used final whole past before (audit_chain names found maker bytes) later mid
    → found ≡ None → RefusesWith (codes "zeroised") why → used ≡ later.used → CarriesOutRest whole past used final before (Err why) mid
dead_not_audited names None maker bytes why leads dead refuses same = step.is_refused leads same why refuses
dead_not_audited names (Some state) maker bytes why leads dead refuses same = absurd (cc)

pub audit_accepted : (names : AuditNames) (state : State) (maker : PublicKey) (bytes : List ℕ) (report : Report) (before now : Outside) (result : Result (Unit {0}) End)
    → IsBytes bytes → IsValidState state → Accepts maker bytes names.key report
    → CarriesOut (compare state names.key (chain_acceptance report)) before result now → CarriesOut (audit_chain names (Some state) maker bytes) before result now
audit_accepted names state maker bytes report before now result are valid accepts carried = λ final.
    finds (IsAudited state maker bytes names.key) (compare state names.key) at_first not_used final before now (chain_acceptance report) result
    (audited state maker bytes names.key (chain_acceptance report) are valid accepts) (carried final)

pub audit_refused : (names : AuditNames) (state : State) (maker : PublicKey) (bytes : List ℕ) (found : Option ChainRefusal) (why : End) (before : Outside)
    → IsBytes bytes → IsValidState state → IfReason found (IsRefused maker bytes names.key) → TellsRefusal found why
    → CarriesOut (audit_chain names (Some state) maker bytes) before (Err why) before
audit_refused names state maker bytes (Some reason) why before are valid refused tells = λ final.
    finds (IsAudited state maker bytes names.key) (compare state names.key) at_first not_used final before before (chain_rejection reason) _
    (audited state maker bytes names.key (chain_rejection reason) are valid (refused reason refl)) (reason_told reason why before tells final)
audit_refused names state maker bytes None why before are valid refused tells =
    subst (λ w. CarriesOut (audit_chain names (Some state) maker bytes) before (Err w) before) (sym tells) (λ final.
    memory_unfound (IsAudited state maker bytes names.key) (compare state names.key) at_first not_used final before refl refl)

-- the chain lists what the device held
pub lists_agree : (state : State) (n : ℕ) (report : Report) (text : List ℕ) (before now : Outside) (result : Result (Unit {0}) End) → report.lives ≡ own_lives state report.entries n
    → text ≡ line_with_lf (codes "agrees") → CarriesOutAfter (writes [] (print text)) before result now → CarriesOut (compare state n (chain_acceptance report)) before result now
unfolding writes
lists_agree state n report text before now result same is carried = λ final.
    goes_first _ _ _ at_first not_used final before now result same ((subst (λ t. CarriesOutAfter (print t) before result now) is carried) at_first final)

pub lists_differ : (state : State) (n : ℕ) (report : Report) (before : Outside) (why : End) → report.lives ≢ own_lives state report.entries n → RefusesWith (codes "differs") why
    → CarriesOut (compare state n (chain_acceptance report)) before (Err why) before
lists_differ state n report before why other refuses = λ final.
    goes_second _ _ _ at_first not_used final before before _ other (refuse_here (codes "differs") why at_first not_used final before refuses refl)

pub lists_lack : (state : State) (n : ℕ) (report : Report) (before : Outside) → CarriesOut (compare state n (chain_acceptance report)) before (Err end.NoMemory) before
lists_lack state n report before = λ final. memory_chosen _ _ _ at_first not_used final before refl refl

-- ---- the device's own list

-- the first entries of a log, of which there may be fewer
first_of_log : (log : List SignedEntry) (count : ℕ) → entries_of (take (min count (length log)) log) ≡ take count (entries_of log)
first_of_log log count = ap entries_of (take_min count log) ∙ sym (take-map (λ (s : SignedEntry). s.entry) count log)

-- they were followed
pub own_list : {E : Type 0} (state : State) (count n : ℕ) (front : List SignedEntry) (result : Result (List Configuration) E) → IsValidState state
    → front ≡ take (min count (length state.log)) state.log → (RuledLog (entries_of front) → IfOk result (λ list. list ≡ lives_of (entries_of front) n))
    → IfOk result (λ list. list ≡ own_lives state count n)
own_list state count n front (Ok list) valid is followed =
    let ruled : RuledLog (entries_of front) = subst (λ f. RuledLog (entries_of f)) (sym is) (first_ruled state.log (min count (length state.log)) (valid_is_ruled state valid)) in
    followed ruled ∙ ap (λ (es : List Entry). lives_of es n) (ap entries_of is ∙ first_of_log state.log count)
own_list state count n front (Err why) valid is followed = tt
