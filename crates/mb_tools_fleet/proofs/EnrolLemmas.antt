-- What carries out `enrol`, `register` and `devices`.
use Rattle.std.proofs.Common.{◌≡◌, ℕ, inl, inr, List, [], ◌∷◌, codes, false, Option, Some, Result, Err, refl, sym, ap, subst, ◌∙◌}
use Rattle.mb_model.specs.outside.Board.{Held, Used}
use Rattle.mb_model.specs.outside.Texts.{line_with_lf}
use Rattle.mb_model.specs.declared.key.PublicKey.{PublicKey}
use Rattle.mb_model.specs.chains.Acceptance.{ChainRefusal}
use Rattle.mb_model_commands.specs.declared.role.Role.TheVariants as role
use Rattle.mb_model_commands.specs.Outside.{Outside}
use Rattle.mb_model_commands.specs.Commands.{Command, Past, Output, find, print, at_first}
use Rattle.mb_console.specs.declared.end.End.{End}
use Rattle.mb_console.specs.declared.end.End.TheVariants as end
use Rattle.mb_console.specs.Ending.{RefusesWith, CarriesOut, CarriesOutAfter, CarriesOutRest, LeadsTo}
use Rattle.mb_console.specs.Outputs.{writes}
use Rattle.mb_console.proofs.Leading.{begins, finds, lacks_memory, is_refused}
use Rattle.mb_verifier.specs.Ends.{chain_refusal_of}
use Rattle.mb_fleet.specs.declared.row.Row.{Row}
use Rattle.mb_fleet.specs.declared.end.Added.{Added}
use Rattle.mb_fleet.specs.declared.end.Added.TheVariants as shown
use Rattle.mb_fleet.specs.declared.end.FleetEnd.{FleetEnd}
use Rattle.mb_fleet.specs.declared.end.FleetEnd.TheVariants as fleet
use Rattle.mb_fleet.specs.Ends.{answer_of, AnswersChain}
use Rattle.mb_fleet.specs.RegisterFormat.{register_format}
use Rattle.mb_fleet.specs.Serving.{answer_line, device_line}
use Rattle.mb_fleet.specs.Showing.{chain_refused, older, forked, full, IsChainAnswered}
use Rattle.mb_tools.specs.Chains.{TellsRefusal}
use Rattle.mb_tools_fleet.specs.EnrolCommand.{ComesToEnrolment, write_register, tell_answer, tell_enrolment}
use Rattle.mb_tools_fleet.specs.Refusals.{TellsDevice, RefusesChain}

-- ---- a chain is not taken

-- an end that is want of memory
lacks_so : {used : Used} {final : Held} {whole : Command} {past : Past} {before : Outside} {later : Past} {mid : Outside}
    {maker : PublicKey} {rows : List Row} {chain name : List ℕ} (why : End)
    → LeadsTo used final whole past before (find (ComesToEnrolment maker rows chain) (tell_enrolment name)) later mid → why ≡ end.NoMemory
    → later.wrote ≡ false → used ≡ later.used → CarriesOutRest whole past used final before (Err why) mid
lacks_so {used = used} {final = final} {whole = whole} {past = past} {before = before} {mid = mid} why leads is none kept =
    subst (λ (w : End). CarriesOutRest whole past used final before (Err w) mid) (sym is) (lacks_memory leads tt none kept)

refused_or_lacks : {used : Used} {final : Held} {whole : Command} {past : Past} {before : Outside} {later : Past} {mid : Outside}
    {maker : PublicKey} {rows : List Row} {chain name : List ℕ} (why : End) (words serial : List ℕ) (n : ℕ)
    → LeadsTo used final whole past before (find (ComesToEnrolment maker rows chain) (tell_enrolment name)) later mid
    → ((RefusesWith (device_line words serial n) why) → CarriesOutRest whole past used final before (Err why) mid) → TellsDevice words serial n why
    → later.wrote ≡ false → used ≡ later.used → CarriesOutRest whole past used final before (Err why) mid
refused_or_lacks why words serial n leads refused (inl refuses) none kept = refused refuses
refused_or_lacks why words serial n leads refused (inr is) none kept = lacks_so why leads is none kept

chain_refused_so : {used : Used} {final : Held} {whole : Command} {past : Past} {before : Outside} {later : Past} {mid : Outside}
    {maker : PublicKey} {rows : List Row} {chain name : List ℕ} (after : List Row) (told : Option ChainRefusal) (reason : ChainRefusal) (why : End)
    → LeadsTo used final whole past before (find (ComesToEnrolment maker rows chain) (tell_enrolment name)) later mid → told ≡ Some reason
    → IsChainAnswered maker rows chain (chain_refused reason) after → TellsRefusal told why → used ≡ later.used
    → CarriesOutRest whole past used final before (Err why) mid
chain_refused_so after told reason why leads is answered tells kept =
    is_refused (finds leads (record { answer = chain_refused reason; after = after }) answered) kept why
    (subst (λ (t : Option ChainRefusal). TellsRefusal t why) is tells)

pub chain_not_taken : {used : Used} {final : Held} {whole : Command} {past : Past} {before : Outside} {later : Past} {mid : Outside}
    {maker : PublicKey} {rows : List Row} {chain name : List ℕ} (after : List Row) (ending : FleetEnd) (why : End)
    → LeadsTo used final whole past before (find (ComesToEnrolment maker rows chain) (tell_enrolment name)) later mid → AnswersChain maker rows chain (Err ending) after
    → RefusesChain ending why → later.wrote ≡ false → used ≡ later.used → CarriesOutRest whole past used final before (Err why) mid
chain_not_taken after (fleet.Chain refusal) why leads (reason, is, answered) tells none kept =
    chain_refused_so after (chain_refusal_of refusal) reason why leads is answered tells kept
chain_not_taken after (fleet.Older serial have) why leads answered tells none kept =
    refused_or_lacks why (codes "refused 31 older") serial have leads (λ refuses. is_refused (finds leads (record { answer = older serial have; after = after }) answered) kept why refuses) tells none kept
chain_not_taken after (fleet.Fork serial place) why leads answered tells none kept =
    refused_or_lacks why (codes "refused 30 fork") serial place leads (λ refuses. is_refused (finds leads (record { answer = forked serial place; after = after }) answered) kept why refuses) tells none kept
chain_not_taken after fleet.Full why leads answered tells none kept =
    is_refused (finds leads (record { answer = full; after = after }) answered) kept why tells
chain_not_taken after fleet.NoMemory why leads answered tells none kept = lacks_so why leads tells none kept

-- ---- a chain is taken

pub added_lacks : (name : List ℕ) (after : List Row) (added : Added) (before : Outside) → CarriesOut (tell_answer name after (answer_of added)) before (Err end.NoMemory) before
added_lacks name after (shown.Same serial n) before = λ final. lacks_memory begins tt refl refl
added_lacks name after (shown.Added serial n) before = λ final. lacks_memory begins tt refl refl
added_lacks name after (shown.Extended serial n) before = λ final. lacks_memory begins tt refl refl

pub same_told : (line text : List ℕ) (before now : Outside) (result : Result (Unit {0}) End) → text ≡ line_with_lf line
    → CarriesOutAfter (writes [] (print text)) before result now → CarriesOut (print (line_with_lf line)) before result now
unfolding writes
same_told line text before now result is carried = λ final.
    (subst (λ (t : List ℕ). CarriesOutAfter (print t) before result now) is carried) at_first final

-- the answer `same` is told without a write
pub same_added : (name : List ℕ) (after : List Row) (added : Added) (serial : List ℕ) (n : ℕ) (text : List ℕ) (before now : Outside) (result : Result (Unit {0}) End)
    → added ≡ shown.Same serial n → text ≡ line_with_lf (answer_line (answer_of added)) → CarriesOutAfter (writes [] (print text)) before result now
    → CarriesOut (tell_answer name after (answer_of added)) before result now
same_added name after added serial n text before now result is text_is carried =
    subst (λ (a : Added). CarriesOut (tell_answer name after (answer_of a)) before result now) (sym is)
    (same_told (answer_line (answer_of (shown.Same serial n))) text before now result (text_is ∙ ap (λ (a : Added). line_with_lf (answer_line (answer_of a))) is) carried)

abbrev pub register_output : List ℕ → List Row → Output
register_output name after = record { role = role.Register; name = name; bytes = register_format.spelling after }

pub kept_told : (name : List ℕ) (after : List Row) (line text : List ℕ) (before now : Outside) (result : Result (Unit {0}) End) → text ≡ line_with_lf line
    → CarriesOutAfter (writes (register_output name after ∷ []) (print text)) before result now → CarriesOut (write_register name after line) before result now
unfolding writes
kept_told name after line text before now result is carried = λ final.
    (subst (λ (t : List ℕ). CarriesOutAfter (writes (register_output name after ∷ []) (print t)) before result now) is carried) at_first final

pub keep_lacks : (name : List ℕ) (after : List Row) (line : List ℕ) (before : Outside) → CarriesOut (write_register name after line) before (Err end.NoMemory) before
keep_lacks name after line before = λ final. lacks_memory begins tt refl refl
