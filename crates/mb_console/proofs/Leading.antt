-- A command that is carried out from top to bottom: one lemma for each step that leads on, and one for each kind of end.
use Rattle.std.proofs.Common.{◌≡◌, ℕ, true, false, List, Result, Ok, Err, sym, subst}
use Rattle.std.specs.Prelude.{IsErrAnd}
use Rattle.std.proofs.lemmas.Result.{err_from_is_err_and}
use Rattle.mb_model.specs.declared.event.Answered.{Answered}
use Rattle.mb_model.specs.outside.Board.{Held, Used, loaded_once_more, having_answered}
use Rattle.mb_model_commands.specs.Outside.{Outside, WritesFile, FailsToWrite, Prints, FailsToPrint}
use Rattle.mb_model_commands.specs.Commands.{Input, Output, Command, read, find, either_command, load, serve, rehearse, write, print, refuse, lack, Past}
use Rattle.mb_console.specs.declared.end.End.{End}
use Rattle.mb_console.specs.declared.end.End.TheVariants as end
use Rattle.mb_console.specs.Ending.{RefusesWith, CarriesOutRest, LeadsTo, HasInput, StopsAt}
use Rattle.mb_console.proofs.CommandLemmas as step

-- ---- steps that lead on

-- nothing has been carried out
pub begins : {used : Used} {final : Held} {whole : Command} {past : Past} {before : Outside} → LeadsTo used final whole past before whole past before
begins = record { lead = λ result now carried. carried }

pub reads : {used : Used} {final : Held} {whole : Command} {past : Past} {before : Outside} {later : Past} {mid now : Outside}
    {A : Type 0} {input : Input A} {rest : A → Command} {value : A}
    → LeadsTo used final whole past before (read input rest) later mid → HasInput input mid now value
    → LeadsTo used final whole past before (rest value) later now
reads {used = used} {final = final} {later = later} {mid = mid} {now = now} {input = input} {rest = rest} {value = value} leads has = record {
  lead = λ result end carried. leads.lead result end (step.read_on input rest later used final mid now end value result has carried);
}

pub finds : {used : Used} {final : Held} {whole : Command} {past : Past} {before : Outside} {later : Past} {mid : Outside}
    {A : Type 0} {Is : A → Type 0} {rest : A → Command}
    → LeadsTo used final whole past before (find Is rest) later mid → (value : A) → Is value
    → LeadsTo used final whole past before (rest value) later mid
finds {used = used} {final = final} {later = later} {mid = mid} {Is = Is} {rest = rest} leads value is = record {
  lead = λ result end carried. leads.lead result end (step.finds Is rest later used final mid end value result is carried);
}

pub chooses_first : {used : Used} {final : Held} {whole : Command} {past : Past} {before : Outside} {later : Past} {mid : Outside}
    {If : Type 0} {first second : Command}
    → LeadsTo used final whole past before (either_command If first second) later mid → If
    → LeadsTo used final whole past before first later mid
chooses_first {used = used} {final = final} {later = later} {mid = mid} {If = If} {first = first} {second = second} leads holds = record {
  lead = λ result end carried. leads.lead result end (step.goes_first If first second later used final mid end result holds carried);
}

pub chooses_second : {used : Used} {final : Held} {whole : Command} {past : Past} {before : Outside} {later : Past} {mid : Outside}
    {If : Type 0} {first second : Command}
    → LeadsTo used final whole past before (either_command If first second) later mid → (If → ⊥)
    → LeadsTo used final whole past before second later mid
chooses_second {used = used} {final = final} {later = later} {mid = mid} {If = If} {first = first} {second = second} leads never = record {
  lead = λ result end carried. leads.lead result end (step.goes_second If first second later used final mid end result never carried);
}

pub loads : {used : Used} {final : Held} {whole : Command} {past : Past} {before : Outside} {later : Past} {mid : Outside}
    {image : List ℕ} {rest : Command}
    → LeadsTo used final whole past before (load image rest) later mid
    → LeadsTo used final whole past before rest (record later { used = loaded_once_more image later.used }) mid
loads {used = used} {final = final} {later = later} {mid = mid} {image = image} {rest = rest} leads = record {
  lead = λ result end carried. leads.lead result end (step.load_goes image rest later used final mid end result carried);
}

pub serves : {used : Used} {final : Held} {whole : Command} {past : Past} {before : Outside} {later : Past} {mid : Outside}
    {IsServed : List Answered → Held → Type 0} {rest : List Answered → Held → Command}
    → LeadsTo used final whole past before (serve IsServed rest) later mid → used ≡ having_answered used.answered later.used → IsServed used.answered final
    → LeadsTo used final whole past before (rest used.answered final) (record later { used = used }) mid
serves {used = used} {final = final} {later = later} {mid = mid} {IsServed = IsServed} {rest = rest} leads same served = record {
  lead = λ result end carried. leads.lead result end (step.serve_goes IsServed rest later used final mid end result same served carried);
}

pub rehearses : {used : Used} {final : Held} {whole : Command} {past : Past} {before : Outside} {later : Past} {mid : Outside}
    {IsRehearsed : List Answered → Held → Type 0} {rest : List Answered → Held → Command}
    → LeadsTo used final whole past before (rehearse IsRehearsed rest) later mid → (first : List Answered) (held : Held) → IsRehearsed first held
    → LeadsTo used final whole past before (rest first held) (record later { used = having_answered first later.used }) mid
rehearses {used = used} {final = final} {later = later} {mid = mid} {IsRehearsed = IsRehearsed} {rest = rest} leads first held rehearsed = record {
  lead = λ result end carried. leads.lead result end (step.rehearse_goes IsRehearsed rest later first held used final mid end result rehearsed carried);
}

pub writes_one : {used : Used} {final : Held} {whole : Command} {past : Past} {before : Outside} {later : Past} {mid : Outside}
    {output : Output} {rest : Command} (now : Outside)
    → LeadsTo used final whole past before (write output rest) later mid → WritesFile output.name output.bytes mid now
    → LeadsTo used final whole past before rest (record later { wrote = true }) now
writes_one {used = used} {final = final} {later = later} {mid = mid} {output = output} {rest = rest} now leads writes = record {
  lead = λ result end carried. leads.lead result end (step.write_goes output rest later used final mid now end result writes carried);
}

-- ---- ends

-- an input was not had, and `?` handed its end on
pub stops_at_input : {used : Used} {final : Held} {whole : Command} {past : Past} {before : Outside} {later : Past} {mid : Outside}
    {A : Type 0} {input : Input A} {rest : A → Command} (why : End) (result : Result (Unit {0}) End) (now : Outside)
    → LeadsTo used final whole past before (read input rest) later mid → IsErrAnd result (λ told. told ≡ why) → StopsAt input mid now why
    → later.wrote ≡ false → used ≡ later.used → CarriesOutRest whole past used final before result now
stops_at_input {used = used} {final = final} {whole = whole} {past = past} {before = before} {later = later} {mid = mid} {input = input} {rest = rest} why result now leads is stops none same =
    let told = err_from_is_err_and result is in
    subst (λ (r : Result (Unit {0}) End). CarriesOutRest whole past used final before r now) (sym told.1)
    (subst (λ (w : End). CarriesOutRest whole past used final before (Err w) now) (sym told.2)
    (leads.lead (Err why) now (step.input_carried_out input rest later used final mid now why none same stops)))

-- the steps at which an allocation can fail outside any call of the host
abbrev pub MayLack : Command → Type 0
MayLack (read {A = A} input rest) = ⊥
MayLack (find {A = A} Is rest) = Unit {0}
MayLack (either_command If first second) = Unit {0}
MayLack (load image rest) = Unit {0}
MayLack (serve IsServed rest) = ⊥
MayLack (rehearse IsRehearsed rest) = ⊥
MayLack (write output rest) = Unit {0}
MayLack (print text) = Unit {0}
MayLack (refuse line) = Unit {0}
MayLack lack = Unit {0}

lacks_here : (rest : Command) (past : Past) (used : Used) (final : Held) (before : Outside) → MayLack rest → past.wrote ≡ false → used ≡ past.used
    → CarriesOutRest rest past used final before (Err end.NoMemory) before
lacks_here (read input rest) past used final before may none same = absurd may
lacks_here (find Is rest) past used final before may none same = step.memory_unfound Is rest past used final before none same
lacks_here (either_command If first second) past used final before may none same = step.memory_chosen If first second past used final before none same
lacks_here (load image rest) past used final before may none same = step.memory_unloaded image rest past used final before none same
lacks_here (serve IsServed rest) past used final before may none same = absurd may
lacks_here (rehearse IsRehearsed rest) past used final before may none same = absurd may
lacks_here (write output rest) past used final before may none same = step.memory_here output rest past used final before none same
lacks_here (print text) past used final before may none same = step.memory_unprinted text past used final before none same
lacks_here (refuse line) past used final before may none same = step.memory_unrefused line past used final before none same
lacks_here lack past used final before may none same = step.lack_here past used final before same

-- an allocation failed
pub lacks_memory : {used : Used} {final : Held} {whole : Command} {past : Past} {before : Outside} {rest : Command} {later : Past} {mid : Outside}
    → LeadsTo used final whole past before rest later mid → MayLack rest → later.wrote ≡ false → used ≡ later.used
    → CarriesOutRest whole past used final before (Err end.NoMemory) mid
lacks_memory {used = used} {final = final} {rest = rest} {later = later} {mid = mid} leads may none same =
    leads.lead (Err end.NoMemory) mid (lacks_here rest later used final mid may none same)

-- memory was lacking while events were served, maybe after a file was written
pub lacks_while_serving : {used : Used} {final : Held} {whole : Command} {past : Past} {before : Outside} {later : Past} {mid : Outside}
    → LeadsTo used final whole past before lack later mid → used ≡ later.used → CarriesOutRest whole past used final before (Err end.NoMemory) mid
lacks_while_serving {used = used} {final = final} {later = later} {mid = mid} leads same =
    leads.lead (Err end.NoMemory) mid (step.lack_here later used final mid same)

-- an output was not written
pub stops_at_output : {used : Used} {final : Held} {whole : Command} {past : Past} {before : Outside} {later : Past} {mid : Outside}
    {output : Output} {rest : Command} (now : Outside)
    → LeadsTo used final whole past before (write output rest) later mid → FailsToWrite output.name mid now → used ≡ later.used
    → CarriesOutRest whole past used final before (Err (end.NotWritten output.role)) now
stops_at_output {used = used} {final = final} {later = later} {mid = mid} {output = output} {rest = rest} now leads fails same =
    leads.lead (Err (end.NotWritten output.role)) now (step.write_stops output rest later used final mid now same fails)

-- the text was printed
pub prints : {used : Used} {final : Held} {whole : Command} {past : Past} {before : Outside} {text : List ℕ} {later : Past} {mid : Outside} (now : Outside)
    → LeadsTo used final whole past before (print text) later mid → Prints text mid now → used ≡ later.used
    → CarriesOutRest whole past used final before (Ok tt) now
prints {used = used} {final = final} {text = text} {later = later} {mid = mid} now leads printed same =
    leads.lead (Ok tt) now (step.print_goes text later used final mid now same printed)

-- the text was not printed
pub stops_at_text : {used : Used} {final : Held} {whole : Command} {past : Past} {before : Outside} {text : List ℕ} {later : Past} {mid : Outside} (now : Outside)
    → LeadsTo used final whole past before (print text) later mid → FailsToPrint text mid now → used ≡ later.used
    → CarriesOutRest whole past used final before (Err end.NotPrinted) now
stops_at_text {used = used} {final = final} {text = text} {later = later} {mid = mid} now leads fails same =
    leads.lead (Err end.NotPrinted) now (step.print_stops text later used final mid now same fails)

-- the command is refused
pub is_refused : {used : Used} {final : Held} {whole : Command} {past : Past} {before : Outside} {line : List ℕ} {later : Past} {mid : Outside}
    → LeadsTo used final whole past before (refuse line) later mid → used ≡ later.used → (why : End) → RefusesWith line why
    → CarriesOutRest whole past used final before (Err why) mid
is_refused {used = used} {final = final} {line = line} {later = later} {mid = mid} leads same why refuses =
    leads.lead (Err why) mid (step.refuse_here line why later used final mid refuses same)
