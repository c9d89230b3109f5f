-- What carries out a command, step by step, whichever command it is.
use Rattle.std.proofs.Common.{◌≡◌, ℕ, true, false, List, ◌++◌, codes, Result, Ok, Err, refl, subst, inl, inr}
use Rattle.mb_model.specs.declared.event.Answered.{Answered}
use Rattle.mb_model.specs.outside.Board.{Held, Used, loaded_once_more, having_answered}
use Rattle.mb_model_commands.specs.Outside.{Outside, read_once, WritesFile, FailsToWrite, Prints, FailsToPrint}
use Rattle.mb_model_commands.specs.Commands.{Input, Output, Command, read, find, either_command, load, serve, rehearse, write, print, refuse, lack, Past, SaysLine, Stops, WantsMemory, input_is_too_long, input_is_faulty, input_is_not_read, memory_lacks, text_is_printed, text_is_not_printed, CommandEnds, input_line, role_word, place_words}
use Rattle.mb_console.specs.declared.end.End.{End}
use Rattle.mb_console.specs.declared.end.End.TheVariants as end
use Rattle.mb_console.specs.Ending.{end_status, RefusesWith, ended_at, CarriesOutRest, HasInput, StopsAt}

-- a command that has ended so far on, and stops with a line
stopped : (line : List ℕ) (status : ℕ) (past : Past) (used : Used) (final : Held) (before after : Outside)
    → used ≡ past.used → SaysLine line before after → Stops line status past (ended_at before used final after status)
stopped line status past used final before after same says = record { says = says; used = same; status_is = refl }

wanted : (past : Past) (used : Used) (final : Held) (before after : Outside) → past.wrote ≡ false → used ≡ past.used
    → SaysLine (codes "no memory") before after → WantsMemory past (ended_at before used final after 6)
wanted past used final before after none same says =
    record { first = none; stops = stopped (codes "no memory") 6 past used final before after same says }

-- ---- an input

-- an input was not had
pub input_carried_out : {A : Type 0} (input : Input A) (rest : A → Command) (past : Past) (used : Used) (final : Held) (before now : Outside) (why : End)
    → past.wrote ≡ false → used ≡ past.used → StopsAt input before now why → CarriesOutRest (read input rest) past used final before (Err why) now
unfolding CarriesOutRest CommandEnds
input_carried_out input rest past used final before now (end.TooLong other) none same (is, held, now_is) = λ after says.
    let moved : SaysLine (input_line input.role (codes "too long")) (read_once before) after =
    subst (λ o. SaysLine (input_line input.role (codes "too long")) o after) now_is (subst (λ r. SaysLine (input_line r (codes "too long")) now after) is says) in
    inl (input_is_too_long held (stopped (input_line input.role (codes "too long")) 3 past used final (read_once before) after same moved))
input_carried_out input rest past used final before now (end.Faulty other place) none same has = λ after says.
    let moved : SaysLine (input_line input.role (place_words place)) (read_once before) after =
    subst (λ o. SaysLine (input_line input.role (place_words place)) o after) has.now_is (subst (λ r. SaysLine (input_line r (place_words place)) now after) has.role_is says) in
    inl (input_is_faulty has.bytes has.read place has.fault (stopped (input_line input.role (place_words place)) 3 past used final (read_once before) after same moved))
input_carried_out input rest past used final before now (end.NotRead other) none same (is, fails) = λ after says.
    inl (input_is_not_read now fails (stopped _ 4 past used final now after same (subst (λ r. SaysLine (codes "read failed " ++ role_word r) now after) is says)))
input_carried_out input rest past used final before now end.NoMemory none same now_is = λ after says.
    inl (memory_lacks (wanted past used final (read_once before) after none same (subst (λ o. SaysLine (codes "no memory") o after) now_is says)))
input_carried_out input rest past used final before now end.Words none same stops = absurd stops
input_carried_out input rest past used final before now (end.NotWritten other) none same stops = absurd stops
input_carried_out input rest past used final before now end.NotPrinted none same stops = absurd stops
input_carried_out input rest past used final before now (end.Refused line) none same stops = absurd stops
input_carried_out input rest past used final before now (end.RefusedAtLength line) none same stops = absurd stops

-- an input was read, and the command went on with its value
pub read_on : {A : Type 0} (input : Input A) (rest : A → Command) (past : Past) (used : Used) (final : Held) (before mid now : Outside) (value : A)
    (result : Result (Unit {0}) End) → HasInput input before mid value → CarriesOutRest (rest value) past used final mid result now
    → CarriesOutRest (read input rest) past used final before result now
unfolding CarriesOutRest CommandEnds
read_on input rest past used final before mid now value (Ok u) has ends =
    inr (has.bytes, has.read, (value, has.is, subst (λ o. CommandEnds (rest value) past (ended_at o used final now 0)) has.now_is ends))
read_on input rest past used final before mid now value (Err why) has carried = λ after says.
    inr (has.bytes, has.read, (value, has.is, subst (λ o. CommandEnds (rest value) past (ended_at o used final after (end_status why))) has.now_is (carried after says)))

-- ---- a choice

pub goes_first : (If : Type 0) (first second : Command) (past : Past) (used : Used) (final : Held) (before now : Outside) (result : Result (Unit {0}) End)
    → If → CarriesOutRest first past used final before result now → CarriesOutRest (either_command If first second) past used final before result now
unfolding CarriesOutRest CommandEnds
goes_first If first second past used final before now (Ok u) holds ends = inl (holds, ends)
goes_first If first second past used final before now (Err why) holds carried = λ after says. inl (holds, carried after says)

pub goes_second : (If : Type 0) (first second : Command) (past : Past) (used : Used) (final : Held) (before now : Outside) (result : Result (Unit {0}) End)
    → (If → ⊥) → CarriesOutRest second past used final before result now → CarriesOutRest (either_command If first second) past used final before result now
unfolding CarriesOutRest CommandEnds
goes_second If first second past used final before now (Ok u) never ends = inr (inl (never, ends))
goes_second If first second past used final before now (Err why) never carried = λ after says. inr (inl (never, carried after says))

-- ---- a value that is made

pub finds : {A : Type 0} (Is : A → Type 0) (rest : A → Command) (past : Past) (used : Used) (final : Held) (before now : Outside) (value : A) (result : Result (Unit {0}) End)
    → Is value → CarriesOutRest (rest value) past used final before result now → CarriesOutRest (find Is rest) past used final before result now
unfolding CarriesOutRest CommandEnds
finds Is rest past used final before now value (Ok u) is ends = inl (value, is, ends)
finds Is rest past used final before now value (Err why) is carried = λ after says. inl (value, is, carried after says)

-- ---- refusals and failed allocations

pub refuse_here : (line : List ℕ) (why : End) (past : Past) (used : Used) (final : Held) (before : Outside)
    → RefusesWith line why → used ≡ past.used → CarriesOutRest (refuse line) past used final before (Err why) before
unfolding CarriesOutRest CommandEnds
refuse_here line why past used final before refuses same = λ after says.
    inl (record { says = subst (λ l. SaysLine l before after) refuses.line_is says; used = same; status_is = refuses.status_is })

-- an allocation fails before a refusal, an output or a text, at a load, before a choice, or while a value is made
pub memory_unrefused : (line : List ℕ) (past : Past) (used : Used) (final : Held) (before : Outside)
    → past.wrote ≡ false → used ≡ past.used → CarriesOutRest (refuse line) past used final before (Err end.NoMemory) before
unfolding CarriesOutRest CommandEnds
memory_unrefused line past used final before none same = λ after says.
    inr (wanted past used final before after none same says)

pub memory_here : (output : Output) (rest : Command) (past : Past) (used : Used) (final : Held) (before : Outside)
    → past.wrote ≡ false → used ≡ past.used → CarriesOutRest (write output rest) past used final before (Err end.NoMemory) before
unfolding CarriesOutRest CommandEnds
memory_here output rest past used final before none same = λ after says.
    inr (inr (wanted past used final before after none same says))

pub memory_chosen : (If : Type 0) (first second : Command) (past : Past) (used : Used) (final : Held) (before : Outside)
    → past.wrote ≡ false → used ≡ past.used → CarriesOutRest (either_command If first second) past used final before (Err end.NoMemory) before
unfolding CarriesOutRest CommandEnds
memory_chosen If first second past used final before none same = λ after says.
    inr (inr (wanted past used final before after none same says))

pub memory_unfound : {A : Type 0} (Is : A → Type 0) (rest : A → Command) (past : Past) (used : Used) (final : Held) (before : Outside)
    → past.wrote ≡ false → used ≡ past.used → CarriesOutRest (find Is rest) past used final before (Err end.NoMemory) before
unfolding CarriesOutRest CommandEnds
memory_unfound Is rest past used final before none same = λ after says.
    inr (wanted past used final before after none same says)

pub memory_unprinted : (text : List ℕ) (past : Past) (used : Used) (final : Held) (before : Outside)
    → past.wrote ≡ false → used ≡ past.used → CarriesOutRest (print text) past used final before (Err end.NoMemory) before
unfolding CarriesOutRest CommandEnds
memory_unprinted text past used final before none same = λ after says.
    inr (wanted past used final before after none same says)

pub memory_unloaded : (image : List ℕ) (rest : Command) (past : Past) (used : Used) (final : Held) (before : Outside)
    → past.wrote ≡ false → used ≡ past.used → CarriesOutRest (load image rest) past used final before (Err end.NoMemory) before
unfolding CarriesOutRest CommandEnds
memory_unloaded image rest past used final before none same = λ after says.
    inr (wanted past used final before after none same says)

-- ---- the board

pub load_goes : (image : List ℕ) (rest : Command) (past : Past) (used : Used) (final : Held) (before now : Outside) (result : Result (Unit {0}) End)
    → CarriesOutRest rest (record past { used = loaded_once_more image past.used }) used final before result now → CarriesOutRest (load image rest) past used final before result now
unfolding CarriesOutRest CommandEnds
load_goes image rest past used final before now (Ok u) ends = inl ends
load_goes image rest past used final before now (Err why) carried = λ after says. inl (carried after says)

pub serve_goes : (IsServed : List Answered → Held → Type 0) (rest : List Answered → Held → Command) (past : Past) (used : Used) (final : Held) (before now : Outside)
    (result : Result (Unit {0}) End) → used ≡ having_answered used.answered past.used → IsServed used.answered final
    → CarriesOutRest (rest used.answered final) (record past { used = used }) used final before result now → CarriesOutRest (serve IsServed rest) past used final before result now
unfolding CarriesOutRest CommandEnds
serve_goes IsServed rest past used final before now (Ok u) same served ends = (same, served, ends)
serve_goes IsServed rest past used final before now (Err why) same served carried = λ after says. (same, served, carried after says)

pub rehearse_goes : (IsRehearsed : List Answered → Held → Type 0) (rest : List Answered → Held → Command) (past : Past) (first : List Answered) (held : Held) (used : Used) (final : Held) (before now : Outside)
    (result : Result (Unit {0}) End) → IsRehearsed first held → CarriesOutRest (rest first held) (record past { used = having_answered first past.used }) used final before result now
    → CarriesOutRest (rehearse IsRehearsed rest) past used final before result now
unfolding CarriesOutRest CommandEnds
rehearse_goes IsRehearsed rest past first held used final before now (Ok u) rehearsed ends = (first, held, rehearsed, ends)
rehearse_goes IsRehearsed rest past first held used final before now (Err why) rehearsed carried = λ after says. (first, held, rehearsed, carried after says)

-- ---- outputs and the text

pub write_goes : (output : Output) (rest : Command) (past : Past) (used : Used) (final : Held) (before mid now : Outside) (result : Result (Unit {0}) End)
    → WritesFile output.name output.bytes before mid → CarriesOutRest rest (record past { wrote = true }) used final mid result now
    → CarriesOutRest (write output rest) past used final before result now
unfolding CarriesOutRest CommandEnds
write_goes output rest past used final before mid now (Ok u) writes ends = inr (inl (mid, writes, ends))
write_goes output rest past used final before mid now (Err why) writes carried = λ after says. inr (inl (mid, writes, carried after says))

pub write_stops : (output : Output) (rest : Command) (past : Past) (used : Used) (final : Held) (before mid : Outside)
    → used ≡ past.used → FailsToWrite output.name before mid → CarriesOutRest (write output rest) past used final before (Err (end.NotWritten output.role)) mid
unfolding CarriesOutRest CommandEnds
write_stops output rest past used final before mid same fails = λ after says.
    inl (record { mid = mid; fails = fails; stops = stopped _ 5 past used final mid after same says })

pub print_goes : (text : List ℕ) (past : Past) (used : Used) (final : Held) (before now : Outside)
    → used ≡ past.used → Prints text before now → CarriesOutRest (print text) past used final before (Ok tt) now
unfolding CarriesOutRest CommandEnds
print_goes text past used final before now same prints = inl (text_is_printed prints same refl)

pub print_stops : (text : List ℕ) (past : Past) (used : Used) (final : Held) (before mid : Outside)
    → used ≡ past.used → FailsToPrint text before mid → CarriesOutRest (print text) past used final before (Err end.NotPrinted) mid
unfolding CarriesOutRest CommandEnds
print_stops text past used final before mid same fails = λ after says.
    inl (text_is_not_printed mid fails (stopped _ 5 past used final mid after same says))

-- ---- memory that was wanted while events were served

pub lack_here : (past : Past) (used : Used) (final : Held) (before : Outside) → used ≡ past.used
    → CarriesOutRest lack past used final before (Err end.NoMemory) before
unfolding CarriesOutRest CommandEnds
lack_here past used final before same = λ after says. stopped (codes "no memory") 6 past used final before after same says
