-- What carries out `generate`.
use Rattle.std.proofs.Common.{◌≡◌, ℕ, ◌*◌, ◌<◌, ◌≤◌, List, length, false, Some, Result, Err, refl, sym, ap, subst, ◌∙◌, arith}
use Rattle.sha2.specs.Sha256.{sha256}
use Rattle.std.specs.Prelude.{Any}
use Rattle.mb_model.specs.declared.event.Event.{Event}
use Rattle.mb_model.specs.declared.reply.Reply.TheVariants as reply
use Rattle.mb_model.specs.declared.state.State.{State}
use Rattle.mb_model.specs.owners.Born.{officer_key}
use Rattle.mb_model.specs.signatures.Signing.{public_of}
use Rattle.mb_model.specs.memories.Factory.{state_at_birth}
use Rattle.mb_model.specs.memories.Meaning.{IsWellFormed}
use Rattle.mb_model.specs.chains.Lines.{ReadsLines, TextFailsAtLine, text_of}
use Rattle.mb_model.specs.chains.Script.{IsScript, IsShortNoise, commands_in}
use Rattle.mb_model.specs.chains.Listing.{summary}
use Rattle.mb_model.specs.outside.Board.{Held, Used, image_of, not_used, loaded_once_more, having_answered}
use Rattle.mb_model_commands.specs.declared.workload.Workload.{Workload}
use Rattle.mb_model_commands.specs.Workload.{key_of_officer, IsWorkload}
use Rattle.mb_model_commands.specs.Outside.{Outside}
use Rattle.mb_model_commands.specs.Commands.{Command, Past, load, serve, print, lack, at_first}
use Rattle.mb_model_commands.specs.RunCommand.{IsServed}
use Rattle.mb_model_commands.specs.GenerateCommand.{GenerateNames, Prepared, IsPrepared, ShowsLog, prepared_image, summarise, generate}
use Rattle.mb_model_lemmas.proofs.EventLemmas.{IsScript-same}
use Rattle.mb_model_lemmas.proofs.LineLemmas.{HasLines-same, FailsAtLine-none}
use Rattle.mb_model_lemmas.proofs.FactoryLemmas.{factory_is_well_formed}
use Rattle.mb_console.specs.declared.end.End.{End}
use Rattle.mb_console.specs.declared.end.End.TheVariants as end
use Rattle.mb_console.specs.Ending.{CarriesOutAfter, CarriesOutRest}
use Rattle.mb_console.specs.Outputs.{writes, WritesAll, StopsWriting}
use Rattle.mb_tools_device.specs.Generated.{HasEvents, workload_outputs}
use Rattle.mb_console.proofs.CommandLemmas.{goes_first, goes_second, finds, load_goes, serve_goes, memory_unfound, lack_here}
use Rattle.mb_console.proofs.OutputLemmas.{all_written, stops_carried}

-- ---- the script is read, and its noise is enough

pub no_bad_line : (text : List ℕ) (events : List Event) (line : ℕ) → ReadsLines IsScript text events → TextFailsAtLine IsScript text line → ⊥
no_bad_line text events line reads fails =
    let same = HasLines-same text reads.lines fails.lines reads.has fails.has in
    FailsAtLine-none IsScript fails.lines events line (subst (λ (l : List (List ℕ)). IsScript l events) same reads.stands) fails.fails

pub one_script : (text : List ℕ) (a b : List Event) → ReadsLines IsScript text a → ReadsLines IsScript text b → a ≡ b
one_script text a b one other =
    let same = HasLines-same text one.lines other.lines one.has other.has in
    IsScript-same other.lines a b (subst (λ (l : List (List ℕ)). IsScript l a) same one.stands) other.stands

pub no_short_noise : (text noise : List ℕ) (undrawn read : List Event) → ReadsLines IsScript text undrawn → 32 * commands_in undrawn ≤ length noise → ReadsLines IsScript text read → IsShortNoise read noise → ⊥
no_short_noise text noise undrawn read is enough was short =
    let same = one_script text read undrawn was is in
    omega (arith, subst (λ (e : List Event). length noise < 32 * commands_in e) same short, enough)

-- ---- the workload

-- the state for which the image of a workload stands
abbrev pub new_state : (number rounds : ℕ) (files : Workload) → IsWorkload number rounds files → State
new_state number rounds files made =
    state_at_birth (officer_key made.draws.root) 0 (public_of (key_of_officer made.draws 1)) made.draws.code_one made.draws.factory

pub new_image : (number rounds : ℕ) (files : Workload) (made : IsWorkload number rounds files) → IsWellFormed files.image (Some (new_state number rounds files made))
new_image number rounds files made =
    factory_is_well_formed (officer_key made.draws.root) 0 (public_of (key_of_officer made.draws 1)) made.draws.code_one made.draws.factory files.image made.image

abbrev pub prepared : (number rounds : ℕ) (files : Workload) (events : List Event) → IsWorkload number rounds files → Prepared
prepared number rounds files events made =
    record { files = files; state = Some (new_state number rounds files made); events = events }

is_prepared : (number rounds : ℕ) (files : Workload) (events : List Event) (made : IsWorkload number rounds files) → HasEvents files events → IsPrepared number rounds (prepared number rounds files events made)
is_prepared number rounds files events made has =
    record { generated = made; image = new_image number rounds files made; undrawn = has.undrawn; script = has.script; noise = has.noise }

-- what comes after the workload was found
abbrev serve_workload : GenerateNames → Prepared → Command
serve_workload names made = load made.files.image (writes (workload_outputs names made.files) (serve (IsServed (prepared_image made) made.events) summarise))

-- an allocation fails before its files are written
pub none_made : (names : GenerateNames) (used : Used) (final : Held) (before : Outside) → used ≡ at_first.used
    → CarriesOutRest (generate names) at_first used final before (Err end.NoMemory) before
unfolding generate writes
none_made names used final before none =
    memory_unfound (IsPrepared names.number names.rounds) (serve_workload names) at_first used final before refl none

-- ---- its files are written, and it is served

-- a file is not written
pub files_not_written : (names : GenerateNames) (files : Workload) (events : List Event) (used : Used) (final : Held) (before now : Outside) (why : End)
    → IsWorkload names.number names.rounds files → HasEvents files events → used ≡ loaded_once_more files.image not_used
    → StopsWriting (workload_outputs names files) before why now → CarriesOutRest (generate names) at_first used final before (Err why) now
unfolding generate writes
files_not_written names files events used final before now why made has once stops =
    let what = prepared names.number names.rounds files events made in
    let rest : Command = serve (IsServed (prepared_image what) what.events) summarise in
    let past : Past = record { used = loaded_once_more files.image not_used; wrote = false } in
    finds (IsPrepared names.number names.rounds) (serve_workload names) at_first used final before now what (Err why) (is_prepared names.number names.rounds files events made has)
    (load_goes files.image (writes (workload_outputs names files) rest) at_first used final before now (Err why)
    (subst (λ (u : Used). CarriesOutRest (writes (workload_outputs names files) rest) past u final before (Err why) now) (sym once)
    (stops_carried (workload_outputs names files) rest before now why stops past final)))

-- they are
pub workload_served : (names : GenerateNames) (files : Workload) (events : List Event) (used : Used) (final : Held) (before mid now : Outside) (result : Result (Unit {0}) End)
    (made : IsWorkload names.number names.rounds files) → HasEvents files events
    → WritesAll (workload_outputs names files) before mid → used ≡ having_answered used.answered (loaded_once_more files.image not_used)
    → IsServed (record { bytes = files.image; state = Some (new_state names.number names.rounds files made) }) events used.answered final
    → ((past : Past) → past.used ≡ used → CarriesOutRest (summarise used.answered final) past used final mid result now)
    → CarriesOutRest (generate names) at_first used final before result now
unfolding generate writes
workload_served names files events used final before mid now result made has written once served carried =
    let what = prepared names.number names.rounds files events made in
    let rest : Command = serve (IsServed (prepared_image what) what.events) summarise in
    let past : Past = record { used = loaded_once_more files.image not_used; wrote = false } in
    finds (IsPrepared names.number names.rounds) (serve_workload names) at_first used final before now what result (is_prepared names.number names.rounds files events made has)
    (load_goes files.image (writes (workload_outputs names files) rest) at_first used final before now result
    (all_written (workload_outputs names files) rest past used final before mid now result written
    (λ later same. serve_goes (IsServed (prepared_image what) what.events) summarise later used final mid now result (once ∙ ap (λ (u : Used). having_answered used.answered u) (sym same)) served (carried (record later { used = used }) refl))))

-- ---- the summary

pub summary_lacks : (used : Used) (final : Held) (past : Past) (before : Outside) → Any (λ a. a.reply ≡ reply.NoMemory) used.answered → past.used ≡ used
    → CarriesOutRest (summarise used.answered final) past used final before (Err end.NoMemory) before
summary_lacks used final past before some same =
    goes_first _ lack _ past used final before before (Err end.NoMemory) some (lack_here past used final before (sym same))

pub summary_told : (used : Used) (final : Held) (entries : ℕ) (text : List ℕ) (past : Past) (before now : Outside) (result : Result (Unit {0}) End)
    → (Any (λ a. a.reply ≡ reply.NoMemory) used.answered → ⊥) → ShowsLog final entries → text ≡ text_of (summary used.answered entries (sha256 (image_of final.memory)))
    → CarriesOutAfter (print text) before result now → past.used ≡ used → CarriesOutRest (summarise used.answered final) past used final before result now
summary_told used final entries text past before now result none shows is carried same =
    let told : CarriesOutRest (print text) past used final before result now =
    subst (λ (u : Used). CarriesOutRest (print text) past u final before result now) same (carried past final) in
    goes_second _ lack _ past used final before now result none
    (finds (ShowsLog final) (λ n. print (text_of (summary used.answered n (sha256 (image_of final.memory))))) past used final before now entries result shows
    (subst (λ (t : List ℕ). CarriesOutRest (print t) past used final before result now) is told))
