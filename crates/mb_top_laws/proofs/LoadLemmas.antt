-- How often a command loads a board.
use Rattle.std.proofs.Common.{◌≡◌, ℕ, ◌≤◌, ◌⊎◌, List, Option, None, Some, inl, inr, true, false, refl, ap, ◌∙◌, arith}
use Rattle.mb_model.specs.declared.event.Event.{Event}
use Rattle.mb_model.specs.declared.event.Answered.{Answered}
use Rattle.mb_model.specs.declared.key.PublicKey.{PublicKey}
use Rattle.mb_model.specs.declared.region.Secret.{Secret}
use Rattle.mb_model.specs.declared.state.State.{State}
use Rattle.mb_model.specs.outside.Board.{Held, Used, not_used, counted_load, loaded_once_more, having_answered}
use Rattle.mb_model.specs.chains.Acceptance.{Verdict, chain_acceptance, chain_rejection}
use Rattle.mb_model_commands.specs.declared.role.Role.TheVariants as role
use Rattle.mb_model_commands.specs.Outside.{read_once}
use Rattle.mb_model_commands.specs.Inputs.{Image, image_input, script_input, draws_input}
use Rattle.mb_model_commands.specs.Keygen.{KeygenNames, keygen}
use Rattle.mb_model_commands.specs.Sign.{SignNames, CountersignNames, sign, countersign, sign_by, use_index}
use Rattle.mb_model_commands.specs.Cosign.{CosignNames, cosign}
use Rattle.mb_model_commands.specs.FactoryCommand.{FactoryNames, factory, make_device, write_device}
use Rattle.mb_model_commands.specs.MigrateCommand.{MigrateNames, migrate}
use Rattle.mb_model_commands.specs.VerifyCommand.{VerifyNames, verify, tell_verdict}
use Rattle.mb_model_commands.specs.AuditCommand.{AuditNames, audit, audit_chain, compare}
use Rattle.mb_model_commands.specs.ChainCommands.{ChainNames, AttachNames, chain, chain_of, attach, attach_statement, write_entries}
use Rattle.mb_model_commands.specs.RunCommand.{RunNames, IsServed, run}
use Rattle.mb_model_commands.specs.GenerateCommand.{GenerateNames, Prepared, generate, prepared_image, summarise}
use Rattle.mb_model_commands.specs.Commands.{Command, read, find, either_command, load, serve, rehearse, write, print, refuse, lack, Input, Past, Ended, end_seen_from, WantsMemory, InputEnds, input_is_too_long, input_is_faulty, input_is_not_read, memory_lacks, PrintEnds, text_is_printed, text_is_not_printed, CommandEnds, at_first}
use Rattle.mb_policy.specs.declared.judging.Judgement.{Judgement}
use Rattle.mb_policy.specs.declared.judging.Judgement.TheVariants as judgement
use Rattle.mb_policy.specs.Policies.{PolicyItem}
use Rattle.mb_model.specs.declared.running.AppEnd.{AppEnd}
use Rattle.mb_model.specs.declared.running.AppEnd.TheVariants as app_end
use Rattle.mb_tools.specs.Names.{keygen_given, sign_given, countersign_given, factory_given, migrate_given, verify_given, audit_given, chain_given, attach_given}
use Rattle.mb_tools_orders.specs.ShowOrder.{ShowOrderNames, showorder}
use Rattle.mb_tools_orders.specs.Ordered.{OrderedNames, ordered}
use Rattle.mb_tools_orders.specs.ShowKey.{ShowKeyNames, showkey}
use Rattle.mb_tools_orders.specs.Names.{cosign_given, showorder_given, ordered_given, showkey_given}
use Rattle.mb_tools_hss.specs.HssKeygen.{HsskeygenNames, hsskeygen}
use Rattle.mb_tools_hss.specs.ShowMaker.{ShowMakerNames, showmaker}
use Rattle.mb_tools_hss.specs.Endorse.{EndorseNames, endorse, endorse_root, use_number}
use Rattle.mb_tools_hss.specs.Endorsed.{EndorsedNames, endorsed, judge_endorsement}
use Rattle.mb_tools_hss.specs.Names.{hsskeygen_given, showmaker_given, endorse_given, endorsed_given}
use Rattle.mb_tools_policy.specs.TrustCommand.{TrustNames, trust, tell_judgement, judge_verdict}
use Rattle.mb_tools_policy.specs.Names.{trust_given}
use Rattle.mb_tools_app.specs.AppCommand.{AppNames, app, run_stored_code, tell_end}
use Rattle.mb_tools_app.specs.AppcodeCommand.{AppcodeNames, appcode}
use Rattle.mb_tools_app.specs.AssemblyCommands.{AsmNames, DisasmNames, asm, disasm}
use Rattle.mb_tools_app.specs.ShowcodeCommand.{ShowcodeNames, showcode}
use Rattle.mb_tools_app.specs.CallcodeCommand.{CallcodeNames, OutputEnd, acts, finds_it_full, asks_for_nothing, callcode, tell_call, tell_output}
use Rattle.mb_tools_app.specs.Names.{app_given, appcode_given, callcode_given, asm_given, disasm_given, showcode_given}
use Rattle.mb_fleet.specs.declared.row.Row.{Row}
use Rattle.mb_fleet.specs.Showing as answers
use Rattle.mb_fleet.specs.Showing.{Answer}
use Rattle.mb_tools_fleet.specs.EnrolCommand.{EnrolNames, enrol, tell_answer}
use Rattle.mb_tools_fleet.specs.RegisterCommands.{RegisterNames, DevicesNames, register, devices}
use Rattle.mb_tools_fleet.specs.FleetCommand.{FleetNames, FleetOutcome, all_served, text_too_long, keep_register, fleet}
use Rattle.mb_tools_fleet.specs.FleetWords.{fleet_given, register_given, enrol_given, devices_given}
use Rattle.mb_tools_shown.specs.HistoryCommand.{HistoryNames, Finding, has_history, is_untold, history, tell_history}
use Rattle.mb_tools_shown.specs.ShowimageCommand.{ShowimageNames, showimage, show_device}
use Rattle.mb_tools_shown.specs.Names.{history_given, showimage_given}
use Rattle.mb_tools_device.specs.RehearseCommand.{rehearsal}
use Rattle.mb_tools_device.specs.CutCommand.{CutNames, CutRun, AnyLacksMemory, IsCutRun, IsRehearsed, IsCutServed, cutat, tell_cut}
use Rattle.mb_tools_device.specs.Names.{run_given, cut_given, generate_given}
use Rattle.mb_top.specs.declared.table.Command.TheVariants as command
use Rattle.mb_top_laws.specs.LoadLaws.{NothingIsLoaded, EndsAfterLoads, LoadsOnce, LoadsTwice}

-- ---- a command without a load

-- a command that loads no board and serves no events, whatever its inputs are
unfoldable NeverLoads : Command → Type 0
NeverLoads (read {A = A} input rest) = (value : A) → NeverLoads (rest value)
NeverLoads (find {A = A} Is rest) = (value : A) → NeverLoads (rest value)
NeverLoads (either_command If first second) = NeverLoads first × NeverLoads second
NeverLoads (load image rest) = ⊥
NeverLoads (serve IsServed rest) = ⊥
NeverLoads (rehearse IsRehearsed rest) = ⊥
NeverLoads (write output rest) = NeverLoads rest
NeverLoads (print text) = Unit {0}
NeverLoads (refuse line) = Unit {0}
NeverLoads lack = Unit {0}

input_used : {A : Type 0} (input : Input A) (past : Past) (e : Ended) → InputEnds input past e → e.used ≡ past.used
input_used input past e (input_is_too_long held stops) = stops.used
input_used input past e (input_is_faulty bytes has place fault stops) = stops.used
input_used input past e (input_is_not_read mid fails stops) = stops.used
input_used input past e (memory_lacks wants) = wants.stops.used

print_used : (text : List ℕ) (past : Past) (e : Ended) → PrintEnds text past e → e.used ≡ past.used
print_used text past e (text_is_printed prints same status) = same
print_used text past e (text_is_not_printed mid fails stops) = stops.used

nothing_is_loaded : (command : Command) (past : Past) (e : Ended) → NeverLoads command → CommandEnds command past e → e.used ≡ past.used
unfolding NeverLoads CommandEnds
nothing_is_loaded (read input rest) past e never (inl ends) = input_used input past e ends
nothing_is_loaded (read input rest) past e never (inr it) = nothing_is_loaded (rest it.2.0) past (end_seen_from (read_once e.before) e) (never it.2.0) it.2.2
nothing_is_loaded (find Is rest) past e never (inl it) = nothing_is_loaded (rest it.0) past e (never it.0) it.2
nothing_is_loaded (find Is rest) past e never (inr wants) = wants.stops.used
nothing_is_loaded (either_command If first second) past e never (inl it) = nothing_is_loaded first past e never.0 it.1
nothing_is_loaded (either_command If first second) past e never (inr (inl it)) = nothing_is_loaded second past e never.1 it.1
nothing_is_loaded (either_command If first second) past e never (inr (inr wants)) = wants.stops.used
nothing_is_loaded (load image rest) past e never ends = absurd never
nothing_is_loaded (serve IsServed rest) past e never ends = absurd never
nothing_is_loaded (rehearse IsRehearsed rest) past e never ends = absurd never
nothing_is_loaded (write output rest) past e never (inl ends) = ends.stops.used
nothing_is_loaded (write output rest) past e never (inr (inl it)) = nothing_is_loaded rest (record past { wrote = true }) (end_seen_from it.0 e) never it.2
nothing_is_loaded (write output rest) past e never (inr (inr wants)) = wants.stops.used
nothing_is_loaded (print text) past e never (inl ends) = print_used text past e ends
nothing_is_loaded (print text) past e never (inr wants) = wants.stops.used
nothing_is_loaded (refuse line) past e never (inl stops) = stops.used
nothing_is_loaded (refuse line) past e never (inr wants) = wants.stops.used
nothing_is_loaded lack past e never stops = stops.used

-- ---- the commands that serve nothing

never_keygen : (names : KeygenNames) → NeverLoads (keygen names)
unfolding keygen NeverLoads
never_keygen names = λ noise. tt

never_sign : (names : SignNames) → NeverLoads (sign names)
unfolding sign sign_by use_index NeverLoads
never_sign names = λ key order. (tt, tt)

never_countersign : (names : CountersignNames) → NeverLoads (countersign names)
unfolding countersign sign_by use_index NeverLoads
never_countersign names = λ key order. (tt, (tt, tt))

never_factory : (names : FactoryNames) → NeverLoads (factory names)
unfolding factory make_device write_device NeverLoads
never_factory names = λ noise key owner code. (tt, λ image. tt)

never_migrate : (names : MigrateNames) → NeverLoads (migrate names)
unfolding migrate NeverLoads
never_migrate names = λ image. tt

never_told : (number : ℕ) (verdict : Verdict) → NeverLoads (tell_verdict number verdict)
unfolding NeverLoads
never_told number (chain_acceptance report) = tt
never_told number (chain_rejection why) = tt

never_verify : (names : VerifyNames) → NeverLoads (verify names)
unfolding verify NeverLoads
never_verify names = λ maker bytes verdict. never_told names.key verdict

never_compared : (state : State) (number : ℕ) (verdict : Verdict) → NeverLoads (compare state number verdict)
unfolding NeverLoads
never_compared state number (chain_acceptance report) = (tt, tt)
never_compared state number (chain_rejection why) = tt

never_audited : (names : AuditNames) (state : Option State) (maker : PublicKey) (bytes : List ℕ) → NeverLoads (audit_chain names state maker bytes)
unfolding NeverLoads
never_audited names None maker bytes = tt
never_audited names (Some state) maker bytes = λ verdict. never_compared state names.key verdict

never_audit : (names : AuditNames) → NeverLoads (audit names)
unfolding audit NeverLoads
never_audit names = λ image maker bytes. never_audited names image.state maker bytes

never_entries : (names : ChainNames) (state : Option State) → NeverLoads (chain_of names state)
unfolding write_entries NeverLoads
never_entries names None = tt
never_entries names (Some state) = λ chain bytes. tt

never_chain : (names : ChainNames) → NeverLoads (chain names)
unfolding chain NeverLoads
never_chain names = λ image. never_entries names image.state

never_attach : (names : AttachNames) → NeverLoads (attach names)
unfolding attach attach_statement write_entries NeverLoads
never_attach names = λ chain statement. (tt, λ bytes. tt)

-- ---- the commands of the other crates

never_cosign : (names : CosignNames) → NeverLoads (cosign names)
unfolding cosign sign_by use_index NeverLoads
never_cosign names = λ key order drafted. (tt, ((tt, tt), tt))

never_showorder : (names : ShowOrderNames) → NeverLoads (showorder names)
unfolding showorder NeverLoads
never_showorder names = λ order. tt

never_ordered : (names : OrderedNames) → NeverLoads (ordered names)
unfolding ordered NeverLoads
never_ordered names = λ key order lines. (tt, tt)

never_showkey : (names : ShowKeyNames) → NeverLoads (showkey names)
unfolding showkey NeverLoads
never_showkey names = λ key. tt

never_showmaker : (names : ShowMakerNames) → NeverLoads (showmaker names)
unfolding showmaker NeverLoads
never_showmaker names = λ maker. tt

never_hsskeygen : (names : HsskeygenNames) → NeverLoads (hsskeygen names)
unfolding hsskeygen NeverLoads
never_hsskeygen names = λ noise. tt

never_endorse : (names : EndorseNames) → NeverLoads (endorse names)
unfolding endorse endorse_root use_number NeverLoads
never_endorse names = λ maker root. (tt, tt)

never_endorsed : (names : EndorsedNames) → NeverLoads (endorsed names)
unfolding endorsed judge_endorsement NeverLoads
never_endorsed names = λ key root endorsement. (tt, tt)

never_judged : (judged : Judgement) → NeverLoads (tell_judgement judged)
unfolding NeverLoads
never_judged judgement.Allowed = tt
never_judged (judgement.Denied number rule) = tt

never_trusted : (items : List PolicyItem) (verdict : Verdict) → NeverLoads (judge_verdict items verdict)
unfolding NeverLoads
never_trusted items (chain_acceptance report) = λ judged. never_judged judged
never_trusted items (chain_rejection why) = tt

never_trust : (names : TrustNames) → NeverLoads (trust names)
unfolding trust NeverLoads
never_trust names = λ maker bytes items verdict. never_trusted items verdict

never_ended : (ending : AppEnd) → NeverLoads (tell_end ending)
unfolding NeverLoads
never_ended (app_end.Halted steps output) = tt
never_ended (app_end.Trap cause place output) = tt
never_ended (app_end.OutOfSteps output) = tt

never_stored : (names : AppNames) (state : Option State) (input : List ℕ) → NeverLoads (run_stored_code names state input)
unfolding NeverLoads
never_stored names None input = tt
never_stored names (Some state) input = (λ ending. never_ended ending, tt)

never_app : (names : AppNames) → NeverLoads (app names)
unfolding app NeverLoads
never_app names = λ image input. never_stored names image.state input

never_asm : (names : AsmNames) → NeverLoads (asm names)
unfolding asm NeverLoads
never_asm names = λ code. tt

never_disasm : (names : DisasmNames) → NeverLoads (disasm names)
unfolding disasm NeverLoads
never_disasm names = λ listed. tt

never_showcode : (names : ShowcodeNames) → NeverLoads (showcode names)
unfolding showcode NeverLoads
never_showcode names = λ listed. tt

never_kept : (name : List ℕ) (outcome : FleetOutcome) → NeverLoads (keep_register name outcome)
unfolding NeverLoads
never_kept name (all_served text after) = tt
never_kept name text_too_long = tt

never_fleet : (names : FleetNames) → NeverLoads (fleet names)
unfolding fleet NeverLoads
never_fleet names = λ maker rows listed outcome. never_kept names.register outcome

never_shown : (image : List ℕ) (state : Option State) → NeverLoads (show_device image state)
unfolding NeverLoads
never_shown image None = tt
never_shown image (Some state) = λ pending. tt

never_showimage : (names : ShowimageNames) → NeverLoads (showimage names)
unfolding showimage NeverLoads
never_showimage names = λ image. never_shown image.bytes image.state

never_history_told : (finding : Finding) → NeverLoads (tell_history finding)
unfolding NeverLoads
never_history_told (has_history chain signer) = tt
never_history_told (is_untold why) = tt

never_history : (names : HistoryNames) → NeverLoads (history names)
unfolding history NeverLoads
never_history names = λ maker bytes finding. never_history_told finding

never_register : (names : RegisterNames) → NeverLoads (register names)
unfolding register NeverLoads
never_register names = tt

never_answered : (name : List ℕ) (after : List Row) (answer : Answer) → NeverLoads (tell_answer name after answer)
unfolding NeverLoads
never_answered name after (answers.newly_added serial n) = tt
never_answered name after (answers.same serial n) = tt
never_answered name after (answers.extended serial n) = tt
never_answered name after (answers.chain_refused why) = tt
never_answered name after (answers.older serial have) = tt
never_answered name after (answers.forked serial place) = tt
never_answered name after answers.full = tt

never_enrol : (names : EnrolNames) → NeverLoads (enrol names)
unfolding enrol NeverLoads
never_enrol names = λ maker rows chain enrolment. never_answered names.register enrolment.after enrolment.answer

never_devices : (names : DevicesNames) → NeverLoads (devices names)
unfolding devices NeverLoads
never_devices names = λ rows. tt

never_appcode : (names : AppcodeNames) → NeverLoads (appcode names)
unfolding appcode NeverLoads
never_appcode names = λ code input ending. never_ended ending

never_output : (next : List ℕ) (told : OutputEnd) → NeverLoads (tell_output next told)
unfolding NeverLoads
never_output next (acts secrets answer) = tt
never_output next finds_it_full = tt
never_output next (asks_for_nothing offset) = tt

never_called : (next : List ℕ) (secrets : List Secret) (ending : AppEnd) → NeverLoads (tell_call next secrets ending)
unfolding NeverLoads
never_called next secrets (app_end.Halted steps output) = never_output next
never_called next secrets (app_end.Trap cause place output) = tt
never_called next secrets (app_end.OutOfSteps output) = tt

never_callcode : (names : CallcodeNames) → NeverLoads (callcode names)
unfolding callcode NeverLoads
never_callcode names = λ code secrets input ending. never_called names.next secrets ending

pub all_load_nothing : (e : Ended) → NothingIsLoaded e
all_load_nothing e command.Run given is ends = absurd (grind (arith, is))
all_load_nothing e command.Rehearse given is ends = absurd (grind (arith, is))
all_load_nothing e command.Showimage given is ends = nothing_is_loaded (showimage (showimage_given given)) at_first e (never_showimage (showimage_given given)) ends
all_load_nothing e command.History given is ends = nothing_is_loaded (history (history_given given)) at_first e (never_history (history_given given)) ends
all_load_nothing e command.Cutat given is ends = absurd (grind (arith, is))
all_load_nothing e command.Generate given is ends = absurd (grind (arith, is))
all_load_nothing e command.Verify given is ends = nothing_is_loaded (verify (verify_given given)) at_first e (never_verify (verify_given given)) ends
all_load_nothing e command.Audit given is ends = nothing_is_loaded (audit (audit_given given)) at_first e (never_audit (audit_given given)) ends
all_load_nothing e command.Trust given is ends = nothing_is_loaded (trust (trust_given given)) at_first e (never_trust (trust_given given)) ends
all_load_nothing e command.Chain given is ends = nothing_is_loaded (chain (chain_given given)) at_first e (never_chain (chain_given given)) ends
all_load_nothing e command.Attach given is ends = nothing_is_loaded (attach (attach_given given)) at_first e (never_attach (attach_given given)) ends
all_load_nothing e command.Fleet given is ends = nothing_is_loaded (fleet (fleet_given given)) at_first e (never_fleet (fleet_given given)) ends
all_load_nothing e command.Register given is ends = nothing_is_loaded (register (register_given given)) at_first e (never_register (register_given given)) ends
all_load_nothing e command.Enrol given is ends = nothing_is_loaded (enrol (enrol_given given)) at_first e (never_enrol (enrol_given given)) ends
all_load_nothing e command.Devices given is ends = nothing_is_loaded (devices (devices_given given)) at_first e (never_devices (devices_given given)) ends
all_load_nothing e command.Factory given is ends = nothing_is_loaded (factory (factory_given given)) at_first e (never_factory (factory_given given)) ends
all_load_nothing e command.Keygen given is ends = nothing_is_loaded (keygen (keygen_given given)) at_first e (never_keygen (keygen_given given)) ends
all_load_nothing e command.Sign given is ends = nothing_is_loaded (sign (sign_given given)) at_first e (never_sign (sign_given given)) ends
all_load_nothing e command.Countersign given is ends = nothing_is_loaded (countersign (countersign_given given)) at_first e (never_countersign (countersign_given given)) ends
all_load_nothing e command.Cosign given is ends = nothing_is_loaded (cosign (cosign_given given)) at_first e (never_cosign (cosign_given given)) ends
all_load_nothing e command.Showorder given is ends = nothing_is_loaded (showorder (showorder_given given)) at_first e (never_showorder (showorder_given given)) ends
all_load_nothing e command.Ordered given is ends = nothing_is_loaded (ordered (ordered_given given)) at_first e (never_ordered (ordered_given given)) ends
all_load_nothing e command.Showkey given is ends = nothing_is_loaded (showkey (showkey_given given)) at_first e (never_showkey (showkey_given given)) ends
all_load_nothing e command.Showmaker given is ends = nothing_is_loaded (showmaker (showmaker_given given)) at_first e (never_showmaker (showmaker_given given)) ends
all_load_nothing e command.Hsskeygen given is ends = nothing_is_loaded (hsskeygen (hsskeygen_given given)) at_first e (never_hsskeygen (hsskeygen_given given)) ends
all_load_nothing e command.Endorse given is ends = nothing_is_loaded (endorse (endorse_given given)) at_first e (never_endorse (endorse_given given)) ends
all_load_nothing e command.Endorsed given is ends = nothing_is_loaded (endorsed (endorsed_given given)) at_first e (never_endorsed (endorsed_given given)) ends
all_load_nothing e command.Migrate given is ends = nothing_is_loaded (migrate (migrate_given given)) at_first e (never_migrate (migrate_given given)) ends
all_load_nothing e command.App given is ends = nothing_is_loaded (app (app_given given)) at_first e (never_app (app_given given)) ends
all_load_nothing e command.Appcode given is ends = nothing_is_loaded (appcode (appcode_given given)) at_first e (never_appcode (appcode_given given)) ends
all_load_nothing e command.Callcode given is ends = nothing_is_loaded (callcode (callcode_given given)) at_first e (never_callcode (callcode_given given)) ends
all_load_nothing e command.Asm given is ends = nothing_is_loaded (asm (asm_given given)) at_first e (never_asm (asm_given given)) ends
all_load_nothing e command.Disasm given is ends = nothing_is_loaded (disasm (disasm_given given)) at_first e (never_disasm (disasm_given given)) ends
all_load_nothing e command.Showcode given is ends = nothing_is_loaded (showcode (showcode_given given)) at_first e (never_showcode (showcode_given given)) ends

-- ---- after the last load

-- a command that reads no input and loads no board
unfoldable GoesOn : Command → Type 0
GoesOn (read input rest) = ⊥
GoesOn (find {A = A} Is rest) = (value : A) → GoesOn (rest value)
GoesOn (either_command If first second) = GoesOn first × GoesOn second
GoesOn (load image rest) = ⊥
GoesOn (serve IsServed rest) = (answered : List Answered) (held : Held) → GoesOn (rest answered held)
GoesOn (rehearse IsRehearsed rest) = ⊥
GoesOn (write output rest) = GoesOn rest
GoesOn (print text) = Unit {0}
GoesOn (refuse line) = Unit {0}
GoesOn lack = Unit {0}

-- such a command has loaded as often as before, and is done, or an output failed, or memory was lacking, or it was
-- refused
GoneOn : Past → Ended → Type 0
GoneOn past e = (e.used.loads ≡ past.used.loads) × ((e.status ≡ 0) ⊎ (5 ≤ e.status))

loads_as : (past : Past) (e : Ended) → e.used ≡ past.used → e.used.loads ≡ past.used.loads
loads_as past e same = ap (λ (u : Used). u.loads) same

wanted : (past : Past) (e : Ended) → WantsMemory past e → GoneOn past e
unfolding GoneOn
wanted past e wants = (loads_as past e wants.stops.used, inr (omega (arith, wants.stops.status_is)))

gone_on : (command : Command) (past : Past) (e : Ended) → GoesOn command → CommandEnds command past e → GoneOn past e
unfolding GoesOn CommandEnds GoneOn
gone_on (read input rest) past e goes ends = absurd goes
gone_on (find Is rest) past e goes (inl it) = gone_on (rest it.0) past e (goes it.0) it.2
gone_on (find Is rest) past e goes (inr wants) = wanted past e wants
gone_on (either_command If first second) past e goes (inl it) = gone_on first past e goes.0 it.1
gone_on (either_command If first second) past e goes (inr (inl it)) = gone_on second past e goes.1 it.1
gone_on (either_command If first second) past e goes (inr (inr wants)) = wanted past e wants
gone_on (load image rest) past e goes ends = absurd goes
gone_on (serve IsServed rest) past e goes it =
    let later = gone_on (rest e.used.answered e.final) (record past { used = e.used }) e (goes e.used.answered e.final) it.2 in
    (ap (λ (u : Used). u.loads) it.0, later.1)
gone_on (rehearse IsRehearsed rest) past e goes ends = absurd goes
gone_on (write output rest) past e goes (inl ends) = (loads_as past e ends.stops.used, inr (omega (arith, ends.stops.status_is)))
gone_on (write output rest) past e goes (inr (inl it)) = gone_on rest (record past { wrote = true }) (end_seen_from it.0 e) goes it.2
gone_on (write output rest) past e goes (inr (inr wants)) = wanted past e wants
gone_on (print text) past e goes (inl (text_is_printed prints same is)) = (loads_as past e same, inl is)
gone_on (print text) past e goes (inl (text_is_not_printed mid fails stops)) = (loads_as past e stops.used, inr (omega (arith, stops.status_is)))
gone_on (print text) past e goes (inr wants) = wanted past e wants
gone_on (refuse line) past e goes (inl stops) = (loads_as past e stops.used, inr (omega (arith, stops.status_is)))
gone_on (refuse line) past e goes (inr wants) = wanted past e wants
gone_on lack past e goes stops = (loads_as past e stops.used, inr (omega (arith, stops.status_is)))

input_status : {A : Type 0} (input : Input A) (past : Past) (e : Ended) → InputEnds input past e → 3 ≤ e.status
input_status input past e (input_is_too_long held stops) = omega (arith, stops.status_is)
input_status input past e (input_is_faulty bytes has place fault stops) = omega (arith, stops.status_is)
input_status input past e (input_is_not_read mid fails stops) = omega (arith, stops.status_is)
input_status input past e (memory_lacks wants) = omega (arith, wants.stops.status_is)

input_ended : {A : Type 0} {Often : Type 0} (input : Input A) (e : Ended) → InputEnds input at_first e → EndsAfterLoads Often e
input_ended input e ends = inl (input_used input at_first e ends, input_status input at_first e ends)

lacked : {Often : Type 0} (e : Ended) → WantsMemory at_first e → EndsAfterLoads Often e
lacked e wants = inl (wants.stops.used, omega (arith, wants.stops.status_is))

-- a load, and what comes after the last
loaded_ended : (image : List ℕ) (rest : Command) (e : Ended) → GoesOn rest → CommandEnds (load image rest) at_first e → EndsAfterLoads (e.used.loads ≡ 1) e
unfolding CommandEnds GoneOn
loaded_ended image rest e goes (inl it) = inr (gone_on rest (record { used = loaded_once_more image not_used; wrote = false }) e goes it)
loaded_ended image rest e goes (inr wants) = lacked e wants

-- an input, and what comes after it
read_ended : {A : Type 0} (Often : Used → ℕ → Type 0) (input : Input A) (rest : A → Command) (e : Ended)
    → ((value : A) (e : Ended) → CommandEnds (rest value) at_first e → EndsAfterLoads (Often e.used e.status) e)
    → CommandEnds (read input rest) at_first e → EndsAfterLoads (Often e.used e.status) e
unfolding CommandEnds
read_ended Often input rest e later (inl ends) = input_ended input e ends
read_ended Often input rest e later (inr it) = later it.2.0 (end_seen_from (read_once e.before) e) it.2.2

-- ---- `run`

abbrev OnceLoaded : Used → ℕ → Type 0
OnceLoaded used status = used.loads ≡ 1

run_loads : (names : RunNames) (e : Ended) → CommandEnds (run names) at_first e → EndsAfterLoads (e.used.loads ≡ 1) e
unfolding run GoesOn
run_loads names e ends =
    read_ended OnceLoaded _ _ e (λ image e. read_ended OnceLoaded _ _ e (λ undrawn e. read_ended OnceLoaded _ _ e (λ events e. loaded_ended image.bytes _ e (λ answered held. tt)))) ends

-- ---- `rehearse`

rehearse_loads : (names : RunNames) (e : Ended) → CommandEnds (rehearsal names) at_first e → EndsAfterLoads (e.used.loads ≡ 1) e
unfolding rehearsal GoesOn
rehearse_loads names e ends =
    read_ended OnceLoaded _ _ e (λ image e. read_ended OnceLoaded _ _ e (λ script e. read_ended OnceLoaded _ _ e (λ events e. loaded_ended image.bytes _ e (λ answered held. (tt, λ first. tt))))) ends

-- ---- `generate`

-- what comes after the load
write_workload : GenerateNames → Prepared → Command
write_workload names made =
    write (record { role = role.Image; name = names.image; bytes = made.files.image })
    (write (record { role = role.Script; name = names.script; bytes = made.files.script })
    (write (record { role = role.Noise; name = names.noise; bytes = made.files.noise })
    (serve (IsServed (prepared_image made) made.events) summarise)))

summary_goes_on : (names : GenerateNames) (made : Prepared) → GoesOn (write_workload names made)
unfolding GoesOn write_workload
summary_goes_on names made = λ answered held. (tt, λ entries. tt)

generate_loads : (names : GenerateNames) (e : Ended) → CommandEnds (generate names) at_first e → EndsAfterLoads (e.used.loads ≡ 1) e
unfolding generate CommandEnds write_workload
generate_loads names e (inl it) = loaded_ended it.0.files.image (write_workload names it.0) e (summary_goes_on names it.0) it.2
generate_loads names e (inr wants) = lacked e wants

pub all_load_once : (e : Ended) → LoadsOnce e
all_load_once e = record {
  run = λ given ends. run_loads (run_given given) e ends;
  rehearse = λ given ends. rehearse_loads (run_given given) e ends;
  generate = λ given ends. generate_loads (generate_given given) e ends;
}

-- ---- `cutat`

abbrev TwiceLoaded : Used → ℕ → Type 0
TwiceLoaded used status = ((used.loads ≡ 1) × (status ≡ 6)) ⊎ (used.loads ≡ 2)

abbrev CutEnds : Ended → Type 0
CutEnds e = EndsAfterLoads (TwiceLoaded e.used e.status) e

-- what comes after the first run
abbrev serve_cut : CutNames → Image → CutRun → List Answered → Held → Command
serve_cut names image cut answered held =
    either_command (AnyLacksMemory answered) lack (load image.bytes (serve (IsCutServed image names.count cut) (tell_cut held)))

-- what comes after the runs were found
abbrev serve_first : CutNames → Image → CutRun → Command
serve_first names image cut = load image.bytes (rehearse (IsRehearsed image cut) (serve_cut names image cut))

cut_goes_on : (names : CutNames) (image : Image) (cut : CutRun) (held : Held) → GoesOn (serve (IsCutServed image names.count cut) (tell_cut held))
unfolding GoesOn
cut_goes_on names image cut held = λ answered final. (tt, ((tt, tt), tt))

second_ended : (names : CutNames) (image : Image) (cut : CutRun) (answered : List Answered) (held : Held) (past : Past) (e : Ended) → past.used.loads ≡ 1
    → CommandEnds (serve_cut names image cut answered held) past e → CutEnds e
unfolding CommandEnds GoneOn
second_ended names image cut answered held past e one (inl it) = inr (inl (loads_as past e it.1.used ∙ one, it.1.status_is), inr (omega (arith, it.1.status_is)))
second_ended names image cut answered held past e one (inr (inl (lacks, inl it))) =
    let twice = gone_on (serve (IsCutServed image names.count cut) (tell_cut held)) (record past { used = loaded_once_more image.bytes past.used }) e (cut_goes_on names image cut held) it in
    inr (inr (twice.0 ∙ ap counted_load one), twice.1)
second_ended names image cut answered held past e one (inr (inl (lacks, inr wants))) =
    inr (inl (loads_as past e wants.stops.used ∙ one, wants.stops.status_is), inr (omega (arith, wants.stops.status_is)))
second_ended names image cut answered held past e one (inr (inr wants)) =
    inr (inl (loads_as past e wants.stops.used ∙ one, wants.stops.status_is), inr (omega (arith, wants.stops.status_is)))

first_ended : (names : CutNames) (image : Image) (cut : CutRun) (e : Ended) → CommandEnds (serve_first names image cut) at_first e → CutEnds e
unfolding CommandEnds
first_ended names image cut e (inl it) =
    second_ended names image cut it.0 it.1 (record { used = having_answered it.0 (loaded_once_more image.bytes not_used); wrote = false }) e refl it.3
first_ended names image cut e (inr wants) = lacked e wants

cut_found : (names : CutNames) (image : Image) (events : List Event) (e : Ended) → CommandEnds (find (IsCutRun names.fill events) (serve_first names image)) at_first e → CutEnds e
unfolding CommandEnds
cut_found names image events e (inl it) = first_ended names image it.0 e it.2
cut_found names image events e (inr wants) = lacked e wants

cut_loads : (names : CutNames) (e : Ended) → CommandEnds (cutat names) at_first e → CutEnds e
unfolding cutat
cut_loads names e ends =
    read_ended TwiceLoaded _ _ e (λ image e. read_ended TwiceLoaded _ _ e (λ undrawn e. read_ended TwiceLoaded _ _ e (λ events e. cut_found names image events e))) ends

pub all_load_twice : (e : Ended) → LoadsTwice e
all_load_twice e = record { cutat = λ given ends. cut_loads (cut_given given) e ends }
