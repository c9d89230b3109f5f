-- Two ends of a command that serves no device are alike: the commands above the model.
use Rattle.std.proofs.Common.{◌≡◌, ℕ, ◌==◌, if◌then◌else◌, Bool, true, false, List, Option, None, Some, refl, sym, ◌∙◌, ap, subst}
use Rattle.std.specs.List.{AllByRecursion}
use Rattle.std.proofs.lemmas.Option.{same_Some}
use Rattle.mb_format.specs.Format.{IsBytes}
use Rattle.mb_format.proofs.Whole.{IsClearWhole-from_exact}
use Rattle.mb_model.specs.declared.key.PublicKey.{PublicKey}
use Rattle.mb_model.specs.declared.state.State.{State}
use Rattle.mb_model.specs.chains.Acceptance.{Verdict, chain_acceptance, chain_rejection}
use Rattle.mb_model.specs.memories.Meaning.{IsWellFormed}
use Rattle.mb_model_commands.specs.declared.role.Place.TheVariants as fault
use Rattle.mb_model_commands.specs.Inputs.{fault_place}
use Rattle.mb_model_commands.specs.MigrateCommand.{MigrateNames, old_image_input, migrate}
use Rattle.mb_model_lemmas.proofs.FaultLemmas.{one_fault}
use Rattle.mb_migrate.proofs.Migrations.{migrates_to_one, migrates_or_cannot}
use Rattle.mb_hss.specs.declared.maker.Maker.{Maker}
use Rattle.mb_hss.specs.ExactFormats.{hss_key_exact, maker_exact}
use Rattle.mb_tools_hss.specs.MakerInputs.{maker_input, hss_key_input}
use Rattle.mb_tools_hss.specs.HssKeygen.{HsskeygenNames, hsskeygen}
use Rattle.mb_tools_hss.specs.Endorse.{EndorseNames, endorse, endorse_root, use_number}
use Rattle.mb_tools_hss.specs.Endorsed.{EndorsedNames, endorsed, judge_endorsement}
use Rattle.mb_policy.specs.declared.judging.Judgement.{Judgement}
use Rattle.mb_policy.specs.declared.judging.Judgement.TheVariants as judgement
use Rattle.mb_policy.specs.Policies.{PolicyItem}
use Rattle.mb_policy.proofs.Clearness.{policies_clear, judgements_clear}
use Rattle.mb_tools_policy.specs.Inputs.{policy_input}
use Rattle.mb_tools_policy.specs.TrustCommand.{TrustNames, trust, tell_judgement, judge_verdict}
use Rattle.mb_model.specs.declared.running.AppEnd.{AppEnd}
use Rattle.mb_model.specs.declared.running.AppEnd.TheVariants as app_end
use Rattle.mb_model.specs.application.Runs.{readable_secrets, AppRun}
use Rattle.mb_model_lemmas.proofs.Determined.{runs_end_once}
use Rattle.mb_model_lemmas.proofs.OneCallLemmas.{action_exact}
use Rattle.mb_model_lemmas.proofs.OutputLemmas.{outputs_are_bytes}
use Rattle.mb_model.specs.declared.region.Secret.{Secret}
use Rattle.mb_model.specs.machine.Actions.{Action}
use Rattle.mb_model.specs.machine.Calls.{after_demands}
use Rattle.mb_appvm.proofs.SecretReading.{AreSecrets-same}
use Rattle.mb_tools_app.specs.AppCommand.{AppNames, RunsStoredCode, app, run_stored_code, tell_end}
use Rattle.mb_tools_app.specs.AppcodeCommand.{AppcodeNames, no_secrets, appcode}
use Rattle.mb_tools_app.specs.CallcodeCommand.{CallcodeNames, OutputEnd, OutputComesTo, acts, finds_it_full, asks_for_nothing, acted, state_with, by_action, by_offset, secrets_three, callcode, tell_call, tell_output}
use Rattle.mb_tools_app.specs.AssemblyCommands.{AsmNames, DisasmNames, asm, disasm}
use Rattle.mb_tools_app.specs.ShowcodeCommand.{ShowcodeNames, showcode}
use Rattle.mb_fleet.specs.declared.row.Row.{Row}
use Rattle.mb_fleet.specs.declared.item.Item.{Item}
use Rattle.mb_fleet.specs.Rows.{AreOrdered}
use Rattle.mb_fleet.specs.Showing as answers
use Rattle.mb_fleet.specs.Showing.{Answer}
use Rattle.mb_fleet.proofs.Determined.{chains_have_one_answer}
use Rattle.mb_tools_fleet.specs.EnrolCommand.{EnrolNames, Enrolment, ComesToEnrolment, tell_answer, tell_enrolment, enrol}
use Rattle.mb_tools_fleet.specs.RegisterCommands.{RegisterNames, DevicesNames, register, devices}
use Rattle.mb_tools_fleet.specs.FleetCommand.{FleetNames, FleetOutcome, all_served, text_too_long, ServingComesTo, keep_register, fleet}
use Rattle.mb_tools_shown.specs.HistoryCommand.{HistoryNames, Finding, has_history, is_untold, history, tell_history}
use Rattle.mb_tools_shown.specs.ShowimageCommand.{ShowimageNames, showimage, show_device}
use Rattle.mb_tools_shown.proofs.StateLemmas.{one_work}
use Rattle.mb_top_laws.proofs.HistoryOnce.{one_finding}
use Rattle.mb_top_laws.proofs.AlikeSteps.{IsReadOnce, Alike, alike_read, alike_find, alike_found, alike_either, alike_write, alike_print, alike_refuse, lack_never}
use Rattle.mb_top_laws.proofs.InputsOnce.{binary_once, leading_once, text_once, bounded_once, whole_once, root_once, image_once}
use Rattle.mb_top_laws.proofs.AlikeCommands.{one_verdict, whole_bytes}
use Rattle.mb_top_laws.proofs.ListingOnce.{listing_once, assembly_once}
use Rattle.mb_top_laws.proofs.FleetOnce.{IsOfBytes, items_bytes, served_same, register_once, register_ordered, items_once}

-- ---- `migrate`

old_image_once : (name : List ℕ) → IsReadOnce (old_image_input name)
old_image_once name = record {
  one_value = λ bytes a b are is also. migrates_to_one bytes a b are is.0 also.0;
  one_place = λ bytes p q are is also. is.1 ∙ ap fault_place (one_fault bytes is.0 also.0 are is.2.told also.2.told) ∙ sym also.1;
  never_both = λ bytes value place are is wrong. migrates_or_cannot bytes value wrong.0 are is.0 wrong.2;
}

pub migrate_alike : (names : MigrateNames) → Alike (migrate names) (migrate names)
unfolding migrate
migrate_alike names = alike_read _ _ (old_image_once _) (λ bytes image are is. alike_write _ _ (alike_print _))

-- ---- a maker's HSS key

pub maker_once : (name : List ℕ) → IsReadOnce (maker_input name)
maker_once name = binary_once _ _ name (IsClearWhole-from_exact maker_exact)

hss_key_once : (name : List ℕ) → IsReadOnce (hss_key_input name)
hss_key_once name = binary_once _ _ name (IsClearWhole-from_exact hss_key_exact)

pub hsskeygen_alike : (names : HsskeygenNames) → Alike (hsskeygen names) (hsskeygen names)
unfolding hsskeygen
hsskeygen_alike names = alike_read _ _ (leading_once _ _ _) (λ bytes noise are is. alike_write _ _ (alike_write _ _ (alike_print _)))

use_number_alike : (names : EndorseNames) (maker : Maker) (root : PublicKey) → Alike (use_number names maker root) (use_number names maker root)
unfolding use_number
use_number_alike names maker root = alike_write _ _ (alike_write _ _ (alike_print _))

pub endorse_alike : (names : EndorseNames) → Alike (endorse names) (endorse names)
unfolding endorse endorse_root
endorse_alike names = alike_read _ _ (maker_once _) (λ bytes maker are is. alike_read _ _ (root_once _) (λ text root are is.
    alike_either _ _ _ (λ spent. alike_refuse _) (λ left. use_number_alike names maker root)))

pub endorsed_alike : (names : EndorsedNames) → Alike (endorsed names) (endorsed names)
unfolding endorsed judge_endorsement
endorsed_alike names = alike_read _ _ (hss_key_once _) (λ bytes key are is. alike_read _ _ (root_once _) (λ text root are is.
    alike_read _ _ (whole_once _ _) (λ signed endorsement are is. alike_either _ _ _ (λ verifies. alike_print _) (λ not. alike_refuse _))))

-- ---- `trust`

policy_once : (name : List ℕ) → IsReadOnce (policy_input name)
policy_once name = record {
  one_value = λ bytes a b are is also. policies_clear.one_policy bytes a b is also;
  one_place = λ bytes p q are is also. is.1 ∙ ap (λ (n : ℕ). fault.Line n) (policies_clear.one_line bytes is.0 also.0 is.2 also.2) ∙ sym also.1;
  never_both = λ bytes value place are is wrong. policies_clear.never_both bytes value wrong.0 is wrong.2;
}

judgement_alike : (judged : Judgement) → Alike (tell_judgement judged) (tell_judgement judged)
judgement_alike judgement.Allowed = alike_print _
judgement_alike (judgement.Denied number rule) = alike_refuse _

judged_alike : (listed : List PolicyItem) (verdict : Verdict) → Alike (judge_verdict listed verdict) (judge_verdict listed verdict)
judged_alike listed (chain_acceptance report) = alike_found _ _ (λ a b is also. judgements_clear.one_judgement listed report a b is also) (λ judged is. judgement_alike judged)
judged_alike listed (chain_rejection why) = alike_refuse _

pub trust_alike : (names : TrustNames) → Alike (trust names) (trust names)
unfolding trust
trust_alike names = alike_read _ _ (root_once _) (λ bytes maker are is. alike_read _ _ (whole_once _ _) (λ text chain given held.
    alike_read _ _ (policy_once _) (λ lines listed are is.
    alike_found _ _ (λ a b one other. one_verdict maker chain names.key a b (whole_bytes text chain given held) one other) (λ verdict told. judged_alike listed verdict))))

-- ---- the code of applications

ending_alike : (ending : AppEnd) → Alike (tell_end ending) (tell_end ending)
ending_alike (app_end.Halted steps output) = alike_print _
ending_alike (app_end.Trap cause place output) = alike_refuse _
ending_alike (app_end.OutOfSteps output) = alike_refuse _

one_ending : (state : State) (layer : ℕ) (input : List ℕ) (steps : ℕ) (a b : AppEnd) → RunsStoredCode state layer input steps a → RunsStoredCode state layer input steps b
    → a ≡ b
one_ending state layer input steps a b one other =
    let same : other.code ≡ one.code = same_Some other.code one.code (sym other.stored ∙ one.stored) in
    let run = subst (λ (c : List ℕ). AppRun c input (readable_secrets state.layers layer state.two state.three) steps b) same other.run in
    runs_end_once one.code input (readable_secrets state.layers layer state.two state.three) steps a b one.run run

stored_alike : (names : AppNames) (state : Option State) (input : List ℕ) → Alike (run_stored_code names state input) (run_stored_code names state input)
stored_alike names None input = alike_refuse _
stored_alike names (Some state) input = alike_either _ _ _
    (λ runs. alike_found _ _ (λ a b is also. one_ending state names.layer input names.steps a b is also) (λ ending is. ending_alike ending))
    (λ not. alike_refuse _)

pub app_alike : (names : AppNames) → Alike (app names) (app names)
unfolding app
app_alike names = alike_read _ _ (image_once _) (λ bytes image are is. alike_read _ _ (whole_once _ _) (λ text input given held. stored_alike names image.state input))

pub appcode_alike : (names : AppcodeNames) → Alike (appcode names) (appcode names)
unfolding appcode
appcode_alike names = alike_read _ _ (bounded_once _ _ _) (λ bytes code are is. alike_read _ _ (whole_once _ _) (λ text input given held.
    alike_found _ _ (λ a b one other. runs_end_once code input no_secrets names.steps a b one other) (λ ending run. ending_alike ending)))

-- an output comes to one thing
outputs_once : (secrets : List Secret) (output : List ℕ) (a b : OutputEnd) → IsBytes output → OutputComesTo secrets output a → OutputComesTo secrets output b → a ≡ b
outputs_once secrets output a b are (by_action x spelled_x is_x) (by_action y spelled_y is_y) =
    let same = (IsClearWhole-from_exact action_exact).one_value output x y are spelled_x spelled_y in
    is_x ∙ ap (λ (action : Action). acted (after_demands 3 action.demands (state_with secrets)) action.answer) same ∙ sym is_y
outputs_once secrets output a b are (by_action x spelled is_x) (by_offset offset fails is_b) =
    absurd ((IsClearWhole-from_exact action_exact).never_both output x offset are spelled fails)
outputs_once secrets output a b are (by_offset offset fails is_a) (by_action y spelled is_y) =
    absurd ((IsClearWhole-from_exact action_exact).never_both output y offset are spelled fails)
outputs_once secrets output a b are (by_offset p fails_p is_a) (by_offset q fails_q is_b) =
    is_a ∙ ap asks_for_nothing ((IsClearWhole-from_exact action_exact).one_offset output p q are fails_p fails_q) ∙ sym is_b

output_alike : (next : List ℕ) (told : OutputEnd) → Alike (tell_output next told) (tell_output next told)
output_alike next (acts secrets answer) = alike_write _ _ (alike_print _)
output_alike next finds_it_full = alike_refuse _
output_alike next (asks_for_nothing offset) = alike_refuse _

called_alike : (next code input : List ℕ) (secrets : List Secret) (ending : AppEnd) → AppRun code input (secrets_three secrets) 1000000 ending
    → Alike (tell_call next secrets ending) (tell_call next secrets ending)
called_alike next code input secrets (app_end.Halted steps output) run =
    alike_found _ _ (λ a b is also. outputs_once secrets output a b (outputs_are_bytes code input (secrets_three secrets) 1000000 steps output run) is also) (λ told is. output_alike next told)
called_alike next code input secrets (app_end.Trap cause place output) run = alike_refuse _
called_alike next code input secrets (app_end.OutOfSteps output) run = alike_refuse _

pub callcode_alike : (names : CallcodeNames) → Alike (callcode names) (callcode names)
unfolding callcode
callcode_alike names = alike_read _ _ (bounded_once _ _ _) (λ bytes code are is. alike_read _ _ (text_once _ _ _ AreSecrets-same) (λ text secrets given said.
    alike_read _ _ (whole_once _ _) (λ raw input held whole.
    alike_found _ _ (λ a b one other. runs_end_once code input (secrets_three secrets) 1000000 a b one other) (λ ending run. called_alike names.next code input secrets ending run))))

pub asm_alike : (names : AsmNames) → Alike (asm names) (asm names)
unfolding asm
asm_alike names = alike_read _ _ (assembly_once _) (λ bytes code are is. alike_write _ _ (alike_print _))

pub disasm_alike : (names : DisasmNames) → Alike (disasm names) (disasm names)
unfolding disasm
disasm_alike names = alike_read _ _ (listing_once _) (λ bytes listed are is. alike_write _ _ (alike_print _))

pub showcode_alike : (names : ShowcodeNames) → Alike (showcode names) (showcode names)
unfolding showcode
showcode_alike names = alike_read _ _ (listing_once _) (λ bytes listed are is. alike_print _)

-- ---- `fleet`

kept_alike : (name : List ℕ) (maker : PublicKey) (rows : List Row) (listed : List Item) (a b : FleetOutcome) → AreOrdered rows → AllByRecursion IsOfBytes listed
    → ServingComesTo maker rows listed a → ServingComesTo maker rows listed b → Alike (keep_register name a) (keep_register name b)
kept_alike name maker rows listed (all_served text after) (all_served line later) ordered are is also =
    let same = served_same maker rows after later listed text line ordered are is also in
    subst (λ (t : List ℕ). Alike (keep_register name (all_served text after)) (keep_register name (all_served t later))) same.0
    (subst (λ (r : List Row). Alike (keep_register name (all_served text after)) (keep_register name (all_served text r))) same.1 (alike_write _ _ (alike_print _)))
kept_alike name maker rows listed (all_served text after) text_too_long ordered are is also = λ past files printed e f goes lacks. absurd (lack_never past files printed f lacks)
kept_alike name maker rows listed text_too_long b ordered are is also = λ past files printed e f lacks goes. absurd (lack_never past files printed e lacks)

pub fleet_alike : (names : FleetNames) → Alike (fleet names) (fleet names)
unfolding fleet
fleet_alike names = alike_read _ _ (root_once _) (λ bytes maker are is. alike_read _ _ (register_once _) (λ held rows given in_form.
    alike_read _ _ (items_once _) (λ asked listed read spelled.
    alike_find _ _ (λ a b one other. kept_alike names.register maker rows listed a b (register_ordered held rows names.register in_form) (items_bytes asked listed read spelled) one other))))

-- ---- images and chains shown

device_alike : (image : List ℕ) (state : Option State) → IsBytes image → Alike (show_device image state) (show_device image state)
device_alike image None are = alike_refuse _
device_alike image (Some state) are = alike_found _ _ (λ a b is also. one_work image a b are is also) (λ pending is. alike_print _)

pub showimage_alike : (names : ShowimageNames) → Alike (showimage names) (showimage names)
unfolding showimage
showimage_alike names = alike_read _ _ (image_once _) (λ bytes image are is. device_alike image.bytes image.state (whole_bytes bytes image.bytes are is.0))

finding_alike : (finding : Finding) → Alike (tell_history finding) (tell_history finding)
finding_alike (has_history chain signer) = alike_print _
finding_alike (is_untold why) = alike_refuse _

pub history_alike : (names : HistoryNames) → Alike (history names) (history names)
unfolding history
history_alike names = alike_read _ _ (root_once _) (λ bytes maker are is. alike_read _ _ (whole_once _ _) (λ text chain given held.
    alike_found _ _ (λ a b one other. one_finding maker chain a b (whole_bytes text chain given held) one other) (λ finding told. finding_alike finding)))

-- ---- `register`, `enrol` and `devices`

pub register_alike : (names : RegisterNames) → Alike (register names) (register names)
unfolding register
register_alike names = alike_write _ _ (alike_print _)

answer_alike : (name : List ℕ) (after : List Row) (answer : Answer) → Alike (tell_answer name after answer) (tell_answer name after answer)
answer_alike name after (answers.newly_added serial n) = alike_write _ _ (alike_print _)
answer_alike name after (answers.same serial n) = alike_print _
answer_alike name after (answers.extended serial n) = alike_write _ _ (alike_print _)
answer_alike name after (answers.chain_refused why) = alike_refuse _
answer_alike name after (answers.older serial have) = alike_refuse _
answer_alike name after (answers.forked serial place) = alike_refuse _
answer_alike name after answers.full = alike_refuse _

enrolments_alike : (name : List ℕ) (maker : PublicKey) (rows : List Row) (chain : List ℕ) (a b : Enrolment) → IsBytes chain → AreOrdered rows → ComesToEnrolment maker rows chain a
    → ComesToEnrolment maker rows chain b → Alike (tell_enrolment name a) (tell_enrolment name b)
enrolments_alike name maker rows chain a b are ordered one other =
    let same = chains_have_one_answer maker rows chain a.answer b.answer a.after b.after are ordered one other in
    subst (λ (answer : Answer). Alike (tell_answer name a.after a.answer) (tell_answer name b.after answer)) same.0
    (subst (λ (after : List Row). Alike (tell_answer name a.after a.answer) (tell_answer name after a.answer)) same.1 (answer_alike name a.after a.answer))

pub enrol_alike : (names : EnrolNames) → Alike (enrol names) (enrol names)
unfolding enrol
enrol_alike names = alike_read _ _ (root_once _) (λ bytes maker are is. alike_read _ _ (register_once _) (λ held rows given in_form.
    alike_read _ _ (whole_once _ _) (λ text chain read whole.
    alike_find _ _ (λ a b one other. enrolments_alike names.register maker rows chain a b (whole_bytes text chain read whole) (register_ordered held rows names.register in_form) one other))))

pub devices_alike : (names : DevicesNames) → Alike (devices names) (devices names)
unfolding devices
devices_alike names = alike_read _ _ (register_once _) (λ held rows given in_form. alike_print _)
