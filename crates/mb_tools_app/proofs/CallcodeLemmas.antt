-- What carries out `callcode`.
use Rattle.std.proofs.Common.{◌≡◌, ℕ, zero, suc, ◌+◌, ◌<◌, ◌≤◌, ◌==◌, length, take, get_or, map, List, [], ◌∷◌, ◌++◌, codes, Bool, true, false, Option, Some, None, Result, Ok, Err, inl, inr, refl, sym, ◌∙◌, ap, subst, arith, if◌then◌else◌}
use Rattle.std.specs.Prelude.{All, filter}
use Rattle.std.specs.List.{AllZip}
use Rattle.std.specs.Fmt.{decimal}
use Rattle.std.proofs.lemmas.List.{take_more, take_all}
use Rattle.std.proofs.lemmas.List.Elements.{All-nil, All-cons}
use mathlib.Core.Path.{fun_ext}
use Rattle.mb_format.specs.Format.{Spells, FailsWhole}
use Rattle.mb_model.specs.declared.region.RegionKey.{RegionKey}
use Rattle.mb_model.specs.declared.region.Secret.{Secret}
use Rattle.mb_model.specs.declared.running.AppEnd.{AppEnd}
use Rattle.mb_model.specs.declared.running.AppEnd.TheVariants as app
use Rattle.mb_model.specs.records.RootFormat.{region_key_format}
use Rattle.mb_model.specs.records.RegionFormat.{secret_format}
use Rattle.mb_model.specs.machine.Actions.{Demand, Action, action_format}
use Rattle.mb_model.specs.declared.state.State.{State}
use Rattle.mb_model.specs.owners.Log.{number_of}
use Rattle.mb_model.specs.machine.Calls.{after_demands}
use Rattle.mb_model.specs.outside.Board.{not_used}
use Rattle.mb_model.specs.outside.Texts.{line_with_lf}
use Rattle.mb_model.specs.chains.Lines.{spaced_words, hex_word}
use Rattle.mb_model_commands.specs.declared.role.Role.TheVariants as role
use Rattle.mb_model_commands.specs.Outside.{Outside}
use Rattle.mb_model_commands.specs.Commands.{Output, write, print, find, at_first}
use Rattle.mb_console.specs.declared.end.End.{End}
use Rattle.mb_console.specs.declared.end.End.TheVariants as end
use Rattle.mb_console.specs.Ending.{CarriesOut, CarriesOutAfter, RefusesWith}
use Rattle.mb_console.specs.Outputs.{writes}
use Rattle.mb_console.proofs.CommandLemmas.{finds, refuse_here, memory_here}
use Rattle.mb_appvm.specs.Acting.{secrets_among, end_with}
use Rattle.mb_appvm.specs.declared.running.CodeEnd.{CodeEnd}
use Rattle.mb_appvm.specs.declared.running.CodeEnd.TheVariants as code_end
use Rattle.mb_appvm.specs.SecretTexts.{SaysKeptSecret, is_said, AreSecrets, secrets_text}
use Rattle.mb_device_regions.specs.Secrets.{secret_of, IsSecretOf}
use Rattle.mb_device_regions.specs.declared.listed.Shown.{Shown}
use Rattle.mb_device_regions.specs.Demands.{shown_secret, shown_secrets, AreKept, MeetsDemands, secrets_after_all}
use Rattle.mb_device_regions.proofs.Outcomes.{secret_is}
use Rattle.mb_device_regions.proofs.Demanded.{met_state, demands_met}
use Rattle.mb_tools_app.specs.CallcodeCommand.{secrets_three, HasShortOutput, state_with, OutputEnd, acts, finds_it_full, asks_for_nothing, acted, OutputComesTo, by_action, by_offset, tell_output, tell_call}
use Rattle.mb_tools_app.specs.AppCommand.{tell_end}

-- ---- secrets that were read

said_allowed : (line : List ℕ) (s : Secret) → SaysKeptSecret line s → secret_format.Allowed s
said_allowed line s says =
    let is : IsSecretOf s.name s.value 0 (secret_of s.name s.value 0) =
    secret_is {name = s.name} {read_name = s.name} {value = s.value} {read_value = s.value} {from_name = s.name} {from_value = s.value} 0 says.named says.short (omega arith) refl refl refl refl in
    subst (λ (born : ℕ). secret_format.Allowed (secret_of s.name s.value born)) (sym says.born) is.allowed

all_allowed : (lines : List (List ℕ)) (secrets : List Secret) → AllZip SaysKeptSecret lines secrets → All secret_format.Allowed secrets
all_allowed [] [] said = All-nil secret_format.Allowed
all_allowed [] (s ∷ secrets) said = absurd said
all_allowed (line ∷ lines) [] said = absurd said
all_allowed (line ∷ lines) (s ∷ secrets) said = All-cons secret_format.Allowed s secrets (said_allowed line s said.0) (all_allowed lines secrets said.1)

pub read_are_kept : (lines : List (List ℕ)) (secrets : List Secret) → AreSecrets lines secrets → AreKept secrets
read_are_kept lines secrets are = record {
  storable = record {
    secrets = all_allowed (filter is_said lines) secrets are.said;
    few_secrets = are.most;
    keys = All-nil region_key_format.Allowed;
    few_keys = omega arith;
  };
  names = are.once;
}

-- ---- the output

after_is : (secrets : List Secret) (demands : List Demand) → after_demands 3 demands (state_with secrets) ≡ met_state (state_with secrets) 3 (secrets_after_all 0 demands secrets)
unfolding number_of
after_is secrets demands = demands_met 3 demands (inr refl) (state_with secrets)

told_by : (secrets : List Secret) (action : Action) (met : Option (List Secret)) → secrets_after_all 0 action.demands secrets ≡ met
    → acted (met_state (state_with secrets) 3 met) action.answer ≡ acted (after_demands 3 action.demands (state_with secrets)) action.answer
told_by secrets action met is = ap (λ (s : Option State). acted s action.answer) (ap (met_state (state_with secrets) 3) (sym is) ∙ sym (after_is secrets action.demands))

pub done_comes : (secrets after : List Secret) (output : List ℕ) (action : Action) → Spells action_format output action → MeetsDemands 0 action.demands secrets true after
    → OutputComesTo secrets output (acts after action.answer)
done_comes secrets after output action spelled met = by_action action spelled (told_by secrets action (Some after) met.0)

pub full_comes : (secrets after : List Secret) (output : List ℕ) (action : Action) → Spells action_format output action → MeetsDemands 0 action.demands secrets false after
    → OutputComesTo secrets output finds_it_full
full_comes secrets after output action spelled met = by_action action spelled (told_by secrets action None met)

-- ---- what is told

abbrev out_of : List ℕ → List ℕ → Output
out_of next bytes = record { role = role.Out; name = next; bytes = bytes }

pub output_told : (next output : List ℕ) (secrets : List Secret) (told : OutputEnd) (before now : Outside) (result : Result (Unit {0}) End) → OutputComesTo secrets output told
    → CarriesOut (tell_output next told) before result now → CarriesOut (find (OutputComesTo secrets output) (tell_output next)) before result now
output_told next output secrets told before now result is carried = λ final.
    finds (OutputComesTo secrets output) (tell_output next) at_first not_used final before now told result is (carried final)

pub full_told : (next : List ℕ) (before : Outside) (why : End) → RefusesWith (codes "full") why → CarriesOut (tell_output next finds_it_full) before (Err why) before
full_told next before why refuses = λ final. refuse_here (codes "full") why at_first not_used final before refuses refl

pub next_written : (next bytes line answer : List ℕ) (secrets : List Secret) (before now : Outside) (result : Result (Unit {0}) End) → bytes ≡ secrets_text secrets
    → line ≡ line_with_lf (spaced_words (codes "called" ∷ hex_word answer ∷ [])) → CarriesOutAfter (writes (out_of next bytes ∷ []) (print line)) before result now
    → CarriesOut (tell_output next (acts secrets answer)) before result now
unfolding writes
next_written next bytes line answer secrets before now result text is carried = λ final.
    (subst (λ (b : List ℕ). CarriesOutAfter (writes (out_of next b ∷ []) (print (line_with_lf (spaced_words (codes "called" ∷ hex_word answer ∷ []))))) before result now) text
    (subst (λ (l : List ℕ). CarriesOutAfter (writes (out_of next bytes ∷ []) (print l)) before result now) is carried)) at_first final

pub next_lacks : (next answer : List ℕ) (secrets : List Secret) (before : Outside) → CarriesOut (tell_output next (acts secrets answer)) before (Err end.NoMemory) before
next_lacks next answer secrets before = λ final. memory_here (out_of next (secrets_text secrets)) _ at_first not_used final before refl refl
