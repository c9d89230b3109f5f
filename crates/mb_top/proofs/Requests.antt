-- From a command to what the words say that call it.
use Rattle.std.proofs.Common.{◌≡◌, ℕ, ◌≤◌, true, false, Bool, List, Option, Some, Result, Ok, Err, refl, sym, ap, subst}
use Rattle.mb_model.specs.outside.Board.{Used, not_used}
use Rattle.mb_model.specs.outside.Board.{Held}
use Rattle.mb_model_commands.specs.Outside.{Outside}
use Rattle.mb_model_commands.specs.Commands.{Ended, CommandEnds, HasInputsFor, IsFaultless, at_first}
use Rattle.mb_console.specs.declared.end.End.{End}
use Rattle.mb_console.specs.Ending.{CarriesOutRest, CarriesOut}
use Rattle.mb_console.specs.Words.{Argument, IsCall, number_given, hex_given}
use Rattle.mb_script.specs.Reading.{IsFill}
use Rattle.mb_console.proofs.Completing.{Completes, command_completes}
use Rattle.mb_console.proofs.WordLemmas.{has_distinct_names, one_call, number_of_call, hex_of_call}
use Rattle.mb_top.specs.declared.table.Command.{Command}
use Rattle.mb_top.specs.declared.table.Command.TheVariants as command
use Rattle.mb_top.specs.CommandTable.{commands}
use Rattle.mb_top.specs.Top.{command_of, Ends, no_command, did, CarriesOutWords}

-- ---- by the words

pub call_carried_out : (words : List (List ℕ)) (called : Command) (given : List Argument) (used : Used) (final : Held) (before now : Outside) (result : Result (Unit {0}) End)
    → IsCall commands words called given → CarriesOutRest (command_of called given) at_first used final before result now → CarriesOutWords words used final before result now
unfolding CarriesOutRest
call_carried_out words called given used final before now (Ok u) is ends = did called given is ends
call_carried_out words called given used final before now (Err why) is carried = λ after says. did called given is (carried after says)

-- a command that leaves the board alone
pub alone : (called : Command) (given : List Argument) (used : Used) (final : Held) (before now : Outside) (result : Result (Unit {0}) End)
    → used ≡ not_used → CarriesOut (command_of called given) before result now → CarriesOutRest (command_of called given) at_first used final before result now
alone called given used final before now result none carried =
    subst (λ a. CarriesOutRest (command_of called given) at_first a final before result now) (sym none) (carried final)

-- ---- where all is well

distinct : has_distinct_names commands ≡ true
unfolding commands
distinct = refl

pub call_completes : (words : List (List ℕ)) (called : Command) (given : List Argument) (files : List ℕ → Option (List ℕ)) (e : Ended) → IsCall commands words called given → e.before.files ≡ Some files
    → HasInputsFor (command_of called given) files → IsFaultless e.before e.after → Ends words e → Completes (command_of called given) files e.status
call_completes words called given files e is told has well (no_command none stops) = absurd (none called given is)
call_completes words called given files e is told has well (did other others is_other ends) =
    let same = one_call commands words other called others given distinct is_other is in
    command_completes (command_of called given) at_first e files told has well
    (subst (λ c. CommandEnds (command_of c given) at_first e) same.0 (subst (λ g. CommandEnds (command_of other g) at_first e) same.1 ends))

-- ---- numbers within the bounds of their kinds

-- the second word of the command is a layer
abbrev pub takes_layer : Command → Bool
takes_layer command.Countersign = true
takes_layer command.Cosign = true
takes_layer command.App = true
takes_layer _ = false

is_cutat : Command → Bool
is_cutat command.Cutat = true
is_cutat _ = false

is_generate : Command → Bool
is_generate command.Generate = true
is_generate _ = false

is_hsskeygen : Command → Bool
is_hsskeygen command.Hsskeygen = true
is_hsskeygen _ = false

-- the layer that countersigns, or whose code runs, is 2 or 3
pub layer_of : (words : List (List ℕ)) (called : Command) (given : List Argument) → takes_layer called ≡ true → IsCall commands words called given → (2 ≤ number_given 1 given) × (number_given 1 given ≤ 3)
unfolding commands
layer_of words called given takes call = number_of_call takes_layer 1 2 3 commands words called given refl takes call

-- a workload has 1 to 24 rounds
pub rounds_of : (words : List (List ℕ)) (called : Command) (given : List Argument) → called ≡ command.Generate → IsCall commands words called given → (1 ≤ number_given 1 given) × (number_given 1 given ≤ 24)
unfolding commands is_generate
rounds_of words called given is call = number_of_call is_generate 1 1 24 commands words called given refl (ap is_generate is) call

-- a maker's HSS key has 1 to 8 levels
pub levels_of : (words : List (List ℕ)) (called : Command) (given : List Argument) → called ≡ command.Hsskeygen → IsCall commands words called given → (1 ≤ number_given 1 given) × (number_given 1 given ≤ 8)
unfolding commands is_hsskeygen
levels_of words called given is call = number_of_call is_hsskeygen 1 1 8 commands words called given refl (ap is_hsskeygen is) call

-- power is cut in one of the first 100,000 writes
pub count_of : (words : List (List ℕ)) (called : Command) (given : List Argument) → called ≡ command.Cutat → IsCall commands words called given → (1 ≤ number_given 3 given) × (number_given 3 given ≤ 100000)
unfolding commands is_cutat
count_of words called given is call = number_of_call is_cutat 3 1 100000 commands words called given refl (ap is_cutat is) call

-- 1 to 16 bytes fill the range of that write
pub fill_of : (words : List (List ℕ)) (called : Command) (given : List Argument) → called ≡ command.Cutat → IsCall commands words called given → (bytes : List ℕ) × IsFill (hex_given 4 given) bytes
unfolding commands is_cutat
fill_of words called given is call = hex_of_call is_cutat 4 commands words called given refl (ap is_cutat is) call
