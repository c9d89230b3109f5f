-- What the program does, by its words: which command they call, and how it ends.
use Rattle.std.specs.Prelude.{◌≡◌, List, ℕ, codes, Result}
use Rattle.mb_model.specs.outside.Board.{Used}
use Rattle.mb_model.specs.outside.Board.{Held}
use Rattle.mb_model_commands.specs.Outside.{Outside}
use Rattle.mb_model_commands.specs.Commands.{Command as Does, Ended, Stops, CommandEnds, at_first}
use Rattle.mb_model_commands.specs.RunCommand.{run}
use Rattle.mb_model_commands.specs.Keygen.{keygen}
use Rattle.mb_model_commands.specs.Sign.{sign, countersign}
use Rattle.mb_model_commands.specs.Cosign.{cosign}
use Rattle.mb_model_commands.specs.FactoryCommand.{factory}
use Rattle.mb_model_commands.specs.MigrateCommand.{migrate}
use Rattle.mb_model_commands.specs.VerifyCommand.{verify}
use Rattle.mb_model_commands.specs.AuditCommand.{audit}
use Rattle.mb_model_commands.specs.ChainCommands.{chain, attach}
use Rattle.mb_model_commands.specs.GenerateCommand.{generate}
use Rattle.mb_board.specs.Calls.{Seen}
use Rattle.mb_console.specs.declared.end.End.{End}
use Rattle.mb_console.specs.Ending.{ended_at, EndsOncePrinted}
use Rattle.mb_console.specs.Words.{Argument, IsCall}
use Rattle.mb_tools.specs.Names.{keygen_given, sign_given, countersign_given, factory_given, migrate_given}
use Rattle.mb_tools.specs.Names.{verify_given, audit_given, chain_given, attach_given}
use Rattle.mb_tools_orders.specs.ShowOrder.{showorder}
use Rattle.mb_tools_orders.specs.Ordered.{ordered}
use Rattle.mb_tools_orders.specs.ShowKey.{showkey}
use Rattle.mb_tools_orders.specs.Names.{cosign_given, showorder_given, ordered_given, showkey_given}
use Rattle.mb_tools_hss.specs.HssKeygen.{hsskeygen}
use Rattle.mb_tools_hss.specs.ShowMaker.{showmaker}
use Rattle.mb_tools_hss.specs.Endorse.{endorse}
use Rattle.mb_tools_hss.specs.Endorsed.{endorsed}
use Rattle.mb_tools_hss.specs.Names.{hsskeygen_given, showmaker_given, endorse_given, endorsed_given}
use Rattle.mb_tools_policy.specs.TrustCommand.{trust}
use Rattle.mb_tools_policy.specs.Names.{trust_given}
use Rattle.mb_tools_app.specs.AppCommand.{app}
use Rattle.mb_tools_app.specs.AssemblyCommands.{asm, disasm}
use Rattle.mb_tools_app.specs.ShowcodeCommand.{showcode}
use Rattle.mb_tools_app.specs.AppcodeCommand.{appcode}
use Rattle.mb_tools_app.specs.CallcodeCommand.{callcode}
use Rattle.mb_tools_app.specs.Names.{app_given, appcode_given, callcode_given, asm_given, disasm_given, showcode_given}
use Rattle.mb_tools_fleet.specs.FleetCommand.{fleet}
use Rattle.mb_tools_fleet.specs.RegisterCommands.{register, devices}
use Rattle.mb_tools_fleet.specs.EnrolCommand.{enrol}
use Rattle.mb_tools_fleet.specs.FleetWords.{fleet_given, register_given, enrol_given, devices_given}
use Rattle.mb_tools_shown.specs.HistoryCommand.{history}
use Rattle.mb_tools_shown.specs.ShowimageCommand.{showimage}
use Rattle.mb_tools_shown.specs.Names.{history_given, showimage_given}
use Rattle.mb_tools_device.specs.CutCommand.{cutat}
use Rattle.mb_tools_device.specs.RehearseCommand.{rehearsal}
use Rattle.mb_tools_device.specs.Names.{run_given, cut_given, generate_given}
use Rattle.mb_tools_device.specs.Holding.{EndsHolding, IsDone, IsOutOfMemory}
use Rattle.mb_top.specs.CommandTable.{commands}
use Rattle.mb_top.specs.declared.table.Command.{Command}
use Rattle.mb_top.specs.declared.table.Command.TheVariants as command

-- what a command does with these arguments, which are in the order of its words
abbrev pub command_of : Command → List Argument → Does
command_of command.Run given = run (run_given given)
command_of command.Rehearse given = rehearsal (run_given given)
command_of command.Showimage given = showimage (showimage_given given)
command_of command.History given = history (history_given given)
command_of command.Cutat given = cutat (cut_given given)
command_of command.Verify given = verify (verify_given given)
command_of command.Audit given = audit (audit_given given)
command_of command.Trust given = trust (trust_given given)
command_of command.Chain given = chain (chain_given given)
command_of command.Attach given = attach (attach_given given)
command_of command.Fleet given = fleet (fleet_given given)
command_of command.Register given = register (register_given given)
command_of command.Enrol given = enrol (enrol_given given)
command_of command.Devices given = devices (devices_given given)
command_of command.Factory given = factory (factory_given given)
command_of command.Keygen given = keygen (keygen_given given)
command_of command.Showkey given = showkey (showkey_given given)
command_of command.Sign given = sign (sign_given given)
command_of command.Countersign given = countersign (countersign_given given)
command_of command.Cosign given = cosign (cosign_given given)
command_of command.Showorder given = showorder (showorder_given given)
command_of command.Ordered given = ordered (ordered_given given)
command_of command.Hsskeygen given = hsskeygen (hsskeygen_given given)
command_of command.Showmaker given = showmaker (showmaker_given given)
command_of command.Endorse given = endorse (endorse_given given)
command_of command.Endorsed given = endorsed (endorsed_given given)
command_of command.Migrate given = migrate (migrate_given given)
command_of command.App given = app (app_given given)
command_of command.Appcode given = appcode (appcode_given given)
command_of command.Callcode given = callcode (callcode_given given)
command_of command.Asm given = asm (asm_given given)
command_of command.Disasm given = disasm (disasm_given given)
command_of command.Showcode given = showcode (showcode_given given)
command_of command.Generate given = generate (generate_given given)

-- How the program ends.
pub data Ends (words : List (List ℕ)) (e : Ended) : Type 0 where
  -- 2: the words call no command
  no_command : ((called : Command) (given : List Argument) → IsCall commands words called given → ⊥)
      → Stops (codes "words") 2 at_first e → Ends words e
  -- the words call a command, and it has ended in this way
  did : (called : Command) (given : List Argument) → IsCall commands words called given
      → CommandEnds (command_of called given) at_first e → Ends words e

-- ---- what carries out a command

-- what the words call is carried out, up to the line of its status
abbrev pub CarriesOutWords :
    List (List ℕ) → Used → Held → Outside → Result (Unit {0}) End → Outside → Type 0
CarriesOutWords words used final before result now =
    EndsOncePrinted (λ after status. Ends words (ended_at before used final after status)) result now

-- ---- what the board holds

-- The words call `cutat`, which turns power off before the second load, in which an allocation may fail: an `off` at
-- the end of the first run would be an event that no script has.
abbrev pub CallsCutat : List (List ℕ) → Type 0
CallsCutat words = (given : List Argument) × IsCall commands words command.Cutat given

-- What a board holds after a command: it was left alone, or it holds what it held at its last answer. Or an allocation
-- of `cutat` failed between its two runs, and power was turned off. There is no condition on the beginning: with the
-- number of loads in `ends` it follows whether the board was loaded. That no event waits is said at status 0 alone:
-- `generate` loads before it writes its files, and if a write fails its events still wait.
abbrev pub HoldsAfter : Command → Result (Unit {0}) End → Seen → Seen → Type 0
HoldsAfter called result before after =
    EndsHolding (IsDone result) ((called ≡ command.Cutat) × IsOutOfMemory result) before after

-- what a board holds once the words have been carried out, up to the line of the status
abbrev pub HoldsAfterWords : List (List ℕ) → Result (Unit {0}) End → Seen → Seen → Type 0
HoldsAfterWords words result before after =
    EndsHolding (IsDone result) (CallsCutat words × IsOutOfMemory result) before after

-- what a board holds when the words have ended with this exit status
abbrev pub HoldsAtStatus : List (List ℕ) → ℕ → Seen → Seen → Type 0
HoldsAtStatus words status before after =
    EndsHolding (status ≡ 0) (CallsCutat words × (status ≡ 6)) before after
