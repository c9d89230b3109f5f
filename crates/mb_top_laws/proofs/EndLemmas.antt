-- Two ends of any command that serves no device are alike.
use Rattle.std.proofs.Common.{◌≡◌, List, false, arith}
use Rattle.mb_console.specs.Words.{Argument}
use Rattle.mb_tools.specs.Names.{keygen_given, sign_given, countersign_given, factory_given, migrate_given, verify_given, audit_given, chain_given, attach_given}
use Rattle.mb_tools_orders.specs.Names.{cosign_given, showorder_given, ordered_given, showkey_given}
use Rattle.mb_tools_hss.specs.Names.{hsskeygen_given, showmaker_given, endorse_given, endorsed_given}
use Rattle.mb_tools_policy.specs.Names.{trust_given}
use Rattle.mb_tools_app.specs.Names.{app_given, appcode_given, callcode_given, asm_given, disasm_given, showcode_given}
use Rattle.mb_tools_fleet.specs.FleetWords.{fleet_given, register_given, enrol_given, devices_given}
use Rattle.mb_tools_shown.specs.Names.{history_given, showimage_given}
use Rattle.mb_top.specs.declared.table.Command.{Command}
use Rattle.mb_top.specs.declared.table.Command.TheVariants as command
use Rattle.mb_top.specs.Top.{command_of}
use Rattle.mb_top_laws.specs.LoadLaws.{serves}
use Rattle.mb_top_laws.specs.EndLaws.{CommandsAreDetermined}
use Rattle.mb_top_laws.proofs.AlikeSteps.{Alike, whole_alike}
use Rattle.mb_top_laws.proofs.AlikeCommands.{keygen_alike, sign_alike, countersign_alike, factory_alike, verify_alike, audit_alike, chain_alike, attach_alike}
use Rattle.mb_top_laws.proofs.AlikeTools.{migrate_alike, hsskeygen_alike, endorse_alike, endorsed_alike, trust_alike, app_alike, appcode_alike, callcode_alike, asm_alike, disasm_alike, showcode_alike, fleet_alike, register_alike, enrol_alike, devices_alike, showimage_alike, history_alike}
use Rattle.mb_top_laws.proofs.AlikeOrders.{cosign_alike, showorder_alike, ordered_alike, showkey_alike, showmaker_alike}

each_alike : (called : Command) (given : List Argument) → serves called ≡ false → Alike (command_of called given) (command_of called given)
each_alike command.Run given is = absurd (grind (arith, is))
each_alike command.Rehearse given is = absurd (grind (arith, is))
each_alike command.Showimage given is = showimage_alike (showimage_given given)
each_alike command.History given is = history_alike (history_given given)
each_alike command.Cutat given is = absurd (grind (arith, is))
each_alike command.Generate given is = absurd (grind (arith, is))
each_alike command.Verify given is = verify_alike (verify_given given)
each_alike command.Audit given is = audit_alike (audit_given given)
each_alike command.Trust given is = trust_alike (trust_given given)
each_alike command.Chain given is = chain_alike (chain_given given)
each_alike command.Attach given is = attach_alike (attach_given given)
each_alike command.Fleet given is = fleet_alike (fleet_given given)
each_alike command.Register given is = register_alike (register_given given)
each_alike command.Enrol given is = enrol_alike (enrol_given given)
each_alike command.Devices given is = devices_alike (devices_given given)
each_alike command.Factory given is = factory_alike (factory_given given)
each_alike command.Keygen given is = keygen_alike (keygen_given given)
each_alike command.Sign given is = sign_alike (sign_given given)
each_alike command.Countersign given is = countersign_alike (countersign_given given)
each_alike command.Cosign given is = cosign_alike (cosign_given given)
each_alike command.Showorder given is = showorder_alike (showorder_given given)
each_alike command.Ordered given is = ordered_alike (ordered_given given)
each_alike command.Showkey given is = showkey_alike (showkey_given given)
each_alike command.Showmaker given is = showmaker_alike (showmaker_given given)
each_alike command.Hsskeygen given is = hsskeygen_alike (hsskeygen_given given)
each_alike command.Endorse given is = endorse_alike (endorse_given given)
each_alike command.Endorsed given is = endorsed_alike (endorsed_given given)
each_alike command.Migrate given is = migrate_alike (migrate_given given)
each_alike command.App given is = app_alike (app_given given)
each_alike command.Appcode given is = appcode_alike (appcode_given given)
each_alike command.Callcode given is = callcode_alike (callcode_given given)
each_alike command.Asm given is = asm_alike (asm_given given)
each_alike command.Disasm given is = disasm_alike (disasm_given given)
each_alike command.Showcode given is = showcode_alike (showcode_given given)

pub commands_are_determined : CommandsAreDetermined
commands_are_determined called given files printed e f is whole also =
    whole_alike (command_of called given) (each_alike called given is) files printed e f whole also
