-- The names of files in the words of these commands, as their definitions have them.
use Rattle.std.specs.Prelude.{List}
use Rattle.mb_console.specs.Words.{Argument, file_given}
use Rattle.mb_tools_fleet.specs.declared.fleet.FleetNames.{FleetNames}
use Rattle.mb_tools_fleet.specs.declared.enrol.EnrolNames.{EnrolNames}
use Rattle.mb_tools_fleet.specs.declared.register.RegisterNames.{RegisterNames}
use Rattle.mb_tools_fleet.specs.declared.devices.DevicesNames.{DevicesNames}
use Rattle.mb_tools_fleet.specs.FleetCommand.{FleetNames as FleetFiles}
use Rattle.mb_tools_fleet.specs.EnrolCommand.{EnrolNames as EnrolFiles}
use Rattle.mb_tools_fleet.specs.RegisterCommands.{RegisterNames as RegisterFiles, DevicesNames as DevicesFiles}

abbrev pub fleet_files : FleetNames → FleetFiles
fleet_files names = record { root = names.root.now; register = names.register.now; items = names.items.now }

abbrev pub enrol_files : EnrolNames → EnrolFiles
enrol_files names = record { root = names.root.now; register = names.register.now; chain = names.chain.now }

abbrev pub register_files : RegisterNames → RegisterFiles
register_files names = record { out = names.out.now }

abbrev pub devices_files : DevicesNames → DevicesFiles
devices_files names = record { register = names.register.now }

-- ---- by the places of the words

abbrev pub fleet_given : List Argument → FleetFiles
fleet_given given =
    record { root = file_given 0 given; register = file_given 1 given; items = file_given 2 given }

abbrev pub enrol_given : List Argument → EnrolFiles
enrol_given given =
    record { root = file_given 0 given; register = file_given 1 given; chain = file_given 2 given }

abbrev pub register_given : List Argument → RegisterFiles
register_given given = record { out = file_given 0 given }

abbrev pub devices_given : List Argument → DevicesFiles
devices_given given = record { register = file_given 0 given }
