-- The names of files, the numbers and the bytes in the words of these commands, as their definitions have them.
use Rattle.std.specs.Prelude.{List}
use Rattle.mb_model_commands.specs.RunCommand.{RunNames as RunFiles}
use Rattle.mb_model_commands.specs.GenerateCommand.{GenerateNames as GenerateFiles}
use Rattle.mb_tools_device.specs.declared.run.RunNames.{RunNames}
use Rattle.mb_tools_device.specs.declared.generate.GenerateNames.{GenerateNames}
use Rattle.mb_tools_device.specs.CutCommand.{CutNames as CutFiles}
use Rattle.mb_tools_device.specs.declared.cutat.CutNames.{CutNames}
use Rattle.mb_console.specs.Words.{Argument, file_given, number_given, hex_given}

abbrev pub run_files : RunNames → RunFiles
run_files names = record { image = names.image.now; script = names.script.now; noise = names.noise.now }

abbrev pub run_given : List Argument → RunFiles
run_given given = record { image = file_given 0 given; script = file_given 1 given; noise = file_given 2 given }

abbrev pub generate_files : GenerateNames → GenerateFiles
generate_files names = record {
  number = names.number;
  rounds = names.rounds;
  image = names.image.now;
  script = names.script.now;
  noise = names.noise.now;
}

abbrev pub generate_given : List Argument → GenerateFiles
generate_given given = record {
  number = number_given 0 given;
  rounds = number_given 1 given;
  image = file_given 2 given;
  script = file_given 3 given;
  noise = file_given 4 given;
}

abbrev pub cut_files : CutNames → CutFiles
cut_files names = record {
  image = names.image.now;
  script = names.script.now;
  noise = names.noise.now;
  count = names.count;
  fill = names.fill.now;
}

abbrev pub cut_given : List Argument → CutFiles
cut_given given = record {
  image = file_given 0 given;
  script = file_given 1 given;
  noise = file_given 2 given;
  count = number_given 3 given;
  fill = hex_given 4 given;
}
