-- The names of files and the numbers in the words of these commands, as their definitions have them.
use Rattle.std.specs.Prelude.{List}
use Rattle.mb_console.specs.Words.{Argument, file_given, number_given}
use Rattle.mb_tools_app.specs.AppCommand.{AppNames as AppFiles}
use Rattle.mb_tools_app.specs.AppcodeCommand.{AppcodeNames as AppcodeFiles}
use Rattle.mb_tools_app.specs.CallcodeCommand.{CallcodeNames as CallcodeFiles}
use Rattle.mb_tools_app.specs.AssemblyCommands.{AsmNames as AsmFiles, DisasmNames as DisasmFiles}
use Rattle.mb_tools_app.specs.ShowcodeCommand.{ShowcodeNames as ShowcodeFiles}
use Rattle.mb_tools_app.specs.declared.app.AppNames.{AppNames}
use Rattle.mb_tools_app.specs.declared.appcode.AppcodeNames.{AppcodeNames}
use Rattle.mb_tools_app.specs.declared.callcode.CallcodeNames.{CallcodeNames}
use Rattle.mb_tools_app.specs.declared.asm.AsmNames.{AsmNames}
use Rattle.mb_tools_app.specs.declared.disasm.DisasmNames.{DisasmNames}
use Rattle.mb_tools_app.specs.declared.showcode.ShowcodeNames.{ShowcodeNames}

abbrev pub app_files : AppNames → AppFiles
app_files names =
    record { image = names.image.now; layer = names.layer; input = names.input.now; steps = names.steps }

abbrev pub appcode_files : AppcodeNames → AppcodeFiles
appcode_files names = record { code = names.code.now; input = names.input.now; steps = names.steps }

abbrev pub callcode_files : CallcodeNames → CallcodeFiles
callcode_files names = record {
  code = names.code.now;
  secrets = names.secrets.now;
  input = names.input.now;
  next = names.next.now;
}

abbrev pub asm_files : AsmNames → AsmFiles
asm_files names = record { text = names.text.now; out = names.out.now }

abbrev pub disasm_files : DisasmNames → DisasmFiles
disasm_files names = record { code = names.code.now; out = names.out.now }

abbrev pub showcode_files : ShowcodeNames → ShowcodeFiles
showcode_files names = record { code = names.code.now }

-- ---- by the places of the words

abbrev pub app_given : List Argument → AppFiles
app_given given = record {
  image = file_given 0 given;
  layer = number_given 1 given;
  input = file_given 2 given;
  steps = number_given 3 given;
}

abbrev pub appcode_given : List Argument → AppcodeFiles
appcode_given given =
    record { code = file_given 0 given; input = file_given 1 given; steps = number_given 2 given }

abbrev pub callcode_given : List Argument → CallcodeFiles
callcode_given given = record {
  code = file_given 0 given;
  secrets = file_given 1 given;
  input = file_given 2 given;
  next = file_given 3 given;
}

abbrev pub asm_given : List Argument → AsmFiles
asm_given given = record { text = file_given 0 given; out = file_given 1 given }

abbrev pub disasm_given : List Argument → DisasmFiles
disasm_given given = record { code = file_given 0 given; out = file_given 1 given }

abbrev pub showcode_given : List Argument → ShowcodeFiles
showcode_given given = record { code = file_given 0 given }
