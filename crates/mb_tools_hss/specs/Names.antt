-- The names of files and the number of levels in the words of the commands, as their definitions have them: from the
-- code's record of them, and from the words' arguments by their places.
use Rattle.std.specs.Prelude.{List}
use Rattle.mb_console.specs.Words.{Argument, file_given, number_given}
use Rattle.mb_tools_hss.specs.HssKeygen.{HsskeygenNames as HsskeygenFiles}
use Rattle.mb_tools_hss.specs.Endorse.{EndorseNames as EndorseFiles}
use Rattle.mb_tools_hss.specs.Endorsed.{EndorsedNames as EndorsedFiles}
use Rattle.mb_tools_hss.specs.ShowMaker.{ShowMakerNames as ShowMakerFiles}
use Rattle.mb_tools_hss.specs.declared.hsskeygen.HsskeygenNames.{HsskeygenNames}
use Rattle.mb_tools_hss.specs.declared.endorse.EndorseNames.{EndorseNames}
use Rattle.mb_tools_hss.specs.declared.endorsed.EndorsedNames.{EndorsedNames}
use Rattle.mb_tools_hss.specs.declared.showmaker.ShowMakerNames.{ShowMakerNames}

abbrev pub hsskeygen_files : HsskeygenNames → HsskeygenFiles
hsskeygen_files names = record {
  noise = names.noise.now;
  levels = names.levels;
  key = names.key.now;
  public = names.public.now;
}

abbrev pub hsskeygen_given : List Argument → HsskeygenFiles
hsskeygen_given given = record {
  noise = file_given 0 given;
  levels = number_given 1 given;
  key = file_given 2 given;
  public = file_given 3 given;
}

abbrev pub endorse_files : EndorseNames → EndorseFiles
endorse_files names = record { key = names.key.now; root = names.root.now; out = names.out.now }

abbrev pub endorse_given : List Argument → EndorseFiles
endorse_given given = record { key = file_given 0 given; root = file_given 1 given; out = file_given 2 given }

abbrev pub endorsed_files : EndorsedNames → EndorsedFiles
endorsed_files names =
    record { public = names.public.now; root = names.root.now; endorsement = names.endorsement.now }

abbrev pub endorsed_given : List Argument → EndorsedFiles
endorsed_given given =
    record { public = file_given 0 given; root = file_given 1 given; endorsement = file_given 2 given }

abbrev pub showmaker_files : ShowMakerNames → ShowMakerFiles
showmaker_files names = record { key = names.key.now }

abbrev pub showmaker_given : List Argument → ShowMakerFiles
showmaker_given given = record { key = file_given 0 given }
