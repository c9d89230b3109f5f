-- The names of files in the words of `showimage` and `history`, as the definitions of the commands have them.
use Rattle.std.specs.Prelude.{List}
use Rattle.mb_console.specs.Words.{Argument, file_given}
use Rattle.mb_tools_shown.specs.declared.history.HistoryNames.{HistoryNames}
use Rattle.mb_tools_shown.specs.declared.showimage.ShowimageNames.{ShowimageNames}
use Rattle.mb_tools_shown.specs.HistoryCommand.{HistoryNames as HistoryFiles}
use Rattle.mb_tools_shown.specs.ShowimageCommand.{ShowimageNames as ShowimageFiles}

abbrev pub showimage_files : ShowimageNames → ShowimageFiles
showimage_files names = record { image = names.image.now }

abbrev pub showimage_given : List Argument → ShowimageFiles
showimage_given given = record { image = file_given 0 given }

abbrev pub history_files : HistoryNames → HistoryFiles
history_files names = record { root = names.root.now; chain = names.chain.now }

abbrev pub history_given : List Argument → HistoryFiles
history_given given = record { root = file_given 0 given; chain = file_given 1 given }
