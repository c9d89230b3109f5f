-- The names of files and the layer in the words of the commands, as their definitions have them: from the code's record
-- of them, and from the words' arguments by their places.
use Rattle.std.specs.Prelude.{List}
use Rattle.mb_console.specs.Words.{Argument, file_given, number_given}
use Rattle.mb_model_commands.specs.Cosign.{CosignNames as CosignFiles}
use Rattle.mb_tools_orders.specs.ShowOrder.{ShowOrderNames as ShowOrderFiles}
use Rattle.mb_tools_orders.specs.Ordered.{OrderedNames as OrderedFiles}
use Rattle.mb_tools_orders.specs.ShowKey.{ShowKeyNames as ShowKeyFiles}
use Rattle.mb_tools_orders.specs.declared.cosign.CosignNames.{CosignNames}
use Rattle.mb_tools_orders.specs.declared.showorder.ShowOrderNames.{ShowOrderNames}
use Rattle.mb_tools_orders.specs.declared.ordered.OrderedNames.{OrderedNames}
use Rattle.mb_tools_orders.specs.declared.showkey.ShowKeyNames.{ShowKeyNames}

abbrev pub cosign_files : CosignNames → CosignFiles
cosign_files names = record {
  key = names.key.now;
  layer = names.layer;
  order = names.order.now;
  draft = names.draft.now;
  out = names.out.now;
}

abbrev pub cosign_given : List Argument → CosignFiles
cosign_given given = record {
  key = file_given 0 given;
  layer = number_given 1 given;
  order = file_given 2 given;
  draft = file_given 3 given;
  out = file_given 4 given;
}

abbrev pub showorder_files : ShowOrderNames → ShowOrderFiles
showorder_files names = record { order = names.order.now }

abbrev pub showorder_given : List Argument → ShowOrderFiles
showorder_given given = record { order = file_given 0 given }

abbrev pub ordered_files : OrderedNames → OrderedFiles
ordered_files names = record { public = names.public.now; order = names.order.now }

abbrev pub ordered_given : List Argument → OrderedFiles
ordered_given given = record { public = file_given 0 given; order = file_given 1 given }

abbrev pub showkey_files : ShowKeyNames → ShowKeyFiles
showkey_files names = record { key = names.key.now }

abbrev pub showkey_given : List Argument → ShowKeyFiles
showkey_given given = record { key = file_given 0 given }
