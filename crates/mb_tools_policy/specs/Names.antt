-- The names of files and the number in the words of `trust`, as the definition of the command has them.
use Rattle.std.specs.Prelude.{List}
use Rattle.mb_console.specs.Words.{Argument, file_given, number_given}
use Rattle.mb_tools_policy.specs.TrustCommand.{TrustNames as TrustFiles}
use Rattle.mb_tools_policy.specs.declared.trust.TrustNames.{TrustNames}

abbrev pub trust_files : TrustNames → TrustFiles
trust_files names =
    record { root = names.root.now; chain = names.chain.now; key = names.key; policy = names.policy.now }

-- the names and the number among the arguments of a command line
abbrev pub trust_given : List Argument → TrustFiles
trust_given given = record {
  root = file_given 0 given;
  chain = file_given 1 given;
  key = number_given 2 given;
  policy = file_given 3 given;
}
