-- The names of files and the numbers in the words of the tools, as the definitions of the commands have them.
use Rattle.std.specs.Prelude.{List}
use Rattle.mb_model_commands.specs.Keygen.{KeygenNames as KeygenFiles}
use Rattle.mb_model_commands.specs.Sign.{SignNames as SignFiles, CountersignNames as CountersignFiles}
use Rattle.mb_model_commands.specs.FactoryCommand.{FactoryNames as FactoryFiles}
use Rattle.mb_model_commands.specs.MigrateCommand.{MigrateNames as MigrateFiles}
use Rattle.mb_model_commands.specs.VerifyCommand.{VerifyNames as VerifyFiles}
use Rattle.mb_model_commands.specs.AuditCommand.{AuditNames as AuditFiles}
use Rattle.mb_model_commands.specs.ChainCommands.{ChainNames as ChainFiles, AttachNames as AttachFiles}
use Rattle.mb_tools.specs.declared.keygen.KeygenNames.{KeygenNames}
use Rattle.mb_tools.specs.declared.sign.SignNames.{SignNames}
use Rattle.mb_tools.specs.declared.sign.CountersignNames.{CountersignNames}
use Rattle.mb_tools.specs.declared.factory.FactoryNames.{FactoryNames}
use Rattle.mb_tools.specs.declared.migrate.MigrateNames.{MigrateNames}
use Rattle.mb_tools.specs.declared.verify.VerifyNames.{VerifyNames}
use Rattle.mb_tools.specs.declared.audit.AuditNames.{AuditNames}
use Rattle.mb_tools.specs.declared.chain.ChainNames.{ChainNames}
use Rattle.mb_tools.specs.declared.attach.AttachNames.{AttachNames}
use Rattle.mb_console.specs.Words.{Argument, file_given, number_given}

abbrev pub keygen_files : KeygenNames → KeygenFiles
keygen_files names = record { noise = names.noise.now; key = names.key.now; public = names.public.now }

abbrev pub keygen_given : List Argument → KeygenFiles
keygen_given given = record { noise = file_given 0 given; key = file_given 1 given; public = file_given 2 given }

abbrev pub sign_files : SignNames → SignFiles
sign_files names = record { key = names.key.now; draft = names.draft.now; out = names.out.now }

abbrev pub sign_given : List Argument → SignFiles
sign_given given = record { key = file_given 0 given; draft = file_given 1 given; out = file_given 2 given }

abbrev pub countersign_files : CountersignNames → CountersignFiles
countersign_files names =
    record { key = names.key.now; layer = names.layer; order = names.order.now; out = names.out.now }

abbrev pub countersign_given : List Argument → CountersignFiles
countersign_given given = record {
  key = file_given 0 given;
  layer = number_given 1 given;
  order = file_given 2 given;
  out = file_given 3 given;
}

abbrev pub factory_files : FactoryNames → FactoryFiles
factory_files names = record {
  noise = names.noise.now;
  key = names.key.now;
  owner = names.owner.now;
  code = names.code.now;
  image = names.image.now;
}

abbrev pub factory_given : List Argument → FactoryFiles
factory_given given = record {
  noise = file_given 0 given;
  key = file_given 1 given;
  owner = file_given 2 given;
  code = file_given 3 given;
  image = file_given 4 given;
}

abbrev pub migrate_files : MigrateNames → MigrateFiles
migrate_files names = record { image = names.image.now; out = names.out.now }

abbrev pub migrate_given : List Argument → MigrateFiles
migrate_given given = record { image = file_given 0 given; out = file_given 1 given }

abbrev pub verify_files : VerifyNames → VerifyFiles
verify_files names = record { root = names.root.now; chain = names.chain.now; key = names.key }

abbrev pub verify_given : List Argument → VerifyFiles
verify_given given = record { root = file_given 0 given; chain = file_given 1 given; key = number_given 2 given }

abbrev pub audit_files : AuditNames → AuditFiles
audit_files names =
    record { image = names.image.now; root = names.root.now; chain = names.chain.now; key = names.key }

abbrev pub audit_given : List Argument → AuditFiles
audit_given given = record {
  image = file_given 0 given;
  root = file_given 1 given;
  chain = file_given 2 given;
  key = number_given 3 given;
}

abbrev pub chain_files : ChainNames → ChainFiles
chain_files names = record { image = names.image.now; out = names.out.now }

abbrev pub chain_given : List Argument → ChainFiles
chain_given given = record { image = file_given 0 given; out = file_given 1 given }

abbrev pub attach_files : AttachNames → AttachFiles
attach_files names = record { chain = names.chain.now; statement = names.statement.now; out = names.out.now }

abbrev pub attach_given : List Argument → AttachFiles
attach_given given = record { chain = file_given 0 given; statement = file_given 1 given; out = file_given 2 given }
