use Rattle.mb_model_examples.proofs.CommandCounterProofs as examples
use Rattle.mb_model_examples.proofs.counter_examples.command_counter_examples.Goals as goal

pub returns : goal.returns
returns c = record { statuses = examples.statuses_of_commands; commands = examples.commands; files = examples.files; hosts = examples.hosts }
