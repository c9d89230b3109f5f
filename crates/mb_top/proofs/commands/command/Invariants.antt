use Rattle.mb_top.proofs.commands.command.Given as goal

abbrev pub ghosts-counted_command : goal.ghosts-counted_command
ghosts-counted_command g a = record { name = a.blank.name; parts = a.blank.parts }
