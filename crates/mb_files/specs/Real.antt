-- A host with contents that no contract sees, and what is known of an opened source or sink.
use Rattle.std.specs.Prelude.{ℕ, List, Option, None, Result, Ok, Err}
use Rattle.mb_model_commands.specs.Outside.{Outside}
use Rattle.mb_files.specs.declared.whole.ReadCounts.{ReadCounts}
use Rattle.mb_files.specs.declared.whole.WriteCounts.{WriteCounts}

-- what contracts see of a host without its contents: its counts alone; such a host cannot know that a file is absent
abbrev pub untold : ReadCounts → WriteCounts → Outside
untold reads writes = record {
  files = None;
  printed = None;
  read_faults = reads.faults;
  absences = 0;
  write_faults = writes.faults;
  reads = reads.calls;
  writes = writes.files;
  prints = writes.prints;
}

-- what is known of what was opened
abbrev pub known : {S E : Type 0} → (S → Option (List ℕ)) → Result S E → Option (List ℕ)
known bytes (Ok it) = bytes it
known bytes (Err e) = None
