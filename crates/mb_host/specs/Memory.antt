-- The contents of a host in memory: its files, what was printed, which of its calls fail, and its counts.
use Rattle.std.specs.Prelude.{◌≡◌, ◌≢◌, ◌==◌, ℕ, Bool, List, [], Option, Some, option_map}
use Rattle.std.specs.List.{find, list_any}
use Rattle.std.specs.Str.{bytes_eq}
use Rattle.mb_model.specs.declared.items.File.{File}
use Rattle.mb_model_commands.specs.Outside.{Outside, count_after_call}

-- what a host in memory holds; if two files have one name, the first counts
pub record HostShown : Type 0 where
  pub files : List File
  pub printed : List ℕ
  -- the numbers of the calls that fail, and the number of the next call
  pub failing : List ℕ
  pub calls : ℕ
  pub read_faults : ℕ
  pub absences : ℕ
  pub write_faults : ℕ
  pub reads : ℕ
  pub writes : ℕ
  pub prints : ℕ

-- a host with these files, nothing printed and no call yet, whose calls of these numbers fail
abbrev pub host_of : List File → List ℕ → HostShown
host_of files failing = record {
  files = files;
  printed = [];
  failing = failing;
  calls = 0;
  read_faults = 0;
  absences = 0;
  write_faults = 0;
  reads = 0;
  writes = 0;
  prints = 0;
}

-- whether the next call is one of those that fail
abbrev pub next_fails : HostShown → Bool
next_fails host = list_any (λ number. number == host.calls) host.failing

-- Reads, writes and prints are numbered together: a call takes the next number, and the list stays.
pub record IsNumbered (before after : HostShown) : Type 0 where
  pub next : after.calls ≡ count_after_call before.calls
  pub list : after.failing ≡ before.failing

-- whether the file has this name
abbrev pub is_named : List ℕ → File → Bool
is_named name file = bytes_eq file.name name

-- the content of the first file of this name
abbrev pub content_of : List File → List ℕ → Option (List ℕ)
content_of files name = option_map (λ file. file.bytes) (find (is_named name) files)

-- what contracts see of a host in memory: all of its contents
abbrev pub told : HostShown → Outside
told shown = record {
  files = Some (content_of shown.files);
  printed = Some shown.printed;
  read_faults = shown.read_faults;
  absences = shown.absences;
  write_faults = shown.write_faults;
  reads = shown.reads;
  writes = shown.writes;
  prints = shown.prints;
}

-- the file of this name holds these bytes now, and the others are as they were
pub record Stores (before after : List File) (name bytes : List ℕ) : Type 0 where
  pub held : content_of after name ≡ Some bytes
  pub others : (other : List ℕ) → other ≢ name → content_of after other ≡ content_of before other
