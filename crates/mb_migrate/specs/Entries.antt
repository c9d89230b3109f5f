-- Stored entries by whether they are signed. Do as many lack a signature as the root says?
use Rattle.std.specs.Prelude.{◌≡◌, List, ◌++◌, map, Option}
use Rattle.mb_model.specs.declared.entry.Entry.{Entry}
use Rattle.mb_model.specs.declared.entry.SignedEntry.{SignedEntry}
use Rattle.mb_model.specs.declared.entry.PublicEntry.{PublicEntry}
use Rattle.mb_model.specs.declared.stored.Pending.{Pending}
use Rattle.mb_model.specs.memories.OldFlash.{with_signature, without_signature}
use Rattle.mb_model.specs.memories.StoredLog.{AreCounted}

-- the stored entries are these signed ones, and after them these unsigned ones, as many as the pending work says
pub record IsSplitLog
    (entries : List PublicEntry) (pending : Option Pending) (signed : List SignedEntry) (unsigned : List Entry)
    : Type 0 where
  pub whole : entries ≡ map with_signature signed ++ map without_signature unsigned
  pub counted : AreCounted pending unsigned
