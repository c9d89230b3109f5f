-- The parts of a public record, as the code reads and writes them one after another.
use Rattle.std.specs.Prelude.{List}
use Rattle.std.specs.Int.{w16}
use Rattle.mb_format.specs.Format.{Format}
use Rattle.mb_format.specs.Combinators.{between, counted}
use Rattle.mb_model.specs.declared.limits.TheConstants.{ENTRY_LIMIT}
use Rattle.mb_model.specs.declared.entry.PublicEntry.{PublicEntry}
use Rattle.mb_model.specs.memories.PublicRecord.{public_entry_format}

-- the entries of a public record, after their number
unfoldable pub entries_format : Format (List PublicEntry)
entries_format = counted (between w16 1 ENTRY_LIMIT) public_entry_format
