-- Parts of a chain, as the code reads and writes them one after another.
use Rattle.std.specs.Prelude.{List}
use Rattle.std.specs.Int.{w16}
use Rattle.mb_format.specs.Format.{Format}
use Rattle.mb_format.specs.Combinators.{between, counted}
use Rattle.mb_model.specs.declared.limits.TheConstants.{ENTRY_LIMIT}
use Rattle.mb_model.specs.declared.entry.SignedEntry.{SignedEntry}
use Rattle.mb_model.specs.records.EntryFormat.{signed_entry_format}

-- the entries of a chain, after their number
unfoldable pub chain_entries_format : Format (List SignedEntry)
chain_entries_format = counted (between w16 1 ENTRY_LIMIT) signed_entry_format
