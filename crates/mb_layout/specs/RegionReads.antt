-- What a reader of a region's record of either version answers. Which region is it, and where do bytes fail?
use Rattle.std.specs.Prelude.{ℕ, List, Result, Ok, Err}
use Rattle.mb_model.specs.declared.region.Region.{Region}
use Rattle.mb_model.specs.records.RegionFormat.{region_format, IsRecordOf}
use Rattle.mb_bytes.specs.declared.cursor.Cursor.{Cursor}
use Rattle.mb_bytes.specs.Reads.{IsRead, IsNotReadAt, FailsWholeAt}
use Rattle.mb_bytes.specs.declared.end.ReadEnd.{ReadEnd}
use Rattle.mb_bytes.specs.Ends.{end_at}

-- Ok exactly with the region whose record, of one of the versions, is spelled at the offset; the cursor then stands
-- after it. Else exactly the offset that fails, or no memory.
abbrev pub ReadsRegion : Cursor → Result Region ReadEnd → Cursor → Type 0
ReadsRegion old (Ok region) new = (version : ℕ) × IsRead region_format old (version, region) new
ReadsRegion old (Err end) new = IsNotReadAt region_format old (end_at end) new

-- Ok exactly with the region whose record, of one of the versions, the whole of the bytes spells. Else exactly the
-- offset that fails, or no memory.
abbrev pub ReadsWholeRegion : List ℕ → Result Region ReadEnd → Type 0
ReadsWholeRegion bytes (Ok region) = IsRecordOf bytes region
ReadsWholeRegion bytes (Err end) = FailsWholeAt region_format bytes (end_at end)
