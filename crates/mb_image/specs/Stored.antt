-- What is stored, as it was read. Can the work that is pending be completed?
use Rattle.std.specs.Prelude.{◌+◌, ◌≤◌, length, All, IfSome}
use Rattle.mb_model.specs.declared.limits.TheConstants.{KEY_USES, ENTRY_LIMIT}
use Rattle.mb_model.specs.records.EntryFormat.{entry_format}
use Rattle.mb_model.specs.memories.StoredLog.{outgoing_of}
use Rattle.mb_model.specs.memories.Meaning.{Contents}
use Rattle.mb_image.specs.declared.stored.Stored.{Stored}

abbrev pub contents_of : Stored → Contents
contents_of stored = record {
  root = stored.root;
  codes = stored.codes;
  signed = stored.signed;
  unsigned = stored.unsigned;
  two = stored.two;
  three = stored.three;
}

-- the uses of the device keys are in their range, there are at most 128 entries, each has a spelling, and at most two
-- are unsigned
pub record CanBeCompleted (contents : Contents) : Type 0 where
  pub uses : contents.root.uses ≤ KEY_USES
  pub outgoing : IfSome (outgoing_of contents.root.pending) (λ outgoing. outgoing.uses ≤ KEY_USES)
  pub few : length contents.signed + length contents.unsigned ≤ ENTRY_LIMIT
  pub unsigned : length contents.unsigned ≤ 2
  pub signed_spelled : All (λ signed. entry_format.Allowed signed.entry) contents.signed
  pub unsigned_spelled : All entry_format.Allowed contents.unsigned
