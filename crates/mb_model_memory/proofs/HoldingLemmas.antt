-- What keeps the meaning of a memory.
use Rattle.std.proofs.Common.{sym}
use Rattle.mb_model.specs.outside.Board.{Memory, IsLoaded}
use Rattle.mb_model_memory.specs.Holding.{KeepsContents, KeepsMeaning}
use Rattle.mb_model_memory.proofs.CommitLemmas.{live_contents, stands_for_meant}

pub keeps_then : (before between after : Memory) → KeepsMeaning before between → KeepsMeaning between after → KeepsMeaning before after
keeps_then before between after first second = record { kept = λ state means. second.kept state (first.kept state means) }

-- what keeps the contents keeps the meaning
pub contents_keep : (before after : Memory) → IsLoaded after → KeepsContents before after → KeepsMeaning before after
contents_keep before after sized keep = record {
  kept = λ state means. (
      let live = live_contents before.flash before.bbram state means in
      stands_for_meant after.flash after.bbram live.contents state sized (keep.kept live.contents live.holds) live.index (sym live.means));
}
