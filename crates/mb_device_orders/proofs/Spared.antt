-- How the signed entries of the log and the sectors that hold nothing stay where the flash does.
use Rattle.std.proofs.Common.{◌≡◌, List, ℕ, ap}
use Rattle.mb_model.specs.outside.Board.{Memory}
use Rattle.mb_model.specs.memories.Flash.{sector}
use Rattle.mb_model.specs.memories.Sectors.{log_sector}
use Rattle.mb_model.specs.memories.Spared.{SparesSectors}

pub same_flash_spared : (before after : Memory) → after.flash ≡ before.flash → SparesSectors before after
same_flash_spared before after same = record {
  log = record { kept = λ root header has holds position less. ap (λ (flash : List ℕ). sector flash (log_sector position)) same };
  unused = λ n is. ap (λ (flash : List ℕ). sector flash n) same;
}

pub same_memory_spared : (before after : Memory) → after ≡ before → SparesSectors before after
same_memory_spared before after same = same_flash_spared before after (ap (λ (m : Memory). m.flash) same)
