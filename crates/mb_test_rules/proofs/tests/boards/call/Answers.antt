use Rattle.std.proofs.Common.{length, ap, ◌∙◌, arith}
use Rattle.mb_model.specs.outside.Board.{Memory}
use Rattle.mb_board.specs.Reach.{in_first_area}
use Rattle.mb_board.proofs.TornLemmas.{torn_length}
use Rattle.mb_test_rules.proofs.tests.boards.call.Goals as goal

pub bbram_write-requires-clause-reached : goal.bbram_write-requires-clause-reached
bbram_write-requires-clause-reached c =
    rw c.requires.level
    (in_first_area 1 record { least = omega arith; most = omega arith; reached = omega arith } (omega arith) (omega arith))

pub returns-in-Erase-clause-loaded : goal.returns-in-Erase-clause-loaded
returns-in-Erase-clause-loaded c = record {
  flash = torn_length _ _ _ _ c.flash_erase.ensures.torn (omega arith) ∙ c.requires.loaded.flash;
  bbram = ap (λ (memory : Memory). length memory.bbram) c.flash_erase.ensures.left ∙ c.requires.loaded.bbram;
}

pub returns-in-Program-clause-loaded : goal.returns-in-Program-clause-loaded
returns-in-Program-clause-loaded c = record {
  flash = torn_length _ _ _ _ c.flash_program.ensures.torn (omega arith) ∙ c.requires.loaded.flash;
  bbram = ap (λ (memory : Memory). length memory.bbram) c.flash_program.ensures.left ∙ c.requires.loaded.bbram;
}

pub returns-in-Write-clause-loaded : goal.returns-in-Write-clause-loaded
returns-in-Write-clause-loaded c = record {
  flash = ap (λ (memory : Memory). length memory.flash) c.bbram_write.ensures.left ∙ c.requires.loaded.flash;
  bbram = torn_length _ _ _ _ c.bbram_write.ensures.torn (omega arith) ∙ c.requires.loaded.bbram;
}
