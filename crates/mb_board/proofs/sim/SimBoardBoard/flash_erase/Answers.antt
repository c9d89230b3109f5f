use Rattle.std.proofs.Common.{◌*◌, ap, ◌∙◌}
use Rattle.mb_model.specs.outside.Board.{memory_with_bytes, erased_bytes}
use Rattle.mb_model.proofs.Places.{length-erased}
use Rattle.mb_board.specs.Cuts.{torn_by}
use Rattle.mb_board.specs.Shown.{BankContents, BoardShown}
use Rattle.mb_board.proofs.Fillings.{length-torn_by}
use Rattle.mb_board.proofs.sim.SimBoardBoard.flash_erase.Goals as goal

pub returns-in-Ok-clause-torn : goal.returns-in-Ok-clause-torn
returns-in-Ok-clause-torn c = record {
  written = erased_bytes 4096;
  sized = length-erased 4096;
  whole =
      ap (λ (bank : BankContents). bank.bytes) c.erase.ensures
      ∙ ap (λ (board : BoardShown). memory_with_bytes (4096 * c.args.sector) (erased_bytes 4096) board.memory.flash) c.self.view_is;
}

abbrev pub returns-in-Err-clause-torn : goal.returns-in-Err-clause-torn
returns-in-Err-clause-torn c = record {
  written = torn_by c.in-Err.tear (erased_bytes 4096);
  sized = length-torn_by c.in-Err.tear (erased_bytes 4096) ∙ length-erased 4096;
  whole =
      ap (λ (bank : BankContents). bank.bytes) c.erase_torn.ensures
      ∙ ap (λ (board : BoardShown). memory_with_bytes (4096 * c.args.sector) (torn_by c.in-Err.tear (erased_bytes 4096)) board.memory.flash) c.self.view_is;
}
