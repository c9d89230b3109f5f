use Rattle.std.proofs.Common.{ap, refl, ◌∙◌}
use Rattle.mb_model.specs.outside.Board.{memory_with_bytes}
use Rattle.mb_board.specs.Cuts.{torn_by}
use Rattle.mb_board.specs.Shown.{BankContents, BoardShown}
use Rattle.mb_board.proofs.Fillings.{length-torn_by}
use Rattle.mb_board.proofs.Reaching.{within_sector}
use Rattle.mb_board.proofs.sim.SimBoardBoard.bbram_write.Goals as goal

pub write-requires-clause-one_sector : goal.write-requires-clause-one_sector
write-requires-clause-one_sector c = within_sector _ _ _ c.requires.reached

pub write_torn-requires-clause-one_sector : goal.write_torn-requires-clause-one_sector
write_torn-requires-clause-one_sector c = within_sector _ _ _ c.requires.reached

pub returns-in-Ok-clause-torn : goal.returns-in-Ok-clause-torn
returns-in-Ok-clause-torn c = record {
  written = c.args.bytes.now;
  sized = refl;
  whole =
      ap (λ (bank : BankContents). bank.bytes) c.write.ensures
      ∙ ap (λ (board : BoardShown). memory_with_bytes c.args.at c.args.bytes.now board.memory.bbram) c.self.view_is;
}

abbrev pub returns-in-Err-clause-torn : goal.returns-in-Err-clause-torn
returns-in-Err-clause-torn c = record {
  written = torn_by c.in-Err.tear c.args.bytes.now;
  sized = length-torn_by c.in-Err.tear c.args.bytes.now;
  whole =
      ap (λ (bank : BankContents). bank.bytes) c.write_torn.ensures
      ∙ ap (λ (board : BoardShown). memory_with_bytes c.args.at (torn_by c.in-Err.tear c.args.bytes.now) board.memory.bbram) c.self.view_is;
}
