use Rattle.std.proofs.Common.{ap, refl, ◌∙◌}
use Rattle.mb_model.specs.outside.Board.{memory_with_bytes}
use Rattle.mb_board.specs.Cuts.{torn_by}
use Rattle.mb_board.specs.Shown.{BankContents, BoardShown}
use Rattle.mb_board.proofs.Fillings.{length-torn_by}
use Rattle.mb_board.proofs.sim.SimBoardBoard.flash_program.Goals as goal

pub returns-in-Ok-clause-torn : goal.returns-in-Ok-clause-torn
returns-in-Ok-clause-torn c = record {
  written = c.args.bytes.now;
  sized = refl;
  whole =
      ap (λ (bank : BankContents). bank.bytes) c.write.ensures
      ∙ ap (λ (board : BoardShown). memory_with_bytes c.args.at c.args.bytes.now board.memory.flash) c.self.view_is;
}

abbrev pub returns-in-Err-clause-torn : goal.returns-in-Err-clause-torn
returns-in-Err-clause-torn c = record {
  written = torn_by c.in-Err.tear c.args.bytes.now;
  sized = length-torn_by c.in-Err.tear c.args.bytes.now;
  whole =
      ap (λ (bank : BankContents). bank.bytes) c.write_torn.ensures
      ∙ ap (λ (board : BoardShown). memory_with_bytes c.args.at (torn_by c.in-Err.tear c.args.bytes.now) board.memory.flash) c.self.view_is;
}
