use Rattle.std.proofs.Common.{length, ◌*◌, arith, rules}
use Rattle.mb_slot.proofs.Slotted.{on_ok}
use Rattle.mb_flash.proofs.Sectored.{sized_still, torn_sector, put_start}
use Rattle.mb_flash.proofs.sector.program.Goals as goal

pub returns-clause-written : goal.returns-clause-written
returns-clause-written g c = on_ok c.flash_program.result (λ whole. put_start c.args.sector _ _ c.args.bytes.now c.requires.sector c.requires.powered.loaded.flash whole) c.flash_program.ensures.stored

pub returns-clause-same : goal.returns-clause-same
returns-clause-same g c = torn_sector c.args.sector (length c.args.bytes.now) _ _ c.requires.sector c.requires.bytes c.requires.powered.loaded.flash c.flash_program.ensures.torn

pub returns-clause-ran : goal.returns-clause-ran
returns-clause-ran g c = record {
  ran = record {
    power = c.flash_program.ensures.power;
    level = c.flash_program.ensures.level;
    sized = sized_still (4096 * c.args.sector) (length c.args.bytes.now) _ _ c.requires.powered.loaded (omega (arith, c.requires.sector, c.requires.bytes)) c.flash_program.ensures.torn c.flash_program.ensures.bbram;
    ledger = c.flash_program.ensures.ledger;
    meter = search rules;
  };
  bbram = c.flash_program.ensures.bbram;
}
