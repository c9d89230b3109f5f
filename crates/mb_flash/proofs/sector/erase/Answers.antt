use Rattle.std.proofs.Common.{lit≤, ◌*◌, arith, rules}
use Rattle.mb_slot.proofs.Slotted.{on_ok}
use Rattle.mb_flash.proofs.Sectored.{sized_still, torn_sector, erased_start}
use Rattle.mb_flash.proofs.sector.erase.Goals as goal

pub returns-clause-blank : goal.returns-clause-blank
returns-clause-blank g c = on_ok c.flash_erase.result (λ whole n few. erased_start c.args.sector n _ _ c.requires.sector few c.requires.powered.loaded.flash whole) c.flash_erase.ensures.erased

pub returns-clause-same : goal.returns-clause-same
returns-clause-same g c = torn_sector c.args.sector 4096 _ _ c.requires.sector (lit≤ tt) c.requires.powered.loaded.flash c.flash_erase.ensures.torn

pub returns-clause-ran : goal.returns-clause-ran
returns-clause-ran g c = record {
  ran = record {
    power = c.flash_erase.ensures.power;
    level = c.flash_erase.ensures.level;
    sized = sized_still (4096 * c.args.sector) 4096 _ _ c.requires.powered.loaded (omega (arith, c.requires.sector)) c.flash_erase.ensures.torn c.flash_erase.ensures.bbram;
    ledger = c.flash_erase.ensures.ledger;
    meter = search rules;
  };
  bbram = c.flash_erase.ensures.bbram;
}
