use Rattle.std.proofs.Common.{◌≡◌, ap, ◌∙◌, arith}
use Rattle.mb_format.specs.Format.{IsBytes}
use Rattle.mb_model.specs.memories.Sectors.{log_sector}
use Rattle.mb_model.specs.memories.Flash.{sector}
use Rattle.mb_image.proofs.Sectors.{log_text_short, no_sector, no_entry, found_entry}
use Rattle.mb_image.proofs.segments.signed_at.Goals as goal

pub returns-in_default : goal.returns-in_default
returns-in_default c =
    let is : c.sector.result.now ≡ sector c.args.flash.now (log_sector c.args.position) = c.sector.ensures.found ∙ ap (sector c.args.flash.now) c.log_sector.ensures in
    no_sector c.sector.result.now _ is c.in_default.ensures

pub entry_in-requires : goal.entry_in-requires
entry_in-requires c = log_text_short c.sector.result.now c.in-Some.stored.text.now c.in-Some.stored.signature c.in-Some.ensures

pub returns-in_default-entry_in : goal.returns-in_default-entry_in
returns-in_default-entry_in c =
    let are : IsBytes c.args.flash.now = λ i. omega (arith, c.type_inv.flash i) in
    let is : c.sector.result.now ≡ sector c.args.flash.now (log_sector c.args.position) = c.sector.ensures.found ∙ ap (sector c.args.flash.now) c.log_sector.ensures in
    no_entry c.args.flash.now (log_sector c.args.position) c.sector.result.now c.in-Some.stored.text.now c.in-Some.stored.signature are is c.in-Some.ensures c.in_default-entry_in.ensures

pub returns : goal.returns
returns c =
    let is : c.sector.result.now ≡ sector c.args.flash.now (log_sector c.args.position) = c.sector.ensures.found ∙ ap (sector c.args.flash.now) c.log_sector.ensures in
    found_entry c.sector.result.now _ is c.in-Some.stored.text.now _ c.in-Some.ensures c.in-Some-entry_in.ensures
