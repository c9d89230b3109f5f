use Rattle.std.proofs.Common.{◌≡◌, ◌∙◌, sym, arith, true≢false}
use Rattle.mb_model.specs.owners.Regions.{empty_region}
use Rattle.mb_region.proofs.Replaced.{record_written, stands_written, record_short}
use Rattle.mb_region.proofs.stored.region_bytes.Goals as goal

pub returns-clause-spelled : goal.returns-clause-spelled
returns-clause-spelled c =
    let some : c.args.region.now ≡ empty_region → _ = λ e. true≢false (sym (c.is_empty.ensures.1 e) ∙ c.if-is_empty.false) in
    let wrote = record_written c.args.region.now c.clear.new.self c.write_region.new.out c.write_region.result c.requires.stored some c.write_region.ensures c.clear.ensures.items c.clear.ensures.len (omega (arith, c.clear.ensures.capacity, c.requires.room)) in
    stands_written c.write_region.new.out.items c.args.region.now c.requires.stored wrote.written

pub returns-clause-short : goal.returns-clause-short
returns-clause-short c = record_short c.write_region.new.out.items c.args.region.now (returns-clause-spelled c)

pub returns-clause-capacity : goal.returns-clause-capacity
returns-clause-capacity c =
    let some : c.args.region.now ≡ empty_region → _ = λ e. true≢false (sym (c.is_empty.ensures.1 e) ∙ c.if-is_empty.false) in
    let wrote = record_written c.args.region.now c.clear.new.self c.write_region.new.out c.write_region.result c.requires.stored some c.write_region.ensures c.clear.ensures.items c.clear.ensures.len (omega (arith, c.clear.ensures.capacity, c.requires.room)) in
    omega (arith, wrote.capacity, c.clear.ensures.capacity)
