use Rattle.std.proofs.Common.{◌∙◌}
use Rattle.mb_fleet.proofs.Runs.{find_step, codes_step, on_ok_weaker}
use Rattle.mb_fleet.proofs.serving.serve_item.Goals as goal

pub returns-in_ok-serials-in-Find : goal.returns-in_ok-serials-in-Find
returns-in_ok-serials-in-Find c = rw c.in-Find.is (on_ok_weaker c.put_found.result
    (λ put. find_step c.args.root.now c.args.fleet.now c.in-Find.layer c.in-Find.hash c.as_slice-in-Find.result.now c.args.out.now.items c.put_found.new.out.items
    (c.as_slice-in-Find.ensures ∙ c.in_ok-serials-in-Find.ensures) put) c.put_found.ensures)

pub returns-in_ok-counts-in-Codes : goal.returns-in_ok-counts-in-Codes
returns-in_ok-counts-in-Codes c = rw c.in-Codes.is (on_ok_weaker c.put_codes.result
    (λ put. codes_step c.args.root.now c.args.fleet.now c.in-Codes.layer c.in_ok-counts-in-Codes.counts c.as_slice-in-Codes.result.now c.args.out.now.items c.put_codes.new.out.items
    c.in_ok-counts-in-Codes.ensures c.as_slice-in-Codes.ensures put) c.put_codes.ensures)
