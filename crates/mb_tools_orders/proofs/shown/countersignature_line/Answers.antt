use Rattle.std.specs.String.{string_bytes}
use Rattle.mb_tools_orders.proofs.Showing.{countersignature_told}
use Rattle.mb_tools_orders.proofs.shown.countersignature_line.Goals as goal

pub returns : goal.returns
returns c = countersignature_told c.args.by.now c.as_slice.result.now (string_bytes c.in_ok-format.field-0) c.as_slice.ensures c.in_ok-format.ensures.ok
