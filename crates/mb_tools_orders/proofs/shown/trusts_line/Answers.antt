use Rattle.std.specs.String.{string_bytes}
use Rattle.mb_tools_orders.proofs.Showing.{trusts_told}
use Rattle.mb_tools_orders.proofs.shown.trusts_line.Goals as goal

pub returns : goal.returns
returns c = trusts_told c.args.trusts (string_bytes c.in_ok-words.words) (string_bytes c.in_ok-format.field-0) c.in_ok-words.ensures c.in_ok-format.ensures.ok
