use Rattle.std.proofs.Common.{sym, subst, List, ℕ, ◌∙◌}
use Rattle.mb_model.specs.records.HeaderFormat.{header_format}
use Rattle.mb_model.specs.memories.Sectors.{BeginsAs}
use Rattle.mb_device_orders.proofs.Planned.{read_short}
use Rattle.mb_device_orders.proofs.remembering.read_noted.Goals as goal

pub noted_in-requires : goal.noted_in-requires
noted_in-requires g c = read_short (g.B.Board.seen c.args.b.now).memory.flash c.deref.result.now _ (c.deref.ensures.value ∙ c.read_header.ensures.read)

pub returns-clause-noted : goal.returns-clause-noted
returns-clause-noted g c = λ header holds.
    c.noted_in.ensures.noted header (subst (λ (xs : List ℕ). BeginsAs header_format xs header) (sym (c.deref.ensures.value ∙ c.read_header.ensures.read)) holds)
