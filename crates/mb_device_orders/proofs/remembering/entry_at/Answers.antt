use Rattle.std.proofs.Common.{sym, subst, List, ℕ, ◌∙◌}
use Rattle.mb_model.specs.memories.Flash.{HoldsEntry}
use Rattle.mb_device_orders.proofs.Planned.{read_short}
use Rattle.mb_device_orders.proofs.remembering.entry_at.Goals as goal

pub entry_in-requires : goal.entry_in-requires
entry_in-requires g c = read_short (g.B.Board.seen c.args.b.now).memory.flash c.deref.result.now _ (c.deref.ensures.value ∙ c.read_log.ensures.read)

pub returns : goal.returns
returns g c = λ signed holds. c.entry_in.ensures signed (subst (λ (xs : List ℕ). HoldsEntry xs signed) (sym (c.deref.ensures.value ∙ c.read_log.ensures.read)) holds)
