use Rattle.std.proofs.Common.{◌≡◌, ◌∙◌, sym, subst, List, ℕ, arith}
use Rattle.std.proofs.lemmas.List.{take_at}
use Rattle.mb_model.specs.records.RootFormat.{root_format}
use Rattle.mb_model.specs.memories.Memory.{area_of_slot, HoldsRecord}
use Rattle.mb_model_lemmas.proofs.PublicLemmas.{bounded_by}
use Rattle.mb_area.proofs.Rooted.{in_force, some_held}
use Rattle.mb_area.proofs.root.read_root.Goals as goal

pub held_root-requires : goal.held_root-requires
held_root-requires g c =
    let same : c.deref.result.now ≡ area_of_slot (g.B.Board.seen c.args.b.now).memory.bbram 1 = c.deref.ensures.value ∙ take_at c.read_current.new.out _ _ (omega arith) ∙ c.read_current.ensures in
    some_held c.deref.result.now (g.B.Board.seen c.args.b.now).memory same c.requires.root

pub returns-clause-current : goal.returns-clause-current
returns-clause-current g c =
    let same : c.deref.result.now ≡ area_of_slot (g.B.Board.seen c.args.b.now).memory.bbram 1 = c.deref.ensures.value ∙ take_at c.read_current.new.out _ _ (omega arith) ∙ c.read_current.ensures in
    record {
      holds = record { alive = c.requires.root.holds.alive; blank = c.requires.root.holds.blank; holds = in_force c.deref.result.now (g.B.Board.seen c.args.b.now).memory.bbram c.held_root.result same c.held_root.ensures.holds };
      only = λ root is. c.held_root.ensures.only root (subst (λ (xs : List ℕ). HoldsRecord root_format xs root) (sym same) is.holds);
    }

pub returns-clause-area : goal.returns-clause-area
returns-clause-area g c = (bounded_by c.held_root.result c.held_root.ensures.holds.spelled.allowed).area
