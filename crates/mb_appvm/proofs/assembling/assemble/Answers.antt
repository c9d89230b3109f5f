use Rattle.std.proofs.Common.{List, ℕ, length, arith, sym, ap, subst, ◌∙◌}
use Rattle.std.specs.Prelude.{All}
use Rattle.std.proofs.lemmas.Bool.{eqb-true, eqb-false}
use Rattle.std.proofs.lemmas.List.{nil_from_length}
use Rattle.mb_appvm.specs.declared.lines.Said.{Said}
use Rattle.mb_appvm.specs.Assembly.{IsSayable, Assembles}
use Rattle.mb_appvm.specs.Checking.{IsCode}
use Rattle.mb_appvm.proofs.Assemblies.{wrong_within, wrong_after, all_sayable, all_given, assembled}
use Rattle.mb_appvm.proofs.Soundness.{counts_as}
use Rattle.mb_appvm.proofs.assembling.assemble.Goals as goal
use Rattle.mb_appvm.proofs.assembling.assemble.Goals.{then-right-as_slice-via-then-right-as_slice, then-right-as_slice-via-else-right-as_slice+then-not-is_empty}

pub returns-then-right-as_slice-clause-assembled : goal.returns-then-right-as_slice-clause-assembled
returns-then-right-as_slice-clause-assembled c =
    let said = c.in_ok-said.said.items in
    let rest = c.in_ok-said.rest.now in
    let right = c.count_sound-right.result in
    let counts = counts_as c.in_ok-lines.lines said c.in_ok-later.later rest right c.in_ok-lines.ensures c.in_ok-later.ensures c.count_sound-right.ensures in
    elim c.then-right-as_slice.branch [
      | then-right-as_slice-via-then-right-as_slice w ↦
          wrong_within c.args.text.now rest said right c.in_ok-said.ensures counts (omega (arith, w.if-right-as_slice.true, ap length c.as_slice.ensures, ap length c.in_ok-lines.ensures))
      | then-right-as_slice-via-else-right-as_slice+then-not-is_empty w ↦
          wrong_after c.args.text.now rest said right c.in_ok-said.ensures counts
          (λ less. omega (arith, less, w.if-right-as_slice.false, ap length c.as_slice.ensures, ap length c.in_ok-lines.ensures))
          (omega (arith, eqb-false _ _ (sym w.is_empty.ensures ∙ w.if-not-is_empty.true), ap length c.in_ok-later.ensures))
    ]

pub write_code-requires-clause-sayable : goal.write_code-requires-clause-sayable
write_code-requires-clause-sayable c =
    let read = c.in_ok-said.ensures in
    subst (λ (x : List Said). All IsSayable x) (sym c.in_ok-lines.ensures) (all_sayable read.front c.in_ok-said.said.items read.worded)

pub write_code-requires-clause-given : goal.write_code-requires-clause-given
write_code-requires-clause-given c =
    all_given c.in_ok-lines.lines c.in_ok-later.later c.count_sound-right.result c.count_sound-right.ensures (λ less. omega (arith, less, c.if-right-as_slice.false, ap length c.as_slice.ensures))
    (nil_from_length c.in_ok-later.later (eqb-true _ _ (sym c.is_empty.ensures ∙ c.if-not-is_empty.false)))

pub returns-clause-assembled : goal.returns-clause-assembled
returns-clause-assembled c =
    let said = c.in_ok-said.said.items in
    let rest = c.in_ok-said.rest.now in
    let right = c.count_sound-right.result in
    let counts = counts_as c.in_ok-lines.lines said c.in_ok-later.later rest right c.in_ok-lines.ensures c.in_ok-later.ensures c.count_sound-right.ensures in
    let none = sym c.in_ok-later.ensures ∙ nil_from_length c.in_ok-later.later (eqb-true _ _ (sym c.is_empty.ensures ∙ c.if-not-is_empty.false)) in
    let is = subst (λ (x : List Said). IsCode x x c.in_ok-code.code.items) c.in_ok-lines.ensures c.in_ok-code.ensures in
    subst (λ (x : List ℕ). Assembles c.args.text.now x) (sym c.from_vec.ensures)
    (assembled c.args.text.now rest c.in_ok-code.code.items said right c.in_ok-said.ensures counts
    (λ less. omega (arith, less, c.if-right-as_slice.false, ap length c.as_slice.ensures, ap length c.in_ok-lines.ensures)) none is)
