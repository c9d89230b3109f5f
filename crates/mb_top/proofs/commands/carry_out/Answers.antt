use Rattle.std.proofs.Common.{◌≤◌, ℕ, List, ap, sym, subst, arith}
use Rattle.mb_script.specs.Reading.{IsFill}
use Rattle.mb_top.proofs.Requests.{takes_layer, layer_of, rounds_of, levels_of, count_of, fill_of}
use Rattle.mb_top.proofs.commands.carry_out.Goals as goal

pub countersign-requires : goal.countersign-requires
countersign-requires g c =
    let within = layer_of c.requires.called.0 _ _ (ap takes_layer c.in-Countersign.is) c.requires.called.1 in
    grind (arith, within, ap (λ names. names.layer) c.of-in-Countersign.ensures)

pub cosign-requires : goal.cosign-requires
cosign-requires g c =
    let within = layer_of c.requires.called.0 _ _ (ap takes_layer c.in-Cosign.is) c.requires.called.1 in
    grind (arith, within, ap (λ names. names.layer) c.of-in-Cosign.ensures)

pub generate-requires-clause-rounds : goal.generate-requires-clause-rounds
generate-requires-clause-rounds g c =
    subst (λ n. (1 ≤ n) × (n ≤ 24)) (sym (ap (λ names. names.rounds) c.of-in-Generate.ensures))
    (rounds_of c.requires.called.0 _ _ c.in-Generate.is c.requires.called.1)

pub hsskeygen-requires : goal.hsskeygen-requires
hsskeygen-requires g c =
    subst (λ n. (1 ≤ n) × (n ≤ 8)) (sym (ap (λ names. names.levels) c.of-in-Hsskeygen.ensures))
    (levels_of c.requires.called.0 _ _ c.in-Hsskeygen.is c.requires.called.1)

pub app-requires : goal.app-requires
app-requires g c =
    let within = layer_of c.requires.called.0 _ _ (ap takes_layer c.in-App.is) c.requires.called.1 in
    grind (arith, within, ap (λ names. names.layer) c.of-in-App.ensures)

pub cutat-requires-clause-count : goal.cutat-requires-clause-count
cutat-requires-clause-count g c =
    subst (λ n. (1 ≤ n) × (n ≤ 100000)) (sym (ap (λ names. names.count) c.of-in-Cutat.ensures))
    (count_of c.requires.called.0 _ _ c.in-Cutat.is c.requires.called.1)

pub cutat-requires-clause-fill : goal.cutat-requires-clause-fill
cutat-requires-clause-fill g c =
    let filled = fill_of c.requires.called.0 _ _ c.in-Cutat.is c.requires.called.1 in
    subst (λ (word : List ℕ). (bytes : List ℕ) × IsFill word bytes) (sym (ap (λ names. names.fill) c.of-in-Cutat.ensures)) filled
