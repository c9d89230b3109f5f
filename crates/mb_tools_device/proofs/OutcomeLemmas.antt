-- The machine comes to one state, so a second run that does not leave it leaves the state after the last event.
use Rattle.std.proofs.Common.{◌≡◌, List, [], ◌∷◌, inl, inr, sym, ◌∙◌, ap, subst}
use Rattle.std.specs.Prelude.{All}
use Rattle.std.proofs.lemmas.List.Elements.{All-head, All-tail}
use Rattle.mb_model.specs.declared.event.Event.{Event}
use Rattle.mb_model.specs.machine.Machine.{World, opening_world}
use Rattle.mb_model_lemmas.specs.RefusalLaws.{BringsBytes}
use Rattle.mb_model_lemmas.proofs.RefusalLemmas.{machine_is_function}
use Rattle.mb_tools_device.specs.MachineRuns.{MachineRun}
use Rattle.mb_tools_device.specs.CutOutcomes.{CutsCountWhollyOrNotAtAll}

one_last : (world : World) (events : List Event) (last other : World) → All BringsBytes events → MachineRun world events last → MachineRun world events other → last ≡ other
one_last world [] last other bytes run again = run ∙ sym again
one_last world (this ∷ rest) last other bytes run again =
    let same = machine_is_function world this run.0 again.0 run.1 again.1 (All-head BringsBytes this rest bytes) run.2 again.2 in
    one_last run.1 rest last other (All-tail BringsBytes this rest bytes) run.3 (subst (λ (w : World). MachineRun w rest other) (sym same.1) again.3)

pub cuts_count_wholly_or_not_at_all : CutsCountWhollyOrNotAtAll
cuts_count_wholly_or_not_at_all image count cut first second held final bytes rehearsed found served whole stopped =
    let before = rehearsed.whole found in
    let told = served.counts whole stopped in
    let one : told.0 ≡ before.0 =
    sym told.2.state ∙ ap (λ (w : World). w.state) (one_last (opening_world image.state) cut.first told.2.last before.2.last bytes told.2.run before.2.run) ∙ before.2.state in
    elim told.4 [
      | inl old ↦ inl (record { state = before.0; first = before.1; second = record { world = old.world; shown = old.shown; is = old.is ∙ one } })
      | inr new ↦ inr (record { state = told.1; shown = new; comes = told.3 })
    ]
