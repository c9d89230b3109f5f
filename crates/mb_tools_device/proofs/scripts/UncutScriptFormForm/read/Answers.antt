use Rattle.std.proofs.Common.{List, ℕ, inr, refl, subst}
use Rattle.mb_model.specs.declared.event.Event.{Event}
use Rattle.mb_model.specs.chains.Lines.{ReadsLines}
use Rattle.mb_model.specs.chains.Script.{IsScript}
use Rattle.mb_script.specs.Reading.{IsLineOf}
use Rattle.mb_model_lemmas.proofs.ScriptLemmas.{IsScript-events}
use Rattle.mb_tools_device.specs.CutCommand.{AreUncut}
use Rattle.mb_tools_device.specs.Refusing.{IsFirstRefused}
use Rattle.mb_tools_device.proofs.RefusingLemmas.{refused_line}
use Rattle.mb_tools_device.proofs.scripts.UncutScriptFormForm.read.Goals as goal

pub returns-in-Some-clause-err : goal.returns-in-Some-clause-err
returns-in-Some-clause-err c =
    let text = c.args.bytes.items in
    let events = c.in-Ok.events in
    let reads : ReadsLines IsScript text events = subst (λ (t : List ℕ). ReadsLines IsScript t events) c.deref.ensures.value c.in-Ok.ensures in
    let first : IsFirstRefused events c.in-Some.index = subst (λ (l : List Event). IsFirstRefused l c.in-Some.index) c.as_slice.ensures c.in-Some.ensures in
    let line : IsLineOf text c.in-Some.index c.line_of.result = subst (λ (t : List ℕ). IsLineOf t c.in-Some.index c.line_of.result) c.deref-in-Some.ensures.value c.line_of.ensures in
    (c.line_of.result, refl, inr (record { events = events; script = reads; fails = refused_line text events c.in-Some.index c.line_of.result reads first line }))

pub returns-in-Ok-clause-keeps : goal.returns-in-Ok-clause-keeps
returns-in-Ok-clause-keeps c =
    (subst AreUncut c.as_slice.ensures c.in-None.ensures, IsScript-events c.in-Ok.ensures.lines c.in-Ok.events c.in-Ok.ensures.stands)
