use Rattle.std.proofs.Common.{◌≤◌, length, sym, ap, ◌∙◌, subst}
use Rattle.mb_model.specs.chains.Lines.{ReadsLines, TextFailsAtLine}
use Rattle.mb_model.specs.chains.Script.{IsScript, IsShortNoise}
use Rattle.mb_model_lemmas.proofs.ScriptLemmas.{IsScript-events}
use Rattle.mb_model_lemmas.proofs.DrawLemmas.{drawn-length, drawn-script}
use Rattle.mb_tools_device.proofs.GenerateLemmas.{no_bad_line, no_short_noise}
use Rattle.mb_tools_device.proofs.generate.events_of.Goals as goal

pub unreachable-requires : goal.unreachable-requires
unreachable-requires c =
    let line = c.in-Err-BadLine.field-0-0 in
    let fails : TextFailsAtLine IsScript c.as_slice.result.now line = rw c.in-Err-BadLine.field-0-is at c.in-Err-BadLine.ensures in
    no_bad_line c.args.files.now.script c.requires.undrawn line c.requires.script (subst (λ t. TextFailsAtLine IsScript t line) c.as_slice.ensures fails)

pub unreachable-requires-in-Err : goal.unreachable-requires-in-Err
unreachable-requires-in-Err c =
    let read : ReadsLines IsScript c.args.files.now.script c.in-Ok.events = subst (λ t. ReadsLines IsScript t c.in-Ok.events) c.as_slice.ensures c.in-Ok.ensures in
    let short : IsShortNoise c.in-Ok.events c.args.files.now.noise = subst (λ n. IsShortNoise c.in-Ok.events n) c.as_slice-2.ensures c.in-Err.ensures.0 in
    no_short_noise c.args.files.now.script c.args.files.now.noise c.requires.undrawn c.in-Ok.events c.requires.script c.requires.noise read short

pub returns-clause-count : goal.returns-clause-count
returns-clause-count c =
    subst (λ n. n ≤ 65536) (sym (ap length c.in-Ok-place_draws.ensures.given ∙ drawn-length c.as_slice-2.result.now c.in-Ok.events)) c.in-Ok.ensures.stands.most

pub returns-clause-each : goal.returns-clause-each
returns-clause-each c =
    drawn-script c.in-Ok.events c.as_slice-2.result.now c.place_draws.new.events (IsScript-events c.in-Ok.ensures.lines c.in-Ok.events c.in-Ok.ensures.stands) c.in-Ok-place_draws.ensures
