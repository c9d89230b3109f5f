use Rattle.std.proofs.Common.{List, ℕ, refl, ap, ◌∙◌}
use Rattle.mb_model_commands.specs.Commands.{at_first}
use Rattle.mb_hss.specs.HssKeyFormat.{hss_key_format}
use Rattle.mb_console.specs.Outputs.{writes}
use Rattle.mb_console.proofs.Leading.{begins, reads, stops_at_input, lacks_memory}
use Rattle.mb_tools_hss.specs.ShowMaker.{maker_lines, showmaker}
use Rattle.mb_tools_hss.proofs.showmaker.showmaker.Goals as goal

pub returns-in_err-maker-clause-carried : goal.returns-in_err-maker-clause-carried
unfolding showmaker
returns-in_err-maker-clause-carried g c = λ final. stops_at_input _ _ _ begins c.from_residual.ensures.1 c.in_err-maker.ensures.err refl refl

pub returns-in_default-clause-carried : goal.returns-in_default-clause-carried
unfolding showmaker
returns-in_default-clause-carried g c = λ final. lacks_memory (reads begins c.in_ok-maker.ensures.read) tt refl refl

pub returns-clause-carried : goal.returns-clause-carried
unfolding showmaker writes
returns-clause-carried g c = λ final.
    let is_public = ◌∙◌ {A = List ℕ} c.hss_key_bytes-spelled.ensures (ap hss_key_format.spelling c.public.ensures.key) in
    let is_text = ◌∙◌ {A = List ℕ} c.as_bytes.ensures.value (◌∙◌ {A = List ℕ} c.in-Ok.ensures (ap (λ (p : List ℕ). maker_lines p c.in_ok-maker.maker) is_public)) in
    let carried = rw is_text at c.finish.ensures in
    (reads begins c.in_ok-maker.ensures.read).lead _ _ (carried at_first final)
