use Rattle.std.proofs.Common.{List, ℕ, refl, ap, ◌∙◌}
use Rattle.mb_model_commands.specs.Commands.{at_first}
use Rattle.mb_hss.specs.HssKeyFormat.{hss_key_format}
use Rattle.mb_hss.specs.MakerFormat.{maker_format}
use Rattle.mb_hss.specs.MakerKeys.{maker_key}
use Rattle.mb_console.specs.Outputs.{writes}
use Rattle.mb_console.proofs.Leading.{begins, reads, stops_at_input, lacks_memory}
use Rattle.mb_tools_hss.specs.HssKeygen.{maker_text, hsskeygen}
use Rattle.mb_tools_hss.proofs.hsskeygen.hsskeygen.Goals as goal

pub returns-in_err-noise-clause-carried : goal.returns-in_err-noise-clause-carried
unfolding hsskeygen
returns-in_err-noise-clause-carried g c = λ final. stops_at_input _ _ _ begins c.from_residual.ensures.1 c.in_err-noise.ensures.err refl refl

pub returns-in_default-clause-carried : goal.returns-in_default-clause-carried
unfolding hsskeygen
returns-in_default-clause-carried g c = λ final. lacks_memory (reads begins c.in_ok-noise.ensures.read) tt refl refl

pub returns-clause-carried : goal.returns-clause-carried
unfolding hsskeygen writes
returns-clause-carried g c = λ final.
    let made = c.make_maker-maker.ensures.value in
    let is_file = ◌∙◌ {A = List ℕ} c.write_maker-file.ensures.whole (ap maker_format.spelling made) in
    let is_public = ◌∙◌ {A = List ℕ} c.hss_key_bytes-spelled.ensures (ap hss_key_format.spelling (c.public.ensures.key ∙ ap maker_key made)) in
    let is_text = ◌∙◌ {A = List ℕ} c.as_bytes.ensures.value (◌∙◌ {A = List ℕ} c.in-Ok.ensures (ap maker_text is_public)) in
    let carried = rw (is_file, is_public, is_text) at c.finish.ensures in
    (reads begins c.in_ok-noise.ensures.read).lead _ _ (carried at_first final)
