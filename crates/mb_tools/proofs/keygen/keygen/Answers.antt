use Rattle.std.proofs.Common.{List, ℕ, refl, ap, ◌∙◌}
use Rattle.mb_model.specs.signatures.Key.{key_bytes}
use Rattle.mb_model.specs.signatures.Signing.{public_of}
use Rattle.mb_model.specs.records.KeyFormat.{keyfile_format}
use Rattle.mb_model_commands.specs.Keygen.{new_key, owner_text, keygen}
use Rattle.mb_model_commands.specs.Commands.{at_first}
use Rattle.mb_console.specs.Outputs.{writes}
use Rattle.mb_console.proofs.Leading.{begins, reads, stops_at_input, lacks_memory}
use Rattle.mb_tools.proofs.keygen.keygen.Goals as goal

pub returns-in_err-noise-clause-carried : goal.returns-in_err-noise-clause-carried
unfolding keygen
returns-in_err-noise-clause-carried g c = λ final. stops_at_input _ _ _ begins c.from_residual.ensures.1 c.in_err-noise.ensures.err refl refl

pub returns-in_default-clause-carried : goal.returns-in_default-clause-carried
unfolding keygen
returns-in_default-clause-carried g c = λ final. lacks_memory (reads begins c.in_ok-noise.ensures.read) tt refl refl

pub returns-clause-carried : goal.returns-clause-carried
unfolding keygen writes new_key
returns-clause-carried g c = λ final.
    let made = c.make_key-key.ensures in
    let is_owner = c.public-owner.ensures.key ∙ ap (λ key. public_of key.seed) made in
    let is_file = ◌∙◌ {A = List ℕ} c.write_keyfile-file.ensures (ap keyfile_format.spelling made) in
    let is_public = ◌∙◌ {A = List ℕ} c.key_bytes-spelled.ensures (ap key_bytes is_owner) in
    let is_text = ◌∙◌ {A = List ℕ} c.as_bytes.ensures.value (◌∙◌ {A = List ℕ} c.in-Ok.ensures (ap (λ owner. owner_text (key_bytes owner)) is_owner)) in
    let carried = rw (is_file, is_public, is_text) at c.finish.ensures in
    (reads begins c.in_ok-noise.ensures.read).lead _ _ (carried at_first final)
