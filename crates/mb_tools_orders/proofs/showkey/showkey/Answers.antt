use Rattle.std.proofs.Common.{ℕ, List, refl, ap, subst, ◌∙◌}
use Rattle.mb_model.specs.declared.key.PublicKey.{PublicKey}
use Rattle.mb_model.specs.signatures.Signing.{public_of}
use Rattle.mb_model_commands.specs.Commands.{print, at_first}
use Rattle.mb_console.specs.Ending.{CarriesOutAfter}
use Rattle.mb_console.specs.Outputs.{writes}
use Rattle.mb_console.proofs.Leading.{begins, reads, stops_at_input, lacks_memory}
use Rattle.mb_tools_orders.specs.ShowKey.{key_text, showkey}
use Rattle.mb_tools_orders.proofs.showkey.showkey.Goals as goal

pub returns-in_err-key-clause-carried : goal.returns-in_err-key-clause-carried
unfolding showkey
returns-in_err-key-clause-carried g c = λ final. stops_at_input _ _ _ begins c.from_residual.ensures.1 c.in_err-key.ensures.err refl refl

pub returns-in_default-clause-carried : goal.returns-in_default-clause-carried
unfolding showkey
returns-in_default-clause-carried g c = λ final. lacks_memory (reads begins c.in_ok-key.ensures.read) tt refl refl

pub returns-clause-carried : goal.returns-clause-carried
unfolding showkey writes
returns-clause-carried g c = λ final.
    let outside = g.H.Host.outside in
    let text_is = c.as_bytes.ensures.value ∙ c.in-Ok.ensures ∙ ap (λ (o : PublicKey). key_text o c.number.result) c.public-owner.ensures.key
    ∙ ap (key_text (public_of c.in_ok-key.key.seed)) c.number.ensures.number in
    let told = subst (λ (t : List ℕ). CarriesOutAfter (print t) (outside c.read_as.new.host) c.finish.result (outside c.finish.new.host)) text_is c.finish.ensures in
    (reads begins c.in_ok-key.ensures.read).lead _ _ (told at_first final)
