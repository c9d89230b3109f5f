use Rattle.std.proofs.Common.{◌≤◌, length, sym, ap, ◌∙◌, subst}
use Rattle.mb_model_lemmas.proofs.DrawLemmas.{drawn-length, drawn-script}
use Rattle.mb_tools_device.proofs.scripts.read_draws.Goals as goal

pub returns-in-Ok-clause-count : goal.returns-in-Ok-clause-count
returns-in-Ok-clause-count g c =
    subst (λ n. n ≤ 65536) (sym (ap length c.in-Ok.ensures.given ∙ drawn-length c.deref.result.now c.args.events)) c.requires.count

pub returns-in-Ok-clause-events : goal.returns-in-Ok-clause-events
returns-in-Ok-clause-events g c = drawn-script c.args.events c.deref.result.now c.place_draws.new.events c.requires.events c.in-Ok.ensures
