use Rattle.std.proofs.Common.{arith}
use Rattle.mb_model_lemmas.proofs.ScriptLemmas.{IsScript-events}
use Rattle.mb_tools_device.proofs.scripts.WholeScriptFormForm.read.Goals as goal

pub returns-in-Ok-clause-keeps : goal.returns-in-Ok-clause-keeps
returns-in-Ok-clause-keeps c =
    (c.requires.fits, c.in-Ok.ensures.stands.most, IsScript-events c.in-Ok.ensures.lines c.in-Ok.events c.in-Ok.ensures.stands)
