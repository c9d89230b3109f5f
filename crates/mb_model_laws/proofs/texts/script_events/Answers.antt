use Rattle.mb_model_lemmas.proofs.DrawLemmas as draws
use Rattle.mb_model_lemmas.proofs.ScriptLemmas.{IsScript-events}
use Rattle.mb_model_laws.proofs.SaidLemmas as lemmas
use Rattle.mb_model_laws.proofs.texts.script_events.Goals as goal

pub returns : goal.returns
returns c = record { given = IsScript-events; said = lemmas.said; drawn = draws.drawn-script }
