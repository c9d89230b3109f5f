use Rattle.mb_model_runs.proofs.SoundLemmas as lemmas
use Rattle.mb_model_runs.proofs.StatementLemmas.{statements_stay_accepted}
use Rattle.mb_model_runs.proofs.runs.runs_are_sound.Goals as goal

pub returns : goal.returns
returns c = record { sound = lemmas.run_is_sound; accepted = statements_stay_accepted }
