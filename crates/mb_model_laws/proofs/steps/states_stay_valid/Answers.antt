use Rattle.mb_model_lemmas.proofs.ValidSteps as lemmas
use Rattle.mb_model_laws.proofs.steps.states_stay_valid.Goals as goal

pub returns-clause-step : goal.returns-clause-step
returns-clause-step c = lemmas.step_valid

pub returns-clause-run : goal.returns-clause-run
returns-clause-run c = lemmas.run_valid
