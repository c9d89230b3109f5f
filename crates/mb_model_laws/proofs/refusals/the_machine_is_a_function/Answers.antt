use Rattle.mb_model_lemmas.proofs.RefusalLemmas as lemmas
use Rattle.mb_model_laws.proofs.refusals.the_machine_is_a_function.Goals as goal

pub returns : goal.returns
returns c = record { one = lemmas.machine_is_function; some = lemmas.machine_answers; phase = lemmas.phases_stay_phases }
