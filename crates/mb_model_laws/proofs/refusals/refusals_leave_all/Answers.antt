use Rattle.mb_model_lemmas.proofs.RefusalLemmas as lemmas
use Rattle.mb_model_laws.proofs.refusals.refusals_leave_all.Goals as goal

pub returns : goal.returns
returns c = record { refused = lemmas.refusals_leave; no_memory = lemmas.no_memory_leaves; whole = lemmas.machine_is_whole }
