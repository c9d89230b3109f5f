use Rattle.mb_top_laws.proofs.LoadLemmas as lemmas
use Rattle.mb_top_laws.proofs.loads.loads_are_counted.Goals as goal

pub returns-clause-none : goal.returns-clause-none
returns-clause-none c = lemmas.all_load_nothing

pub returns-clause-once : goal.returns-clause-once
returns-clause-once c = lemmas.all_load_once

pub returns-clause-twice : goal.returns-clause-twice
returns-clause-twice c = lemmas.all_load_twice
