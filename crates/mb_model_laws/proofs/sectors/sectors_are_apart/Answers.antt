use Rattle.mb_model_laws.proofs.SectorLemmas as lemmas
use Rattle.mb_model_laws.proofs.sectors.sectors_are_apart.Goals as goal

pub returns-clause-slots : goal.returns-clause-slots
returns-clause-slots c = lemmas.slots_apart

pub returns-clause-between : goal.returns-clause-between
returns-clause-between c = lemmas.slots_between
