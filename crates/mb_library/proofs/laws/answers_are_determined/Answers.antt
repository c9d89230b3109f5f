use Rattle.mb_library.proofs.Determined.{lms_determined, chains_determined, said_determined, trust_determined}
use Rattle.mb_library.proofs.laws.answers_are_determined.Goals as goal

pub returns-clause-lms : goal.returns-clause-lms
returns-clause-lms c = lms_determined

pub returns-clause-chains : goal.returns-clause-chains
returns-clause-chains c = chains_determined

pub returns-clause-said : goal.returns-clause-said
returns-clause-said c = said_determined

pub returns-clause-trust : goal.returns-clause-trust
returns-clause-trust c = trust_determined
