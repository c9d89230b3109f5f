use Rattle.mb_tools_shown.proofs.HistoryLemmas.{signers_accepted, refusals_as_verify}
use Rattle.mb_tools_shown.proofs.laws.refusals_are_those_of_verify.Goals as goal

pub returns-clause-signers : goal.returns-clause-signers
returns-clause-signers c = signers_accepted

pub returns-clause-refusals : goal.returns-clause-refusals
returns-clause-refusals c = refusals_as_verify
