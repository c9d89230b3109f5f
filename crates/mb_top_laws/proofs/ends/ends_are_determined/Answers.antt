use Rattle.mb_top_laws.proofs.EndLemmas as lemmas
use Rattle.mb_top_laws.proofs.AlikeRuns as runs
use Rattle.mb_top_laws.proofs.EndExamples as examples
use Rattle.mb_top_laws.proofs.DeadRuns as dead
use Rattle.mb_top_laws.proofs.ends.ends_are_determined.Goals as goal

pub returns-clause-commands : goal.returns-clause-commands
returns-clause-commands c = lemmas.commands_are_determined

pub returns-clause-disturbed : goal.returns-clause-disturbed
returns-clause-disturbed c = examples.disturbed_ends_differ

pub returns-clause-runs : goal.returns-clause-runs
returns-clause-runs c = runs.runs_agree

pub returns-clause-lacking : goal.returns-clause-lacking
returns-clause-lacking c = dead.lacking_runs_differ

pub returns-clause-images : goal.returns-clause-images
returns-clause-images c = dead.images_may_differ
