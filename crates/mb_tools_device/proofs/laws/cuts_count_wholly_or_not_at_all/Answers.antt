use Rattle.mb_tools_device.proofs.OutcomeLemmas.{cuts_count_wholly_or_not_at_all}
use Rattle.mb_tools_device.proofs.laws.cuts_count_wholly_or_not_at_all.Goals as goal

pub returns : goal.returns
returns c = cuts_count_wholly_or_not_at_all
