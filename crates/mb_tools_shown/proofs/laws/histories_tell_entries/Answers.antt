use Rattle.mb_tools_shown.proofs.AlikeHistories.{histories_tell}
use Rattle.mb_tools_shown.proofs.laws.histories_tell_entries.Goals as goal

pub returns : goal.returns
returns c = histories_tell
