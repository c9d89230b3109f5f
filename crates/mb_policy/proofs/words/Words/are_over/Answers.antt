use Rattle.mb_policy.proofs.Parts.{over}
use Rattle.mb_policy.proofs.words.Words.are_over.Goals as goal

pub returns : goal.returns
returns c = rw (← c.self.view_is) (over c.self.inside.are_left c.self.inside.text.now)
