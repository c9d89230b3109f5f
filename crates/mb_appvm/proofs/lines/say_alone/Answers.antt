use Rattle.mb_appvm.proofs.Words.{says_alone}
use Rattle.mb_appvm.proofs.lines.say_alone.Goals as goal

pub returns-in-Plain : goal.returns-in-Plain
returns-in-Plain c = says_alone c.args.keyword c.in-Plain.plain c.in-Plain.is
