use Rattle.mb_appvm.proofs.Names.{found_there, found_nowhere}
use Rattle.mb_appvm.proofs.secrets.value_of.Goals as goal

pub returns-in-Some : goal.returns-in-Some
returns-in-Some c =
    found_there c.args.name.now c.args.secrets.now c.in-Some.at c.index-secrets-at.result c.as_slice.result.now c.in-Some.ensures.place c.in-Some.ensures.within c.as_slice.ensures

pub returns-in-None : goal.returns-in-None
returns-in-None c = found_nowhere c.args.name.now c.args.secrets.now c.in-None.ensures.place
