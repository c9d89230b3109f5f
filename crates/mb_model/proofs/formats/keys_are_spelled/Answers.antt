use Rattle.mb_model.proofs.KeyFormatLaws.{public_key_spelling}
use Rattle.mb_model.proofs.formats.keys_are_spelled.Goals as goal

pub returns : goal.returns
returns c = public_key_spelling
