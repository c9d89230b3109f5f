use Rattle.std.specs.Prelude.{codes}
use Rattle.mb_model.specs.signatures.Key.{key_bytes}
use Rattle.mb_model.proofs.KeyLemmas.{length-key_bytes}
use Rattle.mb_officer.proofs.Wording.{hex_word}
use Rattle.mb_officer.proofs.words.read_owner.Goals as goal

pub returns-in-None : goal.returns-in-None
returns-in-None c = λ owner is.
    c.in-None.ensures (key_bytes owner)
    (length-key_bytes owner is.0, hex_word (codes "owner ") c.args.line.now c.in-Some.word.now (key_bytes owner) c.in-Some.ensures is.1.0 is.1.1 is.1.2)
