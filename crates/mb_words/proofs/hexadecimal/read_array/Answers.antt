use Rattle.std.proofs.Common.{refl}
use Rattle.std.proofs.lemmas.List.{length-replicate}
use Rattle.mb_words.proofs.Parts.{array_none}
use Rattle.mb_words.proofs.hexadecimal.read_array.Goals as goal

pub returns-in-Err : goal.returns-in-Err
returns-in-Err g c = λ bytes is. array_none c.args.word.now bytes _ g.row.N _ _ c.in-Err.field-0 refl c.requires (length-replicate g.row.N 0) c.in-Err.ensures.value is.0 is.1
