use Rattle.std.proofs.Common.{subst, sym}
use Rattle.mb_model.specs.chains.Script.{IsName}
use Rattle.mb_appvm.proofs.SecretReading.{words_none, words_split}
use Rattle.mb_appvm.proofs.secret_texts.split_secret.Goals as goal

pub returns-in_default-split_at_byte : goal.returns-in_default-split_at_byte
returns-in_default-split_at_byte c = λ name word has.
    words_none c.args.line.now c.in-Some.words.now name word c.in-Some.ensures c.in_default-split_at_byte.ensures has

pub returns-else-is_name : goal.returns-else-is_name
returns-else-is_name c = λ name word has.
    let same = (words_split c.args.line.now c.in-Some.words.now c.in-Some-split_at_byte.name.now c.in-Some-split_at_byte.word.now name word c.in-Some.ensures
    c.in-Some-split_at_byte.ensures has).0 in
    let wrong = c.if-is_name.ensures.1 (subst IsName (sym same) has.named) in
    cc
