use Rattle.mb_officer.proofs.Wording.{code_parts, hash_none}
use Rattle.mb_officer.proofs.words.read_code_demand.Goals as goal

pub returns-in_default : goal.returns-in_default
returns-in_default c = λ t says.
    let parts = code_parts c.args.words.now t says in
    c.in_default.ensures parts.layer parts.word parts.numbered parts.whole

pub returns-in_default-read_array : goal.returns-in_default-read_array
returns-in_default-read_array c = λ t says.
    hash_none c.args.words.now c.in-Some.word.now c.in-Some.layer c.in-Some.ensures.0 c.in-Some.ensures.1 c.in_default-read_array.ensures
    (code_parts c.args.words.now t says)
