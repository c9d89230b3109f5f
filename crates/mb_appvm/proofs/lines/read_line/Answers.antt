use Rattle.mb_appvm.proofs.lines.read_line.Goals as goal
use Rattle.std.proofs.Common.{refl, Some, None}
use Rattle.mb_appvm.proofs.Words.{line_none}

pub returns-in-None-find_keyword : goal.returns-in-None-find_keyword
returns-in-None-find_keyword c =
    line_none c.args.line.now c.in-Some.word.now (Some c.in-Some.operand.now) c.in-Some.ensures.whole c.in-Some.ensures.first c.in-None-find_keyword.ensures

pub returns-in-None-find_keyword-2 : goal.returns-in-None-find_keyword-2
returns-in-None-find_keyword-2 c =
    line_none c.args.line.now c.args.line.now None refl c.in-None.ensures c.in-None-find_keyword-2.ensures
