use Rattle.std.proofs.Common.{◌∙◌}
use Rattle.mb_appvm.proofs.Fetches.{past, there, fetched, unfetched}
use Rattle.mb_appvm.proofs.fetching.fetch.Goals as goal

pub returns-in-Err : goal.returns-in-Err
returns-in-Err c = past c.args.code.now c.args.place (rw (c.new-cursor.ensures.all, c.new-cursor.ensures.first) at c.in-Err.ensures.exactly.fails.none)

pub returns-in-Ok-instruction_at : goal.returns-in-Ok-instruction_at
returns-in-Ok-instruction_at c =
    let spelled = rw (c.new-cursor.ensures.all, c.new-cursor.ensures.first) at c.in-Ok.ensures.exactly.spelled in
    rw c.offset.ensures (fetched c.args.code.now c.args.place c.take_slice.new.self c.instruction_at.new.cursor c.in-Ok-instruction_at.instruction
    (c.in-Ok.ensures.exactly.bytes ∙ c.new-cursor.ensures.all) (there c.args.code.now c.in-Ok.field-0.now c.args.place c.take_slice.new.self.offset spelled) c.in-Ok-instruction_at.ensures)

pub returns-in-Err-instruction_at : goal.returns-in-Err-instruction_at
returns-in-Err-instruction_at c =
    let spelled = rw (c.new-cursor.ensures.all, c.new-cursor.ensures.first) at c.in-Ok.ensures.exactly.spelled in
    unfetched c.args.code.now c.args.place c.in-Err-instruction_at.field-0.at c.take_slice.new.self c.instruction_at.new.cursor
    (c.in-Ok.ensures.exactly.bytes ∙ c.new-cursor.ensures.all) (there c.args.code.now c.in-Ok.field-0.now c.args.place c.take_slice.new.self.offset spelled) c.in-Err-instruction_at.ensures
