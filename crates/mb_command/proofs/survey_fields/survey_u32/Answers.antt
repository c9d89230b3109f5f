use Rattle.std.specs.Int.{w32}
use Rattle.mb_format.specs.Combinators.{between}
use Rattle.mb_format.proofs.Bounds.{between_local}
use Rattle.std.proofs.lemmas.Result.{err_from_is_err_and}
use Rattle.std.proofs.Common.{arith}
use Rattle.mb_command.proofs.Surveying.{field_lost}
use Rattle.mb_command.proofs.survey_fields.survey_u32.Goals as goal

pub returns-in_err-u32_between : goal.returns-in_err-u32_between
returns-in_err-u32_between c =
    let p = err_from_is_err_and c.from_residual.result c.from_residual.ensures.1 in
    rw (p.1, p.2) (field_lost (between w32 c.args.least c.args.most) 4 c.args.cursor.now c.u32_between.new.cursor c.left.result c.in_err-u32_between.field-0.0.at (between_local w32 c.args.least c.args.most) c.left.ensures (omega (arith, c.if-left-lt4.false)) c.in_err-u32_between.ensures.reads)

pub returns-then-left-lt4 : goal.returns-then-left-lt4
returns-then-left-lt4 c =
    c.begun_u32.ensures c.args.least c.requires.bounds c.requires.small

pub begun_u32-requires : goal.begun_u32-requires
begun_u32-requires c =
    omega (arith, c.left.ensures, c.if-left-lt4.true)
