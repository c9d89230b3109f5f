use Rattle.std.proofs.Common.{Result, Ok, Err, OnErr, length}
use Rattle.std.proofs.KnownBytes.{Appends-kept}
use Rattle.std.proofs.Math.Seq.{take-length}
use Rattle.mb_files.proofs.whole.write_settled.Goals as goal

-- what holds anyway holds after an error
after_error : {T E P : Type 0} (r : Result T E) → P → OnErr r P
after_error (Ok x) p = tt
after_error (Err e) p = p

-- all bytes were appended before settling failed
pub returns-clause-part : goal.returns-clause-part
returns-clause-part g c =
    let bytes = c.args.bytes.now in
    let kept = Appends-kept _ _ _ bytes c.in_ok-write_whole.ensures.whole c.settle.ensures.bytes in
    after_error c.ok_or.result (length bytes, rw (take-length bytes) kept)
