use Rattle.std.proofs.Common.{◌≡◌, ◌+◌, ◌*◌, ◌-◌, ap, ◌∙◌, arith}
use Rattle.mb_model.specs.outside.Pieces.{part}
use Rattle.mb_model.specs.outside.Board.{memory_with_bytes}
use Rattle.mb_board.proofs.bank.copy_sector.Goals as goal

pub returns : goal.returns
returns c =
    let start = 4096 * c.args.sector in
    let count : start + 4096 - start ≡ 4096 = omega arith in
    c.write.ensures ∙ ap (λ n. memory_with_bytes start (part start n c.args.bytes.now) c.args.standing.now.items) count
