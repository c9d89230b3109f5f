use Rattle.std.proofs.Common.{◌≡◌, ◌++◌, List, ℕ, ap, sym, ◌∙◌}
use Rattle.std.specs.Global.{Vec}
use Rattle.std.specs.String.{string_bytes}
use Rattle.hex.specs.Hex.{encode_lower}
use Rattle.mb_model.specs.records.OrderFormat.{order_format}
use Rattle.mb_officer.proofs.OrderTexts.{order_digits}
use Rattle.mb_officer.proofs.order_line.write_order_line.Goals as goal

pub returns : goal.returns
returns c =
    let spelled = c.as_slice.ensures.value ∙ c.in_ok-write_order.ensures.items ∙ ap (λ (x : List ℕ). x ++ order_format.spelling c.args.order.now) c.new-bytes.ensures.items in
    let word : string_bytes c.in_ok-word.word ≡ encode_lower (order_format.spelling c.args.order.now) = c.in_ok-word.ensures ∙ ap encode_lower spelled in
    rw (order_digits c.args.order.now, sym word) (ap (λ (v : Vec ℕ). v.items) c.into_bytes.ensures.value ∙ c.in_ok-format.ensures.ok)
