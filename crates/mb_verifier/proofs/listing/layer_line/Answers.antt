use Rattle.std.specs.String.{string_bytes}
use Rattle.mb_verifier.proofs.Listed.{layer_text}
use Rattle.mb_verifier.proofs.listing.layer_line.Goals as goal

pub returns : goal.returns
returns c =
    layer_text c.args.number c.args.layer.now (string_bytes c.in_ok-format.field-0) (string_bytes c.in_ok-owner.owner) (string_bytes c.in_ok-code.code)
    c.reliable_word-reliable.result.now (string_bytes c.in_ok-trust.trust) c.in_ok-owner.ensures c.in_ok-code.ensures c.reliable_word-reliable.ensures c.in_ok-trust.ensures
    c.in_ok-format.ensures.ok
