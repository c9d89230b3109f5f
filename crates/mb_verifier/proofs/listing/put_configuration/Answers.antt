use Rattle.std.proofs.Common.{ap, ◌∙◌, ◌++◌, List, ℕ}
use Rattle.std.proofs.lemmas.Result.{on_ok_weaker}
use Rattle.mb_verifier.proofs.Listed.{configuration_whole}
use Rattle.mb_verifier.proofs.listing.put_configuration.Goals as goal

pub returns : goal.returns
returns c =
    let out = c.args.out.now.items in
    let line = c.in_ok-extend_from_slice.ensures.items ∙ ap (λ (t : List ℕ). out ++ t) (c.as_bytes.ensures.value ∙ c.in_ok-line.ensures.ok) in
    on_ok_weaker c.put_layer-3.result (configuration_whole c.args.item.now out c.extend_from_slice.new.self.items c.put_layer.new.out.items c.put_layer-2.new.out.items c.put_layer-3.new.out.items
    line c.in_ok-put_layer.ensures c.in_ok-put_layer-2.ensures) c.put_layer-3.ensures
