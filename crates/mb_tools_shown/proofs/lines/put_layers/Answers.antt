use Rattle.std.proofs.Common.{◌∙◌, ◌++◌, ℕ, List, ap}
use Rattle.std.proofs.lemmas.Result.{on_ok_weaker}
use Rattle.mb_model.specs.chains.Listing.{layer_line}
use Rattle.mb_tools_shown.proofs.TextLemmas.{three_lines}
use Rattle.mb_tools_shown.proofs.lines.put_layers.Goals as goal

pub returns : goal.returns
returns c =
    let out = c.args.out.now.items in
    let one = c.put.new.out.items in
    let two = c.put-2.new.out.items in
    let layers = c.args.layers.now in
    let first = c.in_ok-put.ensures ∙ ap (λ (t : List ℕ). out ++ t) (c.as_str.ensures.value ∙ c.in_ok-one.ensures) in
    let second = c.in_ok-put-2.ensures ∙ ap (λ (t : List ℕ). one ++ t) (c.as_str-2.ensures.value ∙ c.in_ok-two.ensures) in
    on_ok_weaker c.put-3.result
    (λ third. three_lines out one two c.put-3.new.out.items (layer_line 1 layers.one) (layer_line 2 layers.two) (layer_line 3 layers.three) first second
    (third ∙ ap (λ (t : List ℕ). two ++ t) (c.as_str-3.ensures.value ∙ c.in_ok-three.ensures))) c.put-3.ensures
