use Rattle.mb_model.specs.records.LayerFormat.{layers_format}
use Rattle.mb_bytes.proofs.Putting.{puts_both}
use Rattle.mb_layout.proofs.layer.put_layers.Goals as goal

pub returns : goal.returns
unfolding layers_format
returns c =
    let r = c.put_layer-3.result in
    puts_both _ _ r c.in_ok-put_layer.ensures (puts_both _ _ r c.in_ok-put_layer-2.ensures c.put_layer-3.ensures)
