use Rattle.std.proofs.Common.{refl}
use Rattle.std.proofs.lemmas.Result.{err_from_is_err_and}
use Rattle.mb_bytes.specs.Reads.{bad_at}
use Rattle.mb_bytes.proofs.Exactly.{is_read, is_not_read_at}
use Rattle.mb_model.proofs.KeyFormatLaws.{layer_exact}
use Rattle.mb_layout.proofs.layer.read_layer.Goals as goal

pub returns-in_err-layer : goal.returns-in_err-layer
returns-in_err-layer c =
    let p = err_from_is_err_and c.from_residual.result c.from_residual.ensures.1 in
    rw (p.1, p.2) (is_not_read_at _ (layer_exact c.args.version) (bad_at c.in_err-layer.field-0.0) c.in_err-layer.ensures (record { bytes = refl; offset = refl }))

pub returns : goal.returns
returns c = is_read (layer_exact c.args.version) c.in_ok-layer.ensures
