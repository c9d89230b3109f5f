use Rattle.std.proofs.Common.{◌∙◌, ap}
use Rattle.std.proofs.lemmas.Result.{err_from_is_err_and}
use Rattle.mb_model.specs.records.OrderFormat.{form_byte, body_format}
use Rattle.mb_bytes.proofs.Putting.{puts_both, puts_stop, puts_stop_later}
use Rattle.mb_command.proofs.body.put_body.Goals as goal

pub returns-in_err-put_targets : goal.returns-in_err-put_targets
unfolding body_format
returns-in_err-put_targets c =
    let p = err_from_is_err_and c.from_residual-in_err-put_targets.result c.from_residual-in_err-put_targets.ensures.1 in
    let form = c.form_byte.ensures ∙ ap form_byte c.form_of.ensures in
    rw p.1 (puts_stop_later (rw form at c.in_ok-put_u8.ensures.puts) (puts_stop_later c.in_ok-put_u8-2.ensures.puts (puts_stop _ c.in_err-put_targets.ensures)))

pub returns : goal.returns
unfolding body_format
returns c =
    let form = c.form_byte.ensures ∙ ap form_byte c.form_of.ensures in
    puts_both _ _ c.put_act.result (rw form at c.in_ok-put_u8.ensures.puts) (puts_both _ _ c.put_act.result c.in_ok-put_u8-2.ensures.puts (puts_both _ _ c.put_act.result c.in_ok-put_targets.ensures c.put_act.ensures))
