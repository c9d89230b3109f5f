use Rattle.std.proofs.Common.{ℕ, List, ◌++◌, sym, ap, ◌∙◌, append-nil, arith}
use Rattle.mb_model.specs.outside.Texts.{line_with_lf}
use Rattle.mb_model_commands.specs.Workload.{put_line}
use Rattle.mb_generate.proofs.Scripting.{puts_none, secret_put}
use Rattle.mb_generate.proofs.script.put_secrets.Goals as goal

pub loop-value-init : goal.loop-value-init
loop-value-init c = record {
  number = omega arith;
  text = sym (ap (λ (xs : List ℕ). c.args.script.now.items ++ xs) (puts_none c.args.n) ∙ append-nil c.args.script.now.items);
}

pub loop-value-preserved : goal.loop-value-preserved
loop-value-preserved c = record {
  number = omega (arith, c.loop-value.invariant.number);
  text =
      secret_put c.args.n c.loop-value.value-index c.loop-value.number c.args.values.now _ c.value-item.result c.args.script.now.items c.loop-value.script.items c.put_secret.new.script.items
      (omega arith) c.value-item.is c.loop-value.invariant.number c.loop-value.invariant.text
      (c.in_ok-put_secret.ensures ∙ ap (λ (value : List ℕ). c.loop-value.script.items ++ line_with_lf (put_line c.loop-value.number value)) c.as_slice.ensures);
}
