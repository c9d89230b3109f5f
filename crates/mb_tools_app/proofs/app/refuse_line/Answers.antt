use Rattle.std.proofs.Common.{ℕ, string_bytes, ◌∙◌, ap}
use Rattle.std.specs.Global.{Vec}
use Rattle.mb_tools_app.proofs.AppLemmas.{line_refused, refusal_lacks}
use Rattle.mb_tools_app.proofs.app.refuse_line.Goals as goal

pub returns-in-Ok : goal.returns-in-Ok
returns-in-Ok c = λ before. line_refused (string_bytes c.args.line) c.in-Ok.long before (c.in-Ok.ensures ∙ ap (λ (v : Vec ℕ). v.items) c.into_bytes.ensures.value)

pub returns-in-Err : goal.returns-in-Err
returns-in-Err c = λ before. refusal_lacks (string_bytes c.args.line) before
