use Rattle.std.proofs.Common.{List, ℕ, ◌++◌, ap, ◌∙◌}
use Rattle.mb_console.specs.Outputs.{writes}
use Rattle.mb_fleet.specs.RegisterFormat.{register_format}
use Rattle.mb_tools_fleet.proofs.EnrolLemmas.{keep_lacks, kept_told}
use Rattle.mb_tools_fleet.proofs.enrol.keep.Goals as goal

pub returns-in_default : goal.returns-in_default
returns-in_default g c = λ line is. keep_lacks c.args.register.now c.args.fleet.now line (g.H.Host.outside c.args.host.now)

pub returns : goal.returns
unfolding writes
returns g c = λ line is.
    let outside = g.H.Host.outside in
    let after = c.args.fleet.now in
    let spelled = ◌∙◌ {A = List ℕ} c.deref.ensures.value (◌∙◌ {A = List ℕ} c.in-Ok.ensures.items (ap (λ (old : List ℕ). old ++ register_format.spelling after) c.new-bytes.ensures.items)) in
    kept_told c.args.register.now after line c.args.text.now (outside c.args.host.now) (outside c.finish.new.host) c.finish.result is (rw spelled at c.finish.ensures)
