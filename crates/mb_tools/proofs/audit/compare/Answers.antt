use Rattle.std.proofs.Common.{◌≡◌, true, false, refl, sym, ◌∙◌}
use Rattle.mb_tools.proofs.ChainLemmas.{lists_agree, lists_differ, lists_lack}
use Rattle.mb_tools.proofs.audit.compare.Goals as goal

pub returns-in_default : goal.returns-in_default
returns-in_default g c = lists_lack c.args.state.now c.args.key c.args.report.now (g.H.Host.outside c.args.host.now)

pub returns-then-are_same : goal.returns-then-are_same
returns-then-are_same g c =
    let outside = g.H.Host.outside in
    let same = sym c.as_slice.ensures ∙ c.if-are_same.ensures.0 refl ∙ c.as_slice-2.ensures ∙ c.in-Ok.ensures in
    lists_agree c.args.state.now c.args.key c.args.report.now _ (outside c.args.host.now) (outside c.finish.new.host) c.finish.result same refl c.finish.ensures

pub returns : goal.returns
returns g c =
    lists_differ c.args.state.now c.args.key c.args.report.now (g.H.Host.outside c.args.host.now) c.refused.result (λ same.
    let false_is : false ≡ true = c.if-are_same.ensures.1 (c.as_slice.ensures ∙ same ∙ sym c.in-Ok.ensures ∙ sym c.as_slice-2.ensures) in cc) c.refused.ensures
