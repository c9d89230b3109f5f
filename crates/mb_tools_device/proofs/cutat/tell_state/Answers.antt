use Rattle.std.proofs.Common.{◌≡◌, true, false, sym, ◌∙◌}
use Rattle.mb_tools_device.proofs.CutLemmas.{told_same, told_other, state_untold}
use Rattle.mb_tools_device.proofs.cutat.tell_state.Goals as goal

pub returns-in_default-clause-carried : goal.returns-in_default-clause-carried
returns-in_default-clause-carried g c = λ held final list left last. state_untold held final list (g.H.Host.outside c.args.host.now)

pub returns-in_default-stand_for-clause-carried : goal.returns-in_default-stand_for-clause-carried
returns-in_default-stand_for-clause-carried g c = λ held final list left last. state_untold held final list (g.H.Host.outside c.args.host.now)

pub returns-then-same_state-clause-carried : goal.returns-then-same_state-clause-carried
returns-then-same_state-clause-carried g c = λ held final list left last.
    let outside = g.H.Host.outside in
    told_same held final list c.args.before.now c.args.after.now c.in-Ok.before c.in-Ok-stand_for.after (outside c.args.host.now) (outside c.print_text.new.host) c.print_text.result left last
    c.in-Ok.ensures.stands c.in-Ok-stand_for.ensures.stands (c.same_state.ensures.0 c.if-same_state.true) c.print_text.ensures

pub returns-clause-carried : goal.returns-clause-carried
returns-clause-carried g c = λ held final list left last.
    let outside = g.H.Host.outside in
    told_other held final list c.args.before.now c.args.after.now c.in-Ok.before c.in-Ok-stand_for.after (outside c.args.host.now) (outside c.print_text-else-same_state.new.host) c.print_text-else-same_state.result left last
    c.in-Ok.ensures.stands c.in-Ok-stand_for.ensures.stands
    (λ same. let no : false ≡ true = sym c.if-same_state.false ∙ c.same_state.ensures.1 same in cc) c.print_text-else-same_state.ensures
