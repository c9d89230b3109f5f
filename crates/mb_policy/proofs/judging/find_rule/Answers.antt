use Rattle.std.proofs.Common.{List, sym, ap, ◌∙◌}
use Rattle.mb_policy.specs.declared.tables.Members.{Members}
use Rattle.mb_policy.specs.Tables.{situation_meant, ruling_meant, ruling_of_line}
use Rattle.mb_policy.proofs.Judged.{rule_found, line_passed}
use Rattle.mb_policy.proofs.judging.find_rule.Goals as goal

pub returns-in-Some : goal.returns-in-Some
returns-in-Some c =
    rule_found c.args.lines.now (situation_meant c.args.situation.now) c.loop-index.seen c.loop-index.index c.index-lines-index.result c.index-lines-index.result (ruling_meant c.in-Some.rule)
    c.loop-index.invariant c.loop-index-test.true c.index-lines-index.is
    (ap (λ (x : List Members). ruling_of_line x (situation_meant c.args.situation.now) c.index-lines-index.result) (sym c.as_slice.ensures) ∙ c.in-Some.ensures)

pub loop-index-preserved : goal.loop-index-preserved
loop-index-preserved c =
    line_passed c.args.lines.now (situation_meant c.args.situation.now) c.loop-index.seen c.push.new.self c.loop-index.index c.index-lines-index.result c.index-lines-index.result c.members_of.result
    c.find_hashes-hashes.result c.loop-index.invariant c.loop-index-test.true c.index-lines-index.is
    (ap (λ (x : List Members). ruling_of_line x (situation_meant c.args.situation.now) c.index-lines-index.result) (sym c.as_slice.ensures) ∙ c.in-None.ensures)
    c.find_hashes-hashes.ensures c.members_of.ensures c.in_ok-push-in-None.ensures.ok
