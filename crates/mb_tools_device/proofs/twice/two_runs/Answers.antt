use Rattle.std.proofs.Common.{◌∙◌}
use Rattle.mb_tools_device.proofs.TwiceLemmas.{runs_made, first_short, first_scripted, second_short, second_scripted}
use Rattle.mb_tools_device.proofs.twice.two_runs.Goals as goal

pub returns-clause-cut : goal.returns-clause-cut
returns-clause-cut c =
    runs_made c.args.fill.now c.as_bytes.result.now c.args.events c.into_vec-first.result.items c.pop.new.self.items c.in_ok-second.second c.push.new.self c.push-2.new.self c.push-3.new.self c.push-4.new.self
    c.args.count c.in-Some.tear c.in-Some-pop.last c.from_vec.result c.in-Some.ensures c.as_bytes.ensures.value c.into_vec-first.ensures c.in-Some-pop.ensures.items (c.in_ok-second.ensures ∙ c.deref.ensures.value)
    c.in_ok-push.ensures.ok c.in_ok-push-2.ensures.ok c.in_ok-push-3.ensures.ok c.in_ok-push-4.ensures.ok c.from_vec.ensures c.requires.uncut c.requires.events c.requires.least c.requires.most

pub returns-clause-first_count : goal.returns-clause-first_count
returns-clause-first_count c = let made = returns-clause-cut c in first_short c.args.count c.from_vec.result c.push-4.new.self made.0 made.2

pub returns-clause-first_events : goal.returns-clause-first_events
returns-clause-first_events c = let made = returns-clause-cut c in first_scripted c.args.count c.from_vec.result c.push-4.new.self made.0 made.2

pub returns-clause-second_count : goal.returns-clause-second_count
returns-clause-second_count c = let made = returns-clause-cut c in second_short c.args.count c.from_vec.result c.push-4.new.self made.0 made.2

pub returns-clause-second_events : goal.returns-clause-second_events
returns-clause-second_events c = let made = returns-clause-cut c in second_scripted c.args.count c.from_vec.result c.push-4.new.self made.0 made.2
