use Rattle.std.proofs.Common.{map, string_bytes}
use Rattle.mb_console.specs.Words.{given_argument}
use Rattle.mb_top.proofs.Requests.{call_carried_out}
use Rattle.mb_top.proofs.commands.counted_command.Goals as goal

pub returns-in-Some-clause-carried : goal.returns-in-Some-clause-carried
returns-in-Some-clause-carried g c =
    let outside = g.H.Host.outside in
    call_carried_out (map string_bytes c.args.words.now) c.in-Some.call.command (map given_argument c.in-Some.call.arguments.items) _ _ (outside c.args.host.now) (outside c.carry_out.new.host) c.carry_out.result
    c.in-Some.ensures c.carry_out.ensures.carried
