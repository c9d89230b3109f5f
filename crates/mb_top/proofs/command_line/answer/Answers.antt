use Rattle.std.proofs.Common.{map, string_bytes, refl, ◌∙◌, subst}
use Rattle.mb_model.specs.outside.Board.{not_used}
use Rattle.mb_model_commands.specs.Commands.{PrintEnds, at_first}
use Rattle.mb_console.specs.Ending.{ended_at}
use Rattle.mb_top.specs.Usage.{usage}
use Rattle.mb_top.proofs.CommandLineLemmas.{help_carried_out, version_carried_out, other_carried_out}
use Rattle.mb_top.proofs.command_line.answer.Goals as goal

pub returns-then-is_one_word-clause-carried : goal.returns-then-is_one_word-clause-carried
returns-then-is_one_word-clause-carried g c =
    let outside = g.H.Host.outside in
    let final = (g.B.Board.seen c.args.board.now).ledger.standing in
    help_carried_out usage _ (map string_bytes c.args.words.now) _ _ (outside c.args.host.now) (outside c.tell.new.host) c.tell.result (c.if-is_one_word.ensures.0 refl) c.requires.never_used
    (subst (λ text. PrintEnds text at_first (ended_at (outside c.args.host.now) not_used final (outside c.tell.new.host) c.tell.result)) (c.as_slice.ensures.value ∙ c.usage.ensures) (c.tell.ensures final))

pub returns-then-is_one_word-2-clause-carried : goal.returns-then-is_one_word-2-clause-carried
returns-then-is_one_word-2-clause-carried g c =
    let outside = g.H.Host.outside in
    version_carried_out _ _ (map string_bytes c.args.words.now) _ _ (outside c.args.host.now) (outside c.tell-then-is_one_word-2.new.host) c.tell-then-is_one_word-2.result (c.if-is_one_word-2.ensures.0 refl) c.requires.never_used
    (c.tell-then-is_one_word-2.ensures _)

pub returns-else-is_one_word-2-clause-carried : goal.returns-else-is_one_word-2-clause-carried
returns-else-is_one_word-2-clause-carried g c = other_carried_out _ _ (map string_bytes c.args.words.now) _ c.if-is_one_word.ensures.1 c.if-is_one_word-2.ensures.1 c.top.ensures.ends
