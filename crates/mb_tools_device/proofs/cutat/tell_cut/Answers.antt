use Rattle.std.proofs.Common.{◌≡◌, true, false, List, sym, ◌∙◌, subst}
use Rattle.mb_model.specs.declared.event.Answered.{Answered}
use Rattle.mb_model.specs.outside.Board.{use_of}
use Rattle.mb_tools_device.specs.CutCommand.{AnyLacksMemory, LastIsStopped}
use Rattle.mb_tools_device.proofs.CutLemmas.{cut_lacks, cut_unstopped, cut_stopped}
use Rattle.mb_tools_device.proofs.cutat.tell_cut.Goals as goal

pub returns-then-wants_memory-clause-carried : goal.returns-then-wants_memory-clause-carried
returns-then-wants_memory-clause-carried g c = λ held left last.
    let ledger = (g.B.Board.seen c.args.board.now).ledger in
    cut_lacks held ledger.standing (use_of ledger) (g.H.Host.outside c.args.host.now)
    (subst (λ (l : List Answered). AnyLacksMemory l) c.answered-answered.ensures (c.wants_memory.ensures.0 c.if-wants_memory.true))

pub returns-then-not-last_is_stopped-clause-carried : goal.returns-then-not-last_is_stopped-clause-carried
returns-then-not-last_is_stopped-clause-carried g c = λ held left last.
    let outside = g.H.Host.outside in
    let ledger = (g.B.Board.seen c.args.board.now).ledger in
    cut_unstopped held ledger.standing (use_of ledger) (outside c.args.host.now) (outside c.print_text.new.host) c.print_text.result
    (λ lacks. let no : false ≡ true = sym c.if-wants_memory.false ∙ c.wants_memory.ensures.1 (subst (λ (l : List Answered). AnyLacksMemory l) (sym c.answered-answered.ensures) lacks) in cc)
    (λ stopped. let no : false ≡ true = sym c.if-not-last_is_stopped.true ∙ c.last_is_stopped.ensures.1 (subst LastIsStopped (sym c.answered-answered.ensures) stopped) in cc)
    c.print_text.ensures

pub returns-clause-carried : goal.returns-clause-carried
returns-clause-carried g c = λ held left last.
    let outside = g.H.Host.outside in
    let ledger = (g.B.Board.seen c.args.board.now).ledger in
    cut_stopped held ledger.standing (use_of ledger) (outside c.args.host.now) (outside c.tell_state.new.host) c.tell_state.result
    (λ lacks. let no : false ≡ true = sym c.if-wants_memory.false ∙ c.wants_memory.ensures.1 (subst (λ (l : List Answered). AnyLacksMemory l) (sym c.answered-answered.ensures) lacks) in cc)
    (subst LastIsStopped c.answered-answered.ensures (c.last_is_stopped.ensures.0 c.if-not-last_is_stopped.false))
    (c.tell_state.ensures.carried held ledger.standing (use_of ledger) left (last c.deref.result.now (c.deref.ensures.value ∙ c.held_image-after.ensures)))
