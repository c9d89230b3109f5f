use Rattle.std.proofs.Common.{◌≡◌, true, false, refl, sym, ◌∙◌, ap, subst}
use Rattle.std.specs.Prelude.{Any}
use Rattle.mb_model.specs.declared.reply.Reply.TheVariants as reply
use Rattle.sha2.specs.Sha256.{sha256}
use Rattle.mb_model.specs.chains.Lines.{text_of}
use Rattle.mb_model.specs.chains.Listing.{summary}
use Rattle.mb_model.specs.outside.Board.{Memory, image_of, use_of}
use Rattle.mb_model.specs.memories.Meaning.{StandsFor}
use Rattle.mb_tools_device.proofs.GenerateLemmas.{summary_lacks, summary_told}
use Rattle.mb_tools_device.proofs.generate.summarise.Goals as goal

pub returns-then-wants_memory : goal.returns-then-wants_memory
returns-then-wants_memory g c = λ past same.
    let board = c.args.board.now in
    let some = subst (λ l. Any (λ a. a.reply ≡ reply.NoMemory) l) c.answered-answered.ensures (c.if-wants_memory.ensures.0 refl) in
    summary_lacks (use_of (g.B.Board.seen board).ledger) (g.B.Board.seen board).ledger.standing past
    (g.H.Host.outside c.args.host.now) some same

pub returns : goal.returns
returns g c = λ past same.
    let board = c.args.board.now in
    let memory = (g.B.Board.seen board).memory in
    let final = (g.B.Board.seen board).ledger.standing in
    let answered = (g.B.Board.seen board).ledger.answered in
    let filled = c.held_image-held.ensures in
    let last = c.requires.shown.0 in
    let shown = c.requires.shown.1 in
    let stands = subst (λ (m : Memory). StandsFor m.flash m.bbram last.state) c.requires.answered shown.stands in
    let counted = c.log_length.ensures memory.flash memory.bbram last.state (c.deref.ensures.value ∙ filled, c.requires.loaded) stands in
    let told = c.as_slice.ensures.value ∙ c.summary_of-summary.ensures
    ∙ ap (λ a. text_of (summary a c.log_length.result c.digest-hash.result)) c.answered-answered.ensures
    ∙ ap (λ h. text_of (summary answered c.log_length.result h)) (c.digest-hash.ensures ∙ ap sha256 (filled ∙ ap image_of (sym c.requires.answered))) in
    let none : Any (λ a. a.reply ≡ reply.NoMemory) answered → ⊥ =
    λ some. (let bad : false ≡ true = c.if-wants_memory.ensures.1 (subst (λ l. Any (λ a. a.reply ≡ reply.NoMemory) l) (sym c.answered-answered.ensures) some) in cc) in
    summary_told (use_of (g.B.Board.seen board).ledger) final c.log_length.result c.as_slice.result.now past (g.H.Host.outside c.args.host.now) (g.H.Host.outside c.print_text.new.host) c.print_text.result
    none (record { last = last; shown = shown; entries_is = counted }) told c.print_text.ensures same
