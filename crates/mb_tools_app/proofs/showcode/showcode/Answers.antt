use Rattle.std.proofs.Common.{ℕ, List, refl, ◌∙◌, subst}
use Rattle.mb_model_commands.specs.Commands.{print, at_first}
use Rattle.mb_console.specs.Ending.{CarriesOutAfter}
use Rattle.mb_console.specs.Outputs.{writes}
use Rattle.mb_console.proofs.Leading.{begins, reads, stops_at_input}
use Rattle.mb_tools_app.specs.ShowcodeCommand.{showcode}
use Rattle.mb_tools_app.proofs.showcode.showcode.Goals as goal

pub returns-in_err-listing : goal.returns-in_err-listing
unfolding showcode
returns-in_err-listing g c = λ final. stops_at_input _ _ _ begins c.from_residual.ensures.1 c.in_err-listing.ensures.err refl refl

pub returns : goal.returns
unfolding showcode writes
returns g c = λ final.
    let has = c.in_ok-listing.ensures.read in
    let outside = g.H.Host.outside in
    let text = c.as_slice.ensures ∙ has.written in
    let told = subst (λ (t : List ℕ). CarriesOutAfter (print t) (outside c.read_labelled_listing.new.host) c.finish.result (outside c.finish.new.host)) text c.finish.ensures in
    (reads begins has.read).lead _ _ (told at_first final)
