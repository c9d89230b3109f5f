use Rattle.std.proofs.Common.{ℕ, List, map, refl, ◌∙◌, codes, subst}
use Rattle.mb_model.specs.chains.Lines.{text_of}
use Rattle.mb_console.specs.Ending.{CarriesOut}
use Rattle.mb_console.proofs.Leading.{begins, reads, stops_at_input}
use Rattle.mb_appvm.specs.Listing.{instruction_line}
use Rattle.mb_tools_app.specs.AssemblyCommands.{disasm, write_counted}
use Rattle.mb_tools_app.proofs.AssemblyLemmas.{listing_counted}
use Rattle.mb_tools_app.proofs.disasm.disasm.Goals as goal

pub returns-in_err-listing : goal.returns-in_err-listing
unfolding disasm
returns-in_err-listing g c = λ final. stops_at_input _ _ _ begins c.from_residual.ensures.1 c.in_err-listing.ensures.err refl refl

pub returns : goal.returns
unfolding disasm
returns g c = λ final.
    let has = c.in_ok-listing.ensures.read in
    let listing = reads begins has.read in
    let outside = g.H.Host.outside in
    let out = c.args.names.now.out.now in
    let mid = outside c.read_listing.new.host in
    let now = outside c.write_counted.new.host in
    let text = c.as_slice-text.ensures ∙ has.written in
    let count = listing_counted c.as_slice-text.result.now has.listed c.count_lines.result has.read.is.allowed text c.count_lines.ensures in
    let written = subst (λ (b : List ℕ). CarriesOut (write_counted out b (codes "lines") c.count_lines.result) mid c.write_counted.result now) text c.write_counted.ensures in
    let carried = subst (λ (n : ℕ). CarriesOut (write_counted out (text_of (map instruction_line has.listed)) (codes "lines") n) mid c.write_counted.result now) count written in
    listing.lead _ _ (carried final)
