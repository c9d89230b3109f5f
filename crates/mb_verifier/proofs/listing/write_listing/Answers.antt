use Rattle.std.proofs.Common.{ap, ◌∙◌, ◌++◌, List, ℕ}
use Rattle.std.specs.Global.{Vec}
use Rattle.mb_model.specs.declared.state.Configuration.{Configuration}
use Rattle.mb_model.specs.chains.Lines.{text_of}
use Rattle.mb_model.specs.chains.Listing.{configuration_lines}
use Rattle.std.specs.Prelude.{flat_map}
use Rattle.mb_verifier.proofs.Listed.{listing_whole}
use Rattle.mb_verifier.proofs.listing.write_listing.Goals as goal

pub returns : goal.returns
returns c =
    let first = ap (λ (v : Vec ℕ). v.items) c.into_bytes-out.ensures.value ∙ c.in_ok-key_line.ensures in
    let start = c.into_bytes-out.result.items in
    let lives = c.in_ok-put_lives.ensures ∙ ap (λ (items : List Configuration). start ++ text_of (flat_map configuration_lines items)) c.as_slice.ensures in
    listing_whole c.args.key c.args.report.now start c.put_lives.new.out.items c.put_statement.new.out.items first lives c.in_ok-put_statement.ensures
