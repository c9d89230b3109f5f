use Rattle.std.proofs.Common.{ℕ, List, ◌∙◌, sym, subst}
use Rattle.mb_hss.specs.MakerSignatures.{Signs}
use Rattle.mb_tools_hss.specs.Endorse.{endorsed_text}
use Rattle.mb_tools_hss.specs.Names.{endorse_files}
use Rattle.mb_tools_hss.proofs.EndorseLemmas.{endorsement_written, endorsement_lacks}
use Rattle.mb_tools_hss.proofs.endorse.use_number.Goals as goal

pub returns-in_default : goal.returns-in_default
returns-in_default g c = λ before root signs index. endorsement_lacks (endorse_files c.args.names.now) before root (g.H.Host.outside c.args.host.now)

pub returns : goal.returns
returns g c = λ before root signs index.
    let outside = g.H.Host.outside in
    let written = subst (λ (s : List ℕ). Signs before (endorsed_text root) s c.args.maker.now) (sym c.deref.ensures.value) signs in
    endorsement_written (endorse_files c.args.names.now) before c.args.maker.now root c.args.index c.write_maker-file.result c.deref.result.now c.as_bytes.result.now
    (outside c.args.host.now) (outside c.finish.new.host) c.finish.result written index c.write_maker-file.ensures.whole (c.as_bytes.ensures.value ∙ c.in-Ok.ensures) c.finish.ensures
