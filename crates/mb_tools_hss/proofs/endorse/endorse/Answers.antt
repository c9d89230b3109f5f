use Rattle.std.proofs.Common.{Err, refl, ap}
use Rattle.mb_console.proofs.Leading.{begins, reads, stops_at_input}
use Rattle.mb_tools_hss.specs.Endorse.{endorse}
use Rattle.mb_tools_hss.proofs.EndorseLemmas.{signed_root, root_signed, root_not_signed}
use Rattle.mb_tools_hss.proofs.endorse.endorse.Goals as goal

pub returns-in_err-maker-clause-carried : goal.returns-in_err-maker-clause-carried
unfolding endorse
returns-in_err-maker-clause-carried g c = λ final. stops_at_input _ _ _ begins c.from_residual.ensures.1 c.in_err-maker.ensures.err refl refl

pub returns-in_err-root-clause-carried : goal.returns-in_err-root-clause-carried
unfolding endorse
returns-in_err-root-clause-carried g c = λ final. stops_at_input _ _ _ (reads begins c.in_ok-maker.ensures.read) c.from_residual-in_err-root.ensures.1 c.in_err-root.ensures.err refl refl

pub returns-in-Ok-clause-carried : goal.returns-in-Ok-clause-carried
unfolding endorse
returns-in-Ok-clause-carried g c = λ final.
    let root = reads (reads begins c.in_ok-maker.ensures.read) c.in_ok-root.ensures.read in
    let signs = signed_root c.in_ok-maker.maker c.sign.new.maker c.in_ok-root.root c.key_bytes-body.result c.new-signature.result c.sign.new.out c.key_bytes-body.ensures c.new-signature.ensures.items c.in-Ok.ensures.signed in
    root_signed _ _ _ _ _ _ _ root signs (c.use_number.ensures c.in_ok-maker.maker c.in_ok-root.root signs c.in-Ok.ensures.number)

pub returns-in-Err-clause-carried : goal.returns-in-Err-clause-carried
unfolding endorse
returns-in-Err-clause-carried g c = λ final.
    let root = reads (reads begins c.in_ok-maker.ensures.read) c.in_ok-root.ensures.read in
    root_not_signed _ _ _ c.in-Err.end _ root (λ is. c.in-Err.ensures.spent.0 (ap Err is)) c.end_of.ensures
