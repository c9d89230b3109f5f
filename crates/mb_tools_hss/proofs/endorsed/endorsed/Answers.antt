use Rattle.std.proofs.Common.{◌≡◌, ℕ, List, true, false, ◌∷◌, refl, sym, subst}
use Rattle.mb_model_commands.specs.Commands.{at_first}
use Rattle.mb_console.specs.Outputs.{writes}
use Rattle.mb_console.proofs.Leading.{begins, reads, chooses_first, chooses_second, stops_at_input, is_refused}
use Rattle.mb_hss.specs.HssVerification.{HssVerifies}
use Rattle.mb_tools_hss.specs.declared.endorse.TheConstants.{ENDORSED_TEXT}
use Rattle.mb_tools_hss.specs.Endorse.{endorsed_text}
use Rattle.mb_tools_hss.specs.Endorsed.{endorsed, judge_endorsement}
use Rattle.mb_tools_hss.proofs.endorsed.endorsed.Goals as goal

pub returns-in_err-key : goal.returns-in_err-key
unfolding endorsed
returns-in_err-key g c = λ final. stops_at_input _ _ _ begins c.from_residual.ensures.1 c.in_err-key.ensures.err refl refl

pub returns-in_err-root : goal.returns-in_err-root
unfolding endorsed
returns-in_err-root g c = λ final. stops_at_input _ _ _ (reads begins c.in_ok-key.ensures.read) c.from_residual-in_err-root.ensures.1 c.in_err-root.ensures.err refl refl

pub returns-in_err-endorsement : goal.returns-in_err-endorsement
unfolding endorsed
returns-in_err-endorsement g c = λ final.
    let root = reads (reads begins c.in_ok-key.ensures.read) c.in_ok-root.ensures.read in
    stops_at_input _ _ _ root c.from_residual-in_err-endorsement.ensures.1 c.in_err-endorsement.ensures.err refl refl

pub returns-then-verify : goal.returns-then-verify
unfolding endorsed judge_endorsement writes
returns-then-verify g c = λ final.
    let endorsement = reads (reads (reads begins c.in_ok-key.ensures.read) c.in_ok-root.ensures.read) c.in_ok-endorsement.ensures.read in
    let said = subst (λ (b : List ℕ). HssVerifies c.in_ok-key.key (ENDORSED_TEXT ∷ b) c.deref.result.now) c.key_bytes.ensures (c.if-verify.ensures.0 refl) in
    let verifies = subst (λ (e : List ℕ). HssVerifies c.in_ok-key.key (endorsed_text c.in_ok-root.root) e) c.deref.ensures.value said in
    (chooses_first {mid = g.H.Host.outside c.read_as-3.new.host} endorsement verifies).lead _ _ (c.finish.ensures at_first final)

pub returns : goal.returns
unfolding endorsed judge_endorsement
returns g c = λ final.
    let endorsement = reads (reads (reads begins c.in_ok-key.ensures.read) c.in_ok-root.ensures.read) c.in_ok-endorsement.ensures.read in
    let never : HssVerifies c.in_ok-key.key (endorsed_text c.in_ok-root.root) c.in_ok-endorsement.endorsement.items → ⊥ = λ verifies.
    let said = subst (λ (e : List ℕ). HssVerifies c.in_ok-key.key (endorsed_text c.in_ok-root.root) e) (sym c.deref.ensures.value) verifies in
    let false_is : false ≡ true = c.if-verify.ensures.1 (subst (λ (b : List ℕ). HssVerifies c.in_ok-key.key (ENDORSED_TEXT ∷ b) c.deref.result.now) (sym c.key_bytes.ensures) said) in cc in
    is_refused (chooses_second {mid = g.H.Host.outside c.read_as-3.new.host} endorsement never) refl _ c.refused.ensures
