use Rattle.std.proofs.Common.{◌≡◌, List, ℕ, is_some, arith, ap, subst, ◌∙◌}
use Rattle.mb_format.specs.Format.{IsBytes}
use Rattle.mb_model.specs.declared.stored.Root.{Root}
use Rattle.mb_model.specs.memories.Meaning.{RootIn}
use Rattle.mb_model_lemmas.proofs.FaultLemmas.{image_parts, image_bbram_bytes}
use Rattle.mb_model_lemmas.proofs.MeaningLemmas.{one_root_in}
use Rattle.mb_image.proofs.work.has_pending_work.Goals as goal

pub returns-in-Some-root_of : goal.returns-in-Some-root_of
returns-in-Some-root_of c = λ flash bbram root is holds.
    let are : IsBytes c.args.image.now = λ i. omega (arith, c.type_inv.image i) in
    let parts = image_parts c.args.image.now flash bbram _ c.in-Some.bbram.now is c.in-Some.ensures in
    let same : c.in-Some-root_of.root ≡ root = one_root_in c.in-Some.bbram.now c.in-Some-root_of.root root (image_bbram_bytes c.args.image.now _ _ are c.in-Some.ensures) c.in-Some-root_of.ensures
    (subst (λ (b : List ℕ). RootIn b root) parts.1 holds) in
    c.is_some.ensures ∙ ap (λ (r : Root). is_some r.pending) same

pub returns-in-None : goal.returns-in-None
returns-in-None c = λ flash bbram root is holds.
    let parts = image_parts c.args.image.now flash bbram _ c.in-Some.bbram.now is c.in-Some.ensures in
    absurd (c.in-None.ensures root (subst (λ (b : List ℕ). RootIn b root) parts.1 holds))
