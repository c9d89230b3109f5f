use Rattle.std.proofs.Common.{◌++◌, ◌-◌, ◌∙◌, sym, ap, subst, arith, take, List, ℕ}
use Rattle.mb_format.specs.Format.{IsBytes}
use Rattle.mb_model.specs.records.OrderFormat.{order_format}
use Rattle.mb_command.specs.Beginnings.{CanBecome, FailsHowever}
use Rattle.mb_command.proofs.Feeding.{taken_whole, fails_whole, becomes_unfailed}
use Rattle.mb_command.proofs.begun.Begun.take_in.Goals as goal

pub returns-in-None-clause-keeps : goal.returns-in-None-clause-keeps
returns-in-None-clause-keeps c =
    let held = c.deref.ensures.value ∙ c.in-Ok.ensures.items ∙ ap (λ (front : List ℕ). c.args.self.text.items ++ front) c.looked_at.ensures in
    let can : CanBecome order_format (c.args.self.text.items ++ take (65536 - c.len-there.result) c.args.piece.now) = subst (λ (b : List ℕ). CanBecome order_format b) held c.in-None.ensures.settled in
    let whole = taken_whole c.args.self.text.items c.args.piece.now c.len-there.result (omega (arith, c.len-there.ensures)) (omega (arith, c.len-there.ensures, c.args.self.short)) can in
    sym c.deref.ensures.value ∙ held ∙ ap (λ (front : List ℕ). c.args.self.text.items ++ front) whole

pub returns-in-None-clause-answers : goal.returns-in-None-clause-answers
returns-in-None-clause-answers c at fails =
    let all = c.deref.ensures.value ∙ returns-in-None-clause-keeps c in
    becomes_unfailed c.deref.result.now at c.in-None.ensures.bytes c.in-None.ensures.settled (rw all fails)

pub returns-in-Some-clause-keeps : goal.returns-in-Some-clause-keeps
returns-in-Some-clause-keeps c =
    let held = c.deref.ensures.value ∙ c.in-Ok.ensures.items ∙ ap (λ (front : List ℕ). c.args.self.text.items ++ front) c.looked_at.ensures in
    let are : IsBytes c.args.piece.now = λ i. omega (arith, c.type_inv.piece i) in
    rw c.ended-in-Some.ensures.keeps (fails_whole c.args.self.text.items c.args.piece.now (65536 - c.len-there.result) c.in-Some.at are (subst (λ (b : List ℕ). FailsHowever order_format b c.in-Some.at) held c.in-Some.ensures.settled))

pub returns-in-Some-clause-answers : goal.returns-in-Some-clause-answers
returns-in-Some-clause-answers c =
    let held = c.deref.ensures.value ∙ c.in-Ok.ensures.items ∙ ap (λ (front : List ℕ). c.args.self.text.items ++ front) c.looked_at.ensures in
    let are : IsBytes c.args.piece.now = λ i. omega (arith, c.type_inv.piece i) in
    rw c.ended-in-Some.ensures.answers (fails_whole c.args.self.text.items c.args.piece.now (65536 - c.len-there.result) c.in-Some.at are (subst (λ (b : List ℕ). FailsHowever order_format b c.in-Some.at) held c.in-Some.ensures.settled))
