use Rattle.std.proofs.Common.{List, ℕ, ◌++◌, subst, sym, ap, ◌∙◌, append_assoc}
use Rattle.mb_model.specs.declared.entry.Said.{Said}
use Rattle.mb_lms.specs.Checking.{IsChecking}
use Rattle.mb_verifier.specs.SaidParts.{said_bytes}
use Rattle.mb_verifier.proofs.statement.feed_said.Goals as goal

pub returns-in-Message : goal.returns-in-Message
returns-in-Message c = λ key sig text is.
    subst (λ (said : Said). IsChecking c.feed.new.self key sig (text ++ said_bytes said)) (sym c.in-Message.is)
    (subst (λ (piece : List ℕ). IsChecking c.feed.new.self key sig (text ++ piece)) c.as_slice.ensures (c.feed.ensures key sig text is))

pub returns-in-Answer : goal.returns-in-Answer
returns-in-Answer c = λ key sig text is.
    let new = c.feed-in-Answer-2.new.self in
    let slice = c.as_slice-in-Answer.result.now in
    let input = c.in-Answer.input in
    subst (λ (said : Said). IsChecking new key sig (text ++ said_bytes said)) (sym c.in-Answer.is)
    (subst (λ (all : List ℕ). IsChecking new key sig all)
    (append_assoc text input slice ∙ ap (λ (answer : List ℕ). text ++ (input ++ answer)) c.as_slice-in-Answer.ensures)
    (c.feed-in-Answer-2.ensures key sig (text ++ input) (c.feed-in-Answer.ensures key sig text is)))
