use Rattle.std.proofs.Common.{◌∷◌, sym, ap, ◌∙◌}
use Rattle.std.specs.Prelude.{Bool}
use Rattle.mb_policy.specs.Meanings.{words_left}
use Rattle.mb_policy.proofs.Parts.{words_first, words_last}
use Rattle.mb_policy.proofs.words.Words.take.Goals as goal

pub returns-in-Some : goal.returns-in-Some
returns-in-Some c =
    sym c.self.view_is ∙ ap (λ (b : Bool). words_left b c.self.inside.text.now) c.if-not-self.false
    ∙ words_first c.self.inside.text.now c.in-Some.word.now c.in-Some.rest.now c.in-Some.ensures
    ∙ sym (ap (λ (b : Bool). c.in-Some.word.now ∷ words_left b c.in-Some.rest.now) c.if-not-self.false)

pub returns-in-None : goal.returns-in-None
returns-in-None c =
    sym c.self.view_is ∙ ap (λ (b : Bool). words_left b c.self.inside.text.now) c.if-not-self.false
    ∙ words_last c.self.inside.text.now c.in-None.ensures
