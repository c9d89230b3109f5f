use Rattle.std.proofs.Common.{rules}
use Rattle.std.proofs.lemmas.Fn.{filter_same}
use Rattle.mb_model_lemmas.specs.AliveLaws.{goes_on}
use Rattle.mb_image.specs.Keys.{as_listed}
use Rattle.mb_image.proofs.LogSteps.{listed-filter}
use Rattle.mb_image.proofs.alive.drop_ended.Goals as goal

pub returns : goal.returns
returns c =
    listed-filter c.args.layer c.args.entry.now c.args.alive.now.items c.retain.new.self.items
    (filter_same _ (λ made. goes_on c.args.layer c.args.entry.now (as_listed made)) _ (λ x b f' k. search rules) _ _ c.retain.ensures.filtered)
