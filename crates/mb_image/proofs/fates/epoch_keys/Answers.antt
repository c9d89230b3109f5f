use Rattle.std.proofs.Common.{rules, ap, ◌∙◌}
use Rattle.std.specs.Prelude.{filter}
use Rattle.std.proofs.lemmas.Fn.{filter_same}
use Rattle.mb_model.specs.owners.Regions.{is_epoch}
use Rattle.mb_image.proofs.fates.epoch_keys.Goals as goal

pub returns : goal.returns
returns c =
    c.from_vec.ensures
    ∙ filter_same _ (λ key. is_epoch key.kind) _ (λ x b f' k. search rules) _ _ c.retain.ensures.filtered
    ∙ ap (filter (λ key. is_epoch key.kind)) c.into_vec-keys.ensures
