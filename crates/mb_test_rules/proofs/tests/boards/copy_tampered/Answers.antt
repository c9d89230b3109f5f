use Rattle.std.proofs.Common.{Some, ap, ◌∙◌}
use Rattle.std.proofs.lemmas.List.{length-replicate}
use Rattle.mb_model.specs.declared.event.Event.{Event}
use Rattle.mb_model.specs.outside.Board.{zeros, memory_after}
use Rattle.mb_test_rules.proofs.tests.boards.copy_tampered.Goals as goal

pub copy_image-requires-clause-loaded : goal.copy_image-requires-clause-loaded
unfolding zeros
copy_image-requires-clause-loaded c =
    let memory = c.in-Some-Tamper.ensures.memory ∙ ap (λ (event : Event). memory_after (Some event) c.args.board.now.memory) c.in-Some-Tamper.field-0-is in
    rw memory record { flash = c.requires.loaded.flash; bbram = length-replicate _ 0 ∙ c.requires.loaded.bbram }
