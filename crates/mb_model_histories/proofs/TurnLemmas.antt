-- The image that a run leaves is read again, as it is or after a migration, for the state in which the run ended.
use Rattle.std.proofs.Common.{◌≡◌, ℕ, List, [], ◌∷◌, inl, inr, Option, refl, sym, ap, ◌∙◌, subst}
use Rattle.std.specs.Prelude.{map}
use Rattle.mb_format.specs.Format.{IsBytes}
use Rattle.mb_format.proofs.Exact.{IsBytes-append}
use Rattle.mb_model.specs.declared.event.Answered.{Answered}
use Rattle.mb_model.specs.declared.event.Event.{Event}
use Rattle.mb_model.specs.declared.state.State.{State}
use Rattle.mb_model.specs.outside.Board.{image_of, Held}
use Rattle.mb_model.specs.memories.Flash.{HoldsPublic}
use Rattle.mb_model.specs.machine.Machine.{opening_world}
use Rattle.mb_model.specs.memories.Meaning.{IsWellFormed}
use Rattle.mb_model.specs.memories.Migration.{IsMigrated, from_present, from_before}
use Rattle.mb_model.specs.machine.Runs.{IsSoundWorld}
use Rattle.mb_model.specs.memories.WrittenImage.{written_image}
use Rattle.mb_model_commands.specs.Inputs.{Image}
use Rattle.mb_model_commands.specs.RunCommand.{IsServed}
use Rattle.mb_model_lemmas.proofs.FaultLemmas.{well_formed_stands_for_one}
use Rattle.mb_model_lemmas.proofs.HeldSegments.{segments_parts_fit}
use Rattle.mb_model_memory.proofs.StorableMemories.{written_formed_by}
use Rattle.mb_model_histories.specs.HistoryLaws.{ServedImagesAreRead, Turn, IsNextImage, TurnsAreHistories}
use Rattle.mb_model_histories.specs.Histories.{History}
use Rattle.mb_model_histories.proofs.BornLemmas.{at_last}

pub served_images_are_read : ServedImagesAreRead
served_images_are_read image events answered final served = record {
  flash = final.memory.flash;
  bbram = final.memory.bbram;
  image_is = (refl, served.shown.stands.sized);
  stands = served.shown.stands;
  valid = (at_last IsSoundWorld (opening_world image.state) served.last answered served.run served.sound.sound).valid;
}

served_bytes : (image : Image) (events : List Event) (answered : List Answered) (final : Held) → IsServed image events answered final → IsBytes (image_of final.memory)
served_bytes image events answered final served = IsBytes-append final.memory.flash final.memory.bbram served.bytes.flash served.bytes.bbram

-- ---- migrations

migrated_state : (image out : List ℕ) (state : Option State) → IsBytes image → IsWellFormed image state → IsMigrated image out → IsWellFormed out state
migrated_state image out state are formed (from_present other present written) =
    let same : other ≡ state = well_formed_stands_for_one image other state are present formed in
    written_formed_by HoldsPublic segments_parts_fit image out state formed (written ∙ ap written_image same)
migrated_state image out state are formed (from_before none other before written) = absurd (none state formed)

-- ---- turns

next_state : (written image : List ℕ) (state next : Option State) → IsBytes written → IsWellFormed written state → IsNextImage written image → IsWellFormed image next → next ≡ state
next_state written image state next are formed (bytes, inl same) found =
    well_formed_stands_for_one image next state bytes found (subst (λ (b : List ℕ). IsWellFormed b state) (sym same) formed)
next_state written image state next are formed (bytes, inr migrated) found =
    well_formed_stands_for_one image next state bytes found (migrated_state written image state are formed migrated)

pub turns_are_histories : TurnsAreHistories
turns_are_histories first last [] turns = ap (λ (image : Image). image.state) turns
turns_are_histories first last (turn ∷ rest) (served, (next, is_next, formed, later)) =
    let read : IsWellFormed (image_of turn.final.memory) served.last.state = served_images_are_read first turn.events turn.answered turn.final served in
    let same : next.state ≡ served.last.state =
    next_state (image_of turn.final.memory) next.bytes served.last.state next.state (served_bytes first turn.events turn.answered turn.final served) read is_next formed in
    (served.last, served.run, subst (λ o. History o (map (λ (t : Turn). t.answered) rest) last.state) same (turns_are_histories next last rest later))
