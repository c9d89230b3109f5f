-- How many entries the log has for which a memory stands.
use Rattle.std.proofs.Common.{◌≡◌, ℕ, ◌+◌, List, length, Option, sym, ap, subst, ◌∙◌, length-append}
use Rattle.mb_format.specs.Format.{IsBytes}
use Rattle.mb_model.specs.declared.entry.Entry.{Entry}
use Rattle.mb_model.specs.declared.entry.SignedEntry.{SignedEntry}
use Rattle.mb_model.specs.declared.state.Codes.{Codes}
use Rattle.mb_model.specs.declared.state.State.{State}
use Rattle.mb_model.specs.declared.stored.Root.{Root}
use Rattle.mb_model.specs.memories.StoredLog.{entries_signed_for, outgoing_of, log_completed_by}
use Rattle.mb_model.specs.memories.Flash.{HoldsPublic}
use Rattle.mb_model.specs.memories.Memory.{IsImage, IsBlank}
use Rattle.mb_model.specs.memories.Meaning.{Contents, state_of_contents, RootIn, HasMeaning, is_dead, is_live}
use Rattle.mb_model.specs.memories.Meaning.{StandsFor}
use Rattle.mb_model.specs.memories.Meaning.{log_length}
use Rattle.mb_model_lemmas.proofs.MeaningLemmas.{one_root_in, not_blank}
use Rattle.mb_model_lemmas.proofs.FaultLemmas.{image_parts}
use Rattle.mb_model_lemmas.proofs.PublicLemmas.{length-signed_for}

-- the log that contents mean has an entry for each that is stored
meant_length : (contents : Contents) → length (state_of_contents contents).log ≡ length contents.signed + length contents.unsigned
unfolding state_of_contents log_completed_by
meant_length contents =
    let later = entries_signed_for contents.root.device contents.root.uses (outgoing_of contents.root.pending) contents.unsigned in
    length-append contents.signed later
    ∙ ap (λ n. length contents.signed + n) (length-signed_for contents.root.device contents.root.uses (outgoing_of contents.root.pending) contents.unsigned)

-- what an image stands for, its two halves mean
pub halves_mean : (image flash bbram flash' bbram' : List ℕ) (state : Option State) → IsImage image flash bbram → IsImage image flash' bbram' → StandsFor flash' bbram' state → HasMeaning flash bbram state
halves_mean image flash bbram flash' bbram' state one other stands =
    let parts = image_parts image flash' bbram' flash bbram other one in
    subst (λ f. HasMeaning f bbram state) parts.0 (subst (λ b. HasMeaning flash' b state) parts.1 stands.meaning)

pub blank_counts : (flash bbram : List ℕ) (state : Option State) → IsBlank bbram → HasMeaning flash bbram state → 0 ≡ log_length state
blank_counts flash bbram state blank (is_dead zeros none) = sym (ap log_length none)
blank_counts flash bbram state blank (is_live contents holds index is) = absurd (not_blank bbram blank holds.root.alive)

pub rootless_counts : (flash bbram : List ℕ) (state : Option State) → ((root : Root) → RootIn bbram root → ⊥) → HasMeaning flash bbram state → 0 ≡ log_length state
rootless_counts flash bbram state never (is_dead zeros none) = sym (ap log_length none)
rootless_counts flash bbram state never (is_live contents holds index is) = absurd (never contents.root holds.root)

pub live_counts : (flash bbram : List ℕ) (state : Option State) (root : Root) (count : ℕ) → IsBytes bbram → RootIn bbram root
    → ((codes : Codes) (signed : List SignedEntry) (unsigned : List Entry) → HoldsPublic flash root codes signed unsigned → count ≡ length signed + length unsigned)
    → HasMeaning flash bbram state → count ≡ log_length state
live_counts flash bbram state root count are rooted counts (is_dead zeros none) = absurd (not_blank bbram zeros rooted.alive)
live_counts flash bbram state root count are rooted counts (is_live contents holds index is) =
    let same : contents.root ≡ root = one_root_in bbram contents.root root are holds.root rooted in
    let held : HoldsPublic flash root contents.codes contents.signed contents.unsigned =
    subst (λ (r : Root). HoldsPublic flash r contents.codes contents.signed contents.unsigned) same holds.public in
    counts contents.codes contents.signed contents.unsigned held ∙ sym (meant_length contents) ∙ sym (ap log_length is)
