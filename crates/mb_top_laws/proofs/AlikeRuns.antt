-- Two ends of `run` are alike but for the bytes of their images.
use Rattle.std.proofs.Common.{◌≡◌, ◌≢◌, ℕ, ◌⊎◌, Bool, true, false, if◌then◌else◌, List, ◌++◌, Some, refl, sym, ◌∙◌, ap, subst, inl, inr}
use Rattle.std.specs.Prelude.{All}
use Rattle.mb_format.specs.Combinators.{same_bytes}
use Rattle.mb_format.proofs.Fields.{same_bytes-refl, same_bytes-true}
use Rattle.mb_model.specs.declared.event.Event.{Event}
use Rattle.mb_model.specs.declared.event.Answered.{Answered}
use Rattle.mb_model.specs.outside.Board.{Held, Used, image_of, loaded_once_more}
use Rattle.mb_model.specs.memories.Acknowledged.{LeavesMemory}
use Rattle.mb_model.specs.machine.Machine.{World, opening_world}
use Rattle.mb_model.specs.memories.Meaning.{IsWellFormed}
use Rattle.mb_model.specs.chains.Replies.{replies_text}
use Rattle.mb_model_commands.specs.declared.role.Role.TheVariants as role
use Rattle.mb_model_commands.specs.Inputs.{Image}
use Rattle.mb_model_commands.specs.RunCommand.{RunNames, IsServed, run}
use Rattle.mb_model_commands.specs.Commands.{Command, load, serve, write, print, Past, Ended, WantsMemory, CommandEnds, end_seen_from}
use Rattle.mb_model_commands.specs.Commands.{at_first}
use Rattle.mb_model_lemmas.specs.RefusalLaws.{BringsBytes}
use Rattle.mb_model_histories.specs.PowerLaws.{HasOwnAnswer}
use Rattle.mb_model_histories.proofs.PowerLemmas.{runs_are_determined}
use Rattle.mb_model_histories.proofs.TurnLemmas.{served_images_are_read}
use Rattle.mb_model_histories.specs.KeyFileLaws.{Files}
use Rattle.mb_top_laws.specs.EndLaws.{ShowsAll, hold_the_same, hold_images, AreRunsAlike, RunsAgree}
use Rattle.mb_top_laws.proofs.AlikeSteps.{Goes, IsOfEnds, Related, files_with, related_read, write_goes, print_goes, whole_goes}
use Rattle.mb_top_laws.proofs.InputsOnce.{image_once, script_once, draws_once}
use Rattle.mb_top_laws.proofs.EventBytes.{drawn_bytes, answered_bytes}

-- alike, if each reply is the machine's own
abbrev AreAlikeRuns : List ℕ → Ended → Ended → Type 0
AreAlikeRuns image e f = All HasOwnAnswer e.used.answered → All HasOwnAnswer f.used.answered → AreRunsAlike image e f

runs_of_ends : (image : List ℕ) → IsOfEnds (AreAlikeRuns image)
runs_of_ends image = record {
  later = λ m n e f same own also. by e f (same own also);
  alike = λ e f same own also. record {
    status = same.status;
    answers = ap (λ (u : Used). u.answered) same.used;
    files = same.files;
    changed = same.files;
    printed = same.printed;
    shown = same.shown;
    also = same.also;
    others = λ name other. refl;
    images = hold_the_same refl;
    untouched = λ all. refl;
  };
}
  where
    by : {m n : _} (e f : Ended) → AreRunsAlike image (end_seen_from m e) (end_seen_from n f) → AreRunsAlike image e f
    by e f is = record {
      status = is.status;
      answers = is.answers;
      files = is.files;
      changed = is.changed;
      printed = is.printed;
      shown = is.shown;
      also = is.also;
      others = is.others;
      images = is.images;
      untouched = is.untouched;
    }

-- ---- the events

-- what comes after the events were served
abbrev write_image : RunNames → List Answered → Held → Command
write_image names answered final = write (record { role = role.Image; name = names.image; bytes = image_of final.memory }) (print (replies_text answered))

-- what comes after the inputs were read
abbrev serve_events : RunNames → Image → List Event → Command
serve_events names image events = load image.bytes (serve (IsServed image events) (write_image names))

-- what serving the events comes to
record Serves (names : RunNames) (image : Image) (events : List Event) (past : Past) (files : Files) (printed : List ℕ) (e : Ended) : Type 0 where
  served : IsServed image events e.used.answered e.final
  goes : Goes (write_image names e.used.answered e.final) (record past { used = e.used }) files printed e

serves_goes : (names : RunNames) (image : Image) (events : List Event) (past : Past) (files : Files) (printed : List ℕ) (e : Ended)
    → Goes (serve_events names image events) past files printed e → Serves names image events past files printed e
unfolding CommandEnds
serves_goes names image events past files printed e goes = by goes.ends
  where
    by : CommandEnds (serve (IsServed image events) (write_image names)) (record past { used = loaded_once_more image.bytes past.used }) e ⊎ WantsMemory past e
        → Serves names image events past files printed e
    by (inl it) = record { served = it.1; goes = record { ends = it.2; shown = goes.shown; faultless = goes.faultless; found = goes.found } }
    by (inr wants) = absurd (goes.found wants.stops.status_is)

-- what the image's file holds after it is written
pub written_here : (name bytes : List ℕ) (files : Files) → files_with name bytes files name ≡ Some bytes
written_here name bytes files = ap (λ (b : Bool). if b then Some bytes else files name) (same_bytes-refl name)

written_elsewhere : (name one other : List ℕ) (files : Files) (another : List ℕ) → another ≢ name → files_with name one files another ≡ files_with name other files another
written_elsewhere name one other files another differs = by (same_bytes another name) refl
  where
    by : (b : Bool) → same_bytes another name ≡ b → (if same_bytes another name then Some one else files another) ≡ (if same_bytes another name then Some other else files another)
    by true is = absurd (differs (same_bytes-true another name is))
    by false is = rw is refl

-- the end after the image was written and the replies were printed
record Written (names : RunNames) (answered : List Answered) (final : Held) (files : Files) (printed : List ℕ) (e : Ended) : Type 0 where
  after : ShowsAll e.after (files_with names.image (image_of final.memory) files) (printed ++ replies_text answered)
  status_is : e.status ≡ 0

written_goes : (names : RunNames) (answered : List Answered) (final : Held) (past : Past) (files : Files) (printed : List ℕ) (e : Ended)
    → Goes (write_image names answered final) past files printed e → Written names answered final files printed e
written_goes names answered final past files printed e goes =
    let wrote = write_goes (record { role = role.Image; name = names.image; bytes = image_of final.memory }) (print (replies_text answered)) past files printed e goes in
    let told = print_goes (replies_text answered) (record past { wrote = true }) (files_with names.image (image_of final.memory) files) printed (end_seen_from wrote.0 e) wrote.1 in
    record { after = told.0; status_is = told.1 }

serves_related : (names : RunNames) (image : Image) (events : List Event) → All BringsBytes events → Related (AreAlikeRuns names.image) (serve_events names image events) (serve_events names image events)
serves_related names image events are past files printed e f goes also own owned =
    let one = serves_goes names image events past files printed e goes in
    let other = serves_goes names image events past files printed f also in
    let same = runs_are_determined (opening_world image.state) one.served.last other.served.last e.used.answered f.used.answered
    (answered_bytes e.used.answered events one.served.all are) (one.served.all ∙ sym other.served.all) own owned one.served.run other.served.run in
    let first = written_goes names e.used.answered e.final (record past { used = e.used }) files printed e one.goes in
    let second = written_goes names f.used.answered f.final (record past { used = f.used }) files printed f other.goes in
    let x : List ℕ = image_of e.final.memory in
    let y : List ℕ = image_of f.final.memory in
    record {
      status = first.status_is ∙ sym second.status_is;
      answers = same.0;
      files = files_with names.image x files;
      changed = files_with names.image y files;
      printed = printed ++ replies_text e.used.answered;
      shown = first.after;
      also = subst (λ (a : List Answered). ShowsAll f.after (files_with names.image y files) (printed ++ replies_text a)) (sym same.0) second.after;
      others = λ name differs. written_elsewhere names.image x y files name differs;
      images = hold_images x y one.served.last.state (written_here names.image x files) (written_here names.image y files)
          (served_images_are_read image events e.used.answered e.final one.served)
          (subst (λ (w : World). IsWellFormed y w.state) (sym same.1) (served_images_are_read image events f.used.answered f.final other.served));
      untouched = λ all.
          let bytes : x ≡ y = one.served.untouched all ∙ sym (other.served.untouched (subst (λ (a : List Answered). All LeavesMemory a) same.0 all)) in
          written_here names.image x files ∙ ap (λ (b : List ℕ). Some b) bytes ∙ sym (written_here names.image y files);
    }

-- ---- the inputs

runs_related : (names : RunNames) → Related (AreAlikeRuns names.image) (run names) (run names)
unfolding run
runs_related names = related_read _ _ _ (runs_of_ends names.image) (image_once _) (λ bytes image are is.
    related_read _ _ _ (runs_of_ends names.image) (script_once _) (λ text events are script.
    related_read _ _ _ (runs_of_ends names.image) (draws_once _ _) (λ noise drawn are draws.
    serves_related names image drawn (drawn_bytes script.lines events drawn noise script.stands draws))))

pub runs_agree : RunsAgree
runs_agree names files printed e f whole also own owned =
    runs_related names at_first files printed e f (whole_goes (run names) files printed e whole) (whole_goes (run names) files printed f also) own owned
