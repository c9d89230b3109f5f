-- What carries out `cutat`.
use Rattle.std.proofs.Common.{◌≡◌, ℕ, List, Option, false, Result, Err, refl, sym, subst, ◌∙◌}
use Rattle.std.specs.Prelude.{codes}
use Rattle.mb_model.specs.declared.state.State.{State}
use Rattle.mb_model.specs.outside.Board.{Held, Used}
use Rattle.mb_model.specs.memories.Meaning.{StandsFor, IsWellFormed}
use Rattle.mb_model.specs.outside.Texts.{line_with_lf}
use Rattle.mb_model_commands.specs.Outside.{Outside}
use Rattle.mb_model_commands.specs.Commands.{Past, either_command, print, lack}
use Rattle.mb_model_lemmas.proofs.FaultLemmas.{image_parts}
use Rattle.mb_model_lemmas.proofs.MeaningLemmas.{one_meaning}
use Rattle.mb_console.specs.declared.end.End.{End}
use Rattle.mb_console.specs.declared.end.End.TheVariants as end
use Rattle.mb_console.specs.Ending.{CarriesOutAfter, CarriesOutRest}
use Rattle.mb_console.proofs.CommandLemmas.{goes_first, goes_second, memory_chosen, lack_here}
use Rattle.mb_tools_device.specs.CutCommand.{AnyLacksMemory, LastIsStopped, ShowsState, ShowSame, tell_cut, tell_state}
use Rattle.mb_tools_device.specs.TwoRuns.{IsImageLeft}

-- ---- which state an image stands for

-- the state that a board shows is the one for which its image stands
pub one_state : (held : Held) (image : List ℕ) (left : IsImageLeft held image) (state other : Option State) → IsWellFormed image state → ShowsState held other → state ≡ other
one_state held image left state other formed shows =
    let memory = held.memory in
    let parts = image_parts image formed.flash formed.bbram memory.flash memory.bbram formed.image_is (left.image_is, left.loaded) in
    let stands : StandsFor memory.flash memory.bbram state = subst (λ f. StandsFor f memory.bbram state) parts.0 (subst (λ b. StandsFor formed.flash b state) parts.1 formed.stands) in
    one_meaning memory.flash memory.bbram state other left.bytes.flash left.bytes.bbram stands (subst (λ (s : Option State). StandsFor memory.flash memory.bbram s) shows.is shows.shown.stands)

pub shows_it : (held : Held) (image : List ℕ) (left : IsImageLeft held image) (state : Option State) → IsWellFormed image state → ShowsState held state
shows_it held image left state formed = subst (ShowsState held) (sym (one_state held image left state left.state formed left.shows)) left.shows

pub told_same : (held final : Held) (used : Used) (image last : List ℕ) (one other : Option State) (before now : Outside) (result : Result (Unit {0}) End) → IsImageLeft held image → IsImageLeft final last
    → IsWellFormed image one → IsWellFormed last other → one ≡ other → CarriesOutAfter (print (line_with_lf (codes "old"))) before result now
    → CarriesOutRest (tell_state held final) (record { used = used; wrote = false }) used final before result now
told_same held final used image last one other before now result left is_last first second same carried =
    let past : Past = record { used = used; wrote = false } in
    goes_first (ShowSame held final) (print (line_with_lf (codes "old"))) (print (line_with_lf (codes "new"))) past used final before now result
    (record { state = other; first = subst (ShowsState held) same (shows_it held image left one first); second = shows_it final last is_last other second })
    (carried past final)

pub told_other : (held final : Held) (used : Used) (image last : List ℕ) (one other : Option State) (before now : Outside) (result : Result (Unit {0}) End) → IsImageLeft held image → IsImageLeft final last
    → IsWellFormed image one → IsWellFormed last other → (one ≡ other → ⊥) → CarriesOutAfter (print (line_with_lf (codes "new"))) before result now
    → CarriesOutRest (tell_state held final) (record { used = used; wrote = false }) used final before result now
told_other held final used image last one other before now result left is_last first second apart carried =
    let past : Past = record { used = used; wrote = false } in
    goes_second (ShowSame held final) (print (line_with_lf (codes "old"))) (print (line_with_lf (codes "new"))) past used final before now result
    (λ same. apart (one_state held image left one same.state first same.first ∙ sym (one_state final last is_last other same.state second same.second)))
    (carried past final)

-- ---- what is told

abbrev pub served_past : Used → Past
served_past used = record { used = used; wrote = false }

pub state_untold : (held final : Held) (used : Used) (before : Outside) → CarriesOutRest (tell_state held final) (served_past used) used final before (Err end.NoMemory) before
state_untold held final used before =
    memory_chosen (ShowSame held final) (print (line_with_lf (codes "old"))) (print (line_with_lf (codes "new"))) (served_past used) used final before refl refl

pub cut_lacks : (held final : Held) (used : Used) (before : Outside) → AnyLacksMemory used.answered → CarriesOutRest (tell_cut held used.answered final) (served_past used) used final before (Err end.NoMemory) before
cut_lacks held final used before lacks =
    goes_first (AnyLacksMemory used.answered) lack (either_command (LastIsStopped used.answered) (tell_state held final) (print (line_with_lf (codes "unstopped")))) (served_past used) used final before before (Err end.NoMemory) lacks
    (lack_here (served_past used) used final before refl)

pub cut_unstopped : (held final : Held) (used : Used) (before now : Outside) (result : Result (Unit {0}) End) → (AnyLacksMemory used.answered → ⊥) → (LastIsStopped used.answered → ⊥)
    → CarriesOutAfter (print (line_with_lf (codes "unstopped"))) before result now → CarriesOutRest (tell_cut held used.answered final) (served_past used) used final before result now
cut_unstopped held final used before now result whole unstopped carried =
    goes_second (AnyLacksMemory used.answered) lack (either_command (LastIsStopped used.answered) (tell_state held final) (print (line_with_lf (codes "unstopped")))) (served_past used) used final before now result whole
    (goes_second (LastIsStopped used.answered) (tell_state held final) (print (line_with_lf (codes "unstopped"))) (served_past used) used final before now result unstopped (carried (served_past used) final))

pub cut_stopped : (held final : Held) (used : Used) (before now : Outside) (result : Result (Unit {0}) End) → (AnyLacksMemory used.answered → ⊥) → LastIsStopped used.answered
    → CarriesOutRest (tell_state held final) (served_past used) used final before result now → CarriesOutRest (tell_cut held used.answered final) (served_past used) used final before result now
cut_stopped held final used before now result whole stopped carried =
    goes_second (AnyLacksMemory used.answered) lack (either_command (LastIsStopped used.answered) (tell_state held final) (print (line_with_lf (codes "unstopped")))) (served_past used) used final before now result whole
    (goes_first (LastIsStopped used.answered) (tell_state held final) (print (line_with_lf (codes "unstopped"))) (served_past used) used final before now result stopped carried)
