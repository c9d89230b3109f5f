-- What the lines of a script give: each an event that a script can give.
use Rattle.std.proofs.Common.{ℕ, List, [], ◌∷◌, length, ap, ◌∙◌}
use Rattle.std.specs.Prelude.{All, not, filter}
use Rattle.std.specs.List.{AllZip}
use Rattle.std.proofs.lemmas.List.{length-replicate}
use Rattle.std.proofs.lemmas.List.Elements.{All-nil, All-cons}
use Rattle.mb_model.specs.declared.event.Event.{Event}
use Rattle.mb_model.specs.declared.event.Event.TheVariants as event
use Rattle.mb_model.specs.chains.Script.{IsScriptEvent, SaysEvent, is_skipped, IsScript}

says_script : (line : List ℕ) (e : Event) → SaysEvent line e → IsScriptEvent e
says_script line event.Boot says = tt
says_script line event.Off says = tt
says_script line event.Tamper says = tt
says_script line event.Status says = tt
says_script line event.Go says = tt
says_script line (event.Cut count tear) says = (says.fill, says.allowed)
says_script line (event.Order text draw) says = ap length says.1 ∙ length-replicate {A = ℕ} 32 0
says_script line (event.Put region name value) says = (says.0, says.1, says.2)
says_script line (event.Get region name) says = (says.0, says.1)
says_script line (event.Drop region name) says = (says.0, says.1)
says_script line (event.Sign region key message) says = (says.0, says.1, says.2)
says_script line (event.Call region key input) says = (says.0, says.1, says.2)

all_script : (lines : List (List ℕ)) (events : List Event) → AllZip SaysEvent lines events → All IsScriptEvent events
all_script [] [] says = All-nil IsScriptEvent
all_script [] (e ∷ events) says = absurd says
all_script (line ∷ lines) [] says = absurd says
all_script (line ∷ lines) (e ∷ events) says =
    All-cons IsScriptEvent e events (says_script line e says.0) (all_script lines events says.1)

pub IsScript-events : (lines : List (List ℕ)) (events : List Event) → IsScript lines events → All IsScriptEvent events
IsScript-events lines events is = all_script (filter (λ line. not (is_skipped line)) lines) events is.said
