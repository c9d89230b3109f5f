-- What the program comes to by its command line.
use Rattle.std.proofs.Common.{◌≡◌, ℕ, true, false, List, [], ◌∷◌, codes, IsTrue, refl, sym, subst}
use Rattle.mb_model.specs.outside.Board.{Used, not_used}
use Rattle.mb_model.specs.outside.Board.{Held}
use Rattle.mb_model_commands.specs.Outside.{Outside, FailsToPrint}
use Rattle.mb_model_commands.specs.Commands.{Ended, PrintEnds, text_is_not_printed, SaysLine, at_first}
use Rattle.mb_top.specs.Top.{Ends}
use Rattle.mb_console.specs.declared.end.End.TheVariants as end
use Rattle.mb_console.specs.Ending.{ended_at, end_line, end_status}
use Rattle.mb_top.specs.Program.{ProgramEnds, helped, versioned, commanded}

pub text_not_printed : (text : List ℕ) (before mid now : Outside) (final : Held) (status : ℕ) → FailsToPrint text before mid
    → SaysLine (end_line end.NotPrinted) mid now → status ≡ end_status end.NotPrinted → PrintEnds text at_first (ended_at before not_used final now status)
text_not_printed text before mid now final status fails says is =
    text_is_not_printed mid fails (record { says = says; used = refl; status_is = is })

-- ---- by the words

pub help_carried_out : (usage version : List ℕ) (words : List (List ℕ)) (used : Used) (final : Held) (before now : Outside) (status : ℕ) → words ≡ codes "--help" ∷ [] → used ≡ not_used
    → PrintEnds usage at_first (ended_at before not_used final now status) → ProgramEnds usage version words (ended_at before used final now status)
help_carried_out usage version words used final before now status is none ends =
    helped is (subst (λ a. PrintEnds usage at_first (ended_at before a final now status)) (sym none) ends)

pub version_carried_out : (usage version : List ℕ) (words : List (List ℕ)) (used : Used) (final : Held) (before now : Outside) (status : ℕ) → words ≡ codes "--version" ∷ [] → used ≡ not_used
    → PrintEnds version at_first (ended_at before not_used final now status) → ProgramEnds usage version words (ended_at before used final now status)
version_carried_out usage version words used final before now status is none ends =
    versioned is (subst (λ a. PrintEnds version at_first (ended_at before a final now status)) (sym none) ends)

pub other_carried_out : (usage version : List ℕ) (words : List (List ℕ)) (e : Ended) → (words ≡ codes "--help" ∷ [] → IsTrue false) → (words ≡ codes "--version" ∷ [] → IsTrue false)
    → Ends words e → ProgramEnds usage version words e
other_carried_out usage version words e no_help no_version ends =
    commanded (λ is. let false_is : false ≡ true = no_help is in cc) (λ is. let false_is : false ≡ true = no_version is in cc) ends
