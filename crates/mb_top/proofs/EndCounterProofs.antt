-- The counterexamples of ends, refuted.
use Rattle.std.proofs.Common.{◌≡◌, ◌≢◌, ℕ, ◌≤◌, Bool, true, nat_lt, List, [], ◌∷◌, length, refl, arith}
use Rattle.mb_model.specs.outside.Board.{not_used}
use Rattle.mb_model_commands.specs.Commands.{Ended}
use Rattle.mb_console.specs.declared.words.Kind.{Kind}
use Rattle.mb_console.specs.Words.{Argument, Row, AreWordsFor, IsCalled, IsCall}
use Rattle.mb_console.proofs.WordLemmas.{all_rows, row_of_call}
use Rattle.mb_top.specs.declared.table.Command.{Command}
use Rattle.mb_top.specs.CommandTable.{commands}
use Rattle.mb_top.specs.Top.{Ends, no_command, did}
use Rattle.mb_top.specs.EndCounterExamples.{EndCounterExamples}

-- whether a word comes after the name
has_a_word : Row Command → Bool
has_a_word row = nat_lt 0 (length row.2)

all_have_one : all_rows has_a_word commands ≡ true
unfolding commands has_a_word
all_have_one = refl

as_many : (kinds : List Kind) (words : List (List ℕ)) (arguments : List Argument) → AreWordsFor kinds words arguments → length words ≡ length kinds
as_many [] [] arguments is = refl
as_many [] (word ∷ words) arguments is = absurd is
as_many (kind ∷ kinds) [] arguments is = absurd is
as_many (kind ∷ kinds) (word ∷ words) [] is = absurd is
as_many (kind ∷ kinds) (word ∷ words) (argument ∷ arguments) is = omega (arith, as_many kinds words arguments is.1)

called_by_more : (name : List ℕ) (kinds : List Kind) (words : List (List ℕ)) (given : List Argument) → nat_lt 0 (length kinds) ≡ true → IsCalled name kinds words given → 2 ≤ length words
called_by_more name kinds [] given one is = absurd is
called_by_more name kinds (first ∷ words) given one is =
    let many = as_many kinds words given is.1 in
    grind (arith, many, one)

two_words : (words : List (List ℕ)) (called : Command) (given : List Argument) → IsCall commands words called given → 2 ≤ length words
unfolding has_a_word
two_words words called given is =
    let row = row_of_call has_a_word commands words called given all_have_one is in
    called_by_more row.row.1 row.row.2 words given row.passes row.called

no_other_status : (words : List (List ℕ)) (e : Ended) → length words ≤ 1 → e.status ≢ 2 → Ends words e → ⊥
no_other_status words e few other (no_command none stops) = other stops.status_is
no_other_status words e few other (did called given is ends) = omega (arith, few, two_words words called given is)

not_used_so : (words : List (List ℕ)) (e : Ended) → length words ≤ 1 → e.used ≢ not_used → Ends words e → ⊥
not_used_so words e few some (no_command none stops) = some stops.used
not_used_so words e few some (did called given is ends) = omega (arith, few, two_words words called given is)

pub no_other_ends : (words : List (List ℕ)) (e : Ended) → EndCounterExamples words e
no_other_ends words e = record { status = no_other_status words e; used = not_used_so words e }
