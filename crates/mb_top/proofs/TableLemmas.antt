-- The command that words call, looked for group by group and row by row.
use Rattle.std.proofs.Common.{◌≡◌, ◌⊎◌, ℕ, List, [], ◌∷◌, ◌++◌, map, flat_map, Option, None, Some, MatchOption, sym, ◌∙◌, ap, subst, inl, inr}
use Rattle.std.proofs.lemmas.List.{append_assoc}
use Rattle.mb_console.specs.Words.{Argument, Row, IsCalled, IsCall}
use Rattle.mb_top.specs.Usage.{AllFit}

-- words that do not call the first command call what they call among the others
pub not_first : {R C X : Type 0} (view : R → Row C) (rows rest : List R) (row : R) (words : List (List ℕ)) (found : Option X) (command : X → C) (given : X → List Argument)
    → rows ≡ row ∷ rest → ((arguments : List Argument) → IsCalled (view row).1 (view row).2 words arguments → ⊥)
    → MatchOption found ((c : C) (arguments : List Argument) → IsCall (map view rest) words c arguments → ⊥) (λ x. IsCall (map view rest) words (command x) (given x))
    → MatchOption found ((c : C) (arguments : List Argument) → IsCall (map view rows) words c arguments → ⊥) (λ x. IsCall (map view rows) words (command x) (given x))
not_first view rows rest row words None command given split none later = λ c arguments call.
    elim (subst (λ l. IsCall (map view l) words c arguments) split call) [
      | inl is ↦ none arguments is.1
      | inr is ↦ later c arguments is
    ]
not_first view rows rest row words (Some x) command given split none later =
    subst (λ l. IsCall (map view l) words (command x) (given x)) (sym split) (inr later)

-- ---- groups of rows

-- words that call a command of some rows call it among more
call_before : {C : Type 0} (rows more : List (Row C)) (words : List (List ℕ)) (c : C) (arguments : List Argument) → IsCall rows words c arguments → IsCall (rows ++ more) words c arguments
call_before [] more words c arguments call = absurd call
call_before (row ∷ rows) more words c arguments (inl is) = inl is
call_before (row ∷ rows) more words c arguments (inr call) = inr (call_before rows more words c arguments call)

call_after : {C : Type 0} (rows more : List (Row C)) (words : List (List ℕ)) (c : C) (arguments : List Argument) → IsCall more words c arguments → IsCall (rows ++ more) words c arguments
call_after [] more words c arguments call = call
call_after (row ∷ rows) more words c arguments call = inr (call_after rows more words c arguments call)

call_either : {C : Type 0} (rows more : List (Row C)) (words : List (List ℕ)) (c : C) (arguments : List Argument) → IsCall (rows ++ more) words c arguments
    → IsCall rows words c arguments ⊎ IsCall more words c arguments
call_either [] more words c arguments call = inr call
call_either (row ∷ rows) more words c arguments (inl is) = inl (inl is)
call_either (row ∷ rows) more words c arguments (inr call) =
    elim (call_either rows more words c arguments call) [
      | inl there ↦ inl (inr there)
      | inr there ↦ inr there
    ]

-- words that call a command of the first group
pub in_first_group : {G C : Type 0} (view : G → List (Row C)) (groups rest : List G) (group : G) (words : List (List ℕ)) (c : C) (arguments : List Argument)
    → groups ≡ group ∷ rest → IsCall (view group) words c arguments → IsCall (flat_map view groups) words c arguments
in_first_group view groups rest group words c arguments split call =
    subst (λ l. IsCall (flat_map view l) words c arguments) (sym split) (call_before (view group) (flat_map view rest) words c arguments call)

-- words that call none of the first group call what they call of the others
pub in_later_group : {G C X : Type 0} (view : G → List (Row C)) (groups rest : List G) (group : G) (words : List (List ℕ)) (found : Option X) (command : X → C) (given : X → List Argument)
    → groups ≡ group ∷ rest → ((c : C) (arguments : List Argument) → IsCall (view group) words c arguments → ⊥)
    → MatchOption found ((c : C) (arguments : List Argument) → IsCall (flat_map view rest) words c arguments → ⊥) (λ x. IsCall (flat_map view rest) words (command x) (given x))
    → MatchOption found ((c : C) (arguments : List Argument) → IsCall (flat_map view groups) words c arguments → ⊥) (λ x. IsCall (flat_map view groups) words (command x) (given x))
in_later_group view groups rest group words None command given split none later = λ c arguments call.
    elim (call_either (view group) (flat_map view rest) words c arguments (subst (λ l. IsCall (flat_map view l) words c arguments) split call)) [
      | inl is ↦ none c arguments is
      | inr is ↦ later c arguments is
    ]
in_later_group view groups rest group words (Some x) command given split none later =
    subst (λ l. IsCall (flat_map view l) words (command x) (given x)) (sym split) (call_after (view group) (flat_map view rest) words (command x) (given x) later)

fit_parts : {R : Type 0} (count : R → ℕ) (rows more : List R) → AllFit count (rows ++ more) → AllFit count rows × AllFit count more
fit_parts count [] more fit = (tt, fit)
fit_parts count (row ∷ rows) more fit =
    let parts = fit_parts count rows more fit.1 in
    ((fit.0, parts.0), parts.1)

-- no row of the first group has too many words, and none of the others
pub fit_first : {G R : Type 0} (rows : G → List R) (count : R → ℕ) (groups rest : List G) (group : G) → groups ≡ group ∷ rest → AllFit count (flat_map rows groups) → AllFit count (rows group)
fit_first rows count groups rest group split fit = (fit_parts count (rows group) (flat_map rows rest) (subst (λ l. AllFit count (flat_map rows l)) split fit)).0

pub fit_later : {G R : Type 0} (rows : G → List R) (count : R → ℕ) (groups rest : List G) (group : G) → groups ≡ group ∷ rest → AllFit count (flat_map rows groups) → AllFit count (flat_map rows rest)
fit_later rows count groups rest group split fit = (fit_parts count (rows group) (flat_map rows rest) (subst (λ l. AllFit count (flat_map rows l)) split fit)).1

-- ---- what `--help` prints

pub appended_in_turn : {R : Type 0} (f : R → List ℕ) (rows rest : List R) (row : R) (old mid new : List ℕ) → rows ≡ row ∷ rest → mid ≡ old ++ f row → new ≡ mid ++ flat_map f rest
    → new ≡ old ++ flat_map f rows
appended_in_turn f rows rest row old mid new split mid_is new_is =
    new_is ∙ ap (λ l. l ++ flat_map f rest) mid_is ∙ append_assoc old (f row) (flat_map f rest) ∙ ap (λ rs. old ++ flat_map f rs) (sym split)

pub in_three_parts : (head rows tail none first second whole : List ℕ) → none ≡ [] → first ≡ none ++ head → second ≡ first ++ rows → whole ≡ second ++ tail → whole ≡ (head ++ rows) ++ tail
in_three_parts head rows tail none first second whole none_is first_is second_is whole_is =
    let begun : first ≡ head = first_is ∙ ap (λ l. l ++ head) none_is in
    whole_is ∙ ap (λ l. l ++ tail) (second_is ∙ ap (λ l. l ++ rows) begun)
