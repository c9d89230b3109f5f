-- Texts that grow line by line.
use Rattle.std.proofs.Common.{◌≡◌, ◌<◌, ◌≤◌, ◌+◌, ℕ, List, [], ◌∷◌, ◌++◌, length, take, map, get_or, sym, ap, ◌∙◌, append_assoc, append-nil}
use Rattle.std.proofs.lemmas.List.{take_more, take_all, map-append}
use Rattle.std.proofs.lemmas.List.Concat.{flat_map-cons}
use Rattle.mb_model.specs.outside.Texts.{line_with_lf}
use Rattle.mb_model.specs.chains.Lines.{text_of}
use Rattle.mb_verifier.proofs.Listed.{text_of-append}

pub text_of_one : (line : List ℕ) → text_of (line ∷ []) ≡ line_with_lf line
text_of_one line = flat_map-cons line_with_lf line [] ∙ append-nil (line_with_lf line)

-- one line more
pub lines_more : {A : Type 0} (line : A → List ℕ) (xs : List A) (i : ℕ) (d : A) (old now after : List ℕ) → i < length xs
    → now ≡ old ++ text_of (map line (take i xs)) → after ≡ now ++ line_with_lf (line (get_or xs i d)) → after ≡ old ++ text_of (map line (take (i + 1) xs))
lines_more line xs i d old now after within is put =
    let front = map line (take i xs) in
    let last = line (get_or xs i d) in
    put ∙ ap (λ (t : List ℕ). t ++ line_with_lf last) is ∙ append_assoc old (text_of front) (line_with_lf last)
    ∙ ap (λ (t : List ℕ). old ++ (text_of front ++ t)) (sym (text_of_one last))
    ∙ ap (λ (t : List ℕ). old ++ t) (sym (text_of-append front (last ∷ [])))
    ∙ ap (λ (ls : List (List ℕ)). old ++ text_of ls) (sym (map-append line (take i xs) (get_or xs i d ∷ [])))
    ∙ ap (λ (ys : List _). old ++ text_of (map line ys)) (sym (take_more xs i d within))

-- all lines, after a first one
pub lines_ended : {A : Type 0} (line : A → List ℕ) (xs : List A) (i : ℕ) (first old middle now : List ℕ) → length xs ≤ i
    → middle ≡ old ++ line_with_lf first → now ≡ middle ++ text_of (map line (take i xs)) → now ≡ old ++ text_of (first ∷ map line xs)
lines_ended line xs i first old middle now over begun is =
    is ∙ ap (λ (ys : List _). middle ++ text_of (map line ys)) (take_all i xs over)
    ∙ ap (λ (t : List ℕ). t ++ text_of (map line xs)) begun
    ∙ append_assoc old (line_with_lf first) (text_of (map line xs))
    ∙ ap (λ (t : List ℕ). old ++ t) (sym (flat_map-cons line_with_lf first (map line xs)))
