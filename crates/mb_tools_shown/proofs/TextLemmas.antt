-- Lines that are appended to a text, one after another.
use Rattle.std.proofs.Common.{◌≡◌, ℕ, ◌+◌, ◌<◌, List, [], ◌∷◌, ◌++◌, length, take, get_or, sym, ap, ◌∙◌, append_assoc}
use Rattle.std.specs.Prelude.{flat_map, map}
use Rattle.std.proofs.lemmas.Grind.{flat_map-append}
use Rattle.std.proofs.lemmas.List.{append-nil, map-append, take_more}
use Rattle.mb_model.specs.outside.Texts.{line_with_lf}
use Rattle.mb_model.specs.chains.Lines.{text_of}
use Rattle.mb_verifier.proofs.Listed.{text_of-append}

-- one line, and what stands after it
pub one_line : (out after line : List ℕ) → after ≡ out ++ line_with_lf line → after ≡ out ++ text_of (line ∷ [])
one_line out after line is = is ∙ ap (λ t. out ++ t) (sym (append-nil (line_with_lf line)))

pub more_lines : (out mid after : List ℕ) (first second : List (List ℕ)) → mid ≡ out ++ text_of first → after ≡ mid ++ text_of second → after ≡ out ++ text_of (first ++ second)
more_lines out mid after first second one two =
    two ∙ ap (λ t. t ++ text_of second) one ∙ append_assoc out (text_of first) (text_of second) ∙ ap (λ t. out ++ t) (sym (text_of-append first second))

pub three_lines : (out one two three : List ℕ) (a b c : List ℕ) → one ≡ out ++ line_with_lf a → two ≡ one ++ line_with_lf b → three ≡ two ++ line_with_lf c
    → three ≡ out ++ text_of (a ∷ b ∷ c ∷ [])
three_lines out one two three a b c is_one is_two is_three =
    more_lines out two three (a ∷ b ∷ []) (c ∷ [])
    (more_lines out one two (a ∷ []) (b ∷ []) (one_line out one a is_one) (one_line one two b is_two)) (one_line two three c is_three)

-- the lines of one item more
pub lines_pushed : {X : Type 0} (f : X → List (List ℕ)) (front : List X) (x : X) (start before after : List ℕ) → before ≡ start ++ text_of (flat_map f front)
    → after ≡ before ++ text_of (f x) → after ≡ start ++ text_of (flat_map f (front ++ x ∷ []))
lines_pushed f front x start before after was is =
    more_lines start before after (flat_map f front) (f x) was is
    ∙ ap (λ ls. start ++ text_of ls) (sym (flat_map-append f front (x ∷ []) ∙ ap (λ ls. flat_map f front ++ ls) (append-nil (f x))))

-- the line of one item more
pub line_more : {X : Type 0} (f : X → List ℕ) (items : List X) (i : ℕ) (d : X) (start before after : List ℕ) → i < length items
    → before ≡ start ++ text_of (map f (take i items)) → after ≡ before ++ line_with_lf (f (get_or items i d))
    → after ≡ start ++ text_of (map f (take (i + 1) items))
line_more f items i d start before after within was is =
    let x = get_or items i d in
    more_lines start before after (map f (take i items)) (f x ∷ []) was (one_line before after (f x) is)
    ∙ ap (λ ls. start ++ text_of ls) (sym (ap (map f) (take_more items i d within) ∙ map-append f (take i items) (x ∷ [])))
