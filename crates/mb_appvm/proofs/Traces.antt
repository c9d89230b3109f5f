-- What is appended of a stack, value by value.
use Rattle.std.proofs.Common.{◌≡◌, ℕ, ◌+◌, ◌<◌, ◌≤◌, List, [], ◌∷◌, ◌++◌, length, take, get_or, sym, ap, ◌∙◌}
use Rattle.std.proofs.lemmas.List.{take_more, take_all, flat_map_more}
use Rattle.mb_appvm.specs.Tracing.{spaced_value, stack_words}

pub one_value : (values : List ℕ) (at : ℕ) (first before after : List ℕ) → at < length values → before ≡ first ++ stack_words (take at values)
    → after ≡ before ++ spaced_value (get_or values at 0) → after ≡ first ++ stack_words (take (at + 1) values)
one_value values at first before after within written puts =
    puts ∙ ap (λ (x : List ℕ). x ++ spaced_value (get_or values at 0)) written ∙ flat_map_more spaced_value first (take at values) (get_or values at 0)
    ∙ ap (λ (xs : List ℕ). first ++ stack_words xs) (sym (take_more values at 0 within))

pub all_values : (values : List ℕ) (at : ℕ) (first after : List ℕ) → length values ≤ at → after ≡ first ++ stack_words (take at values) → after ≡ first ++ stack_words values
all_values values at first after all written = written ∙ ap (λ (xs : List ℕ). first ++ stack_words xs) (take_all at values all)
