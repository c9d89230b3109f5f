-- Pieces that are written in place, one after another: what then stands at the front.
use Rattle.std.proofs.Common.{◌≡◌, ℕ, ◌+◌, List, [], ◌++◌, length, take, ◌≤◌, sym, ap, ◌∙◌, append-nil, append_assoc}
use Rattle.std.proofs.lemmas.List.{take_all}

pub begun : (front pieces : List ℕ) → pieces ≡ [] → front ≡ front ++ pieces
begun front pieces e = sym (append-nil front) ∙ ap (λ (x : List ℕ). front ++ x) (sym e)

pub grown : (old new front pieces more piece : List ℕ) (at from to : ℕ) →
    take (at + length piece) new ≡ take at old ++ piece → at ≡ from → at + length piece ≡ to →
    take from old ≡ front ++ pieces → more ≡ pieces ++ piece → take to new ≡ front ++ more
grown old new front pieces more piece at from to put e f stood next =
    ap (λ (n : ℕ). take n new) (sym f) ∙ put
    ∙ ap (λ (x : List ℕ). x ++ piece) (ap (λ (n : ℕ). take n old) e ∙ stood)
    ∙ append_assoc front pieces piece ∙ ap (λ (x : List ℕ). front ++ x) (sym next)

-- one piece more after a front
pub joined : (old new front piece : List ℕ) (at to : ℕ) →
    take (at + length piece) new ≡ take at old ++ piece → at + length piece ≡ to → take at old ≡ front → take to new ≡ front ++ piece
joined old new front piece at to put e stood =
    ap (λ (n : ℕ). take n new) (sym e) ∙ put ∙ ap (λ (x : List ℕ). x ++ piece) stood

-- the front of an output is all of it
pub whole : (out all : List ℕ) (to : ℕ) → length out ≤ to → take to out ≡ all → out ≡ all
whole out all to short stood = sym (take_all to out short) ∙ stood
