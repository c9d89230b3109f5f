-- The way up a tree, a level at a time.
use Rattle.std.proofs.Common.{◌≡◌, ℕ, suc, ◌+◌, ◌-◌, ◌*◌, ◌/◌, ◌<◌, ◌≤◌, List, take, drop, refl, sym, ap, ◌∙◌, arith}
use Rattle.std.proofs.lemmas.List.{drop-drop}
use Rattle.mb_model.specs.signatures.Winternitz.{value_at}
use Rattle.mb_model.specs.signatures.Merkle.{climb, parent_node}

pub climb_begun : (id : List ℕ) (r : ℕ) (node path : List ℕ) (n : ℕ) →
    climb id r node (drop (32 * 0) path) (n - 0) ≡ climb id r node path n
climb_begun id r node path n = let e : n - 0 ≡ n = omega arith in rw e refl

pub climb_ended : (id : List ℕ) (r : ℕ) (node path : List ℕ) (i n : ℕ) → n ≤ i → climb id r node path (n - i) ≡ node
unfolding climb
climb_ended id r node path i n h = let e : n - i ≡ 0 = omega arith in rw e refl

level_taken : (id : List ℕ) (r : ℕ) (node path : List ℕ) (m n : ℕ) → m ≡ suc n →
    climb id r node path m ≡ climb id (r / 2) (parent_node id r node (take 32 path)) (drop 32 path) n
unfolding climb
level_taken id r node path m n e = rw e refl

pub climb_next : (id : List ℕ) (r : ℕ) (node path : List ℕ) (i n : ℕ) → i < n →
    climb id r node (drop (32 * i) path) (n - i)
    ≡ climb id (r / 2) (parent_node id r node (value_at path i)) (drop (32 * (i + 1)) path) (n - (i + 1))
climb_next id r node path i n h =
    let next : 32 * (i + 1) ≡ 32 * i + 32 = omega arith in
    level_taken id r node (drop (32 * i) path) (n - i) (n - (i + 1)) (omega arith)
    ∙ ap (λ (rest : List ℕ). climb id (r / 2) (parent_node id r node (value_at path i)) rest (n - (i + 1)))
    (drop-drop 32 (32 * i) path ∙ ap (λ (at : ℕ). drop at path) (sym next))

pub ruleset climb_rules = (climb_begun, climb_ended, climb_next)
