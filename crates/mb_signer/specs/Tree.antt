-- The nodes of a key's tree in a table. Is each node of a kept tree the key's?
use Rattle.std.specs.Prelude.{◌≡◌, ℕ, zero, suc, ◌+◌, ◌-◌, ◌/◌, ◌^◌, ◌<◌, ◌≤◌, List, [], slice_index_or}
use Rattle.mb_model.specs.declared.key.KeySeed.{KeySeed}
use Rattle.mb_model.specs.signatures.Signing.{node_of}

-- the node with the number r: the table begins with node 1, the root
abbrev pub node_at : List (List ℕ) → ℕ → List ℕ
node_at nodes r = slice_index_or nodes (r - 1) []

-- the nodes from a to b - 1 are those of the key's tree
pub record HasNodes (key : KeySeed) (nodes : List (List ℕ)) (a b : ℕ) : Type 0 where
  pub each : (r : ℕ) → a ≤ r → r < b → node_at nodes r ≡ node_of key r

-- the nodes of a table are those of the key's whole tree, from the root 1 to the last leaf 63
abbrev pub IsTreeOf : KeySeed → List (List ℕ) → Type 0
IsTreeOf key nodes = HasNodes key nodes 1 64

-- the nodes of a table are those of some key's tree
pub record IsSomeTree (nodes : List (List ℕ)) : Type 0 where
  pub key : KeySeed
  pub tree : IsTreeOf key nodes

-- The table has the nodes of level n that come before node `next`, and each node above them whose descendants on level
-- n all come before `next`. The root is level 0.
unfoldable pub IsFilled : KeySeed → List (List ℕ) → ℕ → ℕ → Type 0
IsFilled key nodes zero next = HasNodes key nodes 1 next
IsFilled key nodes (suc n) next = HasNodes key nodes (2 ^ suc n) next × IsFilled key nodes n (next / 2)

-- how many nodes above level n have all their descendants on level n before node `next`, plus 2 ^ n - 1
unfoldable pub joined_above : ℕ → ℕ → ℕ
joined_above zero next = 0
joined_above (suc n) next = next / 2 + joined_above n (next / 2)
