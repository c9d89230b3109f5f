-- A signature that is made of a key's seed verifies under its public key.
use Rattle.std.proofs.Common.{◌≡◌, ℕ, zero, suc, ◌+◌, ◌-◌, ◌*◌, ◌/◌, ◌%◌, ◌^◌, ◌<◌, ◌≤◌, List, [], ◌∷◌, ◌++◌, length, take, drop, inl, inr, refl, sym, ap, ◌∙◌, arith, lit<, length-append}
use Rattle.std.proofs.lemmas.List.{take_at, drop_at, take-append-le, drop-append-le, drop-drop, take_all, length-drop, length-take-le}
use Rattle.std.proofs.lemmas.Nat.{and_le_l, from_be_bytes-to_be_bytes_4, pow_pos, shr-shr, shr_le}
use Rattle.std.proofs.lemmas.Bool.Decides.{nat_tests}
use Rattle.std.proofs.lemmas.Bool.{cases_lt}
use Rattle.std.proofs.Math.Nat.{pow-suc}
use Rattle.std.specs.Int.{w32, to_be_bytes, from_be_bytes}
use Rattle.sha2.specs.Sha256.{sha256}
use Rattle.sha2.proofs.Facts256.{length-sha256}
use Rattle.mb_model.specs.declared.key.KeySeed.{KeySeed}
use Rattle.mb_model.specs.declared.key.Chains.TheVariants.{W4}
use Rattle.mb_model.specs.signatures.Key.{IsSized}
use Rattle.mb_model.specs.signatures.Winternitz.{coef, chain_step, value_after_count, value_after_steps, value_at, chain_ends, one_time_key, one_time_key_mark, digits_of, message_hash}
use Rattle.mb_model.specs.outside.Pieces.{part}
use Rattle.mb_model.specs.signatures.Merkle.{leaf_node, inner_node, parent_node, climb, leaf_number, randomizer, root_from, hash_of, HasForm, Verifies}
use Rattle.mb_model.specs.signatures.Signing.{private_value, randomizer_of, public_ends, one_time_public, node_above, levels_above, node_of, public_of, signed_values, signed_digits, sibling, path_from, signature_of}
use Rattle.mb_model.specs.owners.Born.{born_key, officer_key}
use Rattle.mb_model_lemmas.specs.SigningLaws.{IsSizedSeed}

-- what stands in the first of two texts, and the second of two
part_before : (xs ys : List ℕ) (at n : ℕ) → at + n ≤ length xs → part at n (xs ++ ys) ≡ part at n xs
part_before xs ys at n within =
    ap (take n) (drop-append-le at xs ys (omega arith))
    ∙ take-append-le n (drop at xs) ys (omega (arith, length-drop at xs))

part_last : (xs ys : List ℕ) (at n : ℕ) → length xs ≡ at → length ys ≡ n → part at n (xs ++ ys) ≡ ys
part_last xs ys at n before is = ap (take n) (drop_at xs ys at before) ∙ take_all n ys (omega arith)

-- pieces of 32 bytes in a row
row : (ℕ → List ℕ) → ℕ → List ℕ
row piece zero = []
row piece (suc n) = row piece n ++ piece n

length-row : (piece : ℕ → List ℕ) → ((i : ℕ) → length (piece i) ≡ 32) → (n : ℕ) → length (row piece n) ≡ 32 * n
unfolding row
length-row piece sized zero = refl
length-row piece sized (suc n) = omega (arith, length-append (row piece n) (piece n), length-row piece sized n, sized n)

-- each of them is where its number says
value_at-row : (piece : ℕ → List ℕ) → ((i : ℕ) → length (piece i) ≡ 32) → (n i : ℕ) → i < n → value_at (row piece n) i ≡ piece i
unfolding row
value_at-row piece sized zero i less = absurd (omega arith)
value_at-row piece sized (suc n) i less = elim (cases_lt i n) as (λ _. value_at (row piece n ++ piece n) i ≡ piece i) [
  | inl below ↦ part_before (row piece n) (piece n) (32 * i) 32 (omega (arith, below, length-row piece sized n)) ∙ value_at-row piece sized n i below
  | inr above ↦
      let same : n ≡ i = omega (arith, above, less) in
      part_last (row piece n) (piece n) (32 * i) 32 (omega (arith, same, length-row piece sized n)) (sized n) ∙ ap piece same
]

-- steps after steps
steps_from-steps_from : (id : List ℕ) (q i a b c : ℕ) (x : List ℕ)
    → value_after_count id q i (a + b) c (value_after_count id q i a b x) ≡ value_after_count id q i a (b + c) x
unfolding value_after_count
steps_from-steps_from id q i a b zero x = ap (λ n. value_after_count id q i a n x) (omega arith)
steps_from-steps_from id q i a b (suc c) x =
    let together : a + b + c ≡ a + (b + c) = omega arith in
    let next : suc (b + c) ≡ b + suc c = omega arith in
    ap (chain_step id q i (a + b + c)) (steps_from-steps_from id q i a b c x)
    ∙ ap (λ j. chain_step id q i j (value_after_count id q i a (b + c) x)) together
    ∙ ap (λ n. value_after_count id q i a n x) next

-- a value of 32 bytes stays one on its chain
length-steps_from : (id : List ℕ) (q i a n : ℕ) (x : List ℕ) → length x ≡ 32 → length (value_after_count id q i a n x) ≡ 32
unfolding value_after_count chain_step
length-steps_from id q i a zero x is = is
length-steps_from id q i a (suc n) x is = length-sha256 _

-- how many levels a node stands above the leaves, by those of the nodes under it
levels_above-inner : (r : ℕ) → 1 ≤ r → r < 32 → levels_above r ≡ suc (levels_above (2 * r))
levels_above-inner r low high = grind (arith, nat_tests)

levels_above-right : (r : ℕ) → 1 ≤ r → r < 32 → levels_above (2 * r + 1) ≡ levels_above (2 * r)
levels_above-right r low high = grind (arith, nat_tests)

levels_above-leaf : (r : ℕ) → 32 ≤ r → levels_above r ≡ 0
levels_above-leaf r low = grind (arith, nat_tests)

-- a node is the leaf of its one-time key, or stands over two nodes
pub node_of-leaf : (key : KeySeed) (r : ℕ) → 32 ≤ r → node_of key r ≡ leaf_node key.identifier r (one_time_public key (r - 32))
unfolding node_of node_above
node_of-leaf key r low = ap (λ n. node_above key n r) (levels_above-leaf r low)

pub node_of-inner : (key : KeySeed) (r : ℕ) → 1 ≤ r → r < 32
    → node_of key r ≡ inner_node key.identifier r (node_of key (2 * r)) (node_of key (2 * r + 1))
unfolding node_of node_above
node_of-inner key r low high =
    ap (λ n. node_above key n r) (levels_above-inner r low high)
    ∙ ap (λ n. inner_node key.identifier r (node_of key (2 * r)) (node_above key n (2 * r + 1))) (sym (levels_above-right r low high))

-- nodes have 32 bytes
length-node_above : (key : KeySeed) (n r : ℕ) → length (node_above key n r) ≡ 32
unfolding node_above leaf_node inner_node
length-node_above key zero r = length-sha256 _
length-node_above key (suc n) r = length-sha256 _

length-node_of : (key : KeySeed) (r : ℕ) → length (node_of key r) ≡ 32
unfolding node_of
length-node_of key r = length-node_above key _ r

-- a node that is even stands on the left, and one that is odd on the right
left_parent : (id : List ℕ) (r : ℕ) (node other : List ℕ) → r % 2 ≡ 0 → parent_node id r node other ≡ inner_node id (r / 2) node other
unfolding parent_node
left_parent id r node other even = rw even refl

right_parent : (id : List ℕ) (r : ℕ) (node other : List ℕ) → r % 2 ≡ 1 → parent_node id r node other ≡ inner_node id (r / 2) other node
unfolding parent_node
right_parent id r node other odd = rw odd refl

sibling-even : (r : ℕ) → r % 2 ≡ 0 → (r ≡ 2 * (r / 2)) × (sibling r ≡ 2 * (r / 2) + 1)
sibling-even r even = (omega arith, grind (arith, nat_tests))

sibling-odd : (r : ℕ) → r % 2 ≡ 1 → (r ≡ 2 * (r / 2) + 1) × (sibling r ≡ 2 * (r / 2))
sibling-odd r odd = (omega arith, grind (arith, nat_tests))

-- a node and its sibling stand under the node of half the number
parent_of : (id : List ℕ) (nodes : ℕ → List ℕ) (r : ℕ)
    → nodes (r / 2) ≡ inner_node id (r / 2) (nodes (2 * (r / 2))) (nodes (2 * (r / 2) + 1))
    → parent_node id r (nodes r) (nodes (sibling r)) ≡ nodes (r / 2)
parent_of id nodes r inner = elim (cases_lt (r % 2) 1) as (λ _. parent_node id r (nodes r) (nodes (sibling r)) ≡ nodes (r / 2)) [
  | inl below ↦
      let even : r % 2 ≡ 0 = omega (arith, below) in
      let at = sibling-even r even in
      left_parent id r (nodes r) (nodes (sibling r)) even
      ∙ ap (λ m. inner_node id (r / 2) (nodes m) (nodes (sibling r))) at.0
      ∙ ap (λ m. inner_node id (r / 2) (nodes (2 * (r / 2))) (nodes m)) at.1
      ∙ sym inner
  | inr above ↦
      let odd : r % 2 ≡ 1 = omega (arith, above) in
      let at = sibling-odd r odd in
      right_parent id r (nodes r) (nodes (sibling r)) odd
      ∙ ap (λ m. inner_node id (r / 2) (nodes (sibling r)) (nodes m)) at.0
      ∙ ap (λ m. inner_node id (r / 2) (nodes m) (nodes (2 * (r / 2) + 1))) at.1
      ∙ sym inner
]

-- one step of the climb, with the path's node of number i
level_taken : (id : List ℕ) (r : ℕ) (node path : List ℕ) (i n : ℕ)
    → climb id r node (drop (32 * i) path) (suc n)
    ≡ climb id (r / 2) (parent_node id r node (value_at path i)) (drop (32 * (i + 1)) path) n
unfolding climb
level_taken id r node path i n =
    ap (λ rest. climb id (r / 2) (parent_node id r node (value_at path i)) rest n)
    (drop-drop 32 (32 * i) path ∙ ap (λ at. drop at path) (omega arith))

-- the climb from a node of a tree along its siblings reaches nodes of the tree
climbs : (id : List ℕ) (nodes : ℕ → List ℕ) (path : List ℕ) (s : ℕ)
    → ((r : ℕ) → 1 ≤ r → r < 32 → nodes r ≡ inner_node id r (nodes (2 * r)) (nodes (2 * r + 1)))
    → (n i : ℕ) → ((j : ℕ) → j < i + n → value_at path j ≡ nodes (sibling (s / 2 ^ j)))
    → s < 64 → 2 ^ n ≤ s / 2 ^ i
    → climb id (s / 2 ^ i) (nodes (s / 2 ^ i)) (drop (32 * i) path) n ≡ nodes (s / 2 ^ (i + n))
unfolding climb
climbs id nodes path s inner zero i siblings high low = ap (λ j. nodes (s / 2 ^ j)) (omega arith)
climbs id nodes path s inner (suc n) i siblings high low =
    let r : ℕ = s / 2 ^ i in
    let wide : 2 ^ suc n ≡ 2 ^ n * 2 = pow-suc 2 n in
    let half : r / 2 ≡ s / 2 ^ (i + 1) = shr-shr s i 1 in
    let some : 1 ≤ 2 ^ n = omega (arith, pow_pos n) in
    let small : r ≤ s = shr_le s i in
    level_taken id r (nodes r) path i n
    ∙ ap (λ node. climb id (r / 2) (parent_node id r (nodes r) node) (drop (32 * (i + 1)) path) n) (siblings i (omega arith))
    ∙ ap (λ node. climb id (r / 2) node (drop (32 * (i + 1)) path) n) (parent_of id nodes r (inner (r / 2) (omega arith) (omega arith)))
    ∙ ap (λ h. climb id h (nodes h) (drop (32 * (i + 1)) path) n) half
    ∙ climbs id nodes path s inner n (i + 1) (λ j less. siblings j (omega arith)) high (omega arith)
    ∙ ap (λ j. nodes (s / 2 ^ j)) (omega arith)

-- the digits of chains of width 4 are at most 15
coef-bound : (digits : List ℕ) (i : ℕ) → coef digits i 4 ≤ 15
unfolding coef
coef-bound digits i = and_le_l 15 _

-- a value that was taken as far as a digit says, and then to its chain's end
whole_chain : (id : List ℕ) (q i digit : ℕ) (x : List ℕ) → digit ≤ 15
    → value_after_steps id q i digit 15 (value_after_steps id q i 0 digit x) ≡ value_after_steps id q i 0 15 x
whole_chain id q i digit x within =
    let none : digit - 0 ≡ digit = omega arith in
    let start : digit ≡ 0 + digit = omega arith in
    let all : digit + (15 - digit) ≡ 15 = omega arith in
    ap (λ n. value_after_count id q i digit (15 - digit) (value_after_count id q i 0 n x)) none
    ∙ ap (λ a. value_after_count id q i a (15 - digit) (value_after_count id q i 0 digit x)) start
    ∙ steps_from-steps_from id q i 0 digit (15 - digit) x
    ∙ ap (λ n. value_after_count id q i 0 n x) all

-- y[i]: what the signature of these digits shows of chain i
abbrev signed_value : KeySeed → ℕ → List ℕ → ℕ → List ℕ
signed_value key q digits i = value_after_steps key.identifier q i 0 (coef digits i 4) (private_value key q i)

length-private_value : (key : KeySeed) (q i : ℕ) → length (private_value key q i) ≡ 32
unfolding private_value
length-private_value key q i = length-sha256 _

length-signed_value : (key : KeySeed) (q : ℕ) (digits : List ℕ) (i : ℕ) → length (signed_value key q digits i) ≡ 32
length-signed_value key q digits i = length-steps_from key.identifier q i 0 _ (private_value key q i) (length-private_value key q i)

signed_values-row : (key : KeySeed) (q : ℕ) (digits : List ℕ) (n : ℕ) → signed_values key q digits n ≡ row (signed_value key q digits) n
unfolding signed_values row
signed_values-row key q digits zero = refl
signed_values-row key q digits (suc n) = ap (λ before. before ++ signed_value key q digits n) (signed_values-row key q digits n)

length-signed_values : (key : KeySeed) (q : ℕ) (digits : List ℕ) (n : ℕ) → length (signed_values key q digits n) ≡ 32 * n
length-signed_values key q digits n =
    ap length (signed_values-row key q digits n) ∙ length-row (signed_value key q digits) (length-signed_value key q digits) n

value_at-signed_values : (key : KeySeed) (q : ℕ) (digits : List ℕ) (n i : ℕ) → i < n
    → value_at (signed_values key q digits n) i ≡ signed_value key q digits i
value_at-signed_values key q digits n i less =
    ap (λ values. value_at values i) (signed_values-row key q digits n)
    ∙ value_at-row (signed_value key q digits) (length-signed_value key q digits) n i less

-- from the values of a signature each chain ends where the public key's does
chain_ends-signed : (key : KeySeed) (q : ℕ) (digits values : List ℕ) (n : ℕ)
    → ((i : ℕ) → i < n → value_at values i ≡ signed_value key q digits i)
    → chain_ends key.identifier q 4 digits values n ≡ public_ends key q n
unfolding chain_ends public_ends
chain_ends-signed key q digits values zero signed = refl
chain_ends-signed key q digits values (suc n) signed =
    ap (λ ends. ends ++ value_after_steps key.identifier q n (coef digits n 4) 15 (value_at values n)) (chain_ends-signed key q digits values n (λ i less. signed i (omega arith)))
    ∙ ap (λ value. public_ends key q n ++ value_after_steps key.identifier q n (coef digits n 4) 15 value) (signed n (omega arith))
    ∙ ap (λ end. public_ends key q n ++ end) (whole_chain key.identifier q n (coef digits n 4) (private_value key q n) (coef-bound digits n))

-- and so they belong to the one-time public key
one_time_key-signed : (key : KeySeed) (q : ℕ) (digits : List ℕ)
    → one_time_key W4 key.identifier q digits (signed_values key q digits 67) ≡ one_time_public key q
unfolding one_time_key one_time_public
one_time_key-signed key q digits =
    ap (λ ends. sha256 (key.identifier ++ to_be_bytes w32 q ++ one_time_key_mark ++ ends))
    (chain_ends-signed key q digits (signed_values key q digits 67) 67 (value_at-signed_values key q digits 67))

-- path[n]: the sibling of the node that stands n levels above node r, on the way up
abbrev path_node : KeySeed → ℕ → ℕ → List ℕ
path_node key r n = node_of key (sibling (r / 2 ^ n))

path_from-row : (key : KeySeed) (r n : ℕ) → path_from key r n ≡ row (path_node key r) n
unfolding path_from row
path_from-row key r zero = refl
path_from-row key r (suc n) = ap (λ before. before ++ path_node key r n) (path_from-row key r n)

length-path_from : (key : KeySeed) (r n : ℕ) → length (path_from key r n) ≡ 32 * n
length-path_from key r n =
    ap length (path_from-row key r n) ∙ length-row (path_node key r) (λ i. length-node_of key _) n

value_at-path_from : (key : KeySeed) (r n i : ℕ) → i < n → value_at (path_from key r n) i ≡ path_node key r i
value_at-path_from key r n i less =
    ap (λ path. value_at path i) (path_from-row key r n)
    ∙ value_at-row (path_node key r) (λ i. length-node_of key _) n i less

-- the climb from leaf q along its path reaches the root
climb-path_from : (key : KeySeed) (q : ℕ) → q < 32
    → climb key.identifier (32 + q) (node_of key (32 + q)) (path_from key (32 + q) 5) 5 ≡ node_of key 1
climb-path_from key q less =
    let start : 32 + q ≡ (32 + q) / 2 ^ 0 = omega arith in
    let root : (32 + q) / 2 ^ 5 ≡ 1 = omega arith in
    ap (λ r. climb key.identifier r (node_of key r) (path_from key (32 + q) 5) 5) start
    ∙ climbs key.identifier (node_of key) (path_from key (32 + q) 5) (32 + q) (node_of-inner key) 5 0 (value_at-path_from key (32 + q) 5) (omega arith) (omega arith)
    ∙ ap (node_of key) root

-- what the bytes of a signature by a key of types 5 and 3 are made of
record HasParts (sig a b c d e f : List ℕ) : Type 0 where
  index : part 0 4 sig ≡ a
  chains : part 4 4 sig ≡ b
  randomizer : part 8 32 sig ≡ c
  values : part 40 2144 sig ≡ d
  tree : part 2184 4 sig ≡ e
  path : drop 2188 sig ≡ f
  sized : length sig ≡ 2348

-- six texts of these lengths, one after another
six_parts : (a b c d e f : List ℕ) → length a ≡ 4 → length b ≡ 4 → length c ≡ 32 → length d ≡ 2144 → length e ≡ 4 → length f ≡ 160
    → HasParts (a ++ b ++ c ++ d ++ e ++ f) a b c d e f
six_parts a b c d e f la lb lc ld le lf =
    let two : length (a ++ b) ≡ 8 = omega (arith, length-append a b) in
    let three : length (a ++ b ++ c) ≡ 40 = omega (arith, length-append (a ++ b) c) in
    let four : length (a ++ b ++ c ++ d) ≡ 2184 = omega (arith, length-append (a ++ b ++ c) d) in
    let five : length (a ++ b ++ c ++ d ++ e) ≡ 2188 = omega (arith, length-append (a ++ b ++ c ++ d) e) in
    let whole : List ℕ = a ++ b ++ c ++ d ++ e ++ f in
    let in_five : (at n : ℕ) → at + n ≤ 2188 → part at n whole ≡ part at n (a ++ b ++ c ++ d ++ e) =
    λ at n within. part_before (a ++ b ++ c ++ d ++ e) f at n (omega arith) in
    let in_four : (at n : ℕ) → at + n ≤ 2184 → part at n whole ≡ part at n (a ++ b ++ c ++ d) =
    λ at n within. in_five at n (omega arith) ∙ part_before (a ++ b ++ c ++ d) e at n (omega arith) in
    let in_three : (at n : ℕ) → at + n ≤ 40 → part at n whole ≡ part at n (a ++ b ++ c) =
    λ at n within. in_four at n (omega arith) ∙ part_before (a ++ b ++ c) d at n (omega arith) in
    let in_two : (at n : ℕ) → at + n ≤ 8 → part at n whole ≡ part at n (a ++ b) =
    λ at n within. in_three at n (omega arith) ∙ part_before (a ++ b) c at n (omega arith) in
    record {
      index = in_two 0 4 (omega arith) ∙ take_at a b 4 la;
      chains = in_two 4 4 (omega arith) ∙ part_last a b 4 4 la lb;
      randomizer = in_three 8 32 (omega arith) ∙ part_last (a ++ b) c 8 32 two lc;
      values = in_four 40 2144 (omega arith) ∙ part_last (a ++ b ++ c) d 40 2144 three ld;
      tree = in_five 2184 4 (omega arith) ∙ part_last (a ++ b ++ c ++ d) e 2184 4 four le;
      path = drop_at (a ++ b ++ c ++ d ++ e) f 2188 five;
      sized = omega (arith, length-append (a ++ b ++ c ++ d ++ e) f);
    }

-- the parts of a signature, or of bytes that are one
abbrev SignatureParts : KeySeed → ℕ → List ℕ → List ℕ → Type 0
SignatureParts key q text sig =
    HasParts sig (to_be_bytes w32 q) (to_be_bytes w32 3) (randomizer_of key q) (signed_values key q (signed_digits key q text) 67) (to_be_bytes w32 5) (path_from key (32 + q) 5)

length-randomizer_of : (key : KeySeed) (q : ℕ) → length (randomizer_of key q) ≡ 32
unfolding randomizer_of
length-randomizer_of key q = length-private_value key q _

parts_of : (key : KeySeed) (q : ℕ) (text : List ℕ) → SignatureParts key q text (signature_of key q text)
unfolding signature_of
parts_of key q text =
    six_parts (to_be_bytes w32 q) (to_be_bytes w32 3) (randomizer_of key q) (signed_values key q (signed_digits key q text) 67) (to_be_bytes w32 5) (path_from key (32 + q) 5)
    refl refl (length-randomizer_of key q) (length-signed_values key q _ 67) refl (length-path_from key (32 + q) 5)

-- a signature has 2,348 bytes
pub length-signature_of : (key : KeySeed) (q : ℕ) (text : List ℕ) → length (signature_of key q text) ≡ 2348
length-signature_of key q text = (parts_of key q text).sized

word_read : (sig : List ℕ) (at n : ℕ) → part at 4 sig ≡ to_be_bytes w32 n → n < 2 ^ 32 → from_be_bytes w32 (part at 4 sig) ≡ n
word_read sig at n is fits = ap (from_be_bytes w32) is ∙ from_be_bytes-to_be_bytes_4 n fits

-- and begins with its index
pub signature_leaf_number : (key : KeySeed) (q : ℕ) (text : List ℕ) → q < 2 ^ 32 → leaf_number (signature_of key q text) ≡ q
signature_leaf_number key q text fits = word_read (signature_of key q text) 0 q (parts_of key q text).index fits

-- the root to which a hash and the parts of a signature lead
abbrev reached : List ℕ → List ℕ → ℕ → List ℕ → List ℕ → List ℕ
reached id hash q values path =
    climb id (32 + q) (leaf_node id (32 + q) (one_time_key W4 id q (digits_of W4 hash) values)) path 5

root_from-reached : (key : KeySeed) (hash sig : List ℕ)
    → root_from (public_of key) hash sig ≡ reached key.identifier hash (leaf_number sig) (part 40 2144 sig) (drop 2188 sig)
unfolding root_from public_of
root_from-reached key hash sig = refl

hash_of-signed : (key : KeySeed) (text sig : List ℕ) (q : ℕ) (c : List ℕ) → leaf_number sig ≡ q → part 8 32 sig ≡ c
    → hash_of (public_of key) text sig ≡ message_hash key.identifier q c text
unfolding hash_of public_of
hash_of-signed key text sig q c index randomizer =
    ap (λ n. message_hash key.identifier n (part 8 32 sig) text) index ∙ ap (λ r. message_hash key.identifier q r text) randomizer

-- the parts of a signature lead to the root of the key's tree
reached-signed : (key : KeySeed) (q : ℕ) (text : List ℕ) → q < 32
    → reached key.identifier (message_hash key.identifier q (randomizer_of key q) text) q (signed_values key q (signed_digits key q text) 67) (path_from key (32 + q) 5)
    ≡ node_of key 1
unfolding signed_digits
reached-signed key q text less =
    let leaf : q ≡ 32 + q - 32 = omega arith in
    ap (λ one_time. climb key.identifier (32 + q) (leaf_node key.identifier (32 + q) one_time) (path_from key (32 + q) 5) 5)
    (one_time_key-signed key q (signed_digits key q text) ∙ ap (one_time_public key) leaf)
    ∙ ap (λ node. climb key.identifier (32 + q) node (path_from key (32 + q) 5) 5) (sym (node_of-leaf key (32 + q) (omega arith)))
    ∙ climb-path_from key q less

public_root : (key : KeySeed) → node_of key 1 ≡ (public_of key).root
unfolding public_of
public_root key = refl

-- and leads to its root
root_reached : (key : KeySeed) (q : ℕ) (text sig : List ℕ) → q < 32 → SignatureParts key q text sig → leaf_number sig ≡ q
    → root_from (public_of key) (hash_of (public_of key) text sig) sig ≡ (public_of key).root
root_reached key q text sig less parts index =
    let id : List ℕ = key.identifier in
    let hash : List ℕ = message_hash id q (randomizer_of key q) text in
    let values : List ℕ = signed_values key q (signed_digits key q text) 67 in
    ap (λ h. root_from (public_of key) h sig) (hash_of-signed key text sig q (randomizer_of key q) index parts.randomizer)
    ∙ root_from-reached key hash sig
    ∙ ap (λ n. reached id hash n (part 40 2144 sig) (drop 2188 sig)) index
    ∙ ap (λ v. reached id hash q v (drop 2188 sig)) parts.values
    ∙ ap (reached id hash q values) parts.path
    ∙ reached-signed key q text less
    ∙ public_root key

-- a signature has the form that the key asks for
form_of : (key : KeySeed) (q : ℕ) (text sig : List ℕ) → q < 32 → SignatureParts key q text sig → leaf_number sig ≡ q → HasForm (public_of key) sig
unfolding public_of
form_of key q text sig less parts index = record {
  sized = parts.sized;
  chains = word_read sig 4 3 parts.chains (lit< tt);
  tree = word_read sig 2184 5 parts.tree (lit< tt);
  leaf = omega (arith, index, less);
}

-- a signature verifies under the key's public key
pub signature_verifies : (key : KeySeed) (q : ℕ) (text : List ℕ) → q < 32 → Verifies (public_of key) text (signature_of key q text)
signature_verifies key q text less =
    let index = signature_leaf_number key q text (omega (arith, less)) in
    record {
      form = form_of key q text (signature_of key q text) less (parts_of key q text) index;
      root = root_reached key q text (signature_of key q text) less (parts_of key q text) index;
    }

-- a public key has the sizes of one, where its identifier does
pub public_sized : (key : KeySeed) → length key.identifier ≡ 16 → IsSized (public_of key)
unfolding public_of
public_sized key is = record { identifier = is; root = length-node_of key 1 }

-- keys that are made of noise have the sizes of keys
pub born_key-sized : (draw serial : List ℕ) (n : ℕ) → IsSizedSeed (born_key draw serial n)
unfolding born_key
born_key-sized draw serial n = record {
  identifier = length-take-le 16 _ (omega (arith, length-sha256 (0x11 ∷ draw ++ serial ++ to_be_bytes w32 n)));
  seed = length-sha256 _;
}

pub officer_key-sized : (noise : List ℕ) → IsSizedSeed (officer_key noise)
unfolding officer_key
officer_key-sized noise = record {
  identifier = length-take-le 16 _ (omega (arith, length-sha256 (0x13 ∷ noise)));
  seed = length-sha256 _;
}
