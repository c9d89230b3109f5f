-- A key's bytes and what they spell.
use Rattle.std.proofs.Common.{◌≡◌, ℕ, ◌<◌, ◌^◌, List, ◌++◌, length, take, drop, get_or, sym, subst, ap, arith, ◌+◌, ◌≤◌, ◌∙◌, zero, suc, [], ◌∷◌}
use Rattle.std.specs.Int.{w32, from_be_bytes, to_be_bytes}
use Rattle.std.proofs.lemmas.List.{take-append-drop, take-take, drop-take, length-drop, length-take-le, take_all, get_or-drop}
use Rattle.std.proofs.lemmas.Nat.{from_be_bytes-to_be_bytes_4, be_bytes_4}
use Rattle.mb_model.specs.declared.key.PublicKey.{PublicKey}
use Rattle.mb_model.specs.declared.key.Tree.{Tree}
use Rattle.mb_model.specs.declared.key.Tree.TheVariants.{H5, H10, H15, H20, H25}
use Rattle.mb_model.specs.declared.key.Chains.{Chains}
use Rattle.mb_model.specs.declared.key.Chains.TheVariants.{W1, W2, W4, W8}
use Rattle.mb_model.specs.signatures.Key.{tree_type, chains_type, key_bytes}

tree_small : (tree : Tree) → tree_type tree < 2 ^ 32
tree_small H5 = omega arith
tree_small H10 = omega arith
tree_small H15 = omega arith
tree_small H20 = omega arith
tree_small H25 = omega arith

chains_small : (chains : Chains) → chains_type chains < 2 ^ 32
chains_small W1 = omega arith
chains_small W2 = omega arith
chains_small W4 = omega arith
chains_small W8 = omega arith

pub tree_read : (key : PublicKey) (bytes : List ℕ) → key_bytes key ≡ bytes →
    tree_type key.tree ≡ from_be_bytes w32 (take 4 (drop 0 bytes))
unfolding key_bytes
tree_read key bytes e =
    let P : List ℕ → Type 0 = λ b. tree_type key.tree ≡ from_be_bytes w32 (take 4 (drop 0 b)) in
    subst P e (sym (from_be_bytes-to_be_bytes_4 (tree_type key.tree) (tree_small key.tree)))

pub chains_read : (key : PublicKey) (bytes : List ℕ) → key_bytes key ≡ bytes →
    chains_type key.chains ≡ from_be_bytes w32 (take 4 (drop 4 bytes))
unfolding key_bytes
chains_read key bytes e =
    let P : List ℕ → Type 0 = λ b. chains_type key.chains ≡ from_be_bytes w32 (take 4 (drop 4 b)) in
    subst P e (sym (from_be_bytes-to_be_bytes_4 (chains_type key.chains) (chains_small key.chains)))

take-more : (xs : List ℕ) (a m : ℕ) → take a xs ++ take m (drop a xs) ≡ take (a + m) xs
take-more xs a m =
    let whole = take-append-drop a (take (a + m) xs) in
    rw (take-take a (a + m) xs (omega arith), drop-take a m xs) at whole

-- four pieces in a row
joined : (a b c d bytes : List ℕ) → length bytes ≡ 56 → a ≡ take 4 (drop 0 bytes) → b ≡ take 4 (drop 4 bytes) →
    c ≡ take 16 (drop 8 bytes) → d ≡ take 32 (drop 24 bytes) → a ++ b ++ c ++ d ≡ bytes
joined a b c d bytes sized first second third fourth =
    let e1 : a ++ b ≡ take 8 bytes = ap (λ (x : List ℕ). x ++ b) first ∙ ap (λ (x : List ℕ). take 4 (drop 0 bytes) ++ x) second ∙ take-more bytes 4 4 in
    let e2 : a ++ b ++ c ≡ take 24 bytes = ap (λ (x : List ℕ). x ++ c) e1 ∙ ap (λ (x : List ℕ). take 8 bytes ++ x) third ∙ take-more bytes 8 16 in
    ap (λ (x : List ℕ). x ++ d) e2 ∙ ap (λ (x : List ℕ). take 24 bytes ++ x) fourth ∙ take-more bytes 24 32 ∙ take_all 56 bytes (omega arith)

take_fits : (n : ℕ) (xs : List ℕ) → ((i : ℕ) → get_or xs i 0 < 256) → (i : ℕ) → get_or (take n xs) i 0 < 256
take_fits zero xs fit i = omega arith
take_fits (suc n) [] fit i = omega arith
take_fits (suc n) (x ∷ xs) fit zero = fit zero
take_fits (suc n) (x ∷ xs) fit (suc i) = take_fits n xs (λ j. fit (suc j)) i

drop_fits : (n : ℕ) (xs : List ℕ) → ((i : ℕ) → get_or xs i 0 < 256) → (i : ℕ) → get_or (drop n xs) i 0 < 256
drop_fits n xs fit i = rw (get_or-drop n xs i 0) (fit (n + i))

word : (bytes : List ℕ) (at n : ℕ) → at + 4 ≤ length bytes → ((i : ℕ) → get_or bytes i 0 < 256) →
    n ≡ from_be_bytes w32 (take 4 (drop at bytes)) → to_be_bytes w32 n ≡ take 4 (drop at bytes)
word bytes at n room fit e =
    let k : 4 ≤ length (drop at bytes) = omega (arith, length-drop at bytes) in
    be_bytes_4 (take 4 (drop at bytes)) n (length-take-le 4 (drop at bytes) k)
    (take_fits 4 (drop at bytes) (drop_fits at bytes fit)) e

-- a key whose parts are those of the bytes is spelled by them
pub spelled : (key : PublicKey) (bytes : List ℕ) → length bytes ≡ 56 → ((i : ℕ) → get_or bytes i 0 < 256) →
    tree_type key.tree ≡ from_be_bytes w32 (take 4 (drop 0 bytes)) →
    chains_type key.chains ≡ from_be_bytes w32 (take 4 (drop 4 bytes)) →
    key.identifier ≡ take 16 (drop 8 bytes) → key.root ≡ take 32 (drop 24 bytes) → key_bytes key ≡ bytes
unfolding key_bytes
spelled key bytes sized fit tree chains identifier root =
    joined (to_be_bytes w32 (tree_type key.tree)) (to_be_bytes w32 (chains_type key.chains)) key.identifier key.root bytes sized
    (word bytes 0 (tree_type key.tree) (omega arith) fit tree)
    (word bytes 4 (chains_type key.chains) (omega arith) fit chains)
    identifier root
