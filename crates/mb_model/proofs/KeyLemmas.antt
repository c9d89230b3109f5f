-- Lemmas on a public key as bytes: how many there are, and that they determine the key.
use Rattle.std.proofs.Common.{◌≡◌, ℕ, ◌<◌, ◌^◌, List, ◌++◌, length, take, drop, refl, sym, ap, ◌∙◌, arith, lit<, length-append, append_assoc}
use Rattle.std.proofs.lemmas.List.{take_at, drop_at}
use Rattle.std.proofs.lemmas.Nat.{from_be_bytes-to_be_bytes_4}
use Rattle.std.specs.Int.{w32, to_be_bytes, from_be_bytes}
use Rattle.mb_model.specs.declared.key.PublicKey.{PublicKey}
use Rattle.mb_model.specs.declared.key.Tree.{Tree}
use Rattle.mb_model.specs.declared.key.Tree.TheVariants.{H5, H10, H15, H20, H25}
use Rattle.mb_model.specs.declared.key.Chains.{Chains}
use Rattle.mb_model.specs.declared.key.Chains.TheVariants.{W1, W2, W4, W8}
use Rattle.mb_model.specs.signatures.Key.{tree_type, chains_type, key_bytes, IsSized}

-- two texts that are equal as wholes are equal part by part, where their first parts have one length
pub same_parts : (a b xs ys : List ℕ) → length a ≡ length b → a ++ xs ≡ b ++ ys → (a ≡ b) × (xs ≡ ys)
same_parts a b xs ys len e =
    let front = sym (take_at a xs (length a) refl) ∙ ap (take (length a)) e ∙ take_at b ys (length a) (sym len) in
    let back = sym (drop_at a xs (length a) refl) ∙ ap (drop (length a)) e ∙ drop_at b ys (length a) (sym len) in
    (front, back)

-- a u32 has four bytes
pub length-word : (n : ℕ) → length (to_be_bytes w32 n) ≡ 4
length-word n = refl

-- a u32's bytes determine it
pub word_same : (m n : ℕ) → m < 2 ^ 32 → n < 2 ^ 32 → to_be_bytes w32 m ≡ to_be_bytes w32 n → m ≡ n
word_same m n lm ln e =
    sym (from_be_bytes-to_be_bytes_4 m lm) ∙ ap (from_be_bytes w32) e ∙ from_be_bytes-to_be_bytes_4 n ln

-- a type number fits a u32
tree_type-fits : (tree : Tree) → tree_type tree < 2 ^ 32
tree_type-fits H5 = lit< tt
tree_type-fits H10 = lit< tt
tree_type-fits H15 = lit< tt
tree_type-fits H20 = lit< tt
tree_type-fits H25 = lit< tt

chains_type-fits : (chains : Chains) → chains_type chains < 2 ^ 32
chains_type-fits W1 = lit< tt
chains_type-fits W2 = lit< tt
chains_type-fits W4 = lit< tt
chains_type-fits W8 = lit< tt

-- a type number determines its type
tree_type-same : (a b : Tree) → tree_type a ≡ tree_type b → a ≡ b
tree_type-same a b e = grind arith

chains_type-same : (a b : Chains) → chains_type a ≡ chains_type b → a ≡ b
chains_type-same a b e = grind arith

-- a public key has 56 bytes
pub length-key_bytes : (key : PublicKey) → IsSized key → length (key_bytes key) ≡ 56
unfolding key_bytes
length-key_bytes key sized = simp length-append (omega (arith, sized.identifier, sized.root))

-- two keys with the same four fields are one
abbrev key_of : Tree → Chains → List ℕ → List ℕ → PublicKey
key_of tree chains identifier root = record { tree = tree; chains = chains; identifier = identifier; root = root }

key_same : (a b : PublicKey) → a.tree ≡ b.tree → a.chains ≡ b.chains → a.identifier ≡ b.identifier → a.root ≡ b.root → a ≡ b
key_same a b tree chains identifier root =
    ap (λ (x : Tree). key_of x a.chains a.identifier a.root) tree
    ∙ ap (λ (x : Chains). key_of b.tree x a.identifier a.root) chains
    ∙ ap (λ (x : List ℕ). key_of b.tree b.chains x a.root) identifier
    ∙ ap (λ (x : List ℕ). key_of b.tree b.chains b.identifier x) root

-- the bytes of a key determine it
pub key_bytes-same : (a b : PublicKey) → IsSized a → IsSized b → key_bytes a ≡ key_bytes b → a ≡ b
unfolding key_bytes
key_bytes-same a b sa sb e =
    let flat = simp append_assoc at e in
    let first = same_parts (to_be_bytes w32 (tree_type a.tree)) (to_be_bytes w32 (tree_type b.tree)) _ _ refl flat in
    let second = same_parts (to_be_bytes w32 (chains_type a.chains)) (to_be_bytes w32 (chains_type b.chains)) _ _ refl first.1 in
    let third = same_parts a.identifier b.identifier a.root b.root (sa.identifier ∙ sym sb.identifier) second.1 in
    let tree = tree_type-same a.tree b.tree (word_same _ _ (tree_type-fits a.tree) (tree_type-fits b.tree) first.0) in
    let chains = chains_type-same a.chains b.chains (word_same _ _ (chains_type-fits a.chains) (chains_type-fits b.chains) second.0) in
    key_same a b tree chains third.0 third.1
