-- How far the hashes of a set have been read.
use Rattle.std.proofs.Common.{◌≡◌, ℕ, ◌≤◌, suc, List, [], ◌∷◌, ◌++◌, length, length-append, refl, sym, ap, subst, ◌∙◌, arith, append_assoc, append-nil}
use Rattle.std.specs.List.{AllZip}
use Rattle.mb_policy.specs.Policies.{IsHashWord}
use Rattle.mb_policy.specs.Meanings.{SaysHashes}

-- Some words have been read, and say these hashes; the others are left.
pub record IsHashing (all left : List (List ℕ)) (hashes : List (List ℕ)) : Type 0 where
  pub front : List (List ℕ)
  pub said : AllZip IsHashWord front hashes
  pub split : all ≡ front ++ left
  pub few : length hashes ≤ 64

pub hashing_begins : (all : List (List ℕ)) → IsHashing all all []
hashing_begins all = record { front = []; said = tt; split = refl; few = omega arith }

push_hash : (words hashes : List (List ℕ)) (word hash : List ℕ) → AllZip IsHashWord words hashes → IsHashWord word hash → AllZip IsHashWord (words ++ word ∷ []) (hashes ++ hash ∷ [])
push_hash [] [] word hash said is = (is, tt)
push_hash [] (x ∷ hashes) word hash said is = absurd said
push_hash (y ∷ words) [] word hash said is = absurd said
push_hash (y ∷ words) (x ∷ hashes) word hash said is = (said.0, push_hash words hashes word hash said.1 is)

pub same_count : (words hashes : List (List ℕ)) → AllZip IsHashWord words hashes → length words ≡ length hashes
same_count [] [] said = refl
same_count [] (x ∷ hashes) said = absurd said
same_count (y ∷ words) [] said = absurd said
same_count (y ∷ words) (x ∷ hashes) said = ap (λ (n : ℕ). suc n) (same_count words hashes said.1)

pub one_more_hash : (all old new hashes more : List (List ℕ)) (word hash : List ℕ) → IsHashing all old hashes → old ≡ word ∷ new → IsHashWord word hash → (length hashes ≡ 64 → ⊥)
    → more ≡ hashes ++ hash ∷ [] → IsHashing all new more
one_more_hash all old new hashes more word hash is next says room pushed =
    subst (λ (x : List (List ℕ)). IsHashing all new x) (sym pushed)
    (record {
      front = is.front ++ word ∷ [];
      said = push_hash is.front hashes word hash is.said says;
      split = is.split ∙ ap (λ (ws : List (List ℕ)). is.front ++ ws) next ∙ sym (append_assoc is.front (word ∷ []) new);
      few = omega (arith, is.few, room, length-append hashes (hash ∷ []));
    })

pub too_many_hashes : (all old new hashes : List (List ℕ)) (word : List ℕ) → IsHashing all old hashes → old ≡ word ∷ new → length hashes ≡ 64 → (other : List (List ℕ)) → SaysHashes all other → ⊥
too_many_hashes all old new hashes word is next full other says =
    omega (arith, full, ap length is.split, length-append is.front old, ap length next, same_count is.front hashes is.said, same_count all other says.said, says.few)

middle_hash : (front new hashes : List (List ℕ)) (word : List ℕ) → AllZip IsHashWord (front ++ word ∷ new) hashes → (hash : List ℕ) × IsHashWord word hash
middle_hash [] new [] word said = absurd said
middle_hash [] new (x ∷ hashes) word said = (x, said.0)
middle_hash (y ∷ front) new [] word said = absurd said
middle_hash (y ∷ front) new (x ∷ hashes) word said = middle_hash front new hashes word said.1

pub wrong_hash : (all old new hashes : List (List ℕ)) (word : List ℕ) → IsHashing all old hashes → old ≡ word ∷ new → ((hash : List ℕ) → IsHashWord word hash → ⊥)
    → (other : List (List ℕ)) → SaysHashes all other → ⊥
wrong_hash all old new hashes word is next wrong other says =
    let whole = is.split ∙ ap (λ (ws : List (List ℕ)). is.front ++ ws) next in
    let one = middle_hash is.front new other word (subst (λ (ws : List (List ℕ)). AllZip IsHashWord ws other) whole says.said) in
    wrong one.0 one.1

pub no_hashes : (all old hashes : List (List ℕ)) → IsHashing all old hashes → old ≡ [] → length hashes ≡ 0 → (other : List (List ℕ)) → SaysHashes all other → ⊥
no_hashes all old hashes is over none other says =
    omega (arith, none, ap length is.split, length-append is.front old, ap length over, same_count is.front hashes is.said, same_count all other says.said, says.some)

pub all_hashes : (all old hashes : List (List ℕ)) → IsHashing all old hashes → old ≡ [] → (length hashes ≡ 0 → ⊥) → SaysHashes all hashes
all_hashes all old hashes is over some = record {
  said =
      subst (λ (ws : List (List ℕ)). AllZip IsHashWord ws hashes)
      (sym (is.split ∙ ap (λ (ws : List (List ℕ)). is.front ++ ws) over ∙ append-nil is.front)) is.said;
  some = omega (arith, some);
  few = is.few;
}
