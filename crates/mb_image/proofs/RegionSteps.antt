-- Loops over the secrets and the keys of a region.
use Rattle.std.proofs.Common.{◌≡◌, ◌≢◌, ◌<◌, ◌≤◌, ◌+◌, ℕ, List, length, take, map, get_or, Bool, false, true≢false, sym, ap, subst, ◌∙◌, arith}
use Rattle.std.proofs.lemmas.List.{length-take, length-take-le, get_or_default, get_or-map}
use Rattle.std.specs.Prelude.{◌↔◌, All, AllPairs, Any, IsTrue}
use Rattle.std.specs.Ordering.{ord_max, nat_cmp}
use Rattle.std.proofs.lemmas.List.{take_more, take_all, get_or-take}
use Rattle.std.proofs.lemmas.List.Elements.{All-nil, All-push, All-weaker}
use Rattle.std.proofs.lemmas.List.Quantifiers.{all_pairs_push}
use Rattle.mb_model.specs.declared.entry.SignedEntry.{SignedEntry}
use Rattle.mb_model.specs.declared.region.RegionKey.{RegionKey}
use Rattle.mb_model.specs.declared.region.Secret.{Secret}
use Rattle.mb_model.specs.owners.Lives as lives
use Rattle.mb_model.specs.memories.Valid.{as_made}
use Rattle.mb_image.specs.declared.alive.MadeKey.{MadeKey}
use Rattle.mb_image.specs.Keys.{as_listed, listed_keys}
use Rattle.mb_image.specs.Losses.{loss}

-- ---- names

abbrev pub Differ : Secret → Secret → Type 0
Differ a b = a.name ≢ b.name

-- a name that stands before
pub name_again : (secrets : List Secret) (at : ℕ) (d : Secret) (name : List ℕ) → at < length secrets → (get_or secrets at d).name ≡ name
    → Any (λ (secret : Secret). secret.name ≡ name) (take at secrets) → AllPairs Differ secrets → ⊥
name_again secrets at d name within is found pairs =
    let k : ℕ = found.0 in
    let x : Secret = found.1 in
    let short : length (take at secrets) ≤ at = omega (arith, length-take at secrets) in
    let earlier : k < at = omega (arith, found.2, short) in
    let there : k < length secrets = omega (arith, earlier, within) in
    let same : get_or secrets k d ≡ x = get_or_default secrets k d x there ∙ sym (get_or-take at secrets k x earlier) ∙ found.3 in
    pairs k at d earlier within (ap (λ (s : Secret). s.name) same ∙ found.4 ∙ sym is)

-- one more name
pub names_more : (secrets : List Secret) (at : ℕ) (d : Secret) (name : List ℕ) → at < length secrets → (get_or secrets at d).name ≡ name
    → (Any (λ (secret : Secret). secret.name ≡ name) (take at secrets) → ⊥) → AllPairs Differ (take at secrets) → AllPairs Differ (take (at + 1) secrets)
names_more secrets at d name within is fresh pairs =
    subst (AllPairs Differ) (sym (take_more secrets at d within))
    (all_pairs_push Differ (take at secrets) (get_or secrets at d) pairs
    (λ k e less same. fresh (k, get_or (take at secrets) k e, less, get_or_default (take at secrets) k _ e less, same ∙ is)))

pub names_whole : (secrets : List Secret) (at : ℕ) → length secrets ≤ at → AllPairs Differ (take at secrets) → AllPairs Differ secrets
names_whole secrets at end pairs = subst (AllPairs Differ) (take_all at secrets end) pairs

-- ---- the last loss

abbrev pub LossesUpto : ℕ → ℕ → List SignedEntry → Type 0
LossesUpto L c log = All (λ (signed : SignedEntry). loss L signed.entry ≤ c) log

-- the greatest loss so far
abbrev pub IsLast : ℕ → List SignedEntry → ℕ → ℕ → Type 0
IsLast L log i last = LossesUpto L last (take i log) × ((c : ℕ) → LossesUpto L c (take i log) → last ≤ c)

loss_more : (log : List SignedEntry) (i L last next : ℕ) (d : SignedEntry) → i < length log → last ≤ next → loss L (get_or log i d).entry ≤ next
    → LossesUpto L last (take i log) → LossesUpto L next (take (i + 1) log)
loss_more log i L last next d within up own upto =
    subst (LossesUpto L next) (sym (take_more log i d within))
    (All-push (λ (signed : SignedEntry). loss L signed.entry ≤ next) (take i log) (get_or log i d)
    (All-weaker (λ (signed : SignedEntry). loss L signed.entry ≤ last) (λ (signed : SignedEntry). loss L signed.entry ≤ next) (λ signed less. omega (arith, less, up)) (take i log) upto)
    own)

loss_least : (log : List SignedEntry) (i L c : ℕ) (d : SignedEntry) → i < length log → LossesUpto L c (take (i + 1) log)
    → LossesUpto L c (take i log) × (loss L (get_or log i d).entry ≤ c)
loss_least log i L c d within upto =
    let longer : length (take (i + 1) log) ≡ i + 1 = length-take-le (i + 1) log (omega (arith, within)) in
    let shorter : length (take i log) ≡ i = length-take-le i log (omega (arith, within)) in
    let P : SignedEntry → Type 0 = λ signed. loss L signed.entry ≤ c in (
      (λ k e less.
          let low : k < i = omega (arith, less, shorter) in
          subst P (get_or-take (i + 1) log k e (omega (arith, low)) ∙ sym (get_or-take i log k e low)) (upto k e (omega (arith, low, longer)))),
      subst P (get_or-take (i + 1) log i d (omega arith)) (upto i d (omega (arith, longer))),
    )

-- one more entry
pub last_more : (log : List SignedEntry) (i L last own next : ℕ) (d : SignedEntry) → i < length log → own ≡ loss L (get_or log i d).entry → next ≡ ord_max nat_cmp last own
    → IsLast L log i last → IsLast L log (i + 1) next
last_more log i L last own next d within own_is next_is was =
    let up : last ≤ next = grind (arith, next_is) in
    let high : own ≤ next = grind (arith, next_is) in
    let either : (c : ℕ) → last ≤ c → own ≤ c → next ≤ c = λ c a b. grind (arith, next_is, a, b) in (
      loss_more log i L last next d within up (omega (arith, own_is, high)) was.0,
      (λ c upto.
          let parts = loss_least log i L c d within upto in
          let small : own ≤ c = omega (arith, own_is, parts.1) in
          either c (was.1 c parts.0) small),
    )

-- none before the first entry
pub last_none : (log : List SignedEntry) (L : ℕ) → IsLast L log 0 0
last_none log L = (All-nil (λ (signed : SignedEntry). loss L signed.entry ≤ 0), λ c upto. omega arith)

-- and all of them
pub last_whole : (log : List SignedEntry) (i L last : ℕ) → length log ≤ i → IsLast L log i last → LossesUpto L last log × ((c : ℕ) → LossesUpto L c log → last ≤ c)
last_whole log i L last end was =
    (subst (LossesUpto L last) (take_all i log end) was.0, λ c upto. was.1 c (subst (LossesUpto L c) (sym (take_all i log end)) upto))

-- ---- keys

-- keys that are equal at each place
pub key_at : (keys : List RegionKey) (alive : List MadeKey) (at : ℕ) (d : RegionKey) (e : MadeKey) → at < length keys → at < length alive
    → map as_made keys ≡ listed_keys alive → as_made (get_or keys at d) ≡ as_listed (get_or alive at e)
key_at keys alive at d e within within' same =
    sym (get_or-map as_made keys at d (as_made d) within) ∙ ap (λ (ms : List lives.MadeKey). get_or ms at (as_made d)) same ∙ get_or-map as_listed alive at e (as_made d) within'

-- where one key differs, not all are the same
pub one_differs : (keys : List RegionKey) (alive : List MadeKey) (at : ℕ) (d : RegionKey) (e : MadeKey) (result : Bool) → at < length keys → length keys ≡ length alive
    → (IsTrue result ↔ (as_made (get_or keys at d) ≡ as_listed (get_or alive at e))) → result ≡ false → map as_made keys ≡ listed_keys alive → ⊥
one_differs keys alive at d e result within long same off are =
    true≢false (sym (same.1 (key_at keys alive at d e within (omega (arith, within, long)) are)) ∙ off)
