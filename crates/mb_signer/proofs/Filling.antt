-- A table of nodes that is filled from the leaves: one node more, and with it those above it that are then whole.
use Rattle.std.proofs.Common.{◌≡◌, ℕ, zero, suc, ◌+◌, ◌-◌, ◌*◌, ◌/◌, ◌%◌, ◌^◌, ◌<◌, ◌≤◌, List, [], length, set, ◌≢◌, get_or-set_same, get_or-set_other, refl, sym, subst, ap, ◌∙◌, ◌⊎◌, inl, inr, arith}
use Rattle.std.proofs.lemmas.Nat.{pow_pos}
use Rattle.std.proofs.lemmas.Bool.{cases_lt}
use Rattle.std.proofs.Math.Nat.{pow-succ', eq-or-lt_of_le}
use Rattle.mb_model.specs.declared.key.KeySeed.{KeySeed}
use Rattle.mb_model.specs.signatures.Merkle.{inner_node}
use Rattle.mb_model.specs.signatures.Signing.{node_of}
use Rattle.mb_signer.specs.Tree.{node_at, HasNodes, IsFilled, IsTreeOf, joined_above}
use Rattle.mb_model_lemmas.proofs.SignatureLemmas.{node_of-inner}

-- below a number, the nodes of one table are those of the other
pub record IsSameBelow (s t : List (List ℕ)) (b : ℕ) : Type 0 where
  pub each : (r : ℕ) → 1 ≤ r → r < b → node_at t r ≡ node_at s r

same_less : (s t : List (List ℕ)) (a b : ℕ) → a ≤ b → IsSameBelow s t b → IsSameBelow s t a
same_less s t a b h same = record { each = λ r one lt. same.each r one (omega arith) }

has_same : (key : KeySeed) (s t : List (List ℕ)) (a b : ℕ) → 1 ≤ a → IsSameBelow s t b → HasNodes key s a b → HasNodes key t a b
has_same key s t a b one same has =
    record { each = λ r h k. same.each r (omega arith) k ∙ has.each r h k }

has_up_to : (key : KeySeed) (t : List (List ℕ)) (a b r : ℕ) → HasNodes key t a b → node_at t b ≡ node_of key b →
    a ≤ r → (r ≡ b) ⊎ (r < b) → node_at t r ≡ node_of key r
has_up_to key t a b r has here h (inl e) = let P : ℕ → Type 0 = λ x. node_at t x ≡ node_of key x in subst P (sym e) here
has_up_to key t a b r has here h (inr k) = has.each r h k

has_more : (key : KeySeed) (t : List (List ℕ)) (a b : ℕ) → HasNodes key t a b → node_at t b ≡ node_of key b →
    HasNodes key t a (b + 1)
has_more key t a b has here =
    record { each = λ r h k. let le : r ≤ b = omega arith in has_up_to key t a b r has here h (eq-or-lt_of_le le) }

filled_same : (key : KeySeed) (s t : List (List ℕ)) (n next : ℕ) → IsSameBelow s t next → IsFilled key s n next → IsFilled key t n next
unfolding IsFilled
filled_same key s t zero next same filled = has_same key s t 1 next (omega arith) same filled
filled_same key s t (suc n) next same filled = (
  has_same key s t (2 ^ suc n) next (pow_pos (suc n)) same filled.0,
  filled_same key s t n (next / 2) (same_less s t (next / 2) next (omega arith) same) filled.1,
)

pub filled_at : (key : KeySeed) (t : List (List ℕ)) (n a b : ℕ) → a ≡ b → IsFilled key t n a → IsFilled key t n b
filled_at key t n a b e filled = let P : ℕ → Type 0 = λ x. IsFilled key t n x in subst P e filled

-- a node that does not join: the root, or a left child
pub placed_alone : (key : KeySeed) (s t : List (List ℕ)) (n number : ℕ) →
    2 ^ n ≤ number → number < 2 * 2 ^ n → (1 < number → number % 2 ≡ 0) → IsSameBelow s t number →
    node_at t number ≡ node_of key number → IsFilled key s n number → IsFilled key t n (number + 1)
unfolding IsFilled
placed_alone key s t zero number low high left same here filled =
    has_more key t 1 number (has_same key s t 1 number (omega arith) same filled) here
placed_alone key s t (suc n) number low high left same here filled =
    let whole : 2 ^ suc n ≡ 2 * 2 ^ n = pow-succ' 2 n in
    let pos : 0 < 2 ^ n = pow_pos n in
    let even : number % 2 ≡ 0 = left (omega arith) in
    let half : number / 2 ≡ (number + 1) / 2 = omega arith in (
      has_more key t (2 ^ suc n) number (has_same key s t (2 ^ suc n) number (pow_pos (suc n)) same filled.0) here,
      filled_at key t n (number / 2) ((number + 1) / 2) half
          (filled_same key s t n (number / 2) (same_less s t (number / 2) number (omega arith) same) filled.1),
    )

-- the parent of a right child
parent_is : (key : KeySeed) (t : List (List ℕ)) (number : ℕ) (node parent : List ℕ) →
    1 < number → number < 64 → number % 2 ≡ 1 → node_at t (number - 1) ≡ node_of key (number - 1) → node ≡ node_of key number →
    parent ≡ inner_node key.identifier (number / 2) (node_at t (number - 1)) node → parent ≡ node_of key (number / 2)
parent_is key t number node parent low high odd left right e =
    let h : 2 * (number / 2) ≡ number - 1 = omega arith in
    let k : 2 * (number / 2) + 1 ≡ number = omega arith in
    let first : inner_node key.identifier (number / 2) (node_at t (number - 1)) node
    ≡ inner_node key.identifier (number / 2) (node_of key (2 * (number / 2))) (node_of key (2 * (number / 2) + 1)) =
    cc (ap (node_of key) h, ap (node_of key) k) in
    e ∙ first ∙ sym (node_of-inner key (number / 2) (omega arith) (omega arith))

-- what placing a parent gives
abbrev pub PlacesAt : KeySeed → List (List ℕ) → List (List ℕ) → List ℕ → ℕ → Type 0
PlacesAt key t u node number =
    (n : ℕ) → 2 ^ n ≤ number → number < 2 * 2 ^ n → node ≡ node_of key number → IsFilled key t n number → IsFilled key u n (number + 1)

-- a right child joins, and its parent is placed
pub placed_joined : (key : KeySeed) (s t u : List (List ℕ)) (n number : ℕ) (node parent : List ℕ) →
    2 ^ n ≤ number → number < 2 * 2 ^ n → 1 < number → number < 64 → number % 2 ≡ 1 → IsSameBelow s t number →
    node ≡ node_of key number → node_at t number ≡ node →
    parent ≡ inner_node key.identifier (number / 2) (node_at t (number - 1)) node →
    PlacesAt key t u parent (number / 2) → ((r : ℕ) → number / 2 < r → r < 64 → node_at u r ≡ node_at t r) →
    IsFilled key s n number → IsFilled key u n (number + 1)
unfolding IsFilled
placed_joined key s t u zero number node parent low high many last odd same is here above places kept filled = absurd (omega arith)
placed_joined key s t u (suc n) number node parent low high many last odd same is here above places kept filled =
    let whole : 2 ^ suc n ≡ 2 * 2 ^ n = pow-succ' 2 n in
    let pos : 0 < 2 ^ n = pow_pos n in
    let half : number / 2 + 1 ≡ (number + 1) / 2 = omega arith in
    let left : node_at t (number - 1) ≡ node_of key (number - 1) =
    same.each (number - 1) (omega arith) (omega arith) ∙ filled.0.each (number - 1) (omega arith) (omega arith) in
    let up : parent ≡ node_of key (number / 2) = parent_is key t number node parent many last odd left is above in
    let stays : IsFilled key t n (number / 2) =
    filled_same key s t n (number / 2) (same_less s t (number / 2) number (omega arith) same) filled.1 in (
      has_more key u (2 ^ suc n) number
          (record { each = λ r h k. kept r (omega arith) (omega arith) ∙ same.each r (omega arith) k ∙ filled.0.each r h k })
          (kept number (omega arith) last ∙ here ∙ is),
      filled_at key u n (number / 2 + 1) ((number + 1) / 2) half (places n (omega arith) (omega arith) up stays),
    )

-- nothing stands in the table at first
pub filled_none : (key : KeySeed) (t : List (List ℕ)) → IsFilled key t 5 32
unfolding IsFilled
filled_none key t = (
  record { each = λ r h k. absurd (omega arith) },
  (
    record { each = λ r h k. absurd (omega arith) },
    (
      record { each = λ r h k. absurd (omega arith) },
      (
        record { each = λ r h k. absurd (omega arith) },
        (record { each = λ r h k. absurd (omega arith) }, record { each = λ r h k. absurd (omega arith) }),
      ),
    ),
  ),
)

-- node r stands on one of the six levels
on_some_level : (P : Type 0) (r : ℕ) → (r < 2 → P) → (2 ≤ r → r < 4 → P) → (4 ≤ r → r < 8 → P) → (8 ≤ r → r < 16 → P) →
    (16 ≤ r → r < 32 → P) → (32 ≤ r → P) → P
on_some_level P r root first second third fourth leaf =
    elim (cases_lt r 2) [
      | inl lt ↦ root lt
      | inr ge2 ↦
          elim (cases_lt r 4) [
            | inl lt ↦ first ge2 lt
            | inr ge4 ↦
                elim (cases_lt r 8) [
                  | inl lt ↦ second ge4 lt
                  | inr ge8 ↦
                      elim (cases_lt r 16) [
                        | inl lt ↦ third ge8 lt
                        | inr ge16 ↦
                            elim (cases_lt r 32) [ inl lt ↦ fourth ge16 lt | inr ge32 ↦ leaf ge32 ]
                      ]
                ]
          ]
    ]

-- with all leaves, the tree is whole
filled_whole : (key : KeySeed) (t : List (List ℕ)) → IsFilled key t 5 64 → IsTreeOf key t
unfolding IsFilled
filled_whole key t filled = record {
  each = λ r h k.
      on_some_level (node_at t r ≡ node_of key r) r (λ lt. filled.1.1.1.1.1.each r h lt) (filled.1.1.1.1.0.each r) (filled.1.1.1.0.each r)
      (filled.1.1.0.each r) (filled.1.0.each r) (λ le. filled.0.each r le k);
}

pub filled_to : (key : KeySeed) (t : List (List ℕ)) (next : ℕ) → next ≡ 64 → IsFilled key t 5 next → IsTreeOf key t
filled_to key t next e filled = filled_whole key t (filled_at key t 5 next 64 e filled)

-- a node that is set stands in its place, and those below stay
pub set_same : (s : List (List ℕ)) (number : ℕ) (node : List ℕ) → IsSameBelow s (set s (number - 1) node) number
set_same s number node = record {
  each = λ r h k. let other : r - 1 ≢ number - 1 = omega arith in get_or-set_other s (number - 1) (r - 1) node [] other;
}

pub set_here : (s : List (List ℕ)) (number : ℕ) (node : List ℕ) → 1 ≤ number → number ≤ length s →
    node_at (set s (number - 1) node) number ≡ node
set_here s number node h k = get_or-set_same s (number - 1) node [] (omega arith)

-- a node that does not join takes no step
pub counted_alone : (n number now : ℕ) → 2 ^ n ≤ number → number < 2 * 2 ^ n → (1 < number → number % 2 ≡ 0) →
    now + joined_above n number ≡ now + joined_above n (number + 1)
unfolding joined_above
counted_alone zero number now low high left = refl
counted_alone (suc n) number now low high left =
    let twice : 2 ^ suc n ≡ 2 * 2 ^ n = pow-succ' 2 n in
    let pos : 0 < 2 ^ n = pow_pos n in
    let even : number % 2 ≡ 0 = left (omega arith) in
    let half : number / 2 ≡ (number + 1) / 2 = omega arith in
    ap (λ (x : ℕ). now + (x + joined_above n x)) half

-- what placing a parent takes
abbrev pub CountsAt : ℕ → ℕ → ℕ → Type 0
CountsAt number now later =
    (n : ℕ) → 2 ^ n ≤ number → number < 2 * 2 ^ n → later + joined_above n number ≡ now + joined_above n (number + 1)

-- a right child that joins takes one step more than its parent
pub counted_joined : (n number now later : ℕ) → 2 ^ n ≤ number → number < 2 * 2 ^ n → 1 < number → number % 2 ≡ 1 →
    CountsAt (number / 2) (now + 1) later → later + joined_above n number ≡ now + joined_above n (number + 1)
unfolding joined_above
counted_joined zero number now later low high many odd counts = absurd (omega arith)
counted_joined (suc n) number now later low high many odd counts =
    let twice : 2 ^ suc n ≡ 2 * 2 ^ n = pow-succ' 2 n in
    let half : (number + 1) / 2 ≡ number / 2 + 1 = omega arith in
    let above : later + joined_above n (number / 2) ≡ now + 1 + joined_above n (number / 2 + 1) = counts n (omega arith) (omega arith) in
    let same : joined_above n ((number + 1) / 2) ≡ joined_above n (number / 2 + 1) = ap (joined_above n) half in
    omega arith

-- before the first leaf the 31 nodes on the way up are still to come, and after the last there are 62
pub joined_none : joined_above 5 32 ≡ 31
unfolding joined_above
joined_none = refl

joined_all : joined_above 5 64 ≡ 62
unfolding joined_above
joined_all = refl

pub joined_to : (next : ℕ) → next ≡ 64 → joined_above 5 next ≡ 62
joined_to next e = ap (joined_above 5) e ∙ joined_all
