-- Signed and countersigned orders: what was made is what is said, and has a spelling again.
use Rattle.std.proofs.Common.{◌≡◌, ◌≢◌, ℕ, ◌+◌, ◌-◌, ◌<◌, ◌≤◌, inl, inr, List, [], ◌∷◌, ◌++◌, length, refl, sym, ap, subst, ◌∙◌, arith}
use Rattle.std.specs.Prelude.{All, IsTrue}
use Rattle.std.proofs.lemmas.List.Elements.{All-head, All-tail}
use Rattle.std.proofs.lemmas.Bool.{cases_order, le-ltb, lt-ltb}
use Rattle.mb_format.specs.Combinators.{items}
use Rattle.mb_model.specs.declared.order.Act.{Act}
use Rattle.mb_model.specs.declared.order.Act.TheVariants as act
use Rattle.mb_model.specs.declared.order.Countersignature.{Countersignature}
use Rattle.mb_model.specs.declared.order.Order.{Order}
use Rattle.mb_model.specs.declared.tools.Keyfile.{Keyfile}
use Rattle.mb_model.specs.owners.Layers.{is_upper}
use Rattle.mb_model.specs.records.OrderFormat.{order_body, body_format, countersignature_limit, sized_signature_format, climb_after, countersignature_format, countersignatures_format, order_format}
use Rattle.mb_model.specs.owners.Rules.{kind_of, change_of, least_layer, is_load}
use Rattle.mb_model.specs.machine.SignedTexts.{order_text, countersigned_text}
use Rattle.mb_model.specs.signatures.Signing.{signature_of}
use Rattle.mb_model.specs.machine.SignedOrders.{signed_order, with_countersignature, countersigned_order}
use Rattle.mb_model.specs.machine.SignedOrders.{IsCountersignable}
use Rattle.mb_model_lemmas.proofs.WordLemmas.{upper_cases}

pub signed_is : (k : Keyfile) (order : Order) (signature body : List ℕ) → signature ≡ signature_of k.seed k.next ((1 ∷ []) ++ body) → body ≡ order_body order
    → record order { signature = signature } ≡ signed_order k order
unfolding order_text
signed_is k order signature body e f =
    ap (λ (s : List ℕ). record order { signature = s }) (e ∙ ap (λ (b : List ℕ). signature_of k.seed k.next (1 ∷ b)) f)

-- a signature that fits
sized_allowed : (signature : List ℕ) → length signature ≤ 9324 → sized_signature_format.Allowed signature
unfolding sized_signature_format
sized_allowed signature fits = ((omega arith, fits), refl)

pub signed_allowed : (order : Order) (signature : List ℕ) → order_format.Allowed order → length signature ≡ 2348
    → order_format.Allowed (record order { signature = signature })
unfolding order_format
signed_allowed order signature allowed sized = (allowed.0, (sized_allowed signature (omega (arith, sized)), allowed.1.1))

-- ---- countersignatures

pub countersigned_is : (k : Keyfile) (m : ℕ) (order : Order) (signature body : List ℕ) → signature ≡ signature_of k.seed k.next ((2 ∷ m ∷ []) ++ body)
    → body ≡ order_body order
    → record order { countersignatures = with_countersignature (record { layer = m; signature = signature }) order.countersignatures } ≡ countersigned_order k m order
unfolding countersigned_text
countersigned_is k m order signature body e f =
    ap (λ (s : List ℕ). record order { countersignatures = with_countersignature (record { layer = m; signature = s }) order.countersignatures })
    (e ∙ ap (λ (b : List ℕ). signature_of k.seed k.next (2 ∷ m ∷ b)) f)

layer_least : (a : Act) (n : ℕ) → least_layer (kind_of a) ≤ n → 1 ≤ n
layer_least (act.Establish owner trust) n least = omega (arith, least)
layer_least act.Surrender n least = omega (arith, least)
layer_least (act.Load payload) n least = least
layer_least (act.Emergency payload) n least = omega (arith, least)
layer_least (act.NewKey kind) n least = omega (arith, least)

-- the layer of an order that has a spelling
first_layer : (order : Order) → order_format.Allowed order → 1 ≤ order.layer
unfolding order_format body_format
first_layer order allowed = layer_least order.act order.layer allowed.0.1.0.0

load_most : (a : Act) (n : ℕ) → IsTrue (is_load (change_of (kind_of a))) → countersignature_limit (kind_of a) n ≡ 3 - n
load_most (act.Establish owner trust) n is = absurd (cc)
load_most act.Surrender n is = absurd (cc)
load_most (act.Load payload) n is = refl
load_most (act.Emergency payload) n is = refl
load_most (act.NewKey kind) n is = absurd (cc)

abbrev AreAllowed : ℕ → List Countersignature → Type 0
AreAllowed n list = (items countersignature_format climb_after (length list) (record { below = n; left = length list })).Allowed list

one_allowed : (n : ℕ) (c : Countersignature) → n + 1 ≤ c.layer → c.layer ≤ 3 → sized_signature_format.Allowed c.signature → AreAllowed n (c ∷ [])
unfolding items
one_allowed n c least most sized = (((least, most), sized), refl)

two_allowed : (n : ℕ) (c d : Countersignature) → n + 1 ≤ c.layer → c.layer ≤ 2 → c.layer + 1 ≤ d.layer → d.layer ≤ 3 → sized_signature_format.Allowed c.signature
    → sized_signature_format.Allowed d.signature → AreAllowed n (c ∷ d ∷ [])
unfolding items
two_allowed n c d least most above top sized also_sized = (((least, most), sized), (((above, top), also_sized), refl))

one_parts : (n : ℕ) (d : Countersignature) → AreAllowed n (d ∷ []) → (n + 1 ≤ d.layer) × (d.layer ≤ 3) × sized_signature_format.Allowed d.signature
unfolding items
one_parts n d allowed = (allowed.0.0.0, allowed.0.0.1, allowed.0.1)

two_parts : (n : ℕ) (d e : Countersignature) → AreAllowed n (d ∷ e ∷ []) → (n + 1 ≤ d.layer) × (d.layer ≤ 2) × (d.layer + 1 ≤ e.layer) × (e.layer ≤ 3)
unfolding items
two_parts n d e allowed = (allowed.0.0.0, allowed.0.0.1, allowed.1.0.0.0, allowed.1.0.0.1)

-- how the countersignatures stand, where one may be added
data Standing (n m : ℕ) (list : List Countersignature) : Type 0 where
  none_there : list ≡ [] → Standing n m list
  one_there : (d : Countersignature) → list ≡ d ∷ [] → d.layer ≢ m → n + 1 ≤ d.layer → d.layer ≤ 3 → sized_signature_format.Allowed d.signature → Standing n m list

abbrev other_layer : ℕ → Countersignature → Type 0
other_layer m other = other.layer ≢ m

standing : (n m : ℕ) (list : List Countersignature) → 1 ≤ n → n < m → IsTrue (is_upper m) → length list ≤ 3 - n → AreAllowed n list → All (other_layer m) list → Standing n m list
standing n m [] least above upper most allowed new = none_there refl
standing n m (d ∷ []) least above upper most allowed new =
    let parts = one_parts n d allowed in
    one_there d refl (All-head (other_layer m) d [] new) parts.0 parts.1 parts.2
standing n m (d ∷ e ∷ []) least above upper most allowed new =
    let parts = two_parts n d e allowed in
    let first = All-head (other_layer m) d (e ∷ []) new in
    let second = All-head (other_layer m) e [] (All-tail (other_layer m) d (e ∷ []) new) in
    elim (upper_cases m upper) [
      | inl two ↦ absurd (first (omega (arith, two, parts.0, parts.1, least)))
      | inr three ↦ absurd (second (omega (arith, three, parts.0, parts.1, parts.2, parts.3, least)))
    ]
standing n m (d ∷ e ∷ f ∷ rest) least above upper most allowed new = absurd (omega (arith, most, least))

standing_of : (order : Order) (m : ℕ) → order_format.Allowed order → IsTrue (is_upper m) → IsCountersignable order m → Standing order.layer m order.countersignatures
unfolding order_format countersignatures_format
standing_of order m allowed upper can =
    standing order.layer m order.countersignatures (first_layer order allowed) can.above upper
    (omega (arith, allowed.1.1.0.1, load_most order.act order.layer can.load)) allowed.1.1.1 can.new

few : (n m : ℕ) (list : List Countersignature) → Standing n m list → length list ≤ 1
few n m list (none_there e) = omega (arith, ap length e)
few n m list (one_there d e apart least most sized) = omega (arith, ap length e)

-- at most one countersignature is there, where one may be added
pub at_most_one : (order : Order) (m : ℕ) → order_format.Allowed order → IsTrue (is_upper m) → IsCountersignable order m → length order.countersignatures ≤ 1
at_most_one order m allowed upper can = few order.layer m order.countersignatures (standing_of order m allowed upper can)

-- ---- one more

lower_before : (c d : Countersignature) → d.layer < c.layer → with_countersignature c (d ∷ []) ≡ d ∷ c ∷ []
lower_before c d less =
    let below = lt-ltb d.layer c.layer less in
    let above = le-ltb c.layer d.layer (omega (arith, less)) in
    simp (below, above) refl

higher_after : (c d : Countersignature) → c.layer < d.layer → with_countersignature c (d ∷ []) ≡ c ∷ d ∷ []
higher_after c d less =
    let below = le-ltb d.layer c.layer (omega (arith, less)) in
    let above = lt-ltb c.layer d.layer less in
    simp (below, above) refl

all_allowed : (n m : ℕ) (c : Countersignature) (list : List Countersignature) → c.layer ≡ m → n < m → IsTrue (is_upper m) → 1 ≤ n
    → sized_signature_format.Allowed c.signature → Standing n m list
    → (length (with_countersignature c list) ≤ 3 - n) × AreAllowed n (with_countersignature c list)
all_allowed n m c list is above upper least sized (none_there e) =
    let top : m ≤ 3 = elim (upper_cases m upper) [ inl two ↦ omega (arith, two) | inr three ↦ omega (arith, three) ] in
    subst (λ (x : List Countersignature). (length (with_countersignature c x) ≤ 3 - n) × AreAllowed n (with_countersignature c x)) (sym e)
    (omega (arith, above, top), one_allowed n c (omega (arith, is, above)) (omega (arith, is, top)) sized)
all_allowed n m c list is above upper least sized (one_there d e apart low most also_sized) =
    let top : m ≤ 3 = elim (upper_cases m upper) [ inl two ↦ omega (arith, two) | inr three ↦ omega (arith, three) ] in
    subst (λ (x : List Countersignature). (length (with_countersignature c x) ≤ 3 - n) × AreAllowed n (with_countersignature c x)) (sym e)
    (elim (cases_order d.layer c.layer) [
      | inl same ↦ absurd (apart (same ∙ is))
      | inr (inl less) ↦
          subst (λ (x : List Countersignature). (length x ≤ 3 - n) × AreAllowed n x) (sym (lower_before c d less))
          (omega (arith, low, less, is, top), two_allowed n d c low (omega (arith, less, is, top)) (omega (arith, less)) (omega (arith, is, top)) also_sized sized)
      | inr (inr less) ↦
          subst (λ (x : List Countersignature). (length x ≤ 3 - n) × AreAllowed n x) (sym (higher_after c d less)) (
            omega (arith, above, less, is, most),
            two_allowed n c d (omega (arith, is, above)) (omega (arith, less, most)) (omega (arith, less)) most sized also_sized,
          )
    ])

pub countersigned_allowed : (order : Order) (m : ℕ) (signature : List ℕ) → order_format.Allowed order → IsTrue (is_upper m) → IsCountersignable order m
    → length signature ≡ 2348
    → order_format.Allowed (record order { countersignatures = with_countersignature (record { layer = m; signature = signature }) order.countersignatures })
unfolding order_format countersignatures_format
countersigned_allowed order m signature allowed upper can sized =
    let c : Countersignature = record { layer = m; signature = signature } in
    let more = all_allowed order.layer m c order.countersignatures refl can.above upper (first_layer order allowed) (sized_allowed signature (omega (arith, sized)))
    (standing_of order m allowed upper can) in
    (allowed.0, (allowed.1.0, ((omega arith, omega (arith, more.0, load_most order.act order.layer can.load)), more.1)))
