-- How many bytes the parts of an order have.
use Rattle.std.proofs.Common.{◌≡◌, ◌⊎◌, inl, inr, ℕ, zero, suc, ◌+◌, ◌<◌, ◌≤◌, Bool, true, false, not, List, [], ◌∷◌, ◌++◌, length, get_or, drop, flat_map, refl, sym, ap, ◌∙◌, arith, length-append, length-take, take}
use Rattle.std.proofs.lemmas.List.{take_at, drop_all}
use Rattle.std.specs.Prelude.{if◌then◌else◌}
use Rattle.std.specs.List.{AllByRecursion}
use Rattle.std.specs.Int.{Width, byte_len, w8, w32}
use Rattle.mb_format.specs.Format.{Format}
use Rattle.mb_format.specs.Combinators.{number_bytes, between, counted, times}
use Rattle.mb_format.proofs.Fields.{IsWide, wide8, wide32}
use Rattle.mb_format.proofs.Compositions.{items_all, times_spelling}
use Rattle.mb_model.specs.declared.key.PublicKey.{PublicKey}
use Rattle.mb_model.specs.declared.key.Trust.{Trust}
use Rattle.mb_model.specs.declared.layer.Trusts.{Trusts}
use Rattle.mb_model.specs.declared.order.KeyKind.{KeyKind}
use Rattle.mb_model.specs.declared.order.Target.{Target}
use Rattle.mb_model.specs.declared.order.Target.TheVariants.{Serial, Length, Owner, Code}
use Rattle.mb_model.specs.declared.order.Payload.{Payload}
use Rattle.mb_model.specs.owners.Rules.{kind_of}
use Rattle.mb_model.specs.declared.order.Act.{Act}
use Rattle.mb_model.specs.declared.order.Act.TheVariants.{Establish, Load, Emergency, NewKey}
use Rattle.mb_model.specs.declared.order.Order.{Order}
use Rattle.mb_model.specs.signatures.Key.{tree_type, chains_type}
use Rattle.mb_model.specs.records.KeyFormat.{public_key_format}
use Rattle.mb_model.specs.records.LayerFormat.{trust_byte, trust_format}
use Rattle.mb_model.specs.records.EntryFormat.{key_kind_byte, key_kind_format}
use Rattle.mb_model.specs.owners.Layers.{are_equal}
use Rattle.mb_model.specs.records.OrderFormat.{target_format, form_byte, form_of, given_trusts, differs_in, payload_format, act_by, body_format, order_body, order_format}

length-number : {w : Width} → IsWide w → (n : ℕ) → length (number_bytes w n) ≡ byte_len w
unfolding number_bytes
length-number wide n = wide.len n

-- ---- targets

pub length-serial : (serial : List ℕ) → target_format.Allowed (Serial serial) → 17 ≡ length (target_format.spelling (Serial serial))
unfolding target_format
length-serial serial h =
    let tag : length (number_bytes w8 1) ≡ 1 = length-number wide8 1 in
    omega (arith, tag, h.1, length-append (number_bytes w8 1) serial)

pub length-length : (n : ℕ) → 5 ≡ length (target_format.spelling (Length n))
unfolding target_format
length-length n =
    let tag : length (number_bytes w8 2) ≡ 1 = length-number wide8 2 in
    let four : length (number_bytes w32 n) ≡ 4 = length-number wide32 n in
    omega (arith, tag, four, length-append (number_bytes w8 2) (number_bytes w32 n))

-- a tag, a layer and a hash
named : (tag layer : ℕ) (hash : List ℕ) → length hash ≡ 32 → 34 ≡ length (number_bytes w8 tag ++ (number_bytes w8 layer ++ hash))
named tag layer hash len =
    let one : length (number_bytes w8 tag) ≡ 1 = length-number wide8 tag in
    let two : length (number_bytes w8 layer) ≡ 1 = length-number wide8 layer in
    omega (arith, one, two, len, length-append (number_bytes w8 tag) (number_bytes w8 layer ++ hash), length-append (number_bytes w8 layer) hash)

-- a target on a layer
pub length-named : (target : Target) → ((layer : ℕ) × (hash : List ℕ) × (target ≡ Owner layer hash)) ⊎ ((layer : ℕ) × (hash : List ℕ) × (target ≡ Code layer hash)) → target_format.Allowed target → 34 ≡ length (target_format.spelling target)
unfolding target_format
length-named target (inl owner) h =
    let allowed = rw owner.2 at h in
    rw owner.2 (named 3 owner.0 owner.1 allowed.1.1)
length-named target (inr code) h =
    let allowed = rw code.2 at h in
    rw code.2 (named 4 code.0 code.1 allowed.1.1)

-- ---- a list of items

-- one of the items is allowed
pub allowed_at : {A : Type 0} (item : Format A) (n : ℕ) (xs : List A) → (times n item).Allowed xs → (i : ℕ) (d : A) → i < length xs → item.Allowed (get_or xs i d)
allowed_at {A} item n xs h i d lt = at xs i (items_all item n xs h).1 lt
  where
    at : (ys : List A) (k : ℕ) → AllByRecursion item.Allowed ys → k < length ys → item.Allowed (get_or ys k d)
    at [] k all below = absurd (omega arith)
    at (y ∷ ys) zero all below = all.0
    at (y ∷ ys) (suc k) all below = at ys k all.1 (omega arith)

-- what was counted from the start on is the length of the first i of them
pub record IsMeasured {A : Type 0} (spelling : A → List ℕ) (xs : List A) (start i total : ℕ) : Type 0 where
  pub sum : total + length (flat_map spelling (drop i xs)) ≡ start + length (flat_map spelling xs)

pub measured_next : {A : Type 0} {spelling : A → List ℕ} {xs : List A} {start i total : ℕ} (a : A) → drop i xs ≡ a ∷ drop (i + 1) xs → IsMeasured spelling xs start i total → IsMeasured spelling xs start (i + 1) (total + length (spelling a))
measured_next {A} {spelling} {xs} {start} {i} {total} a e is = record {
  sum = omega (arith, is.sum, ap (λ ys. length (flat_map spelling ys)) e, length-append (spelling a) (flat_map spelling (drop (i + 1) xs)));
}

pub measured_last : {A : Type 0} {spelling : A → List ℕ} {xs : List A} {start i total : ℕ} → length xs ≤ i → IsMeasured spelling xs start i total → total ≡ start + length (flat_map spelling xs)
measured_last {A} {spelling} {xs} {start} {i} {total} le is = omega (arith, is.sum, ap (λ ys. length (flat_map spelling ys)) (drop_all i xs le))

-- with a byte for their number
pub length-counted : {A : Type 0} (item : Format A) (xs : List A) → 1 + length (flat_map item.spelling xs) ≡ length (number_bytes w8 (length xs) ++ (times (length xs) item).spelling xs)
length-counted item xs =
    let one : length (number_bytes w8 (length xs)) ≡ 1 = length-number wide8 (length xs) in
    omega (arith, one, ap length (times_spelling item (length xs) xs refl), length-append (number_bytes w8 (length xs)) ((times (length xs) item).spelling xs))

-- ---- what an order does

length-public_key : (key : PublicKey) → public_key_format.Allowed key → length (public_key_format.spelling key) ≡ 56
unfolding public_key_format
length-public_key key h =
    let one : length (number_bytes w32 (tree_type key.tree)) ≡ 4 = length-number wide32 (tree_type key.tree) in
    let two : length (number_bytes w32 (chains_type key.chains)) ≡ 4 = length-number wide32 (chains_type key.chains) in
    omega (arith, one, two, h.1.1.0, h.1.1.1, length-append (number_bytes w32 (tree_type key.tree)) (number_bytes w32 (chains_type key.chains) ++ (key.identifier ++ key.root)), length-append (number_bytes w32 (chains_type key.chains)) (key.identifier ++ key.root), length-append key.identifier key.root)

length-trust : (trust : Trust) → length (trust_format.spelling trust) ≡ 1
unfolding trust_format
length-trust trust = length-number wide8 (trust_byte trust)

pub length-given : (differs : Bool) (trusts : Trusts) → length ((given_trusts differs).spelling trusts) ≡ (if differs then 2 else 1)
length-given true trusts =
    let first = length-trust trusts.one in
    let second : length (number_bytes w8 (trust_byte trusts.two)) ≡ 1 = length-number wide8 (trust_byte trusts.two) in
    omega (arith, first, second, length-append (trust_format.spelling trusts.one) (number_bytes w8 (trust_byte trusts.two)))
length-given false trusts = omega (arith, length-trust trusts.one, length-append (trust_format.spelling trusts.one) [])

given_by : (equal : Bool) (trusts : Trusts) → length ((given_trusts (not equal)).spelling trusts) ≡ (if equal then 1 else 2)
given_by true trusts = length-given false trusts
given_by false trusts = length-given true trusts

pub one_given : (trusts : Trusts) → are_equal trusts ≡ true → 1 ≡ length ((given_trusts (not (are_equal trusts))).spelling trusts)
one_given trusts is = sym (given_by (are_equal trusts) trusts ∙ ap (λ (b : Bool). if b then 1 else 2) is)

pub two_given : (trusts : Trusts) → are_equal trusts ≡ false → 2 ≡ length ((given_trusts (not (are_equal trusts))).spelling trusts)
two_given trusts is = sym (given_by (are_equal trusts) trusts ∙ ap (λ (b : Bool). if b then 1 else 2) is)

length-key_kind : (kind : KeyKind) → length (key_kind_format.spelling kind) ≡ 1
unfolding key_kind_format
length-key_kind kind = length-number wide8 (key_kind_byte kind)

length-payload : (differs : Bool) (payload : Payload) → 8 + length ((given_trusts differs).spelling payload.trust) + length payload.code ≡ length ((payload_format differs).spelling payload)
unfolding payload_format
length-payload differs payload =
    let trusts : List ℕ = (given_trusts differs).spelling payload.trust in
    let four : length (number_bytes w32 payload.version) ≡ 4 = length-number wide32 payload.version in
    let code : List ℕ = payload.code in
    let size : length (number_bytes w32 (length code)) ≡ 4 = length-number wide32 (length code) in
    omega (arith, four, size, length-append (number_bytes w32 payload.version) (trusts ++ (number_bytes w32 (length code) ++ code)), length-append (trusts) (number_bytes w32 (length code) ++ code), length-append (number_bytes w32 (length code)) code)

pub length-establish : (owner : PublicKey) (trust : Trusts) → (act_by (kind_of (Establish owner trust)) (differs_in (Establish owner trust))).Allowed (Establish owner trust)
    → 56 + length ((given_trusts (not (are_equal trust))).spelling trust) ≡ length ((act_by (kind_of (Establish owner trust)) (differs_in (Establish owner trust))).spelling (Establish owner trust))
length-establish owner trust h =
    let key = length-public_key owner h.0 in
    omega (arith, key, length-append (public_key_format.spelling owner) ((given_trusts (not (are_equal trust))).spelling trust))

pub length-new_key : (kind : KeyKind) → 1 ≡ length ((act_by (kind_of (NewKey kind)) false).spelling (NewKey kind))
length-new_key kind = sym (length-key_kind kind)

-- a load of either kind
pub length-loaded : (act : Act) (payload : Payload) → (act ≡ Load payload) ⊎ (act ≡ Emergency payload)
    → 8 + length ((given_trusts (not (are_equal payload.trust))).spelling payload.trust) + length payload.code ≡ length ((act_by (kind_of act) (differs_in act)).spelling act)
length-loaded act payload (inl load) = rw load (length-payload (not (are_equal payload.trust)) payload)
length-loaded act payload (inr load) = rw load (length-payload (not (are_equal payload.trust)) payload)

-- ---- the signed part

pub length-body : (order : Order) → 2 + length ((counted (between w8 0 8) target_format).spelling order.targets) + length ((act_by (kind_of order.act) (differs_in order.act)).spelling order.act) ≡ length (order_body order)
unfolding body_format
length-body order =
    let one : length (number_bytes w8 (form_byte (form_of order.act))) ≡ 1 = length-number wide8 (form_byte (form_of order.act)) in
    let two : length (number_bytes w8 order.layer) ≡ 1 = length-number wide8 order.layer in
    let targets = (counted (between w8 0 8) target_format).spelling order.targets in
    let act = (act_by (kind_of order.act) (differs_in order.act)).spelling order.act in
    omega (arith, one, two, length-append (number_bytes w8 (form_byte (form_of order.act))) (number_bytes w8 order.layer ++ (targets ++ act)), length-append (number_bytes w8 order.layer) (targets ++ act), length-append targets act)

-- an order's spelling begins with its signed part
pub body_first : (order : Order) (n : ℕ) → n ≡ length (order_body order) → take n (order_format.spelling order) ≡ order_body order
unfolding order_format
body_first order n e = take_at (order_body order) _ n (sym e)

-- and the signed part ends within the spelling
pub body_within : (order : Order) (bytes : List ℕ) (n : ℕ) → bytes ≡ order_format.spelling order → n ≡ length (order_body order) → take n (order_format.spelling order) ≡ order_body order → n ≤ length bytes
body_within order bytes n whole size first = omega (arith, size, ap length first, ap length whole, length-take n (order_format.spelling order))
