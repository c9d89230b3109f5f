-- A maker's signatures, level by level.
use Rattle.std.proofs.Common.{◌≡◌, ℕ, zero, suc, ◌+◌, ◌-◌, ◌*◌, ◌<◌, ◌≤◌, List, [], ◌∷◌, ◌++◌, length, refl, sym, ap, subst, ◌∙◌, add-one, append_assoc, append-nil, length-append, arith}
use Rattle.std.proofs.lemmas.List.{length-take-le}
use Rattle.std.proofs.lemmas.Bool.{eq-eqb, ne_eqb}
use Rattle.std.specs.Int.{w8, w32, w64, to_be_bytes}
use Rattle.std.specs.Global.{Vec}
use Rattle.sha2.specs.Sha256.{sha256}
use Rattle.sha2.proofs.Facts256.{length-sha256}
use Rattle.mb_model.specs.declared.key.KeySeed.{KeySeed}
use Rattle.mb_model.specs.signatures.Key.{IsSized, key_bytes}
use Rattle.mb_model.specs.signatures.Signing.{public_of, signature_of}
use Rattle.mb_model.proofs.KeyLemmas.{length-key_bytes}
use Rattle.mb_model_lemmas.proofs.SignatureLemmas.{length-signature_of, public_sized}
use Rattle.mb_bytes.specs.Puts.{Appends}
use Rattle.mb_bytes.proofs.Putting.{puts_then}
use Rattle.mb_hss.specs.declared.maker.Maker.{Maker}
use Rattle.mb_hss.specs.MakerKeys.{level_key, index_at, key_at, public_at}
use Rattle.mb_hss.specs.MakerSignatures.{text_at, signature_at, upper_levels, maker_signature}

-- the keys of levels have the sizes of keys
length-level_identifier : (seed : List ℕ) (level prefix : ℕ) → length ((level_key seed level prefix).identifier) ≡ 16
unfolding level_key
length-level_identifier seed level prefix =
    let hash : List ℕ = sha256 (0x15 ∷ seed ++ to_be_bytes w8 level ++ to_be_bytes w64 prefix) in
    let long : length hash ≡ 32 = length-sha256 _ in
    length-take-le 16 hash (omega arith)

pub level_sized : (maker : Maker) (number level : ℕ) → IsSized (public_of (key_at maker number level))
level_sized maker number level = public_sized (key_at maker number level) (length-level_identifier maker.seed level _)

pub length-public_at : (maker : Maker) (number level : ℕ) → length (public_at maker number level) ≡ 56
length-public_at maker number level = length-key_bytes (public_of (key_at maker number level)) (level_sized maker number level)

pub length-signature_at : (maker : Maker) (number : ℕ) (text : List ℕ) (level : ℕ) → length (signature_at maker number text level) ≡ 2348
length-signature_at maker number text level = length-signature_of (key_at maker number level) _ _

pub length-upper_levels : (maker : Maker) (number : ℕ) (text : List ℕ) (n : ℕ) → length (upper_levels maker number text n) ≡ 2404 * n
unfolding upper_levels
length-upper_levels maker number text zero = refl
length-upper_levels maker number text (suc n) =
    simp length-append (omega (arith, length-upper_levels maker number text n, length-signature_at maker number text n, length-public_at maker number (n + 1)))

pub length-maker_signature : (maker : Maker) (number : ℕ) (text : List ℕ) → 1 ≤ maker.levels →
    length (maker_signature maker number text) ≡ 2404 * maker.levels - 52
unfolding maker_signature
length-maker_signature maker number text some =
    simp length-append (omega (arith, length-upper_levels maker number text (maker.levels - 1), length-signature_at maker number text (maker.levels - 1)))

-- what is signed above the last level, and there
pub text_above : (maker : Maker) (number : ℕ) (text : List ℕ) (level : ℕ) → level + 1 < maker.levels →
    text_at maker number text level ≡ public_at maker number (level + 1)
text_above maker number text level below = rw (ne_eqb (level + 1) maker.levels (λ e. omega arith)) refl

pub text_last : (maker : Maker) (number : ℕ) (text : List ℕ) (level : ℕ) → level + 1 ≡ maker.levels → text_at maker number text level ≡ text
text_last maker number text level e = rw (eq-eqb (level + 1) maker.levels e) refl

-- one level more
pub upper_none : (maker : Maker) (number : ℕ) (text : List ℕ) → upper_levels maker number text 0 ≡ []
unfolding upper_levels
upper_none maker number text = refl

pub upper_next : (maker : Maker) (number : ℕ) (text : List ℕ) (n : ℕ) →
    upper_levels maker number text (n + 1) ≡ upper_levels maker number text n ++ signature_at maker number text n ++ public_at maker number (n + 1)
unfolding upper_levels
upper_next maker number text n = ap (upper_levels maker number text) (add-one n)

-- ---- a signature, as it is put together

-- what stands before the signature of level n
unfoldable pub front : Maker → ℕ → List ℕ → ℕ → List ℕ
front maker number text n = to_be_bytes w32 (maker.levels - 1) ++ upper_levels maker number text n

pub length-front : (maker : Maker) (number : ℕ) (text : List ℕ) (n : ℕ) → length (front maker number text n) ≡ 4 + 2404 * n
unfolding front
length-front maker number text n = simp length-append (omega (arith, length-upper_levels maker number text n))

pub front_begins : (maker : Maker) (number : ℕ) (text count : List ℕ) {old new : Vec ℕ} → count ≡ to_be_bytes w32 (maker.levels - 1) →
    Appends count old new → Appends (front maker number text 0) old new
unfolding front
front_begins maker number text count {old} {new} is put =
    let same : count ≡ to_be_bytes w32 (maker.levels - 1) ++ upper_levels maker number text 0 =
    is ∙ sym (append-nil _) ∙ ap (λ (x : List ℕ). to_be_bytes w32 (maker.levels - 1) ++ x) (sym (upper_none maker number text)) in
    let P : List ℕ → Type 0 = λ x. Appends x old new in
    subst P same put

front_next : (maker : Maker) (number : ℕ) (text sig key : List ℕ) (n : ℕ) → sig ≡ signature_at maker number text n →
    key ≡ public_at maker number (n + 1) → front maker number text n ++ sig ++ key ≡ front maker number text (n + 1)
unfolding front
front_next maker number text sig key n signed keyed =
    let count : List ℕ = to_be_bytes w32 (maker.levels - 1) in
    let upper : List ℕ = upper_levels maker number text n in
    ap (λ (x : List ℕ). x ++ key) (append_assoc count upper sig) ∙ append_assoc count (upper ++ sig) key
    ∙ ap (λ (x : List ℕ). count ++ (upper ++ x ++ key)) signed
    ∙ ap (λ (x : List ℕ). count ++ (upper ++ signature_at maker number text n ++ x)) keyed
    ∙ ap (λ (x : List ℕ). count ++ x) (sym (upper_next maker number text n))

-- the key that stands before a level's signature, at the level's index
pub record IsLevelOf (maker : Maker) (number level : ℕ) (seed : KeySeed) (index : ℕ) : Type 0 where
  pub seed_is : seed ≡ key_at maker number level
  pub index_is : index ≡ index_at maker.levels number level

signed_at : (maker : Maker) (number level : ℕ) (seed : KeySeed) (index : ℕ) (text signed sig : List ℕ) → IsLevelOf maker number level seed index →
    sig ≡ signature_of seed index signed → signed ≡ text_at maker number text level → sig ≡ signature_at maker number text level
signed_at maker number level seed index text signed sig is e f =
    e ∙ ap (signature_of seed index) f ∙ ap (λ (x : ℕ). signature_of seed x (text_at maker number text level)) is.index_is
    ∙ ap (λ (x : KeySeed). signature_of x (index_at maker.levels number level) (text_at maker number text level)) is.seed_is

pub front_goes_on : (maker : Maker) (number : ℕ) (text sig key : List ℕ) (n : ℕ) (seed below : KeySeed) (index : ℕ) {old now middle after : Vec ℕ} →
    n + 1 < maker.levels → IsLevelOf maker number n seed index → below ≡ key_at maker number (n + 1) → key ≡ key_bytes (public_of below) →
    sig ≡ signature_of seed index (key ++ []) → Appends (front maker number text n) old now → Appends sig now middle → Appends key middle after →
    Appends (front maker number text (n + 1)) old after
front_goes_on maker number text sig key n seed below index {old} {now} {middle} {after} within is under keyed signed so_far put put_key =
    let key_is : key ≡ public_at maker number (n + 1) = keyed ∙ ap (λ (x : KeySeed). key_bytes (public_of x)) under in
    let sig_is : sig ≡ signature_at maker number text n =
    signed_at maker number n seed index text (key ++ []) sig is signed (append-nil key ∙ key_is ∙ sym (text_above maker number text n within)) in
    let P : List ℕ → Type 0 = λ x. Appends x old after in
    subst P (front_next maker number text sig key n sig_is key_is) (puts_then (puts_then so_far put) put_key)

pub front_ends : (maker : Maker) (number : ℕ) (text sig : List ℕ) (n : ℕ) (seed : KeySeed) (index : ℕ) {old now after : Vec ℕ} →
    n + 1 ≡ maker.levels → IsLevelOf maker number n seed index → sig ≡ signature_of seed index text →
    Appends (front maker number text n) old now → Appends sig now after → Appends (maker_signature maker number text) old after
unfolding front maker_signature
front_ends maker number text sig n seed index {old} {now} {after} last is signed so_far put =
    let at : n ≡ maker.levels - 1 = omega arith in
    let sig_is : sig ≡ signature_at maker number text n =
    signed_at maker number n seed index text text sig is signed (sym (text_last maker number text n last)) in
    let P : List ℕ → Type 0 = λ x. Appends (to_be_bytes w32 (maker.levels - 1) ++ upper_levels maker number text n ++ x) old after in
    let Q : ℕ → Type 0 = λ m. Appends (to_be_bytes w32 (maker.levels - 1) ++ upper_levels maker number text m ++ signature_at maker number text m) old after in
    subst Q at (subst P sig_is (puts_then so_far put))
