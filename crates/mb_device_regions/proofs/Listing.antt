-- Secrets of a list that are found, put and removed by their names.
use Rattle.std.proofs.Common.{◌≡◌, ◌<◌, ◌≤◌, ◌+◌, ℕ, zero, suc, List, [], ◌∷◌, ◌++◌, length, take, drop, map, Bool, true, false, cond, Option, None, Some, refl, sym, ap, subst, ◌∙◌, arith, get_or, nat_lt}
use Rattle.std.specs.Prelude.{not, ◌||◌, position, remove, slice_set, filter, All}
use Rattle.std.specs.List.{list_any, position_or_len, refill}
use Rattle.std.proofs.lemmas.List.{length-map, map-append, map-set, take_more, length-set, get_or-map}
use Rattle.std.proofs.lemmas.List.Quantifiers.{position-Some}
use Rattle.mb_model.specs.declared.region.Region.{Region}
use Rattle.mb_model.specs.declared.region.Secret.{Secret}
use Rattle.mb_model.specs.machine.LayerEvents.{has_name}
use Rattle.mb_device_regions.specs.declared.listed.Shown.{Shown}
use Rattle.mb_device_regions.specs.Demands.{shown_secret, shown_secrets, region_of_secrets, FitsSpare, AreKept, KeepsIn, without_name}
use Rattle.mb_device_regions.proofs.Names.{put_there, put_after, full_there, dropped_there, absent_there}

take_front : (xs more : List Shown) → take (length xs) (xs ++ more) ≡ xs
take_front [] more = none more
  where
    none : (ys : List Shown) → take 0 ys ≡ []
    none [] = refl
    none (y ∷ ys) = refl
take_front (x ∷ xs) more = ap (λ ys. x ∷ ys) (take_front xs more)

-- ---- places

place_over : {X Y : Type 0} (p : Y → Bool) (f : X → Y) (xs : List X) → position_or_len p (map f xs) ≡ position_or_len (λ x. p (f x)) xs
place_over p f [] = refl
place_over p f (x ∷ xs) = ap (λ (n : ℕ). cond (not (p (f x))) (1 + n) 0) (place_over p f xs)

-- the place in a list is that in what the list shows
pub position_over : {X Y : Type 0} (p : Y → Bool) (f : X → Y) (xs : List X) → position p (map f xs) ≡ position (λ x. p (f x)) xs
position_over p f xs =
    ap (λ (n : ℕ). cond (nat_lt n (length (map f xs))) (Some n) None) (place_over p f xs)
    ∙ ap (λ (n : ℕ). cond (nat_lt (position_or_len (λ x. p (f x)) xs) n) (Some (position_or_len (λ x. p (f x)) xs)) None) (length-map xs f)

pub place_within : (name : List ℕ) (listed : List Shown) (at : ℕ) (shown : Shown) → Some at ≡ position (has_name name) (shown_secrets listed) → at < length listed
place_within name listed at shown found =
    let first = position-Some (has_name name) (shown_secrets listed) at (shown_secret shown) (sym found) in
    omega (arith, first.0, length-map listed shown_secret)

-- ---- what is shown of a list that is edited

take_over : {X Y : Type 0} (f : X → Y) (xs : List X) (n : ℕ) → map f (take n xs) ≡ take n (map f xs)
take_over f [] zero = refl
take_over f [] (suc n) = refl
take_over f (x ∷ xs) zero = refl
take_over f (x ∷ xs) (suc n) = ap (λ ys. f x ∷ ys) (take_over f xs n)

drop_over : {X Y : Type 0} (f : X → Y) (xs : List X) (n : ℕ) → map f (drop n xs) ≡ drop n (map f xs)
drop_over f [] zero = refl
drop_over f [] (suc n) = refl
drop_over f (x ∷ xs) zero = refl
drop_over f (x ∷ xs) (suc n) = drop_over f xs n

remove_over : {X Y : Type 0} (f : X → Y) (xs : List X) (at : ℕ) → map f (remove xs at) ≡ remove (map f xs) at
remove_over f xs at =
    map-append f (take at xs) (drop (suc at) xs) ∙ ap (λ ys. ys ++ map f (drop (suc at) xs)) (take_over f xs at) ∙ ap (λ ys. take at (map f xs) ++ ys) (drop_over f xs (suc at))

-- what is found in a list, found in what it shows
pub found_over : (result : Option ℕ) (name : List ℕ) (read listed : List Shown) → read ≡ listed → result ≡ position (λ shown. has_name name (shown_secret shown)) read
    → result ≡ position (has_name name) (shown_secrets listed)
found_over result name read listed same is =
    is ∙ ap (λ (xs : List Shown). position (λ shown. has_name name (shown_secret shown)) xs) same ∙ sym (position_over (has_name name) shown_secret listed)

-- an element that is set is set in the whole
pub refilled : (n : ℕ) (old new : List Shown) → n ≡ length old → length new ≡ n → refill n old new ≡ new
refilled n old new sized same = take_all_of n new (drop (length new) old) same
  where
    take_all_of : (k : ℕ) (xs more : List Shown) → length xs ≡ k → take k (xs ++ more) ≡ xs
    take_all_of k xs more is = ap (λ m. take m (xs ++ more)) (sym is) ∙ take_front xs more

-- ---- a secret that is put

pub keeps_there : (secret : Shown) (listed new : List Shown) (at : ℕ) → AreKept (shown_secrets listed) → Some at ≡ position (has_name (shown_secret secret).name) (shown_secrets listed)
    → (lent : List Shown) (n : ℕ) → n ≡ length listed → lent ≡ listed → new ≡ refill n listed (slice_set lent at secret) → KeepsIn (shown_secret secret) (shown_secrets listed) true (shown_secrets new)
keeps_there secret listed new at are found lent n sized same written =
    let is : new ≡ slice_set listed at secret =
    written ∙ ap (λ (xs : List Shown). refill n listed (slice_set xs at secret)) same ∙ refilled n listed (slice_set listed at secret) sized (length-set listed at secret ∙ sym sized) in
    let put = put_there (shown_secret secret) (region_of_secrets (shown_secrets listed)) (shown_secret secret).name (shown_secrets listed) (shown_secrets new) at are refl refl found
    (ap shown_secrets is ∙ map-set shown_secret listed at secret) in
    (put.room, ap (λ (r : Region). r.secrets) put.is)

pub keeps_after : (secret : Shown) (listed new : List Shown) → None ≡ position (has_name (shown_secret secret).name) (shown_secrets listed) → length listed < 22
    → new ≡ listed ++ secret ∷ [] → KeepsIn (shown_secret secret) (shown_secrets listed) true (shown_secrets new)
keeps_after secret listed new found few is =
    let put = put_after (shown_secret secret) (region_of_secrets (shown_secrets listed)) (shown_secret secret).name (shown_secrets listed) (shown_secrets new) refl refl found
    (omega (arith, few, length-map listed shown_secret)) (ap shown_secrets is ∙ map-append shown_secret listed (secret ∷ [])) in
    (put.room, ap (λ (r : Region). r.secrets) put.is)

pub keeps_not : (secret : Shown) (listed new : List Shown) → None ≡ position (has_name (shown_secret secret).name) (shown_secrets listed) → 22 ≤ length listed
    → KeepsIn (shown_secret secret) (shown_secrets listed) false (shown_secrets new)
keeps_not secret listed new found many =
    full_there (region_of_secrets (shown_secrets listed)) (shown_secret secret).name (shown_secret secret).name (shown_secrets listed) refl refl found (omega (arith, many, length-map listed shown_secret))

-- ---- a secret that is removed

pub removed_there : (name : List ℕ) (listed new : List Shown) (at : ℕ) (any : Secret) → AreKept (shown_secrets listed) → Some at ≡ position (has_name name) (shown_secrets listed)
    → new ≡ remove listed at → shown_secrets new ≡ without_name name (shown_secrets listed)
removed_there name listed new at any are found is =
    let dropped = dropped_there (region_of_secrets (shown_secrets listed)) name (shown_secrets listed) (shown_secrets new) at any are refl found (ap shown_secrets is ∙ remove_over shown_secret listed at) in
    ap (λ (r : Region). r.secrets) dropped.is

pub none_goes : (p : Secret → Bool) (secrets : List Secret) → list_any p secrets ≡ false → filter (λ secret. not (p secret)) secrets ≡ secrets
none_goes p [] none = refl
none_goes p (secret ∷ secrets) none = by (p secret) (list_any p secrets) (none_goes p secrets) none
  where
    by : (here later : Bool) → (later ≡ false → filter (λ s. not (p s)) secrets ≡ secrets) → (here || later) ≡ false
        → cond (not here) (secret ∷ filter (λ s. not (p s)) secrets) (filter (λ s. not (p s)) secrets) ≡ secret ∷ secrets
    by true later rest e = absurd (grind (arith, e))
    by false later rest e = ap (λ more. secret ∷ more) (rest e)

pub removed_none : (name : List ℕ) (listed : List Shown) → None ≡ position (has_name name) (shown_secrets listed) → shown_secrets listed ≡ without_name name (shown_secrets listed)
removed_none name listed found =
    sym (none_goes (has_name name) (shown_secrets listed) (absent_there (region_of_secrets (shown_secrets listed)) name (shown_secrets listed) refl found))

-- ---- a list that is made, and what is made of it

pub shown_more : (listed : List Shown) (shown : Shown) (secrets : List Secret) (at : ℕ) (secret : Secret) → shown_secrets listed ≡ take at secrets → at < length secrets
    → secret ≡ get_or secrets at secret → shown_secret shown ≡ secret → shown_secrets (listed ++ shown ∷ []) ≡ take (at + 1) secrets
shown_more listed shown secrets at secret so_far within is own =
    map-append shown_secret listed (shown ∷ []) ∙ ap (λ xs. xs ++ shown_secret shown ∷ []) so_far ∙ ap (λ s. take at secrets ++ s ∷ []) (own ∙ is) ∙ sym (take_more secrets at secret within)

pub fits_each : (listed read : List Shown) (at : ℕ) (d : Shown) → All FitsSpare (shown_secrets listed) → read ≡ listed → at < length read → FitsSpare (shown_secret (get_or read at d))
fits_each listed read at d fit same within =
    let less : at < length listed = subst (λ (xs : List Shown). at < length xs) same within in
    subst (λ (xs : List Shown). FitsSpare (shown_secret (get_or xs at d))) (sym same)
    (subst FitsSpare (get_or-map shown_secret listed at d (shown_secret d) less) (fit at (shown_secret d) (omega (arith, less, length-map listed shown_secret))))
