-- The use of a key of a region that is given.
use Rattle.std.proofs.Common.{◌≡◌, ℕ, zero, suc, ◌+◌, ◌<◌, ◌≤◌, Bool, true, false, cond, Option, Some, None, List, [], ◌∷◌, ◌++◌, length, refl, sym, ap, subst, ◌∙◌, arith, Fits, w32}
use Rattle.std.specs.Prelude.{find, position, slice_get, slice_set, slice_index_or, nat_lt, unwrap_or}
use Rattle.std.specs.List.{position_or_len}
use Rattle.std.proofs.lemmas.List.Folds.{find_at}
use Rattle.std.proofs.lemmas.Option.{same_Some, slice_get_past, slice_get_within, unwrap_or-slice_get}
use Rattle.mb_model.specs.declared.region.Region.{Region}
use Rattle.mb_model.specs.declared.region.RegionKey.{RegionKey}
use Rattle.mb_model.specs.machine.LayerEvents.{has_number, with_use}
use Rattle.mb_model.specs.records.RegionFormat.{CanBeWritten, written_region}
use Rattle.mb_model.proofs.RegionWriting.{written_spells}
use Rattle.mb_model_lemmas.proofs.FateLemmas.{used_by_number}
use Rattle.mb_model_memory.proofs.StorableMemories.{spelled_storable}
use Rattle.mb_model_memory.proofs.StorableSteps.{found_number}
use Rattle.mb_layout_edits.specs.Edits.{region_with_use}
use Rattle.mb_outbound.specs.Binding.{AreKeysInOrder, HasUse, HasUnspentKey}
use Rattle.mb_outbound.proofs.Bound.{use_written}

-- ---- where a key stands

found_first : {X : Type 0} (p : X → Bool) (xs : List X) (at : ℕ) → Some at ≡ position p xs → at ≡ position_or_len p xs
found_first p xs at is = by (nat_lt (position_or_len p xs) (length xs)) is
  where
    by : (b : Bool) → Some at ≡ cond b (Some (position_or_len p xs)) None → at ≡ position_or_len p xs
    by true e = cc
    by false e = absurd cc

nowhere : {X : Type 0} (p : X → Bool) (xs : List X) → None ≡ position p xs → length xs ≤ position_or_len p xs
nowhere p xs is = by (nat_lt (position_or_len p xs) (length xs)) refl is
  where
    by : (b : Bool) → nat_lt (position_or_len p xs) (length xs) ≡ b → None ≡ cond b (Some (position_or_len p xs)) None → length xs ≤ position_or_len p xs
    by true e f = absurd cc
    by false e f = grind (arith, e)

-- where a key can sign, one has its number
pub stands_somewhere : (number : ℕ) (region : Region) (keys : List RegionKey) → keys ≡ region.keys → HasUnspentKey region number → None ≡ position (has_number number) keys → ⊥
stands_somewhere number region keys read can is =
    let none : find (has_number number) keys ≡ None = find_at (has_number number) keys ∙ slice_get_past keys (position_or_len (has_number number) keys) (nowhere (has_number number) keys is) in
    absurd (cc (none, read, can.1.found))

-- ---- and is used

-- a list, and the list with another element at one place
record IsSplitAt {X : Type 0} (at : ℕ) (xs : List X) (old new : X) : Type 0 where
  front : List X
  rest : List X
  was : xs ≡ front ++ old ∷ rest
  is : slice_set xs at new ≡ front ++ new ∷ rest

split_at : {X : Type 0} (at : ℕ) (xs : List X) (old new : X) → slice_get xs at ≡ Some old → IsSplitAt at xs old new
split_at at [] old new has = absurd (cc)
split_at {X} zero (x ∷ xs) old new has = record { front = []; rest = xs; was = ap (λ (y : X). y ∷ xs) (same_Some x old has); is = refl }
split_at {X} (suc at) (x ∷ xs) old new has =
    let tail = split_at at xs old new has in
    record { front = x ∷ tail.front; rest = tail.rest; was = ap (λ (ys : List X). x ∷ ys) tail.was; is = ap (λ (ys : List X). x ∷ ys) tail.is }

abbrev pub used_once : RegionKey → RegionKey
used_once key = record key { uses = key.uses + 1 }

used_at : (at : ℕ) (region : Region) (key : RegionKey) → AreKeysInOrder region → slice_get region.keys at ≡ Some key → slice_set region.keys at (used_once key) ≡ with_use key.number region.keys
used_at at region key up has =
    let split = split_at at region.keys key (used_once key) has in
    split.is
    ∙ sym (used_by_number split.front key split.rest (subst (λ (keys : List RegionKey). AreKeysInOrder (record region { keys = keys })) split.was up))
    ∙ ap (with_use key.number) (sym split.was)

-- ---- in a region that can be written

-- the key at a place, as it is read
here_is : (keys read : List RegionKey) (at : ℕ) (default key : RegionKey) → read ≡ keys → slice_get keys at ≡ Some key → slice_index_or read at default ≡ key
here_is keys read at default key same has =
    sym (unwrap_or-slice_get read at default) ∙ ap (λ (xs : List RegionKey). unwrap_or (slice_get xs at) default) same ∙ ap (λ (o : Option RegionKey). unwrap_or o default) has

-- the first key of a number, which can sign, is read at its place
pub record IsReadAt (number at : ℕ) (region : Region) (read : List RegionKey) : Type 0 where
  pub same : read ≡ region.keys
  pub searched : List RegionKey
  pub all : searched ≡ region.keys
  pub first : Some at ≡ position (has_number number) searched
  pub can : HasUnspentKey region number

there : {number at : ℕ} {region : Region} {read : List RegionKey} (is : IsReadAt number at region read) → slice_get region.keys at ≡ Some is.can.0
there {number} {at} {region} {read} is =
    let first : Some at ≡ position (has_number number) region.keys = subst (λ (keys : List RegionKey). Some at ≡ position (has_number number) keys) is.all is.first in
    ap (slice_get region.keys) (found_first (has_number number) region.keys at first) ∙ sym (find_at (has_number number) region.keys) ∙ is.can.1.found

pub key_has_use : {number at : ℕ} {region : Region} {read : List RegionKey} (default : RegionKey) → IsReadAt number at region read → HasUse region number (slice_index_or read at default)
key_has_use {number} {at} {region} {read} default is =
    subst (HasUse region number) (sym (here_is region.keys read at default is.can.0 is.same (there is))) is.can.1

-- so its uses can be counted
pub key_fits : {number at : ℕ} {region : Region} {read : List RegionKey} (default : RegionKey) → IsReadAt number at region read → Fits w32 ((slice_index_or read at default).uses + 1)
key_fits default is = let has = key_has_use default is in omega (arith, has.left)

pub key_used : {number at : ℕ} {region : Region} {read : List RegionKey} (default : RegionKey) → AreKeysInOrder region → IsReadAt number at region read
    → slice_set region.keys at (used_once (slice_index_or read at default)) ≡ with_use number region.keys
key_used {number} {at} {region} {read} default up is =
    ap (λ (key : RegionKey). slice_set region.keys at (used_once key)) (here_is region.keys read at default is.can.0 is.same (there is))
    ∙ used_at at region is.can.0 up (there is)
    ∙ ap (λ (n : ℕ). with_use n region.keys) (found_number number region.keys is.can.0 is.can.1.found)

few_keys : (region : Region) → CanBeWritten region → length region.keys ≤ 8
few_keys region can = (spelled_storable (written_region region) region (written_spells region can)).few_keys

-- the place of a key is one of eight
pub key_placed : {number at : ℕ} {read : List RegionKey} (region : Region) → CanBeWritten region → IsReadAt number at region read → at < 8
key_placed {number} {at} {read} region can is = omega (arith, few_keys region can, slice_get_within region.keys at is.can.0 (there is))

-- a region can be written with one more use of a key that has one left
pub given_written : (region : Region) (number : ℕ) (key : RegionKey) → AreKeysInOrder region → CanBeWritten region → HasUse region number key → CanBeWritten (region_with_use number region)
given_written region number key up can has = use_written (written_region region) region number key up (written_spells region can) has
