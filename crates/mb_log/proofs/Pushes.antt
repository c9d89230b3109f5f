-- What a list of entries says together, after one more.
use Rattle.std.proofs.Common.{◌≡◌, ℕ, ◌+◌, ◌-◌, ◌^◌, ◌<◌, ◌≤◌, List, [], ◌∷◌, ◌++◌, Bool, true, false, length, min, refl, arith, length-append}
use Rattle.std.specs.Prelude.{◌||◌, Option, None, is_some, is_none, unwrap_or, reverse, if◌then◌else◌}
use Rattle.std.specs.List.{prefix_len}
use Rattle.std.specs.Option.{option_or}
use Rattle.std.proofs.lemmas.List.{length-reverse, length-take}
use Rattle.mb_model.specs.declared.key.PublicKey.{PublicKey}
use Rattle.mb_model.specs.declared.layer.Layers.{Layers}
use Rattle.mb_model.specs.declared.entry.Entry.{Entry}
use Rattle.mb_model.specs.owners.Layers.{unowned_layers}
use Rattle.mb_model.specs.owners.Log.{figures_of, is_change, is_version_two, layers_in, device_in, keys_in, last_of, number_of, layers_of, device_of, uses_of_device_key, keys_made_by, has_version_two}
use Rattle.mb_model_lemmas.proofs.LogLemmas.{number_of-push, layers_of-push, device_of-push, used-push, made-push, has_version_two-push, number_of-le-length, made-le-length}
use Rattle.mb_model.specs.declared.state.Figures.{Figures}

-- the figures with those of one more entry
abbrev pub with_entry : Figures → Entry → Figures
with_entry figures entry = record {
  length = min (figures.length + 1) (2 ^ 32 - 1);
  number = min (figures.number + (if is_change entry then 1 else 0)) (2 ^ 32 - 1);
  layers = unwrap_or (layers_in entry) figures.layers;
  device = option_or (device_in entry) figures.device;
  uses = if is_some (device_in entry) then 0 else min (figures.uses + 1) (2 ^ 32 - 1);
  keys_made = min (figures.keys_made + keys_in entry) (2 ^ 32 - 1);
  version_two = figures.version_two || is_version_two entry;
}

-- the figures of no entries
pub figures_nil : figures_of [] ≡ record { length = 0; number = 0; layers = unowned_layers; device = None; uses = 0; keys_made = 0; version_two = false }
unfolding number_of layers_of device_of last_of uses_of_device_key keys_made_by has_version_two
figures_nil = refl

-- no more entries stand after the last key than there are
used-le-length : (log : List Entry) → uses_of_device_key log ≤ length log
unfolding uses_of_device_key
used-le-length log =
    omega (arith, length-reverse log, length-take (prefix_len (λ e. is_none (device_in e)) (reverse log)) (reverse log))

-- below the end of the type a count does not stand still
still : (n m : ℕ) → n ≡ m → n ≤ 2 ^ 32 - 1 → n ≡ min m (2 ^ 32 - 1)
still n m e le = omega arith

used_still : (b : Bool) (n m : ℕ) → n < 2 ^ 32 - 1 → m ≡ (if b then 0 else n + 1) → m ≡ (if b then 0 else min (n + 1) (2 ^ 32 - 1))
used_still true n m few e = e
used_still false n m few e = omega arith

same_figures : (a b e f a' b' e' f' : ℕ) (c c' : Layers) (d d' : Option PublicKey) (g g' : Bool) → a ≡ a' → b ≡ b' → c ≡ c' → d ≡ d' → e ≡ e' → f ≡ f' → g ≡ g'
    → ◌≡◌ {A = Figures} (record { length = a; number = b; layers = c; device = d; uses = e; keys_made = f; version_two = g })
    (record { length = a'; number = b'; layers = c'; device = d'; uses = e'; keys_made = f'; version_two = g' })
same_figures a b e f a' b' e' f' c c' d d' g g' ea eb ec ed ee ef eg = cc

pub figures_more : (before : List Entry) (entry : Entry) → length before < 2 ^ 32 - 1 → figures_of (before ++ entry ∷ []) ≡ with_entry (figures_of before) entry
figures_more before entry few =
    let log : List Entry = before ++ entry ∷ [] in
    let longer : length log ≡ length before + 1 = length-append before (entry ∷ []) in
    let length_is : length log ≡ min (length before + 1) (2 ^ 32 - 1) = still (length log) (length before + 1) longer (omega arith) in
    let number_is : number_of log ≡ min (number_of before + (if is_change entry then 1 else 0)) (2 ^ 32 - 1) =
    still (number_of log) _ (number_of-push before entry) (omega (arith, number_of-le-length log))
    in
    let uses_is : uses_of_device_key log ≡ (if is_some (device_in entry) then 0 else min (uses_of_device_key before + 1) (2 ^ 32 - 1)) =
    used_still (is_some (device_in entry)) (uses_of_device_key before) (uses_of_device_key log) (omega (arith, used-le-length before)) (used-push before entry)
    in
    let made_is : keys_made_by log ≡ min (keys_made_by before + keys_in entry) (2 ^ 32 - 1) = still (keys_made_by log) _ (made-push before entry) (omega (arith, made-le-length log)) in
    same_figures _ _ _ _ _ _ _ _ _ _ _ _ _ _ length_is number_is (layers_of-push before entry) (device_of-push before entry) uses_is made_is (has_version_two-push before entry)
