-- A log stays one that a device can have, when the device signs one more entry.
use Rattle.std.proofs.Common.{◌≡◌, ◌≢◌, ◌≤◌, ℕ, ◌+◌, List, [], ◌∷◌, ◌++◌, inl, inr, length, Option, None, Some, sym, ap, subst, ◌∙◌, arith}
use Rattle.std.specs.Prelude.{is_some, unwrap_or, if◌then◌else◌}
use Rattle.std.specs.Option.{option_or}
use Rattle.std.proofs.lemmas.List.{length-map, nil_from_length}
use Rattle.mb_model.specs.declared.key.KeySeed.{KeySeed}
use Rattle.mb_model.specs.declared.key.PublicKey.{PublicKey}
use Rattle.mb_model.specs.declared.entry.Entry.{Entry}
use Rattle.mb_model.specs.declared.entry.SignedEntry.{SignedEntry}
use Rattle.mb_model.specs.declared.state.State.{State}
use Rattle.mb_model.specs.signatures.Merkle.{Verifies}
use Rattle.mb_model.specs.owners.Log.{figures_of, entries_of, layers_in, device_in, serial_in, last_of, layers_of, device_of, serial_of, uses_of_device_key, StandsAt, Ruled}
use Rattle.mb_model.specs.signatures.Signing.{public_of, signature_of}
use Rattle.mb_model.specs.machine.SignedTexts.{entry_text, IsSignedBy}
use Rattle.mb_model.specs.machine.OrderEffects.{entry_signed_by, log_with}
use Rattle.mb_model.specs.memories.Valid.{Follows, EachFollows, AreNamed, IsValidState}
use Rattle.mb_model_lemmas.specs.RegionLaws.{HasValidRegions}
use Rattle.mb_model_lemmas.proofs.ValidStates.{valid_is_ruled, entries_of-push}
use Rattle.mb_model_lemmas.proofs.SignatureLemmas.{signature_verifies, signature_leaf_number}
use Rattle.mb_model_lemmas.proofs.LogLemmas.{split_push, layers_of-push, device_of-push, used-push, used-bound, serial_of-push}

pub EachFollows-push : (log : List SignedEntry) (signed : SignedEntry) → EachFollows log → Follows (figures_of (entries_of log)) signed → EachFollows (log ++ signed ∷ [])
EachFollows-push log signed each next =
    λ before s rest split. elim (split_push log before rest signed s split) [
      | inl end ↦ subst (λ (b : List SignedEntry). Follows (figures_of (entries_of b)) s) end.1 (subst (λ (x : SignedEntry). Follows (figures_of (entries_of log)) x) end.2 next)
      | inr found ↦ each before s found.0 found.2
    ]

-- a log with a device key is not empty
pub named_is_some : (log : List Entry) (key : PublicKey) → device_of log ≡ Some key → length log ≢ 0
unfolding device_of last_of
named_is_some log key e none =
    let no : None ≡ Some key = ap device_of (sym (nil_from_length log none)) ∙ e in
    absurd (grind (arith, no))

under : (key : Option PublicKey) (device : KeySeed) (text signature : List ℕ) → key ≡ Some (public_of device) → Verifies (public_of device) text signature → IsSignedBy key text signature
under key device text signature is verifies = subst (λ (k : Option PublicKey). IsSignedBy k text signature) (sym is) verifies

-- an entry that the rules allow, signed by the device key at its next index, follows
pub signed_follows : (log : List Entry) (device : KeySeed) (entry : Entry) → uses_of_device_key log ≤ 31 → device_of log ≡ Some (public_of device)
    → Ruled (figures_of log) entry → StandsAt (length log) entry → Follows (figures_of log) (entry_signed_by device (uses_of_device_key log) entry)
unfolding entry_signed_by
signed_follows log device entry few named ruled stands = record {
  ruled = ruled;
  in_order = λ some. record { position = stands; next = signature_leaf_number device (uses_of_device_key log) (entry_text entry) (omega (arith, few)) };
  verifies = λ some. under (device_of log) device (entry_text entry) (signature_of device (uses_of_device_key log) (entry_text entry)) named (signature_verifies device (uses_of_device_key log) (entry_text entry) (omega (arith, few)));
}

-- the entries of a log with one that the device has signed
pub entries_of-signed : (state : State) (entry : Entry) → entries_of (log_with state entry) ≡ entries_of state.log ++ entry ∷ []
unfolding entry_signed_by
entries_of-signed state entry = entries_of-push state.log (entry_signed_by state.device (uses_of_device_key (entries_of state.log)) entry)

-- A state is valid again, when its device has signed an entry that the rules allow, and layers, device key and regions are
-- what the entry makes of them.
pub valid_after : (state : State) (entry : Entry) (next : State)
    → IsValidState state → Ruled (figures_of (entries_of state.log)) entry → StandsAt (length state.log) entry → serial_in entry ≡ None
    → next.log ≡ log_with state entry → next.serial ≡ state.serial
    → next.layers ≡ unwrap_or (layers_in entry) state.layers
    → Some (public_of next.device) ≡ option_or (device_in entry) (Some (public_of state.device))
    → next.uses ≡ (if is_some (device_in entry) then 0 else uses_of_device_key (entries_of state.log) + 1)
    → AreNamed next.layers next.codes
    → HasValidRegions next
    → IsValidState next
valid_after state entry next valid ruled stands no_birth log_is serial_is layers_is device_is uses_is codes regions =
    let past : List Entry = entries_of state.log in
    let few : uses_of_device_key past ≤ 31 = used-bound past (valid_is_ruled state valid) in
    let place : StandsAt (length past) entry = subst (λ n. StandsAt n entry) (sym (length-map state.log (λ (s : SignedEntry). s.entry))) stands in
    let follows : EachFollows (log_with state entry) = EachFollows-push state.log _ valid.log (signed_follows past state.device entry few valid.device ruled place) in
    let whole : entries_of next.log ≡ past ++ entry ∷ [] = ap entries_of log_is ∙ entries_of-signed state entry in
    record {
      log = subst EachFollows (sym log_is) follows;
      layers = layers_is ∙ ap (unwrap_or (layers_in entry)) valid.layers ∙ sym (layers_of-push past entry) ∙ ap layers_of (sym whole);
      codes = codes;
      serial = ap serial_of whole ∙ serial_of-push past entry ∙ ap (λ o. option_or o (serial_of past)) no_birth ∙ valid.serial ∙ ap Some (sym serial_is);
      device = ap device_of whole ∙ device_of-push past entry ∙ ap (option_or (device_in entry)) valid.device ∙ sym device_is;
      uses = uses_is ∙ sym (used-push past entry) ∙ ap uses_of_device_key (sym whole);
      two = regions.two;
      three = regions.three;
    }
