-- Laws of an officer's key file. Does a key sign two texts at one index, whatever becomes of a call that signs with it?
use Rattle.std.specs.Prelude.{◌≡◌, ◌≢◌, ◌<◌, ◌⊎◌, ◌==◌, if◌then◌else◌, ℕ, List, [], ◌∷◌, ◌++◌, AllPairs, Option, Some}
use Rattle.mb_format.specs.Format.{IsBytes, Spells}
use Rattle.mb_model.specs.declared.order.Order.{Order}
use Rattle.mb_model.specs.declared.tools.Keyfile.{Keyfile}
use Rattle.mb_model.specs.records.KeyFormat.{keyfile_format}
use Rattle.mb_model.specs.records.OrderFormat.{order_body}
use Rattle.mb_model.specs.signatures.Signing.{signature_of}
use Rattle.mb_model.specs.chains.Lines.{ReadsLines}
use Rattle.mb_model.specs.chains.Drafts.{IsDraft}
use Rattle.mb_model.specs.chains.OrderLines.{order_line}
use Rattle.mb_model.specs.machine.SignedTexts.{countersigned_text}
use Rattle.mb_model.specs.machine.SignedOrders.{keyfile_after_use, signed_order, countersigned_order}
use Rattle.mb_model.specs.machine.SignedOrders.{with_countersignature}
use Rattle.mb_model.specs.outside.Texts.{line_with_lf}
use Rattle.mb_model_commands.specs.Commands.{Ended, CommandEnds, at_first}
use Rattle.mb_model_commands.specs.Sign.{SignNames, CountersignNames, sign, countersign}
use Rattle.mb_model_commands.specs.Cosign.{CosignNames, cosign}

-- the files of a host by name, where it shows them
abbrev pub Files : Type 0
Files = List ℕ → Option (List ℕ)

-- What a call leaves of the files, if it signs with this key. `Made` says which orders it may write to OUT.
pub data LeavesKey
    (key_name out_name : List ℕ)
    (key : Keyfile)
    (Made : Order → Type 0)
    (before after : Files)
    (status : ℕ) : Type 0 where
  -- no file was written
  nothing_is_written : ((name : List ℕ) → after name ≡ before name)
      → LeavesKey key_name out_name key Made before after status
  -- KEY could not be written, and may hold anything: no signature has left the program
  key_is_not_written : ((name : List ℕ) → name ≢ key_name → after name ≡ before name) → status ≡ 5
      → LeavesKey key_name out_name key Made before after status
  -- KEY has one more index used, and only then was OUT written: it holds an order that was signed at that index, or may
  -- hold anything
  index_is_used : key.next ≢ 32 → (now : List ℕ) → after key_name ≡ Some now
      → Spells keyfile_format now (keyfile_after_use key)
      → ((name : List ℕ) → name ≢ key_name → name ≢ out_name → after name ≡ before name)
      → ((order : Order) × Made order × (after out_name ≡ Some (line_with_lf (order_line order)))) ⊎ (status ≡ 5)
      → LeavesKey key_name out_name key Made before after status

-- A call of `sign` leaves KEY as it was and signs nothing, or uses up one index of it before the signature is written,
-- or KEY could not be written.
abbrev pub SigningUsesUpItsIndex : Type 0
SigningUsesUpItsIndex =
    (names : SignNames) (ending : Ended) (before after : Files) (bytes : List ℕ) (key : Keyfile)
    → CommandEnds (sign names) at_first ending → ending.before.files ≡ Some before → ending.after.files ≡ Some after
    → before names.key ≡ Some bytes → Spells keyfile_format bytes key → names.out ≢ names.key
    → LeavesKey
    names.key
    names.out
    key
    (λ made. (order : Order) × (made ≡ signed_order key order))
    before
    after
    ending.status

-- A call of `countersign` leaves KEY as it was and signs nothing, or uses up one index of it before the signature is
-- written, or KEY could not be written.
abbrev pub CountersigningUsesUpItsIndex : Type 0
CountersigningUsesUpItsIndex =
    (names : CountersignNames) (ending : Ended) (before after : Files) (bytes : List ℕ) (key : Keyfile)
    → CommandEnds (countersign names) at_first ending → ending.before.files ≡ Some before
    → ending.after.files ≡ Some after → before names.key ≡ Some bytes → Spells keyfile_format bytes key
    → names.out ≢ names.key
    → LeavesKey
    names.key
    names.out
    key
    (λ made. (order : Order) × (made ≡ countersigned_order key names.layer order))
    before
    after
    ending.status

-- What `cosign` makes of some order whose body is that of the draft: the order with the key's countersignature for the
-- layer, which is the signature of the draft's body at the key's next index.
pub record IsCosigned (key : Keyfile) (layer : ℕ) (drafted made : Order) : Type 0 where
  pub order : Order
  pub same : order_body drafted ≡ order_body order
  pub signed : made ≡ record order {
    countersignatures = with_countersignature (record {
      layer = layer;
      signature = signature_of key.seed key.next (countersigned_text layer (order_body drafted));
    }) order.countersignatures;
  }

-- A call of `cosign` leaves KEY as it was and signs nothing, or uses up one index of it before the signature of DRAFT's
-- body is written, or KEY could not be written.
abbrev pub CosigningSignsTheDraft : Type 0
CosigningSignsTheDraft =
    (names : CosignNames) (ending : Ended) (before after : Files) (bytes text : List ℕ) (key : Keyfile)
    (drafted : Order)
    → CommandEnds (cosign names) at_first ending → ending.before.files ≡ Some before
    → ending.after.files ≡ Some after → before names.key ≡ Some bytes → Spells keyfile_format bytes key
    → before names.draft ≡ Some text → ReadsLines IsDraft text drafted → names.out ≢ names.key
    → LeavesKey names.key names.out key (IsCosigned key names.layer drafted) before after ending.status

-- ---- calls one after another

-- a call of one of the commands that sign orders with an officer's key
pub data KeyCommand : Type 0 where
  by_sign : SignNames → KeyCommand
  by_countersign : CountersignNames → KeyCommand
  by_cosign : CosignNames → KeyCommand

-- the names of KEY and OUT
abbrev pub key_name_of : KeyCommand → List ℕ
key_name_of (by_sign names) = names.key
key_name_of (by_countersign names) = names.key
key_name_of (by_cosign names) = names.key

abbrev pub out_name_of : KeyCommand → List ℕ
out_name_of (by_sign names) = names.out
out_name_of (by_countersign names) = names.out
out_name_of (by_cosign names) = names.out

-- the command ends so
abbrev pub EndsSo : KeyCommand → Ended → Type 0
EndsSo (by_sign names) ending = CommandEnds (sign names) at_first ending
EndsSo (by_countersign names) ending = CommandEnds (countersign names) at_first ending
EndsSo (by_cosign names) ending = CommandEnds (cosign names) at_first ending

-- A call that finds one key in the file KEY and leaves another there, over a host that shows its files. If a write
-- failed, KEY holds the key that it held, or the one with an index more used.
pub record KeyCall (key_name : List ℕ) (found left : Keyfile) : Type 0 where
  pub command : KeyCommand
  pub ending : Ended
  pub before : Files
  pub after : Files
  pub bytes : List ℕ
  pub left_bytes : List ℕ
  pub ends : EndsSo command ending
  pub shows_before : ending.before.files ≡ Some before
  pub shows_after : ending.after.files ≡ Some after
  pub is_key : key_name_of command ≡ key_name
  pub is_not_out : out_name_of command ≢ key_name
  pub holds : before key_name ≡ Some bytes
  pub spelled : Spells keyfile_format bytes found
  pub then_holds : after key_name ≡ Some left_bytes
  pub are_bytes : IsBytes left_bytes
  pub then_spelled : Spells keyfile_format left_bytes left
  pub whole : ending.status ≡ 5 → (left ≡ found) ⊎ (left ≡ keyfile_after_use found)

-- A call that leaves the key that it found has written nothing but to KEY, so that no signature has left the program.
abbrev pub NothingIsSignedWithoutAnIndex : Type 0
NothingIsSignedWithoutAnIndex =
    (key_name : List ℕ) (found left : Keyfile) (call : KeyCall key_name found left) → left ≡ found
    → (name : List ℕ) → name ≢ key_name → call.after name ≡ call.before name

-- Calls come one after another, and leave these keys in turn: each finds the key that the one before left.
abbrev pub CallsInTurn : List ℕ → Keyfile → List Keyfile → Type 0
CallsInTurn key_name first [] = Unit {0}
CallsInTurn key_name first (left ∷ more) = KeyCall key_name first left × CallsInTurn key_name left more

-- the index that a call used up, unless it left the key that it found
abbrev pub index_used : Keyfile → Keyfile → List ℕ
index_used found left = if left.next == found.next then [] else found.next ∷ []

-- the indices that calls have used up which left these keys in turn
abbrev pub indices_used : Keyfile → List Keyfile → List ℕ
indices_used first [] = []
indices_used first (left ∷ more) = index_used first left ++ indices_used left more

-- The indices that calls one after another use up ascend, so that no two calls sign at one index.
abbrev pub IndicesInTurnDiffer : Type 0
IndicesInTurnDiffer =
    (key_name : List ℕ) (first : Keyfile) (left : List Keyfile) → CallsInTurn key_name first left
    → AllPairs (λ sooner later. sooner < later) (indices_used first left)

-- Where an old copy of KEY is put back, two calls use up one index: that each finds the key that the one before left
-- cannot be left out.
abbrev pub OldKeysSignAgain : Type 0
OldKeysSignAgain =
    (key : Keyfile)
    → (indices_used key (keyfile_after_use key ∷ []) ++ indices_used key (keyfile_after_use key ∷ [])
    ≡ key.next ∷ key.next ∷ [])
    × (AllPairs (λ sooner later. sooner < later) (key.next ∷ key.next ∷ []) → ⊥)
