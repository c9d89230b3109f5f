-- The chain of a state that can be stored has a spelling, and so have a statement and that chain with it.
use Rattle.std.proofs.Common.{◌≡◌, ◌≤◌, ℕ, List, [], ◌∷◌, length, Some, refl, arith}
use Rattle.std.proofs.lemmas.List.Elements.{recursion_from_All}
use Rattle.mb_format.proofs.Compositions.{all_items}
use Rattle.mb_model.specs.declared.entry.SignedEntry.{SignedEntry}
use Rattle.mb_model.specs.declared.region.RegionKey.{RegionKey}
use Rattle.mb_model.specs.declared.state.State.{State}
use Rattle.mb_model.specs.chains.Attach.{bare_chain}
use Rattle.mb_model.specs.records.ChainFormat.{statement_format, chain_format}
use Rattle.mb_model.specs.records.EntryFormat.{signed_entry_format}
use Rattle.mb_model.specs.machine.LayerEvents.{statement_of}
use Rattle.mb_model.specs.owners.Log.{entries_of, last_of, number_of, serial_of}
use Rattle.mb_model.specs.machine.SignedTexts.{statement_text}
use Rattle.mb_model.specs.memories.Valid.{IsValidState}
use Rattle.mb_model_lemmas.proofs.AttachLemmas.{statement_allowed}
use Rattle.mb_model_lemmas.proofs.SignatureLemmas.{length-signature_of}
use Rattle.mb_model_memory.specs.Storable.{IsStorableState}
use Rattle.mb_model_memory.proofs.StorableOrders.{number_small}

-- a log that names a serial has an entry
serial_counts : (log : List SignedEntry) (serial : List ℕ) → serial_of (entries_of log) ≡ Some serial → 1 ≤ length log
unfolding serial_of last_of
serial_counts [] serial is = absurd (cc)
serial_counts (signed ∷ rest) serial is = omega arith

pub bare_allowed : (state : State) → IsValidState state → IsStorableState state → chain_format.Allowed (bare_chain state.log)
unfolding chain_format
bare_allowed state valid stored =
    let entries = all_items signed_entry_format (length state.log) state.log refl (recursion_from_All signed_entry_format.Allowed state.log stored.log) in
    (tt, (((serial_counts state.log state.serial valid.serial, stored.few), entries), (tt, refl)))

pub statement_of-allowed : (state : State) (key : RegionKey) (message : List ℕ) → IsStorableState state → length message ≤ 128
    → statement_format.Allowed (statement_of state key message)
unfolding statement_of
statement_of-allowed state key message stored short =
    let number = number_of (entries_of state.log) in
    let text = statement_text state.serial key.number number message in
    statement_allowed number message _ (number_small state stored) short (length-signature_of key.seed key.uses text)
