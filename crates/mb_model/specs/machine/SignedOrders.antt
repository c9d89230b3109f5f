-- What signing and countersigning leave of a key and of an order. Is one index used for one signature, and nothing else
-- changed?
use Rattle.std.specs.Prelude.{◌≢◌, ℕ, ◌+◌, ◌<◌, List, ◌∷◌, ◌++◌, filter, nat_lt, IsTrue, All}
use Rattle.mb_model.specs.declared.order.Countersignature.{Countersignature}
use Rattle.mb_model.specs.declared.order.Order.{Order}
use Rattle.mb_model.specs.declared.tools.Keyfile.{Keyfile}
use Rattle.mb_model.specs.owners.Rules.{is_load}
use Rattle.mb_model.specs.records.OrderFormat.{order_body}
use Rattle.mb_model.specs.machine.OrderChecks.{change_by}
use Rattle.mb_model.specs.machine.SignedTexts.{order_text, countersigned_text}
use Rattle.mb_model.specs.signatures.Signing.{signature_of}

-- the key with one more index used
abbrev pub keyfile_after_use : Keyfile → Keyfile
keyfile_after_use keyfile = record { seed = keyfile.seed; next = keyfile.next + 1 }

-- the order with the signature of its text by the key, at the key's next index
abbrev pub signed_order : Keyfile → Order → Order
signed_order keyfile order =
    record order { signature = signature_of keyfile.seed keyfile.next (order_text (order_body order)) }

-- ---- countersignatures

-- the countersignatures with one more, in ascending order of layers: those of lower layers stand before it
abbrev pub with_countersignature : Countersignature → List Countersignature → List Countersignature
with_countersignature new list =
    filter (λ other. nat_lt other.layer new.layer) list ++ new ∷ filter (λ other. nat_lt new.layer other.layer) list

-- the countersignature of the order for the layer `cosigner`, by the key, at the key's next index
abbrev pub countersignature_of : Keyfile → ℕ → Order → Countersignature
countersignature_of keyfile cosigner order =
    record {
      layer = cosigner;
      signature = signature_of keyfile.seed keyfile.next (countersigned_text cosigner (order_body order));
    }

-- the order with the key's countersignature for the layer `cosigner`
abbrev pub countersigned_order : Keyfile → ℕ → Order → Order
countersigned_order keyfile cosigner order = record order {
  countersignatures = with_countersignature (countersignature_of keyfile cosigner order) order.countersignatures;
}

-- The owner of this layer may countersign the order: it is a load of a lower layer, and has no countersignature for
-- this layer yet.
pub record IsCountersignable (order : Order) (layer : ℕ) : Type 0 where
  pub load : IsTrue (is_load (change_by order))
  pub above : order.layer < layer
  pub new : All (λ other. other.layer ≢ layer) order.countersignatures
