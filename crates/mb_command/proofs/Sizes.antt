-- An order that has a spelling keeps the bounds on sizes.
use Rattle.std.proofs.Common.{ℕ, zero, suc, ◌<◌, List, [], ◌∷◌, length, get_or, ap, arith}
use Rattle.mb_format.specs.Combinators.{items}
use Rattle.mb_model.specs.declared.order.Act.{Act}
use Rattle.mb_model.specs.declared.order.Act.TheVariants.{Establish, Surrender, Load, Emergency, NewKey}
use Rattle.mb_model.specs.declared.order.Countersignature.{Countersignature}
use Rattle.mb_model.specs.declared.order.Order.{Order}
use Rattle.mb_model.specs.records.OrderFormat.{differs_in, payload_format, act_by, body_of, body_format, sized_signature_format, Climb, countersignature_format, climb_after, countersignatures_format, order_format}
use Rattle.mb_model.specs.owners.Rules.{kind_of}
use Rattle.mb_model.proofs.FormatBounds.{most_two}
use Rattle.mb_command.specs.Writing.{HasShortCode, HasShortSignature, IsSizedOrder}

pub short_code : (act : Act) → (act_by (kind_of act) (differs_in act)).Allowed act → HasShortCode act
unfolding payload_format
short_code (Establish owner trust) h = tt
short_code Surrender h = tt
short_code (Load payload) h = h.1.1.0.1
short_code (Emergency payload) h = h.1.1.0.1
short_code (NewKey kind) h = tt

short_signature : (n : ℕ) (climb : Climb) (cs : List Countersignature) → (items countersignature_format climb_after n climb).Allowed cs → (k : ℕ) (d : Countersignature) → k < length cs → HasShortSignature (get_or cs k d)
unfolding items sized_signature_format
short_signature zero climb cs h k d lt = absurd (omega (arith, ap length h, lt))
short_signature (suc n) climb [] h k d lt = absurd h
short_signature (suc n) climb (c ∷ cs) h zero d lt = h.0.1.0.1
short_signature (suc n) climb (c ∷ cs) h (suc k) d lt = short_signature n (climb_after climb c) cs h.1 k d (omega arith)

pub sized_of : (order : Order) → order_format.Allowed order → IsSizedOrder order
unfolding order_format body_format sized_signature_format countersignatures_format
sized_of order h =
    let two = most_two (body_of order) h.0 in
    record {
      targets = h.0.1.1.0.0.1;
      code = short_code order.act h.0.1.1.1;
      signature = h.1.0.0.1;
      count = omega (arith, two, h.1.1.0.1);
      signatures = λ k d lt. short_signature (length order.countersignatures) (record { below = order.layer; left = length order.countersignatures }) order.countersignatures h.1.1.1 k d lt;
    }
