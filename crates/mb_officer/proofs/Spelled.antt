-- The order of a draft has a spelling.
use Rattle.std.proofs.Common.{◌≡◌, ℕ, ◌≤◌, List, [], ◌∷◌, length, refl, sym, ap, subst, arith}
use Rattle.std.specs.Prelude.{IsTrue}
use Rattle.std.specs.List.{AllZip}
use Rattle.mb_format.specs.Combinators.{items, times}
use Rattle.mb_model.specs.declared.order.Act.{Act}
use Rattle.mb_model.specs.declared.order.Act.TheVariants as act
use Rattle.mb_model.specs.declared.order.Target.{Target}
use Rattle.mb_model.specs.declared.order.Target.TheVariants as target
use Rattle.mb_model.specs.declared.order.Countersignature.{Countersignature}
use Rattle.mb_model.specs.declared.order.Order.{Order}
use Rattle.mb_model.specs.owners.Layers.{is_layer_number}
use Rattle.mb_model.specs.chains.Drafts.{SaysTarget, SayAct, IsDraft}
use Rattle.mb_model.specs.owners.Rules.{kind_of}
use Rattle.mb_model.specs.chains.Lines.{ReadsLines}
use Rattle.mb_model.specs.records.KeyFormat.{public_key_format}
use Rattle.mb_model.proofs.OrderFormatLaws.{form_listed, given_allowed}
use Rattle.mb_model.specs.records.LayerFormat.{trust_format}
use Rattle.mb_model.specs.records.EntryFormat.{key_kind_format}
use Rattle.mb_model.specs.records.OrderFormat.{target_format, differs_in, payload_format, act_by, Body, body_of, body_format, sized_signature_format, countersignatures_format, order_format}

numbered_within : (n : ℕ) → IsTrue (is_layer_number n) → (1 ≤ n) × (n ≤ 3)
numbered_within n is = (grind (arith, is), grind (arith, is))

target_allowed : (line : List ℕ) (t : Target) → SaysTarget line t → target_format.Allowed t
unfolding target_format
target_allowed line (target.Serial serial) says = (tt, says.0)
target_allowed line (target.Length n) says = (tt, omega (arith, says.0))
target_allowed line (target.Owner layer hash) says = (tt, (numbered_within layer says.0, says.1))
target_allowed line (target.Code layer hash) says = (tt, (numbered_within layer says.0, says.1))

targets_allowed : (lines : List (List ℕ)) (targets : List Target) → AllZip SaysTarget lines targets → (times (length targets) target_format).Allowed targets
unfolding items
targets_allowed [] [] zip = refl
targets_allowed [] (t ∷ targets) zip = absurd zip
targets_allowed (line ∷ lines) [] zip = absurd zip
targets_allowed (line ∷ lines) (t ∷ targets) zip = (target_allowed line t zip.0, targets_allowed lines targets zip.1)

act_allowed : (lines : List (List ℕ)) (a : Act) → SayAct lines a → (act_by (kind_of a) (differs_in a)).Allowed a
unfolding payload_format trust_format public_key_format key_kind_format
act_allowed lines (act.Establish owner trust) says = ((tt, (tt, (says.sized.identifier, says.sized.root))), given_allowed trust)
act_allowed lines act.Surrender says = refl
act_allowed lines (act.Load payload) says = (omega (arith, says.version_fits), (given_allowed payload.trust, ((omega arith, says.code_fits), refl)))
act_allowed lines (act.Emergency payload) says = (omega (arith, says.version_fits), (given_allowed payload.trust, ((omega arith, says.code_fits), refl)))
act_allowed lines (act.NewKey kind) says = tt

no_signature : (signature : List ℕ) → signature ≡ [] → sized_signature_format.Allowed signature
unfolding sized_signature_format
no_signature signature none = ((omega arith, omega (arith, ap length none)), refl)

no_countersignatures : (body : Body) (list : List Countersignature) → list ≡ [] → (countersignatures_format body).Allowed list
unfolding countersignatures_format items
no_countersignatures body list none =
    subst (λ (x : List Countersignature). (countersignatures_format body).Allowed x) (sym none) ((omega arith, omega arith), refl)

IsDraft-spelled : (lines : List (List ℕ)) (order : Order) → IsDraft lines order → order_format.Allowed order
unfolding order_format body_format
IsDraft-spelled lines order is = (
  (
    form_listed order.act,
    (
      is.named,
      (((omega arith, is.few), targets_allowed is.target_lines order.targets is.targeted), act_allowed is.act_lines order.act is.says_act),
    ),
  ),
  (no_signature order.signature is.unsigned, no_countersignatures (body_of order) order.countersignatures is.alone),
)

-- an order that is read from a draft has a spelling
pub drafts_are_spelled : (text : List ℕ) (order : Order) → ReadsLines IsDraft text order → order_format.Allowed order
drafts_are_spelled text order reads = IsDraft-spelled reads.lines order reads.stands
