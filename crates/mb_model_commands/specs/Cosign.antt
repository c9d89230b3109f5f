-- What the command `cosign` does. Is what is countersigned what the officer has drafted?
use Rattle.std.specs.Prelude.{◌≡◌, ℕ, List, codes}
use Rattle.mb_model.specs.machine.SignedOrders.{countersigned_order, IsCountersignable}
use Rattle.mb_model.specs.records.OrderFormat.{order_body}
use Rattle.mb_model_commands.specs.Commands.{Command, read, either_command, refuse}
use Rattle.mb_model_commands.specs.Inputs.{key_input, draft_input, order_input}
use Rattle.mb_model_commands.specs.Sign.{sign_by}

-- the names of the files, and the layer whose owner countersigns
pub record CosignNames : Type 0 where
  pub key : List ℕ
  pub layer : ℕ
  pub order : List ℕ
  pub draft : List ℕ
  pub out : List ℕ

-- The key countersigns the order that is read, as `countersign` does, if the draft's order has the same body.
unfoldable pub cosign : CosignNames → Command
cosign names =
    read (key_input names.key) (λ key.
    read (order_input names.order) (λ order.
    read (draft_input names.draft) (λ drafted.
    either_command (IsCountersignable order names.layer → ⊥) (refuse (codes "not countersignable"))
    (either_command (order_body drafted ≡ order_body order)
    (sign_by names.key names.out key (countersigned_order key names.layer order))
    (refuse (codes "differs"))))))
