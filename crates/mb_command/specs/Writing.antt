-- The bounds on sizes that every order with a spelling keeps. Do its lengths and counts fit into their fields?
use Rattle.std.specs.Prelude.{◌≤◌, length}
use Rattle.std.specs.List.{All}
use Rattle.mb_model.specs.declared.limits.TheConstants.{CODE_LIMIT, SIGNATURE_LIMIT, TARGET_LIMIT}
use Rattle.mb_model.specs.declared.order.Act.{Act}
use Rattle.mb_model.specs.declared.order.Act.TheVariants.{Establish, Surrender, Load, Emergency, NewKey}
use Rattle.mb_model.specs.declared.order.Countersignature.{Countersignature}
use Rattle.mb_model.specs.declared.order.Order.{Order}

abbrev pub HasShortCode : Act → Type 0
HasShortCode (Establish owner trust) = Unit {0}
HasShortCode Surrender = Unit {0}
HasShortCode (Load payload) = length payload.code ≤ CODE_LIMIT
HasShortCode (Emergency payload) = length payload.code ≤ CODE_LIMIT
HasShortCode (NewKey kind) = Unit {0}

abbrev pub HasShortSignature : Countersignature → Type 0
HasShortSignature c = length c.signature ≤ SIGNATURE_LIMIT

pub record IsSizedOrder (order : Order) : Type 0 where
  pub targets : length order.targets ≤ TARGET_LIMIT
  pub code : HasShortCode order.act
  pub signature : length order.signature ≤ SIGNATURE_LIMIT
  pub count : length order.countersignatures ≤ 2
  pub signatures : All HasShortSignature order.countersignatures
