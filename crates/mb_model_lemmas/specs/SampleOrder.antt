-- An order and its line, for examples.
use Rattle.std.specs.Prelude.{ℕ, List, [], ◌∷◌, codes}
use Rattle.mb_model.specs.declared.order.Act.TheVariants as act
use Rattle.mb_model.specs.declared.order.Order.{Order}
use Rattle.mb_model.specs.declared.order.Target.TheVariants as target

-- surrender layer 2 of a device whose log has seven entries
abbrev pub surrender : Order
surrender =
    record { layer = 2; targets = target.Length 7 ∷ []; act = act.Surrender; signature = []; countersignatures = [] }

-- the order that is the draft of a surrender, with a signature of no bytes
abbrev pub surrender_line : List ℕ
surrender_line = codes "command 0202010200000007000000"
