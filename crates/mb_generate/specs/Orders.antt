-- How the orders of a workload are signed, one after another. Is each signed by the right officer, at the next index of
-- the officer's key?
use Rattle.std.specs.Prelude.{◌≡◌, ℕ, ◌+◌, ◌≤◌, ◌==◌, if◌then◌else◌, List, [], ◌∷◌, ◌++◌, length, All, Result, IfOk}
use Rattle.mb_model.specs.declared.limits.TheConstants.{CODE_LIMIT}
use Rattle.mb_model.specs.declared.order.Act.{Act}
use Rattle.mb_model.specs.declared.order.Target.TheVariants as target
use Rattle.mb_model.specs.declared.order.Order.{Order}
use Rattle.mb_model.specs.declared.tools.Keyfile.{Keyfile}
use Rattle.mb_model.specs.owners.Rules.{kind_of, MayBeFor}
use Rattle.mb_model.specs.records.OrderFormat.{differs_in, act_by}
use Rattle.mb_model_commands.specs.Workload.{RoundDraws, Draws, Plan, key_of_officer, signatures_by, signed_plan}
use Rattle.mb_generate.specs.declared.officers.Officers.{Officers}

-- ---- officers

-- the key of officer n after the officer's signatures on these orders
abbrev pub keyfile_after : Draws → List Plan → ℕ → Keyfile
keyfile_after draws before n = record { seed = key_of_officer draws n; next = signatures_by n before }

-- the three officers, after these orders
pub record AreOfficers (draws : Draws) (before : List Plan) (officers : Officers) : Type 0 where
  pub one : officers.one ≡ keyfile_after draws before 1
  pub two : officers.two ≡ keyfile_after draws before 2
  pub three : officers.three ≡ keyfile_after draws before 3

-- no officer has used more indices than this
pub record HaveUsed (most : ℕ) (officers : Officers) : Type 0 where
  pub one : officers.one.next ≤ most
  pub two : officers.two.next ≤ most
  pub three : officers.three.next ≤ most

-- ---- orders

-- an order that nobody has signed, whose one target is the length of the log
abbrev pub targeted : ℕ → ℕ → Act → Order
targeted layer count what = record {
  layer = layer;
  targets = target.Length count ∷ [];
  act = what;
  signature = [];
  countersignatures = [];
}

-- this act may be ordered for this layer, and has a spelling
pub record CanBeOrdered (layer : ℕ) (what : Act) : Type 0 where
  pub layered : MayBeFor (kind_of what) layer
  pub spelled : (act_by (kind_of what) (differs_in what)).Allowed what

-- the layers above this one, 1, 2 or 3
abbrev pub layers_above : ℕ → List ℕ
layers_above layer = if layer == 1 then 2 ∷ 3 ∷ [] else if layer == 2 then 3 ∷ [] else []

-- The order is the planned one, for a log of `count` entries, and the officers' keys are as after signing it.
abbrev pub SignsPlan : {E : Type 0} → ℕ → Plan → Officers → Result Order E → Officers → Type 0
SignsPlan count planned old result new =
    IfOk result
    (λ order. (draws : Draws) (before : List Plan) → AreOfficers draws before old → count ≡ length before + 1
    → (order ≡ signed_plan draws before planned) × AreOfficers draws (before ++ planned ∷ []) new)

-- the code of a round is not too long for an order, and its secrets are no more than four
pub record RoundFits (round : RoundDraws) : Type 0 where
  pub code : length round.code ≤ CODE_LIMIT
  pub values : length round.values ≤ 4

-- no code of a workload is too long for an order, and no round has more than four secrets
pub record DrawsFit (draws : Draws) : Type 0 where
  pub one : length draws.code_one ≤ CODE_LIMIT
  pub two : length draws.code_two ≤ CODE_LIMIT
  pub three : length draws.code_three ≤ CODE_LIMIT
  pub rounds : All RoundFits draws.rounds
