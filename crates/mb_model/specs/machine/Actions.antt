-- What code asks for by its output: changes of its region, and an answer. Can a run that has not ended well ask for
-- anything?
use Rattle.std.specs.Prelude.{ℕ, List, [], ◌∷◌, Bool, true, false, Option, None, Some, take}
use Rattle.std.specs.Int.{w8}
use Rattle.mb_format.specs.Format.{Format}
use Rattle.mb_format.specs.Combinators.{number, between, flag, pair, led, as_value, as_record, sized, sized_that}
use Rattle.mb_format.specs.Combinators.{counted, same_bytes}
use Rattle.mb_model.specs.declared.limits.TheConstants.{NAME_LIMIT, VALUE_LIMIT, MESSAGE_LIMIT}
use Rattle.mb_model.specs.records.RegionFormat.{is_name}

-- what code asks to be done to its region: a value is kept under a name, or a name is dropped
pub data Demand : Type 0 where
  to_keep : List ℕ → List ℕ → Demand
  to_drop : List ℕ → Demand

-- all that code asks for: what is done to its region, in order, and what is answered
pub record Action : Type 0 where
  pub demands : List Demand
  pub answer : List ℕ

-- ---- as bytes

unfoldable pub name_format : Format (List ℕ)
name_format = sized_that is_name (between w8 1 NAME_LIMIT)

unfoldable pub value_format : Format (List ℕ)
value_format = sized (between w8 0 VALUE_LIMIT)

-- the name of a drop; a name and a value of what is kept
abbrev pub dropped_in : Demand → Option (List ℕ)
dropped_in (to_drop name) = Some name
dropped_in (to_keep name value) = None

abbrev pub kept_in : Demand → Option (List ℕ × List ℕ)
kept_in (to_drop name) = None
kept_in (to_keep name value) = Some (name, value)

abbrev pub is_to_keep : Demand → Bool
is_to_keep (to_drop name) = false
is_to_keep (to_keep name value) = true

abbrev pub demand_by : Bool → Format Demand
demand_by false = as_value name_format to_drop dropped_in
demand_by true = as_value (pair name_format value_format) (λ (name, value). to_keep name value) kept_in

-- a demand: 0 and a name, or 1, a name and a value, each after its length
unfoldable pub demand_format : Format Demand
demand_format = led flag is_to_keep demand_by

-- an action: the demands after their number, and the answer after its length
unfoldable pub action_format : Format Action
action_format = as_record (pair (counted (number w8) demand_format) (sized (between w8 0 MESSAGE_LIMIT)))
    (λ (demands, answer). record { demands = demands; answer = answer })
    (λ action. (action.demands, action.answer))

-- ---- code that takes calls

-- The bytes with which code begins that takes calls: `push 1296193585`, which spells MBX1, and `pop`. Where such code
-- runs otherwise, they do nothing.
abbrev pub call_word : List ℕ
call_word = 0x01 ∷ 0x4D ∷ 0x42 ∷ 0x58 ∷ 0x31 ∷ 0x02 ∷ []

abbrev pub begins_with_call_word : List ℕ → Bool
begins_with_call_word code = same_bytes (take 6 code) call_word
