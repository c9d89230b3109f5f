-- How a script grows, round by round. Is each line written once, and in its place?
use Rattle.std.specs.Prelude.{◌≡◌, ℕ, ◌+◌, ◌-◌, List, [], ◌∷◌, ◌++◌, length, map, take, drop, codes, zip, flat_map}
use Rattle.mb_model.specs.chains.Lines.{text_of, spaced_words, hex_word}
use Rattle.mb_model.specs.chains.OrderLines.{order_line}
use Rattle.mb_model.specs.chains.Script.{with_before}
use Rattle.mb_model_commands.specs.Workload.{RoundDraws, Draws, Plan, first_plans, round_plan, signed_plan}
use Rattle.mb_model_commands.specs.Workload.{signed_orders, put_line, round_lines}
use Rattle.mb_generate.specs.declared.officers.Officers.{Officers}
use Rattle.mb_generate.specs.Orders.{AreOfficers}

-- the text of the puts of a round's secrets, after n others
abbrev pub puts_text : ℕ → List (List ℕ) → List ℕ
puts_text n values = text_of (map (λ at. put_line (n + length at.0) at.1) (with_before values))

-- the text of the orders before the rounds
abbrev pub first_orders_text : Draws → List ℕ
first_orders_text draws =
    text_of (map order_line (map (λ at. signed_plan draws at.0 at.1) (with_before (first_plans draws))))

-- the draws with these rounds
abbrev pub with_rounds : Draws → List RoundDraws → Draws
with_rounds draws rounds = record draws { rounds = rounds }

-- the lines of a script without its last
unfoldable pub lines_before_end : Draws → List (List ℕ)
lines_before_end draws =
    codes "boot" ∷ map order_line (take 5 (signed_orders draws))
    ++ flat_map (λ at. round_lines (length at.0) at.1.0 at.1.1)
    (with_before (zip (drop 5 (signed_orders draws)) draws.rounds))

-- ---- a round

-- The lines of a round are appended, as the officers with these keys sign its order.
abbrev pub AppendsRound : ℕ → RoundDraws → Officers → List ℕ → List ℕ → Type 0
AppendsRound number round officers old new =
    (draws : Draws) (before : List Plan) → AreOfficers draws before officers → 5 + number ≡ length before + 1
    → new ≡ old ++ text_of (round_lines (number - 1) (signed_plan draws before (round_plan number round.code)) round)

-- the officers' keys are as after the order of this round
abbrev pub SignsRound : ℕ → RoundDraws → Officers → Officers → Type 0
SignsRound number round old new =
    (draws : Draws) (before : List Plan) → AreOfficers draws before old → 5 + number ≡ length before + 1
    → AreOfficers draws (before ++ round_plan number round.code ∷ []) new

-- the line that has key 1 of layer 3 sign a message
abbrev pub sign_line : List ℕ → List ℕ
sign_line message = spaced_words (codes "sign" ∷ codes "3" ∷ codes "1" ∷ hex_word message ∷ [])
