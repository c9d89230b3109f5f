-- The lines of a script, one after another.
use Rattle.std.proofs.Common.{◌≡◌, ℕ, suc, ◌+◌, ◌-◌, ◌*◌, ◌<◌, ◌≤◌, List, [], ◌∷◌, ◌++◌, length, map, take, drop, get_or, refl, sym, ap, subst, ◌∙◌, arith, append_assoc, length-append}
use Rattle.std.specs.Prelude.{codes, zip, flat_map, All}
use Rattle.std.proofs.lemmas.Grind.{common_steps, flat_map-append}
use Rattle.std.proofs.lemmas.List.{append-nil, map_push, length-map, length-take, length-drop, take_more, take_all, get_or-map, take-append-le, drop-append-le}
use Rattle.mb_model.specs.declared.key.Trust.TheVariants.{Countersigned}
use Rattle.mb_model.specs.declared.order.KeyKind.TheVariants as kinds
use Rattle.mb_model.specs.declared.order.Act.{Act}
use Rattle.mb_model.specs.declared.order.Act.TheVariants as act
use Rattle.mb_model.specs.declared.order.Order.{Order}
use Rattle.mb_model.specs.declared.tools.Keyfile.{Keyfile}
use Rattle.mb_model.specs.owners.Layers.{equal_trusts}
use Rattle.mb_model.specs.signatures.Signing.{public_of}
use Rattle.mb_model.specs.machine.SignedOrders.{keyfile_after_use, signed_order}
use Rattle.mb_model.specs.outside.Texts.{line_with_lf}
use Rattle.mb_model.specs.chains.Lines.{text_of}
use Rattle.mb_model.specs.chains.OrderLines.{order_line}
use Rattle.mb_model.specs.chains.Script.{with_before}
use Rattle.mb_model_commands.specs.Workload.{RoundDraws, Draws, Plan, plan_payload, key_of_officer, first_plans, round_plan, plans, signed_plan, signed_orders, put_line, round_lines, workload_lines}
use Rattle.mb_model_lemmas.proofs.DrawLemmas.{with_before-push, length-with_before}
use Rattle.mb_generate.specs.Orders.{keyfile_after, AreOfficers, targeted, RoundFits}
use Rattle.mb_generate.specs.Drawing.{round_of}
use Rattle.mb_generate.specs.declared.draws.RoundDrawn.{RoundDrawn}
use Rattle.mb_generate.specs.Scripts.{puts_text, first_orders_text, sign_line, with_rounds, lines_before_end}
use Rattle.mb_generate.specs.declared.officers.Officers.{Officers}

-- ---- the orders before the rounds

-- the line of an order that an officer signs
abbrev pub line_by : Keyfile → Order → List ℕ
line_by k order = line_with_lf (order_line (signed_order k order))

-- what gives a layer the officer n as its owner
abbrev pub gives : Draws → ℕ → Act
gives draws n = act.Establish (public_of (key_of_officer draws n)) (equal_trusts Countersigned)

first_text : (draws : Draws) → first_orders_text draws
    ≡ line_by (keyfile_after draws [] 1) (targeted 2 1 (gives draws 2))
    ++ (line_by (keyfile_after draws [] 2) (targeted 3 2 (gives draws 3))
    ++ (line_by (keyfile_after_use (keyfile_after draws [] 1)) (targeted 2 3 (act.Emergency (plan_payload 1 draws.code_two)))
    ++ (line_by (keyfile_after_use (keyfile_after draws [] 2)) (targeted 3 4 (act.Emergency (plan_payload 1 draws.code_three)))
    ++ (line_by (keyfile_after draws [] 3) (targeted 3 5 (act.NewKey kinds.Epoch)) ++ []))))
unfolding with_before
first_text draws = refl

-- five lines were appended
five_put : (old s1 s2 s3 s4 s5 a b c d e : List ℕ) → s1 ≡ old ++ a → s2 ≡ s1 ++ b → s3 ≡ s2 ++ c → s4 ≡ s3 ++ d → s5 ≡ s4 ++ e
    → s5 ≡ old ++ (a ++ (b ++ (c ++ (d ++ (e ++ [])))))
five_put old s1 s2 s3 s4 s5 a b c d e t1 t2 t3 t4 t5 = grind (arith, common_steps, t1, t2, t3, t4, t5)

-- the orders before the rounds are written
pub first_put : (draws : Draws) (old s1 s2 s3 s4 s5 : List ℕ) (one two three once twice : Keyfile) (o1 o2 o3 o4 o5 : Order)
    → one ≡ keyfile_after draws [] 1 → two ≡ keyfile_after draws [] 2 → three ≡ keyfile_after draws [] 3 → once ≡ keyfile_after_use one → twice ≡ keyfile_after_use two
    → o1 ≡ targeted 2 1 (act.Establish (public_of two.seed) (equal_trusts Countersigned)) → o2 ≡ targeted 3 2 (act.Establish (public_of three.seed) (equal_trusts Countersigned))
    → o3 ≡ targeted 2 3 (act.Emergency (plan_payload 1 draws.code_two)) → o4 ≡ targeted 3 4 (act.Emergency (plan_payload 1 draws.code_three)) → o5 ≡ targeted 3 5 (act.NewKey kinds.Epoch)
    → s1 ≡ old ++ line_by one o1 → s2 ≡ s1 ++ line_by two o2 → s3 ≡ s2 ++ line_by once o3 → s4 ≡ s3 ++ line_by twice o4 → s5 ≡ s4 ++ line_by three o5
    → s5 ≡ old ++ first_orders_text draws
first_put draws old s1 s2 s3 s4 s5 one two three once twice o1 o2 o3 o4 o5 is_one is_two is_three is_once is_twice e1 e2 e3 e4 e5 t1 t2 t3 t4 t5 =
    let l1 : line_by one o1 ≡ line_by (keyfile_after draws [] 1) (targeted 2 1 (gives draws 2)) =
    λ i. line_by (is_one i) ((e1 ∙ ap (λ (k : Keyfile). targeted 2 1 (act.Establish (public_of k.seed) (equal_trusts Countersigned))) is_two) i) in
    let l2 : line_by two o2 ≡ line_by (keyfile_after draws [] 2) (targeted 3 2 (gives draws 3)) =
    λ i. line_by (is_two i) ((e2 ∙ ap (λ (k : Keyfile). targeted 3 2 (act.Establish (public_of k.seed) (equal_trusts Countersigned))) is_three) i) in
    let l3 : line_by once o3 ≡ line_by (keyfile_after_use (keyfile_after draws [] 1)) (targeted 2 3 (act.Emergency (plan_payload 1 draws.code_two))) =
    λ i. line_by ((is_once ∙ ap keyfile_after_use is_one) i) (e3 i) in
    let l4 : line_by twice o4 ≡ line_by (keyfile_after_use (keyfile_after draws [] 2)) (targeted 3 4 (act.Emergency (plan_payload 1 draws.code_three))) =
    λ i. line_by ((is_twice ∙ ap keyfile_after_use is_two) i) (e4 i) in
    let l5 : line_by three o5 ≡ line_by (keyfile_after draws [] 3) (targeted 3 5 (act.NewKey kinds.Epoch)) = λ i. line_by (is_three i) (e5 i) in
    five_put old s1 s2 s3 s4 s5 _ _ _ _ _ (t1 ∙ ap (λ (xs : List ℕ). old ++ xs) l1) (t2 ∙ ap (λ (xs : List ℕ). s1 ++ xs) l2) (t3 ∙ ap (λ (xs : List ℕ). s2 ++ xs) l3)
    (t4 ∙ ap (λ (xs : List ℕ). s3 ++ xs) l4) (t5 ∙ ap (λ (xs : List ℕ). s4 ++ xs) l5)
    ∙ ap (λ (xs : List ℕ). old ++ xs) (sym (first_text draws))

-- ---- the secrets of a round

pub puts_none : (n : ℕ) → puts_text n [] ≡ []
unfolding with_before
puts_none n = refl

pub puts_more : (n : ℕ) (values : List (List ℕ)) (value : List ℕ) → puts_text n (values ++ value ∷ []) ≡ puts_text n values ++ line_with_lf (put_line (n + length values) value)
puts_more n values value =
    let each : List (List ℕ) × List ℕ → List ℕ = λ at. put_line (n + length at.0) at.1 in
    ap (λ ats. text_of (map each ats)) (with_before-push values value)
    ∙ ap text_of (map_push each (with_before values) (values, value))
    ∙ flat_map-append line_with_lf (map each (with_before values)) (each (values, value) ∷ [])
    ∙ ap (λ (xs : List ℕ). puts_text n values ++ xs) (append-nil (line_with_lf (each (values, value))))

-- one secret more is written
pub secret_put : (n k number : ℕ) (values : List (List ℕ)) (value d : List ℕ) (old now new : List ℕ) → k < length values → value ≡ get_or values k d → number ≡ n + k
    → now ≡ old ++ puts_text n (take k values) → new ≡ now ++ line_with_lf (put_line number value) → new ≡ old ++ puts_text n (take (k + 1) values)
secret_put n k number values value d old now new within is counted was more =
    let before : List (List ℕ) = take k values in
    let place : number ≡ n + length before = omega (arith, counted, length-take k values, within) in
    let line : line_with_lf (put_line number value) ≡ line_with_lf (put_line (n + length before) (get_or values k d)) = λ i. line_with_lf (put_line (place i) (is i)) in
    more ∙ ap (λ (xs : List ℕ). xs ++ line_with_lf (put_line number value)) was ∙ append_assoc old (puts_text n before) (line_with_lf (put_line number value))
    ∙ ap (λ (xs : List ℕ). old ++ (puts_text n before ++ xs)) line
    ∙ ap (λ (xs : List ℕ). old ++ xs) (sym (puts_more n before (get_or values k d)) ∙ ap (puts_text n) (sym (take_more values k d within)))

-- ---- a round

round_text : (n : ℕ) (order : Order) (round : RoundDraws) → text_of (round_lines n order round)
    ≡ (codes "off" ++ 10 ∷ codes "boot" ++ 10 ∷ [])
    ++ (line_with_lf (order_line order) ++ ((codes "go" ++ 10 ∷ codes "go" ++ 10 ∷ []) ++ (puts_text (4 * n) round.values ++ (line_with_lf (sign_line round.message) ++ []))))
round_text n order round =
    ap (λ (xs : List ℕ). (codes "off" ++ 10 ∷ codes "boot" ++ 10 ∷ []) ++ (line_with_lf (order_line order) ++ ((codes "go" ++ 10 ∷ codes "go" ++ 10 ∷ []) ++ xs)))
    (flat_map-append line_with_lf (map (λ at. put_line (4 * n + length at.0) at.1) (with_before round.values)) (sign_line round.message ∷ []))

-- the lines of a round are written
pub lines_put : (n : ℕ) (order : Order) (round : RoundDraws) (old s1 s2 s3 s4 s5 : List ℕ)
    → s1 ≡ old ++ (codes "off" ++ 10 ∷ codes "boot" ++ 10 ∷ []) → s2 ≡ s1 ++ line_with_lf (order_line order) → s3 ≡ s2 ++ (codes "go" ++ 10 ∷ codes "go" ++ 10 ∷ [])
    → s4 ≡ s3 ++ puts_text (4 * n) round.values → s5 ≡ s4 ++ line_with_lf (sign_line round.message) → s5 ≡ old ++ text_of (round_lines n order round)
lines_put n order round old s1 s2 s3 s4 s5 t1 t2 t3 t4 t5 =
    five_put old s1 s2 s3 s4 s5 _ _ _ _ _ t1 t2 t3 t4 t5 ∙ ap (λ (xs : List ℕ). old ++ xs) (sym (round_text n order round))

-- ---- the rounds

abbrev planned : List RoundDraws × RoundDraws → Plan
planned at = round_plan (length at.0 + 1) at.1.code

plans_more : (draws : Draws) (rounds : List RoundDraws) (round : RoundDraws)
    → plans (with_rounds draws (rounds ++ round ∷ [])) ≡ plans (with_rounds draws rounds) ++ round_plan (length rounds + 1) round.code ∷ []
plans_more draws rounds round =
    ap (λ ats. first_plans draws ++ map planned ats) (with_before-push rounds round)
    ∙ ap (λ ps. first_plans draws ++ ps) (map_push planned (with_before rounds) (rounds, round))
    ∙ sym (append_assoc (first_plans draws) (map planned (with_before rounds)) (planned (rounds, round) ∷ []))

pub plans_long : (draws : Draws) (rounds : List RoundDraws) → length (plans (with_rounds draws rounds)) ≡ 5 + length rounds
plans_long draws rounds =
    length-append (first_plans draws) (map planned (with_before rounds))
    ∙ ap (λ n. 5 + n) (length-map (with_before rounds) planned ∙ length-with_before rounds)

abbrev signs : Draws → List Plan × Plan → Order
signs draws at = signed_plan draws at.0 at.1

orders_more : (draws : Draws) (rounds : List RoundDraws) (round : RoundDraws)
    → signed_orders (with_rounds draws (rounds ++ round ∷ []))
    ≡ signed_orders (with_rounds draws rounds) ++ signed_plan draws (plans (with_rounds draws rounds)) (round_plan (length rounds + 1) round.code) ∷ []
unfolding signed_orders
orders_more draws rounds round =
    let before : List Plan = plans (with_rounds draws rounds) in
    ap (λ ps. map (signs draws) (with_before ps)) (plans_more draws rounds round)
    ∙ ap (map (signs draws)) (with_before-push before (round_plan (length rounds + 1) round.code))
    ∙ map_push (signs draws) (with_before before) (before, round_plan (length rounds + 1) round.code)

orders_long : (draws : Draws) (rounds : List RoundDraws) → length (signed_orders (with_rounds draws rounds)) ≡ 5 + length rounds
unfolding signed_orders
orders_long draws rounds =
    length-map (with_before (plans (with_rounds draws rounds))) (signs draws) ∙ length-with_before (plans (with_rounds draws rounds)) ∙ plans_long draws rounds

zip_push : {A B : Type 0} (xs : List A) (ys : List B) (x : A) (y : B) → length xs ≡ length ys → zip (xs ++ x ∷ []) (ys ++ y ∷ []) ≡ zip xs ys ++ (x, y) ∷ []
zip_push [] [] x y same = refl
zip_push [] (b ∷ ys) x y same = absurd (omega (arith, same))
zip_push (a ∷ xs) [] x y same = absurd (omega (arith, same))
zip_push (a ∷ xs) (b ∷ ys) x y same = ap (λ ps. (a, b) ∷ ps) (zip_push xs ys x y (omega (arith, same)))

zip_long : {A B : Type 0} (xs : List A) (ys : List B) → length xs ≡ length ys → length (zip xs ys) ≡ length ys
zip_long [] [] same = refl
zip_long [] (b ∷ ys) same = absurd (omega (arith, same))
zip_long (a ∷ xs) [] same = absurd (omega (arith, same))
zip_long (a ∷ xs) (b ∷ ys) same = ap suc (zip_long xs ys (omega (arith, same)))

abbrev lines_at : List (Order × RoundDraws) × (Order × RoundDraws) → List (List ℕ)
lines_at at = round_lines (length at.0) at.1.0 at.1.1

pub lines_more : (draws : Draws) (rounds : List RoundDraws) (round : RoundDraws)
    → lines_before_end (with_rounds draws (rounds ++ round ∷ []))
    ≡ lines_before_end (with_rounds draws rounds)
    ++ round_lines (length rounds) (signed_plan draws (plans (with_rounds draws rounds)) (round_plan (length rounds + 1) round.code)) round
unfolding lines_before_end
lines_more draws rounds round =
    let orders : List Order = signed_orders (with_rounds draws rounds) in
    let order : Order = signed_plan draws (plans (with_rounds draws rounds)) (round_plan (length rounds + 1) round.code) in
    let long = orders_long draws rounds in
    let left : length (drop 5 orders) ≡ length rounds = omega (arith, length-drop 5 orders, long) in
    let pairs : List (Order × RoundDraws) = zip (drop 5 orders) rounds in
    let first : take 5 (signed_orders (with_rounds draws (rounds ++ round ∷ []))) ≡ take 5 orders =
    ap (take 5) (orders_more draws rounds round) ∙ take-append-le 5 orders (order ∷ []) (omega (arith, long)) in
    let others : zip (drop 5 (signed_orders (with_rounds draws (rounds ++ round ∷ [])))) (rounds ++ round ∷ []) ≡ pairs ++ (order, round) ∷ [] =
    ap (λ os. zip (drop 5 os) (rounds ++ round ∷ [])) (orders_more draws rounds round)
    ∙ ap (λ os. zip os (rounds ++ round ∷ [])) (drop-append-le 5 orders (order ∷ []) (omega (arith, long)))
    ∙ zip_push (drop 5 orders) rounds order round left in
    let last : flat_map lines_at (with_before (pairs ++ (order, round) ∷ [])) ≡ flat_map lines_at (with_before pairs) ++ round_lines (length rounds) order round =
    ap (flat_map lines_at) (with_before-push pairs (order, round))
    ∙ flat_map-append lines_at (with_before pairs) ((pairs, (order, round)) ∷ [])
    ∙ ap (λ ls. flat_map lines_at (with_before pairs) ++ ls) (append-nil (round_lines (length pairs) order round))
    ∙ ap (λ n. flat_map lines_at (with_before pairs) ++ round_lines n order round) (zip_long (drop 5 orders) rounds left) in
    (λ i. codes "boot" ∷ map order_line (first i) ++ flat_map lines_at (with_before (others i)))
    ∙ ap (λ ls. codes "boot" ∷ map order_line (take 5 orders) ++ ls) last
    ∙ sym (append_assoc (codes "boot" ∷ map order_line (take 5 orders)) (flat_map lines_at (with_before pairs)) (round_lines (length rounds) order round))

pub text_begins : (draws : Draws) → text_of (lines_before_end (with_rounds draws [])) ≡ codes "boot" ++ 10 ∷ first_orders_text draws
unfolding with_before signed_orders lines_before_end
text_begins draws = refl

-- one round more is written
pub round_put : (draws : Draws) (rounds : List RoundDraws) (round : RoundDraws) (old new : List ℕ) → old ≡ text_of (lines_before_end (with_rounds draws rounds))
    → new ≡ old ++ text_of (round_lines (length rounds) (signed_plan draws (plans (with_rounds draws rounds)) (round_plan (length rounds + 1) round.code)) round)
    → new ≡ text_of (lines_before_end (with_rounds draws (rounds ++ round ∷ [])))
round_put draws rounds round old new was more =
    let lines = round_lines (length rounds) (signed_plan draws (plans (with_rounds draws rounds)) (round_plan (length rounds + 1) round.code)) round in
    more ∙ ap (λ (xs : List ℕ). xs ++ text_of lines) was
    ∙ sym (flat_map-append line_with_lf (lines_before_end (with_rounds draws rounds)) lines)
    ∙ ap text_of (sym (lines_more draws rounds round))

-- and with the last line it is the whole script
pub text_ends : (draws : Draws) → text_of (workload_lines draws) ≡ text_of (lines_before_end draws) ++ line_with_lf (codes "off")
unfolding workload_lines lines_before_end
text_ends draws =
    flat_map-append line_with_lf (lines_before_end draws) (codes "off" ∷ []) ∙ ap (λ (xs : List ℕ). text_of (lines_before_end draws) ++ xs) (append-nil (line_with_lf (codes "off")))

pub officers_more : (draws : Draws) (rounds : List RoundDraws) (round : RoundDraws) (officers : Officers)
    → AreOfficers draws (plans (with_rounds draws rounds) ++ round_plan (length rounds + 1) round.code ∷ []) officers
    → AreOfficers draws (plans (with_rounds draws (rounds ++ round ∷ []))) officers
officers_more draws rounds round officers are = subst (λ (ps : List Plan). AreOfficers draws ps officers) (sym (plans_more draws rounds round)) are

-- ---- a loop over the rounds

pub officers_first : (draws : Draws) (officers : Officers) → AreOfficers draws (first_plans draws) officers → AreOfficers draws (plans (with_rounds draws [])) officers
unfolding with_before
officers_first draws officers are = are

-- the first k rounds
abbrev pub first_rounds : ℕ → List RoundDrawn → List RoundDraws
first_rounds k drawn = map round_of (take k drawn)

rounds_long : (k : ℕ) (drawn : List RoundDrawn) → k ≤ length drawn → length (first_rounds k drawn) ≡ k
rounds_long k drawn most = length-map (take k drawn) round_of ∙ omega (arith, length-take k drawn, most)

-- how many orders there were before a round
pub orders_before : (draws : Draws) (k number : ℕ) (drawn : List RoundDrawn) → k ≤ length drawn → number ≡ k + 1 → 5 + number ≡ length (plans (with_rounds draws (first_rounds k drawn))) + 1
orders_before draws k number drawn most is = omega (arith, plans_long draws (first_rounds k drawn), rounds_long k drawn most, is)

one_longer : (k : ℕ) (drawn : List RoundDrawn) (round : RoundDrawn) → k < length drawn → round ≡ get_or drawn k round → first_rounds (k + 1) drawn ≡ first_rounds k drawn ++ round_of round ∷ []
one_longer k drawn round within is =
    ap (map round_of) (take_more drawn k round within ∙ ap (λ (x : RoundDrawn). take k drawn ++ x ∷ []) (sym is)) ∙ map_push round_of (take k drawn) round

pub text_goes_on : (draws : Draws) (k number : ℕ) (drawn : List RoundDrawn) (round : RoundDrawn) (old new : List ℕ) → k < length drawn → round ≡ get_or drawn k round → number ≡ k + 1
    → old ≡ text_of (lines_before_end (with_rounds draws (first_rounds k drawn)))
    → new ≡ old ++ text_of (round_lines (number - 1) (signed_plan draws (plans (with_rounds draws (first_rounds k drawn))) (round_plan number round.code)) (round_of round))
    → new ≡ text_of (lines_before_end (with_rounds draws (first_rounds (k + 1) drawn)))
text_goes_on draws k number drawn round old new within is counted was more =
    let rounds : List RoundDraws = first_rounds k drawn in
    let before : List Plan = plans (with_rounds draws rounds) in
    let long = rounds_long k drawn (omega (arith, within)) in
    let place : number ≡ length rounds + 1 = omega (arith, long, counted) in
    let less : number - 1 ≡ length rounds = omega (arith, long, counted) in
    round_put draws rounds (round_of round) old new was (more ∙ (λ i. old ++ text_of (round_lines (less i) (signed_plan draws before (round_plan (place i) round.code)) (round_of round))))
    ∙ ap (λ (rs : List RoundDraws). text_of (lines_before_end (with_rounds draws rs))) (sym (one_longer k drawn round within is))

pub officers_go_on : (draws : Draws) (k number : ℕ) (drawn : List RoundDrawn) (round : RoundDrawn) (officers : Officers) → k < length drawn → round ≡ get_or drawn k round → number ≡ k + 1
    → AreOfficers draws (plans (with_rounds draws (first_rounds k drawn)) ++ round_plan number round.code ∷ []) officers
    → AreOfficers draws (plans (with_rounds draws (first_rounds (k + 1) drawn))) officers
officers_go_on draws k number drawn round officers within is counted are =
    let rounds : List RoundDraws = first_rounds k drawn in
    let place : number ≡ length rounds + 1 = omega (arith, rounds_long k drawn (omega (arith, within)), counted) in
    subst (λ (rs : List RoundDraws). AreOfficers draws (plans (with_rounds draws rs)) officers) (sym (one_longer k drawn round within is))
    (officers_more draws rounds (round_of round) officers
    (subst (λ (n : ℕ). AreOfficers draws (plans (with_rounds draws rounds) ++ round_plan n round.code ∷ []) officers) place are))

pub round_fits : (k : ℕ) (drawn : List RoundDrawn) (round : RoundDrawn) → k < length drawn → round ≡ get_or drawn k round → All RoundFits (map round_of drawn) → RoundFits (round_of round)
round_fits k drawn round within is fit =
    subst (λ (x : RoundDraws). RoundFits x) (get_or-map round_of drawn k round (round_of round) within ∙ ap round_of (sym is)) (fit k (round_of round) (omega (arith, length-map drawn round_of, within)))

-- all rounds were written
pub text_is_whole : (draws : Draws) (k : ℕ) (drawn : List RoundDrawn) (old new : List ℕ) → length drawn ≤ k → draws.rounds ≡ map round_of drawn
    → old ≡ text_of (lines_before_end (with_rounds draws (first_rounds k drawn))) → new ≡ old ++ line_with_lf (codes "off") → new ≡ text_of (workload_lines draws)
text_is_whole draws k drawn old new most rounds was more =
    let all : first_rounds k drawn ≡ draws.rounds = ap (map round_of) (take_all k drawn most) ∙ sym rounds in
    more ∙ ap (λ (xs : List ℕ). xs ++ line_with_lf (codes "off")) (was ∙ ap (λ (rs : List RoundDraws). text_of (lines_before_end (with_rounds draws rs))) all)
    ∙ sym (text_ends draws)
