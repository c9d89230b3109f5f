use Rattle.std.proofs.Common.{◌≡◌, ◌+◌, ◌<◌, ◌≤◌, ℕ, List, [], ◌∷◌, ◌++◌, length, get_or, sym, ap, subst, ◌∙◌, refl, arith}
use Rattle.mb_model_commands.specs.Workload.{Draws, Plan, plans}
use Rattle.mb_generate.specs.declared.draws.RoundDrawn.{RoundDrawn}
use Rattle.mb_generate.specs.Drawing.{draws_of}
use Rattle.mb_generate.specs.Orders.{HaveUsed}
use Rattle.mb_generate.specs.Scripts.{first_orders_text, with_rounds}
use Rattle.mb_generate.proofs.Scripting.{text_begins, officers_first, first_rounds, orders_before, text_goes_on, officers_go_on, round_fits, text_is_whole}
use Rattle.mb_generate.proofs.script.script_of.Goals as goal

pub loop-round-init : goal.loop-round-init
loop-round-init g c = record {
  number = omega arith;
  text =
      c.in_ok-put_first_orders.ensures.text
      ∙ ap (λ (xs : List ℕ). xs ++ first_orders_text (draws_of c.args.drawn.now)) (c.in_ok-extend_from_slice.ensures.items ∙ ap (λ (xs : List ℕ). xs ++ 98 ∷ 111 ∷ 111 ∷ 116 ∷ 10 ∷ []) c.new-script.ensures.items)
      ∙ sym (text_begins (draws_of c.args.drawn.now));
  officers = officers_first (draws_of c.args.drawn.now) c.put_first_orders.new.officers c.in_ok-put_first_orders.ensures.officers;
  used = c.in_ok-put_first_orders.ensures.used;
  cost = omega (arith, c.in_ok-put_first_orders.ensures.cost);
}

pub put_round-requires-clause-least : goal.put_round-requires-clause-least
put_round-requires-clause-least g c = omega (arith, c.loop-round.invariant.number)

pub put_round-requires-clause-most : goal.put_round-requires-clause-most
put_round-requires-clause-most g c =
    let within : c.loop-round.round-index < length c.args.drawn.now.rounds = subst (λ (xs : List RoundDrawn). c.loop-round.round-index < length xs) c.as_slice-round-items.ensures c.loop-round-test.true in
    omega (arith, c.loop-round.invariant.number, within, c.requires.rounds)

pub put_round-requires-clause-fits : goal.put_round-requires-clause-fits
put_round-requires-clause-fits g c =
    let within : c.loop-round.round-index < length c.args.drawn.now.rounds = subst (λ (xs : List RoundDrawn). c.loop-round.round-index < length xs) c.as_slice-round-items.ensures c.loop-round-test.true in
    (round_fits c.loop-round.round-index c.args.drawn.now.rounds c.round-item.result within
    (subst (λ (xs : List RoundDrawn). c.round-item.result ≡ get_or xs c.loop-round.round-index c.round-item.result) c.as_slice-round-items.ensures c.round-item.is) c.requires.fit.rounds).code

pub put_round-requires-clause-used : goal.put_round-requires-clause-used
put_round-requires-clause-used g c =
    let same : 6 + c.loop-round.round-index ≡ 5 + c.loop-round.number = omega (arith, c.loop-round.invariant.number) in
    subst (λ (n : ℕ). HaveUsed n c.loop-round.officers) same c.loop-round.invariant.used

pub put_round-requires-clause-values : goal.put_round-requires-clause-values
put_round-requires-clause-values g c =
    let within : c.loop-round.round-index < length c.args.drawn.now.rounds = subst (λ (xs : List RoundDrawn). c.loop-round.round-index < length xs) c.as_slice-round-items.ensures c.loop-round-test.true in
    (round_fits c.loop-round.round-index c.args.drawn.now.rounds c.round-item.result within
    (subst (λ (xs : List RoundDrawn). c.round-item.result ≡ get_or xs c.loop-round.round-index c.round-item.result) c.as_slice-round-items.ensures c.round-item.is) c.requires.fit.rounds).values

pub loop-round-preserved : goal.loop-round-preserved
loop-round-preserved g c =
    let draws : Draws = draws_of c.args.drawn.now in
    let rounds : List RoundDrawn = c.args.drawn.now.rounds in
    let k : ℕ = c.loop-round.round-index in
    let within : k < length rounds = subst (λ (xs : List RoundDrawn). k < length xs) c.as_slice-round-items.ensures c.loop-round-test.true in
    let is : c.round-item.result ≡ get_or rounds k c.round-item.result =
    subst (λ (xs : List RoundDrawn). c.round-item.result ≡ get_or xs k c.round-item.result) c.as_slice-round-items.ensures c.round-item.is in
    let before : List Plan = plans (with_rounds draws (first_rounds k rounds)) in
    let counted : 5 + c.loop-round.number ≡ length before + 1 = orders_before draws k c.loop-round.number rounds (omega (arith, within)) c.loop-round.invariant.number in
    let same : 6 + c.loop-round.number ≡ 6 + (k + 1) = omega (arith, c.loop-round.invariant.number) in
    record {
      number = omega (arith, c.loop-round.invariant.number);
      text =
          text_goes_on draws k c.loop-round.number rounds c.round-item.result c.loop-round.script.items c.put_round.new.script.items within is c.loop-round.invariant.number
          c.loop-round.invariant.text (c.in_ok-put_round.ensures.text draws before c.loop-round.invariant.officers counted);
      officers =
          officers_go_on draws k c.loop-round.number rounds c.round-item.result c.put_round.new.officers within is c.loop-round.invariant.number
          (c.in_ok-put_round.ensures.officers draws before c.loop-round.invariant.officers counted);
      used = subst (λ (n : ℕ). HaveUsed n c.put_round.new.officers) same c.in_ok-put_round.ensures.used;
      cost = omega (arith, c.in_ok-put_round.ensures.cost, c.loop-round.invariant.cost);
    }

pub returns-clause-text : goal.returns-clause-text
returns-clause-text g c =
    let most : length c.args.drawn.now.rounds ≤ c.loop-round.round-index = subst (λ (xs : List RoundDrawn). length xs ≤ c.loop-round.round-index) c.as_slice-round-items.ensures c.loop-round-test.false in
    text_is_whole (draws_of c.args.drawn.now) c.loop-round.round-index c.args.drawn.now.rounds c.loop-round.script.items c.extend_from_slice-2.new.self.items most refl
    c.loop-round.invariant.text c.in_ok-extend_from_slice-2.ensures.items

pub returns-clause-cost : goal.returns-clause-cost
returns-clause-cost g c =
    let most : c.loop-round.round-index ≤ length c.args.drawn.now.rounds = subst (λ (xs : List RoundDrawn). c.loop-round.round-index ≤ length xs) c.as_slice-round-items.ensures c.loop-round.auto.round-index-end in
    omega (arith, most, c.loop-round.invariant.cost)
