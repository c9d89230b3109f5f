use Rattle.std.proofs.Common.{inl, refl, arith}
use Rattle.std.proofs.lemmas.Result.{err_from_is_err_and}
use Rattle.mb_device_orders.proofs.Judgement.{none_step, refused_step}
use Rattle.mb_device_orders.proofs.KeptTrees.{failing_undone, reading_undone}
use Rattle.mb_device_orders.proofs.judging.judge_text.Goals as goal

pub returns-in_err-order : goal.returns-in_err-order
returns-in_err-order g c =
    let p = err_from_is_err_and c.from_residual.result c.from_residual.ensures.1 in
    rw (p.1, p.2) (record {
      judged = λ state ready knows. none_step state c.args.text.now c.args.draw.now _ c.in_err-order.ensures;
      undone = reading_undone c.args.text.now _ c.in_err-order.ensures;
      root = tt;
      at_hand = tt;
      room = λ bare. inl bare.0;
      stays = refl;
      cost = omega arith;
      keys = tt;
      unhashed = refl;
    })

pub returns-in_err-check_text : goal.returns-in_err-check_text
returns-in_err-check_text g c =
    let p = err_from_is_err_and c.from_residual-in_err-check_text.result c.from_residual-in_err-check_text.ensures.1 in
    rw (p.1, p.2) (record {
      judged = λ state ready knows.
          refused_step state c.view_now-view.result c.args.text.now c.args.draw.now c.in_ok-order.order _ (c.view_now-view.ensures.view state ready knows) c.in_ok-order.ensures c.in_err-check_text.ensures;
      undone = failing_undone _ _ _ c.in_err-check_text.ensures;
      root = tt;
      at_hand = tt;
      room = λ bare. inl bare.0;
      stays = refl;
      cost = omega arith;
      keys = tt;
      unhashed = refl;
    })
