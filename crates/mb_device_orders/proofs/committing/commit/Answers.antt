use Rattle.std.proofs.Common.{inl, inr, refl, subst, sym, arith, ◌∙◌}
use Rattle.std.proofs.lemmas.Result.{err_from_is_err_and}
use Rattle.mb_model.specs.declared.stored.Root.{Root}
use Rattle.mb_area.specs.Roots.{IsOnlyRoot}
use Rattle.mb_boot.specs.Calls.{UsesTrees}
use Rattle.mb_boot.specs.Signers.{HasSigners, HoldsDeviceTree, DeviceKeySigns}
use Rattle.mb_signer.specs.Benches.{HasTree}
use Rattle.mb_device_orders.proofs.Committed.{IsCommitted, root_still, small_next, area_there, plan_is, root_allowed, live_committed, means_old, means_either, means_committed, ready_committed, spared_before, spared_after, few_sectors}
use Rattle.mb_boot.proofs.Joined.{ran_then, ok_most, err_most}
use Rattle.mb_device_orders.proofs.KeptTrees.{device_key_signs}
use Rattle.mb_device_orders.proofs.committing.commit.Goals as goal

pub overflow_sub-root : goal.overflow_sub-root
overflow_sub-root g c = small_next (g.B.Board.seen c.args.b.now).memory c.args.root.now c.args.room.now c.requires.commit

pub write_public-requires-clause-current : goal.write_public-requires-clause-current
write_public-requires-clause-current g c = area_there (g.B.Board.seen c.args.b.now).memory c.args.root.now c.args.room.now c.requires.commit

pub write_public-requires-clause-plan : goal.write_public-requires-clause-plan
write_public-requires-clause-plan g c = plan_is (g.B.Board.seen c.args.b.now).memory c.args.root.now c.args.room.now c.requires.commit

pub returns-in_err-up : goal.returns-in_err-up
returns-in_err-up g c =
    let few = few_sectors c.args.room.now (plan_is (g.B.Board.seen c.args.b.now).memory c.args.root.now c.args.room.now c.requires.commit) in
    let p = err_from_is_err_and c.from_residual.result c.from_residual.ensures.1 in
    rw p.1 (record {
      done = λ state order draw is. tt;
      counts = λ state order draw is. inl (means_old (g.B.Board.seen c.args.b.now).memory (g.B.Board.seen c.write_public.new.b).memory c.args.root.now c.args.room.now state order draw is c.write_public.ensures.contents c.write_public.ensures.ran.ran.sized);
      spared = spared_before (g.B.Board.seen c.args.b.now).memory (g.B.Board.seen c.write_public.new.b).memory (g.B.Board.seen c.write_public.new.b).memory c.args.root.now c.args.room.now c.requires.commit c.write_public.ensures.agree refl;
      ran = err_most _ 35 _ _ _ _ (omega (arith, few)) c.in_err-up.ensures.ran.ran;
      kept = λ stays. tt;
      held = λ holds. tt;
      cost = omega arith;
      again = λ has. omega arith;
    })

pub commit_root-requires-clause-allowed : goal.commit_root-requires-clause-allowed
commit_root-requires-clause-allowed g c = root_allowed (g.B.Board.seen c.args.b.now).memory c.args.root.now c.args.room.now c.requires.commit

pub returns-in_err-unsettled : goal.returns-in_err-unsettled
returns-in_err-unsettled g c =
    let few = few_sectors c.args.room.now (plan_is (g.B.Board.seen c.args.b.now).memory c.args.root.now c.args.room.now c.requires.commit) in
    let p = err_from_is_err_and c.from_residual-in_err-unsettled.result c.from_residual-in_err-unsettled.ensures.1 in
    rw p.1 (record {
      done = λ state order draw is. tt;
      counts = λ state order draw is. means_either (g.B.Board.seen c.args.b.now).memory (g.B.Board.seen c.write_public.new.b).memory (g.B.Board.seen c.commit_root.new.b).memory c.args.root.now c.args.room.now state order draw is c.requires.up.loaded
          c.write_public.ensures.contents c.write_public.ensures.ran.ran.sized (λ header holds. (c.in_ok-up.ensures.public header holds).written) c.commit_root.ensures.ran.ran.sized c.commit_root.ensures.either;
      spared = spared_before (g.B.Board.seen c.args.b.now).memory (g.B.Board.seen c.write_public.new.b).memory (g.B.Board.seen c.commit_root.new.b).memory c.args.root.now c.args.room.now c.requires.commit c.write_public.ensures.agree c.commit_root.ensures.ran.flash;
      ran = err_most _ 35 _ _ _ _ (omega (arith, few)) (ran_then _ _ _ _ _ _ _ c.in_ok-up.ensures.ran.ran c.in_err-unsettled.ensures.ran.ran);
      kept = λ stays. tt;
      held = λ holds. tt;
      cost = omega arith;
      again = λ has. omega arith;
    })

pub finish_order-requires : goal.finish_order-requires
finish_order-requires g c =
    let done : IsCommitted (g.B.Board.seen c.args.b.now).memory (g.B.Board.seen c.write_public.new.b).memory (g.B.Board.seen c.commit_root.new.b).memory c.args.root.now c.args.room.now = record {
      sized = c.requires.up.loaded;
      kept = c.write_public.ensures.contents;
      written = λ header holds. (c.in_ok-up.ensures.public header holds).written;
      commits = c.in_ok-unsettled.ensures.done;
      sized_after = c.commit_root.ensures.ran.ran.sized;
    } in
    record {
      up = record {
        on = c.in_ok-unsettled.ensures.ran.ran.power;
        at_level = c.in_ok-unsettled.ensures.ran.ran.level ∙ c.in_ok-up.ensures.ran.ran.level ∙ c.requires.up.at_level;
        loaded = c.commit_root.ensures.ran.ran.sized;
      };
      live = live_committed (g.B.Board.seen c.args.b.now).memory (g.B.Board.seen c.write_public.new.b).memory (g.B.Board.seen c.commit_root.new.b).memory c.args.root.now c.args.room.now c.requires.commit done;
      root = subst (λ (r : Root). IsOnlyRoot (g.B.Board.seen c.commit_root.new.b).memory.bbram r) (sym c.in_ok-unsettled.ensures.root)
          (c.in_ok-unsettled.ensures.only (root_still (g.B.Board.seen c.args.b.now).memory (g.B.Board.seen c.write_public.new.b).memory c.args.root.now c.args.room.now c.requires.commit c.write_public.ensures.contents));
    }

pub returns-in_err-up-2 : goal.returns-in_err-up-2
returns-in_err-up-2 g c =
    let few = few_sectors c.args.room.now (plan_is (g.B.Board.seen c.args.b.now).memory c.args.root.now c.args.room.now c.requires.commit) in
    let done : IsCommitted (g.B.Board.seen c.args.b.now).memory (g.B.Board.seen c.write_public.new.b).memory (g.B.Board.seen c.commit_root.new.b).memory c.args.root.now c.args.room.now = record {
      sized = c.requires.up.loaded;
      kept = c.write_public.ensures.contents;
      written = λ header holds. (c.in_ok-up.ensures.public header holds).written;
      commits = c.in_ok-unsettled.ensures.done;
      sized_after = c.commit_root.ensures.ran.ran.sized;
    } in
    let trees : UsesTrees (g.B.Board.seen c.commit_root.new.b).memory.flash c.args.root.now c.finish_order.result c.args.bench.now c.finish_order.new.bench c.args.hashes.now c.finish_order.new.hashes =
    subst (λ (r : Root). UsesTrees (g.B.Board.seen c.commit_root.new.b).memory.flash r c.finish_order.result c.args.bench.now c.finish_order.new.bench c.args.hashes.now c.finish_order.new.hashes) c.in_ok-unsettled.ensures.root c.finish_order.ensures.trees in
    let p = err_from_is_err_and c.from_residual-in_err-up-2.result c.from_residual-in_err-up-2.ensures.1 in
    rw p.1 (record {
      done = λ state order draw is. tt;
      counts = λ state order draw is. inr (c.finish_order.ensures.work.meaning.kept _ (means_committed (g.B.Board.seen c.args.b.now).memory (g.B.Board.seen c.write_public.new.b).memory (g.B.Board.seen c.commit_root.new.b).memory c.args.root.now c.args.room.now state order draw is done));
      spared = spared_after (g.B.Board.seen c.args.b.now).memory (g.B.Board.seen c.write_public.new.b).memory (g.B.Board.seen c.commit_root.new.b).memory (g.B.Board.seen c.finish_order.new.b).memory c.args.root.now c.args.room.now c.requires.commit done c.write_public.ensures.agree c.commit_root.ensures.ran.flash c.finish_order.ensures.work.spared;
      ran = err_most _ 35 _ _ _ _ (omega (arith, few)) (ran_then _ _ _ _ _ _ _ c.in_ok-up.ensures.ran.ran (ran_then _ _ _ _ _ _ _ c.in_ok-unsettled.ensures.ran.ran c.in_err-up-2.ensures.work.ran));
      kept = λ stays. tt;
      held = λ holds. tt;
      cost = c.finish_order.ensures.work.cost;
      again = λ has. trees.again has;
    })

pub returns : goal.returns
returns g c =
    let few = few_sectors c.args.room.now (plan_is (g.B.Board.seen c.args.b.now).memory c.args.root.now c.args.room.now c.requires.commit) in
    let done : IsCommitted (g.B.Board.seen c.args.b.now).memory (g.B.Board.seen c.write_public.new.b).memory (g.B.Board.seen c.commit_root.new.b).memory c.args.root.now c.args.room.now = record {
      sized = c.requires.up.loaded;
      kept = c.write_public.ensures.contents;
      written = λ header holds. (c.in_ok-up.ensures.public header holds).written;
      commits = c.in_ok-unsettled.ensures.done;
      sized_after = c.commit_root.ensures.ran.ran.sized;
    } in
    let on_ok = c.in_ok-up-2.ensures.trees in
    let same = c.in_ok-unsettled.ensures.root in
    let is = c.requires.commit in
    record {
      done = λ state order draw is. ready_committed (g.B.Board.seen c.args.b.now).memory (g.B.Board.seen c.write_public.new.b).memory (g.B.Board.seen c.commit_root.new.b).memory (g.B.Board.seen c.finish_order.new.b).memory c.args.root.now c.args.room.now state order draw is done c.finish_order.ensures.work.meaning c.in_ok-up-2.ensures.work.done;
      counts = λ state order draw is. inr (c.finish_order.ensures.work.meaning.kept _ (means_committed (g.B.Board.seen c.args.b.now).memory (g.B.Board.seen c.write_public.new.b).memory (g.B.Board.seen c.commit_root.new.b).memory c.args.root.now c.args.room.now state order draw is done));
      spared = spared_after (g.B.Board.seen c.args.b.now).memory (g.B.Board.seen c.write_public.new.b).memory (g.B.Board.seen c.commit_root.new.b).memory (g.B.Board.seen c.finish_order.new.b).memory c.args.root.now c.args.room.now c.requires.commit done c.write_public.ensures.agree c.commit_root.ensures.ran.flash c.finish_order.ensures.work.spared;
      ran = ok_most _ 35 _ _ _ _ (omega (arith, few)) (ran_then _ _ _ _ _ _ _ c.in_ok-up.ensures.ran.ran (ran_then _ _ _ _ _ _ _ c.in_ok-unsettled.ensures.ran.ran c.in_ok-up-2.ensures.work.ran));
      kept = λ stays.
          subst (λ (r : Root). HasTree c.finish_order.new.bench r.device) same
          (on_ok.kept (subst (λ (r : Root). DeviceKeySigns (g.B.Board.seen c.commit_root.new.b).memory.flash r) (sym same)
          (device_key_signs (g.B.Board.seen c.args.b.now).memory (g.B.Board.seen c.write_public.new.b).memory (g.B.Board.seen c.commit_root.new.b).memory c.args.root.now c.args.room.now is.state is.order is.draw is.commit done c.commit_root.ensures.ran.flash stays)));
      held = λ holds.
          subst (λ (r : Root). HasTree c.finish_order.new.bench r.device) same
          (on_ok.held (subst (λ (r : Root). HoldsDeviceTree c.args.bench.now r) (sym same) holds));
      cost = c.finish_order.ensures.work.cost;
      again = λ has. on_ok.again (subst (λ (r : Root). HasSigners c.args.bench.now r) (sym same) has);
    }
