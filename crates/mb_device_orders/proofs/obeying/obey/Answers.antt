use Rattle.std.proofs.lemmas.Result.{err_from_is_err_and}
use Rattle.std.proofs.Common.{None, inl, refl, sym, subst, ◌-◌, arith}
use Rattle.std.specs.Prelude.{IfSome, IsSome}
use Rattle.std.specs.Box.{with_value}
use Rattle.mb_device_orders.specs.declared.remembering.Known.{Known}
use Rattle.mb_device_orders.specs.declared.remembering.Trees.{Trees}
use Rattle.mb_device_orders.specs.Remembering.{Knows}
use Rattle.mb_signer.specs.Tree.{IsTreeOf}
use Rattle.mb_device_orders.proofs.Planned.{knows_next, device_committed}
use Rattle.mb_device_orders.proofs.Remembered.{device_in_force, knows_code}
use Rattle.mb_device_orders.proofs.Answered.{has_commit, answered_before, answered_done, order_cut}
use Rattle.mb_boot.proofs.Joined.{ok_most, err_most}
use Rattle.mb_device_orders.proofs.KeptTrees.{commits_plan, keys_planned, signers_there, device_tree_kept}
use Rattle.mb_device_orders.proofs.obeying.obey.Goals as goal

pub returns-in-Err : goal.returns-in-Err
returns-in-Err g c =
    answered_before c.args.running.now.known c.judge_text.new.running.known c.args.text.now c.args.draw.now c.args.up c.in-Err.reply (g.B.Board.seen c.args.b.now) c.args.hashes.now c.judge_text.new.hashes
    c.requires.up c.judge_text.ensures.stays c.in-Err.ensures.undone c.in-Err.ensures.judged c.judge_text.ensures.cost (λ state keys ready knows makes. omega (arith, c.in-Err.ensures.unhashed))

pub returns-in-Err-plan_commit : goal.returns-in-Err-plan_commit
returns-in-Err-plan_commit g c =
    answered_before c.args.running.now.known c.judge_text.new.running.known c.args.text.now c.args.draw.now c.args.up _ (g.B.Board.seen c.args.b.now) c.args.hashes.now c.judge_text.new.hashes
    c.requires.up c.judge_text.ensures.stays refl (λ state ready knows. inl refl) c.judge_text.ensures.cost
    (λ state keys ready knows makes.
    let counted = keys_planned state c.args.text.now c.args.draw.now c.in-Ok.judged keys (c.in-Ok.ensures.judged state ready knows) makes in
    omega (arith, c.in-Ok.ensures.keys, counted))

pub lend-requires : goal.lend-requires
lend-requires g c =
    subst (λ (k : Known). IfSome k.trees.value.device (IsTreeOf c.in-Ok.judged.root.device)) (sym c.judge_text.ensures.stays)
    (device_in_force (g.B.Board.seen c.args.b.now).memory c.in-Ok.judged.root c.args.running.now.known c.requires.remembered c.in-Ok.ensures.root)

pub commit-requires-clause-commit : goal.commit-requires-clause-commit
commit-requires-clause-commit g c =
    has_commit c.args.running.now.known (g.B.Board.seen c.args.b.now).memory c.args.text.now c.args.draw.now c.in-Ok.judged c.in-Ok-plan_commit.planned.root c.plan_commit.new.room c.requires.remembered c.in-Ok.ensures.judged
    c.in-Ok-plan_commit.ensures.commit

pub note_header-noted-requires-clause-ready : goal.note_header-noted-requires-clause-ready
note_header-noted-requires-clause-ready g c =
    let is = c.requires.remembered in
    let passed = c.in-Ok.ensures.judged is.state is.ready is.knows in
    let commit = c.in-Ok-plan_commit.ensures.commit is.state c.args.text.now c.args.draw.now is.ready passed in
    record { state = _; ready = c.in_ok-up.ensures.done is.state c.in-Ok.judged.order c.args.draw.now commit }

pub returns-in_err-up : goal.returns-in_err-up
returns-in_err-up g c =
    let p = err_from_is_err_and c.from_residual.result c.from_residual.ensures.1 in
    rw p.1 (record {
      told = λ state ready knows codes.
          let still : Knows c.judge_text.new.running.known state = subst (λ (k : Known). Knows k state) (sym c.judge_text.ensures.stays) knows in
          let passed = c.in-Ok.ensures.judged state ready knows in
          let commit = c.in-Ok-plan_commit.ensures.commit state c.args.text.now c.args.draw.now ready passed in
          order_cut (g.B.Board.seen c.commit.new.b).memory state c.args.text.now c.args.draw.now c.in-Ok.judged c.in-Ok-plan_commit.planned.figures passed
          (c.in-Ok-plan_commit.ensures.figures state c.args.text.now c.args.draw.now ready still passed) (c.commit.ensures.counts state c.in-Ok.judged.order c.args.draw.now commit);
      stays = tt;
      keeps = tt;
      writes = tt;
      spared = c.commit.ensures.spared;
      ran = err_most 35 35 _ _ _ _ (omega arith) c.in_err-up.ensures.ran;
      cost = omega (arith, c.judge_text.ensures.cost, c.commit.ensures.cost);
      again = λ state keys ready knows some makes.
          let passed = c.in-Ok.ensures.judged state ready knows in
          let commit = c.in-Ok-plan_commit.ensures.commit state c.args.text.now c.args.draw.now ready passed in
          let plan = commits_plan (g.B.Board.seen c.args.b.now).memory state c.args.text.now c.args.draw.now c.in-Ok.judged c.in-Ok-plan_commit.planned.root c.plan_commit.new.room ready c.in-Ok.ensures.root passed commit in
          let room = c.judge_text.ensures.room c.new-bench.ensures in
          let has = signers_there c.in-Ok.judged c.in-Ok-plan_commit.planned.root c.lend.new.bench plan (c.lend.ensures.lent (subst (λ (k : Known). IsSome k.trees.value.device) (sym c.judge_text.ensures.stays) some)) (λ out. c.lend.ensures.beside room _ (c.in-Ok.ensures.at_hand out)) in
          let counted = keys_planned state c.args.text.now c.args.draw.now c.in-Ok.judged keys passed makes in
          omega (arith, c.in-Ok.ensures.keys, counted, c.commit.ensures.again has);
    })

pub returns : goal.returns
returns g c =
    let trees : Trees = record { device = c.take.result; region = None } in
    let known : Known = record {
      serial = c.lend.new.self.serial;
      figures = c.in-Ok-plan_commit.planned.figures;
      two = c.note_header-noted.result.two;
      three = c.note_header-noted.result.three;
      trees = with_value c.lend.new.self.trees trees;
    } in
    record {
      told = λ state ready knows codes.
          let still : Knows c.judge_text.new.running.known state = subst (λ (k : Known). Knows k state) (sym c.judge_text.ensures.stays) knows in
          let passed = c.in-Ok.ensures.judged state ready knows in
          let commit = c.in-Ok-plan_commit.ensures.commit state c.args.text.now c.args.draw.now ready passed in
          let figures = c.in-Ok-plan_commit.ensures.figures state c.args.text.now c.args.draw.now ready still passed in
          let ready_after = c.in_ok-up.ensures.done state c.in-Ok.judged.order c.args.draw.now commit in
          answered_done (g.B.Board.seen c.args.b.now).memory (g.B.Board.seen c.commit.new.b).memory state c.args.text.now c.args.draw.now c.in-Ok.judged known passed ready_after
          (knows_next state c.in-Ok.judged.order c.args.draw.now c.judge_text.new.running.known known still c.lend.ensures.serial figures refl
          (device_committed c.in-Ok-plan_commit.planned.root state c.in-Ok.judged.order c.args.draw.now (1 - commit.area) c.take.result commit.root_is c.take.ensures.tree))
          (knows_code c.note_header-noted.result known (g.B.Board.seen c.commit.new.b).memory.flash _ refl refl (c.note_header-noted.ensures _ ready_after));
      stays = λ undone. absurd (cc);
      keeps = λ done.
          let is = c.requires.remembered in
          let passed = c.in-Ok.ensures.judged is.state is.ready is.knows in
          let commit = c.in-Ok-plan_commit.ensures.commit is.state c.args.text.now c.args.draw.now is.ready passed in
          let plan = commits_plan (g.B.Board.seen c.args.b.now).memory is.state c.args.text.now c.args.draw.now c.in-Ok.judged c.in-Ok-plan_commit.planned.root c.plan_commit.new.room is.ready c.in-Ok.ensures.root passed commit in
          let room = c.judge_text.ensures.room c.new-bench.ensures in
          c.take.ensures.found (device_tree_kept c.in-Ok.judged c.in-Ok-plan_commit.planned.root c.lend.new.bench c.commit.new.bench plan (c.lend.ensures.room room)
          (λ some. c.lend.ensures.beside room _ (c.in-Ok.ensures.at_hand some)) c.in_ok-up.ensures.kept c.in_ok-up.ensures.held);
      writes = λ uncut. absurd (cc);
      spared = c.commit.ensures.spared;
      ran = ok_most 35 35 _ _ _ _ (omega arith) c.in_ok-up.ensures.ran;
      cost = omega (arith, c.judge_text.ensures.cost, c.commit.ensures.cost);
      again = λ state keys ready knows some makes.
          let passed = c.in-Ok.ensures.judged state ready knows in
          let commit = c.in-Ok-plan_commit.ensures.commit state c.args.text.now c.args.draw.now ready passed in
          let plan = commits_plan (g.B.Board.seen c.args.b.now).memory state c.args.text.now c.args.draw.now c.in-Ok.judged c.in-Ok-plan_commit.planned.root c.plan_commit.new.room ready c.in-Ok.ensures.root passed commit in
          let room = c.judge_text.ensures.room c.new-bench.ensures in
          let has = signers_there c.in-Ok.judged c.in-Ok-plan_commit.planned.root c.lend.new.bench plan (c.lend.ensures.lent (subst (λ (k : Known). IsSome k.trees.value.device) (sym c.judge_text.ensures.stays) some)) (λ out. c.lend.ensures.beside room _ (c.in-Ok.ensures.at_hand out)) in
          let counted = keys_planned state c.args.text.now c.args.draw.now c.in-Ok.judged keys passed makes in
          omega (arith, c.in-Ok.ensures.keys, counted, c.commit.ensures.again has);
    }
