use Rattle.std.proofs.Common.{◌++◌, ℕ, List, Vec, Global, ap, ◌∙◌}
use Rattle.mb_tools_shown.proofs.HistoryLemmas.{life_put, no_life_put}
use Rattle.mb_tools_shown.proofs.entries.put_lives.Goals as goal
use Rattle.mb_tools_shown.proofs.entries.put_lives.Goals.{in-NewKey+in_ok-life+in_ok-line+in_ok-put, in_default}

pub loop-signed-preserved : goal.loop-signed-preserved
loop-signed-preserved c =
    let log = c.args.log.now in
    let i = c.loop-signed.signed-index in
    let start = c.args.out.now.items in
    let before = c.loop-signed.out.items in
    elim c.match-signed.branch [
      | in-NewKey+in_ok-life+in_ok-line+in_ok-put w ↦
          let made = w.in-NewKey in
          life_put log i _ made.position made.number made.key_number made.layer made.kind made.key w.in_ok-life.life start before c.match-signed.out.items c.loop-signed-test.true c.requires.ruled
          made.is w.in_ok-life.ensures c.loop-signed.invariant
          (ap (λ (v : Vec ℕ Global). v.items) w.out-is ∙ w.in_ok-put.ensures ∙ ap (λ (t : List ℕ). before ++ t) (w.as_str.ensures.value ∙ w.in_ok-line.ensures))
      | in_default w ↦
          ap (λ (v : Vec ℕ Global). v.items) w.out-is
          ∙ no_life_put log i _ start before c.loop-signed-test.true w.in_default.not-NewKey c.loop-signed.invariant
    ]
