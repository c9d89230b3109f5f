use Rattle.std.proofs.Common.{sym, ap, ◌∙◌, List, ◌++◌, ◌∷◌, [], length, map, take, length-append, arith}
use Rattle.std.proofs.lemmas.List.{map_more, take_all}
use Rattle.mb_model.specs.declared.region.RegionKey.{RegionKey}
use Rattle.mb_model.specs.machine.LayerEvents.{with_use}
use Rattle.mb_layout_edits.proofs.Rows.{once_more}
use Rattle.mb_layout_edits.proofs.row.used_keys.Goals as goal

pub loop-key-preserved : goal.loop-key-preserved
loop-key-preserved c =
    let list = c.args.keys.now in
    let i = c.loop-key.key-index in (
      λ fit.
          c.push.ensures ∙ ap (λ (front : List RegionKey). front ++ c.used_once.result ∷ []) (c.loop-key.invariant.0 fit)
          ∙ ap (λ (key : RegionKey). map (once_more c.args.number) (take i list) ++ key ∷ []) (c.used_once.ensures (fit i _ c.loop-key-test.true))
          ∙ sym (map_more (once_more c.args.number) list i _ c.loop-key-test.true),
      omega (arith, ap length c.push.ensures, length-append c.loop-key.used (c.used_once.result ∷ []), c.loop-key.invariant.1),
    )

pub returns : goal.returns
unfolding with_use
returns c = λ fit. c.loop-key.invariant.0 fit ∙ ap (map (once_more c.args.number)) (take_all c.loop-key.key-index c.args.keys.now c.loop-key-test.false)
