use Rattle.std.proofs.Common.{◌++◌, [], ◌∷◌, ℕ, List, sym, ap, ◌∙◌}
use Rattle.std.proofs.lemmas.Result.{on_ok_weaker}
use Rattle.mb_tools_shown.specs.HistoryShown.{change_line, entry_lines}
use Rattle.mb_tools_shown.specs.LayersShown.{layers_shown}
use Rattle.mb_model.specs.declared.entry.Entry.{Entry}
use Rattle.mb_model.specs.chains.Lines.{text_of}
use Rattle.mb_tools_shown.proofs.TextLemmas.{one_line, more_lines}
use Rattle.mb_tools_shown.proofs.entries.put_entry.Goals as goal

pub returns-in_ok-put-in-Change : goal.returns-in_ok-put-in-Change
returns-in_ok-put-in-Change c =
    let own = c.in-Change in
    let out = c.args.out.now.items in
    let mid = c.put-in-Change.new.out.items in
    let line = change_line own.position own.kind own.layer own.number own.cosigned own.kept in
    let first = c.in_ok-put-in-Change.ensures ∙ ap (λ (t : List ℕ). out ++ t) (c.as_str.ensures.value ∙ c.in_ok-line-in-Change.ensures) in
    on_ok_weaker c.put_layers-in-Change.result
    (λ layers. more_lines out mid c.put_layers-in-Change.new.out.items (line ∷ []) (layers_shown own.layers) (one_line out mid line first) layers
    ∙ ap (λ (e : Entry). out ++ text_of (entry_lines e)) (sym own.is))
    c.put_layers-in-Change.ensures
