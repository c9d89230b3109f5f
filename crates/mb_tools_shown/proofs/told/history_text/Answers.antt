use Rattle.std.proofs.Common.{◌++◌, [], ℕ, List, ap, ◌∙◌}
use Rattle.std.specs.Prelude.{unwrap_or}
use Rattle.mb_model.specs.outside.Texts.{line_with_lf}
use Rattle.mb_model.specs.owners.Log.{entries_of, serial_of}
use Rattle.mb_tools_shown.specs.StateShown.{serial_shown}
use Rattle.mb_tools_shown.proofs.HistoryLemmas.{history_put}
use Rattle.mb_tools_shown.proofs.told.history_text.Goals as goal

pub returns : goal.returns
returns c =
    let told = c.args.told.now in
    let log = c.as_slice-log.result.now in
    history_put told.chain told.signer log c.put_serial.new.out.items c.put_entries.new.out.items c.put_lives.new.out.items c.put_signed.new.out.items c.as_slice-log.ensures
    (c.in_ok-put_serial.ensures ∙ ap (λ (t : List ℕ). t ++ line_with_lf (serial_shown (unwrap_or (serial_of (entries_of log)) []))) c.new-out.ensures.items)
    c.in_ok-put_entries.ensures c.in_ok-put_lives.ensures c.in_ok-put_signed.ensures
