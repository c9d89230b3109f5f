use Rattle.std.proofs.Common.{ℕ, List, length, codes, ap, ◌++◌, ◌∙◌}
use Rattle.mb_tools_device.proofs.SummaryLemmas.{number_text, summed}
use Rattle.mb_tools_device.proofs.summary.summary_of.Goals as goal

pub returns : goal.returns
returns c =
    summed c.args.answered.now c.args.log_length c.count_done.result c.count_signed.result c.count_refused.result c.args.image_hash.now
    c.count_done.ensures c.count_signed.ensures c.count_refused.ensures c.told-image_hash
    (c.put_number.ensures.line ∙ ap (λ (t : List ℕ). t ++ number_text (codes "events ") (length c.args.answered.now)) c.new-text.ensures) c.put_number-2.ensures.line c.put_number-3.ensures.line c.put_number-4.ensures.line
    (c.put_number-5.ensures.line ∙ ap (λ n. c.put_number-4.new.text.items ++ number_text (codes "length ") n) c.from.ensures) c.put_hash.ensures
