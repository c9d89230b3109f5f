use Rattle.std.proofs.Common.{◌∙◌, ◌++◌, ℕ, List, ap}
use Rattle.std.proofs.lemmas.Result.{on_ok_weaker}
use Rattle.mb_model.specs.declared.entry.SignedEntry.{SignedEntry}
use Rattle.mb_model.specs.outside.Texts.{line_with_lf}
use Rattle.mb_tools_shown.specs.StateShown.{number_shown, length_shown}
use Rattle.mb_tools_shown.proofs.StateLemmas.{counts_put}
use Rattle.mb_tools_shown.proofs.state.put_counts.Goals as goal

pub returns : goal.returns
returns c =
    let out = c.args.out.now.items in
    let one = c.put.new.out.items in
    let two = c.put-2.new.out.items in
    let three = c.put-3.new.out.items in
    let four = c.put-4.new.out.items in
    let serial = c.in_ok-put.ensures ∙ ap (λ (t : List ℕ). out ++ t) (c.as_str.ensures.value ∙ c.in_ok-serial.ensures) in
    let number = c.in_ok-put-2.ensures ∙ ap (λ (t : List ℕ). one ++ t) (c.as_str-2.ensures.value ∙ c.in_ok-number.ensures ∙ ap (λ (l : List SignedEntry). line_with_lf (number_shown l)) c.as_slice-log.ensures) in
    let length = c.in_ok-put-3.ensures ∙ ap (λ (t : List ℕ). two ++ t) (c.as_str-3.ensures.value ∙ c.in_ok-length.ensures ∙ ap (λ (l : List SignedEntry). line_with_lf (length_shown l)) c.as_slice-log.ensures) in
    let pending = c.in_ok-put-4.ensures ∙ ap (λ (t : List ℕ). three ++ t) c.pending_line.ensures in
    on_ok_weaker c.put-5.result
    (λ last. counts_put c.args.pending c.args.state.now out one two three four c.put-5.new.out.items serial number length pending
    (last ∙ ap (λ (t : List ℕ). four ++ t) (c.as_str-4.ensures.value ∙ c.in_ok-device.ensures))) c.put-5.ensures
