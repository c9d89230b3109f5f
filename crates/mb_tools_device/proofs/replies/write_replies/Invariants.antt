use Rattle.std.proofs.Common.{◌≡◌, take}
use Rattle.mb_model.specs.chains.Replies.{replies_text}
use Rattle.mb_tools_device.proofs.replies.write_replies.Given as goal

abbrev pub invariant-loop-one : goal.invariant-loop-one
invariant-loop-one l = l.text.items ≡ replies_text (take l.one-index l.answered)
