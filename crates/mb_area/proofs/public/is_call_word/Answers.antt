use Rattle.std.proofs.Common.{◌∙◌, List, ℕ, ap}
use Rattle.mb_format.specs.Combinators.{same_bytes}
use Rattle.mb_area.proofs.Published.{same_is}
use Rattle.mb_area.proofs.public.is_call_word.Goals as goal

pub returns : goal.returns
returns c = c.eq.ensures ∙ same_is c.args.bytes.now c.as_slice.result.now ∙ ap (λ (xs : List ℕ). same_bytes c.args.bytes.now xs) c.as_slice.ensures
