use Rattle.mb_model_lemmas.proofs.RuleLemmas as lemmas
use Rattle.mb_model_laws.proofs.laws.orders_and_entries_agree.Goals as goal

pub returns : goal.returns
returns c = record { order = lemmas.placed_can; entry = lemmas.can_is_placed }
