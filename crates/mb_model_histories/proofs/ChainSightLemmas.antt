-- What `chain` does depends on the log alone.
use Rattle.std.proofs.Common.{◌≡◌, List, inl, inr, sym, ap, subst, ◌∙◌}
use Rattle.mb_model.specs.declared.entry.Chain.{Chain}
use Rattle.mb_model.specs.declared.entry.SignedEntry.{SignedEntry}
use Rattle.mb_model.specs.declared.state.State.{State}
use Rattle.mb_model.specs.chains.Acceptance.{IsBornOf, key_of}
use Rattle.mb_model.specs.chains.Attach.{bare_chain}
use Rattle.mb_model.specs.chains.DeviceChains.{IsChainOf}
use Rattle.mb_model.specs.owners.Log.{entries_of}
use Rattle.mb_model_commands.specs.Commands.{CommandEnds}
use Rattle.mb_model_histories.specs.SightLaws.{ChainsTellOfTheLogAlone, ChainsTellOfTheWholeLog}

chain_same : (a b : State) (chain : Chain) → a.log ≡ b.log → IsChainOf a chain → IsChainOf b chain
chain_same a b chain same is = record {
  is = is.is ∙ ap bare_chain same;
  good = λ maker born. is.good maker (subst (IsBornOf maker) (sym same) born);
  accepted = λ maker bytes n made born spelled named.
      is.accepted maker bytes n made (subst (IsBornOf maker) (sym same) born) spelled (ap (λ (log : List SignedEntry). key_of (entries_of log) n) same ∙ named);
}

pub chains_tell_of_the_log_alone : ChainsTellOfTheLogAlone
unfolding CommandEnds
chains_tell_of_the_log_alone names a b past ending same (inl (chain, is, ends)) = inl (chain, chain_same a b chain same is, ends)
chains_tell_of_the_log_alone names a b past ending same (inr wants) = inr wants

pub chains_tell_of_the_whole_log : ChainsTellOfTheWholeLog
chains_tell_of_the_whole_log a b chain first second = ap (λ (c : Chain). c.entries) (sym first.is ∙ second.is)
